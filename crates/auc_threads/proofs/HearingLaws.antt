-- The prices that a person shard takes, letter by letter.
use Rattle.std.proofs.Common.{◌≡◌, ℕ, ◌<◌, List, [], ◌∷◌, ◌++◌, length, get_or, set, refl, ap, sym, ◌∙◌, subst, inl, inr, append_assoc, arith}
use Rattle.std.specs.Prelude.{ℤ, pos, ◌<ℤ◌, ◌⊎◌, Ok, Err}
use Rattle.std.proofs.lemmas.Bool.{cases_eq}
use Rattle.std.proofs.lemmas.Int.{ints}
use Rattle.std.proofs.lemmas.List.{get_or-set_same, get_or-set_other}
use Rattle.std.proofs.lemmas.List.Elements.{Contains-append_left, Contains-append_right, Contains-push}
use Rattle.auc_letters.specs.declared.letter.Letter.{Letter}
use Rattle.auc_letters.specs.declared.letter.Why.{Why}
use Rattle.auc_persons.specs.declared.bidding.PersonFault.{PersonFault}
use Rattle.auc_persons.specs.Persons.{OnLetter, Persons, NeverFall, copy_of}
use Rattle.auc_persons.proofs.Rise.{rises_same}
use Rattle.auc_book.specs.Seat.{Account}
use Rattle.auc_phases.specs.Reasons.{reason_for}
use Rattle.auc_threads.specs.Taking.{Takes}
use Rattle.auc_threads.specs.Hearing.{Falls, Hears, HearsOf, IsTold, Tells}
use Rattle.auc_threads.specs.Worker.{box, taker}
use Rattle.auc_threads.proofs.TakingLaws.{took_then}

rises_equal : (q r : List ℤ) → r ≡ q → NeverFall q r
rises_equal q r e = subst (λ xs. NeverFall q xs) (sym e) (rises_same q)

rises_then : (q r u : List ℤ) → NeverFall q r → NeverFall r u → NeverFall q u
rises_then q r u f g k = let x = f k in let y = g k in omega (arith, ints, x, y)

-- no letter is taken, and no price falls
pub hears_none : (s t : Persons) (fell : Type 0) → t.copies ≡ s.copies → (fell → ⊥) → HearsOf s [] t fell
hears_none s t fell e never = record { heard = λ j. inl (ap (λ xs. get_or xs j (pos 0)) e); rise = rises_equal s.copies t.copies e; falls = λ f. absurd (never f) }

told_left : (xs ys : List Letter) (j : ℕ) (p : ℤ) → IsTold xs j p → IsTold (xs ++ ys) j p
told_left xs ys j p t = record { letter = t.letter; listed = Contains-append_left xs ys t.letter t.listed; tells = t.tells }

told_right : (xs ys : List Letter) (j : ℕ) (p : ℤ) → IsTold ys j p → IsTold (xs ++ ys) j p
told_right xs ys j p t = record { letter = t.letter; listed = Contains-append_right xs ys t.letter t.listed; tells = t.tells }

falls_later : (s t : Persons) (xs ys : List Letter) → ((j : ℕ) → (copy_of t j ≡ copy_of s j) ⊎ IsTold xs j (copy_of t j)) → Falls (copy_of t) ys → Falls (copy_of s) (xs ++ ys)
falls_later s t xs ys heard f = record {
  front = xs ++ f.front;
  letter = f.letter;
  back = f.back;
  are = ap (λ w. xs ++ w) f.are ∙ sym (append_assoc xs f.front (f.letter ∷ f.back));
  object = f.object;
  price = f.price;
  tells = f.tells;
  below =
      elim f.below [
        | inl low ↦
            elim (heard f.object) [
              | inl same ↦ inl (subst (λ (c : ℤ). f.price <ℤ c) same low)
              | inr told ↦ inr (record { earlier = copy_of t f.object; told = told_left xs f.front f.object (copy_of t f.object) told; above = low })
            ]
        | inr later ↦ inr (record { earlier = later.earlier; told = told_right xs f.front f.object later.earlier later.told; above = later.above })
      ];
}

-- one after another
pub hears_of_then : (s t u : Persons) (xs ys : List Letter) (first fell : Type 0) → HearsOf s xs t first → HearsOf t ys u fell → HearsOf s (xs ++ ys) u fell
hears_of_then s t u xs ys first fell f g = record {
  heard = λ j.
      elim (g.heard j) [
        | inr told ↦ inr (told_right xs ys j (copy_of u j) told)
        | inl same ↦
            elim (f.heard j) [
              | inl before ↦ inl (same ∙ before)
              | inr told ↦ inr (told_left xs ys j (copy_of u j) (subst (λ (c : ℤ). IsTold xs j c) (sym same) told))
            ]
      ];
  rise = rises_then s.copies t.copies u.copies f.rise g.rise;
  falls = λ x. falls_later s t xs ys f.heard (g.falls x);
}

pub hears_then : (room at : ℕ) (s t u : Persons) (a b c : Account Letter) (first fell : Type 0) → Hears (box room at) (taker s a) (taker t b) first → Hears (box room at) (taker t b) (taker u c) fell → Hears (box room at) (taker s a) (taker u c) fell
hears_then room at s t u a b c first fell f g = record {
  letters = f.letters ++ g.letters;
  took = took_then room at a b c f.letters g.letters f.took g.took;
  hears = hears_of_then s t u f.letters g.letters first fell f.hears g.hears;
}

pub hears_nothing : (room at : ℕ) (s t : Persons) (a b : Account Letter) (fell : Type 0) → Takes room at a [] b → t.copies ≡ s.copies → (fell → ⊥) → Hears (box room at) (taker s a) (taker t b) fell
hears_nothing room at s t a b fell took e never = record { letters = []; took = took; hears = hears_none s t fell e never }

pub hears_taken : (room at : ℕ) (s t : Persons) (a b : Account Letter) (letters : List Letter) (fell : Type 0) → Takes room at a letters b → HearsOf s letters t fell → Hears (box room at) (taker s a) (taker t b) fell
hears_taken room at s t a b letters fell took heard = record { letters = letters; took = took; hears = heard }

-- where the worker went on, the rest follows from what comes after
pub hears_first : (room at : ℕ) (s t : Persons) (a b : Account Letter) (first fell : Type 0) → (fell → first) → Hears (box room at) (taker s a) (taker t b) first → Hears (box room at) (taker s a) (taker t b) fell
hears_first room at s t a b first fell f h = record { letters = h.letters; took = h.took; hears = record { heard = h.hears.heard; rise = h.hears.rise; falls = λ x. h.hears.falls (f x) } }

-- the one letter taken has a lower price than the copy
fell_of : (s t : Persons) (x : Letter) (j : ℕ) (p : ℤ) (fell : Type 0) → t ≡ s → Tells j p x → p <ℤ copy_of s j → HearsOf s (x ∷ []) t fell
fell_of s t x j p fell e tells low = record {
  heard = λ k. inl (ap (λ (z : Persons). copy_of z k) e);
  rise = rises_equal s.copies t.copies (ap (λ (z : Persons). z.copies) e);
  falls = λ f. record { front = []; letter = x; back = []; are = refl; object = j; price = p; tells = tells; below = inl low };
}

hears_fell : (s t : Persons) (x : Letter) (fell : Type 0) → OnLetter s x (Err PersonFault.Fell) t → HearsOf s (x ∷ []) t fell
hears_fell s t (Letter.Award i j p) fell h = fell_of s t (Letter.Award i j p) j p fell h.2 (refl, refl) h.1
hears_fell s t (Letter.Refused i j p) fell h = fell_of s t (Letter.Refused i j p) j p fell h.2 (refl, refl) h.1
hears_fell s t (Letter.Outbid i j p) fell h = fell_of s t (Letter.Outbid i j p) j p fell h.2 (refl, refl) h.1
hears_fell s t (Letter.Price j p) fell h = fell_of s t (Letter.Price j p) j p fell h.2 (refl, refl) h.1
hears_fell s t (Letter.Bid i a j p) fell h = absurd (let e = h.0 in cc)
hears_fell s t (Letter.First j) fell h = absurd (let e = h.0 in cc)
hears_fell s t (Letter.Stop y) fell h = absurd (let e = h.0 in cc)

-- a letter with a fault changes no copy
hears_stray : (s t : Persons) (x : Letter) (fell : Type 0) → OnLetter s x (Err PersonFault.Stray) t → (fell → ⊥) → HearsOf s (x ∷ []) t fell
hears_stray s t x fell h never = record { heard = λ j. inl (ap (λ (z : Persons). copy_of z j) (same x h)); rise = rises_equal s.copies t.copies (ap (λ (z : Persons). z.copies) (same x h)); falls = λ f. absurd (never f) }
  where
    same : (x : Letter) → OnLetter s x (Err PersonFault.Stray) t → t ≡ s
    same (Letter.Award i j p) h = h.1
    same (Letter.Refused i j p) h = h.1
    same (Letter.Outbid i j p) h = h.1
    same (Letter.Price j p) h = h.1
    same (Letter.Bid i a j p) h = h.1
    same (Letter.First j) h = h.1
    same (Letter.Stop y) h = h.1

pub hears_fault : (s t : Persons) (x : Letter) (fault : PersonFault) (why : Why) (fell : Type 0) → OnLetter s x (Err fault) t → why ≡ reason_for fault → (fell → why ≡ Why.Fell) → HearsOf s (x ∷ []) t fell
hears_fault s t x PersonFault.Fell why fell h e is = hears_fell s t x fell h
hears_fault s t x PersonFault.Stray why fell h e is = hears_stray s t x fell h (λ f. stray_stays (sym e ∙ is f))
  where
    stray_stays : Why.Stray ≡ Why.Fell → ⊥
    stray_stays e = cc

-- the one letter taken sets a copy
set_of : (s t : Persons) (x : Letter) (j : ℕ) (p : ℤ) (fell : Type 0) → t.copies ≡ set s.copies j p → j < length s.copies → Tells j p x → NeverFall s.copies t.copies → (fell → ⊥) → HearsOf s (x ∷ []) t fell
set_of s t x j p fell e known tells rise never = record {
  heard = λ k.
      elim (cases_eq k j) [
        | inl here ↦ (
            let told : copy_of t j ≡ p = ap (λ xs. get_or xs j (pos 0)) e ∙ get_or-set_same s.copies j p (pos 0) known in
            inr (subst (λ (m : ℕ). IsTold (x ∷ []) m (copy_of t m)) (sym here) (record { letter = x; listed = Contains-push [] x; tells = subst (λ (c : ℤ). Tells j c x) (sym told) tells })))
        | inr ne ↦ inl (ap (λ xs. get_or xs k (pos 0)) e ∙ get_or-set_other s.copies j k p (pos 0) ne)
      ];
  rise = rise;
  falls = λ f. absurd (never f);
}

pub hears_ok : (s t : Persons) (x : Letter) (u : Unit {0}) (fell : Type 0) → OnLetter s x (Ok u) t → NeverFall s.copies t.copies → (fell → ⊥) → HearsOf s (x ∷ []) t fell
hears_ok s t (Letter.Award i j p) u fell h rise never = set_of s t (Letter.Award i j p) j p fell (ap (λ (z : Persons). z.copies) h.2) h.0.2 (refl, refl) rise never
hears_ok s t (Letter.Refused i j p) u fell h rise never = set_of s t (Letter.Refused i j p) j p fell (ap (λ (z : Persons). z.copies) h.2) h.0.2 (refl, refl) rise never
hears_ok s t (Letter.Outbid i j p) u fell h rise never = set_of s t (Letter.Outbid i j p) j p fell (ap (λ (z : Persons). z.copies) h.2) h.0.2 (refl, refl) rise never
hears_ok s t (Letter.Price j p) u fell h rise never = set_of s t (Letter.Price j p) j p fell (ap (λ (z : Persons). z.copies) h.2) h.0.0 (refl, refl) rise never
hears_ok s t (Letter.Bid i a j p) u fell h rise never = absurd (let e = h.0 in cc)
hears_ok s t (Letter.First j) u fell h rise never = absurd (let e = h.0 in cc)
hears_ok s t (Letter.Stop y) u fell h rise never = absurd (let e = h.0 in cc)
