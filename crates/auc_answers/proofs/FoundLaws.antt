-- The picks of the holders, one holder after another.
use Rattle.std.proofs.Common.{ℕ, ℤ, Bool, true, false, pos, zero, suc, ◌+◌, ◌<◌, ◌≤◌, ◌≡◌, ◌≢◌, refl, arith, List, [], ◌∷◌, length, get_or, map, set, Option, Some, None, Contains, All, sym, ap, subst, ◌∙◌, inl, inr}
use Rattle.std.specs.Int.{w64}
use Rattle.std.specs.Prelude.{FitsSigned, Result, Ok, Err, IfOk, IfSome, IfNone}
use Rattle.std.specs.List.{slice_get, range_with_len}
use Rattle.std.specs.Option.{is_some}
use Rattle.std.proofs.lemmas.Bool.{cases_eq, cases_lt}
use Rattle.std.proofs.lemmas.Option.{none-some, same_Some, slice_get-get_or, slice_get_past}
use Rattle.std.proofs.lemmas.List.{get_or-set_same, get_or-set_other, length-set, length-map, get_or_past, get_or_default, same_lists}
use Rattle.std.proofs.lemmas.List.FromFn.{length-range_with_len}
use Rattle.auc_graph.specs.declared.arc.Arc.{Arc}
use Rattle.auc_graph.specs.Assignment.{person_of, total_cost}
use Rattle.auc_graph.specs.Problem.{Problem}
use Rattle.auc_letters.specs.declared.state.Held.{Held}
use Rattle.auc_claim.specs.declared.lists.Pick.{Pick}
use Rattle.auc_claim.specs.declared.cert.CertParts.{CertParts}
use Rattle.auc_claim.specs.Claim.{arc_of, chosen, pick_of}
use Rattle.auc_claim.proofs.ClaimLaws.{persons_are}
use Rattle.auc_answers.specs.Answers.{IsCertified}
use Rattle.auc_answers.specs.Claims.{HoldsBy, IsChoiceOf, IsClaimOf, IsHoldersArc, claim_of, holder_at}

-- ---- holders and their arcs

-- a holder has exactly one arc
pub one_arc : (p : Problem) (h : Held) (a b : Arc) → slice_get p.arcs h.arc ≡ Some a → slice_get p.arcs h.arc ≡ Some b → a ≡ b
one_arc p h a b e f = same_Some _ _ (sym e ∙ f)

-- an object that is held is one of the list
pub is_there : (holders : List (Option Held)) (j : ℕ) (h : Held) → holder_at holders j ≡ Some h → j < length holders
is_there holders j h e = elim (cases_lt j (length holders)) [ inl l ↦ l | inr past ↦ absurd (let b : ◌≡◌ {A = Option Held} None (Some h) = sym (get_or_past holders j None past) ∙ e in cc) ]

-- ---- whether there is a pick, as the code tests it

module _ (found : List (Option Pick)) (i : ℕ) (d o : Option Pick) (there : o ≡ get_or found i d) (room : i < length found) (b : Bool) (asked : b ≡ is_some o) where
  here : get_or found i None ≡ o
  here = sym (there ∙ get_or_default found i d None room)

  pub stands_none : b ≡ false → get_or found i None ≡ None
  stands_none e = by o here (sym asked ∙ e)
    where
      by : (x : Option Pick) → get_or found i None ≡ x → is_some x ≡ false → get_or found i None ≡ None
      by None at f = at
      by (Some y) at f = absurd cc

  pub stands_some : b ≡ true → (pick : Pick) × (get_or found i None ≡ Some pick)
  stands_some e = by o here (sym asked ∙ e)
    where
      by : (x : Option Pick) → get_or found i None ≡ x → is_some x ≡ true → (pick : Pick) × (get_or found i None ≡ Some pick)
      by None at f = absurd cc
      by (Some y) at f = (y, at)

-- ---- the picks that were found

-- the pick of a person comes of one of the first `count` holders
pub record IsFound (p : Problem) (holders : List (Option Held)) (count person : ℕ) (pick : Pick) : Type 0 where
  pub object : ℕ
  pub before : object < count
  pub held : Held
  pub holds : holder_at holders object ≡ Some held
  pub arc : Arc
  pub by : HoldsBy p held arc
  pub who : arc.person ≡ person
  pub is : pick ≡ pick_of arc

-- the pick of a holder is at its person's place
pub record Stands (p : Problem) (h : Held) (found : List (Option Pick)) : Type 0 where
  pub arc : Arc
  pub by : HoldsBy p h arc
  pub picked : get_or found arc.person None ≡ Some (pick_of arc)

-- the picks of the first `count` holders, by person
pub record AreFound (p : Problem) (holders : List (Option Held)) (count : ℕ) (found : List (Option Pick)) : Type 0 where
  pub len : length found ≡ p.persons
  pub sound : (i : ℕ) (pick : Pick) → get_or found i None ≡ Some pick → IsFound p holders count i pick
  pub each : (j : ℕ) (h : Held) → j < count → holder_at holders j ≡ Some h → Stands p h found
  pub once : (j k : ℕ) (a b : Held) → j < count → k < count → holder_at holders j ≡ Some a → holder_at holders k ≡ Some b → a.person ≡ b.person → j ≡ k

later : (p : Problem) (holders : List (Option Held)) (count i : ℕ) (pick : Pick) → IsFound p holders count i pick → IsFound p holders (count + 1) i pick
later p holders count i pick f = let b = f.before in record { object = f.object; before = omega (arith, b); held = f.held; holds = f.holds; arc = f.arc; by = f.by; who = f.who; is = f.is }

pub found_none : (p : Problem) (holders : List (Option Held)) (found : List (Option Pick)) → length found ≡ p.persons → ((i : ℕ) → get_or found i None ≡ None) → AreFound p holders 0 found
found_none p holders found len none = record {
  len = len;
  sound = λ i pick e. absurd (let b : ◌≡◌ {A = Option Pick} None (Some pick) = sym (none i) ∙ e in cc);
  each = λ j h lt e. absurd (omega (arith, lt));
  once = λ j k a b lt le e f s. absurd (omega (arith, lt));
}

-- of the first and one more holder, where the last one is none of the first
pub at_or_before : (count j : ℕ) → j < count + 1 → j ≢ count → j < count
at_or_before count j lt ne = elim (cases_lt j count) [ inl l ↦ l | inr le ↦ absurd (ne (omega (arith, lt, le))) ]

pub found_nothing : (p : Problem) (holders : List (Option Held)) (count : ℕ) (found : List (Option Pick)) → AreFound p holders count found → holder_at holders count ≡ None → AreFound p holders (count + 1) found
found_nothing p holders count found are none = record {
  len = are.len;
  sound = λ i pick e. later p holders count i pick (are.sound i pick e);
  each = λ j h lt e. are.each j h (before j h lt e) e;
  once = λ j k a b lt le e f s. are.once j k a b (before j a lt e) (before k b le f) e f s;
}
  where
    before : (j : ℕ) (h : Held) → j < count + 1 → holder_at holders j ≡ Some h → j < count
    before j h lt e = at_or_before count j lt (λ at. absurd (let b : ◌≡◌ {A = Option Held} None (Some h) = sym none ∙ ap (holder_at holders) (sym at) ∙ e in cc))

module _ (p : Problem) (holders : List (Option Held)) (count : ℕ) (found : List (Option Pick)) (are : AreFound p holders count found) (h : Held) (here : holder_at holders count ≡ Some h) where
  module _ (arc : Arc) (place : slice_get p.arcs h.arc ≡ Some arc) (his : arc.person ≡ h.person) (room : arc.person < length found) (free : get_or found arc.person None ≡ None) where
    abbrev written : List (Option Pick)
    written = set found arc.person (Some (pick_of arc))

    mine : HoldsBy p h arc
    mine = record { place = place; his = his }

    at_same : get_or written arc.person None ≡ Some (pick_of arc)
    at_same = get_or-set_same found arc.person (Some (pick_of arc)) None room

    at_other : (i : ℕ) → i ≢ arc.person → get_or written i None ≡ get_or found i None
    at_other i other = get_or-set_other found arc.person i (Some (pick_of arc)) None other

    -- an earlier holder is another person
    other_person : (a : Arc) → get_or found a.person None ≡ Some (pick_of a) → a.person ≢ arc.person
    other_person a e at = absurd (let b : ◌≡◌ {A = Option Pick} None (Some (pick_of a)) = sym free ∙ ap (λ (i : ℕ). get_or found i None) (sym at) ∙ e in cc)

    sound_more : (i : ℕ) (pick : Pick) → get_or written i None ≡ Some pick → IsFound p holders (count + 1) i pick
    sound_more i pick e =
        elim (cases_eq i arc.person) [
          | inl at ↦ record { object = count; before = omega arith; held = h; holds = here; arc = arc; by = mine; who = sym at; is = same_Some _ _ (sym e ∙ (ap (λ (k : ℕ). get_or written k None) at ∙ at_same)) }
          | inr other ↦ later p holders count i pick (are.sound i pick (sym (at_other i other) ∙ e))
        ]

    held_here : (j : ℕ) (g : Held) → holder_at holders j ≡ Some g → j ≡ count → g ≡ h
    held_here j g e at = same_Some _ _ (sym e ∙ (ap (holder_at holders) at ∙ here))

    each_more : (j : ℕ) (g : Held) → j < count + 1 → holder_at holders j ≡ Some g → Stands p g written
    each_more j g lt e =
        elim (cases_eq j count) [
          | inl at ↦ subst (λ (x : Held). Stands p x written) (sym (held_here j g e at)) (record { arc = arc; by = mine; picked = at_same })
          | inr ne ↦ (let old = are.each j g (at_or_before count j lt ne) e in record { arc = old.arc; by = old.by; picked = at_other old.arc.person (other_person old.arc old.picked) ∙ old.picked })
        ]

    -- no earlier holder is this person
    nobody : (j : ℕ) (g : Held) → j < count → holder_at holders j ≡ Some g → g.person ≡ h.person → ⊥
    nobody j g lt e same = let old = are.each j g lt e in other_person old.arc old.picked (old.by.his ∙ (same ∙ sym his))

    person_here : (j : ℕ) (g : Held) → holder_at holders j ≡ Some g → j ≡ count → g.person ≡ h.person
    person_here j g e at = ap (λ (x : Held). x.person) (held_here j g e at)

    once_more : (j k : ℕ) (a b : Held) → j < count + 1 → k < count + 1 → holder_at holders j ≡ Some a → holder_at holders k ≡ Some b → a.person ≡ b.person → j ≡ k
    once_more j k a b lt le e f same =
        elim (cases_eq j count) [
          | inl at ↦ elim (cases_eq k count) [
            | inl there ↦ at ∙ sym there
            | inr ne ↦ absurd (nobody k b (at_or_before count k le ne) f (sym same ∙ person_here j a e at))
          ]
          | inr ne ↦ elim (cases_eq k count) [
            | inl there ↦ absurd (nobody j a (at_or_before count j lt ne) e (same ∙ person_here k b f there))
            | inr other ↦ are.once j k a b (at_or_before count j lt ne) (at_or_before count k le other) e f same
          ]
        ]

    pub found_more : AreFound p holders (count + 1) (set found arc.person (Some (pick_of arc)))
    found_more = record { len = length-set found arc.person (Some (pick_of arc)) ∙ are.len; sound = sound_more; each = each_more; once = once_more }

  -- ---- where there is no choice

  pub past_arcs : slice_get p.arcs h.arc ≡ None → (choice : List Arc) → IsChoiceOf p holders choice → ⊥
  past_arcs none choice is = let x = is.each count h here in let b : ◌≡◌ {A = Option Arc} None (Some x.0) = sym none ∙ x.2.place in cc

  pub not_his : (arc : Arc) → slice_get p.arcs h.arc ≡ Some arc → arc.person ≢ h.person → (choice : List Arc) → IsChoiceOf p holders choice → ⊥
  not_his arc place other choice is = let x = is.each count h here in other (ap (λ (a : Arc). a.person) (one_arc p h arc x.0 place x.2.place) ∙ x.2.his)

  pub holds_two : (person : ℕ) (pick : Pick) → person ≡ h.person → get_or found person None ≡ Some pick → (choice : List Arc) → IsChoiceOf p holders choice → ⊥
  holds_two person pick same e choice is =
      let old = are.sound person pick e in
      let at = is.once old.object count old.held h old.holds here (sym old.by.his ∙ (old.who ∙ same)) in
      let b = old.before in
      absurd (omega (arith, at, b))

  -- the same, as the code reads an arc
  module _ (arcs : List Arc) (same : arcs ≡ p.arcs) where
    read_there : h.arc < length arcs → slice_get p.arcs h.arc ≡ Some (get_or arcs h.arc (record { cost = pos 0; person = 0; object = 0 }))
    read_there l = ap (λ (xs : List Arc). slice_get xs h.arc) (sym same) ∙ slice_get-get_or arcs h.arc (record { cost = pos 0; person = 0; object = 0 }) l

    pub past_read : length arcs ≤ h.arc → (choice : List Arc) → IsChoiceOf p holders choice → ⊥
    past_read past = past_arcs (ap (λ (xs : List Arc). slice_get xs h.arc) (sym same) ∙ slice_get_past arcs h.arc past)

    pub read_not_his : h.arc < length arcs → (get_or arcs h.arc (record { cost = pos 0; person = 0; object = 0 })).person ≢ h.person → (choice : List Arc) → IsChoiceOf p holders choice → ⊥
    read_not_his l other = not_his (get_or arcs h.arc (record { cost = pos 0; person = 0; object = 0 })) (read_there l) other

    pub read_more : h.arc < length arcs → (get_or arcs h.arc (record { cost = pos 0; person = 0; object = 0 })).person ≡ h.person → (get_or arcs h.arc (record { cost = pos 0; person = 0; object = 0 })).person < length found
        → get_or found (get_or arcs h.arc (record { cost = pos 0; person = 0; object = 0 })).person None ≡ None
        → AreFound p holders (count + 1) (set found (get_or arcs h.arc (record { cost = pos 0; person = 0; object = 0 })).person (Some (pick_of (get_or arcs h.arc (record { cost = pos 0; person = 0; object = 0 })))))
    read_more l his room free = found_more (get_or arcs h.arc (record { cost = pos 0; person = 0; object = 0 })) (read_there l) his room free

-- ---- all holders

pub found_end : (p : Problem) (holders : List (Option Held)) (count : ℕ) (found slice : List (Option Pick)) → AreFound p holders count found → length holders ≤ count → slice ≡ found → AreFound p holders (length holders) slice
found_end p holders count found slice are past same = subst (AreFound p holders (length holders)) (sym same) (record {
  len = are.len;
  sound = λ i pick e. (let f = are.sound i pick e in record { object = f.object; before = is_there holders f.object f.held f.holds; held = f.held; holds = f.holds; arc = f.arc; by = f.by; who = f.who; is = f.is });
  each = λ j h lt e. are.each j h (omega (arith, lt, past)) e;
  once = λ j k a b lt le e f s. are.once j k a b (omega (arith, lt, past)) (omega (arith, le, past)) e f s;
})

-- the k-th arc is the k-th person's
pub person_at : (n m k : ℕ) (choice : List Arc) (d : Arc) → map person_of choice ≡ range_with_len m n → k < length choice → (get_or choice k d).person ≡ m + k
person_at n m k [] d e lt = absurd (omega arith)
person_at zero m k (a ∷ xs) d e lt = absurd cc
person_at (suc n) m zero (a ∷ xs) d e lt = let person : a.person ≡ m = cc in omega (arith, person)
person_at (suc n) m (suc k) (a ∷ xs) d e lt =
    let others : map person_of xs ≡ range_with_len (m + 1) n = cc in
    let rest = person_at n (m + 1) k xs d others (omega (arith, lt)) in
    omega (arith, rest)

some_at : (picks : List Pick) (i : ℕ) (d : Pick) → i < length picks → get_or (map Some picks) i None ≡ Some (get_or picks i d)
some_at [] i d lt = absurd (omega arith)
some_at (x ∷ xs) zero d lt = refl
some_at (x ∷ xs) (suc i) d lt = some_at xs i d (omega (arith, lt))

some_there : (picks : List Pick) (i : ℕ) (pick : Pick) → get_or (map Some picks) i None ≡ Some pick → i < length picks
some_there [] i pick e = absurd (let b : ◌≡◌ {A = Option Pick} None (Some pick) = e in cc)
some_there (x ∷ xs) zero pick e = omega arith
some_there (x ∷ xs) (suc i) pick e = let rest = some_there xs i pick e in omega (arith, rest)

chosen_at : (picks : List Pick) (k i : ℕ) (d : Arc) (e : Pick) → i < length picks → get_or (chosen k picks) i d ≡ arc_of (k + i) (get_or picks i e)
chosen_at [] k i d e lt = absurd (omega arith)
chosen_at (x ∷ xs) k zero d e lt = let at : k ≡ k + 0 = omega arith in ap (λ (n : ℕ). arc_of n x) at
chosen_at (x ∷ xs) k (suc i) d e lt = let at : k + 1 + i ≡ k + suc i = omega arith in chosen_at xs (k + 1) i d e (omega (arith, lt)) ∙ ap (λ (n : ℕ). arc_of n (get_or xs i e)) at

chosen_first : (picks : List Pick) (i : ℕ) (d : Arc) (e : Pick) → i < length picks → get_or (chosen 0 picks) i d ≡ arc_of i (get_or picks i e)
chosen_first picks i d e lt = let at : 0 + i ≡ i = omega arith in chosen_at picks 0 i d e lt ∙ ap (λ (n : ℕ). arc_of n (get_or picks i e)) at

pub length_chosen : (k : ℕ) (picks : List Pick) → length (chosen k picks) ≡ length picks
length_chosen k [] = refl
length_chosen k (x ∷ xs) = ap suc (length_chosen (k + 1) xs)

-- the picks of arcs that picks name are these
pub pick_back : (k : ℕ) (picks : List Pick) → map pick_of (chosen k picks) ≡ picks
pick_back k [] = refl
pick_back k (x ∷ xs) = ap (λ (ys : List Pick). x ∷ ys) (pick_back (k + 1) xs)

-- an arc is the one that its pick names
back : (i : ℕ) (pick : Pick) (a : Arc) → pick ≡ pick_of a → a.person ≡ i → arc_of i pick ≡ a
back i pick a is who = ap (arc_of i) is ∙ ap (λ (n : ℕ). arc_of n (pick_of a)) (sym who)

module _ (p : Problem) (holders : List (Option Held)) (found : List (Option Pick)) (are : AreFound p holders (length holders) found) where
  module _ (picks : List Pick) (same : map Some picks ≡ found) where
    many : length picks ≡ p.persons
    many = sym (length-map picks Some) ∙ (ap length same ∙ are.len)

    held_each : All (IsHoldersArc p holders) (chosen 0 picks)
    held_each k d lt =
        let l : k < length picks = let n = length_chosen 0 picks in omega (arith, lt, n) in
        let none : Pick = record { object = 0; cost = pos 0 } in
        let f = are.sound k (get_or picks k none) (ap (λ (xs : List (Option Pick)). get_or xs k None) (sym same) ∙ some_at picks k none l) in
        let is : get_or (chosen 0 picks) k d ≡ f.arc = chosen_first picks k d none l ∙ back k (get_or picks k none) f.arc f.is f.who in
        subst (IsHoldersArc p holders) (sym is) (record { object = f.object; held = f.held; holds = f.holds; by = f.by })

    each_listed : (j : ℕ) (h : Held) → holder_at holders j ≡ Some h → (a : Arc) × Contains (chosen 0 picks) a × HoldsBy p h a
    each_listed j h e =
        let old = are.each j h (is_there holders j h e) e in
        let a = old.arc in
        let there : get_or (map Some picks) a.person None ≡ Some (pick_of a) = ap (λ (xs : List (Option Pick)). get_or xs a.person None) same ∙ old.picked in
        let l = some_there picks a.person (pick_of a) there in
        let pick : get_or picks a.person (pick_of a) ≡ pick_of a = same_Some _ _ (sym (some_at picks a.person (pick_of a) l) ∙ there) in
        (a, (a.person, (let n = length_chosen 0 picks in omega (arith, l, n)), chosen_first picks a.person a (pick_of a) l ∙ ap (arc_of a.person) pick), old.by)

    pub all_found : IsChoiceOf p holders (chosen 0 picks)
    all_found = record { persons = persons_are 0 picks ∙ ap (range_with_len 0) many; held = held_each; each = each_listed; once = λ j k a b e f s. are.once j k a b (is_there holders j a e) (is_there holders k b f) e f s }

  pub none_lacks : Contains found None → (choice : List Arc) → IsChoiceOf p holders choice → ⊥
  none_lacks c choice is =
      let d : Arc = record { person = 0; object = 0; cost = pos 0 } in
      let many_arcs : length choice ≡ p.persons = sym (length-map choice person_of) ∙ (ap length is.persons ∙ length-range_with_len 0 p.persons) in
      let few = c.1 in
      let len = are.len in
      let l : c.0 < length choice = omega (arith, few, len, many_arcs) in
      let x = is.held c.0 d l in
      let person : (get_or choice c.0 d).person ≡ 0 + c.0 = person_at p.persons 0 c.0 choice d is.persons l in
      let old = are.each x.object x.held (is_there holders x.object x.held x.holds) x.holds in
      let arc : old.arc ≡ get_or choice c.0 d = one_arc p x.held old.arc (get_or choice c.0 d) old.by.place x.by.place in
      let at : old.arc.person ≡ c.0 = let e = ap (λ (a : Arc). a.person) arc in omega (arith, e, person) in
      let here : get_or found c.0 None ≡ Some (pick_of old.arc) = subst (λ (i : ℕ). get_or found i None ≡ Some (pick_of old.arc)) at old.picked in
      none-some (pick_of old.arc) (sym c.2 ∙ here)

-- ---- holders have one choice at most

choice_at : (p : Problem) (holders : List (Option Held)) (a b : List Arc) → IsChoiceOf p holders a → IsChoiceOf p holders b → (k : ℕ) (d : Arc) → k < length a → k < length b → get_or a k d ≡ get_or b k d
choice_at p holders a b is other k d lt le =
    let x = is.held k d lt in
    let y = other.held k d le in
    let xp : (get_or a k d).person ≡ 0 + k = person_at p.persons 0 k a d is.persons lt in
    let yp : (get_or b k d).person ≡ 0 + k = person_at p.persons 0 k b d other.persons le in
    let one = is.once x.object y.object x.held y.held x.holds y.holds (sym x.by.his ∙ (xp ∙ (sym yp ∙ y.by.his))) in
    let held : x.held ≡ y.held = same_Some _ _ (sym x.holds ∙ (ap (holder_at holders) one ∙ y.holds)) in
    one_arc p y.held (get_or a k d) (get_or b k d) (ap (λ (h : Held). slice_get p.arcs h.arc) (sym held) ∙ x.by.place) y.by.place

choice_len : (p : Problem) (holders : List (Option Held)) (a : List Arc) → IsChoiceOf p holders a → length a ≡ p.persons
choice_len p holders a is = sym (length-map a person_of) ∙ (ap length is.persons ∙ length-range_with_len 0 p.persons)

pub one_choice : (p : Problem) (holders : List (Option Held)) (a b : List Arc) → IsChoiceOf p holders a → IsChoiceOf p holders b → a ≡ b
one_choice p holders a b is other =
    let many = choice_len p holders a is in
    let as_many = choice_len p holders b other in
    same_lists a b (many ∙ sym as_many) (λ k d lt. choice_at p holders a b is other k d lt (omega (arith, lt, many, as_many)))

-- ---- the claim, as the code makes it

pub claim_is : (cost : ℤ) (picks : List Pick) (prices : List ℤ) → cost ≡ total_cost (chosen 0 picks) → CertParts.Optimal cost picks prices ≡ claim_of (chosen 0 picks) prices
claim_is cost picks prices is = ap (λ (z : ℤ). CertParts.Optimal z picks prices) is ∙ ap (λ (ps : List Pick). CertParts.Optimal (total_cost (chosen 0 picks)) ps prices) (sym (pick_back 0 picks))

module _ (p : Problem) (holders : List (Option Held)) (prices : List ℤ) (picks : List Pick) (choice_is : IsChoiceOf p holders (chosen 0 picks)) where
  pub unspelled_claim : (cost : ℤ) → cost ≡ total_cost (chosen 0 picks) → (FitsSigned w64 cost → ⊥) → (choice : List Arc) → IsChoiceOf p holders choice → IsCertified p (claim_of choice prices) → ⊥
  unspelled_claim cost is past choice other sound =
      past (subst (FitsSigned w64) (ap total_cost (one_choice p holders choice (chosen 0 picks) other choice_is) ∙ sym is) sound.in_range.0)

-- the claim is the same for each choice of the holders' arcs
module _ (p : Problem) (holders : List (Option Held)) (prices : List ℤ) (cert : CertParts) (made : IsClaimOf p holders prices cert) where
  one_claim : (choice : List Arc) → IsChoiceOf p holders choice → claim_of choice prices ≡ cert
  one_claim choice is = ap (λ (xs : List Arc). claim_of xs prices) (one_choice p holders choice made.choice is made.held) ∙ sym made.claim_is

  pub refused_claim : (IsCertified p cert → ⊥) → (choice : List Arc) → IsChoiceOf p holders choice → IsCertified p (claim_of choice prices) → ⊥
  refused_claim refused choice is sound = refused (subst (IsCertified p) (one_claim choice is) sound)

  pub passed_claim : (choice : List Arc) → IsChoiceOf p holders choice → IsCertified p (claim_of choice prices) → IsCertified p cert
  passed_claim choice is sound = subst (IsCertified p) (one_claim choice is) sound

-- ---- the same of what the code answers

weaker_ok : {X E : Type 0} (P Q : X → Type 0) (r : Result X E) → ((x : X) → P x → Q x) → IfOk r P → IfOk r Q
weaker_ok P Q (Ok x) f h = f x h
weaker_ok P Q (Err e) f h = tt

weaker_some : {X : Type 0} (P Q : X → Type 0) (o : Option X) → ((x : X) → P x → Q x) → IfSome o P → IfSome o Q
weaker_some P Q (Some x) f h = f x h
weaker_some P Q None f h = tt

weaker_none : {X : Type 0} (P Q : Type 0) (o : Option X) → (P → Q) → IfNone o P → IfNone o Q
weaker_none P Q (Some x) f h = tt
weaker_none P Q None f h = f h

module _ {V E : Type 0} (items : V → List Pick) (p : Problem) (holders : List (Option Held)) (slice : List (Option Pick)) (are : AreFound p holders (length holders) slice) (r : Result (Option V) E) where
  pub all_picked : IfOk r (λ o. IfSome o (λ v. map Some (items v) ≡ slice)) → IfOk r (λ o. IfSome o (λ v. IsChoiceOf p holders (chosen 0 (items v))))
  all_picked h =
      weaker_ok (λ o. IfSome o (λ v. map Some (items v) ≡ slice)) (λ o. IfSome o (λ v. IsChoiceOf p holders (chosen 0 (items v)))) r
      (λ o g. weaker_some (λ v. map Some (items v) ≡ slice) (λ v. IsChoiceOf p holders (chosen 0 (items v))) o (λ v e. all_found p holders slice are (items v) e) g) h

  pub none_picked : IfOk r (λ o. IfNone o (Contains slice None)) → IfOk r (λ o. IfNone o ((choice : List Arc) → IsChoiceOf p holders choice → ⊥))
  none_picked h =
      weaker_ok (λ o. IfNone o (Contains slice None)) (λ o. IfNone o ((choice : List Arc) → IsChoiceOf p holders choice → ⊥)) r
      (λ o g. weaker_none (Contains slice None) ((choice : List Arc) → IsChoiceOf p holders choice → ⊥) o (none_lacks p holders slice are) g) h
