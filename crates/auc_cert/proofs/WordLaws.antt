-- Words and numbers: what is read is spelled so, and what is spelled so is read.
use Rattle.std.proofs.Common.{◌≡◌, ◌≢◌, ℕ, zero, suc, ◌+◌, ◌-◌, ◌%◌, ◌<◌, ◌≤◌, ◌^◌, Bool, true, false, cond, eqb, eq-eqb, T, List, [], ◌∷◌, ◌++◌, length, take, drop, get_or, Option, Some, None, refl, sym, ap, subst, ◌∙◌, arith, All, w64, append_assoc}
use Rattle.std.specs.Prelude.{ℤ, pos, negsuc, FitsSigned, ◌≤ℤ◌, int_le, nat_eq, ◌&&◌, neg_ℤ}
use Rattle.std.specs.Int.Signed.{le_z_yes}
use Rattle.std.specs.Fmt.{decimal, signed_decimal}
use Rattle.std.specs.Cmp.Lexicographic.{pointwise, same_text}
use Rattle.std.specs.Str.Parse.{digits_value}
use Rattle.std.proofs.lemmas.Int.{ints}
use Rattle.std.proofs.lemmas.Bool.{and_parts, and_from, ne_eqb, eqb-true}
use Rattle.std.proofs.lemmas.Fmt.{decimal_by_steps, decimal_is_IsNumeral}
use Rattle.std.proofs.lemmas.List.{take-append-drop}
use Rattle.std.proofs.Math.Seq.{take-append_seam, drop-append_seam}
use Rattle.std.proofs.lemmas.List.Elements.{All-head, All-tail, All-nil, All-cons, All-push}
use Rattle.auc_cert.specs.CertReading.{IsMark}
use Rattle.auc_cert.specs.Fields.{◌>>=◌, viewed, after, onto, word_at, word_value, spelled, field_at}
use Rattle.auc_cert.proofs.WriteLaws.{tail}
use Rattle.auc_cert.proofs.NumberWords.{number_goes_on, pointwise_self}
use Rattle.auc_graph.proofs.InMemoryLaws.{true_from}

-- ---- steps that gave a value

-- the first step gave a value, from which the next one gave y
pub record GaveInSteps {A B : Type 0} (r : Option A) (f : A → Option B) (y : B) : Type 0 where
  pub value : A
  pub gave : r ≡ Some value
  pub goes_on : f value ≡ Some y

pub bind_some : {A B : Type 0} (r : Option A) (f : A → Option B) (y : B) → (r >>= f) ≡ Some y → GaveInSteps r f y
bind_some (Some x) f y e = record { value = x; gave = refl; goes_on = e }
bind_some None f y e = absurd cc

pub some_is : {A : Type 0} (x y : A) → ◌≡◌ {A = Option A} (Some x) (Some y) → x ≡ y
some_is x y e = cc

pub guard_some : {A : Type 0} (b : Bool) (x y : A) → cond b (Some x) None ≡ Some y → (b ≡ true) × (x ≡ y)
guard_some true x y e = (refl, cc)
guard_some false x y e = absurd cc

-- ---- tests of signed numbers

pub int_le_yes : (a b : ℤ) → int_le a b ≡ true → a ≤ℤ b
int_le_yes a b h = le_z_yes (subst (λ (t : Bool). T t) (sym h) tt)

pub yes_int_le : (a b : ℤ) → a ≤ℤ b → int_le a b ≡ true
yes_int_le a b h = true_from (int_le a b) h.le

-- ---- the front

pub after_takes : (front bytes rest : List ℕ) → after front bytes ≡ Some rest → bytes ≡ front ++ rest
unfolding after
after_takes front bytes rest e =
    let g = guard_some (pointwise nat_eq (take (length front) bytes) front) (drop (length front) bytes) rest e in
    let same : take (length front) bytes ≡ front = same_text (take (length front) bytes) front (sym g.0) in
    sym (take-append-drop (length front) bytes) ∙ ap (λ (f : List ℕ). f ++ drop (length front) bytes) same ∙ ap (λ (r : List ℕ). front ++ r) g.1

pub after_again : (front rest : List ℕ) → after front (front ++ rest) ≡ Some rest
unfolding after
after_again front rest = rw (take-append_seam front rest, drop-append_seam front rest, pointwise_self front) refl

-- ---- words

abbrev pair_of : List ℕ → List ℕ → Option (List ℕ × List ℕ)
pair_of w r = Some (w, r)

pub word_here : (stop : ℕ) (bytes : List ℕ) (i : ℕ) → ((k : ℕ) → k < i → get_or bytes k 0 ≡ stop → ⊥) → i < length bytes → get_or bytes i 0 ≡ stop → word_at stop bytes ≡ Some (take i bytes, drop (suc i) bytes)
unfolding word_at
word_here stop [] i h lt e = absurd (omega arith)
word_here stop (b ∷ bytes) zero h lt e = let t : eqb b stop ≡ true = eq-eqb b stop e in rw t refl
word_here stop (b ∷ bytes) (suc i) h lt e =
    let t : eqb b stop ≡ false = ne_eqb b stop (h 0 (omega arith)) in
    rw (t, word_here stop bytes i (λ k le. h (suc k) (omega arith)) (omega arith) e) refl

-- the same of the slices of the code
pub word_split : (stop : ℕ) (bytes : List ℕ) (i : ℕ) → ((k : ℕ) → k < i → get_or bytes k 0 ≡ stop → ⊥) → i < length bytes → get_or bytes i 0 ≡ stop → ◌≡◌ {A = Option (List ℕ × List ℕ)} (Some (take i bytes, take (length bytes - (i + 1)) (drop (i + 1) bytes))) (word_at stop bytes)
word_split stop bytes i h lt e =
    let more : i + 1 ≡ suc i = omega arith in
    let p : take (length bytes - (i + 1)) (drop (i + 1) bytes) ≡ drop (suc i) bytes = tail (i + 1) bytes ∙ ap (λ (m : ℕ). drop m bytes) more in
    ap (λ (r : List ℕ). pair_of (take i bytes) r) p ∙ sym (word_here stop bytes i h lt e)

pub word_nowhere : (stop : ℕ) (bytes : List ℕ) → ((k : ℕ) → k < length bytes → get_or bytes k 0 ≡ stop → ⊥) → word_at stop bytes ≡ None
unfolding word_at
word_nowhere stop [] h = refl
word_nowhere stop (b ∷ bytes) h =
    let t : eqb b stop ≡ false = ne_eqb b stop (h 0 (omega arith)) in
    rw (t, word_nowhere stop bytes (λ k le. h (suc k) (omega arith))) refl

pub word_again : (stop : ℕ) (w rest : List ℕ) → All (λ b. b ≢ stop) w → word_at stop (w ++ stop ∷ rest) ≡ Some (w, rest)
unfolding word_at
word_again stop [] rest h = let t : eqb stop stop ≡ true = eq-eqb stop stop refl in rw t refl
word_again stop (b ∷ w) rest h =
    let t : eqb b stop ≡ false = ne_eqb b stop (All-head (λ b. b ≢ stop) b w h) in
    rw (t, word_again stop w rest (All-tail (λ b. b ≢ stop) b w h)) refl

word_step : (stop b : ℕ) (bytes : List ℕ) (o : Option (List ℕ × List ℕ)) (t : Bool) (w rest : List ℕ)
    → ((w rest : List ℕ) → o ≡ Some (w, rest) → bytes ≡ w ++ stop ∷ rest) → (t ≡ true → b ≡ stop)
    → cond t (Some ([], bytes)) (viewed (onto b) o) ≡ Some (w, rest) → b ∷ bytes ≡ w ++ stop ∷ rest
word_step stop b bytes o true w rest h is e =
    let e = some_is ([], bytes) (w, rest) e in
    let p : ◌≡◌ {A = List ℕ} [] w = ap (λ (y : List ℕ × List ℕ). y.0) e in
    let q : bytes ≡ rest = ap (λ (y : List ℕ × List ℕ). y.1) e in
    let r : b ≡ stop = is refl in
    rw (← p, ← q, r) refl
word_step stop b bytes None false w rest h is e = absurd cc
word_step stop b bytes (Some x) false w rest h is e =
    let e = some_is (onto b x) (w, rest) e in
    let p : b ∷ x.0 ≡ w = ap (λ (y : List ℕ × List ℕ). y.0) e in
    let q : x.1 ≡ rest = ap (λ (y : List ℕ × List ℕ). y.1) e in
    rw (← p, ← q) (ap (λ (r : List ℕ). b ∷ r) (h x.0 x.1 refl))

pub word_takes : (stop : ℕ) (bytes w rest : List ℕ) → word_at stop bytes ≡ Some (w, rest) → bytes ≡ w ++ stop ∷ rest
unfolding word_at
word_takes stop [] w rest e = absurd cc
word_takes stop (b ∷ bytes) w rest e = word_step stop b bytes (word_at stop bytes) (eqb b stop) w rest (λ v r f. word_takes stop bytes v r f) (eqb-true b stop) e

-- ---- numbers

digits_high : (n : ℕ) → n < 2 ^ 64 → All (λ b. 48 ≤ b) (decimal n)
digits_high n lt =
    decimal_by_steps (λ m ds. All (λ b. 48 ≤ b) ds)
    (λ m small. All-cons (λ b. 48 ≤ b) (48 + m) [] (omega arith) (All-nil (λ b. 48 ≤ b)))
    (λ m ds big h. All-push (λ b. 48 ≤ b) ds (48 + m % 10) h (omega arith))
    n lt

value_digits : (ds : List ℕ) (n : ℕ) → All (λ b. 48 ≤ b) ds → digits_value 10 ds ≡ n → word_value ds ≡ pos n
unfolding word_value
value_digits [] n h e = ap (λ (m : ℕ). pos m) e
value_digits (b ∷ ds) n h e =
    let high : 48 ≤ b = All-head (λ b. 48 ≤ b) b ds h in
    let t : eqb b 45 ≡ false = ne_eqb b 45 (λ same. omega arith) in
    rw t (ap (λ (m : ℕ). pos m) e)

pub value_of : (z : ℤ) → FitsSigned w64 z → word_value (signed_decimal z) ≡ z
unfolding word_value
value_of (pos n) f = value_digits (decimal n) n (digits_high n (omega (arith, f.sfits))) (decimal_is_IsNumeral n (omega (arith, f.sfits))).1
value_of (negsuc n) f = ap (λ (m : ℕ). neg_ℤ (pos m)) (decimal_is_IsNumeral (suc n) (omega (arith, f.sfits))).1

pub record IsSpelledIn (least most : ℤ) (word : List ℕ) (z : ℤ) : Type 0 where
  pub text : word ≡ signed_decimal z
  pub low : least ≤ℤ z
  pub high : z ≤ℤ most

pub spelled_takes : (least most : ℤ) (word : List ℕ) (z : ℤ) → spelled least most word ≡ Some z → IsSpelledIn least most word z
unfolding spelled
spelled_takes least most word z e =
    let g = guard_some (pointwise nat_eq (signed_decimal (word_value word)) word && (int_le least (word_value word) && int_le (word_value word) most)) (word_value word) z e in
    let a = and_parts (pointwise nat_eq (signed_decimal (word_value word)) word) (int_le least (word_value word) && int_le (word_value word) most) g.0 in
    let b = and_parts (int_le least (word_value word)) (int_le (word_value word) most) a.1 in
    let is : signed_decimal (word_value word) ≡ word = same_text (signed_decimal (word_value word)) word (sym a.0) in
    record {
      text = sym is ∙ ap signed_decimal g.1;
      low = subst (λ (x : ℤ). least ≤ℤ x) g.1 (int_le_yes least (word_value word) b.0);
      high = subst (λ (x : ℤ). x ≤ℤ most) g.1 (int_le_yes (word_value word) most b.1);
    }

-- a word that spells z reads as z where z is in the range
pub spelled_word : (least most : ℤ) (word : List ℕ) (z : ℤ) (t : Bool) → FitsSigned w64 z → word ≡ signed_decimal z → (int_le least z && int_le z most) ≡ t → spelled least most word ≡ cond t (Some z) None
unfolding spelled
spelled_word least most word z t f e h =
    let v : word_value word ≡ z = ap word_value e ∙ value_of z f in
    let p : pointwise nat_eq (signed_decimal z) word ≡ true = ap (pointwise nat_eq (signed_decimal z)) e ∙ pointwise_self (signed_decimal z) in
    rw (v, p, h) refl

pub spelled_no_word : (least most : ℤ) (word : List ℕ) → FitsSigned w64 least → FitsSigned w64 most → ((z : ℤ) → FitsSigned w64 z → word ≡ signed_decimal z → ⊥) → (o : Option ℤ) → spelled least most word ≡ o → o ≡ None
spelled_no_word least most word f g h None e = refl
spelled_no_word least most word f g h (Some z) e =
    let s = spelled_takes least most word z e in
    let low : least ≤ℤ z = s.low in
    let high : z ≤ℤ most = s.high in
    let fits : FitsSigned w64 z = omega (arith, ints, low, high, f, g) in
    absurd (h z fits s.text)

-- ---- fields

pub record IsField (front : List ℕ) (least most : ℤ) (stop : ℕ) (bytes : List ℕ) (z : ℤ) (rest : List ℕ) : Type 0 where
  pub text : bytes ≡ front ++ signed_decimal z ++ stop ∷ rest
  pub low : least ≤ℤ z
  pub high : z ≤ℤ most

pub field_takes : (front : List ℕ) (least most : ℤ) (stop : ℕ) (bytes : List ℕ) (z : ℤ) (rest : List ℕ) → field_at front least most stop bytes ≡ Some (z, rest) → IsField front least most stop bytes z rest
unfolding field_at
field_takes front least most stop bytes z rest e =
    let a = bind_some (after front bytes) (λ r. word_at stop r >>= λ w. (spelled least most w.0 >>= λ x. Some (x, w.1))) (z, rest) e in
    let b = bind_some (word_at stop a.value) (λ w. spelled least most w.0 >>= λ x. Some (x, w.1)) (z, rest) a.goes_on in
    let c = bind_some (spelled least most b.value.0) (λ x. Some (x, b.value.1)) (z, rest) b.goes_on in
    let pair = some_is (c.value, b.value.1) (z, rest) c.goes_on in
    let p : c.value ≡ z = ap (λ (y : ℤ × List ℕ). y.0) pair in
    let q : b.value.1 ≡ rest = ap (λ (y : ℤ × List ℕ). y.1) pair in
    let s = spelled_takes least most b.value.0 c.value c.gave in
    let w : a.value ≡ b.value.0 ++ stop ∷ b.value.1 = word_takes stop a.value b.value.0 b.value.1 b.gave in
    let is : b.value.0 ≡ signed_decimal z = s.text ∙ ap signed_decimal p in
    record {
      text = after_takes front bytes a.value a.gave ∙ ap (λ (r : List ℕ). front ++ r) (w ∙ ap (λ (r : List ℕ). b.value.0 ++ stop ∷ r) q ∙ ap (λ (r : List ℕ). r ++ stop ∷ rest) is) ∙ sym (append_assoc front (signed_decimal z) (stop ∷ rest));
      low = subst (λ (x : ℤ). least ≤ℤ x) p s.low;
      high = subst (λ (x : ℤ). x ≤ℤ most) p s.high;
    }

pub field_again : (front : List ℕ) (least most : ℤ) (stop : ℕ) (bytes : List ℕ) (z : ℤ) (rest : List ℕ) → IsMark stop → FitsSigned w64 z → IsField front least most stop bytes z rest → field_at front least most stop bytes ≡ Some (z, rest)
unfolding field_at
field_again front least most stop bytes z rest mark f h =
    let regrouped : bytes ≡ front ++ (signed_decimal z ++ stop ∷ rest) = h.text ∙ append_assoc front (signed_decimal z) (stop ∷ rest) in
    let a : after front bytes ≡ Some (signed_decimal z ++ stop ∷ rest) = ap (after front) regrouped ∙ after_again front (signed_decimal z ++ stop ∷ rest) in
    let b = word_again stop (signed_decimal z) rest (number_goes_on stop z mark f) in
    let c : spelled least most (signed_decimal z) ≡ Some z = spelled_word least most (signed_decimal z) z true f refl (and_from (int_le least z) (int_le z most) (yes_int_le least z h.low) (yes_int_le z most h.high)) in
    rw (a, b, c) refl
