-- The second line of a certificate: what is read is spelled so, and what is spelled so is read.
use Rattle.std.proofs.Common.{◌≡◌, ◌≢◌, All, ℕ, ◌+◌, ◌-◌, ◌≤◌, ◌<◌, ◌^◌, Bool, true, List, [], ◌∷◌, ◌++◌, Option, Some, None, refl, sym, ap, subst, ◌∙◌, arith, w64, append_assoc, inl, inr}
use Rattle.std.specs.Prelude.{ℤ, pos, neg_ℤ, FitsSigned, ◌≤ℤ◌, unsigned_abs, codes, nat_eq, ◌&&◌, ◌⊎◌}
use Rattle.std.specs.Fmt.{decimal, signed_decimal}
use Rattle.std.specs.Cmp.Lexicographic.{pointwise, same_text}
use Rattle.std.specs.List.{find}
use Rattle.std.specs.Option.{option_or}
use Rattle.std.proofs.lemmas.Bool.{cases_Bool, and_parts}
use Rattle.std.proofs.lemmas.Int.{ints}
use Rattle.auc_graph.specs.declared.limits.TheConstants.{MOST_OBJECTS, MOST_PERSONS}
use Rattle.auc_claim.specs.declared.version.Version.TheVariants.{First, Second}
use Rattle.auc_cert.specs.declared.form.Form.{Form}
use Rattle.auc_cert.specs.declared.form.Form.TheVariants.{Usual, Large}
use Rattle.auc_cert.specs.Form.{AreObjects, least_named, persons_in}
use Rattle.auc_claim.specs.declared.reason.Reason.{Reason}
use Rattle.auc_claim.specs.declared.reason.Reason.TheVariants.{Bids, Ceiling, Posts, Trail, Mail}
use Rattle.auc_cert.specs.declared.second_line.SecondLine.{SecondLine}
use Rattle.auc_cert.specs.declared.second_line.SecondLine.TheVariants.{Optimal, Infeasible, Bracket}
use Rattle.auc_cert.specs.Text.{optimal_line, infeasible_line, reason_word, bracket_line}
use Rattle.auc_cert.specs.CertReading.{IsMark}
use Rattle.auc_cert.specs.SecondLine.{second_line, IsCount, AreSizes, AreCounts, IsSecondLine}
use Rattle.auc_cert.specs.Fields.{after, word_at, field_at, long_at, objects_at, optimal_at, infeasible_at, reason_of, bracket_at, second_line_at}
use Rattle.auc_cert.proofs.WordLaws.{bind_some, some_is, after_takes, after_again, word_takes, word_again, field_takes, field_again}
use Rattle.auc_cert.proofs.LineLaws.{two_fields, space, line_end, small_fits}
use Rattle.auc_cert.proofs.SizeLaws.{objects_fit, persons_few, persons_fit}
use Rattle.auc_cert.proofs.TextLines.{IsLine, lacks, all_lack, and_then, and_number, digits}

-- a second line that was read, and the bytes after it
abbrev pub IsRead : Form → List ℕ → SecondLine × List ℕ → Type 0
IsRead v bytes x = (bytes ≡ second_line v x.0 ++ x.1) × IsSecondLine v x.0

-- ---- its numbers

is_abs : (z : ℤ) → pos 0 ≤ℤ z → z ≡ pos (unsigned_abs z)
is_abs z low = omega (arith, ints)

long_fits : (z : ℤ) → neg_ℤ (pos (2 ^ 63)) ≤ℤ z → z ≤ℤ pos (2 ^ 63 - 1) → FitsSigned w64 z
long_fits z low high = omega (arith, ints)

long_again : (stop : ℕ) (z : ℤ) (rest : List ℕ) → IsMark stop → FitsSigned w64 z → long_at stop (signed_decimal z ++ stop ∷ rest) ≡ Some (z, rest)
long_again stop z rest mark fits =
    field_again [] (neg_ℤ (pos (2 ^ 63))) (pos (2 ^ 63 - 1)) stop (signed_decimal z ++ stop ∷ rest) z rest mark fits (record { text = refl; low = omega (arith, ints, fits); high = omega (arith, ints, fits) })

long_takes : (stop : ℕ) (bytes : List ℕ) (z : ℤ) (rest : List ℕ) → long_at stop bytes ≡ Some (z, rest) → (bytes ≡ signed_decimal z ++ stop ∷ rest) × FitsSigned w64 z
long_takes stop bytes z rest e =
    let f = field_takes [] (neg_ℤ (pos (2 ^ 63))) (pos (2 ^ 63 - 1)) stop bytes z rest e in
    (f.text, long_fits z f.low f.high)

count_again : (v : Form) (front : List ℕ) (n : ℕ) (rest : List ℕ) → IsCount v n → field_at front (pos 1) (pos (persons_in v)) 32 ((front ++ decimal n) ++ 32 ∷ rest) ≡ Some (pos n, rest)
count_again v front n rest h =
    let some : 1 ≤ n = h.some in
    let most : n ≤ persons_in v = h.most in
    let few : persons_in v ≤ MOST_PERSONS = persons_few v in
    field_again front (pos 1) (pos (persons_in v)) 32 ((front ++ decimal n) ++ 32 ∷ rest) (pos n) rest space (small_fits n (omega arith)) (record { text = refl; low = omega (arith, ints); high = omega (arith, ints) })

-- the number of persons, after a front
pub record CountsAt (v : Form) (front bytes : List ℕ) (n : ℕ) (rest : List ℕ) : Type 0 where
  pub text : bytes ≡ (front ++ decimal n) ++ 32 ∷ rest
  pub is : IsCount v n

count_takes : (v : Form) (front bytes : List ℕ) (z : ℤ) (rest : List ℕ) → field_at front (pos 1) (pos (persons_in v)) 32 bytes ≡ Some (z, rest) → CountsAt v front bytes (unsigned_abs z) rest
count_takes v front bytes z rest e =
    let f = field_takes front (pos 1) (pos (persons_in v)) 32 bytes z rest e in
    let low : pos 1 ≤ℤ z = f.low in
    let high : z ≤ℤ pos (persons_in v) = f.high in
    record { text = f.text ∙ ap (λ (y : ℤ). (front ++ signed_decimal y) ++ 32 ∷ rest) (is_abs z (omega (arith, ints))); is = record { some = omega (arith, ints); most = omega (arith, ints) } }

-- ---- the objects

-- what the second line has of them
abbrev objects_word : Form → ℕ → List ℕ
objects_word (Usual First) m = []
objects_word (Usual Second) m = decimal m ++ 32 ∷ []
objects_word Large m = decimal m ++ 32 ∷ []

abbrev number_and : ℕ → List ℕ → Option (ℕ × List ℕ)
number_and k r = Some (k, r)

-- a number of objects that is written, from `least` to `most`
number_again : (least most m : ℕ) (rest : List ℕ) → least ≤ m → m ≤ most → most ≤ MOST_OBJECTS → field_at [] (pos least) (pos most) 32 ((decimal m ++ 32 ∷ []) ++ rest) ≡ Some (pos m, rest)
number_again least most m rest low high few =
    field_again [] (pos least) (pos most) 32 ((decimal m ++ 32 ∷ []) ++ rest) (pos m) rest space (small_fits m (omega arith)) (record { text = append_assoc (decimal m) (32 ∷ []) rest; low = omega (arith, ints); high = omega (arith, ints) })

objects_again : (v : Form) (n m : ℕ) (rest : List ℕ) → AreObjects v n m → objects_at v n (objects_word v m ++ rest) ≡ Some (m, rest)
unfolding objects_at
objects_again (Usual First) n m rest h = ap (λ (k : ℕ). number_and k rest) (sym h)
objects_again (Usual Second) n m rest h =
    let low : n < m = h.0 in
    let a = number_again (n + 1) 20000 m rest (omega arith) h.1 (omega arith) in
    rw a refl
objects_again Large n m rest h = let a = number_again n MOST_OBJECTS m rest h.0 h.1 (omega arith) in rw a refl

-- the number of objects that was read
pub record IsNumberFrom (least most : ℕ) (bytes : List ℕ) (m : ℕ) (rest : List ℕ) : Type 0 where
  pub text : bytes ≡ (decimal m ++ 32 ∷ []) ++ rest
  pub low : least ≤ m
  pub high : m ≤ most

number_taken : (least most : ℕ) (bytes : List ℕ) (z : ℤ) (r : List ℕ) (m : ℕ) (rest : List ℕ) → field_at [] (pos least) (pos most) 32 bytes ≡ Some (z, r) → ◌≡◌ {A = ℕ × List ℕ} (unsigned_abs z, r) (m, rest) → IsNumberFrom least most bytes m rest
number_taken least most bytes z r m rest a e =
    let f = field_takes [] (pos least) (pos most) 32 bytes z r a in
    let low : pos least ≤ℤ z = f.low in
    let high : z ≤ℤ pos most = f.high in
    let text : bytes ≡ (decimal (unsigned_abs z) ++ 32 ∷ []) ++ r = f.text ∙ ap (λ (y : ℤ). signed_decimal y ++ 32 ∷ r) (is_abs z (omega (arith, ints))) ∙ sym (append_assoc (decimal (unsigned_abs z)) (32 ∷ []) r) in
    let here : IsNumberFrom least most bytes (unsigned_abs z) r = record { text = text; low = omega (arith, ints); high = omega (arith, ints) } in
    subst (λ (x : ℕ × List ℕ). IsNumberFrom least most bytes x.0 x.1) e here

objects_takes : (v : Form) (n : ℕ) (bytes : List ℕ) (m : ℕ) (rest : List ℕ) → objects_at v n bytes ≡ Some (m, rest) → (bytes ≡ objects_word v m ++ rest) × AreObjects v n m
unfolding objects_at
objects_takes (Usual First) n bytes m rest e =
    let pair = some_is (n, bytes) (m, rest) e in
    (ap (λ (x : ℕ × List ℕ). x.1) pair, sym (ap (λ (x : ℕ × List ℕ). x.0) pair))
objects_takes (Usual Second) n bytes m rest e =
    let a = bind_some (field_at [] (pos (n + 1)) (pos 20000) 32 bytes) (λ x. Some (unsigned_abs x.0, x.1)) (m, rest) e in
    let t = number_taken (n + 1) 20000 bytes a.value.0 a.value.1 m rest a.gave (some_is (unsigned_abs a.value.0, a.value.1) (m, rest) a.goes_on) in
    (t.text, (omega (arith, t.low), t.high))
objects_takes Large n bytes m rest e =
    let a = bind_some (field_at [] (pos n) (pos MOST_OBJECTS) 32 bytes) (λ x. Some (unsigned_abs x.0, x.1)) (m, rest) e in
    let t = number_taken n MOST_OBJECTS bytes a.value.0 a.value.1 m rest a.gave (some_is (unsigned_abs a.value.0, a.value.1) (m, rest) a.goes_on) in
    (t.text, (t.low, t.high))

-- ---- optimal

three_sizes : (f a b c rest : List ℕ) → ((((((f ++ a) ++ (32 ∷ [])) ++ b) ++ (32 ∷ [])) ++ c) ++ (10 ∷ [])) ++ rest ≡ (f ++ a) ++ 32 ∷ ((b ++ 32 ∷ []) ++ (c ++ 10 ∷ rest))
three_sizes f a b c rest = simp append_assoc

optimal_text : (v : Form) (n m : ℕ) (cost : ℤ) (rest : List ℕ) → optimal_line v n m cost ++ rest ≡ (codes "optimal " ++ decimal n) ++ 32 ∷ (objects_word v m ++ (signed_decimal cost ++ 10 ∷ rest))
optimal_text (Usual First) n m cost rest = two_fields (codes "optimal ") (decimal n) (signed_decimal cost) rest
optimal_text (Usual Second) n m cost rest = three_sizes (codes "optimal ") (decimal n) (decimal m) (signed_decimal cost) rest
optimal_text Large n m cost rest = three_sizes (codes "optimal ") (decimal n) (decimal m) (signed_decimal cost) rest

optimal_steps : (v : Form) (bytes : List ℕ) (z0 z1 : ℤ) (m : ℕ) (r0 r1 r2 : List ℕ)
    → field_at (codes "optimal ") (pos 1) (pos (persons_in v)) 32 bytes ≡ Some (z0, r0)
    → objects_at v (unsigned_abs z0) r0 ≡ Some (m, r1)
    → long_at 10 r1 ≡ Some (z1, r2)
    → optimal_at v bytes ≡ Some (Optimal (unsigned_abs z0) m z1, r2)
unfolding optimal_at
optimal_steps v bytes z0 z1 m r0 r1 r2 a b c = rw (a, b, c) refl

optimal_again : (v : Form) (n m : ℕ) (cost : ℤ) (rest : List ℕ) → AreSizes v n m → FitsSigned w64 cost → optimal_at v (optimal_line v n m cost ++ rest) ≡ Some (Optimal n m cost, rest)
optimal_again v n m cost rest h fits =
    let r1 : List ℕ = signed_decimal cost ++ 10 ∷ rest in
    let r0 : List ℕ = objects_word v m ++ r1 in
    ap (optimal_at v) (optimal_text v n m cost rest)
    ∙ optimal_steps v ((codes "optimal " ++ decimal n) ++ 32 ∷ r0) (pos n) cost m r0 r1 rest (count_again v (codes "optimal ") n r0 h.count) (objects_again v n m r1 h.beside) (long_again 10 cost rest line_end fits)

optimal_takes : (v : Form) (bytes : List ℕ) (x : SecondLine × List ℕ) → optimal_at v bytes ≡ Some x → IsRead v bytes x
unfolding optimal_at
optimal_takes v bytes x e =
    let a = bind_some (field_at (codes "optimal ") (pos 1) (pos (persons_in v)) 32 bytes) _ x e in
    let o = bind_some (objects_at v (unsigned_abs a.value.0) a.value.1) _ x a.goes_on in
    let b = bind_some (long_at 10 o.value.1) _ x o.goes_on in
    let f = count_takes v (codes "optimal ") bytes a.value.0 a.value.1 a.gave in
    let objects = objects_takes v (unsigned_abs a.value.0) a.value.1 o.value.0 o.value.1 o.gave in
    let g = long_takes 10 o.value.1 b.value.0 b.value.1 b.gave in
    let n : ℕ = unsigned_abs a.value.0 in
    let read : IsRead v bytes (Optimal n o.value.0 b.value.0, b.value.1) = (
      f.text ∙ ap (λ (r : List ℕ). (codes "optimal " ++ decimal n) ++ 32 ∷ r) (objects.0 ∙ ap (λ (r : List ℕ). objects_word v o.value.0 ++ r) g.0) ∙ sym (optimal_text v n o.value.0 b.value.0 b.value.1),
      (record { count = f.is; beside = objects.1 }, g.1),
    ) in
    subst (IsRead v bytes) (some_is (Optimal n o.value.0 b.value.0, b.value.1) x b.goes_on) read

-- ---- infeasible

infeasible_steps : (v : Form) (bytes : List ℕ) (z0 z1 : ℤ) (r0 r1 : List ℕ)
    → field_at (codes "infeasible ") (pos 1) (pos (persons_in v)) 32 bytes ≡ Some (z0, r0)
    → field_at [] (pos (least_named v)) (pos (persons_in v)) 10 r0 ≡ Some (z1, r1)
    → infeasible_at v bytes ≡ Some (Infeasible (unsigned_abs z0) (unsigned_abs z1), r1)
unfolding infeasible_at
infeasible_steps v bytes z0 z1 r0 r1 a b = rw (a, b) refl

infeasible_again : (v : Form) (persons objects : ℕ) (rest : List ℕ) → AreCounts v persons objects → infeasible_at v (infeasible_line persons objects ++ rest) ≡ Some (Infeasible persons objects, rest)
infeasible_again v persons objects rest h =
    let r : List ℕ = decimal objects ++ 10 ∷ rest in
    let few : objects ≤ MOST_PERSONS = omega (arith, h.few, persons_few v) in
    let fits : objects ≤ persons_in v = h.few in
    let some : least_named v ≤ objects = h.some_objects in
    let b = field_again [] (pos (least_named v)) (pos (persons_in v)) 10 r (pos objects) rest line_end (small_fits objects (omega arith)) (record { text = refl; low = omega (arith, ints); high = omega (arith, ints) }) in
    ap (infeasible_at v) (two_fields (codes "infeasible ") (decimal persons) (decimal objects) rest)
    ∙ infeasible_steps v ((codes "infeasible " ++ decimal persons) ++ 32 ∷ r) (pos persons) (pos objects) r rest (count_again v (codes "infeasible ") persons r (record { some = h.some; most = h.most })) b

infeasible_takes : (v : Form) (bytes : List ℕ) (x : SecondLine × List ℕ) → infeasible_at v bytes ≡ Some x → IsRead v bytes x
unfolding infeasible_at
infeasible_takes v bytes x e =
    let a = bind_some (field_at (codes "infeasible ") (pos 1) (pos (persons_in v)) 32 bytes) _ x e in
    let b = bind_some (field_at [] (pos (least_named v)) (pos (persons_in v)) 10 a.value.1) _ x a.goes_on in
    let f = count_takes v (codes "infeasible ") bytes a.value.0 a.value.1 a.gave in
    let g = field_takes [] (pos (least_named v)) (pos (persons_in v)) 10 a.value.1 b.value.0 b.value.1 b.gave in
    let m : ℕ = unsigned_abs a.value.0 in
    let l : ℕ = unsigned_abs b.value.0 in
    let low : pos (least_named v) ≤ℤ b.value.0 = g.low in
    let high : b.value.0 ≤ℤ pos (persons_in v) = g.high in
    let text : a.value.1 ≡ decimal l ++ 10 ∷ b.value.1 = g.text ∙ ap (λ (y : ℤ). signed_decimal y ++ 10 ∷ b.value.1) (is_abs b.value.0 (omega (arith, ints))) in
    let read : IsRead v bytes (Infeasible m l, b.value.1) = (
      f.text ∙ ap (λ (r : List ℕ). (codes "infeasible " ++ decimal m) ++ 32 ∷ r) text ∙ sym (two_fields (codes "infeasible ") (decimal m) (decimal l) b.value.1),
      record { some = f.is.some; most = f.is.most; some_objects = omega (arith, ints); few = omega (arith, ints) },
    ) in
    subst (IsRead v bytes) (some_is (Infeasible m l, b.value.1) x b.goes_on) read

-- ---- brackets

found_passes : {X : Type 0} (p : X → Bool) (xs : List X) (x : X) → find p xs ≡ Some x → p x ≡ true
found_passes p [] x e = absurd cc
found_passes p (y ∷ ys) x e =
    elim (cases_Bool (p y)) [
      | inl here ↦ subst (λ z. p z ≡ true) (some_is y x (rw here at e)) here
      | inr later ↦ found_passes p ys x (rw later at e)
    ]

reason_takes : (word : List ℕ) (reason : Reason) → reason_of word ≡ Some reason → word ≡ reason_word reason
unfolding reason_of
reason_takes word reason e = same_text word (reason_word reason) (sym (found_passes (λ r. pointwise nat_eq word (reason_word r)) (Bids ∷ Ceiling ∷ Posts ∷ Trail ∷ Mail ∷ []) reason e))

reason_again : (reason : Reason) → reason_of (reason_word reason) ≡ Some reason
unfolding reason_of
reason_again Bids = refl
reason_again Ceiling = refl
reason_again Posts = refl
reason_again Trail = refl
reason_again Mail = refl

-- no mark is in a reason's word
reason_is_word : (reason : Reason) → (lacks 32 (reason_word reason) && lacks 10 (reason_word reason)) ≡ true
reason_is_word Bids = refl
reason_is_word Ceiling = refl
reason_is_word Posts = refl
reason_is_word Trail = refl
reason_is_word Mail = refl

five_fields : (f a b c d rest : List ℕ) → (((((((((f ++ a) ++ (32 ∷ [])) ++ b) ++ (32 ∷ [])) ++ c) ++ (32 ∷ [])) ++ d) ++ (10 ∷ [])) ++ rest) ≡ f ++ (a ++ 32 ∷ (b ++ 32 ∷ (c ++ 32 ∷ (d ++ 10 ∷ rest))))
five_fields f a b c d rest = simp append_assoc

six_fields : (f a b o c d rest : List ℕ) → (((((((((((f ++ a) ++ (32 ∷ [])) ++ b) ++ (32 ∷ [])) ++ o) ++ (32 ∷ [])) ++ c) ++ (32 ∷ [])) ++ d) ++ (10 ∷ [])) ++ rest) ≡ f ++ (a ++ 32 ∷ (b ++ 32 ∷ ((o ++ 32 ∷ []) ++ (c ++ 32 ∷ (d ++ 10 ∷ rest)))))
six_fields f a b o c d rest = simp append_assoc

bracket_text : (v : Form) (reason : Reason) (n m : ℕ) (lower cost : ℤ) (rest : List ℕ)
    → bracket_line v reason n m lower cost ++ rest ≡ codes "bracket " ++ (reason_word reason ++ 32 ∷ (decimal n ++ 32 ∷ (objects_word v m ++ (signed_decimal lower ++ 32 ∷ (signed_decimal cost ++ 10 ∷ rest)))))
bracket_text (Usual First) reason n m lower cost rest = five_fields (codes "bracket ") (reason_word reason) (decimal n) (signed_decimal lower) (signed_decimal cost) rest
bracket_text (Usual Second) reason n m lower cost rest = six_fields (codes "bracket ") (reason_word reason) (decimal n) (decimal m) (signed_decimal lower) (signed_decimal cost) rest
bracket_text Large reason n m lower cost rest = six_fields (codes "bracket ") (reason_word reason) (decimal n) (decimal m) (signed_decimal lower) (signed_decimal cost) rest

bracket_steps : (v : Form) (bytes r0 w r1 : List ℕ) (reason : Reason) (z0 z1 z2 : ℤ) (m : ℕ) (r2 r3 r4 r5 : List ℕ)
    → after (codes "bracket ") bytes ≡ Some r0
    → word_at 32 r0 ≡ Some (w, r1)
    → reason_of w ≡ Some reason
    → field_at [] (pos 1) (pos (persons_in v)) 32 r1 ≡ Some (z0, r2)
    → objects_at v (unsigned_abs z0) r2 ≡ Some (m, r3)
    → long_at 32 r3 ≡ Some (z1, r4)
    → long_at 10 r4 ≡ Some (z2, r5)
    → bracket_at v bytes ≡ Some (Bracket reason (unsigned_abs z0) m z1 z2, r5)
unfolding bracket_at
bracket_steps v bytes r0 w r1 reason z0 z1 z2 m r2 r3 r4 r5 a b c d o e f = rw (a, b, c, d, o, e, f) refl

bracket_again : (v : Form) (reason : Reason) (n m : ℕ) (lower cost : ℤ) (rest : List ℕ) → AreSizes v n m → FitsSigned w64 lower → FitsSigned w64 cost → bracket_at v (bracket_line v reason n m lower cost ++ rest) ≡ Some (Bracket reason n m lower cost, rest)
bracket_again v reason n m lower cost rest h low fits =
    let r4 : List ℕ = signed_decimal cost ++ 10 ∷ rest in
    let r3 : List ℕ = signed_decimal lower ++ 32 ∷ r4 in
    let r2 : List ℕ = objects_word v m ++ r3 in
    let r1 : List ℕ = decimal n ++ 32 ∷ r2 in
    let r0 : List ℕ = reason_word reason ++ 32 ∷ r1 in
    let whole = and_parts (lacks 32 (reason_word reason)) (lacks 10 (reason_word reason)) (reason_is_word reason) in
    ap (bracket_at v) (bracket_text v reason n m lower cost rest)
    ∙ bracket_steps v (codes "bracket " ++ r0) r0 (reason_word reason) r1 reason (pos n) lower cost m r2 r3 r4 rest
    (after_again (codes "bracket ") r0) (word_again 32 (reason_word reason) r1 (all_lack 32 (reason_word reason) whole.0)) (reason_again reason) (count_again v [] n r2 h.count) (objects_again v n m r3 h.beside)
    (long_again 32 lower r4 space low) (long_again 10 cost rest line_end fits)

bracket_takes : (v : Form) (bytes : List ℕ) (x : SecondLine × List ℕ) → bracket_at v bytes ≡ Some x → IsRead v bytes x
unfolding bracket_at
bracket_takes v bytes x e =
    let a = bind_some (after (codes "bracket ") bytes) _ x e in
    let b = bind_some (word_at 32 a.value) _ x a.goes_on in
    let c = bind_some (reason_of b.value.0) _ x b.goes_on in
    let d = bind_some (field_at [] (pos 1) (pos (persons_in v)) 32 b.value.1) _ x c.goes_on in
    let o = bind_some (objects_at v (unsigned_abs d.value.0) d.value.1) _ x d.goes_on in
    let f = bind_some (long_at 32 o.value.1) _ x o.goes_on in
    let g = bind_some (long_at 10 f.value.1) _ x f.goes_on in
    let count = count_takes v [] b.value.1 d.value.0 d.value.1 d.gave in
    let objects = objects_takes v (unsigned_abs d.value.0) d.value.1 o.value.0 o.value.1 o.gave in
    let low = long_takes 32 o.value.1 f.value.0 f.value.1 f.gave in
    let last = long_takes 10 f.value.1 g.value.0 g.value.1 g.gave in
    let n : ℕ = unsigned_abs d.value.0 in
    let m : ℕ = o.value.0 in
    let behind : d.value.1 ≡ objects_word v m ++ (signed_decimal f.value.0 ++ 32 ∷ (signed_decimal g.value.0 ++ 10 ∷ g.value.1)) = objects.0 ∙ ap (λ (r : List ℕ). objects_word v m ++ r) (low.0 ∙ ap (λ (r : List ℕ). signed_decimal f.value.0 ++ 32 ∷ r) last.0) in
    let text : bytes ≡ codes "bracket " ++ (reason_word c.value ++ 32 ∷ (decimal n ++ 32 ∷ (objects_word v m ++ (signed_decimal f.value.0 ++ 32 ∷ (signed_decimal g.value.0 ++ 10 ∷ g.value.1))))) =
    after_takes (codes "bracket ") bytes a.value a.gave
    ∙ ap (λ (r : List ℕ). codes "bracket " ++ r) (word_takes 32 a.value b.value.0 b.value.1 b.gave ∙ ap (λ (w : List ℕ). w ++ 32 ∷ b.value.1) (reason_takes b.value.0 c.value c.gave)
    ∙ ap (λ (r : List ℕ). reason_word c.value ++ 32 ∷ r) (count.text ∙ ap (λ (r : List ℕ). decimal n ++ 32 ∷ r) behind)) in
    let read : IsRead v bytes (Bracket c.value n m f.value.0 g.value.0, g.value.1) = (
      text ∙ sym (bracket_text v c.value n m f.value.0 g.value.0 g.value.1),
      record { sizes = record { count = count.is; beside = objects.1 }; lower_fits = low.1; cost_fits = last.1 },
    ) in
    subst (IsRead v bytes) (some_is (Bracket c.value n m f.value.0 g.value.0, g.value.1) x g.goes_on) read

-- ---- of whichever kind

pub first_or : {A : Type 0} (o other : Option A) (x : A) → option_or o other ≡ Some x → (o ≡ Some x) ⊎ (other ≡ Some x)
first_or (Some y) other x e = inl e
first_or None other x e = inr e

pub second_takes : (v : Form) (bytes : List ℕ) (second : SecondLine) (rest : List ℕ) → second_line_at v bytes ≡ Some (second, rest) → (bytes ≡ second_line v second ++ rest) × IsSecondLine v second
unfolding second_line_at
second_takes v bytes second rest e =
    elim (first_or (option_or (optimal_at v bytes) (infeasible_at v bytes)) (bracket_at v bytes) (second, rest) e) [
      | inl front ↦
          elim (first_or (optimal_at v bytes) (infeasible_at v bytes) (second, rest) front) [
            | inl is ↦ optimal_takes v bytes (second, rest) is
            | inr is ↦ infeasible_takes v bytes (second, rest) is
          ]
      | inr is ↦ bracket_takes v bytes (second, rest) is
    ]

not_optimal : (v : Form) (persons objects : ℕ) (rest : List ℕ) → optimal_at v (infeasible_line persons objects ++ rest) ≡ None
unfolding optimal_at field_at after
not_optimal v persons objects rest = refl

nor_optimal : (v w : Form) (reason : Reason) (n m : ℕ) (lower cost : ℤ) (rest : List ℕ) → optimal_at w (bracket_line v reason n m lower cost ++ rest) ≡ None
unfolding optimal_at field_at after
nor_optimal (Usual First) w reason n m lower cost rest = refl
nor_optimal (Usual Second) w reason n m lower cost rest = refl
nor_optimal Large w reason n m lower cost rest = refl

nor_infeasible : (v w : Form) (reason : Reason) (n m : ℕ) (lower cost : ℤ) (rest : List ℕ) → infeasible_at w (bracket_line v reason n m lower cost ++ rest) ≡ None
unfolding infeasible_at field_at after
nor_infeasible (Usual First) w reason n m lower cost rest = refl
nor_infeasible (Usual Second) w reason n m lower cost rest = refl
nor_infeasible Large w reason n m lower cost rest = refl

pub second_again : (v : Form) (second : SecondLine) (rest : List ℕ) → IsSecondLine v second → second_line_at v (second_line v second ++ rest) ≡ Some (second, rest)
unfolding second_line_at
second_again v (Optimal n m cost) rest h = rw (optimal_again v n m cost rest h.0 h.1) refl
second_again v (Infeasible persons objects) rest h = rw (not_optimal v persons objects rest, infeasible_again v persons objects rest h) refl
second_again v (Bracket reason n m lower cost) rest h = rw (nor_optimal v v reason n m lower cost rest, nor_infeasible v v reason n m lower cost rest, bracket_again v reason n m lower cost rest h.sizes h.lower_fits h.cost_fits) refl

-- no two second lines of a version look the same
pub second_once : (v : Form) (first second : SecondLine) → IsSecondLine v first → IsSecondLine v second → second_line v first ≡ second_line v second → first ≡ second
second_once v first second h k e =
    let pair = some_is (first, []) (second, []) (sym (second_again v first [] h) ∙ ap (λ (l : List ℕ). second_line_at v (l ++ [])) e ∙ second_again v second [] k) in
    ap (λ (x : SecondLine × List ℕ). x.0) pair

-- ---- each is a line

-- with the number of objects
sized_optimal_is_line : (n m : ℕ) (cost : ℤ) → n ≤ MOST_OBJECTS → m ≤ MOST_OBJECTS → FitsSigned w64 cost → IsLine (optimal_line Large n m cost)
sized_optimal_is_line n m cost most few fits =
    let start = and_then (codes "optimal ") (decimal n) (all_lack 10 (codes "optimal ") refl) (digits (pos n) (small_fits n most)) in
    record {
      word = codes "optimal " ++ decimal n ++ codes " " ++ decimal m ++ codes " " ++ signed_decimal cost;
      text = refl;
      whole = and_number (codes "optimal " ++ decimal n ++ codes " " ++ decimal m) cost (and_number (codes "optimal " ++ decimal n) (pos m) start (small_fits m few)) fits;
    }

optimal_is_line : (v : Form) (n m : ℕ) (cost : ℤ) → AreSizes v n m → FitsSigned w64 cost → IsLine (optimal_line v n m cost)
optimal_is_line (Usual First) n m cost h fits =
    record {
      word = codes "optimal " ++ decimal n ++ codes " " ++ signed_decimal cost;
      text = refl;
      whole = and_number (codes "optimal " ++ decimal n) cost (and_then (codes "optimal ") (decimal n) (all_lack 10 (codes "optimal ") refl) (digits (pos n) (small_fits n (persons_fit (Usual First) n m h)))) fits;
    }
optimal_is_line (Usual Second) n m cost h fits = sized_optimal_is_line n m cost (persons_fit (Usual Second) n m h) (objects_fit (Usual Second) n m h) fits
optimal_is_line Large n m cost h fits = sized_optimal_is_line n m cost (persons_fit Large n m h) (objects_fit Large n m h) fits

reason_front : (reason : Reason) → All (λ b. b ≢ 10) (codes "bracket " ++ reason_word reason)
reason_front reason =
    let whole = and_parts (lacks 32 (reason_word reason)) (lacks 10 (reason_word reason)) (reason_is_word reason) in
    and_then (codes "bracket ") (reason_word reason) (all_lack 10 (codes "bracket ") refl) (all_lack 10 (reason_word reason) whole.1)

sized_bracket_is_line : (reason : Reason) (n m : ℕ) (lower cost : ℤ) → n ≤ MOST_OBJECTS → m ≤ MOST_OBJECTS → FitsSigned w64 lower → FitsSigned w64 cost → IsLine (bracket_line Large reason n m lower cost)
sized_bracket_is_line reason n m lower cost most few low fits =
    let front : List ℕ = codes "bracket " ++ reason_word reason in
    let counts = and_number (front ++ codes " " ++ decimal n) (pos m) (and_number front (pos n) (reason_front reason) (small_fits n most)) (small_fits m few) in
    record {
      word = front ++ codes " " ++ decimal n ++ codes " " ++ decimal m ++ codes " " ++ signed_decimal lower ++ codes " " ++ signed_decimal cost;
      text = refl;
      whole = and_number (front ++ codes " " ++ decimal n ++ codes " " ++ decimal m ++ codes " " ++ signed_decimal lower) cost (and_number (front ++ codes " " ++ decimal n ++ codes " " ++ decimal m) lower counts low) fits;
    }

bracket_is_line : (v : Form) (reason : Reason) (n m : ℕ) (lower cost : ℤ) → AreSizes v n m → FitsSigned w64 lower → FitsSigned w64 cost → IsLine (bracket_line v reason n m lower cost)
bracket_is_line (Usual First) reason n m lower cost h low fits =
    let front : List ℕ = codes "bracket " ++ reason_word reason in
    record {
      word = front ++ codes " " ++ decimal n ++ codes " " ++ signed_decimal lower ++ codes " " ++ signed_decimal cost;
      text = refl;
      whole = and_number (front ++ codes " " ++ decimal n ++ codes " " ++ signed_decimal lower) cost (and_number (front ++ codes " " ++ decimal n) lower (and_number front (pos n) (reason_front reason) (small_fits n (persons_fit (Usual First) n m h))) low) fits;
    }
bracket_is_line (Usual Second) reason n m lower cost h low fits = sized_bracket_is_line reason n m lower cost (persons_fit (Usual Second) n m h) (objects_fit (Usual Second) n m h) low fits
bracket_is_line Large reason n m lower cost h low fits = sized_bracket_is_line reason n m lower cost (persons_fit Large n m h) (objects_fit Large n m h) low fits

pub second_is_line : (v : Form) (second : SecondLine) → IsSecondLine v second → IsLine (second_line v second)
second_is_line v (Optimal n m cost) h = optimal_is_line v n m cost h.0 h.1
second_is_line v (Infeasible persons objects) h =
    let most : persons ≤ MOST_PERSONS = omega (arith, h.most, persons_few v) in
    let few : objects ≤ MOST_PERSONS = omega (arith, h.few, persons_few v) in
    record {
      word = codes "infeasible " ++ decimal persons ++ codes " " ++ decimal objects;
      text = refl;
      whole = and_number (codes "infeasible " ++ decimal persons) (pos objects) (and_then (codes "infeasible ") (decimal persons) (all_lack 10 (codes "infeasible ") refl) (digits (pos persons) (small_fits persons (omega arith)))) (small_fits objects (omega arith));
    }
second_is_line v (Bracket reason n m lower cost) h = bracket_is_line v reason n m lower cost h.sizes h.lower_fits h.cost_fits
