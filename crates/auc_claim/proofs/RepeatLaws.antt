-- The first object that occurs among earlier ones.
use Rattle.std.proofs.Common.{◌≡◌, ℕ, zero, suc, ◌+◌, ◌<◌, ◌≤◌, None, Bool, true, false, ◌||◌, List, [], ◌∷◌, length, map, get_or, set, take, drop, reverse, refl, sym, ap, ◌∙◌, arith, eqb}
use Rattle.std.specs.Prelude.{nat_eq}
use Rattle.std.specs.Prelude.{if◌then◌else◌, Some}
use Rattle.std.proofs.Common.{replicate, inl, inr, eq-eqb}
use Rattle.std.proofs.lemmas.Bool.{cases_eq}
use Rattle.std.proofs.lemmas.Bool.Decides.{nat_tests}
use Rattle.std.proofs.lemmas.Grind.{common_steps}
use Rattle.std.proofs.lemmas.List.{get_or-replicate, length-replicate, length-set, drop_all, drop_more, get_or-set_same, get_or-set_other}
use Rattle.std.specs.List.{list_any}
use Rattle.auc_claim.specs.declared.lists.Pick.{Pick}
use Rattle.auc_claim.specs.Claim.{repeated}

abbrev pub objects_of : List Pick → List ℕ
objects_of picks = map (λ c. c.object) picks

-- a flag for each object: whether it occurs among the earlier ones
abbrev pub HasSeen : List Bool → List ℕ → Type 0
HasSeen seen earlier = (j : ℕ) → j < length seen → get_or seen j false ≡ list_any (nat_eq j) earlier

pub at_first : (n : ℕ) → HasSeen (replicate n false) []
at_first n j lt = get_or-replicate n j false false (omega (arith, lt, length-replicate {A = Bool}))

reverse_more : (xs : List ℕ) (i : ℕ) → i < length xs → reverse (take (i + 1) xs) ≡ get_or xs i 0 ∷ reverse (take i xs)
reverse_more xs i lt = grind (arith, common_steps)

same_test : (j x : ℕ) → eqb j x ≡ eqb x j
same_test j x = grind (arith, nat_tests)

-- one more object, which was not seen
pub seen_more : (seen : List Bool) (xs : List ℕ) (i : ℕ) → i < length xs → HasSeen seen (reverse (take i xs)) → HasSeen (set seen (get_or xs i 0) true) (reverse (take (i + 1) xs))
seen_more seen xs i lt h j below =
    let there : j < length seen = omega (arith, below, length-set seen (get_or xs i 0) true) in
    let turned : list_any (nat_eq j) (reverse (take (i + 1) xs)) ≡ (eqb j (get_or xs i 0) || list_any (nat_eq j) (reverse (take i xs))) = ap (list_any (nat_eq j)) (reverse_more xs i lt) in
    elim (cases_eq j (get_or xs i 0)) [
      | inl same ↦
          let is : eqb j (get_or xs i 0) ≡ true = eq-eqb j (get_or xs i 0) same in
          let at : get_or (set seen (get_or xs i 0) true) j false ≡ true = rw (← same) (get_or-set_same seen j true false there) in
          at ∙ sym (turned ∙ rw is refl)
      | inr other ↦
          let is : eqb j (get_or xs i 0) ≡ false = grind (arith, nat_tests) in
          get_or-set_other seen (get_or xs i 0) j true false other ∙ h j there ∙ sym (turned ∙ rw is refl)
    ]

told_more : (xs : List ℕ) (i : ℕ) → i < length xs → repeated (reverse (take i xs)) (drop i xs) ≡ (if list_any (nat_eq (get_or xs i 0)) (reverse (take i xs)) then Some (get_or xs i 0) else repeated (reverse (take (i + 1) xs)) (drop (i + 1) xs))
told_more xs i lt = rw (drop_more xs i 0 lt, reverse_more xs i lt) refl

pub found : (seen : List Bool) (xs : List ℕ) (i : ℕ) → i < length xs → get_or xs i 0 < length seen → HasSeen seen (reverse (take i xs)) → get_or seen (get_or xs i 0) false ≡ true → repeated (reverse (take i xs)) (drop i xs) ≡ repeated [] xs → repeated [] xs ≡ Some (get_or xs i 0)
found seen xs i lt below h hit told =
    let here : list_any (nat_eq (get_or xs i 0)) (reverse (take i xs)) ≡ true = sym (h (get_or xs i 0) below) ∙ hit in
    sym told ∙ told_more xs i lt ∙ rw here refl

pub goes_on : (seen : List Bool) (xs : List ℕ) (i : ℕ) → i < length xs → get_or xs i 0 < length seen → HasSeen seen (reverse (take i xs)) → get_or seen (get_or xs i 0) false ≡ false → repeated (reverse (take i xs)) (drop i xs) ≡ repeated [] xs → repeated (reverse (take (i + 1) xs)) (drop (i + 1) xs) ≡ repeated [] xs
goes_on seen xs i lt below h nay told =
    let here : list_any (nat_eq (get_or xs i 0)) (reverse (take i xs)) ≡ false = sym (h (get_or xs i 0) below) ∙ nay in
    sym (told_more xs i lt ∙ rw here refl) ∙ told

pub object_at : (picks : List Pick) (i : ℕ) (d : Pick) → i < length picks → get_or (objects_of picks) i 0 ≡ (get_or picks i d).object
object_at [] i d lt = absurd (omega arith)
object_at (p ∷ picks) zero d lt = refl
object_at (p ∷ picks) (suc i) d lt = object_at picks i d (omega arith)

pub at_end : (xs : List ℕ) (i : ℕ) → length xs ≤ i → repeated (reverse (take i xs)) (drop i xs) ≡ repeated [] xs → repeated [] xs ≡ None
at_end xs i le told = sym told ∙ ap (repeated (reverse (take i xs))) (drop_all i xs le)
