-- The version of a claim.
use Rattle.std.proofs.Common.{◌≡◌, ℕ, ◌≤◌, ◌<◌, true, false, nat_lt, eqb, eq-eqb, ◌-◌, List, [], ◌∷◌, length, get_or, refl, arith}
use Rattle.std.proofs.lemmas.Bool.{ne_eqb}
use Rattle.std.proofs.lemmas.Bool.Decides.{nat_tests}
use Rattle.auc_claim.specs.declared.version.Version.{Version}
use Rattle.auc_claim.specs.declared.version.Version.TheVariants.{First, Second}
use Rattle.auc_claim.specs.Spelled.{most_in, version_of_sizes, least_behind, names_version}
use Rattle.auc_claim.proofs.RisingLaws.{behind_last}

pub most_is_few : (version : Version) → most_in version ≤ 20000
most_is_few First = omega arith
most_is_few Second = omega arith

pub most_is_some : (version : Version) → 0 < most_in version
most_is_some First = omega arith
most_is_some Second = omega arith

pub most_above : (version : Version) (l : ℕ) → l ≤ 10000 → l ≤ most_in version
most_above First l le = omega arith
most_above Second l le = omega arith

pub sized_first : (n m : ℕ) → m ≡ n → version_of_sizes n m ≡ First
sized_first n m is = let t : eqb m n ≡ true = eq-eqb m n is in rw t refl

pub sized_second : (n m : ℕ) → n < m → version_of_sizes n m ≡ Second
sized_second n m lt = let t : eqb m n ≡ false = ne_eqb m n (λ e. omega arith) in rw t refl

pub named_first : (objects : List ℕ) → least_behind 0 objects ≤ 10000 → names_version objects ≡ First
named_first objects le = let t : nat_lt 10000 (least_behind 0 objects) ≡ false = grind (arith, nat_tests) in rw t refl

pub named_second : (objects : List ℕ) → 10000 < least_behind 0 objects → names_version objects ≡ Second
named_second objects lt = let t : nat_lt 10000 (least_behind 0 objects) ≡ true = grind (arith, nat_tests) in rw t refl

pub second_at : (objects : List ℕ) (d : ℕ) → 0 < length objects → 10000 ≤ get_or objects (length objects - 1) d → names_version objects ≡ Second
second_at objects d some high = named_second objects (omega (arith, high, behind_last 0 objects (length objects - 1) d (omega arith)))

pub first_at : (objects : List ℕ) (d : ℕ) → 0 < length objects → get_or objects (length objects - 1) d < 10000 → names_version objects ≡ First
first_at objects d some low = named_first objects (omega (arith, low, behind_last 0 objects (length objects - 1) d (omega arith)))

pub first_empty : (objects : List ℕ) → length objects ≡ 0 → names_version objects ≡ First
first_empty [] none = refl
first_empty (j ∷ objects) none = absurd (omega arith)
