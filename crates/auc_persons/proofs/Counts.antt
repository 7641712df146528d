-- The number of free persons.
use Rattle.std.proofs.Common.{◌≡◌, ◌≢◌, ℕ, ◌+◌, ◌<◌, ◌≤◌, cond, List, length, get_or, set, refl, arith, length-set}
use Rattle.std.specs.Prelude.{count_by}
use Rattle.std.proofs.lemmas.List.Sums.{sum_by-set, count_by-le-length}
use Rattle.auc_letters.specs.declared.state.PersonState.{PersonState}
use Rattle.auc_letters.specs.declared.state.PersonState.TheVariants.{Free, Waits, Holds}
use Rattle.auc_letters.specs.Persons.{is_free}

abbrev pub one : PersonState → ℕ
one s = cond (is_free s) 1 0

busy_none : (s : PersonState) → s ≢ Free → one s ≡ 0
busy_none Free ne = absurd (ne refl)
busy_none (Waits j) ne = refl
busy_none (Holds j) ne = refl

at_most : (s : PersonState) → one s ≤ 1
at_most Free = omega arith
at_most (Waits j) = omega arith
at_most (Holds j) = omega arith

pub one_more : (states : List PersonState) (i : ℕ) → i < length states → get_or states i Free ≢ Free → count_by is_free (set states i Free) ≡ count_by is_free states + 1
one_more states i lt ne = omega (arith, sum_by-set one states i Free Free lt, busy_none (get_or states i Free) ne)

pub has_room : (states : List PersonState) (i : ℕ) → i < length states → get_or states i Free ≢ Free → count_by is_free states < length states
has_room states i lt ne = omega (arith, one_more states i lt ne, count_by-le-length is_free (set states i Free), length-set states i Free)

pub one_less : (states : List PersonState) (i j : ℕ) → i < length states → count_by is_free states ≤ count_by is_free (set states i (Waits j)) + 1
one_less states i j lt = omega (arith, sum_by-set one states i (Waits j) Free lt, at_most (get_or states i Free))
