use Rattle.std.proofs.Common.{ℕ, ◌<◌, ◌≡◌, get_or}
use Rattle.auc_rows.specs.Rows.{flat_row_of}
use Rattle.auc_direct.specs.Adopted.{IsFullRow}
use Rattle.auc_market.specs.Scan.{no_arc}
use Rattle.auc_direct.proofs.adopt.costs_of.Given as goal

abbrev pub invariant-loop-person : goal.invariant-loop-person
invariant-loop-person l = (i : ℕ) → i < l.person → IsFullRow l.rows.objects (flat_row_of l.rows i)

abbrev pub invariant-loop-object : goal.invariant-loop-object
invariant-loop-object l = (k : ℕ) → k < l.object → (get_or l.row k no_arc).object ≡ k
