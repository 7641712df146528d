use Rattle.std.proofs.Common.{ℕ, ◌<◌, length}
use Rattle.auc_rows.specs.Rows.{flat_row_of}
use Rattle.auc_rows.proofs.rows.FlatRows.each_has_arc.Given as goal

abbrev pub invariant-loop-person : goal.invariant-loop-person
invariant-loop-person l = (i : ℕ) → i < l.person → 0 < length (flat_row_of l.self i)
