use Rattle.auc_rows.proofs.RowLaws.{are_rows, is_flat_table}
use Rattle.auc_rows.proofs.rows.FlatRows.build.Goals as goal

pub invariant_of-result : goal.invariant_of-result
invariant_of-result c =
    let laid = c.in_ok-laid.laid in
    let h = c.in_ok-laid.ensures in
    rw (h.persons, h.objects) (h.rows.layout, is_flat_table c.args.problem.now laid.spread laid.offsets.items laid.arcs.items h.problem h.rows h.low h.high)

pub returns : goal.returns
returns c =
    let laid = c.in_ok-laid.laid in
    let h = c.in_ok-laid.ensures in
    rw (h.persons, h.objects) (are_rows c.args.problem.now laid.spread laid.offsets.items laid.arcs.items h.problem h.rows h.spread)
