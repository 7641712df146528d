use Rattle.std.proofs.Common.{◌<◌, length, ap, arith}
use Rattle.auc_rows.specs.Rows.{FlatTable}
use Rattle.auc_graph.proofs.LayoutLaws.{length-rows_between}
use Rattle.auc_rows.proofs.rows.FlatRows.start.Goals as goal

pub index-requires : goal.index-requires
index-requires c =
    let lt : c.args.person < c.self.inside.laid.persons = omega (arith, c.requires, ap (λ (r : FlatTable). length r.rows) c.self.view_is, length-rows_between c.self.inside.laid.offsets.items c.self.inside.laid.arcs.items c.self.inside.laid.persons) in
    omega (arith, lt, c.self.invariant.0.count)
