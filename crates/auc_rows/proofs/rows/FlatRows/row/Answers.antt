use Rattle.std.proofs.Common.{◌<◌, length, sym, ap, ◌∙◌, arith}
use Rattle.auc_rows.specs.Rows.{IsFlatTable, FlatTable, flat_row_of}
use Rattle.auc_graph.proofs.LayoutLaws.{length-rows_between, row_at}
use Rattle.auc_rows.proofs.rows.FlatRows.row.Goals as goal

pub row-requires-clause-person : goal.row-requires-clause-person
row-requires-clause-person c = omega (arith, c.requires, ap (λ (r : FlatTable). length r.rows) c.self.view_is, length-rows_between c.self.inside.laid.offsets.items c.self.inside.laid.arcs.items c.self.inside.laid.persons)

row_is : goal.returns-clause-row
row_is c =
    let lt : c.args.person < c.self.inside.laid.persons = omega (arith, c.requires, ap (λ (r : FlatTable). length r.rows) c.self.view_is, length-rows_between c.self.inside.laid.offsets.items c.self.inside.laid.arcs.items c.self.inside.laid.persons) in
    rw c.row.ensures (sym (row_at c.self.inside.laid.offsets.items c.self.inside.laid.arcs.items c.self.inside.laid.persons c.args.person lt)
    ∙ ap (λ (r : FlatTable). flat_row_of r c.args.person) c.self.view_is)

pub returns-clause-row : goal.returns-clause-row
returns-clause-row c = row_is c

pub returns-clause-each : goal.returns-clause-each
returns-clause-each c =
    let sound : IsFlatTable c.args.self.now = rw c.self.view_is at c.self.invariant.1 in
    rw (row_is c) (sound.each c.args.person)
