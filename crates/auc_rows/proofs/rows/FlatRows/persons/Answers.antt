use Rattle.std.proofs.Common.{length, sym, ap, ◌∙◌}
use Rattle.auc_rows.specs.Rows.{FlatTable}
use Rattle.auc_graph.proofs.LayoutLaws.{length-rows_between}
use Rattle.auc_rows.proofs.rows.FlatRows.persons.Goals as goal

pub returns-clause-persons : goal.returns-clause-persons
returns-clause-persons c = sym (length-rows_between c.self.inside.laid.offsets.items c.self.inside.laid.arcs.items c.self.inside.laid.persons) ∙ ap (λ (r : FlatTable). length r.rows) c.self.view_is
