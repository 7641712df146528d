use Rattle.std.specs.Prelude.{All}
use Rattle.auc_graph.specs.Table.{row_of}
use Rattle.auc_persons.specs.Blocks.{AreNumbered, HasArcs, IsUnknown}
use Rattle.auc_persons.proofs.SameRows.{Rises}
use Rattle.auc_persons.proofs.bidder.blocks.Blocks.make.Given as goal

abbrev pub invariant-loop-person : goal.invariant-loop-person
invariant-loop-person l = record {
  arcs : All (HasArcs l.rows) l.persons.items;
  rises : All (λ b. Rises (row_of l.rows b.person)) l.persons.items;
  numbered : All (AreNumbered l.bounds.items) l.persons.items;
  unknown : All IsUnknown l.bounds.items;
}
