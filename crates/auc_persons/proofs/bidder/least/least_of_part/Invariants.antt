use Rattle.auc_persons.specs.Priced.{value_in}
use Rattle.auc_persons.specs.Blocks.{Above}
use Rattle.auc_persons.proofs.bidder.least.least_of_part.Given as goal

abbrev pub invariant-loop-place : goal.invariant-loop-place
invariant-loop-place l = record {
  least : Above (value_in l.row) l.row.arcs.now l.from l.place l.least;
}
