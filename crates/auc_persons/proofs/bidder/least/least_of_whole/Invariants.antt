use Rattle.std.proofs.Common.{◌+◌}
use Rattle.auc_persons.specs.Priced.{value_in}
use Rattle.auc_persons.specs.Blocks.{Above}
use Rattle.auc_persons.proofs.bidder.least.least_of_whole.Given as goal

abbrev pub invariant-loop-number : goal.invariant-loop-number
invariant-loop-number l = record {
  least : Above (value_in l.row) l.row.arcs.now l.from (l.from + l.number) l.least;
}
