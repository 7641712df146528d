use Rattle.std.proofs.Common.{◌≡◌, take}
use Rattle.auc_graph.specs.Rising.{Rises}
use Rattle.auc_claim.specs.Spelled.{least_behind}
use Rattle.auc_claim.proofs.cert.do_rise.Given as goal

abbrev pub invariant-loop-number : goal.invariant-loop-number
invariant-loop-number l = record {
  rises : Rises 0 l.end (take l.number-index l.numbers);
  least : l.least ≡ least_behind 0 (take l.number-index l.numbers);
}
