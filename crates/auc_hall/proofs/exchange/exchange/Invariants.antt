use Rattle.auc_graph.specs.Table.{Table}
use Rattle.auc_hall.specs.Search.{IsAugmentingPath}
use Rattle.auc_hall.proofs.ExchangeLaws.{IsUnderWay}
use Rattle.auc_hall.proofs.exchange.exchange.Given as goal

abbrev pub invariant-loop-at : goal.invariant-loop-at
invariant-loop-at l = (t : Table) → IsAugmentingPath t l.fn.choice l.fn.holder l.queue l.fn.found.at l.fn.found.arc → IsUnderWay t l.queue l.fn.choice l.choice l.holder l.fn.found.arc.object l.at l.arc

abbrev pub decreases-loop-at : goal.decreases-loop-at
decreases-loop-at l = l.at
