use Rattle.auc_market.specs.Hall.{AreKnownTo}
use Rattle.auc_market.proofs.hall.known_to.Given as goal

abbrev pub invariant-loop-person : goal.invariant-loop-person
invariant-loop-person l = AreKnownTo l.rows l.is_in l.person l.seen.items
