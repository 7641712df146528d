use Rattle.auc_call.proofs.PlaceLaws.{ArePlaced}
use Rattle.auc_call.proofs.places.are_places.Given as goal

abbrev pub invariant-loop-person : goal.invariant-loop-person
invariant-loop-person l = ArePlaced l.arcs l.picks l.places l.person
