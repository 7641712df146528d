use Rattle.auc_call.proofs.PlaceLaws.{Placed}
use Rattle.auc_call.proofs.places.find_places.Given as goal

abbrev pub invariant-loop-place : goal.invariant-loop-place
invariant-loop-place l = Placed l.arcs l.picks l.choice l.place
