use Rattle.std.proofs.Common.{◌≡◌, take, map}
use Rattle.auc_answers.specs.Claims.{pick_at}
use Rattle.auc_answers.proofs.picks.picks_by.Given as goal

abbrev pub invariant-loop-number : goal.invariant-loop-number
invariant-loop-number l = l.picks.items ≡ map (pick_at l.arcs) (take l.number-index l.numbers)
