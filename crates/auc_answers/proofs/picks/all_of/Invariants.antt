use Rattle.std.proofs.Common.{◌≡◌, take, map, Some}
use Rattle.auc_answers.proofs.picks.all_of.Given as goal

abbrev pub invariant-loop-pick : goal.invariant-loop-pick
invariant-loop-pick l = map Some l.picks.items ≡ take l.pick-index l.found
