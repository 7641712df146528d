use Rattle.std.proofs.Common.{◌≡◌, ◌++◌, drop, map}
use Rattle.auc_hall.specs.Assignment.{number_of}
use Rattle.auc_hall.specs.Chosen.{chosen}
use Rattle.auc_hall.proofs.completion.numbers_of.Given as goal

abbrev pub invariant-loop-picked : goal.invariant-loop-picked
invariant-loop-picked l = l.out.items ++ map number_of (chosen (drop l.picked-index l.choice)) ≡ map number_of (chosen l.choice)
