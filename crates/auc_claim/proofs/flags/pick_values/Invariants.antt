use Rattle.std.proofs.Common.{◌≡◌, take}
use Rattle.std.specs.Prelude.{map}
use Rattle.auc_claim.specs.Claim.{pick_value}
use Rattle.auc_claim.proofs.flags.pick_values.Given as goal

abbrev pub invariant-loop-pick : goal.invariant-loop-pick
invariant-loop-pick l = l.values.items ≡ map (pick_value l.scale l.prices) (take l.pick-index l.choice)
