use Rattle.std.proofs.Common.{◌≡◌, length, take}
use Rattle.auc_claim.specs.Claim.{picked, AreListed}
use Rattle.auc_claim.proofs.picks.picked_flags.Given as goal

abbrev pub invariant-loop-pick : goal.invariant-loop-pick
invariant-loop-pick l = record {
  size : length l.flags.items ≡ l.objects;
  listed : AreListed (picked (take l.pick-index l.choice)) l.flags.items;
}
