use Rattle.std.proofs.Common.{◌≡◌, take, drop, length, reverse, []}
use Rattle.auc_claim.specs.Claim.{repeated}
use Rattle.auc_claim.proofs.RepeatLaws.{HasSeen, objects_of}
use Rattle.auc_claim.proofs.picks.repeated_object.Given as goal

abbrev pub invariant-loop-pick : goal.invariant-loop-pick
invariant-loop-pick l = record {
  room : length l.seen.items ≡ l.objects;
  seen : HasSeen l.seen.items (reverse (take l.pick-index (objects_of l.choice)));
  told : repeated (reverse (take l.pick-index (objects_of l.choice))) (drop l.pick-index (objects_of l.choice)) ≡ repeated [] (objects_of l.choice);
}
