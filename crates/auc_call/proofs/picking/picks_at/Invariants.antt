use Rattle.std.proofs.Common.{◌≡◌, length, take}
use Rattle.auc_claim.specs.Claim.{chosen}
use Rattle.auc_call.specs.Memory.{AreAt}
use Rattle.auc_call.proofs.picking.picks_at.Given as goal

abbrev pub invariant-loop-i : goal.invariant-loop-i
invariant-loop-i l = record {
  size : length l.picks.items ≡ l.i;
  at : AreAt l.arcs (take l.i l.choice) (chosen 0 l.picks.items);
}
