use Rattle.std.proofs.Common.{◌≡◌, length}
use Rattle.auc_direct.proofs.HeldLaws.{AreSeen}
use Rattle.auc_direct.proofs.gathering.guessed.Given as goal

abbrev pub invariant-loop-person : goal.invariant-loop-person
invariant-loop-person l = record {
  many : length l.holders.items ≡ length l.holdings.holders.items;
  seen : AreSeen l.problem l.holdings.holders.items l.holdings.owns.items l.person l.holders.items;
}
