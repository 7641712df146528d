use Rattle.std.proofs.Common.{◌≡◌, length}
use Rattle.auc_direct.proofs.HeldLaws.{AreMet}
use Rattle.auc_direct.proofs.gathering.passed.Given as goal

abbrev pub invariant-loop-place : goal.invariant-loop-place
invariant-loop-place l = record {
  many : length l.holders.items ≡ length l.holdings.holders.items;
  met : AreMet l.problem l.holdings.holders.items l.holdings.owns.items l.place l.holders.items;
}
