use Rattle.std.proofs.Common.{ℕ, ◌<◌}
use Rattle.auc_hall.specs.Full.{HoldsOne}
use Rattle.auc_hall.proofs.full.hold_all.Given as goal

abbrev pub invariant-loop-person : goal.invariant-loop-person
invariant-loop-person l = (i : ℕ) → i < l.person → HoldsOne l.rows l.proposal.holders.items i
