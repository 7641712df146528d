use Rattle.std.proofs.Common.{take}
use Rattle.auc_claim.specs.Claim.{is_missing, AreFlags}
use Rattle.auc_claim.proofs.flags.missing_flags.Given as goal

abbrev pub invariant-loop-arc : goal.invariant-loop-arc
invariant-loop-arc l = AreFlags (is_missing (take l.arc-index l.arcs)) l.choice l.flags.items
