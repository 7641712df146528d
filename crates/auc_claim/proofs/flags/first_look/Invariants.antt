use Rattle.std.proofs.Common.{◌≡◌, true, take, All}
use Rattle.auc_claim.specs.Claim.{is_missing, AreFlags}
use Rattle.auc_claim.proofs.SlackLaws.{IsNear}
use Rattle.auc_claim.proofs.flags.first_look.Given as goal

abbrev pub invariant-loop-arc : goal.invariant-loop-arc
invariant-loop-arc l = record {
  missing : AreFlags (is_missing (take l.arc-index l.arcs)) l.choice l.missing.items;
  slack : l.is_slack ≡ true → All (IsNear l.scale l.prices l.choice) (take l.arc-index l.arcs);
}
