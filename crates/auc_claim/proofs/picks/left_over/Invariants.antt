use Rattle.std.proofs.Common.{◌≡◌, ℕ, ◌<◌, false}
use Rattle.auc_claim.specs.Claim.{is_left_over}
use Rattle.auc_claim.proofs.picks.left_over.Given as goal

abbrev pub invariant-loop-object : goal.invariant-loop-object
invariant-loop-object l = (j : ℕ) → j < l.object → is_left_over l.choice l.prices j ≡ false
