use Rattle.std.proofs.Common.{◌≡◌, ℕ, ◌<◌, false, get_or, pos}
use Rattle.auc_claim.specs.Start.{is_high}
use Rattle.auc_claim.proofs.start.high_price.Given as goal

abbrev pub invariant-loop-object : goal.invariant-loop-object
invariant-loop-object l = (j : ℕ) → j < l.object → is_high (get_or l.prices j (pos 0)) ≡ false
