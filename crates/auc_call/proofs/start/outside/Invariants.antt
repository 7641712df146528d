use Rattle.std.proofs.Common.{◌≡◌, ℕ, ◌<◌, false, get_or, pos}
use Rattle.auc_call.specs.Start.{is_outside}
use Rattle.auc_call.proofs.start.outside.Given as goal

abbrev pub invariant-loop-object : goal.invariant-loop-object
invariant-loop-object l = (j : ℕ) → j < l.object → is_outside (get_or l.prices j (pos 0)) ≡ false
