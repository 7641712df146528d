use Rattle.std.proofs.Common.{◌≡◌, ℕ, ◌<◌, false, get_or}
use Rattle.auc_claim.specs.Claim.{is_flag}
use Rattle.auc_claim.proofs.flags.first_person.Given as goal

abbrev pub invariant-loop-i : goal.invariant-loop-i
invariant-loop-i l = (j : ℕ) → j < l.i → is_flag l.flag (get_or l.flags j false) ≡ false
