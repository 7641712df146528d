use Rattle.std.proofs.Common.{◌≡◌, ◌≢◌, ℕ, ◌<◌, length, get_or, pos}
use Rattle.auc_dense.specs.Tried.{pick_at}
use Rattle.auc_dense.proofs.trying.are_others_free.Given as goal

abbrev pub invariant-loop-object : goal.invariant-loop-object
invariant-loop-object l = (object : ℕ) → object < l.object → get_or l.prices object (pos 0) ≢ pos 0 → (person : ℕ) × (person < length l.picks) × ((pick_at l.picks person).object ≡ object)
