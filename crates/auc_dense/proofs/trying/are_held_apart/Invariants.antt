use Rattle.std.proofs.Common.{◌≡◌, ℕ, ◌<◌, length, get_or}
use Rattle.auc_dense.specs.Tried.{pick_at}
use Rattle.auc_dense.proofs.trying.are_held_apart.Given as goal

abbrev pub invariant-loop-person : goal.invariant-loop-person
invariant-loop-person l = (person : ℕ) → person < l.person → get_or l.holders (pick_at l.picks person).object (length l.picks) ≡ person
