use Rattle.std.proofs.Common.{ℤ, List}
use Rattle.auc_persons.specs.Candidates.{Kept}
use Rattle.auc_persons.proofs.bidder.lists.lists_of.Given as goal

abbrev pub invariant-loop-person : goal.invariant-loop-person
invariant-loop-person l = (copies : List ℤ) → Kept l.rows copies l.lists.items
