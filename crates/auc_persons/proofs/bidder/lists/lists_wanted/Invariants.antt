use Rattle.std.proofs.Common.{◌≤◌}
use Rattle.auc_persons.proofs.bidder.lists.lists_wanted.Given as goal

abbrev pub invariant-loop-person : goal.invariant-loop-person
invariant-loop-person l = l.count ≤ l.person
