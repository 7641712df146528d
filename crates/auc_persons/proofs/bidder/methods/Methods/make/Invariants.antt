use Rattle.std.proofs.Common.{◌≡◌, ◌≤◌, length}
use Rattle.auc_persons.specs.Sorted.{AreWays}
use Rattle.auc_persons.proofs.bidder.methods.Methods.make.Given as goal

abbrev pub invariant-loop-person : goal.invariant-loop-person
invariant-loop-person l = record {
  methods : AreWays l.rows l.arcs.items l.methods.items;
  count : length l.methods.items ≡ l.person;
  lists : l.lists ≤ l.person;
}
