use Rattle.std.proofs.Common.{◌≡◌, ◌≤◌, ◌+◌, ◌*◌, take}
use Rattle.auc_persons.specs.Priced.{value_in}
use Rattle.auc_persons.specs.Candidates.{Gathered}
use Rattle.auc_persons.proofs.bidder.shortlist.Shortlist.take_part.Given as goal

abbrev pub invariant-loop-pair : goal.invariant-loop-pair
invariant-loop-pair l = record {
  gathered : Gathered (value_in l.row) (take (l.from + 2 * l.pair) l.row.arcs.now) l.self.arcs l.bound;
  order : l.from + 2 * l.pair ≤ l.to;
  bound : l.self.bound ≡ l.fn.self.bound;
  person : l.self.person ≡ l.fn.self.person;
}
