use Rattle.std.proofs.Common.{◌≡◌, ◌<◌, ◌≤◌, length}
use Rattle.std.specs.Prelude.{All}
use Rattle.std.specs.VecDeque.{deque_capacity}
use Rattle.auc_letters.specs.Persons.{persons_of}
use Rattle.auc_persons.proofs.shard.idle_of.Given as goal

abbrev pub invariant-loop-person : goal.invariant-loop-person
invariant-loop-person l = record {
  items : l.idle.items ≡ persons_of l.shard l.of l.person;
  room : l.persons ≤ deque_capacity l.idle;
  few : length l.idle.items ≤ l.person;
  within : All (λ i. i < l.persons) l.idle.items;
}
