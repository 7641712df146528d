use Rattle.std.proofs.Common.{◌≡◌, ◌≤◌, length}
use Rattle.std.specs.VecDeque.{deque_capacity}
use Rattle.auc_letters.specs.Persons.{persons_of}
use Rattle.auc_world.proofs.single_shard.kept.all_persons.Given as goal

abbrev pub invariant-loop-person : goal.invariant-loop-person
invariant-loop-person l = record {
  items : l.idle.items ≡ persons_of 0 1 l.person;
  room : l.persons ≤ deque_capacity l.idle;
  few : length l.idle.items ≤ l.person;
}
