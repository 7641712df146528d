use Rattle.std.proofs.Common.{rules, arith, ◌*◌, ◌-◌, ◌<◌, vec_len}
use Rattle.auc_threads.proofs.PlacedLaws.{placed_got, placed_rest, placed_take}
use Rattle.auc_threads.proofs.running.starts_of.Goals as goal

pub person_starts-requires-clause-seats : goal.person_starts-requires-clause-seats
person_starts-requires-clause-seats g c = rw (c.in_ok-object_seats.ensures.items, c.in-Some.ensures.rest) (placed_take _ 0 _ _ (placed_take _ 0 _ _ c.requires.seats))

pub object_starts-requires-clause-seats : goal.object_starts-requires-clause-seats
object_starts-requires-clause-seats g c = rw (c.in_ok-object_seats.ensures.tail, c.in-Some.ensures.rest) (placed_rest _ _ c.args.task.now.limits.now.shards (placed_take _ 0 _ _ c.requires.seats))

pub returns : goal.returns
returns g c =
    let some : 0 < vec_len c.args.seats = omega (arith, c.requires.many) in
    let shards = c.args.task.now.limits.now.shards in
    record {
      persons = c.in_ok-persons.ensures.starts;
      persons_many = c.in_ok-persons.ensures.many;
      objects = c.in_ok-objects.ensures.starts;
      objects_many = c.in_ok-objects.ensures.many;
      hub = placed_got _ c.args.seats.items (vec_len c.args.seats - 1) (2 * shards) c.in-Some.hub c.requires.seats (search rules) (omega (arith, c.requires.many)) (c.in-Some.ensures.value c.in-Some.hub some);
    }
