use Rattle.std.proofs.Common.{rules, arith, vec_len}
use Rattle.std.specs.Vec.Iter.{into_iter_items}
use Rattle.auc_threads.proofs.PlacedLaws.{placed_more, placed_uncons}
use Rattle.auc_threads.proofs.mails.join_seats.Goals as goal

pub loop-objects-preserved : goal.loop-objects-preserved
loop-objects-preserved g c =
    let inv = c.loop-objects.invariant in
    let step = c.in-Some.ensures.steps in
    let persons = c.in-Some-next.ensures in
    let hub = c.in-Some-next-2.ensures in
    let pushed = c.push_reserved.ensures in
    let n = vec_len c.loop-objects.seats in
    let objects_left = placed_uncons _ n (into_iter_items c.loop-objects.objects-iterator) c.in-Some.objects (into_iter_items c.next.new.self) step.0 inv.objects_left in
    let persons_left = placed_uncons _ n (into_iter_items c.loop-objects.persons) c.in-Some-next.persons (into_iter_items c.next-in-loop-objects.new.self) persons.items inv.persons_left in
    let hub_left = placed_uncons _ n (into_iter_items c.loop-objects.hub) c.in-Some-next-2.hub (into_iter_items c.next-in-loop-objects-2.new.self) hub.items inv.hub_left in
    record {
      objects_left = rw pushed.len objects_left.1;
      persons_left = rw pushed.len persons_left.1;
      hub_left = rw pushed.len hub_left.1;
      persons_same = search rules;
      hub_same = search rules;
      many = omega (arith, inv.many, step.1, pushed.len);
      room = omega (arith, inv.room, pushed.capacity);
      seats = placed_more _ n c.loop-objects.seats.items c.push_reserved.new.self.items _ inv.seats (search rules) pushed.items (record { objects_seat = objects_left.0; persons_seat = persons_left.0; hub_seat = hub_left.0 });
    }
