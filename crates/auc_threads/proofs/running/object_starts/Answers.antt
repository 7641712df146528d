use Rattle.std.proofs.Common.{◌≡◌, ◌+◌, rules, arith}
use Rattle.std.specs.Vec.Iter.{into_iter_items}
use Rattle.auc_threads.proofs.PlacedLaws.{placed_more, placed_then}
use Rattle.auc_threads.proofs.running.object_starts.Goals as goal

pub loop-seats-init : goal.loop-seats-init
loop-seats-init g c =
    let e : into_iter_items c.into_iter-seats-iterator.result ≡ c.args.seats.items = search rules in
    let same : c.args.task.now.limits.now.shards + 0 ≡ c.args.task.now.limits.now.shards = omega arith in
    record { left = rw (e, same) c.requires.seats; many = search rules; so_far = search rules; room = search rules; starts = search rules }

pub loop-seats-preserved : goal.loop-seats-preserved
loop-seats-preserved g c =
    let inv = c.loop-seats.invariant in
    let step = c.in-Some.ensures.steps in
    let pushed = c.push_reserved.ensures in
    let left = placed_then _ c.args.task.now.limits.now.shards c.loop-seats.number (into_iter_items c.loop-seats.seats-iterator) c.in-Some.seats (into_iter_items c.next.new.self) step.0 inv.left in
    record {
      left = left.1;
      many = omega (arith, inv.many, step.1);
      so_far = omega (arith, inv.so_far, pushed.len);
      room = omega (arith, inv.room, pushed.capacity);
      starts = placed_more _ c.loop-seats.number c.loop-seats.starts.items c.push_reserved.new.self.items _ inv.starts (search rules) pushed.items (record { shard = search rules; seats = left.0 });
    }
