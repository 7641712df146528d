use Rattle.std.proofs.Common.{rules, arith, ◌≡◌, of_z, to_z, w64}
use Rattle.std.specs.Prelude.{FitsSigned}
use Rattle.std.proofs.lemmas.Int.{to_z-of_z}
use Rattle.std.specs.Vec.Iter.{into_iter_items}
use Rattle.auc_threads.proofs.PlacedLaws.{placed_more, placed_uncons}
use Rattle.auc_threads.proofs.object_threads.start_objects.Goals as goal

pub loop-start-init : goal.loop-start-init
loop-start-init g c =
    let e : into_iter_items c.into_iter-start-iterator.result ≡ c.args.starts.items = search rules in
    record {
      left = rw e c.requires.starts;
      many = search rules;
      so_far = search rules;
      room = search rules;
      promised = rw c.requires.none tt;
    }

pub loop-start-preserved : goal.loop-start-preserved
loop-start-preserved g c =
    let inv = c.loop-start.invariant in
    let step = c.in-Some.ensures.steps in
    let ok = c.in-Ok.ensures.ok in
    let pushed = c.push_reserved.ensures in
    let fits : FitsSigned w64 c.args.run.now.task.eps = search rules in
    let same : to_z w64 (of_z w64 c.args.run.now.task.eps) ≡ c.args.run.now.task.eps = to_z-of_z w64 c.args.run.now.task.eps fits in
    let left = placed_uncons _ c.loop-start.number (into_iter_items c.loop-start.start-iterator) c.in-Some.start (into_iter_items c.next.new.self) step.0 inv.left in
    record {
      left = left.1;
      many = omega (arith, inv.many, step.1);
      so_far = omega (arith, inv.so_far, pushed.len);
      room = omega (arith, inv.room, pushed.capacity);
      promised = placed_more _ c.loop-start.number c.loop-start.handles.items c.push_reserved.new.self.items c.in-Ok.handle inv.promised (search rules) pushed.items (rw (ok, c.of.ensures) (record { at_eps = same; begins = left.0 }));
    }
