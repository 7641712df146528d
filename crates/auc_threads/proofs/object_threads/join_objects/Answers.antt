use Rattle.std.proofs.Common.{rules, arith, ◌≡◌, vec_len}
use Rattle.std.specs.Vec.Iter.{into_iter_items}
use Rattle.auc_threads.proofs.PlacedLaws.{placed_more, placed_uncons}
use Rattle.auc_threads.proofs.StartsLaws.{object_result}
use Rattle.auc_threads.proofs.object_threads.join_objects.Goals as goal

pub loop-handle-init : goal.loop-handle-init
loop-handle-init g c =
    let e : into_iter_items c.into_iter-handle-iterator.result ≡ c.args.handles.items = search rules in
    let none : vec_len c.args.works.now ≡ 0 = search rules in
    record {
      left = rw (e, none) c.requires.promised;
      many = search rules;
      room = search rules;
      works = rw c.requires.none tt;
    }

pub loop-handle-preserved : goal.loop-handle-preserved
loop-handle-preserved g c =
    let inv = c.loop-handle.invariant in
    let step = c.in-Some.ensures.steps in
    let pushed = c.push_reserved.ensures in
    let left = placed_uncons _ (vec_len c.loop-handle.works) (into_iter_items c.loop-handle.handle-iterator) c.in-Some.handle (into_iter_items c.next.new.self) step.0 inv.left in
    record {
      left = rw pushed.len left.1;
      many = omega (arith, inv.many, step.1, pushed.len);
      room = omega (arith, inv.room, pushed.capacity);
      works = placed_more _ (vec_len c.loop-handle.works) c.loop-handle.works.items c.push_reserved.new.self.items c.join.result inv.works (search rules) pushed.items (object_result _ _ _ _ _ _ left.0 c.join.ensures);
    }
