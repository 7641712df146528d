use Rattle.std.proofs.Common.{◌∙◌, ap, length, refl, false, arith}
use Rattle.std.proofs.lemmas.List.{length-set}
use Rattle.auc_hall.proofs.SearchLaws.{all_left, none_left, left_set, left_beyond}
use Rattle.auc_hall.proofs.search.Search.forget.Goals.{then-object-len, else-object-len}
use Rattle.auc_hall.proofs.search.Search.forget.Goals as goal

pub loop-place-init : goal.loop-place-init
loop-place-init c = record { queue = refl; size = refl; left = all_left c.args.self.now.queue.items c.args.self.now.seen.items c.args.self.now.marks }

pub loop-place-preserved : goal.loop-place-preserved
loop-place-preserved c =
    let many = ap length c.loop-place.invariant.queue in
    let size = c.loop-place.invariant.size in
    let left = c.loop-place.invariant.left in
    elim c.if-object-len.branch [
      | then-object-len w ↦ rw w.self-is (record {
        queue = c.loop-place.invariant.queue;
        size = length-set c.loop-place.self.seen.items c.index.result.now.arc.object false ∙ size;
        left = left_set c.loop-place.self.queue.items c.loop-place.self.seen.items c.loop-place.place c.index.result.now (omega (arith, many)) c.index.ensures (omega (arith, w.if-object-len.true)) left;
      })
      | else-object-len w ↦ rw w.self-is (record {
        queue = c.loop-place.invariant.queue;
        size = size;
        left = left_beyond c.loop-place.self.queue.items c.loop-place.self.seen.items c.loop-place.place c.index.result.now (omega (arith, many)) c.index.ensures (omega (arith, w.if-object-len.false)) left;
      })
    ]

pub returns-clause-none : goal.returns-clause-none
returns-clause-none c = none_left c.loop-place.self.queue.items c.loop-place.self.seen.items c.loop-place.place (omega (arith, ap length c.loop-place.invariant.queue)) c.loop-place.invariant.left
