use Rattle.std.proofs.Common.{length, ap, arith, ◌∷◌, []}
use Rattle.std.proofs.lemmas.List.{length-append}
use Rattle.auc_call.proofs.PickLaws.{at_more, misplaced_past, misplaced_other}
use Rattle.auc_call.proofs.picking.picks_at.Goals as goal
use Rattle.auc_call.proofs.picking.picks_at.Goals.{then-place-arcs-via-then-place-arcs, then-place-arcs-via-else-place-arcs+then-arcs-place}

pub loop-i-preserved : goal.loop-i-preserved
loop-i-preserved c =
    let more = at_more c.args.arcs.now c.args.choice.now c.loop-i.i c.loop-i.picks.items c.loop-i-test.true c.if-place-arcs.false c.if-arcs-place.false c.loop-i.invariant.size c.loop-i.invariant.at in
    let e = c.in_ok-push.ensures.items in
    record {
      size = omega (arith, ap length e, length-append c.loop-i.picks.items (c.pick_of.result ∷ []), c.loop-i.invariant.size);
      at = rw (e, c.pick_of.ensures) more;
    }

pub returns-then-place-arcs-clause-misplaced : goal.returns-then-place-arcs-clause-misplaced
returns-then-place-arcs-clause-misplaced c = elim c.then-place-arcs.branch [
  | then-place-arcs-via-then-place-arcs w ↦ misplaced_past c.args.arcs.now c.args.choice.now c.loop-i.i c.loop-i.picks.items c.loop-i-test.true w.if-place-arcs.true c.loop-i.invariant.at
  | then-place-arcs-via-else-place-arcs+then-arcs-place w ↦ misplaced_other c.args.arcs.now c.args.choice.now c.loop-i.i c.loop-i.picks.items c.loop-i-test.true w.if-arcs-place.true c.loop-i.invariant.at
]
