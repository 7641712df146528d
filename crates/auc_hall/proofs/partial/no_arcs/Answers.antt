use Rattle.std.proofs.Common.{length, arith, ap, ◌∷◌, [], None}
use Rattle.std.proofs.lemmas.List.{length-append}
use Rattle.auc_hall.proofs.Options.{none_pushed}
use Rattle.auc_hall.proofs.partial.no_arcs.Goals as goal

pub loop-i-preserved : goal.loop-i-preserved
loop-i-preserved c =
    let e = c.in_ok-push.ensures.items in
    record {
      size = omega (arith, ap length e, length-append c.loop-i.out.items (None ∷ []), c.loop-i.invariant.size);
      none = rw e (none_pushed c.loop-i.out.items c.loop-i.invariant.none);
    }
