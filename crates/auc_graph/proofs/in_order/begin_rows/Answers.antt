use Rattle.std.proofs.Common.{◌∷◌, [], get_or, ap, ◌∙◌, arith, length}
use Rattle.std.proofs.lemmas.List.{length-append}
use Rattle.auc_graph.proofs.InOrderLaws.{begun}
use Rattle.auc_graph.proofs.in_order.begin_rows.Goals as goal

pub loop-offsets-preserved : goal.loop-offsets-preserved
loop-offsets-preserved c = record {
  few = omega (arith, ap length c.push_reserved.ensures.items, length-append c.loop-offsets.offsets.items (c.args.at ∷ []));
  same = λ j. ap (λ xs. get_or xs j c.args.at) c.push_reserved.ensures.items ∙ begun c.loop-offsets.offsets.items c.args.at j ∙ c.loop-offsets.invariant.same j;
  room = c.push_reserved.ensures.capacity ∙ c.loop-offsets.invariant.room;
}
