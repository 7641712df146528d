use Rattle.std.proofs.Common.{[], ◌∷◌, ◌++◌, get_or, map, take, ap, sym, ◌∙◌, pos, rules, w64}
use Rattle.std.specs.Prelude.{FitsSigned}
use Rattle.std.proofs.lemmas.Int.{to_z-of_z}
use Rattle.auc_world.specs.declared.single_shard.lot.Lot.{Lot}
use Rattle.auc_world.specs.Lots.{holder_in, price_in}
use Rattle.auc_world.proofs.SingleSteps.{map_more}
use Rattle.auc_world.proofs.single_shard.kept.SingleShard.gather.Goals as goal

pub loop-lot-preserved : goal.loop-lot-preserved
loop-lot-preserved c =
    let old = c.loop-lot.invariant in
    let lots = c.deref-lot-items.result.now in
    let none : Lot = record { price = pos 0; person = 0; arc = 0 } in
    let lot : Lot = get_or lots c.loop-lot.lot-index none in
    let fits : FitsSigned w64 lot.price = search rules in
    record {
      holders = c.in_ok-push.ensures.items ∙ ap (λ xs. xs ++ c.holder.result ∷ []) old.holders ∙ ap (λ x. map holder_in (take c.loop-lot.lot-index lots) ++ x ∷ []) c.holder.ensures ∙ sym (map_more holder_in lots c.loop-lot.lot-index none c.loop-lot-test.true);
      prices = simp to_z-of_z at c.in_ok-push-2.ensures.items ∙ ap (λ xs. xs ++ lot.price ∷ []) old.prices ∙ sym (map_more price_in lots c.loop-lot.lot-index none c.loop-lot-test.true);
    }
