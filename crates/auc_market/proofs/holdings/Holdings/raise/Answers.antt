use Rattle.std.proofs.Common.{◌≡◌, ◌<◌, ◌∙◌, arith, pos, length, rules, subst, sym, w64}
use Rattle.std.specs.Prelude.{FitsSigned}
use Rattle.std.proofs.lemmas.Int.{to_z-of_z}
use Rattle.std.proofs.lemmas.List.{get_or_read, get_or-set_other, length-set}
use Rattle.auc_graph.specs.Dual.{price_at}
use Rattle.auc_market.specs.declared.search.Rise.{Rise}
use Rattle.auc_market.specs.Path.{IsRise, no_rise, rise_at}
use Rattle.auc_market.proofs.Augmentations.{raised_next, set_back_next}
use Rattle.auc_market.proofs.holdings.Holdings.raise.Goals as goal

pub loop-place-preserved : goal.loop-place-preserved
loop-place-preserved c =
    let inv = c.loop-place.invariant in
    let rises = c.loop-place.rises in
    let n = c.loop-place.place in
    let now = c.loop-place.self.prices.items in
    let rise : Rise = rise_at rises n in
    let lt : n < length rises = search rules in
    let first : IsRise c.args.self.now.prices.items c.args.self.now.holders.items (rise_at c.args.rises.now n) = c.requires n no_rise (omega (arith, lt, (let m = inv.many in m))) in
    let may = subst (IsRise c.args.self.now.prices.items c.args.self.now.holders.items) (sym (inv.rest n (omega arith))) first in
    let f1 : FitsSigned w64 rise.amount = search rules in
    let f2 : FitsSigned w64 c.index-before.result.now = search rules in
    let room : rise.object < length now = (let k = may.known in let m = inv.raised.many in omega (arith, k, m)) in
    let before : c.index-before.result.now ≡ price_at now rise.object = get_or_read now rise.object c.index-before.result.now room c.index-before.ensures (pos 0) in
    simp to_z-of_z (rw before (record {
      raised = raised_next c.args.self.now.prices.items now c.args.self.now.holders.items rises n inv.raised may lt;
      back = set_back_next c.args.self.now.prices.items now c.args.self.now.holders.items rises n inv.raised may lt ∙ inv.back;
      many = length-set rises n _ ∙ inv.many;
      rest = λ m below. get_or-set_other rises n m _ no_rise (λ e. omega (arith, below, e)) ∙ inv.rest m (omega (arith, below));
      holders = inv.holders;
      owns = inv.owns;
    }))
