use Rattle.std.proofs.Common.{◌∙◌, ◌-◌, ◌+◌, arith, length, refl, rules, sym, w64}
use Rattle.std.specs.Prelude.{FitsSigned}
use Rattle.std.proofs.lemmas.Int.{to_z-of_z}
use Rattle.std.proofs.lemmas.List.{set_past}
use Rattle.auc_market.specs.Path.{rise_at}
use Rattle.auc_market.proofs.Augmentations.{set_back_on}
use Rattle.auc_market.proofs.holdings.Holdings.take_back.Goals as goal

pub loop-done-preserved-then-object-len : goal.loop-done-preserved-then-object-len
loop-done-preserved-then-object-len c =
    let inv = c.loop-done.invariant in
    let rises = c.args.rises.now in
    let now = c.loop-done.self.prices.items in
    let lt = c.loop-done-test.true in
    let left = length rises - (c.loop-done.done + 1) in
    let same = set_past now (rise_at rises left).object (rise_at rises left).amount (search rules) in
    record {
      back = set_back_on (length rises - c.loop-done.done) left rises now now (omega (arith, lt)) (sym same) ∙ inv.back;
      holders = inv.holders;
      owns = inv.owns;
    }

pub loop-done-preserved : goal.loop-done-preserved
loop-done-preserved c =
    let inv = c.loop-done.invariant in
    let rises = c.args.rises.now in
    let now = c.loop-done.self.prices.items in
    let lt = c.loop-done-test.true in
    let left = length rises - (c.loop-done.done + 1) in
    let f : FitsSigned w64 (rise_at rises left).amount = search rules in
    simp to_z-of_z (record {
      back = set_back_on (length rises - c.loop-done.done) left rises now _ (omega (arith, lt)) refl ∙ inv.back;
      holders = inv.holders;
      owns = inv.owns;
    })
