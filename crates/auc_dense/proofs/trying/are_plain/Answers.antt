use Rattle.std.proofs.Common.{arith, get_or, pos, refl, rules, w64}
use Rattle.std.specs.Prelude.{FitsSigned}
use Rattle.std.proofs.lemmas.Int.{to_z-of_z}
use Rattle.std.proofs.lemmas.List.{take_all}
use Rattle.std.proofs.lemmas.List.Elements.{All-more}
use Rattle.auc_dense.specs.Tried.{IsPlainPrice}
use Rattle.auc_dense.proofs.trying.are_plain.Goals as goal

pub loop-price-preserved : goal.loop-price-preserved
loop-price-preserved c =
    let fits : FitsSigned w64 c.args.scale = c.ranges.scale in
    let price_fits : FitsSigned w64 (get_or c.args.prices.now c.loop-price.price-index (pos 0)) = search rules in
    simp to_z-of_z (All-more (IsPlainPrice c.args.scale) c.args.prices.now c.loop-price.price-index (pos 0) c.loop-price-test.true (simp to_z-of_z at c.loop-price.invariant) (simp to_z-of_z at (c.if-not-is_plain.ensures refl)))

pub returns-clause-plain : goal.returns-clause-plain
returns-clause-plain c = λ t.
    let fits : FitsSigned w64 c.args.scale = c.ranges.scale in
    (rw (take_all c.loop-price.price-index c.args.prices.now (let o = c.loop-price-test.false in omega (arith, o))) at (simp to_z-of_z at c.loop-price.invariant))

pub returns-clause-prices : goal.returns-clause-prices
returns-clause-prices c = λ t k d lt. (returns-clause-plain c t k d lt).own
