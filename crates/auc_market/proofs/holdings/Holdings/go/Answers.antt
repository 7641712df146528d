use Rattle.std.proofs.Common.{w64}
use Rattle.std.specs.Prelude.{FitsSigned}
use Rattle.std.proofs.lemmas.Int.{to_z-of_z}
use Rattle.auc_market.proofs.Augmentations.{augmented_on}
use Rattle.auc_market.proofs.holdings.Holdings.go.Goals as goal

pub loop-place-preserved : goal.loop-place-preserved
loop-place-preserved c =
    let f : FitsSigned w64 c.args.eps = c.ranges.eps in
    let inv = simp to_z-of_z at c.loop-place.invariant in
    let taken = simp to_z-of_z at c.take_at_price-free.ensures in
    simp to_z-of_z (augmented_on c.args.rows.now c.args.eps c.args.person c.loop-place.free c.take_at_price-free.result c.args.self.now.prices.items c.loop-place.self.prices.items c.take_at_price-free.new.self.prices.items c.args.self.now.holders.items c.loop-place.self.holders.items c.take_at_price-free.new.self.holders.items c.args.self.now.owns.items c.loop-place.self.owns.items c.take_at_price-free.new.self.owns.items inv taken)
