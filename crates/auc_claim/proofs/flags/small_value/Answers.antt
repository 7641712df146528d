use Rattle.std.proofs.Common.{pos, w64, arith}
use Rattle.std.specs.Prelude.{FitsSigned, ◌*ℤ◌, ◌+ℤ◌}
use Rattle.std.proofs.lemmas.Int.{ints, to_z-of_z}
use Rattle.auc_claim.proofs.ValueLaws.{small_product, small_fits, small_high}
use Rattle.auc_claim.proofs.flags.small_value.Goals as goal

pub returns : goal.returns
returns c =
    let f1 : FitsSigned w64 c.args.cost = c.ranges.cost in
    let f2 : FitsSigned w64 c.args.price = c.ranges.price in
    let f3 : FitsSigned w64 (pos c.args.scale) = omega (arith, ints) in
    let f4 : FitsSigned w64 (pos c.args.scale *ℤ c.args.cost) = small_product c.args.scale c.args.cost c.args.price c.requires.scale c.requires.cost_low c.requires.cost_high c.requires.price in
    let f5 : FitsSigned w64 (pos c.args.scale *ℤ c.args.cost +ℤ c.args.price) = small_fits c.args.scale c.args.cost c.args.price c.requires.scale c.requires.cost_low c.requires.cost_high c.requires.price in
    record {
      is = rw c.from.ensures (simp to_z-of_z);
      high = rw c.from.ensures (simp to_z-of_z (small_high c.args.scale c.args.cost c.args.price c.requires.scale c.requires.cost_low c.requires.cost_high c.requires.price));
    }
