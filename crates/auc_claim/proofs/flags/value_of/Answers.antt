use Rattle.std.proofs.Common.{◌<◌, ◌^◌, pos, w64, arith}
use Rattle.std.specs.Prelude.{◌+ℤ◌, ◌*ℤ◌, FitsSigned}
use Rattle.std.specs.Int.{w128}
use Rattle.std.proofs.lemmas.Int.{to_z-of_z, to_z_pos}
use Rattle.auc_claim.proofs.ValueLaws.{wide, product_fits, value_fits, value_small}
use Rattle.auc_claim.proofs.flags.value_of.Goals as goal

pub returns : goal.returns
returns c =
    let f1 : FitsSigned w64 c.args.cost = c.ranges.cost in
    let f2 : FitsSigned w64 c.args.price = c.ranges.price in
    let g1 : FitsSigned w128 c.args.cost = wide c.args.cost f1 in
    let g2 : FitsSigned w128 c.args.price = wide c.args.price f2 in
    let lt : c.args.scale < 2 ^ 32 = omega arith in
    let big : c.args.scale < 2 ^ 127 = omega arith in
    let g3 : FitsSigned w128 (pos c.args.scale *ℤ c.args.cost) = product_fits c.args.scale c.args.cost lt f1 in
    let g4 : FitsSigned w128 (pos c.args.scale *ℤ c.args.cost +ℤ c.args.price) = value_fits c.args.scale c.args.cost c.args.price lt f1 f2 in
    let e = to_z_pos w128 c.args.scale big in
    let small = value_small c.args.scale c.args.cost c.args.price lt f1 f2 in
    record {
      is = simp (to_z-of_z, e);
      low = simp (to_z-of_z, e) small.0;
      high = simp (to_z-of_z, e) small.1;
    }
