use Rattle.std.proofs.Common.{◌≡◌, arith, pos, w32, w64, ℤ}
use Rattle.std.specs.Prelude.{FitsSigned, ◌-ℤ◌, ◌*ℤ◌, ◌<ℤ◌}
use Rattle.std.proofs.lemmas.Int.{ints, to_z-of_z}
use Rattle.auc_direct.proofs.AdoptLaws.{scaled_price}
use Rattle.auc_direct.proofs.reduce.price_between.Goals as goal

pub returns-else-more-le0 : goal.returns-else-more-le0
returns-else-more-le0 c =
    let f0 : FitsSigned w32 c.args.cost = c.ranges.cost in
    let f1 : FitsSigned w32 c.args.greatest = c.ranges.greatest in
    let f2 : FitsSigned w64 c.args.scale = c.ranges.scale in
    let a : c.from.result ≡ c.args.greatest = simp to_z-of_z at c.from.ensures in
    let b : c.from-2.result ≡ c.args.cost = simp to_z-of_z at c.from-2.ensures in
    let d : ℤ = c.args.greatest -ℤ c.args.cost in
    let f3 : FitsSigned w64 c.args.greatest = omega (arith, ints, f1) in
    let f4 : FitsSigned w64 c.args.cost = omega (arith, ints, f0) in
    let f5 : FitsSigned w64 d = omega (arith, ints, f0, f1) in
    let more : pos 0 <ℤ d = (let t = rw (a, b) at c.if-more-le0.false in let u = simp to_z-of_z at t in omega (arith, ints, u)) in
    let is = scaled_price c.args.scale d c.requires.low c.requires.high (omega (arith, ints, more)) (omega (arith, ints, f0, f1)) in
    let f6 : FitsSigned w64 (c.args.scale *ℤ (c.args.greatest -ℤ c.args.cost)) = is.1 in
    rw (a, b) (simp to_z-of_z is.0)
