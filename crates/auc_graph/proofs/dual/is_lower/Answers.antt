use Rattle.std.proofs.Common.{◌<◌, ◌^◌, pos, w64, arith, lit<}
use Rattle.std.specs.Prelude.{FitsSigned, ◌*ℤ◌, ◌+ℤ◌}
use Rattle.std.specs.Int.{w128}
use Rattle.std.proofs.lemmas.Int.{ints, to_z-of_z, to_z_pos, fits_signed_mul}
use Rattle.auc_graph.proofs.LowerLaws.{tested_second}
use Rattle.auc_graph.proofs.dual.is_lower.Goals as goal

pub returns-then-bound-scaled : goal.returns-then-bound-scaled
returns-then-bound-scaled c =
    let s = c.args.scale in
    let d = c.args.bound in
    let l = c.args.lower in
    let few : s < 2 ^ 32 = omega arith in
    let e = to_z_pos w128 s (omega arith) in
    let f1 : FitsSigned w64 l = c.ranges.lower in
    let f2 : FitsSigned w128 d = c.ranges.bound in
    let f3 : FitsSigned w128 l = omega (arith, ints, f1) in
    let f4 : FitsSigned w128 (pos s *ℤ l) = fits_signed_mul w128 (pos s) l (2 ^ 32) (2 ^ 63) (omega arith) (omega (arith, ints, f1)) (lit< tt) in
    let f5 : FitsSigned w128 (d +ℤ pos s) = omega (arith, ints, c.requires.low, c.requires.high, few) in
    let first = simp (to_z-of_z, e) at c.if-bound-scaled.true in
    simp (to_z-of_z, e) (tested_second s d l first)
