use Rattle.std.proofs.Common.{pos, arith}
use Rattle.std.specs.Prelude.{FitsSigned, ◌*ℤ◌, ◌+ℤ◌, ◌<ℤ◌, ◌≤ℤ◌, int_div}
use Rattle.std.specs.Int.{w128}
use Rattle.std.proofs.lemmas.Int.{ints, to_z-of_z, to_z_pos, quot_fits}
use Rattle.auc_graph.proofs.LowerLaws.{lower_is_near, lower_is_next, near_fits, next_fits}
use Rattle.auc_graph.proofs.dual.lower_of.Goals as goal

pub returns-then-scale-near : goal.returns-then-scale-near
returns-then-scale-near c =
    let s = c.args.scale in
    let d = c.args.bound in
    let some = c.requires.some in
    let f1 : FitsSigned w128 d = c.ranges.bound in
    let e = to_z_pos w128 s (omega arith) in
    let f2 : FitsSigned w128 (int_div d (pos s)) = quot_fits w128 d (pos s) f1 (omega (arith, ints, some)) in
    let f3 : FitsSigned w128 (pos s *ℤ int_div d (pos s)) = near_fits s d some (omega arith) c.requires.low c.requires.high in
    let f4 : FitsSigned w128 (int_div d (pos s) +ℤ pos 1) = next_fits s d some (omega arith) c.requires.low c.requires.high in
    let test = simp (to_z-of_z, e) at c.if-scale-near.true in
    let lt : (pos s *ℤ int_div d (pos s)) <ℤ d = grind (arith, ints, test) in
    simp (to_z-of_z, e) (lower_is_next s d some lt)

pub returns-else-scale-near : goal.returns-else-scale-near
returns-else-scale-near c =
    let s = c.args.scale in
    let d = c.args.bound in
    let some = c.requires.some in
    let f1 : FitsSigned w128 d = c.ranges.bound in
    let e = to_z_pos w128 s (omega arith) in
    let f2 : FitsSigned w128 (int_div d (pos s)) = quot_fits w128 d (pos s) f1 (omega (arith, ints, some)) in
    let f3 : FitsSigned w128 (pos s *ℤ int_div d (pos s)) = near_fits s d some (omega arith) c.requires.low c.requires.high in
    let test = simp (to_z-of_z, e) at c.if-scale-near.false in
    let le : d ≤ℤ (pos s *ℤ int_div d (pos s)) = grind (arith, ints, test) in
    simp (to_z-of_z, e) (lower_is_near s d some le)
