use Rattle.std.proofs.Common.{◌≢◌, ◌<◌, arith, rules, get_or, pos, length, refl, w64, ap, of_z}
use Rattle.std.specs.Prelude.{FitsSigned}
use Rattle.std.proofs.lemmas.Int.{ints, to_z-of_z}
use Rattle.auc_dense.proofs.trying.pick_in.Goals as goal

pub returns : goal.returns
returns c =
    let gap_fits : FitsSigned w64 c.args.gap = c.ranges.gap in
    let lt : c.args.object < length c.args.row.now = omega (arith, c.if-object-row.false) in
    let cost_fits : FitsSigned w64 (get_or c.args.row.now c.args.object (pos 0)) = search rules in
    let low = simp to_z-of_z at c.if-cost.false in
    let high = simp to_z-of_z at c.if-cost-gt-MOST_COST.false in
    let own : get_or c.args.row.now c.args.object (pos 0) ≢ c.args.gap = λ e. c.if-cost-gap.false (ap (of_z w64) e) in
    simp to_z-of_z record { inside = lt; cost = refl; own = own; low = omega (arith, ints, low); high = omega (arith, ints, high) }
