use Rattle.std.proofs.Common.{w64, rules, refl}
use Rattle.std.specs.Prelude.{FitsSigned}
use Rattle.std.proofs.lemmas.Int.{to_z-of_z}
use Rattle.auc_persons.proofs.bidder.bid.bid_on.Goals as goal

pub returns : goal.returns
returns c =
    let f1 : FitsSigned w64 c.cost_spread.result = search rules in
    let f2 : FitsSigned w64 c.args.eps = c.ranges.eps in
    let f3 : FitsSigned w64 c.amount_of.result = search rules in
    let s = simp to_z-of_z at c.amount_of.ensures in
    let is = rw (c.of-row.ensures.scale, c.cost_spread.ensures.spread, c.of-row.ensures.copies, c.of-row.ensures.arcs) at s in
    simp to_z-of_z (c.args.found.best, is, refl)
