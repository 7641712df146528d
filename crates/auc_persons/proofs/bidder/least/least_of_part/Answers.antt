use Rattle.std.proofs.Common.{◌<◌, length, w64, arith, rules}
use Rattle.std.specs.Prelude.{FitsSigned}
use Rattle.std.proofs.lemmas.Int.{ints, to_z-of_z}
use Rattle.auc_persons.specs.Priced.{value_in}
use Rattle.auc_persons.proofs.Parts.{above_more}
use Rattle.auc_persons.proofs.bidder.least.least_of_part.Goals as goal

pub loop-place-preserved : goal.loop-place-preserved
loop-place-preserved c =
    let f2 : FitsSigned w64 c.value.result = search rules in
    let f3 : FitsSigned w64 c.min-least.result = search rules in
    let val = value_in c.args.row in
    let row = c.args.row.arcs.now in
    let i = c.loop-place.place in
    let lt : i < length row = omega (arith, c.loop-place-test.true, c.requires.within) in
    let inv = c.loop-place.invariant in
    let is = c.value.ensures.is in
    let other = simp to_z-of_z at c.min-least.ensures.other_bound in
    simp to_z-of_z (record { least = above_more val row c.args.from i _ c.min-least.result lt inv.least c.min-least.ensures.self_bound (omega (arith, ints, other, is)) })
