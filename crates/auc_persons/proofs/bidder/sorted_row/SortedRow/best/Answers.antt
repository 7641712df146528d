use Rattle.std.proofs.Common.{◌<◌, length, refl, w64, rules}
use Rattle.std.specs.Prelude.{FitsSigned}
use Rattle.std.proofs.lemmas.Int.{to_z-of_z}
use Rattle.auc_graph.specs.Bid.{value}
use Rattle.auc_persons.specs.Scan.{copy_in}
use Rattle.auc_persons.proofs.RisingRows.{nears_first, nears_more, nears_whole}
use Rattle.auc_persons.proofs.bidder.sorted_row.SortedRow.best.Goals as goal

pub loop-place-init : goal.loop-place-init
loop-place-init c =
    let f2 : FitsSigned w64 c.value.result = search rules in
    let is = c.value.ensures.is in
    let some : 0 < length c.args.self.arcs.now = search rules in
    simp to_z-of_z (nears_first (value c.args.self.scale (copy_in c.args.self.copies.now)) c.args.self.arcs.now _ c.args.self.rising some is c.value.ensures.range refl refl)

pub loop-place-preserved : goal.loop-place-preserved
loop-place-preserved c =
    let f2 : FitsSigned w64 c.value-in-loop-place.result = search rules in
    let inv = c.loop-place.invariant in
    let is = c.value-in-loop-place.ensures.is in
    let drawn = simp to_z-of_z at c.with-nearest.ensures in
    nears_more (value c.args.self.scale (copy_in c.args.self.copies.now)) c.args.self.arcs.now c.loop-place.nearest c.with-nearest.result c.loop-place.place c.value-in-loop-place.result
    c.args.self.rising inv c.loop-place-test.true is c.value-in-loop-place.ensures.range drawn

pub returns-clause-some : goal.returns-clause-some
returns-clause-some c =
    let f2 : FitsSigned w64 c.loop-place.nearest.value = search rules in
    let f3 : FitsSigned w64 c.loop-place.nearest.second = search rules in
    simp to_z-of_z (nears_whole (value c.args.self.scale (copy_in c.args.self.copies.now)) c.args.self.arcs.now c.loop-place.nearest c.loop-place.place c.loop-place-test.false c.loop-place.invariant)
