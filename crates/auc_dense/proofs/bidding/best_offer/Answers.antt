use Rattle.std.proofs.Common.{ap, rules, w64, of_z}
use Rattle.std.specs.Prelude.{FitsSigned}
use Rattle.std.proofs.lemmas.Int.{to_z-of_z}
use Rattle.auc_dense.proofs.FoundLaws.{offer_is}
use Rattle.auc_dense.proofs.bidding.best_offer.Goals as goal

pub returns : goal.returns
returns c =
    let gap_fits : FitsSigned w64 c.args.gap = c.ranges.gap in
    let margin_fits : FitsSigned w64 c.margin_of-margin.result = search rules in
    let found = simp to_z-of_z at c.found_in-found.ensures in
    simp to_z-of_z (offer_is c.args.gap c.args.row.now c.args.prices.now c.found_in-found.result c.margin_of-margin.result found (λ e. c.if-found-eq9223372036854775807.false (ap (of_z w64) e)) c.margin_of-margin.ensures)
