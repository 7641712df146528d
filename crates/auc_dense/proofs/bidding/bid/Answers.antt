use Rattle.std.proofs.Common.{◌≡◌, ◌<◌, arith, get_or, length, pos, refl, rules, subst, sym, w64, List}
use Rattle.std.specs.Prelude.{FitsSigned, ℤ}
use Rattle.std.proofs.lemmas.Int.{ints, to_z-of_z}
use Rattle.std.proofs.lemmas.List.{get_or_read}
use Rattle.auc_dense.specs.Bidding.{AreCosts, IsOffer}
use Rattle.auc_dense.specs.Table.{row_of}
use Rattle.auc_dense.specs.Tried.{IsPlainPrice}
use Rattle.auc_dense.proofs.BiddingLaws.{are_costs}
use Rattle.auc_dense.proofs.bidding.bid.Goals as goal

pub best_offer-requires-clause-costs : goal.best_offer-requires-clause-costs
best_offer-requires-clause-costs c =
    let gap_fits : FitsSigned w64 c.args.gap = c.ranges.gap in
    let turn = c.in-Some.ensures in
    let first = turn.has_begun in
    let within = turn.within in
    let known : c.in-Some.turn.person < c.args.table.now.persons = omega (arith, first, within) in
    simp to_z-of_z (subst (AreCosts c.args.gap) (sym c.row_of-row.ensures.row)
    (are_costs c.args.table.now.persons c.args.table.now.objects c.args.table.now.costs.now c.args.table.now.stride c.args.gap c.requires.problem c.requires.table.table c.in-Some.turn.person known))

pub returns : goal.returns
returns c = λ t.
    let gap_fits : FitsSigned w64 c.args.gap = c.ranges.gap in
    let margin_fits : FitsSigned w64 c.in-Some-best_offer.offer.margin = search rules in
    let price_fits : FitsSigned w64 c.price_after-price.result = search rules in
    let scale_fits : FitsSigned w64 c.scale_of.result = search rules in
    let before_fits : FitsSigned w64 c.index.result.now = search rules in
    let told = simp to_z-of_z at c.in-Some-best_offer.ensures in
    let by_row = subst (λ (row : List ℤ). IsOffer c.args.gap row c.as_slice.result.now c.in-Some-best_offer.offer) c.row_of-row.ensures.row told in
    let before = c.in-Some-best_offer.ensures.own.before in
    let len = c.row_of-row.ensures.len in
    let priced = c.requires.phase.priced in
    let inside : c.in-Some-best_offer.offer.object < length c.args.phase.now.prices.items = omega (arith, before, len, priced) in
    let read : c.index.result.now ≡ get_or c.args.phase.now.prices.items c.in-Some-best_offer.offer.object (pos 0) = get_or_read c.args.phase.now.prices.items _ _ inside c.index.ensures (pos 0) in
    let sum = simp to_z-of_z at c.price_after-price.ensures in
    let plain = simp to_z-of_z at (c.if-not-is_plain.ensures refl) in
    let awarded = simp to_z-of_z at c.award.ensures in
    record {
      turn = c.in-Some.turn;
      next = c.in-Some.ensures;
      offer = c.in-Some-best_offer.offer;
      best = subst (λ (xs : List ℤ). IsOffer c.args.gap (row_of c.args.table.now.objects c.args.table.now.costs.now c.args.table.now.stride c.in-Some.turn.person) xs c.in-Some-best_offer.offer) c.as_slice.ensures.value by_row;
      price = c.price_after-price.result;
      price_is = omega (arith, ints, sum, read);
      plain = subst (λ (scale : ℤ). IsPlainPrice scale c.price_after-price.result) c.scale_of.ensures plain;
      awarded = awarded;
    }
