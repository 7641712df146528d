use Rattle.std.proofs.Common.{ℕ, ◌<◌, ◌≡◌, arith, get_or, length, pos, refl, w64, rules}
use Rattle.std.specs.Prelude.{All, FitsSigned, List, ℤ, ◌-ℤ◌, ◌*ℤ◌, ◌<ℤ◌, ◌≤ℤ◌}
use Rattle.std.proofs.lemmas.Int.{ints, to_z-of_z}
use Rattle.std.proofs.lemmas.List.Elements.{All-contains, All-get_or}
use Rattle.auc_graph.specs.Price.{IsPrice}
use Rattle.auc_rows.specs.declared.arc.ShortArc.{ShortArc}
use Rattle.auc_rows.specs.Rows.{FlatTable, IsFlatTable, IsShort, flat_row_of, scale_in}
use Rattle.auc_market.specs.declared.best.Best.{Best}
use Rattle.auc_market.specs.Scan.{endless, short_value}
use Rattle.auc_market.specs.Shortlist.{IsBest}
use Rattle.auc_market.proofs.BidLaws.{capped_between, margin_is, offer_is, raise_is}
use Rattle.auc_market.proofs.Bounds.{scaled_low}
use Rattle.auc_market.proofs.bid.bid_of.Goals as goal
use Rattle.auc_graph.proofs.ValueBounds.{price_fits}

-- the best arc leads to an object
best_below : (r : FlatTable) (val : ShortArc → ℤ) (i n : ℕ) (best : Best) → IsFlatTable r → n ≡ r.objects → IsBest val (flat_row_of r i) best → best.arc.object < n
best_below r val i n best sound many is = let o = (All-contains (IsShort r.objects) (flat_row_of r i) best.arc (sound.each i) is.listed).object in omega (arith, o, many)

-- the price of the best arc's object
price_in : (r : FlatTable) (val : ShortArc → ℤ) (prices : List ℤ) (i : ℕ) (best : Best) → IsFlatTable r → length prices ≡ r.objects → All IsPrice prices → IsBest val (flat_row_of r i) best → IsPrice (get_or prices best.arc.object (pos 0))
price_in r val prices i best sound many within is = All-get_or IsPrice prices best.arc.object (pos 0) (best_below r val i (length prices) best sound many is) within

pub amount_of-amount-requires-clause-low : goal.amount_of-amount-requires-clause-low
amount_of-amount-requires-clause-low c =
    let f1 : FitsSigned w64 c.args.eps = c.ranges.eps in
    let f2 : FitsSigned w64 c.least_of-least.result = search rules in
    let r = c.args.rows.now in
    let i = price_in r (short_value (scale_in r) c.args.prices.now) c.args.prices.now c.requires.best.0 c.args.best c.persons.ensures.sound c.requires.many c.requires.prices c.requires.best.1 in
    let f3 : FitsSigned w64 (get_or c.args.prices.now c.args.best.arc.object (pos 0)) = price_fits (get_or c.args.prices.now c.args.best.arc.object (pos 0)) i in
    let sum = simp to_z-of_z at c.least_of-least.ensures in
    let low = i.low in
    let some = c.requires.eps.low in
    simp to_z-of_z (omega (arith, ints, sum, low, some))

pub returns-clause-raise : goal.returns-clause-raise
returns-clause-raise c = λ person s.
    let f1 : FitsSigned w64 c.args.eps = c.ranges.eps in
    let f2 : FitsSigned w64 c.least_of-least.result = search rules in
    let f4 : FitsSigned w64 c.margin_of.result = search rules in
    let f6 : FitsSigned w64 c.amount_of-amount.result = search rules in
    let f7 : FitsSigned w64 c.args.best.value = search rules in
    let f8 : FitsSigned w64 c.args.best.second = search rules in
    let r = c.args.rows.now in
    let arc = c.args.best.arc in
    let val = short_value (scale_in r) c.args.prices.now in
    let below = best_below r val person (length c.args.prices.now) c.args.best c.persons.ensures.sound c.requires.many s in
    let i = price_in r val c.args.prices.now person c.args.best c.persons.ensures.sound c.requires.many c.requires.prices s in
    let f9 : FitsSigned w64 (get_or c.args.prices.now arc.object (pos 0)) = price_fits (get_or c.args.prices.now arc.object (pos 0)) i in
    let least = simp to_z-of_z at c.least_of-least.ensures in
    let between = capped_between c.least_of-least.result c.margin_of.result c.amount_of-amount.result (let m = simp to_z-of_z at c.if-least-gt-MOST_PRICE.false in omega (arith, ints, m)) c.margin_of.ensures.low (simp to_z-of_z at c.amount_of-amount.ensures.whole) (simp to_z-of_z at c.amount_of-amount.ensures.capped) in
    let low = between.0 in
    let high = between.1 in
    let next : c.args.best.second <ℤ endless → c.margin_of.result ≡ (c.args.best.second -ℤ c.args.best.value) = search rules in
    let margin = c.amount_of-amount.result -ℤ c.least_of-least.result in
    let lead = margin_is val (flat_row_of r person) c.args.best margin s (omega (arith, ints, low)) (λ h. (let n = next h in omega (arith, ints, high, n))) in
    simp to_z-of_z (raise_is (scale_in r) c.args.eps c.args.prices.now (flat_row_of r person) c.args.best margin c.amount_of-amount.result s lead below (omega (arith, ints, least)) c.requires.eps.low)

pub returns-clause-offer : goal.returns-clause-offer
returns-clause-offer c = λ person s.
    let f1 : FitsSigned w64 c.args.eps = c.ranges.eps in
    let f2 : FitsSigned w64 c.least_of-least.result = search rules in
    let f4 : FitsSigned w64 c.margin_of.result = search rules in
    let f6 : FitsSigned w64 c.amount_of-amount.result = search rules in
    let f7 : FitsSigned w64 c.args.best.value = search rules in
    let f8 : FitsSigned w64 c.args.best.second = search rules in
    let r = c.args.rows.now in
    let arc = c.args.best.arc in
    let val = short_value (scale_in r) c.args.prices.now in
    let i = price_in r val c.args.prices.now person c.args.best c.persons.ensures.sound c.requires.many c.requires.prices s in
    let f9 : FitsSigned w64 (get_or c.args.prices.now arc.object (pos 0)) = price_fits (get_or c.args.prices.now arc.object (pos 0)) i in
    let least = simp to_z-of_z at c.least_of-least.ensures in
    let between = capped_between c.least_of-least.result c.margin_of.result c.amount_of-amount.result (let m = simp to_z-of_z at c.if-least-gt-MOST_PRICE.false in omega (arith, ints, m)) c.margin_of.ensures.low (simp to_z-of_z at c.amount_of-amount.ensures.whole) (simp to_z-of_z at c.amount_of-amount.ensures.capped) in
    let low = between.0 in
    let high = between.1 in
    let next : c.args.best.second <ℤ endless → c.margin_of.result ≡ (c.args.best.second -ℤ c.args.best.value) = search rules in
    let only : endless ≤ℤ c.args.best.second → c.margin_of.result ≡ (scale_in r *ℤ r.spread) = search rules in
    let margin = c.amount_of-amount.result -ℤ c.least_of-least.result in
    simp to_z-of_z (offer_is (scale_in r) r.spread c.args.eps c.args.prices.now (flat_row_of r person) c.args.best margin (scale_in r *ℤ r.spread) c.amount_of-amount.result s
    (λ h. (let n = next h in omega (arith, ints, high, n))) (λ h. (let o = only h in omega (arith, ints, high, o))) (omega (arith, ints, low)) (scaled_low r c.persons.ensures.sound) refl (omega (arith, ints, least)))

pub returns-clause-within : goal.returns-clause-within
returns-clause-within c =
    let f2 : FitsSigned w64 c.least_of-least.result = search rules in
    let f4 : FitsSigned w64 c.margin_of.result = search rules in
    let f6 : FitsSigned w64 c.amount_of-amount.result = search rules in
    let between = capped_between c.least_of-least.result c.margin_of.result c.amount_of-amount.result (let m = simp to_z-of_z at c.if-least-gt-MOST_PRICE.false in omega (arith, ints, m)) c.margin_of.ensures.low (simp to_z-of_z at c.amount_of-amount.ensures.whole) (simp to_z-of_z at c.amount_of-amount.ensures.capped) in
    simp to_z-of_z between.2
