use Rattle.std.proofs.Common.{pos, ◌≡◌, ◌<◌, ◌^◌, arith, refl, rules, set, w64}
use Rattle.std.specs.Prelude.{FitsSigned, ◌+ℤ◌, ◌≤ℤ◌, ◌<ℤ◌}
use Rattle.std.proofs.lemmas.Int.{to_z-of_z}
use Rattle.std.proofs.lemmas.List.Elements.{All-contains}
use Rattle.auc_graph.specs.Dual.{price_at}
use Rattle.auc_rows.specs.Rows.{IsShort, flat_row_of, scale_in}
use Rattle.auc_market.specs.Bid.{IsOffer, IsRaise}
use Rattle.auc_market.specs.Market.{IsAwarded}
use Rattle.auc_market.specs.Scan.{short_value}
use Rattle.auc_market.specs.Shortlist.{IsBest}
use Rattle.auc_market.proofs.BidLaws.{best_least}
use Rattle.auc_market.proofs.MarketLaws.{awarded, holder_below}
use Rattle.auc_market.proofs.Shortlists.{kept_rises}
use Rattle.auc_market.proofs.holdings.Holdings.step.Goals as goal
use Rattle.auc_market.proofs.holdings.Holdings.step.Goals.{After-award, After-award-arg-1}

-- what is bid, at the prices of the holdings
raise_here : (c : After-award-arg-1) → IsRaise (scale_in c.args.rows.now) c.args.eps c.args.self.now.prices.items (flat_row_of c.args.rows.now c.args.person) c.in-Some.bid.arc c.in-Some.bid.amount
raise_here c =
    let f1 : FitsSigned w64 c.args.eps = c.ranges.eps in
    let f2 : FitsSigned w64 c.in-Some.bid.amount = search rules in
    rw c.as_slice-prices.ensures.value at (simp to_z-of_z at (c.in-Some.ensures.raise c.args.person (search rules)))

offer_here : (c : After-award-arg-1) → IsOffer (scale_in c.args.rows.now) c.args.rows.now.spread c.args.eps c.args.self.now.prices.items (flat_row_of c.args.rows.now c.args.person) c.in-Some.bid.arc c.in-Some.bid.amount
offer_here c =
    let f1 : FitsSigned w64 c.args.eps = c.ranges.eps in
    let f2 : FitsSigned w64 c.in-Some.bid.amount = search rules in
    rw c.as_slice-prices.ensures.value at (simp to_z-of_z at (c.in-Some.ensures.offer c.args.person (search rules)))

object_here : (c : After-award-arg-1) → c.in-Some.bid.arc.object < c.args.rows.now.objects
object_here c = (All-contains (IsShort c.args.rows.now.objects) (flat_row_of c.args.rows.now c.args.person) c.in-Some.bid.arc (c.scale.ensures.sound.each c.args.person) (raise_here c).listed).object

pub award-requires-clause-price : goal.award-requires-clause-price
award-requires-clause-price c = let l = object_here c in let e = c.requires.stands.prices_are in omega (arith, l, e)

pub award-requires-clause-holder : goal.award-requires-clause-holder
award-requires-clause-holder c = let l = object_here c in let e = c.requires.stands.holders_are in omega (arith, l, e)

pub award-requires-clause-earlier : goal.award-requires-clause-earlier
award-requires-clause-earlier c = λ some. (
    let l = holder_below c.args.rows.now c.args.eps c.args.self.now.prices.items c.args.self.now.holders.items c.args.self.now.owns.items c.scale.ensures.sound c.requires.stands c.in-Some.bid.arc.object some in
    let e = c.requires.stands.owns_are in
    omega (arith, l, e)
    )

pub returns-in_default-clause-high : goal.returns-in_default-clause-high
returns-in_default-clause-high c =
    let f1 : FitsSigned w64 c.args.eps = c.ranges.eps in
    let f2 : FitsSigned w64 c.best-best.result.value = search rules in
    let f3 : FitsSigned w64 c.best-best.result.second = search rules in
    let f4 : FitsSigned w64 c.scale.result = search rules in
    let r = c.args.rows.now in
    let prices = c.args.self.now.prices.items in
    let best : IsBest (short_value (scale_in r) prices) (flat_row_of r c.args.person) c.best-best.result = rw (c.as_slice-prices.ensures.value, c.scale.ensures.is) at (simp to_z-of_z at c.best-best.ensures.best) in
    let above : pos (2 ^ 61) <ℤ (price_at prices c.best-best.result.arc.object +ℤ c.args.eps) = rw c.as_slice-prices.ensures.value at (simp to_z-of_z at c.in_default.ensures.above) in
    record {
      prices_are = refl;
      holders_are = refl;
      owns_are = refl;
      above = record {
        person = c.args.person;
        known = c.requires.person;
        free = c.requires.none;
        arc = c.best-best.result.arc;
        listed = best.listed;
        best = best_least (short_value (scale_in r) prices) (flat_row_of r c.args.person) c.best-best.result best;
        above = above;
      };
    }

pub returns-in_default-clause-kept : goal.returns-in_default-clause-kept
returns-in_default-clause-kept c = rw c.as_slice-prices.ensures.value at c.best-best.ensures.kept

awarded_here : (c : After-award) → IsAwarded c.args.rows.now c.args.eps c.args.person c.args.self.now.prices.items c.award.new.self.prices.items c.award.new.self.holders.items c.args.self.now.owns.items c.award.new.self.owns.items c.award.result
awarded_here c =
    let high : c.in-Some.bid.amount ≤ℤ pos (2 ^ 61) = c.in-Some.ensures.within in
    let prices : c.award.new.self.prices.items ≡ set c.args.self.now.prices.items c.in-Some.bid.arc.object c.in-Some.bid.amount = search rules in
    awarded c.args.rows.now c.args.eps c.args.person c.args.self.now.prices.items c.award.new.self.prices.items c.args.self.now.holders.items c.award.new.self.holders.items c.args.self.now.owns.items c.award.new.self.owns.items c.award.result c.in-Some.bid.arc c.in-Some.bid.amount
    c.scale.ensures.sound c.requires.eps c.requires.stands c.requires.person c.requires.none (raise_here c.before) high prices c.award.ensures.holders c.award.ensures.owns c.award.ensures.earlier

pub returns-clause-awarded : goal.returns-clause-awarded
returns-clause-awarded c = awarded_here c

pub returns-clause-kept : goal.returns-clause-kept
returns-clause-kept c = kept_rises c.args.rows.now c.args.self.now.prices.items c.award.new.self.prices.items c.best-best.new.self.lists.items (awarded_here c).higher (rw c.as_slice-prices.ensures.value at c.best-best.ensures.kept)

pub returns-clause-made : goal.returns-clause-made
returns-clause-made c =
    let prices : c.award.new.self.prices.items ≡ set c.args.self.now.prices.items c.in-Some.bid.arc.object c.in-Some.bid.amount = search rules in
    record {
      person = c.args.person;
      known = c.requires.person;
      free = c.requires.none;
      arc = c.in-Some.bid.arc;
      amount = c.in-Some.bid.amount;
      offer = offer_here c.before;
      prices = prices;
      holders = c.award.ensures.holders;
      owns = c.award.ensures.owns;
    }
