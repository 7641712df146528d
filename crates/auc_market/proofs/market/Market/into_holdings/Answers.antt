use Rattle.std.proofs.Common.{refl, rules, sym, ◌∙◌}
use Rattle.std.proofs.lemmas.Bool.{both_ways}
use Rattle.auc_market.proofs.Incumbents.{handed_on}
use Rattle.auc_market.proofs.Opening.{opened_many, opened_none}
use Rattle.auc_market.proofs.market.Market.into_holdings.Goals as goal

pub returns-in-Sold : goal.returns-in-Sold
returns-in-Sold c = rw (← c.self.view_is, c.in-Sold.is) (refl, refl, refl)

pub returns-then-not-incumbent : goal.returns-then-not-incumbent
returns-then-not-incumbent c = rw (← c.self.view_is, c.in-Stopped.is) (refl, (c.self.inside.eps, c.self.invariant.law.stands), λ whole. absurd (both_ways c.self.inside.incumbent.is_whole (search rules) whole))

pub take_up-requires : goal.take_up-requires
take_up-requires c =
    let is = c.self.invariant.incumbent_is in
    let seats = is.seats (search rules) in
    let held = c.self.inside.holdings.holders.items in
    let opened = c.open.new.self.holders.items in
    record {
      persons = c.persons.ensures.persons ∙ sym is.owns_are;
      may = record {
        blank = opened_none held opened c.open.ensures.holders;
        apart = rw (opened_many held opened c.open.ensures.holders, c.self.invariant.law.stands.holders_are) seats.1.apart;
      };
    }

pub returns : goal.returns
returns c =
    let law = c.self.invariant.law in
    let is = c.self.invariant.incumbent_is in
    let seats = is.seats (search rules) in
    let up = c.take_up.ensures in
    let held = c.take_up.result in
    let many = up.many ∙ opened_many c.self.inside.holdings.holders.items c.open.new.self.holders.items c.open.ensures.holders ∙ law.stands.holders_are in
    rw (← c.self.view_is, c.in-Stopped.is) (handed_on _ c.in-Stopped.field-0 law seats.0 is.owns_are seats.1 held.prices.items held.holders.items held.owns.items (up.prices ∙ c.open.ensures.prices) up.owns_are many up.taken)
