use Rattle.std.proofs.Common.{◌≡◌, refl, w64, ◌∙◌}
use Rattle.std.specs.Prelude.{FitsSigned}
use Rattle.std.proofs.lemmas.Int.{to_z-of_z}
use Rattle.auc_market.proofs.Augmentations.{higher_same, raised_any, raised_stands, raised_unsold}
use Rattle.auc_market.proofs.holdings.Holdings.rise.Goals as goal
use Rattle.auc_market.proofs.holdings.Holdings.rise.Goals.{After-take_back}

pub are_within-requires-clause-stands : goal.are_within-requires-clause-stands
are_within-requires-clause-stands c =
    rw (c.raise.ensures.holders, c.raise.ensures.owns) (raised_any c.args.self.now.prices.items c.raise.new.self.prices.items c.args.self.now.holders.items c.raise.new.rises c.raise.ensures.raised c.args.rows.now c.args.eps c.args.self.now.owns.items c.requires.sound c.requires.stands)

pub returns-then-are_within-clause-stands : goal.returns-then-are_within-clause-stands
returns-then-are_within-clause-stands c =
    let f : FitsSigned w64 c.args.eps = c.ranges.eps in
    let within = rw (c.raise.ensures.holders, c.raise.ensures.owns) at (simp to_z-of_z at (c.if-are_within.ensures refl)) in
    rw (c.raise.ensures.holders, c.raise.ensures.owns) (raised_stands c.args.self.now.prices.items c.raise.new.self.prices.items c.args.self.now.holders.items c.raise.new.rises c.raise.ensures.raised c.args.rows.now c.args.eps c.args.self.now.owns.items c.requires.sound c.requires.stands within)

pub returns-then-are_within-clause-higher : goal.returns-then-are_within-clause-higher
returns-then-are_within-clause-higher c = c.raise.ensures.raised.higher

pub returns-then-are_within-clause-unsold : goal.returns-then-are_within-clause-unsold
returns-then-are_within-clause-unsold c =
    rw c.raise.ensures.holders (raised_unsold c.args.self.now.prices.items c.raise.new.self.prices.items c.args.self.now.holders.items c.raise.new.rises c.raise.ensures.raised)

same_prices : (c : After-take_back) → c.take_back.new.self.prices.items ≡ c.args.self.now.prices.items
same_prices c = c.take_back.ensures.prices ∙ c.raise.ensures.back

pub returns-clause-stands : goal.returns-clause-stands
returns-clause-stands c = rw (same_prices c, c.take_back.ensures.holders ∙ c.raise.ensures.holders, c.take_back.ensures.owns ∙ c.raise.ensures.owns) c.requires.stands

pub returns-clause-higher : goal.returns-clause-higher
returns-clause-higher c = rw (same_prices c) (higher_same c.args.self.now.prices.items)

pub returns-clause-unsold : goal.returns-clause-unsold
returns-clause-unsold c = rw (same_prices c, c.take_back.ensures.holders ∙ c.raise.ensures.holders) (λ u. u)
