use Rattle.std.proofs.Common.{length, pos}
use Rattle.auc_market.specs.Endings.{IsStart}
use Rattle.auc_market.proofs.Opening.{stands_opened}
use Rattle.auc_market.proofs.market.Market.new.Goals as goal

pub with-requires-clause-stands : goal.with-requires-clause-stands
with-requires-clause-stands c =
    let h = c.in_ok-holdings.holdings in
    let empty = c.in_ok-holdings.ensures in
    let start : IsStart c.args.rows.now (pos 1) h.prices.items = rw empty.prices c.requires.start in
    stands_opened c.args.rows.now (pos 1) (pos 1) h.prices.items h.holders.items h.owns.items (length c.args.prices.items) c.persons.result start c.requires.start.each c.persons.ensures.persons empty.holders empty.owns

pub returns-clause-prices : goal.returns-clause-prices
returns-clause-prices c = rw c.in_ok-holdings.ensures.prices at c.with.ensures.prices
