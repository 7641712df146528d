use Rattle.std.proofs.Common.{◌≡◌, length}
use Rattle.auc_market.specs.Position.{Position}
use Rattle.auc_market.specs.Starts.{AreOpened}
use Rattle.auc_market.proofs.Moving.{on_ok}
use Rattle.auc_market.proofs.StartLaws.{nothing_owned, seated_none}
use Rattle.auc_market.proofs.market.Market.from_start.Goals as goal

pub open_at-requires-clause-seated : goal.open_at-requires-clause-seated
open_at-requires-clause-seated c =
    let first = c.in_ok-prices.ensures in
    let empty = c.in_ok-holdings.ensures in
    let prices = c.in_ok-prices.prices.items in
    rw empty.prices (seated_none c.args.rows.now c.args.start.now prices c.in_ok-holdings.holdings.holders.items c.in_ok-holdings.holdings.owns.items (length prices) c.persons.result first.start first.kept first.same first.start.each c.persons.ensures.persons empty.holders empty.owns)

pub open_at-requires-clause-none : goal.open_at-requires-clause-none
open_at-requires-clause-none c = nothing_owned c.in_ok-holdings.holdings.owns.items c.persons.result c.in_ok-holdings.ensures.owns

pub returns-clause-opened : goal.returns-clause-opened
returns-clause-opened c =
    let r = c.args.rows.now in
    let prices = c.open_at.new.self.prices.items in
    on_ok (λ (m : Position). m.prices ≡ prices) (λ (m : Position). AreOpened r.objects (length r.rows) c.args.start.now m.prices) c.with.result (λ m e. rw e c.open_at.ensures.opened) c.with.ensures.prices
