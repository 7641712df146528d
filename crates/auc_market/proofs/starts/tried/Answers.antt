use Rattle.std.proofs.Common.{length}
use Rattle.auc_market.proofs.StartLaws.{nothing_owned, seated_none}
use Rattle.auc_market.proofs.starts.tried.Goals as goal

pub loop-person-init : goal.loop-person-init
loop-person-init c =
    let first = c.in_ok-before.ensures in
    let empty = c.in_ok-holdings.ensures in
    let before = c.in_ok-before.before.items in
    record {
      seated = rw empty.prices (seated_none c.args.rows.now c.args.prices.now before c.in_ok-holdings.holdings.holders.items c.in_ok-holdings.holdings.owns.items (length before) c.persons-persons.result first.start first.kept first.same first.start.each c.persons-persons.ensures.persons empty.holders empty.owns);
      none = λ i le. nothing_owned c.in_ok-holdings.holdings.owns.items c.persons-persons.result empty.owns i;
    }
