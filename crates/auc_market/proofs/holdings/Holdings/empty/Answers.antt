use Rattle.std.proofs.Common.{pos, rules, ◌≤◌, length, ◌∙◌}
use Rattle.auc_market.proofs.Opening.{all_same}
use Rattle.auc_market.proofs.holdings.Holdings.empty.Goals as goal

pub returns-clause-prices : goal.returns-clause-prices
returns-clause-prices c =
    let inv = c.loop-object.invariant in
    let enough : length c.loop-object.self.prices.items ≤ c.loop-object.object = search rules in
    c.open.ensures.prices ∙ all_same (pos 0) c.loop-object.self.prices.items c.args.self.now.prices.items c.loop-object.object inv.many enough inv.blank
