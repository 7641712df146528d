use Rattle.std.proofs.Common.{rules, ◌≤◌, length, ◌∙◌}
use Rattle.auc_letters.specs.declared.limits.TheConstants.{NOBODY}
use Rattle.auc_market.specs.Market.{no_own}
use Rattle.auc_market.proofs.Opening.{all_same}
use Rattle.auc_market.proofs.holdings.Holdings.open.Goals as goal

pub returns-clause-holders : goal.returns-clause-holders
returns-clause-holders c =
    let inv = c.loop-object.invariant in
    let enough : length c.loop-object.self.holders.items ≤ c.loop-object.object = search rules in
    c.loop-person.invariant.holders ∙ all_same NOBODY c.loop-object.self.holders.items c.args.self.now.holders.items c.loop-object.object inv.many enough inv.blank

pub returns-clause-owns : goal.returns-clause-owns
returns-clause-owns c =
    let inv = c.loop-person.invariant in
    let enough : length c.loop-person.self.owns.items ≤ c.loop-person.person = search rules in
    all_same no_own c.loop-person.self.owns.items c.args.self.now.owns.items c.loop-person.person inv.many enough inv.blank
