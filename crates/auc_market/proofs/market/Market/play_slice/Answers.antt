use Rattle.auc_market.specs.Position.{state_at}
use Rattle.auc_market.proofs.BidsLaws.{made_all, made_within}
use Rattle.auc_market.proofs.Moving.{all_spent, blocked_at}
use Rattle.auc_market.proofs.market.Market.play_slice.Goals as goal

pub returns-clause-slice : goal.returns-clause-slice
returns-clause-slice c =
    let spends = c.in_ok-sell.ensures.spends in
    let old = c.args.self.now in
    let new = c.sell.new.self in
    record {
      table = spends.table;
      eps = spends.eps;
      ended = rw spends.table at (rw c.in-Placed.is at c.in_ok-sell.ensures.sold);
      counted = made_within old.table old.eps c.args.bids c.sell.new.left (state_at old) (state_at new) spends.spent;
      above = λ e. absurd cc;
    }

pub returns-in-Ceiling-clause-slice : goal.returns-in-Ceiling-clause-slice
returns-in-Ceiling-clause-slice c =
    let spends = c.in_ok-sell.ensures.spends in
    let above = rw c.in-Ceiling.is at c.in_ok-sell.ensures.sold in
    let old = c.args.self.now in
    let new = c.sell.new.self in
    record {
      table = spends.table;
      eps = spends.eps;
      ended = blocked_at c.args.bids c.sell.new.left old new c.law.ensures c.law-in-Ceiling.ensures spends (rw (spends.table, spends.eps) at above);
      counted = made_within old.table old.eps c.args.bids c.sell.new.left (state_at old) (state_at new) spends.spent;
      above = λ _. above;
    }

pub returns-in-Bids-clause-slice : goal.returns-in-Bids-clause-slice
returns-in-Bids-clause-slice c =
    let spends = c.in_ok-sell.ensures.spends in
    let old = c.args.self.now in
    let new = c.sell.new.self in
    let none = rw c.in-Bids.is at c.in_ok-sell.ensures.sold in
    record {
      table = spends.table;
      eps = spends.eps;
      ended = all_spent c.args.bids c.sell.new.left old new c.law.ensures none spends;
      counted = made_all old.table old.eps c.args.bids c.sell.new.left (state_at old) (state_at new) none spends.spent;
      above = λ e. absurd cc;
    }
