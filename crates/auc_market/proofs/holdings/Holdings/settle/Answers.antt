use Rattle.std.proofs.Common.{pos, inr, length, refl}
use Rattle.auc_market.proofs.Opening.{stands_opened, start_none}
use Rattle.auc_market.proofs.StartLaws.{kept_none, kept_on}
use Rattle.auc_market.proofs.holdings.Holdings.settle.Goals as goal

pub returns-then-not-release-clause-kept : goal.returns-then-not-release-clause-kept
returns-then-not-release-clause-kept c = kept_on c.args.self.now.prices.items c.loop.self.prices.items c.release.new.self.prices.items c.loop.invariant.kept c.release.ensures.kept

pub loop-preserved : goal.loop-preserved
loop-preserved c = record {
  stands = c.release.ensures.stands;
  kept = kept_on c.args.self.now.prices.items c.loop.self.prices.items c.release.new.self.prices.items c.loop.invariant.kept c.release.ensures.kept;
}

pub returns-clause-stands : goal.returns-clause-stands
returns-clause-stands c =
    let inv = c.loop.invariant.stands in
    let many = length c.loop.self.prices.items in
    stands_opened c.args.rows.now (pos 1) c.args.eps c.empty.new.self.prices.items c.empty.new.self.holders.items c.empty.new.self.owns.items (length c.loop.self.holders.items) (length c.loop.self.owns.items)
    (start_none c.args.rows.now (pos 1) many c.empty.new.self.prices.items inv.prices_are c.empty.ensures.prices (inr refl)) inv.holders_are inv.owns_are c.empty.ensures.holders c.empty.ensures.owns

pub returns-clause-kept : goal.returns-clause-kept
returns-clause-kept c = kept_none c.args.self.now.prices.items c.empty.new.self.prices.items (length c.loop.self.prices.items) c.empty.ensures.prices
