use Rattle.std.proofs.Common.{◌-◌, ap, arith, length, refl}
use Rattle.auc_rows.specs.Rows.{FlatTable}
use Rattle.auc_letters.specs.declared.limits.TheConstants.{NOBODY}
use Rattle.auc_market.proofs.Moving.{above_still, spends_more, spends_none, spends_still}
use Rattle.auc_market.proofs.Serving.{all_have}
use Rattle.auc_market.proofs.market.Market.chain.Goals as goal

pub returns-then-person-clause-spends : goal.returns-then-person-clause-spends
returns-then-person-clause-spends c =
    let t = c.loop-left-test.true in
    spends_more c.args.self.now c.loop-left.self c.bid.new.self c.freed_by.new.self c.args.left.now c.loop-left.left (c.loop-left.left - 1) c.loop-left.person c.in-Some.displaced c.in_ok-person.person c.loop-left.invariant.spends c.in-Some.ensures.bid c.in_ok-person.ensures.moved (omega (arith, t))

pub returns-then-person-clause-chain : goal.returns-then-person-clause-chain
returns-then-person-clause-chain c = λ n le h. (
    let augmented = c.in_ok-person.ensures.moved.augmented in
    let few = c.law.ensures.sound.most in
    let table = ap (λ (r : FlatTable). length r.rows) (returns-then-person-clause-spends c).table in
    all_have n c.freed_by.new.self.owns c.in_ok-person.person NOBODY c.if-person.true refl (omega (arith, le, few, table)) (augmented.but n NOBODY (c.in-Some.ensures.bid.awarded.but n NOBODY (c.loop-left.invariant.but n h)))
    )

pub loop-left-preserved : goal.loop-left-preserved
loop-left-preserved c =
    let move = c.in_ok-person.ensures.moved in
    let bid = c.in-Some.ensures.bid in
    let t = c.loop-left-test.true in
    record {
      free = record { known = rw move.table (move.augmented.below c.if-person.false); none = move.augmented.none };
      spends = spends_more c.args.self.now c.loop-left.self c.bid.new.self c.freed_by.new.self c.args.left.now c.loop-left.left (c.loop-left.left - 1) c.loop-left.person c.in-Some.displaced c.in_ok-person.person c.loop-left.invariant.spends bid move (omega (arith, t));
      but = λ n h. move.augmented.but n NOBODY (bid.awarded.but n NOBODY (c.loop-left.invariant.but n h));
    }

pub returns-in_default-clause-spends : goal.returns-in_default-clause-spends
returns-in_default-clause-spends c = spends_still c.args.self.now c.loop-left.self c.bid.new.self c.args.left.now c.loop-left.left c.in_default.ensures.above.0 c.loop-left.invariant.spends

pub returns-in_default-clause-chain : goal.returns-in_default-clause-chain
returns-in_default-clause-chain c = above_still c.loop-left.self c.bid.new.self c.in_default.ensures.above.0 c.in_default.ensures.above.1

pub loop-left-init : goal.loop-left-init
loop-left-init c = record { free = c.requires; spends = spends_none c.args.self.now c.args.left.now; but = λ n h. h }
