use Rattle.std.proofs.Common.{rules, ℕ, ◌≡◌, ◌≢◌, ◌∙◌, ◌<◌, ◌-◌, ap, arith, length, refl, subst}
use Rattle.auc_rows.specs.Rows.{FlatTable}
use Rattle.auc_letters.specs.declared.limits.TheConstants.{NOBODY}
use Rattle.auc_market.specs.Market.{HaveAllBut, own_at}
use Rattle.auc_market.specs.Position.{Spends}
use Rattle.auc_market.proofs.Moving.{above_still, spends_more, spends_none, spends_still}
use Rattle.auc_market.proofs.Serving.{IsTurn, passed_have, turn_below, turn_have, turn_most, two_free}
use Rattle.auc_market.proofs.market.Market.serve.Goals as goal
use Rattle.auc_market.proofs.market.Market.serve.Goals.{After-turn-next}

pub returns-then-is_over-clause-spends : goal.returns-then-is_over-clause-spends
returns-then-is_over-clause-spends c =
    let t = c.loop-left-test.true in
    spends_more c.args.self.now c.loop-left.self c.bid.new.self c.freed_by.new.self c.args.left.now c.loop-left.left (c.loop-left.left - 1) c.loop-left.person c.in-Some.displaced c.in_ok-freed.freed c.loop-left.invariant.spends c.in-Some.ensures.bid c.in_ok-freed.ensures.moved (omega (arith, t))

pub returns-then-is_over-clause-served : goal.returns-then-is_over-clause-served
returns-then-is_over-clause-served c =
    let over = c.if-is_over.ensures.yes refl in
    let owns = c.freed_by.new.self.owns in
    let h = c.in_ok-freed.ensures.moved.augmented.but c.loop-left.fresh c.loop-left.other (c.in-Some.ensures.bid.awarded.but c.loop-left.fresh c.loop-left.other c.loop-left.invariant.have) in
    (rw (returns-then-is_over-clause-spends c).table c.loop-left.invariant.later, subst (λ (n : ℕ). HaveAllBut n owns NOBODY c.loop-left.other) over.1 (subst (λ (p : ℕ). HaveAllBut c.loop-left.fresh owns p c.loop-left.other) over.0 h))

pub bid-requires : goal.bid-requires
bid-requires c = let before = c.loop-left.invariant in record { known = rw before.spends.table before.known; none = before.have.none }

turned : (c : After-turn-next) → IsTurn c.in_ok-freed.freed c.loop-left.fresh c.turn-next.result.0 c.turn-next.result.1
turned c = record { freed_is = c.turn-next.ensures.freed; fresh_is = c.turn-next.ensures.fresh }

pub free_from-fresh-requires-in-loop-left-clause-from : goal.free_from-fresh-requires-in-loop-left-clause-from
free_from-fresh-requires-in-loop-left-clause-from c = turn_most c.in_ok-freed.freed c.loop-left.fresh c.turn-next.result.0 c.turn-next.result.1 c.args.until (turned c) c.loop-left.invariant.most (c.if-is_over.ensures.no refl)

spends_here : (c : After-turn-next) → Spends c.args.left.now (c.loop-left.left - 1) c.args.self.now c.freed_by.new.self
spends_here c =
    let t = c.loop-left-test.true in
    spends_more c.args.self.now c.loop-left.self c.bid.new.self c.freed_by.new.self c.args.left.now c.loop-left.left (c.loop-left.left - 1) c.loop-left.person c.in-Some.displaced c.in_ok-freed.freed c.loop-left.invariant.spends c.in-Some.ensures.bid c.in_ok-freed.ensures.moved (omega (arith, t))

pub free_from-fresh-requires-in-loop-left-clause-until : goal.free_from-fresh-requires-in-loop-left-clause-until
free_from-fresh-requires-in-loop-left-clause-until c = rw (spends_here c).table c.requires.until

-- after the turn
turned_have : (c : After-turn-next) → HaveAllBut c.turn-next.result.1 c.freed_by.new.self.owns c.loop-left.other c.turn-next.result.0
turned_have c =
    let before = c.loop-left.invariant in
    let augmented = c.in_ok-freed.ensures.moved.augmented in
    let a = c.in-Some.ensures.bid.awarded in
    let free : c.loop-left.fresh < c.args.until → (own_at c.freed_by.new.self.owns c.loop-left.fresh).object ≡ NOBODY = λ lt. (augmented.but 0 c.loop-left.fresh (a.but 0 c.loop-left.fresh (two_free c.loop-left.self.owns c.loop-left.person c.loop-left.fresh before.have.none (before.free lt) (λ e. (before.neither lt).0 (rw e refl))))).waits in
    let most = c.law.ensures.sound.most in
    let few = c.requires.until in
    turn_have c.freed_by.new.self.owns c.in_ok-freed.freed c.loop-left.other c.loop-left.fresh c.turn-next.result.0 c.turn-next.result.1 c.args.until (turned c) (omega (arith, few, most)) before.most (c.if-is_over.ensures.no refl) free (λ lt. (before.neither lt).1) (augmented.but c.loop-left.fresh c.loop-left.other (a.but c.loop-left.fresh c.loop-left.other before.have))

pub loop-left-preserved : goal.loop-left-preserved
loop-left-preserved c =
    let before = c.loop-left.invariant in
    let move = c.in_ok-freed.ensures.moved in
    let bid = c.in-Some.ensures.bid in
    let found = c.free_from-fresh-in-loop-left.ensures in
    let turn : IsTurn c.in_ok-freed.freed c.loop-left.fresh c.turn-next.result.0 c.turn-next.result.1 = record { freed_is = c.turn-next.ensures.freed; fresh_is = c.turn-next.ensures.fresh } in
    let spends = spends_here c.before in
    let below : c.in_ok-freed.freed ≢ NOBODY → c.in_ok-freed.freed < length c.args.self.now.table.rows = λ some. (let l = move.augmented.below some in let e = ap (λ (r : FlatTable). length r.rows) (bid.table ∙ before.spends.table) in omega (arith, l, e)) in
    let later = turn_below c.in_ok-freed.freed c.loop-left.fresh c.turn-next.result.0 c.turn-next.result.1 c.args.until (length c.args.self.now.table.rows) turn before.most c.requires.until (c.if-is_over.ensures.no refl) below in
    record {
      known = before.later;
      later = later;
      most = found.most;
      free = found.free;
      neither = found.neither;
      have = passed_have c.turn-next.result.1 c.free_from-fresh-in-loop-left.result c.freed_by.new.self.owns c.loop-left.other c.turn-next.result.0 found.passed (turned_have c.before);
      spends = spends;
    }

pub returns-in_default-clause-spends : goal.returns-in_default-clause-spends
returns-in_default-clause-spends c = spends_still c.args.self.now c.loop-left.self c.bid.new.self c.args.left.now c.loop-left.left c.in_default.ensures.above.0 c.loop-left.invariant.spends

pub returns-in_default-clause-served : goal.returns-in_default-clause-served
returns-in_default-clause-served c = above_still c.loop-left.self c.bid.new.self c.in_default.ensures.above.0 c.in_default.ensures.above.1

pub loop-left-init : goal.loop-left-init
loop-left-init c =
    let found = c.free_from-fresh.ensures in
    let most = c.free_from-other.ensures.most in
    let ne = c.if-other-until.false in
    let few = c.requires.until in
    record {
      known = c.requires.waiting;
      later = omega (arith, most, ne, few);
      most = found.most;
      free = found.free;
      neither = found.neither;
      have = search rules;
      spends = spends_none c.args.self.now c.args.left.now;
    }

pub returns-then-other-until-clause-spends : goal.returns-then-other-until-clause-spends
returns-then-other-until-clause-spends c = spends_none c.args.self.now c.args.left.now
