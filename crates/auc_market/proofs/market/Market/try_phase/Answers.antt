use Rattle.std.proofs.Common.{◌-◌, ◌≡◌, ◌≢◌, ◌∙◌, ◌≤◌, true, inl, inr, refl, rules, sym, subst}
use Rattle.auc_claim.specs.declared.reason.Reason.{Reason}
use Rattle.auc_market.specs.declared.ending.Ending.{Ending}
use Rattle.auc_market.specs.Endings.{IsEnding}
use Rattle.auc_market.specs.Position.{state_at}
use Rattle.auc_market.proofs.EndingLaws.{ending_sold}
use Rattle.auc_market.proofs.Moving.{all_spent, slice_ending, slice_tried, spends_none, spends_slice, spent_tried}
use Rattle.auc_market.proofs.market.Market.try_phase.Goals as goal

pub loop-few-init : goal.loop-few-init
loop-few-init g c = record { spends = spends_none c.args.self.now c.args.bids; asked = refl; few = search rules; whole = λ e. search rules }

pub loop-few-preserved : goal.loop-few-preserved
loop-few-preserved g c =
    let on : c.may_go_on.result ≡ true = search rules in
    let inv = c.loop-few.invariant in
    let out : c.in_ok-ending.ending ≡ Ending.Stopped Reason.Bids = search rules in
    let le : c.min-slice.result ≤ c.loop-few.left = search rules in
    record {
      spends = spends_slice c.args.bids c.loop-few.left c.min-slice.result c.in_ok-ending.ending c.args.self.now c.loop-few.self c.play_slice.new.self out le inv.spends c.in_ok-ending.ensures.slice;
      asked = c.may_go_on.ensures.yes on ∙ inv.asked;
      few = search rules;
      whole = λ e. search rules;
    }

pub returns-then-not-may_go_on-clause-played : goal.returns-then-not-may_go_on-clause-played
returns-then-not-may_go_on-clause-played g c = record {
  tried = spent_tried c.args.bids c.loop-few.left c.args.self.now c.loop-few.self c.law.ensures c.loop-few.invariant.spends;
  sold = tt;
  ended = inl (c.may_go_on.ensures.no (search rules), refl);
  above = λ e. absurd cc;
}

pub returns-then-ne-clause-played : goal.returns-then-ne-clause-played
returns-then-ne-clause-played g c =
    let on : c.may_go_on.result ≡ true = search rules in
    let inv = c.loop-few.invariant in
    let le : c.min-slice.result ≤ c.loop-few.left = search rules in
    let old = c.args.self.now in
    let new = c.play_slice.new.self in
    let slice = c.in_ok-ending.ensures.slice in
    let other : c.in_ok-ending.ending ≢ Ending.Stopped Reason.Bids = search rules in
    let is = slice_ending c.args.bids c.loop-few.left c.min-slice.result c.in_ok-ending.ending old c.loop-few.self new c.law.ensures c.law-in-loop-few.ensures other le inv.spends slice in
    record {
      tried = slice_tried c.args.bids c.loop-few.left c.min-slice.result c.in_ok-ending.ending old c.loop-few.self new c.law.ensures le inv.spends slice;
      sold = ending_sold old.table c.args.bids (state_at old) c.in_ok-ending.ending new.prices new.owns is;
      ended = inr (c.may_go_on.ensures.yes on ∙ inv.asked, is);
      above = slice.above;
    }

pub returns-then-left-eq0-clause-played : goal.returns-then-left-eq0-clause-played
returns-then-left-eq0-clause-played g c =
    let on : c.may_go_on.result ≡ true = search rules in
    let inv = c.loop-few.invariant in
    let out : c.in_ok-ending.ending ≡ Ending.Stopped Reason.Bids = search rules in
    let le : c.min-slice.result ≤ c.loop-few.left = search rules in
    let old = c.args.self.now in
    let new = c.play_slice.new.self in
    let slice = c.in_ok-ending.ensures.slice in
    let spends = spends_slice c.args.bids c.loop-few.left c.min-slice.result c.in_ok-ending.ending old c.loop-few.self new out le inv.spends slice in
    let is : IsEnding old.table c.args.bids (state_at old) c.in_ok-ending.ending new.prices new.owns = subst (λ (x : Ending). IsEnding old.table c.args.bids (state_at old) x new.prices new.owns) (sym out) (all_spent c.args.bids (c.loop-few.left - c.min-slice.result) old new c.law.ensures c.if-left-eq0.true spends) in
    record {
      tried = spent_tried c.args.bids (c.loop-few.left - c.min-slice.result) old new c.law.ensures spends;
      sold = ending_sold old.table c.args.bids (state_at old) c.in_ok-ending.ending new.prices new.owns is;
      ended = inr (c.may_go_on.ensures.yes on ∙ inv.asked, is);
      above = slice.above;
    }

-- the attempt is given up
pub returns-then-few-eq0-2-clause-tried : goal.returns-then-few-eq0-2-clause-tried
returns-then-few-eq0-2-clause-tried g c = spent_tried c.args.bids c.loop-few.left c.args.self.now c.loop-few.self c.law.ensures c.loop-few.invariant.spends

pub returns-then-attempt-eq0-clause-tried : goal.returns-then-attempt-eq0-clause-tried
returns-then-attempt-eq0-clause-tried g c = spent_tried c.args.bids c.args.bids c.args.self.now c.args.self.now c.law.ensures (spends_none c.args.self.now c.args.bids)
