use Rattle.std.proofs.Common.{◌≡◌, ◌∙◌, ℕ, ℤ, List, ap, inr, pos, refl, replicate, rules, subst}
use Rattle.auc_graph.specs.Dual.{price_at}
use Rattle.auc_rows.specs.Rows.{FlatTable}
use Rattle.auc_claim.specs.declared.reason.Reason.{Reason}
use Rattle.auc_market.specs.declared.ending.Ending.{Ending}
use Rattle.auc_market.specs.Ceiling.{IsWide}
use Rattle.auc_market.specs.Endings.{IsStart}
use Rattle.auc_market.specs.Position.{IsPlayed}
use Rattle.auc_market.proofs.CeilingLaws.{wide_played}
use Rattle.auc_market.proofs.MarketLaws.{replicate_default}
use Rattle.auc_market.proofs.Opening.{start_none}
use Rattle.auc_direct.proofs.Running.{outcome_of_one, zero_start}
use Rattle.auc_direct.proofs.run.run_from_zero.Goals as goal

pub returns-in_err-prices-clause-outcome : goal.returns-in_err-prices-clause-outcome
returns-in_err-prices-clause-outcome g c = (replicate c.args.rows.now.objects (pos 0), zero_start c.args.rows.now, search rules)

pub returns-in_err-ending-clause-outcome : goal.returns-in_err-ending-clause-outcome
returns-in_err-ending-clause-outcome g c = (replicate c.args.rows.now.objects (pos 0), zero_start c.args.rows.now, search rules)

pub returns-clause-outcome : goal.returns-clause-outcome
returns-clause-outcome g c =
    let r = c.args.rows.now in
    let a = c.in_ok-market.market in
    let e = c.in_ok-market.ensures.begins in
    let zeros : c.in_ok-prices.prices.items ≡ replicate c.objects.result (pos 0) = c.in_ok-prices.ensures.items_if_clones_equal (λ y e. e) in
    let start : IsStart r (pos 1) c.in_ok-prices.prices.items = start_none r (pos 1) c.objects.result c.in_ok-prices.prices.items c.objects.ensures.objects zeros (inr refl) in
    (a.prices, rw c.in_ok-market.ensures.prices start, outcome_of_one r c.args.bids (g.W.Watch.has_stopped c.args.watch.now) (g.W.Watch.has_stopped c.play.new.watch) c.in_ok-ending.ending a c.play.new.self c.into_holdings.result.prices.items c.into_holdings.result.holders.items c.into_holdings.result.owns.items e.table e.eps c.law-2.ensures c.in_ok-ending.ensures.played c.into_holdings.ensures)

pub returns-clause-ceiling : goal.returns-clause-ceiling
returns-clause-ceiling g c = λ at choice spread matching. (
    let bids = c.args.bids in
    let a = c.in_ok-market.market in
    let b = c.play.new.self in
    let e = c.in_ok-market.ensures.begins in
    let before = g.W.Watch.has_stopped c.args.watch.now in
    let after = g.W.Watch.has_stopped c.play.new.watch in
    let played : IsPlayed bids before after (Ending.Stopped Reason.Ceiling) a b = subst (λ (x : Ending). IsPlayed bids before after x a b) at c.in_ok-ending.ensures.played in
    let zeros : c.in_ok-prices.prices.items ≡ replicate c.objects.result (pos 0) = c.in_ok-prices.ensures.items_if_clones_equal (λ y e. e) in
    let none : (j : ℕ) → price_at a.prices j ≡ pos 0 = (λ j. ap (λ (zs : List ℤ). price_at zs j) (c.in_ok-market.ensures.prices ∙ zeros) ∙ replicate_default c.objects.result j (pos 0)) in
    let wide = wide_played bids before after a b choice c.law.ensures c.law-2.ensures (rw e.table spread) (λ j _. none j) (rw e.table matching) played in
    subst (λ (t : FlatTable). IsWide t (pos 1)) e.table (subst (λ (z : ℤ). IsWide a.table z) e.eps wide)
    )
