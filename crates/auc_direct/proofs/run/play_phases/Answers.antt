use Rattle.std.proofs.Common.{◌∙◌, arith, refl, rules, sym, w64}
use Rattle.std.specs.Prelude.{FitsSigned}
use Rattle.std.proofs.lemmas.Int.{ints, to_z-of_z}
use Rattle.auc_market.specs.Position.{state_at}
use Rattle.auc_market.specs.declared.ending.Ending.{Ending}
use Rattle.auc_market.specs.Endings.{IsStopped}
use Rattle.auc_market.proofs.EndingLaws.{sold_going}
use Rattle.auc_market.proofs.Moving.{eps_below}
use Rattle.auc_direct.proofs.Running.{not_sold, over_at, plays_none, plays_on}
use Rattle.auc_direct.proofs.run.play_phases.Goals as goal

pub loop-played-init : goal.loop-played-init
loop-played-init g c =
    let f : FitsSigned w64 c.fine_eps-eps.result = search rules in
    simp to_z-of_z (record { eps_is = c.fine_eps-eps.ensures; plays = plays_none c.args.bids c.args.market.now; asked = refl })

-- the first phase was given up
pub loop-played-preserved-in_default : goal.loop-played-preserved-in_default
loop-played-preserved-in_default g c =
    let f : FitsSigned w64 c.coarse_eps-eps.result = search rules in
    let inv = c.loop-played.invariant in
    let after = c.in_ok-played.ensures in
    simp to_z-of_z (record {
      eps_is = c.coarse_eps-eps.ensures;
      plays = plays_on c.args.bids c.args.market.now c.loop-played.market c.play_anew.new.market inv.plays after.plays;
      asked = rw c.in_default.is at after.going ∙ inv.asked;
    })

pub loop-played-preserved : goal.loop-played-preserved
loop-played-preserved g c =
    let f : FitsSigned w64 c.in-Some-next_eps.next = search rules in
    let inv = c.loop-played.invariant in
    let after = c.in_ok-played.ensures in
    let early = c.in_ok-early.ensures in
    let next = c.in-Some-next_eps.ensures in
    let sold = sold_going (g.W.Watch.has_stopped c.loop-played.watch) (g.W.Watch.has_stopped c.play_anew.new.watch) (IsStopped c.loop-played.market.table c.args.bids (state_at c.loop-played.market) Ending.Sold c.play_anew.new.market.prices) (rw c.in-Sold.is at (rw c.in-Some.is at after.played).stopped) in
    let one = plays_on c.args.bids c.args.market.now c.loop-played.market c.play_anew.new.market inv.plays after.plays in
    simp to_z-of_z (record {
      eps_is = eps_below c.args.rows.now _ _ inv.eps_is next.low (let l = next.less in omega (arith, ints, l));
      plays = plays_on c.args.bids c.args.market.now c.play_anew.new.market c.play_anew-in-loop-played.new.market one early.plays;
      asked = rw c.in_default-early.is at early.going ∙ sold ∙ inv.asked;
    })

-- ---- how it ends

pub returns-in-Stopped-clause-over : goal.returns-in-Stopped-clause-over
returns-in-Stopped-clause-over g c = over_at _ c.args.bids (g.W.Watch.has_stopped c.args.watch.now) (g.W.Watch.has_stopped c.loop-played.watch) (g.W.Watch.has_stopped c.play_anew.new.watch) c.in-Some.ending c.args.market.now c.loop-played.market c.play_anew.new.market c.loop-played.invariant.asked c.law.ensures c.loop-played.invariant.plays c.in_ok-played.ensures.plays (rw c.in-Some.is at c.in_ok-played.ensures.played) (λ e. absurd (not_sold _ (sym c.in-Stopped.is ∙ e)))

pub returns-in_default-next_eps-clause-over : goal.returns-in_default-next_eps-clause-over
returns-in_default-next_eps-clause-over g c = over_at _ c.args.bids (g.W.Watch.has_stopped c.args.watch.now) (g.W.Watch.has_stopped c.loop-played.watch) (g.W.Watch.has_stopped c.play_anew.new.watch) c.in-Some.ending c.args.market.now c.loop-played.market c.play_anew.new.market c.loop-played.invariant.asked c.law.ensures c.loop-played.invariant.plays c.in_ok-played.ensures.plays (rw c.in-Some.is at c.in_ok-played.ensures.played) (λ e. c.in_default-next_eps.ensures.last)

-- the last phase before its turn
pub returns-in-Some-early-clause-over : goal.returns-in-Some-early-clause-over
returns-in-Some-early-clause-over g c =
    let after = c.in_ok-played.ensures in
    let early = c.in_ok-early.ensures in
    let sold = sold_going (g.W.Watch.has_stopped c.loop-played.watch) (g.W.Watch.has_stopped c.play_anew.new.watch) (IsStopped c.loop-played.market.table c.args.bids (state_at c.loop-played.market) Ending.Sold c.play_anew.new.market.prices) (rw c.in-Sold.is at (rw c.in-Some.is at after.played).stopped) in
    let one = plays_on c.args.bids c.args.market.now c.loop-played.market c.play_anew.new.market c.loop-played.invariant.plays after.plays in
    over_at _ c.args.bids (g.W.Watch.has_stopped c.args.watch.now) (g.W.Watch.has_stopped c.play_anew.new.watch) (g.W.Watch.has_stopped c.play_anew-in-loop-played.new.watch) c.in-Some-early.ending c.args.market.now c.play_anew.new.market c.play_anew-in-loop-played.new.market (sold ∙ c.loop-played.invariant.asked) c.law-in-loop-played.ensures one early.plays (rw c.in-Some-early.is at early.played) (λ e. refl)

pub returns-in-Stopped-clause-asked : goal.returns-in-Stopped-clause-asked
returns-in-Stopped-clause-asked g c = rw c.in-Some.is at c.in_ok-played.ensures.asked

pub returns-in_default-next_eps-clause-asked : goal.returns-in_default-next_eps-clause-asked
returns-in_default-next_eps-clause-asked g c = rw c.in-Some.is at c.in_ok-played.ensures.asked

pub returns-in-Some-early-clause-asked : goal.returns-in-Some-early-clause-asked
returns-in-Some-early-clause-asked g c = rw c.in-Some-early.is at c.in_ok-early.ensures.asked
