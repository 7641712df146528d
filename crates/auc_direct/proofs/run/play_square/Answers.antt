use Rattle.std.proofs.Common.{Bool, ℕ, Err, Ok, Result, refl, ◌≡◌}
use Rattle.std.specs.Prelude.{IfOk}
use Rattle.auc_market.specs.Position.{Position}
use Rattle.auc_market.specs.declared.ending.Ending.{Ending}
use Rattle.auc_direct.specs.Runs.{IsRunOut, Plays}
use Rattle.auc_direct.proofs.Running.{over_at, over_before, plays_none}
use Rattle.auc_direct.proofs.run.play_square.Goals as goal

pub returns-in-Some-clause-over : goal.returns-in-Some-clause-over
returns-in-Some-clause-over g c =
    let after = c.in_ok-tied.ensures in
    over_at _ c.args.bids (g.W.Watch.has_stopped c.args.watch.now) (g.W.Watch.has_stopped c.args.watch.now) (g.W.Watch.has_stopped c.play_anew.new.watch) c.in-Some.ending c.args.market.now c.args.market.now c.play_anew.new.market refl c.law.ensures (plays_none c.args.bids c.args.market.now) after.plays (rw c.in-Some.is at after.played) (λ e. refl)

over_by : {Y : Type 0} (bids : ℕ) (before between after : Bool) (a b d : Position) → between ≡ before → Plays bids a b → (res : Result Ending Y) → IfOk res (λ e. IsRunOut bids between after e b d) → IfOk res (λ e. IsRunOut bids before after e a d)
over_by bids before between after a b d same plays (Ok e) over = over_before bids before between after e a b d same plays over
over_by bids before between after a b d same plays (Err x) over = tt

pub returns-clause-over : goal.returns-clause-over
returns-clause-over g c =
    let tied = c.in_ok-tied.ensures in
    over_by c.args.bids (g.W.Watch.has_stopped c.args.watch.now) (g.W.Watch.has_stopped c.play_anew.new.watch) (g.W.Watch.has_stopped c.play_phases.new.watch) c.args.market.now c.play_anew.new.market c.play_phases.new.market (rw c.in_default.is at tied.going) tied.plays c.play_phases.result c.play_phases.ensures.over
