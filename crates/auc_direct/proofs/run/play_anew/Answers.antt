use Rattle.std.proofs.Common.{Bool, Err, None, Ok, Option, Result, Some, ℕ, ℤ, w64}
use Rattle.std.specs.Prelude.{FitsSigned, IfNone, IfOk, IfSome, OnOk}
use Rattle.std.proofs.lemmas.Int.{to_z-of_z}
use Rattle.auc_market.specs.declared.ending.Ending.{Ending}
use Rattle.auc_market.specs.Position.{IsBegun, IsPlayed, IsTried, Position}
use Rattle.auc_direct.specs.Runs.{IsPlayedAt, Plays}
use Rattle.auc_direct.proofs.Running.{played_begun, plays_begun, plays_none}
use Rattle.auc_direct.proofs.run.play_anew.Goals as goal

pub returns-then-attempt-eq0-clause-plays : goal.returns-then-attempt-eq0-clause-plays
returns-then-attempt-eq0-clause-plays g c = plays_none c.args.bids c.args.market.now

module _ {Y : Type 0} (eps : ℤ) (bids : ℕ) (before after : Bool) (a b d : Position) (begun : IsBegun eps a b) where
  plays_by : (res : Result (Option Ending) Y) → IfOk res (λ o. IfSome o (λ e. IsPlayed bids before after e b d)) → IfOk res (λ o. IfNone o (IsTried bids b d)) → OnOk res (Plays bids a d)
  plays_by (Ok (Some e)) played tried = plays_begun eps bids a b d begun played.tried
  plays_by (Ok None) played tried = plays_begun eps bids a b d begun tried
  plays_by (Err x) played tried = tt

  played_by : (res : Result (Option Ending) Y) → IfOk res (λ o. IfSome o (λ e. IsPlayed bids before after e b d)) → IfOk res (λ o. IfSome o (λ e. IsPlayedAt eps bids before after e a d))
  played_by (Ok (Some e)) played = played_begun eps bids before after e a b d begun played
  played_by (Ok None) played = tt
  played_by (Err x) played = tt

pub returns-clause-plays : goal.returns-clause-plays
returns-clause-plays g c =
    let f : FitsSigned w64 c.args.eps = c.ranges.eps in
    let begun = simp to_z-of_z at c.open.ensures in
    let after = c.try_phase.ensures in
    plays_by c.args.eps c.args.bids (g.W.Watch.has_stopped c.args.watch.now) (g.W.Watch.has_stopped c.try_phase.new.watch) c.args.market.now c.open.new.self c.try_phase.new.self begun c.try_phase.result after.played after.tried

pub returns-clause-played : goal.returns-clause-played
returns-clause-played g c =
    let f : FitsSigned w64 c.args.eps = c.ranges.eps in
    let begun = simp to_z-of_z at c.open.ensures in
    played_by c.args.eps c.args.bids (g.W.Watch.has_stopped c.args.watch.now) (g.W.Watch.has_stopped c.try_phase.new.watch) c.args.market.now c.open.new.self c.try_phase.new.self begun c.try_phase.result c.try_phase.ensures.played
