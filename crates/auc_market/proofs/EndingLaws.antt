-- What a phase's ending says of the run.
use Rattle.std.proofs.Common.{Bool, inl, inr, ℕ, ℤ, pos, ◌≡◌, ◌∙◌, refl, List, subst}
use Rattle.std.specs.Prelude.{◌≤ℤ◌}
use Rattle.auc_claim.specs.declared.reason.Reason.{Reason}
use Rattle.auc_rows.specs.declared.arc.ShortArc.{ShortArc}
use Rattle.auc_rows.specs.Rows.{FlatTable}
use Rattle.auc_market.specs.declared.ending.Ending.{Ending}
use Rattle.auc_market.specs.Endings.{IsEnding, IsLeft, IsRunStopped, IsSold, IsStopped, IsToldOr}
use Rattle.auc_graph.specs.Assignment.{total}
use Rattle.auc_market.specs.Bids.{State}
use Rattle.auc_market.specs.Market.{Stands}
use Rattle.auc_market.specs.Phases.{IsReady}

-- a limit of a phase that a run has come to is one of the run
pub run_stopped : (r : FlatTable) (bids : ℕ) (begun s : State) (ending : Ending) (prices : List ℤ) → IsReady r bids begun s → total begun.prices ≤ℤ total s.prices → IsStopped r bids s ending prices → IsRunStopped r bids begun ending prices
run_stopped r bids begun s Ending.Sold prices ready le is = tt
run_stopped r bids begun s (Ending.Stopped reason) prices ready le is = record { first = s; ready = ready; risen = le; limit = is }

ended_stopped : (r : FlatTable) (bids : ℕ) (s : State) (ending : Ending) (prices : List ℤ) (owns : List ShortArc) → IsEnding r bids s ending prices owns → IsStopped r bids s ending prices
ended_stopped r bids s Ending.Sold prices owns is = tt
ended_stopped r bids s (Ending.Stopped reason) prices owns is = is

-- each ending is one of a direct run
pub ending_sold : (r : FlatTable) (bids : ℕ) (begun : State) (ending : Ending) (prices : List ℤ) (owns : List ShortArc) → IsEnding r bids begun ending prices owns → IsSold r ending owns
ending_sold r bids begun Ending.Sold prices owns is = is
ending_sold r bids begun (Ending.Stopped Reason.Bids) prices owns is = tt
ending_sold r bids begun (Ending.Stopped Reason.Ceiling) prices owns is = tt
ending_sold r bids begun (Ending.Stopped Reason.Posts) prices owns is = absurd is
ending_sold r bids begun (Ending.Stopped Reason.Trail) prices owns is = absurd is
ending_sold r bids begun (Ending.Stopped Reason.Mail) prices owns is = absurd is

-- what the last phase leaves is what all phases leave
pub sold_left : (r : FlatTable) (eps : ℤ) (ending : Ending) (prices : List ℤ) (holders : List ℕ) (owns : List ShortArc) → Stands r eps prices holders owns → IsSold r ending owns → (ending ≡ Ending.Sold → eps ≡ pos 1) → IsLeft r ending prices holders owns
sold_left r eps Ending.Sold prices holders owns stands is last = (subst (λ (e : ℤ). Stands r e prices holders owns) (last refl) stands, is)
sold_left r eps (Ending.Stopped reason) prices holders owns stands is last = (eps, stands, is)

-- only a limit has stopped the phase, or its watch
pub watched_stopped : (before after : Bool) (r : FlatTable) (bids : ℕ) (s : State) (ending : Ending) (prices : List ℤ) (owns : List ShortArc) → IsToldOr before after ending (IsEnding r bids s ending prices owns) → IsToldOr before after ending (IsStopped r bids s ending prices)
watched_stopped before after r bids s ending prices owns (inl listed_best) = inl listed_best
watched_stopped before after r bids s ending prices owns (inr is) = inr (is.0, ended_stopped r bids s ending prices owns is.1)

-- the same, if the watch hadn't yet said no when a run began
pub told_before : (before between after : Bool) (ending : Ending) (H : Type 0) → between ≡ before → IsToldOr between after ending H → IsToldOr before after ending H
told_before before between after ending H same (inl told) = inl told
told_before before between after ending H same (inr is) = inr (is.0 ∙ same, is.1)

-- if a phase has sold all, its watch hasn't said no
pub sold_going : (before after : Bool) (Holds : Type 0) → IsToldOr before after Ending.Sold Holds → after ≡ before
sold_going before after Holds (inl listed_best) = absurd (not_stopped listed_best.1)
  where
    not_stopped : Ending.Sold ≡ Ending.Stopped Reason.Bids → ⊥
    not_stopped e = absurd cc
sold_going before after Holds (inr is) = is.0
