-- Phases one after another are phases.
use Rattle.std.proofs.Common.{◌≡◌, ◌∙◌, ℕ, ℤ, ◌+◌, ◌≤◌, List, ap, arith, inl, inr, refl, replicate, subst, sym}
use Rattle.auc_claim.specs.declared.reason.Reason.{Reason}
use Rattle.auc_rows.specs.declared.arc.ShortArc.{ShortArc}
use Rattle.auc_rows.specs.Rows.{FlatTable}
use Rattle.auc_market.proofs.MarketLaws.{replicate_default}
use Rattle.auc_market.specs.declared.ending.Ending.{Ending}
use Rattle.auc_market.specs.Bids.{AreCounted, AreMadeWithin, AreSpent, State}
use Rattle.auc_market.specs.Market.{no_own, own_at}
use Rattle.auc_market.specs.Phases.{AreAnew, ArePhases, IsOpened, IsPhase}
use Rattle.auc_market.specs.Phases.AreAnew.{begins, plays}
use Rattle.auc_market.proofs.BidsLaws.{makes_on}

pub anew_on : (r : FlatTable) (bids : ℕ) (s t u : State) → AreAnew r bids s t → AreAnew r bids t u → AreAnew r bids s u
anew_on r bids s t u first (begins v same) = subst (AreAnew r bids s) (sym same) first
anew_on r bids s t u first (plays v w x run opened phase) = plays v w x (anew_on r bids s t v first run) opened phase

pub phases_on : (r : FlatTable) (bids : ℕ) (s t u : State) → ArePhases r bids s t → AreAnew r bids t u → ArePhases r bids s u
phases_on r bids s t u run anew = record { kept = run.kept; first = run.first; anew = anew_on r bids run.kept t u run.anew anew }

pub anew_phases : (r : FlatTable) (bids : ℕ) (s t : State) → AreAnew r bids s t → ArePhases r bids s t
anew_phases r bids s t anew = record { kept = s; first = inl refl; anew = anew }

-- however a phase ends, it has made at most the allowed number of bids
pub counted_within : (r : FlatTable) (eps : ℤ) (most : ℕ) (ending : Ending) (s t : State) → AreCounted r eps most ending s t → AreMadeWithin r eps most s t
counted_within r eps most Ending.Sold s t is = is
counted_within r eps most (Ending.Stopped Reason.Bids) s t is = record { made = most; few = omega arith; run = is }
counted_within r eps most (Ending.Stopped Reason.Ceiling) s t is = is
counted_within r eps most (Ending.Stopped Reason.Posts) s t is = absurd is
counted_within r eps most (Ending.Stopped Reason.Trail) s t is = absurd is
counted_within r eps most (Ending.Stopped Reason.Mail) s t is = absurd is

-- the bids of a slice, after those of the slices before it
pub within_slice : (r : FlatTable) (eps : ℤ) (most left slice : ℕ) (s t u : State) → AreSpent r eps most left s t → slice ≤ left → AreMadeWithin r eps slice t u → AreMadeWithin r eps most s u
within_slice r eps most left slice s t u spent le made = record {
  made = spent.made + made.made;
  few = (let a = spent.sum in let b = made.few in omega (arith, a, b, le));
  run = makes_on r eps s t u spent.made made.made spent.run made.run;
}

pub one_phase : (r : FlatTable) (bids : ℕ) (s t : State) → IsPhase r bids s t → ArePhases r bids s t
one_phase r bids s t phase = record { kept = t; first = inr phase; anew = begins t refl }

pub one_anew : (r : FlatTable) (bids : ℕ) (s t u : State) → IsOpened s t → IsPhase r bids t u → AreAnew r bids s u
one_anew r bids s t u opened phase = plays s t u (begins s refl) opened phase

pub opened_is : (s t : State) (n : ℕ) → t.prices ≡ s.prices → t.owns ≡ replicate n no_own → IsOpened s t
opened_is s t n prices owns = record { prices = prices; none = λ i. ap (λ (xs : List ShortArc). (own_at xs i).object) owns ∙ ap (λ (a : ShortArc). a.object) (replicate_default n i no_own) }
