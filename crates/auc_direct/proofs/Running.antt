-- Phases of a run, one after another, and what they leave.
use Rattle.std.specs.Prelude.{◌≤ℤ◌}
use Rattle.std.proofs.Common.{Bool, true, ap, ℕ, ℤ, pos, refl, ◌≡◌, ◌∙◌, arith, List, inl, inr, replicate, sym}
use Rattle.std.proofs.lemmas.Int.{ints}
use Rattle.auc_claim.specs.declared.reason.Reason.{Reason}
use Rattle.auc_graph.specs.Assignment.{total}
use Rattle.auc_rows.specs.declared.arc.ShortArc.{ShortArc}
use Rattle.auc_rows.specs.Rows.{FlatTable}
use Rattle.auc_market.specs.declared.ending.Ending.{Ending}
use Rattle.auc_market.specs.Bids.{State, state_of}
use Rattle.auc_market.specs.declared.holdings.Holdings.{Holdings}
use Rattle.auc_market.specs.Endings.{IsEnding, IsLeft, IsRunStopped, IsSold, IsStart, IsStopped, IsToldOr}
use Rattle.auc_direct.specs.Endings.{IsOutcome}
use Rattle.auc_market.specs.Market.{Stands}
use Rattle.auc_market.specs.Phases.{AreAnew, ArePhases, IsOpened, IsPhase, IsReady, IsRun}
use Rattle.auc_direct.specs.Adopted.{AreFound}
use Rattle.auc_direct.specs.Phases.{HasRun, IsAdopted}
use Rattle.auc_market.specs.Phases.AreAnew.{begins}
use Rattle.auc_market.specs.Position.{AreHandedOn, IsBegun, IsPlayed, IsTried, Law, Position, state_at}
use Rattle.auc_direct.specs.Runs.{IsPlayedAt, IsRunOut, Plays}
use Rattle.auc_market.proofs.EndingLaws.{run_stopped, sold_left, told_before, watched_stopped}
use Rattle.auc_market.proofs.Opening.{start_none}
use Rattle.auc_market.proofs.PhasesLaws.{anew_on, one_anew, one_phase, phases_on}

pub not_sold : (reason : Reason) → Ending.Stopped reason ≡ Ending.Sold → ⊥
not_sold reason e = absurd cc

pub plays_none : (bids : ℕ) (p : Position) → Plays bids p p
plays_none bids p = record { table = refl; phases = begins (state_at p) refl; risen = omega (arith, ints) }

pub plays_on : (bids : ℕ) (a b c : Position) → Plays bids a b → Plays bids b c → Plays bids a c
plays_on bids a b c s t =
    let phases : AreAnew a.table bids (state_at b) (state_at c) = rw s.table at t.phases in
    record {
      table = t.table ∙ s.table;
      phases = anew_on a.table bids (state_at a) (state_at b) (state_at c) s.phases phases;
      risen = (let x = s.risen in let y = t.risen in omega (arith, ints, x, y));
    }

is_opened : (eps : ℤ) (a b : Position) → IsBegun eps a b → IsOpened (state_at a) (state_at b)
is_opened eps a b begun = record { prices = begun.prices; none = begun.none }

-- after an opening, in which no person holds an object
pub plays_begun : (eps : ℤ) (bids : ℕ) (a b c : Position) → IsBegun eps a b → IsTried bids b c → Plays bids a c
plays_begun eps bids a b c begun is =
    let phase : IsPhase a.table bids (state_at b) (state_at c) = rw begun.table at is.phase in
    record {
      table = is.table ∙ begun.table;
      phases = one_anew a.table bids (state_at a) (state_at b) (state_at c) (is_opened eps a b begun) phase;
      risen = (let e = ap total begun.prices in let r = is.risen in omega (arith, ints, e, r));
    }

pub played_begun : (eps : ℤ) (bids : ℕ) (before after : Bool) (ending : Ending) (a b c : Position) → IsBegun eps a b → IsPlayed bids before after ending b c → IsPlayedAt eps bids before after ending a c
played_begun eps bids before after ending a b c begun is =
    let ended : IsToldOr before after ending (IsEnding a.table bids (state_at b) ending c.prices c.owns) = rw begun.table at is.ended in
    record {
      eps_is = is.tried.eps ∙ begun.eps_is;
      sold = rw begun.table at is.sold;
      first = state_at b;
      opened = is_opened eps a b begun;
      stopped = watched_stopped before after a.table bids (state_at b) ending c.prices c.owns ended;
    }

-- what all phases leave, where the last one has ended so
pub over_at : (eps : ℤ) (bids : ℕ) (before between after : Bool) (ending : Ending) (a b c : Position) → between ≡ before → Law c → Plays bids a b → Plays bids b c → IsPlayedAt eps bids between after ending b c → (ending ≡ Ending.Sold → eps ≡ pos 1) → IsRunOut bids before after ending a c
over_at eps bids before between after ending a b c same law s t is last =
    let plays = plays_on bids a b c s t in
    let stands : Stands a.table c.eps c.prices c.holders c.owns = rw plays.table at law.stands in
    let stopped : IsToldOr between after ending (IsStopped a.table bids is.first ending c.prices) = rw s.table at is.stopped in
    let sold : IsSold a.table ending c.owns = rw s.table at is.sold in
    record {
      table = plays.table;
      left = sold_left a.table c.eps ending c.prices c.holders c.owns stands sold (λ e. is.eps_is ∙ last e);
      phases = plays.phases;
      between = state_at b;
      earlier = s.phases;
      first = is.first;
      opened = is.opened;
      risen = (let e = ap total is.opened.prices in let r = s.risen in omega (arith, ints, e, r));
      stopped = told_before before between after ending (IsStopped a.table bids is.first ending c.prices) same stopped;
    }

-- with phases before
pub over_before : (bids : ℕ) (before between after : Bool) (ending : Ending) (a b c : Position) → between ≡ before → Plays bids a b → IsRunOut bids between after ending b c → IsRunOut bids before after ending a c
over_before bids before between after ending a b c same plays is =
    let stopped : IsToldOr between after ending (IsStopped a.table bids is.first ending c.prices) = rw plays.table at is.stopped in
    let phases : AreAnew a.table bids (state_at b) (state_at c) = rw plays.table at is.phases in
    let earlier : AreAnew a.table bids (state_at b) is.between = rw plays.table at is.earlier in
    record {
      table = is.table ∙ plays.table;
      left = rw plays.table at is.left;
      phases = anew_on a.table bids (state_at a) (state_at b) (state_at c) plays.phases phases;
      between = is.between;
      earlier = anew_on a.table bids (state_at a) (state_at b) is.between plays.phases earlier;
      first = is.first;
      opened = is.opened;
      risen = (let x = plays.risen in let y = is.risen in omega (arith, ints, x, y));
      stopped = told_before before between after ending (IsStopped a.table bids is.first ending c.prices) same stopped;
    }

-- ---- the whole run

-- the market handed on has the prices of the last one
handed_prices : (ending : Ending) (b : Position) (prices : List ℤ) (holders : List ℕ) (owns : List ShortArc) → AreHandedOn ending b prices holders owns → prices ≡ b.prices
handed_prices Ending.Sold b prices holders owns h = h.0
handed_prices (Ending.Stopped reason) b prices holders owns h = h.0

handed_left : (ending : Ending) (r : FlatTable) (b : Position) (prices : List ℤ) (holders : List ℕ) (owns : List ShortArc) → b.table ≡ r → IsLeft r ending b.prices b.holders b.owns → AreHandedOn ending b prices holders owns → IsLeft r ending prices holders owns
handed_left Ending.Sold r b prices holders owns table left h = rw (h.0, h.1, h.2) left
handed_left (Ending.Stopped reason) r b prices holders owns table left h = (h.1.0, rw table at h.1.1, left.2)

-- phases, however the last one has ended
run_ended : (r : FlatTable) (bids : ℕ) (begun : List ℤ) (ending : Ending) (last : State) (prices : List ℤ) → last.prices ≡ prices → IsRun r bids begun last → HasRun r bids begun ending prices
run_ended r bids begun Ending.Sold last prices same run = (last, same, inl run)
run_ended r bids begun (Ending.Stopped reason) last prices same run = (last, same, run)

told_from : (before after : Bool) (ending : Ending) (r : FlatTable) (bids : ℕ) (begun s : State) (prices : List ℤ) → IsReady r bids begun s → total begun.prices ≤ℤ total s.prices → IsToldOr before after ending (IsStopped r bids s ending prices) → IsToldOr before after ending ((first : State) × (first.prices ≡ begun.prices) × IsRunStopped r bids first ending prices)
told_from before after ending r bids begun s prices ready le (inl told) = inl told
told_from before after ending r bids begun s prices ready le (inr is) = inr (is.0, (begun, refl, run_stopped r bids begun s ending prices ready le is.1))

-- the outcome of a run of one phase, in which persons keep what they hold
pub outcome_of_one : (r : FlatTable) (bids : ℕ) (before after : Bool) (ending : Ending) (a b : Position) (prices : List ℤ) (holders : List ℕ) (owns : List ShortArc) → a.table ≡ r → a.eps ≡ pos 1 → Law b → IsPlayed bids before after ending a b → AreHandedOn ending b prices holders owns → IsOutcome r bids a.prices before after ending prices holders owns
outcome_of_one r bids before after ending a b prices holders owns table one law is h =
    let same = handed_prices ending b prices holders owns h in
    let stands : Stands r b.eps b.prices b.holders b.owns = rw (is.tried.table ∙ table) at law.stands in
    let sold : IsSold r ending b.owns = rw table at is.sold in
    let ended : IsToldOr before after ending (IsEnding r bids (state_at a) ending b.prices b.owns) = rw table at is.ended in
    record {
      left = handed_left ending r b prices holders owns (is.tried.table ∙ table) (sold_left r b.eps ending b.prices b.holders b.owns stands sold (λ e. is.tried.eps ∙ one)) h;
      stopped = rw same (told_from before after ending r bids (state_at a) (state_at a) b.prices (inl refl) (omega (arith, ints)) (watched_stopped before after r bids (state_at a) ending b.prices b.owns ended));
      run = run_ended r bids a.prices ending (state_at b) prices (sym same) (record { first = state_at a; begun_are = refl; phases = one_phase r bids (state_at a) (state_at b) (rw table at is.tried.phase) });
    }

-- the outcome where the watch has said no within a search over a table: what persons hold then
pub outcome_of_stop : (r : FlatTable) (bids : ℕ) (begun : List ℤ) (before after : Bool) (b : Position) (prices : List ℤ) (holders : List ℕ) (owns : List ShortArc) → b.table ≡ r → after ≡ true → Law b → IsRun r bids begun (state_at b) → AreHandedOn (Ending.Stopped Reason.Bids) b prices holders owns → IsOutcome r bids begun before after (Ending.Stopped Reason.Bids) prices holders owns
outcome_of_stop r bids begun before after b prices holders owns table told law run h =
    let same = handed_prices (Ending.Stopped Reason.Bids) b prices holders owns h in
    let stands : Stands r b.eps b.prices b.holders b.owns = rw table at law.stands in
    record {
      left = handed_left (Ending.Stopped Reason.Bids) r b prices holders owns table (sold_left r b.eps (Ending.Stopped Reason.Bids) b.prices b.holders b.owns stands tt (λ e. absurd (not_sold Reason.Bids e))) h;
      stopped = inl (told, refl);
      run = run_ended r bids begun (Ending.Stopped Reason.Bids) (state_at b) prices (sym same) run;
    }

-- a run of no phase yet
pub run_begun : (r : FlatTable) (bids : ℕ) (s : State) → IsRun r bids s.prices s
run_begun r bids s = record { first = s; begun_are = refl; phases = record { kept = s; first = inl refl; anew = begins s refl } }

-- the outcome of a table that was adopted
pub outcome_found : (r : FlatTable) (bids : ℕ) (before after : Bool) (found : Holdings) (first : State) → after ≡ before → AreFound r found → IsOutcome r bids first.prices before after Ending.Sold found.prices.items found.holders.items found.owns.items
outcome_found r bids before after found first going is =
    let adopted : IsAdopted r (state_of found) = record { full = is.full; stands = is.stands; have = is.have } in
    record {
      left = (is.stands, is.have);
      stopped = inr (going, (first, refl, tt));
      run = (state_of found, refl, inr adopted);
    }

-- the same outcome from a state of the watch before, whose flag is the same
pub outcome_before : (r : FlatTable) (bids : ℕ) (begun : List ℤ) (before between after : Bool) (ending : Ending) (prices : List ℤ) (holders : List ℕ) (owns : List ShortArc) → between ≡ before → IsOutcome r bids begun between after ending prices holders owns → IsOutcome r bids begun before after ending prices holders owns
outcome_before r bids begun before between after ending prices holders owns same is = rw same at is

-- the outcome of a run whose first phase was given up
pub outcome_of : (r : FlatTable) (bids : ℕ) (before between after : Bool) (ending : Ending) (a b c : Position) (prices : List ℤ) (holders : List ℕ) (owns : List ShortArc) → a.table ≡ r → between ≡ before → IsTried bids a b → IsRunOut bids between after ending b c → AreHandedOn ending c prices holders owns → IsOutcome r bids a.prices before after ending prices holders owns
outcome_of r bids before between after ending a b c prices holders owns table going tried is h =
    let same = handed_prices ending c prices holders owns h in
    let here : b.table ≡ r = tried.table ∙ table in
    let phase : IsPhase r bids (state_at a) (state_at b) = rw table at tried.phase in
    let first : ArePhases r bids (state_at a) (state_at b) = one_phase r bids (state_at a) (state_at b) phase in
    let anew : AreAnew r bids (state_at b) (state_at c) = rw here at is.phases in
    let earlier : AreAnew r bids (state_at b) is.between = rw here at is.earlier in
    let stopped : IsToldOr between after ending (IsStopped r bids is.first ending c.prices) = rw here at is.stopped in
    record {
      left = handed_left ending r c prices holders owns (is.table ∙ here) (rw here at is.left) h;
      stopped = rw same (told_from before after ending r bids (state_at a) is.first c.prices (inr (is.between, phases_on r bids (state_at a) (state_at b) is.between first earlier, is.opened)) (let x = tried.risen in let y = is.risen in omega (arith, ints, x, y)) (told_before before between after ending (IsStopped r bids is.first ending c.prices) going stopped));
      run = run_ended r bids a.prices ending (state_at c) prices (sym same) (record { first = state_at a; begun_are = refl; phases = phases_on r bids (state_at a) (state_at b) (state_at c) first anew });
    }

-- ---- prices of 0

pub zero_start : (r : FlatTable) → IsStart r (pos 1) (replicate r.objects (pos 0))
zero_start r = start_none r (pos 1) r.objects (replicate r.objects (pos 0)) refl refl (inr refl)
