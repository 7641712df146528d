-- The outcome of a phase: it is stopped only by a limit, and never stalls.
use Rattle.std.proofs.Common.{ℕ, ℤ, pos, ◌<◌, ◌≡◌, List, Option, Some, None, sym, subst, ap, ◌∙◌, arith}
use Rattle.auc_claim.specs.declared.reason.Reason.{Reason}
use Rattle.std.specs.Prelude.{Ok, Err, All, ◌<ℤ◌, replicate, unsigned_abs}
use Rattle.std.proofs.lemmas.Int.{ints}
use Rattle.std.proofs.lemmas.List.{get_or-replicate, length-replicate}
use Rattle.auc_graph.specs.Table.{IsTable, Table}
use Rattle.auc_letters.specs.declared.letter.Why.{Why}
use Rattle.auc_model.specs.Bidding.{SomeoneStuck}
use Rattle.auc_model.specs.Start.{Lawful, Starts}
use Rattle.auc_model.specs.Still.{Rests}
use Rattle.auc_model.specs.World.{Phase, World, phase_of}
use Rattle.auc_model.specs.declared.turn.End.{End}
use Rattle.auc_model.specs.Schedule.{Reached}
use Rattle.auc_model.proofs.Reached.{reached_on, reached_start}
use Rattle.auc_model.proofs.Rests.{rests_ended}
use Rattle.auc_model.proofs.Theorems.{of_every_schedule, stuck_only}
use Rattle.auc_graph.specs.Price.{IsPrice}
use Rattle.auc_letters.specs.Price.{IsEps}
use Rattle.auc_answers.specs.declared.answer.Guard.{Guard}
use Rattle.auc_answers.specs.declared.gathered.Gathered.{Gathered}
use Rattle.auc_phases.specs.declared.limits.Limits.{Limits}
use Rattle.auc_answers.specs.Answers.{stop_of, why_of}
use Rattle.auc_phases.specs.Begins.{ArePrices}
use Rattle.auc_answers.specs.Prepared.{NobodyStuck}
use Rattle.auc_world.specs.declared.solving.Outcome.{Outcome}
use Rattle.auc_machine.specs.Gathering.{AreSales, IsGathered}
use Rattle.auc_machine.specs.Making.{IsMade}
use Rattle.auc_machine.specs.Parts.{Parts, phase, world_of}
use Rattle.auc_world.specs.Phases.{ComesOf, IsPlayed, Leaves, Stage}
use Rattle.auc_machine.specs.Rounds.{Rounds}
use Rattle.auc_machine.proofs.RoundLaws.{rounds_schedule}

pub nobody_stuck : (t : Table) (shards : ℕ) (eps : ℤ) → NobodyStuck t → SomeoneStuck (phase_of t shards eps) → ⊥
nobody_stuck t shards eps all stuck = all stuck.person stuck.known stuck.no_arc

-- a stop that stands for a limit is for its reason
stop_is : (why : Why) (reason : Reason) → stop_of why ≡ Ok reason → why ≡ why_of reason
stop_is Why.Bids reason e = let r : Reason.Bids ≡ reason = cc in ap why_of r
stop_is Why.Ceiling reason e = let r : Reason.Ceiling ≡ reason = cc in ap why_of r
stop_is Why.Posts reason e = let r : Reason.Posts ≡ reason = cc in ap why_of r
stop_is Why.Trail reason e = let r : Reason.Trail ≡ reason = cc in ap why_of r
stop_is Why.Mail reason e = let r : Reason.Mail ≡ reason = cc in ap why_of r
stop_is Why.Fell reason e = absurd cc
stop_is Why.Stray reason e = absurd cc
stop_is Why.Stuck reason e = absurd cc

-- a stop of a reachable world stands for no guard, if no person is without an arc
never_guarded : (g : Phase) (v : World) (why : Why) (guard : Guard) → Reached g v → (SomeoneStuck g → ⊥) → v.end ≡ Some (End.Stopped why) → stop_of why ≡ Err guard → ⊥
never_guarded g v Why.Bids guard r arcs e s = cc
never_guarded g v Why.Ceiling guard r arcs e s = cc
never_guarded g v Why.Posts guard r arcs e s = cc
never_guarded g v Why.Trail guard r arcs e s = cc
never_guarded g v Why.Mail guard r arcs e s = cc
never_guarded g v Why.Stuck guard r arcs e s = arcs (stuck_only g v r e)
never_guarded g v Why.Fell guard r arcs e s = (of_every_schedule g v r).no_guard.fell e
never_guarded g v Why.Stray guard r arcs e s = (of_every_schedule g v r).no_guard.stray e

-- ---- what a played phase comes to, of the parts of its worlds

module _ (t : Table) (limits : Limits) (prices : List ℤ) (eps : ℤ) (table : IsTable t) (arcs : NobodyStuck t) (p v : Parts) (made : IsMade t limits prices eps p) (same : phase p ≡ phase_of t limits.shards eps) (lawful : Lawful (phase p))
    (starts : Starts (phase p) (world_of p)) (rounds : (n : ℕ) × Rounds (phase p) (world_of p) n (world_of v)) (kept : phase v ≡ phase p) where
  abbrev g : Phase
  g = phase_of t limits.shards eps

  law : Lawful g
  law = subst Lawful same lawful

  begins : Starts g (world_of p)
  begins = subst (λ (h : Phase). Starts h (world_of p)) same starts

  led : Rounds g (world_of p) rounds.0 (world_of v)
  led = subst (λ (h : Phase). Rounds h (world_of p) rounds.0 (world_of v)) same rounds.1

  reached : Reached g (world_of v)
  reached = let run = rounds_schedule g (world_of p) rounds.0 (world_of v) led in reached_on g (world_of p) (world_of v) run.0 (reached_start g (world_of p) law begins) run.1

  pub is_reached : Reached g (world_of v)
  is_reached = reached

  played : (e : End) → (world_of v).end ≡ Some e → IsPlayed t limits (record { eps = eps; prices = prices; world = world_of v })
  played e end = record { parts = p; made = made; rounds = rounds.0; played = led; ended = λ none. (let b : ◌≡◌ {A = Option End} None (Some e) = sym none ∙ end in cc) }

  left : (e : End) (gathered : Gathered) → (world_of v).end ≡ Some e → IsGathered v gathered.holders.items gathered.prices.items → All IsPrice gathered.prices.items → Leaves t limits (record { eps = eps; prices = prices; world = world_of v }) gathered
  left e gathered end sales range =
      let objects : v.table.objects ≡ t.objects = ap (λ (h : Phase). h.objects) (kept ∙ same) in
      record { played = played e end; reached = reached; sales = subst (λ (n : ℕ). AreSales n (world_of v) gathered.holders.items gathered.prices.items) objects sales; within = range }

  pub comes_to_sale : (gathered : Gathered) → (world_of v).end ≡ Some End.All → IsGathered v gathered.holders.items gathered.prices.items → All IsPrice gathered.prices.items → ComesOf t limits prices eps (Outcome.Sold gathered)
  comes_to_sale gathered end sales range = record { world = world_of v; left = left End.All gathered end sales range; ended = end }

  pub comes_to_stop : (why : Why) (reason : Reason) (gathered : Gathered) → stop_of why ≡ Ok reason → (world_of v).end ≡ Some (End.Stopped why) → IsGathered v gathered.holders.items gathered.prices.items → All IsPrice gathered.prices.items → ComesOf t limits prices eps (Outcome.Stopped reason gathered)
  comes_to_stop why reason gathered stop end sales range = record { world = world_of v; left = left (End.Stopped why) gathered end sales range; ended = end ∙ ap (λ (w : Why). Some (End.Stopped w)) (stop_is why reason stop) }

  pub comes_to_no_guard : (why : Why) (guard : Guard) → stop_of why ≡ Err guard → (world_of v).end ≡ Some (End.Stopped why) → ⊥
  comes_to_no_guard why guard stop end = never_guarded g (world_of v) why guard reached (nobody_stuck t limits.shards eps arcs) end stop

  pub comes_to_no_stall : (world_of v).end ≡ None → Rests (phase v) (world_of v) → ⊥
  comes_to_no_stall end rests =
      let some = table.some in
      rests_ended g reached.start (world_of v) reached.turns law (omega (arith, some)) reached.starts reached.leads (subst (λ (h : Phase). Rests h (world_of v)) (kept ∙ same) rests) end

-- ---- from phase to phase

pub first_prices : (t : Table) (n : ℕ) (prices : List ℤ) → n ≡ t.objects → prices ≡ replicate n (pos 0) → ArePrices t prices
first_prices t n prices all is = rw is (record { each = length-replicate n (pos 0) ∙ all; within = All-replicate n })
  where
    zero_price : IsPrice (pos 0)
    zero_price = record { low = omega (arith, ints); high = omega (arith, ints) }

    All-replicate : (n : ℕ) → All IsPrice (replicate n (pos 0))
    All-replicate n k d l = rw (get_or-replicate n k (pos 0) d (rw length-replicate at l)) zero_price

pub later_prices : (t : Table) (limits : Limits) (s : Stage) (gathered : Gathered) → Leaves t limits s gathered → ArePrices t gathered.prices.items
later_prices t limits s gathered h = record { each = h.sales.prices_are; within = h.within }

pub less_eps : (eps next : ℤ) → IsEps next → next <ℤ eps → unsigned_abs next < unsigned_abs eps
less_eps eps next is l = let low = is.low in omega (arith, ints, low, l)
