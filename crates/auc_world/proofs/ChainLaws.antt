-- The chain, one phase more, and what its last phase claims.
use Rattle.std.proofs.Common.{ℕ, ℤ, pos, ◌+◌, ◌<◌, ◌≤◌, ◌≡◌, ◌⊎◌, ◌%◌, inl, inr, nat_lt, true, false, refl, arith, List, [], ◌∷◌, length, get_or, Option, Some, None, Contains, sym, ap, subst, ◌∙◌}
use Rattle.std.specs.Prelude.{All, Bool, IfOk, Result, Ok, Err, T, int_le, map, replicate, ◌≤ℤ◌}
use Rattle.std.specs.Int.Signed.{le_z_yes}
use Rattle.std.proofs.lemmas.Int.{ints}
use Rattle.std.proofs.lemmas.List.Elements.{Contains-get_or}
use Rattle.std.proofs.lemmas.Option.{same_Some}
use Rattle.std.proofs.lemmas.List.{length-map}
use Rattle.std.proofs.lemmas.List.FromFn.{length-range_with_len}
use Rattle.auc_graph.specs.declared.arc.Arc.{Arc}
use Rattle.auc_graph.specs.Assignment.{IsAssignment, person_of, total_cost}
use Rattle.auc_graph.specs.Dual.{price_at}
use Rattle.auc_graph.specs.Problem.{IsProblem, IsSquare, Problem}
use Rattle.std.proofs.lemmas.Bool.{cases_lt}
use Rattle.std.proofs.lemmas.Bool.Decides.{nat_tests}
use Rattle.auc_model.proofs.Unheld.{unheld_schedule}
use Rattle.auc_objects.specs.Objects.{Objects, price_of}
use Rattle.auc_phases.specs.Limits.{AreLimits}
use Rattle.auc_answers.proofs.Replicated.{replicate_default}
use Rattle.auc_answers.specs.declared.answer.Answer.{Answer}
use Rattle.auc_answers.specs.declared.gathered.Gathered.{Gathered}
use Rattle.auc_phases.specs.declared.limits.Limits.{Limits}
use Rattle.auc_answers.specs.Answers.{HasAssignment, IsAnswer, IsBracketAnswer, IsOptimalAnswer, why_of}
use Rattle.auc_phases.specs.Begins.{Begins}
use Rattle.auc_answers.specs.Claims.{ArePlaceable, BoundFits, HasNoPriceUnheld, HoldsAt, IsChoiceOf, NobodyHoldsTwo, claim_of, holder_at}
use Rattle.auc_phases.specs.Eps.{first_eps, next_eps}
use Rattle.auc_answers.proofs.BracketLaws.{bound_fits, holders_price_few}
use Rattle.auc_answers.proofs.FoundLaws.{one_choice, person_at}
use Rattle.auc_machine.specs.Making.{IsMade}
use Rattle.auc_machine.specs.Parts.{Parts, world_of}
use Rattle.auc_machine.proofs.RoundLaws.{rounds_schedule}
use Rattle.auc_graph.specs.Table.{IsTable, IsTableOf, Table}
use Rattle.auc_letters.specs.Price.{IsEps}
use Rattle.auc_letters.specs.declared.state.Held.{Held}
use Rattle.auc_model.specs.Chosen.{IsHeldArc}
use Rattle.auc_model.specs.Schedule.{Reached}
use Rattle.auc_model.specs.World.{phase_of}
use Rattle.auc_model.specs.declared.turn.End.{End}
use Rattle.auc_model.proofs.Ends.{all_schedule}
use Rattle.auc_model.proofs.Reached.{kept_reached}
use Rattle.auc_model.proofs.Theorems.{holders_slack, of_every_schedule}
use Rattle.auc_world.specs.Chain.{Chain, EndsIn, Follows, IsClaimOf, IsOfRun}
use Rattle.auc_world.specs.Phases.{IsPlayed, Leaves, Stage}
use Rattle.auc_hall.proofs.ProblemLaws.{length-rows, row_is, stands_for}
use Rattle.auc_graph.specs.Row.{row}
use Rattle.auc_graph.specs.declared.rows.RowArc.{RowArc}
use Rattle.auc_claim.specs.declared.reason.Reason.{Reason}
use Rattle.auc_machine.specs.Certified.{HasCertified}
use Rattle.auc_machine.proofs.Bridge.{counted_are_certified}
use Rattle.auc_claim.specs.Claim.{pick_of}
use Rattle.std.specs.List.{slice_get}

-- ---- one phase more

-- the phases of a run before one at this eps and these prices
abbrev pub IsReady : Table → Limits → Option (List ℤ) → List Stage → ℤ → List ℤ → Type 0
IsReady t limits start [] eps prices = Begins t start eps prices
IsReady t limits start (r ∷ rest) eps prices = Follows t r eps prices × Chain t limits start (r ∷ rest)

pub chain_more : (t : Table) (limits : Limits) (start : Option (List ℤ)) (done : List Stage) (s : Stage) → IsReady t limits start done s.eps s.prices → IsPlayed t limits s → Chain t limits start (s ∷ done)
chain_more t limits start [] s ready is = (is, ready)
chain_more t limits start (r ∷ rest) s ready is = record { played = is; follows = ready.0; before = ready.1 }

pub ready_next : (t : Table) (limits : Limits) (start : Option (List ℤ)) (done : List Stage) (s : Stage) (next : ℤ) (gathered : Gathered) → IsReady t limits start done s.eps s.prices → Leaves t limits s gathered → s.world.end ≡ Some End.All → next_eps s.eps ≡ Some next → IsReady t limits start (s ∷ done) next gathered.prices.items
ready_next t limits start done s next gathered ready left end more = (record { sold = end; next = more; each = left.sales.prices_are; kept = left.sales.price_is }, chain_more t limits start done s ready left.played)

pub begins_first : (t : Table) (n : ℕ) (prices : List ℤ) (eps : ℤ) → n ≡ t.objects → prices ≡ replicate n (pos 0) → eps ≡ first_eps t → Begins t None eps prices
begins_first t n prices eps all zeros first = (first, zeros ∙ ap (λ (m : ℕ). replicate m (pos 0)) all)

-- if no phase follows, eps is 1
pub last_eps : (eps : ℤ) → IsEps eps → next_eps eps ≡ None → eps ≡ pos 1
last_eps eps is none = by (int_le eps (pos 1)) refl
  where
    by : (b : Bool) → int_le eps (pos 1) ≡ b → eps ≡ pos 1
    by true e = let le : eps ≤ℤ pos 1 = le_z_yes (subst (λ (x : Bool). T x) (sym e) tt) in let low = is.low in omega (arith, ints, le, low)
    by false e = absurd (let n = rw e at none in cc)

-- ---- more objects than persons: one phase, from prices of 0

-- if a phase follows another, there are no more objects than persons
first_is_only : (t : Table) (next : ℤ) → length t.rows < t.objects → next_eps (first_eps t) ≡ Some next → ⊥
first_is_only t next more e =
    let b : nat_lt (length t.rows) t.objects ≡ true = grind (arith, nat_tests, more) in
    let one : first_eps t ≡ pos 1 = rw b refl in
    let none : ◌≡◌ {A = Option ℤ} None (Some next) = rw one at e in
    cc

followed_is_square : (t : Table) (limits : Limits) (start : Option (List ℤ)) (r : Stage) (rest : List Stage) (next : ℤ) → length t.rows < t.objects → Chain t limits start (r ∷ rest) → next_eps r.eps ≡ Some next → ⊥
followed_is_square t limits None r [] next more chain e = first_is_only t next more (ap next_eps (sym chain.1.0) ∙ e)
followed_is_square t limits (Some prices) r [] next more chain e = let square = chain.1.square in omega (arith, more, square)
followed_is_square t limits start r (q ∷ rest) next more chain e = followed_is_square t limits start q rest r.eps more chain.before chain.follows.next

-- a phase from prices of 0 leaves price 0 to objects without a holder
made_price : (t : Table) (limits : Limits) (prices : List ℤ) (eps : ℤ) (made : Parts) → AreLimits limits → IsMade t limits prices eps made → (j : ℕ) → (world_of made).price j ≡ price_at prices j
made_price t limits prices eps made ok is j =
    let some = ok.some in
    let lt : j % made.shards < limits.shards = rw is.shards (omega arith) in
    ap (λ (x : Objects). price_of x j) (is.each_objects (j % made.shards) lt)

free_from_zeros : (t : Table) (limits : Limits) (s : Stage) → AreLimits limits → IsPlayed t limits s → s.prices ≡ replicate t.objects (pos 0) → (j : ℕ) → s.world.holder j ≡ None → s.world.price j ≡ pos 0
free_from_zeros t limits s ok played zeros j none =
    let run = rounds_schedule (phase_of t limits.shards s.eps) (world_of played.parts) played.rounds s.world played.played in
    let stays = unheld_schedule (phase_of t limits.shards s.eps) (world_of played.parts) run.0 s.world run.1 j none in
    stays.1 ∙ made_price t limits s.prices s.eps played.parts ok played.made j ∙ ap (λ (zs : List ℤ). price_at zs j) zeros ∙ replicate_default t.objects j (pos 0)

-- what a phase of a chain leaves
pub priced_by_holders : (p : Problem) (t : Table) (limits : Limits) (start : Option (List ℤ)) (done : List Stage) (s : Stage) → AreLimits limits → IsTable t → IsTableOf p t → IsReady t limits start done s.eps s.prices → IsPlayed t limits s
    → IsSquare p ⊎ ((j : ℕ) → s.world.holder j ≡ None → s.world.price j ≡ pos 0)
priced_by_holders p t limits None [] s ok table its ready played = inr (free_from_zeros t limits s ok played ready.1)
priced_by_holders p t limits (Some prices) [] s ok table its ready played = let square = ready.square in inl (omega (arith, square, its.objects, length-rows p t its))
priced_by_holders p t limits start (r ∷ rest) s ok table its ready played =
    elim (cases_lt (length t.rows) t.objects) [
      | inl more ↦ absurd (followed_is_square t limits start r rest s.eps more ready.1 ready.0.next)
      | inr le ↦ (let enough : length t.rows ≤ t.objects = table.enough in inl (omega (arith, le, enough, its.objects, length-rows p t its)))
    ]

-- ---- the holders of a reached world

module _ (p : Problem) (t : Table) (limits : Limits) (s : Stage) (gathered : Gathered) (its : IsTableOf p t) (left : Leaves t limits s gathered) where
  abbrev holders : List (Option Held)
  holders = gathered.holders.items

  in_world : (j : ℕ) (h : Held) → holder_at holders j ≡ Some h → s.world.holder j ≡ Some h
  in_world j h e = sym (left.sales.holder_is j) ∙ e

  pub holds_one : NobodyHoldsTwo holders
  holds_one j k a b e f same = (of_every_schedule (phase_of t limits.shards s.eps) s.world left.reached).held_once j k a b (in_world j a e) (in_world k b f) same

  -- if each person has an arc of a holder, the holders' arcs are these
  pub choice_of_holders : (choice : List Arc) → IsAssignment p choice → All (IsHeldArc p s.world) choice → IsChoiceOf p holders choice
  choice_of_holders choice given held = record {
    persons = given.persons;
    held = λ k d lt. (let own = held k d lt in record { object = (get_or choice k d).object; held = own.held; holds = left.sales.holder_is (get_or choice k d).object ∙ own.holds; by = record { place = own.place; his = sym own.person } });
    each = λ j h e. (
        let below = (kept_reached (phase_of t limits.shards s.eps) s.world left.reached).inv.holder_range j h (in_world j h e) in
        let rows = length-rows p t its in
        let many : length choice ≡ p.persons = sym (length-map choice person_of) ∙ (ap length given.persons ∙ length-range_with_len 0 p.persons) in
        let l : h.person < length choice = omega (arith, below, rows, many) in
        let none : Arc = record { person = 0; object = 0; cost = pos 0 } in
        let own = held h.person none l in
        let person : (get_or choice h.person none).person ≡ 0 + h.person = person_at p.persons 0 h.person choice none given.persons l in
        let who = own.person in
        let once : j ≡ (get_or choice h.person none).object = (of_every_schedule (phase_of t limits.shards s.eps) s.world left.reached).held_once j (get_or choice h.person none).object h own.held (in_world j h e) own.holds (omega (arith, person, who)) in
        let equal : h ≡ own.held = same_Some _ _ (sym (in_world j h e) ∙ (ap s.world.holder once ∙ own.holds)) in
        (get_or choice h.person none, Contains-get_or choice h.person none l, record { place = ap (λ (x : Held). slice_get p.arcs x.arc) equal ∙ own.place; his = omega (arith, person) })
        );
    once = holds_one;
  }

-- the prices that a phase leaves, as the answer has them
pub priced_gathered : (p : Problem) (t : Table) (limits : Limits) (start : Option (List ℤ)) (done : List Stage) (s : Stage) (gathered : Gathered) → AreLimits limits → IsTable t → IsTableOf p t → IsReady t limits start done s.eps s.prices → Leaves t limits s gathered → IsSquare p ⊎ HasNoPriceUnheld gathered.holders.items gathered.prices.items
priced_gathered p t limits start done s gathered ok table its ready left =
    elim (priced_by_holders p t limits start done s ok table its ready left.played) [
      | inl square ↦ inl square
      | inr free ↦ inr (λ j none. left.sales.price_is j ∙ free j (sym (left.sales.holder_is j) ∙ none))
    ]

-- ---- the last phase has sold an object to each person

module _ (p : Problem) (t : Table) (limits : Limits) (start : Option (List ℤ)) (done : List Stage) (s : Stage) (gathered : Gathered) (is : IsProblem p) (table : IsTable t) (its : IsTableOf p t) (ready : IsReady t limits start done s.eps s.prices) (left : Leaves t limits s gathered) (ok : AreLimits limits) where
  pub ends_in : EndsIn p limits start s
  ends_in = record { table = t; of = its; before = done; chain = chain_more t limits start done s ready left.played }

  module _ (last : s.eps ≡ pos 1) (end : s.world.end ≡ Some End.All) where
    at_one : Reached (phase_of t limits.shards (pos 1)) s.world
    at_one = subst (λ (e : ℤ). Reached (phase_of t limits.shards e) s.world) last left.reached

    counted : s.world.count ≡ length t.rows
    counted = let r = left.reached in all_schedule (phase_of t limits.shards s.eps) r.start r.turns s.world r.leads (λ e. absurd (let b : ◌≡◌ {A = Option End} None (Some End.All) = sym r.starts.no_end ∙ e in cc)) end

    priced : length gathered.prices.items ≡ p.objects
    priced = left.sales.prices_are ∙ its.objects

    chosen : HasCertified p s.world gathered.prices.items
    chosen = counted_are_certified p t limits.shards s.world gathered.prices.items is table its (priced_by_holders p t limits start done s ok table its ready left.played) at_one counted left.sales.price_is priced left.within

    choice_is : IsChoiceOf p gathered.holders.items chosen.choice
    choice_is = choice_of_holders p t limits s gathered its left chosen.choice chosen.assigned chosen.held

    claim : IsClaimOf p s.world (claim_of chosen.choice gathered.prices.items)
    claim = record { choice = chosen.choice; assigned = chosen.assigned; held = chosen.held; prices = gathered.prices.items; each = priced; true_prices = left.sales.price_is; is = refl }

    pub sold_is_answer : (answer : Answer) → IsOptimalAnswer p gathered.holders.items gathered.prices.items answer → IsAnswer p answer
    sold_is_answer (Answer.Optimal cert) h = record { cost = total_cost h.0; choice = map pick_of h.0; prices = gathered.prices.items; is = h.2; certified = h.3 }
    sold_is_answer (Answer.Infeasible cert) h = absurd h
    sold_is_answer (Answer.Bracket cert) h = absurd h
    sold_is_answer (Answer.Broken guard) h = absurd (h.1 chosen.choice choice_is chosen.certified)

    pub sold_is_of_run : (answer : Answer) → IsOptimalAnswer p gathered.holders.items gathered.prices.items answer → IsOfRun p limits start answer
    sold_is_of_run (Answer.Optimal cert) h =
        let one = one_choice p gathered.holders.items h.0 chosen.choice h.1 choice_is in
        record {
          last = s;
          run = ends_in;
          at_one = last;
          sold = end;
          claim = subst (IsClaimOf p s.world) (sym (h.2 ∙ ap (λ (xs : List Arc). claim_of xs gathered.prices.items) one)) claim;
        }
    sold_is_of_run (Answer.Infeasible cert) h = absurd h
    sold_is_of_run (Answer.Bracket cert) h = absurd h
    sold_is_of_run (Answer.Broken guard) h = absurd (h.1 chosen.choice choice_is chosen.certified)

  -- ---- a limit has stopped the last phase

  -- each holder has the object by an arc of the person to it
  placed_rightly : (j : ℕ) (h : Held) → holder_at gathered.holders.items j ≡ Some h → (a : Arc) × HoldsAt p j h a
  placed_rightly j h e =
      let here = in_world p t limits s gathered its left j h e in
      let below = (kept_reached (phase_of t limits.shards s.eps) s.world left.reached).inv.holder_range j h here in
      let right = holders_slack (phase_of t limits.shards s.eps) s.world left.reached j h here in
      let rows = length-rows p t its in
      let own : Contains (row h.person p.arcs) right.arc = subst (λ (xs : List RowArc). Contains xs right.arc) (row_is p t its h.person (omega (arith, below, rows))) right.listed in
      let x = stands_for h.person p.arcs right.arc own in
      (x.0, record { by = record { place = ap (slice_get p.arcs) (sym right.place) ∙ x.1.there; his = x.1.person }; leads = x.1.object ∙ right.leads })

  placeable : ArePlaceable p gathered.holders.items
  placeable = record { each = placed_rightly; once = holds_one p t limits s gathered its left }

  -- and the bound fits 64 bits
  bound_is_cost : HasAssignment p → BoundFits p gathered.prices.items
  bound_is_cost has =
      let priced = left.sales.prices_are ∙ its.objects in
      bound_fits p Reason.Bids gathered.prices.items is priced left.within
      (holders_price_few p gathered.holders.items gathered.prices.items is placeable priced (priced_gathered p t limits start done s gathered ok table its ready left)) has

  module _ (reason : Reason) (stopped : s.world.end ≡ Some (End.Stopped (why_of reason))) (has : HasAssignment p) where
    pub stopped_is_answer : (answer : Answer) → IsBracketAnswer p reason gathered.holders.items gathered.prices.items answer → IsAnswer p answer
    stopped_is_answer (Answer.Optimal cert) h = absurd h
    stopped_is_answer (Answer.Infeasible cert) h = h
    stopped_is_answer (Answer.Bracket cert) h = let by = h.1 in record { reason = reason; lower = by.lower; cost = total_cost by.choice; choice = map pick_of by.choice; prices = gathered.prices.items; is = by.is; certified = h.2 }
    stopped_is_answer (Answer.Broken guard) h = absurd (h.1 placeable (bound_is_cost has))

    pub stopped_is_of_run : (answer : Answer) → IsBracketAnswer p reason gathered.holders.items gathered.prices.items answer → IsOfRun p limits start answer
    stopped_is_of_run (Answer.Optimal cert) h = absurd h
    stopped_is_of_run (Answer.Infeasible cert) h = tt
    stopped_is_of_run (Answer.Bracket cert) h = record {
      last = s;
      run = ends_in;
      bracket = record { reason = reason; stopped = stopped; prices = gathered.prices.items; each = left.sales.prices_are ∙ its.objects; true_prices = left.sales.price_is; by = h.1; holders = gathered.holders.items; holders_are = left.sales.holder_is; grown = h.3 };
    }
    stopped_is_of_run (Answer.Broken guard) h = absurd (h.1 placeable (bound_is_cost has))

-- ---- the same of what the code answers

pub of_answers : {E : Type 0} (P Q : Answer → Type 0) (r : Result Answer E) → ((a : Answer) → P a → Q a) → IfOk r P → IfOk r Q
of_answers P Q (Ok a) f h = f a h
of_answers P Q (Err e) f h = tt
