-- The phases of a run, one more, and what the last one decides.
use Rattle.std.proofs.Common.{◌≡◌, ◌≢◌, ℕ, ℤ, map, true, false, Bool, List, [], ◌∷◌, ◌++◌, Some, None, refl, ap, sym, ◌∙◌, subst, append_assoc}
use Rattle.std.specs.Prelude.{◌↔◌, Option}
use Rattle.auc_graph.specs.declared.arc.Arc.{Arc}
use Rattle.auc_graph.specs.Assignment.{IsAssignment, total_cost}
use Rattle.auc_graph.specs.HallSet.{IsHallSet}
use Rattle.auc_graph.specs.Problem.{Problem}
use Rattle.auc_graph.specs.Table.{IsTableOf, Table}
use Rattle.auc_claim.specs.Claim.{pick_of}
use Rattle.auc_claim.specs.declared.cert.CertParts.{CertParts}
use Rattle.auc_letters.specs.declared.letter.Why.{Why}
use Rattle.auc_model.specs.declared.turn.End.{End}
use Rattle.auc_answers.specs.declared.answer.Answer.{Answer}
use Rattle.auc_answers.specs.declared.answer.Guard.{Guard}
use Rattle.auc_answers.specs.declared.gathered.Gathered.{Gathered}
use Rattle.auc_phases.specs.declared.limits.Limits.{Limits}
use Rattle.auc_answers.specs.Answers.{HasAssignment, IsHallCertificate, IsInfeasibleAnswer}
use Rattle.auc_phases.specs.Begins.{ArePrices, Begins}
use Rattle.auc_phases.specs.Eps.{next_eps}
use Rattle.auc_answers.specs.Prepared.{NobodyStuck}
use Rattle.auc_threads.specs.declared.phase.PhaseEnd.{PhaseEnd}
use Rattle.auc_threads.specs.declared.verdict.Verdict.{Verdict}
use Rattle.auc_threads.specs.Phase.{IsPhase}
use Rattle.auc_threads.specs.Solved.{IsInfeasible, IsSolvedBy, IsThreadAnswer, Runs}
use Rattle.auc_threads.specs.Verdict.{Decides, is_settled, verdict, verdict_of}

-- ---- no person is stuck

no_stop : (why : Why) → why ≢ Why.Stuck → verdict true (Some (End.Stopped why)) ≢ Verdict.Broken Guard.Stuck
no_stop Why.Bids ne e = cc
no_stop Why.Ceiling ne e = cc
no_stop Why.Stuck ne e = absurd (ne refl)
no_stop Why.Posts ne e = cc
no_stop Why.Trail ne e = cc
no_stop Why.Mail ne e = cc
no_stop Why.Fell ne e = cc
no_stop Why.Stray ne e = cc

not_stuck : (b : Bool) (end : Option End) → end ≢ Some (End.Stopped Why.Stuck) → verdict b end ≢ Verdict.Broken Guard.Stuck
not_stuck false end ne e = cc
not_stuck true None ne e = cc
not_stuck true (Some End.All) ne e = cc
not_stuck true (Some (End.Stopped why)) ne e = no_stop why (λ w. ne (ap (λ (y : Why). Some (End.Stopped y)) w)) e

pub never_stuck : (t : Table) (limits : Limits) (eps : ℤ) (prices : List ℤ) (p : PhaseEnd) → NobodyStuck t → IsPhase t limits eps prices p → verdict_of limits p ≢ Verdict.Broken Guard.Stuck
never_stuck t limits eps prices p nobody is = not_stuck (is_settled limits p) p.end (λ e. (let s = is.stuck e in nobody s.person s.known s.stuck))

-- ---- what is decided

pub decided_answer : (p : Problem) (g : Gathered) (v : Verdict) (a : Answer) → v ≢ Verdict.Broken Guard.Stuck → Decides p g v a → IsThreadAnswer p a
decided_answer p g Verdict.Sold (Answer.Optimal cert) ne h = record { cost = total_cost h.0; choice = map pick_of h.0; prices = g.prices.items; is = h.2; certified = h.3 }
decided_answer p g Verdict.Sold (Answer.Infeasible cert) ne h = absurd h
decided_answer p g Verdict.Sold (Answer.Bracket cert) ne h = absurd h
decided_answer p g Verdict.Sold (Answer.Broken guard) ne h = λ e. (let c = h.0 in cc)
decided_answer p g (Verdict.Stopped reason) (Answer.Optimal cert) ne h = absurd h
decided_answer p g (Verdict.Stopped reason) (Answer.Infeasible cert) ne h = h
decided_answer p g (Verdict.Stopped reason) (Answer.Bracket cert) ne h = let by = h.1 in record { reason = reason; lower = by.lower; cost = total_cost by.choice; choice = map pick_of by.choice; prices = g.prices.items; is = by.is; certified = h.2 }
decided_answer p g (Verdict.Stopped reason) (Answer.Broken guard) ne h = λ e. (let c = h.0 in cc)
decided_answer p g (Verdict.Broken guard) a ne h = subst (IsThreadAnswer p) (sym h) (λ e. ne (ap Verdict.Broken e))

-- if there is an assignment, there is no Hall set
module _ (p : Problem) (no_hall : (p : Problem) (persons objects : List ℕ) → IsHallSet p persons objects → (choice : List Arc) → IsAssignment p choice → ⊥) (has : HasAssignment p) where
  no_certificate : (cert : CertParts) → IsHallCertificate p cert → ⊥
  no_certificate cert h = no_hall p h.persons h.objects h.set.set has.0 has.1

  pub decided_feasible : (g : Gathered) (v : Verdict) (a : Answer) → Decides p g v a → IsInfeasible a → ⊥
  decided_feasible g Verdict.Sold (Answer.Infeasible cert) h i = h
  decided_feasible g (Verdict.Stopped reason) (Answer.Infeasible cert) h i = no_certificate cert h
  decided_feasible g (Verdict.Broken guard) (Answer.Infeasible cert) h i = cc
  decided_feasible g v (Answer.Optimal cert) h i = i
  decided_feasible g v (Answer.Bracket cert) h i = i
  decided_feasible g v (Answer.Broken guard) h i = i

-- ---- one phase more

-- The invariant before a phase at this eps and these prices: after the phases so far, those from it on complete a run
-- from the first ones.
abbrev pub IsReady : Problem → Table → Limits → ℤ → List ℤ → List PhaseEnd → ℤ → List ℤ → Type 0
IsReady p t limits first from done eps prices = (later : List PhaseEnd) (answer : Answer) → Runs p t limits eps prices later answer → Runs p t limits first from (done ++ later) answer

pub ready_first : (p : Problem) (t : Table) (limits : Limits) (done : List PhaseEnd) (eps : ℤ) (prices : List ℤ) → done ≡ [] → IsReady p t limits eps prices done eps prices
ready_first p t limits done eps prices none later answer runs = subst (λ (xs : List PhaseEnd). Runs p t limits eps prices (xs ++ later) answer) (sym none) runs

module _ (p : Problem) (t : Table) (limits : Limits) (first : ℤ) (from : List ℤ) (done : List PhaseEnd) (eps : ℤ) (prices : List ℤ) (e : PhaseEnd) (is : IsPhase t limits eps prices e) (ready : IsReady p t limits first from done eps prices) where
  put_behind : (later : List PhaseEnd) (answer : Answer) → Runs p t limits first from (done ++ e ∷ later) answer → Runs p t limits first from ((done ++ e ∷ []) ++ later) answer
  put_behind later answer runs = subst (λ (xs : List PhaseEnd). Runs p t limits first from xs answer) (sym (append_assoc done (e ∷ []) later)) runs

  with_next : (next : ℤ) → verdict_of limits e ≡ Verdict.Sold → next_eps eps ≡ Some next → (later : List PhaseEnd) (answer : Answer) → Runs p t limits next e.gathered.prices.items later answer → Runs p t limits eps prices (e ∷ later) answer
  with_next next sold more [] answer runs = absurd runs
  with_next next sold more (f ∷ rest) answer runs = (is, sold, (next, more, runs))

  pub ready_next : (all : List PhaseEnd) (next : ℤ) (v : Verdict) (left : List ℤ) → all ≡ done ++ e ∷ [] → v ≡ verdict_of limits e → (v ≡ Verdict.Sold) × (next_eps eps ≡ Some next) → left ≡ e.gathered.prices.items → IsReady p t limits first from all next left
  ready_next all next v left pushed was more kept later answer runs =
      subst (λ (xs : List PhaseEnd). Runs p t limits first from (xs ++ later) answer) (sym pushed)
      (put_behind later answer (ready (e ∷ later) answer (with_next next (sym was ∙ more.0) more.1 later answer (subst (λ (ps : List ℤ). Runs p t limits next ps later answer) kept runs))))

  -- or the last one
  solved_by : (start : Option (List ℤ)) (xs : List PhaseEnd) (answer : Answer) → IsTableOf p t → HasAssignment p → Begins t start first from → Runs p t limits first from xs answer → IsSolvedBy p limits start xs answer
  solved_by start [] answer of has begins runs = absurd runs
  solved_by start (x ∷ xs) answer of has begins runs = (has, (t, of, (first, from, begins, runs)))

  pub ready_last : (start : Option (List ℤ)) → Begins t start first from → (all : List PhaseEnd) (v : Verdict) (answer : Answer) → IsTableOf p t → HasAssignment p → all ≡ done ++ e ∷ [] → v ≡ verdict_of limits e → (v ≡ Verdict.Sold → next_eps eps ≡ None) → Decides p e.gathered v answer → IsSolvedBy p limits start all answer
  ready_last start begins all v answer of has pushed was last decided =
      let here : Runs p t limits eps prices (e ∷ []) answer = (is, (λ sold. last (was ∙ sold)), subst (λ (w : Verdict). Decides p e.gathered w answer) was decided) in
      solved_by start all answer of has begins (subst (λ (xs : List PhaseEnd). Runs p t limits first from xs answer) (sym pushed) (ready (e ∷ []) answer here))

pub prices_left : (t : Table) (prices left : List ℤ) → left ≡ prices → ArePrices t prices → ArePrices t left
prices_left t prices left e are = subst (ArePrices t) (sym e) are

pub some_phases : (done all : List PhaseEnd) (e : PhaseEnd) (a : Answer) → all ≡ done ++ e ∷ [] → (IsInfeasible a → ⊥) → (all ≡ []) ↔ IsInfeasible a
some_phases done all e a pushed feasible = ((λ none. absurd (not_empty done (sym pushed ∙ none))), (λ i. absurd (feasible i)))
  where
    not_empty : (xs : List PhaseEnd) → xs ++ e ∷ [] ≡ [] → ⊥
    not_empty [] h = cc
    not_empty (x ∷ xs) h = cc

-- ---- no phase

pub infeasible_answer : (p : Problem) (a : Answer) → IsInfeasibleAnswer p a → IsThreadAnswer p a × IsInfeasible a
infeasible_answer p (Answer.Optimal cert) h = absurd h
infeasible_answer p (Answer.Infeasible cert) h = (h, tt)
infeasible_answer p (Answer.Bracket cert) h = absurd h
infeasible_answer p (Answer.Broken guard) h = absurd h
