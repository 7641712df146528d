-- The phases of a run in threads, each from the prices that the one before has left, and the answer.
use Rattle.std.specs.Prelude.{ℤ, ◌≡◌, ◌≢◌, List, [], ◌∷◌, Option, Some, None}
use Rattle.auc_graph.specs.Problem.{Problem}
use Rattle.auc_graph.specs.Table.{IsTableOf, Table}
use Rattle.auc_answers.specs.declared.answer.Answer.{Answer}
use Rattle.auc_answers.specs.declared.answer.Guard.{Guard}
use Rattle.auc_phases.specs.declared.limits.Limits.{Limits}
use Rattle.auc_answers.specs.Answers.{HasAssignment, IsBracketCertificate, IsHallCertificate, IsInfeasibleAnswer, IsLeastCertificate}
use Rattle.auc_phases.specs.Begins.{Begins}
use Rattle.auc_phases.specs.Eps.{next_eps}
use Rattle.auc_threads.specs.declared.phase.PhaseEnd.{PhaseEnd}
use Rattle.auc_threads.specs.declared.verdict.Verdict.{Verdict}
use Rattle.auc_threads.specs.Phase.{IsPhase}
use Rattle.auc_threads.specs.Verdict.{Decides, verdict_of}

-- The answer of the solver in threads: a certificate in which the checker finds no fault, or a guard, but never that of
-- a person without an arc.
abbrev pub IsThreadAnswer : Problem → Answer → Type 0
IsThreadAnswer p (Answer.Optimal cert) = IsLeastCertificate p cert
IsThreadAnswer p (Answer.Infeasible cert) = IsHallCertificate p cert
IsThreadAnswer p (Answer.Bracket cert) = IsBracketCertificate p cert
IsThreadAnswer p (Answer.Broken guard) = guard ≢ Guard.Stuck

abbrev pub IsInfeasible : Answer → Type 0
IsInfeasible (Answer.Optimal cert) = ⊥
IsInfeasible (Answer.Infeasible cert) = Unit {0}
IsInfeasible (Answer.Bracket cert) = ⊥
IsInfeasible (Answer.Broken guard) = ⊥

-- The phases from this eps and these prices on, and the answer. Another phase follows exactly if the one before has
-- sold an object to each person, and wasn't at the last eps. It begins with the prices left, at the next eps. The last
-- phase decides the answer.
abbrev pub Runs : Problem → Table → Limits → ℤ → List ℤ → List PhaseEnd → Answer → Type 0
Runs p t limits eps prices [] answer = ⊥
Runs p t limits eps prices (e ∷ []) answer = IsPhase t limits eps prices e × (verdict_of limits e ≡ Verdict.Sold → next_eps eps ≡ None)
    × Decides p e.gathered (verdict_of limits e) answer
Runs p t limits eps prices (e ∷ f ∷ rest) answer =
    IsPhase t limits eps prices e × (verdict_of limits e ≡ Verdict.Sold)
    × ((next : ℤ) × (next_eps eps ≡ Some next) × Runs p t limits next e.gathered.prices.items (f ∷ rest) answer)

-- The whole run. Where there is a Hall set, it has no phase. Otherwise there is an assignment, and the first phase
-- begins at the first eps with prices of 0, or at eps 1 with the start prices.
abbrev pub IsSolvedBy : Problem → Limits → Option (List ℤ) → List PhaseEnd → Answer → Type 0
IsSolvedBy p limits start [] answer = IsInfeasibleAnswer p answer
IsSolvedBy p limits start (e ∷ rest) answer = HasAssignment p
    × ((t : Table) × IsTableOf p t × ((eps : ℤ) × (prices : List ℤ) × Begins t start eps prices
    × Runs p t limits eps prices (e ∷ rest) answer))
