-- The run that an answer is of: by so many bids, from these prices or from nothing.
use Rattle.std.specs.Prelude.{◌≡◌, ℕ, ℤ, List, [], ◌∷◌, take, Option, Some, None, Ok}
use Rattle.auc_graph.specs.Problem.{Problem}
use Rattle.auc_claim.specs.declared.cert.CertParts.{CertParts}
use Rattle.auc_claim.specs.Claim.{chosen}
use Rattle.auc_phases.specs.declared.limits.Limits.{Limits}
use Rattle.auc_answers.specs.declared.answer.Answer.{Answer}
use Rattle.auc_world.specs.Chain.{IsOfRun}
use Rattle.auc_call.specs.declared.found.Found.{Found}
use Rattle.auc_call.specs.declared.solved.Solved.{Solved}
use Rattle.auc_call.specs.Memory.{Memory, AreAt}
use Rattle.auc_call.specs.Telling.{solve_status, solve_found}

-- the limits of a run: one shard of each kind, so many bids, and else the usual numbers
abbrev pub limits_of : ℕ → Limits
limits_of bids = record { shards = 1; bids = bids; posts = 1000000000000; audit = 0; nodes = 0 }

-- where a run starts: no prices are no start
abbrev pub start_in : List ℤ → Option (List ℤ)
start_in [] = None
start_in (price ∷ prices) = Some (price ∷ prices)

-- what a certificate says stands in the caller's memory and in what was found
abbrev pub IsWritten : Problem → CertParts → Memory → Solved → Type 0
IsWritten p (CertParts.Optimal cost picks prices) m (Solved.Optimal c) =
    AreAt p.arcs m.choice (chosen 0 picks) × (m.prices ≡ prices) × (c ≡ cost)
IsWritten p (CertParts.Optimal cost picks prices) m (Solved.Infeasible k l) = ⊥
IsWritten p (CertParts.Optimal cost picks prices) m (Solved.Bracket r l c) = ⊥
IsWritten p (CertParts.Bracket reason lower cost picks prices) m (Solved.Bracket r l c) =
    AreAt p.arcs m.choice (chosen 0 picks) × (m.prices ≡ prices) × (r ≡ reason) × (l ≡ lower) × (c ≡ cost)
IsWritten p (CertParts.Bracket reason lower cost picks prices) m (Solved.Optimal c) = ⊥
IsWritten p (CertParts.Bracket reason lower cost picks prices) m (Solved.Infeasible k l) = ⊥
IsWritten p (CertParts.Infeasible persons objects) m (Solved.Infeasible k l) = (take k m.choice ≡ persons) × (take l m.set ≡ objects)
IsWritten p (CertParts.Infeasible persons objects) m (Solved.Optimal c) = ⊥
IsWritten p (CertParts.Infeasible persons objects) m (Solved.Bracket r l c) = ⊥

-- the same of an answer
abbrev pub IsAnswerWritten : Problem → Answer → Memory → Solved → Type 0
IsAnswerWritten p (Answer.Optimal cert) m solved = IsWritten p cert m solved
IsAnswerWritten p (Answer.Infeasible cert) m solved = IsWritten p cert m solved
IsAnswerWritten p (Answer.Bracket cert) m solved = IsWritten p cert m solved
IsAnswerWritten p (Answer.Broken guard) m solved = ⊥

-- what was written is the answer of a run from this start by so many bids
pub record IsOfRunFrom (p : Problem) (start : List ℤ) (bids : ℕ) (after : Memory) (solved : Solved) : Type 0 where
  pub answer : Answer
  pub run : IsOfRun p (limits_of bids) (start_in start) answer
  pub written : IsAnswerWritten p answer after solved

-- and the status and the fields tell it
pub record IsRunTold (p : Problem) (start : List ℤ) (bids : ℕ) (after : Memory) (status : ℤ) (old new : Found) : Type 0 where
  pub solved : Solved
  pub run : IsOfRunFrom p start bids after solved
  pub status_is : status ≡ solve_status (Ok solved)
  pub found_is : new ≡ solve_found (Ok solved) old
