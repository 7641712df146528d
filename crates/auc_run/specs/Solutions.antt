-- What a solve may answer about a problem, the text that tells it, and which answers are right for the bytes of a
-- problem.
use Rattle.std.specs.Prelude.{◌⊎◌, ℕ, zero, suc, Bool, true, false, List, codes, Option, None, Result, Ok, Err, ⊤}
use Rattle.auc_graph.specs.Problem.{Problem}
use Rattle.auc_cert.specs.Text.{text}
use Rattle.auc_answers.specs.declared.answer.Answer.{Answer}
use Rattle.auc_answers.specs.declared.answer.Answer.TheVariants.{Bracket, Broken, Infeasible, Optimal}
use Rattle.auc_answers.specs.declared.answer.Guard.{Guard}
use Rattle.auc_answers.specs.declared.answer.Guard.TheVariants.{Check, Fell, Settle, Stall, Stray, Stuck}
use Rattle.auc_phases.specs.declared.limits.Limits.{Limits}
use Rattle.auc_answers.specs.Answers.{IsAnswer}
use Rattle.auc_world.specs.Chain.{IsOfRun}
use Rattle.auc_direct.specs.Endings.{IsAsked, IsLimitedFirst, IsStopTold}
use Rattle.auc_threads.specs.declared.phase.PhaseEnd.{PhaseEnd}
use Rattle.auc_threads.specs.Solved.{IsSolvedBy, IsThreadAnswer}
use Rattle.auc_run.specs.declared.command.SolveNumbers.{SolveNumbers}
use Rattle.auc_run.specs.declared.refusal.Refusal.{Refusal}
use Rattle.auc_run.specs.declared.refusal.Refusal.TheVariants.{NotRead, NoProblem, NoCertificate, Invalid, NoStart, NoScript, NoMemory, NoThreads}
use Rattle.auc_run.specs.Problems.{BearOutRefusal, HasFile, IsProblemOf}

-- the limits of a solve without threads: one shard of each kind, so many bids, and else the usual numbers
abbrev pub limits_of : ℕ → Limits
limits_of bids = record { shards = 1; bids = bids; posts = 1000000000000; audit = 0; nodes = 0 }

-- The bytes of a problem bear an answer out, or the refusal. An answer is a certificate in which the checker finds no
-- fault: of a least assignment, of an assignment and a bound, or that there is none; and it is that of a run by so many
-- bids. No guard is hit.
abbrev pub BearOutSolved : SolveNumbers → List ℕ → Result Answer Refusal → Type 0
BearOutSolved n file (Ok answer) =
    (p : Problem) × IsProblemOf n.sizes file p × IsAnswer p answer × IsOfRun p (limits_of n.bids) None answer
BearOutSolved n file (Err refusal) = BearOutRefusal n.sizes file refusal

-- Who watches a direct solve: whether he has said no, and whether he was asked at all.
pub record Watched : Type 0 where
  pub stopped : Bool
  pub asked : Bool

abbrev pub watched : Bool → Bool → Watched
watched stopped asked = record { stopped = stopped; asked = asked }

-- nobody watches: the run goes on whatever happens
abbrev pub onward : Watched
onward = watched false true

-- Where he has said no, he may have stopped the run, and then that is told. Else this holds.
abbrev pub IsLimitedOr : Bool → Answer → Type 0 → Type 0
IsLimitedOr false answer Holds = Holds
IsLimitedOr true answer Holds = Holds ⊎ IsStopTold answer

-- He was asked, unless there is no assignment; and unless he has stopped the run, this holds of its answer.
abbrev pub IsHeeded : Watched → Answer → Type 0 → Type 0
IsHeeded w answer Holds = IsAsked w.asked answer × IsLimitedOr w.stopped answer Holds

-- The same of a direct solve. Where an answer is an assignment and a bound, the bids ran out, or somebody would
-- bid more than the greatest price; or who watches has stopped it.
abbrev pub BearOutDirect : Watched → SolveNumbers → List ℕ → Result Answer Refusal → Type 0
BearOutDirect w n file (Ok answer) =
    (p : Problem) × IsProblemOf n.sizes file p × IsAnswer p answer × IsHeeded w answer (IsLimitedFirst p n.bids answer)
BearOutDirect w n file (Err refusal) = BearOutRefusal n.sizes file refusal

-- the limits of a solve with threads: so many shards of each kind, bids, and places in each trail, and else the usual
-- numbers
abbrev pub thread_limits_of : SolveNumbers → Limits
thread_limits_of n = record { shards = n.workers; bids = n.bids; posts = 1000000000000; audit = n.audit; nodes = 0 }

-- The same of a solve with threads. An answer is that of its phases, of which the last one decides; it may be a guard
-- that was hit.
abbrev pub BearOutThreads : SolveNumbers → List ℕ → Result Answer Refusal → Type 0
BearOutThreads n file (Ok answer) =
    (p : Problem) × IsProblemOf n.sizes file p × IsThreadAnswer p answer
    × ((phases : List PhaseEnd) × IsSolvedBy p (thread_limits_of n) None phases answer)
BearOutThreads n file (Err NoThreads) = ⊤
BearOutThreads n file (Err (NotRead fault)) = BearOutRefusal n.sizes file (NotRead fault)
BearOutThreads n file (Err (NoProblem error)) = BearOutRefusal n.sizes file (NoProblem error)
BearOutThreads n file (Err (NoCertificate error)) = ⊥
BearOutThreads n file (Err (Invalid error)) = ⊥
BearOutThreads n file (Err (NoStart error)) = ⊥
BearOutThreads n file (Err (NoScript error)) = ⊥
BearOutThreads n file (Err NoMemory) = BearOutRefusal n.sizes file NoMemory

-- a solve by messages goes by threads where there are so many workers, and not 0
abbrev pub BearOutMessages : ℕ → SolveNumbers → List ℕ → Result Answer Refusal → Type 0
BearOutMessages zero n file answer = BearOutSolved n file answer
BearOutMessages (suc workers) n file answer = BearOutThreads n file answer

-- what was answered in threads about the problem that a reader has
abbrev pub IsSolvedByThreadsIn : SolveNumbers → Option (List ℕ) → Result Answer Refusal → Type 0
IsSolvedByThreadsIn n reader answer = HasFile reader (λ file. BearOutThreads n file answer)

-- what was answered directly about the problem that a reader has
abbrev pub IsDirectIn : Watched → SolveNumbers → Option (List ℕ) → Result Answer Refusal → Type 0
IsDirectIn w n reader answer = HasFile reader (λ file. BearOutDirect w n file answer)

-- what was answered about the problem that a reader has
abbrev pub IsSolvedIn : SolveNumbers → Option (List ℕ) → Result Answer Refusal → Type 0
IsSolvedIn n reader answer = HasFile reader (λ file. BearOutSolved n file answer)

abbrev pub guard_line : Guard → List ℕ
guard_line Fell = codes "broken fell\n"
guard_line Stray = codes "broken stray\n"
guard_line Stuck = codes "broken stuck\n"
guard_line Stall = codes "broken stall\n"
guard_line Check = codes "broken check\n"
guard_line Settle = codes "broken settle\n"

abbrev pub answer_text : Answer → List ℕ
answer_text (Optimal cert) = text cert
answer_text (Infeasible cert) = text cert
answer_text (Bracket cert) = text cert
answer_text (Broken guard) = guard_line guard

-- 0 for a least assignment, 3 where there is no assignment, 4 for an assignment and a bound, 7 for a broken guard
abbrev pub answer_status : Answer → ℕ
answer_status (Optimal cert) = 0
answer_status (Infeasible cert) = 3
answer_status (Bracket cert) = 4
answer_status (Broken guard) = 7
