-- What is said of a run by each solver.
use Rattle.std.proofs.Common.{Bool, ◌≡◌, ℕ, List}
use Rattle.std.specs.Prelude.{ℤ, Result, Ok, Err, IfOk}
use Rattle.auc_graph.specs.Problem.{Problem}
use Rattle.auc_answers.specs.declared.answer.Answer.{Answer}
use Rattle.auc_answers.specs.Answers.{IsAnswer}
use Rattle.auc_call.specs.declared.driver.Driver.{Driver}
use Rattle.auc_call.specs.declared.driver.Driver.TheVariants.{Direct, Messages}
use Rattle.auc_call.specs.declared.found.Found.{Found}
use Rattle.auc_call.specs.declared.solved.Solved.{Solved}
use Rattle.auc_call.specs.declared.solved.Failed.{Failed}
use Rattle.auc_call.specs.Drivers.{IsAnswerBy, IsAskedSolve, IsLimitedSolve, IsSolvedBy, IsToldBy}
use Rattle.auc_call.specs.Memory.{Memory}
use Rattle.auc_call.specs.Running.{IsAnswerWritten}
use Rattle.auc_call.specs.Telling.{solve_status, solve_found}
use Rattle.auc_call.proofs.LimitedLaws.{asked_solve, limited_solve, told_limit}
use Rattle.auc_call.proofs.RunLaws.{told_run}

pub solved_by : (d : Driver) (p : Problem) (start : List ℤ) (bids : ℕ) (stopped asked : Bool) (answer : Answer) (after : Memory) (solved : Solved) → IsAnswer p answer → IsAnswerBy d p start bids stopped asked answer → IsAnswerWritten p answer after solved → IsSolvedBy d p start bids stopped asked after solved
solved_by Direct p start bids stopped asked answer after solved is by written = (limited_solve p start bids stopped answer after solved is by.0 written, asked_solve asked p answer after solved is by.1 written)
solved_by Messages p start bids stopped asked answer after solved is by written = record { answer = answer; run = by; written = written }

limited : (p : Problem) (start : List ℤ) (bids : ℕ) (stopped asked : Bool) (after : Memory) (r : Result Solved Failed) → IfOk r (IsSolvedBy Direct p start bids stopped asked after) → IfOk r (IsLimitedSolve p start bids stopped after)
limited p start bids stopped asked after (Ok solved) h = h.0
limited p start bids stopped asked after (Err failed) h = h

pub asked_of : (p : Problem) (start : List ℤ) (bids : ℕ) (stopped asked : Bool) (after : Memory) (r : Result Solved Failed) → IfOk r (IsSolvedBy Direct p start bids stopped asked after) → IfOk r (IsAskedSolve asked)
asked_of p start bids stopped asked after (Ok solved) h = h.1
asked_of p start bids stopped asked after (Err failed) h = h

pub told_by : (d : Driver) (p : Problem) (start : List ℤ) (bids : ℕ) (stopped asked : Bool) (after : Memory) (r : Result Solved Failed) (status : ℤ) (old new : Found) → IfOk r (IsSolvedBy d p start bids stopped asked after) → status ≡ solve_status r → new ≡ solve_found r old → IsToldBy d p start bids stopped after status old new
told_by Direct p start bids stopped asked after r status old new h s f = told_limit p start bids stopped after r status old new (limited p start bids stopped asked after r h) s f
told_by Messages p start bids stopped asked after r status old new h s f = told_run p start bids after r status old new h s f
