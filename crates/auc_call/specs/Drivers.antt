-- What is said of a run by each solver: directly, that only a limit leaves a bracket, or a watch that has said no, and
-- that the watch was asked; by messages, which run it is.
use Rattle.std.specs.Prelude.{Bool, true, ◌≡◌, ◌≢◌, ℕ, ℤ, pos, List}
use Rattle.auc_graph.specs.Problem.{Problem}
use Rattle.auc_claim.specs.declared.reason.Reason.{Reason}
use Rattle.auc_answers.specs.declared.answer.Answer.{Answer}
use Rattle.auc_direct.specs.Endings.{IsAsked, IsStopTold}
use Rattle.auc_world.specs.Chain.{IsOfRun}
use Rattle.auc_call.specs.Codes.{stop_kind}
use Rattle.auc_call.specs.declared.driver.Driver.{Driver}
use Rattle.auc_call.specs.declared.driver.Driver.TheVariants.{Direct, Messages}
use Rattle.auc_call.specs.declared.found.Found.{Found}
use Rattle.auc_call.specs.declared.solved.Solved.{Solved}
use Rattle.auc_call.specs.declared.solved.Solved.TheVariants.{Optimal, Infeasible, Bracket}
use Rattle.auc_call.specs.Limited.{IsLimitAt, IsLimitTold, IsLimitedIn, UnlessStopped}
use Rattle.auc_call.specs.Memory.{Memory}
use Rattle.auc_call.specs.Running.{IsOfRunFrom, IsRunTold, limits_of, start_in}

-- by its answer, where the watch has stopped or not, and was asked or not
abbrev pub IsAnswerBy : Driver → Problem → List ℤ → ℕ → Bool → Bool → Answer → Type 0
IsAnswerBy Direct p start bids stopped asked answer =
    UnlessStopped stopped (IsStopTold answer) (IsLimitedIn p start bids answer) × IsAsked asked answer
IsAnswerBy Messages p start bids stopped asked answer = IsOfRun p (limits_of bids) (start_in start) answer

abbrev pub IsLimitedSolve : Problem → List ℤ → ℕ → Bool → Memory → Solved → Type 0
IsLimitedSolve p start bids stopped after (Optimal cost) = Unit {0}
IsLimitedSolve p start bids stopped after (Infeasible persons objects) = Unit {0}
IsLimitedSolve p start bids stopped after (Bracket reason lower cost) =
    UnlessStopped stopped (reason ≡ Reason.Bids) (IsLimitAt p start bids after.choice after.prices reason lower cost)

-- the watch was asked where an assignment was found
abbrev pub IsAskedSolve : Bool → Solved → Type 0
IsAskedSolve asked (Optimal cost) = asked ≡ true
IsAskedSolve asked (Infeasible persons objects) = Unit {0}
IsAskedSolve asked (Bracket reason lower cost) = asked ≡ true

-- by what was written
abbrev pub IsSolvedBy : Driver → Problem → List ℤ → ℕ → Bool → Bool → Memory → Solved → Type 0
IsSolvedBy Direct p start bids stopped asked after solved =
    IsLimitedSolve p start bids stopped after solved × IsAskedSolve asked solved
IsSolvedBy Messages p start bids stopped asked after solved = IsOfRunFrom p start bids after solved

-- by what is told
abbrev pub IsToldBy : Driver → Problem → List ℤ → ℕ → Bool → Memory → ℤ → Found → Found → Type 0
IsToldBy Direct p start bids stopped after status old new =
    status ≡ pos 4 → UnlessStopped stopped (new.kind ≡ stop_kind)
    (IsLimitTold p start bids after.choice after.prices new.kind new.lower new.cost)
IsToldBy Messages p start bids stopped after status old new =
    status ≢ pos 2 → status ≢ pos 5 → status ≢ pos 6 → status ≢ pos 7 → IsRunTold p start bids after status old new
