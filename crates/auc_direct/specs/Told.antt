-- What is proved of the answer to a run.
use Rattle.std.specs.Prelude.{ℕ, ℤ, ◌≡◌, List}
use Rattle.auc_claim.specs.declared.reason.Reason.{Reason}
use Rattle.auc_graph.specs.Assignment.{total}
use Rattle.auc_graph.specs.Problem.{Problem}
use Rattle.auc_answers.specs.declared.answer.Answer.{Answer}
use Rattle.auc_answers.specs.Answers.{IsAnswer}
use Rattle.auc_rows.specs.Rows.{FlatTable}
use Rattle.auc_market.specs.declared.ending.Ending.{Ending}
use Rattle.auc_market.specs.Bids.{State}
use Rattle.auc_market.specs.Endings.{IsRunStopped}
use Rattle.auc_direct.specs.Endings.{IsBracketFor, IsLimited, IsOfPhases, IsStopTold}
use Rattle.auc_direct.specs.Phases.{HasRun}

-- The answer to a run is right, and its prices are those of the run. A bracket follows a limit or reports a stop.
pub record IsTold (p : Problem) (r : FlatTable) (ending : Ending) (prices : List ℤ) (answer : Answer) : Type 0 where
  pub is : IsAnswer p answer
  pub limited : (bids : ℕ) (begun : State) → IsRunStopped r bids begun ending prices → IsLimited p bids (total begun.prices) answer
  pub told : ending ≡ Ending.Stopped Reason.Bids → IsStopTold answer
  pub why : IsBracketFor Reason.Ceiling answer → ending ≡ Ending.Stopped Reason.Ceiling
  pub run : (bids : ℕ) (begun : List ℤ) → HasRun r bids begun ending prices → IsOfPhases p bids begun answer
