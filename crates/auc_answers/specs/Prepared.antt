-- The test before the auction whether there is an assignment at all.
use Rattle.std.specs.Prelude.{ℕ, ◌<◌, ◌≢◌, [], length}
use Rattle.auc_graph.specs.Problem.{Problem}
use Rattle.auc_graph.specs.Table.{IsTableOf, Table, row_of}
use Rattle.auc_answers.specs.declared.preparing.Prepared.{Prepared}
use Rattle.auc_answers.specs.Answers.{HasAssignment, IsInfeasibleAnswer}

-- each person has an arc
abbrev pub NobodyStuck : Table → Type 0
NobodyStuck t = (i : ℕ) → i < length t.rows → row_of t i ≢ []

-- either these are the rows of a problem that has an assignment, or this is the answer that it has none
abbrev pub IsPrepared : Problem → Prepared → Type 0
IsPrepared p (Prepared.Rows t) = IsTableOf p t × NobodyStuck t × HasAssignment p
IsPrepared p (Prepared.Answered answer) = IsInfeasibleAnswer p answer
