-- The problem that a caller gives.
use Rattle.std.specs.Prelude.{length}
use Rattle.auc_graph.specs.Problem.{Problem}
use Rattle.auc_graph.specs.InMemory.{objects_or}
use Rattle.auc_dense.specs.declared.given.GivenTable.{GivenTable}
use Rattle.auc_dense.specs.Table.{IsTable, table_problem}

-- the problem of a table
abbrev pub tabled_problem : GivenTable → Problem
tabled_problem given = table_problem given.persons given.objects given.costs.now given.stride given.gap

-- each row lies within the entries
abbrev pub IsGivenTable : GivenTable → Type 0
IsGivenTable given = IsTable given.persons (objects_or given.objects given.persons) given.stride (length given.costs.now)
