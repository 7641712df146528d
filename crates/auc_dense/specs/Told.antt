-- What a solve of a table owes its caller: one fact for each status, and what stays as it was.
use Rattle.std.specs.Prelude.{ℕ, ℤ, Option}
use Rattle.auc_graph.specs.Problem.{Problem}
use Rattle.auc_call.specs.declared.found.Found.{Found}
use Rattle.auc_call.specs.declared.start.StartFault.{StartFault}
use Rattle.auc_call.specs.Memory.{Memory}
use Rattle.auc_call.specs.Told.{IsTold}
use Rattle.auc_dense.specs.Naming.{ByObjects}
use Rattle.auc_dense.specs.Table.{table_fault}
use Rattle.auc_dense.specs.TableSolving.{AreTableSizes}

-- it names objects in place of arcs
abbrev pub IsTableTold : Problem → ℕ → ℕ → Option StartFault → ℤ → Memory → Memory → Found → Found → Type 0
IsTableTold p stride entries unfit status before after old new =
    IsTold p (AreTableSizes p stride entries before) (table_fault p) unfit (ByObjects p.arcs after.choice) status before after old new
