use Rattle.auc_dense.proofs.EntryLaws.{entries_are}
use Rattle.auc_dense.proofs.table.arcs_are_entries.Goals as goal

pub returns : goal.returns
returns c = λ persons objects stride costs gap arc table. entries_are persons objects costs stride gap arc table
