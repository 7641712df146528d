-- What ends a run at once.
use Rattle.auc_rows.specs.Rows.{FlatTable}
use Rattle.auc_market.specs.declared.halt.Halt.{Halt}
use Rattle.auc_market.specs.Hall.{IsShortHallSet}

-- memory was refused, or there is a Hall set
abbrev pub IsHalt : FlatTable → Halt → Type 0
IsHalt r Halt.NoMemory = Unit {0}
IsHalt r (Halt.Closed h) = IsShortHallSet r h.persons.items h.objects.items
