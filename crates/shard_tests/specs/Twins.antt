-- Two shards of the same persons, and what one of them finds its bids by.
use Rattle.std.specs.Prelude.{List}
use Rattle.auc_graph.specs.Table.{Table}
use Rattle.auc_persons.specs.Candidates.{Kept, Listed}
use Rattle.auc_persons.specs.Persons.{IsMadeFor, Persons}

-- both were made for the rows, and the lists are right
pub record AreTwins (t : Table) (whole listed : Persons) (lists : List Listed) : Type 0 where
  pub made_whole : IsMadeFor t whole
  pub made_listed : IsMadeFor t listed
  pub kept : Kept t listed.copies lists
