-- The shards of a phase, and the state in which each begins.
use Rattle.std.specs.Prelude.{ℕ, ◌≡◌, ℤ, List, [], None, length, All, replicate}
use Rattle.auc_graph.specs.Table.{Table}
use Rattle.auc_letters.specs.declared.state.PersonState.{PersonState}
use Rattle.auc_letters.specs.Persons.{persons_of}
use Rattle.auc_persons.specs.Persons.{IsMadeFor, Owns, Persons}
use Rattle.auc_objects.specs.Objects.{Objects}

-- the shards that are read where there is none of the number
abbrev pub no_persons : Persons
no_persons = record { shard = 0; of = 0; object_shards = 0; bids = 0; copies = []; states = []; idle = [] }

abbrev pub no_objects : Objects
no_objects = record { shard = 0; of = 0; person_shards = 0; persons = 0; prices = []; holders = [] }

-- a new shard of the persons: all are free, and the copies are the prices
abbrev pub new_persons : ℕ → ℕ → ℕ → List ℤ → ℕ → Persons
new_persons shards persons bids prices s = record {
  shard = s;
  of = shards;
  object_shards = shards;
  bids = bids;
  copies = prices;
  states = replicate persons
      PersonState.Free;
  idle = persons_of s shards persons;
}

-- a new shard of the objects: no object has a holder
abbrev pub new_objects : ℕ → ℕ → List ℤ → ℕ → Objects
new_objects shards persons prices q = record
    { shard = q; of = shards; person_shards = shards; persons = persons; prices = prices; holders = replicate (length prices) None }

-- a shard of the persons of a phase
pub record IsPersonShard (table : Table) (shards s : ℕ) (x : Persons) : Type 0 where
  pub number : x.shard ≡ s
  pub of : x.of ≡ shards
  pub object_shards : x.object_shards ≡ shards
  pub fits : IsMadeFor table x
  pub idle_own : All (Owns x) x.idle

-- a shard of the objects of a phase
pub record IsObjectShard (table : Table) (shards q : ℕ) (x : Objects) : Type 0 where
  pub number : x.shard ≡ q
  pub of : x.of ≡ shards
  pub person_shards : x.person_shards ≡ shards
  pub persons : x.persons ≡ length table.rows
  pub objects : length x.prices ≡ table.objects
  pub holders : length x.holders ≡ table.objects
