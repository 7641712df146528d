-- The parts of a world, as callers see them, and the world of the model that they make.
use Rattle.std.specs.Prelude.{ℕ, ◌+◌, ◌*◌, ◌%◌, ◌<◌, ◌≤◌, ◌≡◌, ℤ, nat_lt, if◌then◌else◌, Bool, false, List, [], length, All, slice_index_or}
use Rattle.auc_graph.specs.Table.{Table, IsTable}
use Rattle.auc_mail.specs.Mail.{Mail, HasBox, IsOpen}
use Rattle.auc_letters.specs.declared.letter.Letter.{Letter}
use Rattle.auc_letters.specs.declared.out.Out.{Out}
use Rattle.auc_letters.specs.Price.{IsEps}
use Rattle.auc_persons.specs.Persons.{Persons, copy_of, state_of}
use Rattle.auc_objects.specs.Objects.{Objects, price_of, holder_of}
use Rattle.auc_model.specs.World.{Phase, World, phase_of}
use Rattle.auc_model.specs.Mails.{Shard}
use Rattle.auc_phases.specs.Hub.{Counting}
use Rattle.auc_phases.specs.Boxes.{Reaches}
use Rattle.auc_phases.specs.Shards.{IsObjectShard, IsPersonShard, no_objects, no_persons}
use Rattle.auc_machine.specs.Mails.{Mails}

-- The rows of the problem, the number of shards of each kind, and eps. The shards, and the outboxes: those of the
-- person shards, and after them those of the object shards. The flags of person shards that have made a Stop, the three
-- mails, and the hub: the First letters counted, and the end, once it is set.
pub record Parts : Type 0 where
  pub table : Table
  pub shards : ℕ
  pub eps : ℤ
  pub persons : List Persons
  pub objects : List Objects
  pub outboxes : List (List Out)
  pub stopped : List Bool
  pub mails : Mails
  pub hub : Counting

-- the shards
abbrev pub persons_at : Parts → ℕ → Persons
persons_at p s = slice_index_or p.persons s no_persons

abbrev pub objects_at : Parts → ℕ → Objects
objects_at p q = slice_index_or p.objects q no_objects

abbrev pub has_stopped : Parts → ℕ → Bool
has_stopped p s = slice_index_or p.stopped s false

-- the outbox of a sender: the person shards come first, the object shards after them
abbrev pub outbox_at : Parts → ℕ → List Out
outbox_at p x = slice_index_or p.outboxes x []

-- the sender number of a shard, in each mail
abbrev pub sender_of : Parts → Shard → ℕ
sender_of p (Shard.PersonShard s) = s
sender_of p (Shard.ObjectShard q) = p.shards + q

-- the phase of the world
abbrev pub phase : Parts → Phase
phase p = phase_of p.table p.shards p.eps

-- The world that the parts make: the price and the holder of an object are kept in its own shard, and so is the state
-- of a person.
abbrev pub world_of : Parts → World
world_of p = record {
  price = λ j. price_of (slice_index_or p.objects (j % p.shards) no_objects) j;
  holder = λ j. holder_of (slice_index_or p.objects (j % p.shards) no_objects) j;
  state = λ i. state_of (slice_index_or p.persons (i % p.shards) no_persons) i;
  copy = λ s j. copy_of (slice_index_or p.persons s no_persons) j;
  idle = λ s. (slice_index_or p.persons s no_persons).idle;
  bids_left = λ s. (slice_index_or p.persons s no_persons).bids;
  has_stopped = λ s. slice_index_or p.stopped s false;
  person_out = λ s. if nat_lt s p.shards then slice_index_or p.outboxes s [] else [];
  object_out = λ q. slice_index_or p.outboxes (p.shards + q) [];
  objects_mail = p.mails.objects;
  persons_mail = p.mails.persons;
  hub_mail = p.mails.hub;
  count = p.hub.count;
  end = p.hub.end;
}

-- a mail of this world, with this number of boxes
pub record IsMail (shards : ℕ) (m : Mail Letter) (boxes : ℕ) : Type 0 where
  pub boxes_are : length m.accepting ≡ boxes
  pub senders_are : m.senders ≡ 2 * shards + 1

pub record AreMails (shards : ℕ) (m : Mails) : Type 0 where
  pub objects : IsMail shards m.objects shards
  pub persons : IsMail shards m.persons shards
  pub hub : IsMail shards m.hub 1

-- the invariant of the parts
pub record AreParts (p : Parts) : Type 0 where
  pub some : 0 < p.shards
  pub few : p.shards ≤ 16
  pub eps_is : IsEps p.eps
  pub table_is : IsTable p.table
  pub persons_are : length p.persons ≡ p.shards
  pub objects_are : length p.objects ≡ p.shards
  pub outboxes_are : length p.outboxes ≡ 2 * p.shards
  pub stopped_are : length p.stopped ≡ p.shards
  pub each_persons : (s : ℕ) → s < p.shards → IsPersonShard p.table p.shards s (slice_index_or p.persons s no_persons)
  pub each_objects : (q : ℕ) → q < p.shards → IsObjectShard p.table p.shards q (slice_index_or p.objects q no_objects)
  pub each_outbox : (x : ℕ) → x < 2 * p.shards → All (Reaches p.shards) (slice_index_or p.outboxes x [])
  pub mails_are : AreMails p.shards p.mails

-- the phase stays the same
pub record SamePhase (p n : Parts) : Type 0 where
  pub table : n.table ≡ p.table
  pub shards : n.shards ≡ p.shards
  pub eps : n.eps ≡ p.eps

-- the person shard may be asked for a bid: it exists, its outbox is empty, and it has made no Stop
pub record MayAskForBid (p : Parts) (s : ℕ) : Type 0 where
  pub known : s < p.shards
  pub empty : outbox_at p s ≡ []
  pub going : has_stopped p s ≡ false

-- the object shard may answer a bid: it exists, and its outbox is empty
pub record MayAnswer (p : Parts) (q : ℕ) : Type 0 where
  pub known : q < p.shards
  pub empty : outbox_at p (p.shards + q) ≡ []

-- the object exists, and is the shard's
pub record OwnsObject (p : Parts) (q j : ℕ) : Type 0 where
  pub known : j < p.table.objects
  pub own : j % p.shards ≡ q

-- the box exists, and is open
pub record IsOpenBox (m : Mail Letter) (at : ℕ) : Type 0 where
  pub known : HasBox m at
  pub accepts : IsOpen m at
