-- The numbers of the three mails of a phase, and the limits that they come from.
use Rattle.std.specs.Prelude.{◌≡◌, ◌≤◌, ◌+◌, ◌*◌, ℕ}
use Rattle.auc_phases.specs.Limits.{AreLimits, nodes_or}
use Rattle.auc_phases.specs.declared.limits.Limits.{Limits}
use Rattle.auc_book.specs.declared.limits.TheConstants.{MOST_ROOM}

-- the number of boxes of each mail, for this number of shards of each kind
pub record AreBoxes (objects persons hub shards : ℕ) : Type 0 where
  pub few : shards ≤ 16
  pub some : 1 ≤ shards
  pub objects_boxes : objects ≡ shards
  pub persons_boxes : persons ≡ shards
  pub hub_boxes : hub ≡ 1

-- the number of workers: the person shards, the object shards, and the hub
abbrev pub workers_of : ℕ → ℕ
workers_of shards = 2 * shards + 1

-- the number of letters that may wait in each mail, by the limits and the number of persons
abbrev pub objects_nodes : Limits → ℕ → ℕ
objects_nodes limits persons = nodes_or limits.nodes persons

abbrev pub persons_nodes : Limits → ℕ → ℕ
persons_nodes limits persons = nodes_or limits.nodes (4 * persons)

abbrev pub hub_nodes : Limits → ℕ → ℕ
hub_nodes limits persons = nodes_or limits.nodes (persons + 2 * limits.shards)

-- the numbers that a mail's name fixes
pub record Numbers : Type 0 where
  pub boxes : ℕ
  pub workers : ℕ
  pub nodes : ℕ
  pub most : ℕ
  pub room : ℕ

abbrev pub numbers : ℕ → ℕ → ℕ → ℕ → ℕ → Numbers
numbers boxes workers nodes most room = record { boxes = boxes; workers = workers; nodes = nodes; most = most; room = room }

-- the numbers of one mail: these boxes and nodes, and by the limits its workers, posts and room
pub record IsNamed (n : Numbers) (boxes nodes : ℕ) (limits : Limits) : Type 0 where
  pub boxes_are : n.boxes ≡ boxes
  pub workers_are : n.workers ≡ workers_of limits.shards
  pub nodes_are : n.nodes ≡ nodes
  pub most_is : n.most ≡ limits.posts
  pub room_is : n.room ≡ limits.audit

-- the numbers of the three mails of a phase, for this number of persons
pub record AreNamed (limits : Limits) (persons : ℕ) (o p h : Numbers) : Type 0 where
  pub objects : IsNamed o limits.shards (objects_nodes limits persons) limits
  pub persons_mail : IsNamed p limits.shards (persons_nodes limits persons) limits
  pub hub : IsNamed h 1 (hub_nodes limits persons) limits

-- limits in range, that of the trails too
pub record AreThreadLimits (limits : Limits) : Type 0 where
  pub world : AreLimits limits
  pub audit : limits.audit ≤ MOST_ROOM

-- the ledger is one that the name opens, with a part for each worker
pub record IsUnopened {T : Type 0} (name name' : T) (parts parts' workers : ℕ) : Type 0 where
  pub name_is : name ≡ name'
  pub parts_are : parts ≡ parts'
  pub one_each : parts' ≡ workers
