-- What contracts see of a worker: its shard, its seats at the three mails, and the parameters of its phase.
use Rattle.std.specs.Prelude.{◌≡◌, ℕ, ◌+◌, ◌*◌, ℤ, List, length}
use Rattle.auc_graph.specs.Table.{Table}
use Rattle.auc_letters.specs.declared.letter.Letter.{Letter}
use Rattle.auc_objects.specs.Objects.{Objects}
use Rattle.auc_persons.specs.Persons.{Persons}
use Rattle.auc_book.specs.Seat.{Account, new_account}
use Rattle.auc_phases.specs.declared.limits.Limits.{Limits}
use Rattle.auc_phases.specs.Shards.{new_objects, new_persons}
use Rattle.auc_threads.specs.declared.mails.WorkerSeats.{WorkerSeats}
use Rattle.auc_threads.specs.declared.object_worker.ObjectWork.{ObjectWork}
use Rattle.auc_threads.specs.declared.object_worker.ObjectWorker.{ObjectWorker}
use Rattle.auc_threads.specs.declared.person_worker.PersonWork.{PersonWork}
use Rattle.auc_threads.specs.declared.person_worker.PersonWorker.{PersonWorker}
use Rattle.auc_threads.specs.declared.task.Task.{Task}

-- ---- what a phase is run on

pub record Setting : Type 0 where
  pub table : Table
  pub limits : Limits
  pub eps : ℤ
  pub prices : List ℤ

abbrev pub setting : Table → Limits → ℤ → List ℤ → Setting
setting t limits eps prices = record { table = t; limits = limits; eps = eps; prices = prices }

abbrev pub setting_of : Task → Setting
setting_of task = setting task.rows.now task.limits.now task.eps task.prices.now

-- the rows and eps by which persons bid
pub record Round : Type 0 where
  pub table : Table
  pub eps : ℤ

abbrev pub round : Table → ℤ → Round
round t eps = record { table = t; eps = eps }

-- ---- seats

-- the accounts of a worker's seats at the three mails
pub record Accounts : Type 0 where
  pub objects : Account Letter
  pub persons : Account Letter
  pub hub : Account Letter

abbrev pub accounts_of : {O P H : Type 0} → WorkerSeats O P H → Accounts
accounts_of seats = record { objects = seats.objects; persons = seats.persons; hub = seats.hub }

-- the accounts of worker k before any call
abbrev pub new_accounts : ℕ → Accounts
new_accounts k = record { objects = new_account k; persons = new_account k; hub = new_account k }

pub record AreNewSeats (k : ℕ) (a : Accounts) : Type 0 where
  pub objects_seat : a.objects ≡ new_account k
  pub persons_seat : a.persons ≡ new_account k
  pub hub_seat : a.hub ≡ new_account k

-- the accounts are those of worker k
pub record AreSeatsOf (k : ℕ) (a : Accounts) : Type 0 where
  pub objects_seat : a.objects.worker ≡ k
  pub persons_seat : a.persons.worker ≡ k
  pub hub_seat : a.hub.worker ≡ k

-- the number of lines for which the trails of the three mails have room
pub record Rooms : Type 0 where
  pub objects : ℕ
  pub persons : ℕ
  pub hub : ℕ

abbrev pub rooms : ℕ → ℕ → ℕ → Rooms
rooms objects persons hub = record { objects = objects; persons = persons; hub = hub }

-- a box of a mail, with the number of lines for which its trail has room
pub record Box : Type 0 where
  pub room : ℕ
  pub at : ℕ

abbrev pub box : ℕ → ℕ → Box
box room at = record { room = room; at = at }

-- ---- workers

-- a shard of this kind, with its worker's seat at the mail from which it takes
pub record Taker (S : Type 0) : Type 0 where
  pub shard : S
  pub seat : Account Letter

abbrev pub taker : {S : Type 0} → S → Account Letter → Taker S
taker s a = record { shard = s; seat = a }

-- a shard of this kind, with its worker's seats
pub record Worker (S : Type 0) : Type 0 where
  pub shard : S
  pub seats : Accounts

abbrev pub buyer_of : {O P H : Type 0} → PersonWorker O P H → Worker Persons
buyer_of x = record { shard = x.buyer.shard; seats = accounts_of x.seats }

abbrev pub bought_of : {O P H : Type 0} → PersonWork O P H → Worker Persons
bought_of x = record { shard = x.shard; seats = accounts_of x.seats }

-- the worker with the one seat from which it takes letters, and below the one from which it takes bids
abbrev pub listener_of : Worker Persons → Taker Persons
listener_of w = taker w.shard w.seats.persons

abbrev pub dealer_of : Worker Objects → Taker Objects
dealer_of w = taker w.shard w.seats.objects

abbrev pub seller_of : {O P H : Type 0} → ObjectWorker O P H → Worker Objects
seller_of x = record { shard = x.shard; seats = accounts_of x.seats }

abbrev pub sold_of : {O P H : Type 0} → ObjectWork O P H → Worker Objects
sold_of x = record { shard = x.shard; seats = accounts_of x.seats }

-- the same worker, with this seat at the hub's mail
abbrev pub with_hub : {S : Type 0} → Worker S → Account Letter → Worker S
with_hub w a = record { shard = w.shard; seats = record { objects = w.seats.objects; persons = w.seats.persons; hub = a } }

-- the start of the person worker of shard k, and below of the object worker
abbrev pub new_buyer : Setting → ℕ → Worker Persons
new_buyer g k = record {
  shard = new_persons g.limits.shards (length g.table.rows) g.limits.bids g.prices k;
  seats = new_accounts k;
}

abbrev pub new_seller : Setting → ℕ → Worker Objects
new_seller g k = record {
  shard = new_objects g.limits.shards (length g.table.rows) g.prices k;
  seats = new_accounts (g.limits.shards + k);
}
