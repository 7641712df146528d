-- The start of each thread, and its result.
use Rattle.std.specs.Prelude.{◌≡◌, ◌≢◌, ◌+◌, ◌*◌, ℕ, ℤ, List, length, Option, Some, vec_len}
use Rattle.auc_letters.specs.declared.letter.Letter.{Letter}
use Rattle.auc_letters.specs.declared.letter.Why.{Why}
use Rattle.auc_objects.specs.Objects.{Objects}
use Rattle.auc_book.specs.Seat.{Account, new_account}
use Rattle.auc_graph.specs.Table.{Table}
use Rattle.auc_persons.specs.Candidates.{Kept, Listed}
use Rattle.auc_persons.specs.Persons.{Persons}
use Rattle.auc_threads.specs.declared.calls.Step.{Step}
use Rattle.auc_threads.specs.declared.object_threads.Sold.{Sold}
use Rattle.auc_threads.specs.declared.object_worker.ObjectWork.{ObjectWork}
use Rattle.auc_threads.specs.declared.object_worker.ObjectWorker.{ObjectWorker}
use Rattle.auc_threads.specs.declared.person_threads.Bought.{Bought}
use Rattle.auc_threads.specs.declared.person_worker.PersonWork.{PersonWork}
use Rattle.auc_threads.specs.declared.person_worker.PersonWorker.{PersonWorker}
use Rattle.auc_threads.specs.declared.running.Starts.{Starts}
use Rattle.auc_threads.specs.declared.running.Works.{Works}
use Rattle.auc_threads.specs.Buying.{Buys}
use Rattle.auc_threads.specs.Counting.{Closes, Counts}
use Rattle.auc_threads.specs.Dealing.{Serves}
use Rattle.auc_threads.specs.Hearing.{Hears, SomebodyStuck}
use Rattle.auc_threads.specs.Placed.{Placed}
use Rattle.auc_threads.specs.Posting.{Ends, why_of}
use Rattle.auc_threads.specs.Sales.{Sells}
use Rattle.auc_threads.specs.Worker.{AreNewSeats, AreSeatsOf, Rooms, Round, Setting, Worker, accounts_of, bought_of, box, buyer_of, dealer_of, listener_of, new_buyer, new_seller, round, seller_of, sold_of, with_hub}

-- ---- the objects

-- the start of the object worker of shard k
pub record IsSellerStart (g : Setting) (k : ℕ) (w : Worker Objects) : Type 0 where
  pub shard : w.shard ≡ (new_seller g k).shard
  pub seats : AreNewSeats (g.limits.shards + k) w.seats

-- The work of an object worker: it dealt with bids from the box of its shard's number and posted the letters about
-- them. At its end it posts its reason to the hub.
pub record IsObjectWork (eps : ℤ) (r : Rooms) (old new : Worker Objects) (why : Option Why) : Type 0 where
  pub step : Step
  pub before : Account Letter
  pub serves : Serves eps r old.shard.shard old (with_hub new before) step
  pub ended : step ≢ Step.On
  pub ends : Ends r.hub before step new.seats.hub
  pub why_is : why ≡ why_of step

-- the promise of thread k: it works at this eps, from such a start
pub record IsObjectPromise {O P H : Type 0} (g : Setting) (k : ℕ) (p : Sold O P H) : Type 0 where
  pub at_eps : p.eps ≡ g.eps
  pub begins : IsSellerStart g k (seller_of p.start.value)

-- the result of the thread
pub record IsObjectResult (g : Setting) (r : Rooms) (k : ℕ) (w : Worker Objects) (why : Option Why) : Type 0 where
  pub seats : AreSeatsOf (g.limits.shards + k) w.seats
  pub sells : Sells g.eps r.objects (dealer_of (new_seller g k)) (dealer_of w)
  pub no_guard : (why ≢ Some Why.Stuck) × (why ≢ Some Why.Fell)
  pub no_bids : why ≢ Some Why.Bids
  pub work : IsObjectWork g.eps r (new_seller g k) w why

-- ---- the persons

pub record IsPersonStart (g : Setting) (k : ℕ) (w : Worker Persons) : Type 0 where
  pub shard : w.shard ≡ (new_buyer g k).shard
  pub seats : AreNewSeats k w.seats

-- the start of a person worker with candidate lists that are correct at any copies
pub record IsBuyerStart (g : Setting) (k : ℕ) (lists : List Listed) (w : Worker Persons) : Type 0 where
  pub begins : IsPersonStart g k w
  pub kept : (copies : List ℤ) → Kept g.table copies lists

-- The work of a person worker: it bid and took letters, from the box of its shard's number. At its end it posts its
-- reason to the hub.
pub record IsPersonWork (g : Round) (r : Rooms) (old new : Worker Persons) (why : Option Why) : Type 0 where
  pub step : Step
  pub buys : Buys g r old.shard.shard old new step
  pub ended : step ≢ Step.On
  pub ends : Ends r.hub old.seats.hub step new.seats.hub
  pub why_is : why ≡ why_of step
  pub hears : Hears (box r.persons old.shard.shard) (listener_of old) (listener_of new) (why ≡ Some Why.Fell)
  pub stuck : why ≡ Some Why.Stuck → SomebodyStuck g.table

pub record IsPersonPromise {O P H : Type 0} (g : Setting) (k : ℕ) (p : Bought O P H) : Type 0 where
  pub at_eps : p.eps ≡ g.eps
  pub same_table : p.rows.value ≡ g.table
  pub begins : IsPersonStart g k (buyer_of p.start.value)

pub record IsPersonResult (g : Setting) (r : Rooms) (k : ℕ) (w : Worker Persons) (why : Option Why) : Type 0 where
  pub seats : AreSeatsOf k w.seats
  pub work : IsPersonWork (round g.table g.eps) r (new_buyer g k) w why

-- ---- all of them

abbrev pub AreBuyers : {O P H : Type 0} → Setting → List (PersonWorker O P H) → Type 0
AreBuyers g xs = Placed (λ k x. IsBuyerStart g k x.buyer.lists (buyer_of x)) 0 xs

abbrev pub AreSellers : {O P H : Type 0} → Setting → List (ObjectWorker O P H) → Type 0
AreSellers g xs = Placed (λ k x. IsSellerStart g k (seller_of x)) 0 xs

abbrev pub HaveBought : {O P H : Type 0} → Setting → Rooms → List (PersonWork O P H) → Type 0
HaveBought g r xs = Placed (λ k x. IsPersonResult g r k (bought_of x) x.why) 0 xs

abbrev pub HaveSold : {O P H : Type 0} → Setting → Rooms → List (ObjectWork O P H) → Type 0
HaveSold g r xs = Placed (λ k x. IsObjectResult g r k (sold_of x) x.why) 0 xs

-- the start of the workers of a phase: those of each shard, and the hub
pub record AreStarts {O P H : Type 0} (g : Setting) (s : Starts O P H) : Type 0 where
  pub persons : AreBuyers g s.persons.items
  pub persons_many : vec_len s.persons ≡ g.limits.shards
  pub objects : AreSellers g s.objects.items
  pub objects_many : vec_len s.objects ≡ g.limits.shards
  pub hub : AreNewSeats (2 * g.limits.shards) (accounts_of s.hub)

-- the results of all workers: the hub has counted, and has closed all boxes
pub record AreWorks {O P H : Type 0} (g : Setting) (r : Rooms) (w : Works O P H) : Type 0 where
  pub persons : HaveBought g r w.persons.items
  pub persons_many : vec_len w.persons ≡ g.limits.shards
  pub objects : HaveSold g r w.objects.items
  pub objects_many : vec_len w.objects ≡ g.limits.shards
  pub counts : Counts r.hub (length g.table.rows) (new_account (2 * g.limits.shards)) w.hub.is_all w.hub.why w.hub.seats.hub
  pub hub_objects : Closes r.objects g.limits.shards (new_account (2 * g.limits.shards)) w.hub.seats.objects
  pub hub_persons : Closes r.persons g.limits.shards (new_account (2 * g.limits.shards)) w.hub.seats.persons
