-- The work of each worker of a phase, by its lines in the three trails, and the end of the phase that follows.
use Rattle.std.specs.Prelude.{◌≡◌, ◌<◌, ◌≤◌, ◌+◌, ◌*◌, ℕ, Bool, true, false, List, [], ◌∷◌, ◌++◌, Option, Some, None, length, slice_index_or}
use Rattle.auc_letters.specs.declared.letter.Letter.{Letter}
use Rattle.auc_letters.specs.declared.letter.Why.{Why}
use Rattle.auc_objects.specs.Objects.{Objects}
use Rattle.auc_persons.specs.Persons.{Persons}
use Rattle.auc_book.specs.Seat.{Account, new_account}
use Rattle.auc_book.specs.declared.line.TrailLine.{TrailLine}
use Rattle.auc_book.specs.Settling.{Agrees, IsTurnedByFull}
use Rattle.auc_model.specs.declared.turn.End.{End}
use Rattle.auc_phases.specs.declared.limits.Limits.{Limits}
use Rattle.auc_threads.specs.declared.settling.Trails.{Trails}
use Rattle.auc_threads.specs.Counting.{Closes, Counts}
use Rattle.auc_threads.specs.Starts.{IsObjectWork, IsPersonWork}
use Rattle.auc_threads.specs.Worker.{Accounts, Rooms, Setting, Worker, new_buyer, new_seller, rooms, round}

-- The account of a worker's seat at a mail agrees with the trail: the trail has exactly these lines of the worker, and
-- other calls were turned away only if the trail is full.
pub record IsNoted (room w : ℕ) (trail : List (TrailLine Letter)) (a : Account Letter) : Type 0 where
  pub worker : a.worker ≡ w
  pub lines : Agrees trail a
  pub full : IsTurnedByFull room trail a

-- the same at the three mails
pub record AreNoted (room w : ℕ) (trails : Trails) (a : Accounts) : Type 0 where
  pub at_objects : IsNoted room w trails.objects a.objects
  pub at_persons : IsNoted room w trails.persons a.persons
  pub at_hub : IsNoted room w trails.hub a.hub

-- trails with room for as many lines as the limits say
abbrev pub audited : Limits → Rooms
audited limits = rooms limits.audit limits.audit limits.audit

-- The person worker of shard k began with a new shard, and this is its work. It posted this number of bids, and at most
-- the limit.
pub record IsBuyer (g : Setting) (trails : Trails) (bids k : ℕ) (why : Option Why) : Type 0 where
  pub left : Worker Persons
  pub work : IsPersonWork (round g.table g.eps) (audited g.limits) (new_buyer g k) left why
  pub noted : AreNoted g.limits.audit k trails left.seats
  pub counted : length left.seats.objects.lines ≡ bids
  pub few : length left.seats.objects.lines ≤ g.limits.bids
  pub spent : why ≡ Some Why.Bids → length left.seats.objects.lines ≡ g.limits.bids

-- The object worker of shard k began with a new shard, and this is its work.
pub record IsSeller (g : Setting) (trails : Trails) (k : ℕ) (why : Option Why) : Type 0 where
  pub left : Worker Objects
  pub work : IsObjectWork g.eps (audited g.limits) (new_seller g k) left why
  pub noted : AreNoted g.limits.audit (g.limits.shards + k) trails left.seats

-- The hub, by whether it has counted a First for each person. It closed all boxes.
pub record IsHub (g : Setting) (trails : Trails) (is_all : Bool) (why : Option Why) : Type 0 where
  pub left : Accounts
  pub counts : Counts g.limits.audit (length g.table.rows) (new_account (2 * g.limits.shards)) is_all why left.hub
  pub objects_closed : Closes g.limits.audit g.limits.shards (new_account (2 * g.limits.shards)) left.objects
  pub persons_closed : Closes g.limits.audit g.limits.shards (new_account (2 * g.limits.shards)) left.persons
  pub noted : AreNoted g.limits.audit (2 * g.limits.shards) trails left

-- the worker at this place has this reason
pub record IsWhyOfOne {X : Type 0} (why_of : X → Option Why) (works : List X) (why : Why) : Type 0 where
  pub place : ℕ
  pub known : place < length works
  pub its : (d : X) → why_of (slice_index_or works place d) ≡ Some why

-- the first reason
abbrev pub first_some : List (Option Why) → Option Why
first_some [] = None
first_some (None ∷ whys) = first_some whys
first_some (Some why ∷ whys) = Some why

-- the end of a phase: no reason counts if each person has an object
abbrev pub end_by : Bool → Option Why → Option End
end_by true why = Some End.All
end_by false None = None
end_by false (Some why) = Some (End.Stopped why)

-- What the trails prove of the workers, each with its reason to stop, if it has one. The first reason counts: of the
-- persons, then the objects, then the hub.
pub record AreWorked (g : Setting) (trails : Trails) (bids : List ℕ) (end : Option End) : Type 0 where
  pub person_reasons : List (Option Why)
  pub object_reasons : List (Option Why)
  pub hub_reason : Option Why
  pub is_all : Bool
  pub buyers : (k : ℕ) → k < g.limits.shards → IsBuyer g trails (slice_index_or bids k 0) k (slice_index_or person_reasons k None)
  pub sellers : (k : ℕ) → k < g.limits.shards → IsSeller g trails k (slice_index_or object_reasons k None)
  pub hub : IsHub g trails is_all hub_reason
  pub person_many : length person_reasons ≡ g.limits.shards
  pub object_many : length object_reasons ≡ g.limits.shards
  pub end_is : end ≡ end_by is_all (first_some ((person_reasons ++ object_reasons) ++ hub_reason ∷ []))
