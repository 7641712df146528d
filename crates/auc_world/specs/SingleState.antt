-- A phase with one shard of each kind, played without a world: the state that is kept, the effect of a round, and the
-- world that the state stands for. The letters that wait in the mails of the objects and of the hub between two turns
-- follow from the turn, and aren't kept.
use Rattle.std.specs.Prelude.{ℕ, ◌+◌, ◌*◌, ◌-◌, ◌<◌, ◌≤◌, ◌≡◌, ◌==◌, ℤ, pos, Bool, true, false, if◌then◌else◌, List, [], ◌∷◌, ◌++◌, length, drop, slice_index_or, slice_set, Option, Some, None}
use Rattle.auc_letters.specs.declared.letter.Letter.{Letter}
use Rattle.auc_letters.specs.declared.letter.Bid.{Bid}
use Rattle.auc_letters.specs.declared.state.Held.{Held}
use Rattle.auc_letters.specs.Award.{Sale, award, is_accepted}
use Rattle.auc_mail.specs.Mail.{Lane, Mail, blank_lane}
use Rattle.auc_model.specs.World.{Phase, World}
use Rattle.auc_model.specs.Schedule.{Reached}
use Rattle.auc_model.specs.declared.turn.End.{End}
use Rattle.auc_model.specs.declared.turn.Turn.{Turn}
use Rattle.auc_world.specs.declared.single_shard.notice.Notice.{Notice}
use Rattle.auc_machine.specs.Rounds.{Plays, Rounds}

-- the number that stands for no freed person
abbrev pub nobody : ℕ
nobody = 4294967295

-- The number of persons. By object the copy of its price, its price and its holder. The notices that wait for the
-- persons, earliest first; the free persons, longest free first; the bids left; and the number of objects sold for the
-- first time.
pub record SingleState : Type 0 where
  pub persons : ℕ
  pub copies : List ℤ
  pub prices : List ℤ
  pub holders : List (Option Held)
  pub notices : List Notice
  pub idle : List ℕ
  pub bids : ℕ
  pub count : ℕ

-- ---- what a round makes of it

abbrev pub sale_at : SingleState → ℕ → Sale
sale_at s object = record { price = slice_index_or s.prices object (pos 0); holder = slice_index_or s.holders object None }

-- the notice about an object: its price, and the person that it frees
abbrev pub frees : ℕ → ℕ → ℤ → Notice
frees person object price = record { price = price; object = object; freed = person }

abbrev pub awarded : ℕ → ℤ → Notice
awarded object price = record { price = price; object = object; freed = nobody }

-- the notices of an accepted bid: the holder before is freed, and then the award
abbrev pub notices_of_sale : Option Held → ℕ → ℤ → List Notice
notices_of_sale None object price = awarded object price ∷ []
notices_of_sale (Some held) object price = frees held.person object price ∷ awarded object price ∷ []

-- the notices of a bid: those of an accepted one, or that the bidder is free again at the present price
abbrev pub notices_of : ℤ → Sale → Bid → List Notice
notices_of eps sale bid =
    if is_accepted eps sale bid then notices_of_sale sale.holder bid.object bid.amount else frees bid.person bid.object
    sale.price ∷ []

abbrev pub first_of : Option Held → ℕ
first_of None = 1
first_of (Some held) = 0

-- 1 if the bid sells its object for the first time, else 0
abbrev pub firsts_of : ℤ → Sale → Bid → ℕ
firsts_of eps sale bid = if is_accepted eps sale bid then first_of sale.holder else 0

-- the state after the first free person has made this bid, and it was answered
abbrev pub sold : ℤ → SingleState → Bid → SingleState
sold eps s bid = record s {
  prices = slice_set s.prices bid.object (award eps (sale_at s bid.object) bid).price;
  holders = slice_set s.holders bid.object (award eps (sale_at s bid.object) bid).holder;
  notices = s.notices ++ notices_of eps (sale_at s bid.object) bid;
  idle = drop 1 s.idle;
  bids = s.bids - 1;
  count = s.count + firsts_of eps (sale_at s bid.object) bid;
}

abbrev pub freed_by : Notice → List ℕ
freed_by t = if t.freed == nobody then [] else t.freed ∷ []

-- the state after the persons have taken this notice, the first that waits
abbrev pub heard : SingleState → Notice → SingleState
heard s t = record s { copies = slice_set s.copies t.object t.price; notices = drop 1 s.notices; idle = s.idle ++ freed_by t }

-- ---- the world that is seen in it

-- the notice is about the object j, with the price p, and frees this person
pub record IsNoticeAbout (t : Notice) (j : ℕ) (p : ℤ) (freed : ℕ) : Type 0 where
  pub price : t.price ≡ p
  pub object : t.object ≡ j
  pub freed_is : t.freed ≡ freed

-- the notice says what the letter says
abbrev pub IsNoticeOf : Notice → Letter → Type 0
IsNoticeOf t (Letter.Award i j p) = IsNoticeAbout t j p nobody
IsNoticeOf t (Letter.Refused i j p) = IsNoticeAbout t j p i
IsNoticeOf t (Letter.Outbid i j p) = IsNoticeAbout t j p i
IsNoticeOf t (Letter.Price j p) = ⊥
IsNoticeOf t (Letter.Bid i a j p) = ⊥
IsNoticeOf t (Letter.First j) = ⊥
IsNoticeOf t (Letter.Stop y) = ⊥

abbrev pub AreNoticesOf : List Notice → List Letter → Type 0
AreNoticesOf [] [] = Unit {0}
AreNoticesOf [] (l ∷ ls) = ⊥
AreNoticesOf (t ∷ ts) [] = ⊥
AreNoticesOf (t ∷ ts) (l ∷ ls) = IsNoticeOf t l × AreNoticesOf ts ls

abbrev pub AreFirsts : List Letter → Type 0
AreFirsts [] = Unit {0}
AreFirsts (Letter.First j ∷ ls) = AreFirsts ls
AreFirsts (Letter.Award i j p ∷ ls) = ⊥
AreFirsts (Letter.Refused i j p ∷ ls) = ⊥
AreFirsts (Letter.Outbid i j p ∷ ls) = ⊥
AreFirsts (Letter.Price j p ∷ ls) = ⊥
AreFirsts (Letter.Bid i a j p ∷ ls) = ⊥
AreFirsts (Letter.Stop y ∷ ls) = ⊥

abbrev pub lane : ℕ → List Letter → Lane Letter
lane taken letters = record { taken = taken; waiting = letters }

-- an open mail of one box, with its three senders: the person shard, the object shard, and the hub
abbrev pub one_box : ℕ → ℕ → Lane Letter → Lane Letter → Mail Letter
one_box nodes most persons objects = record
    { senders = 3; nodes = nodes; most = most; accepting = true ∷ []; lanes = persons ∷ objects ∷ blank_lane ∷ [] }

-- The mails of a world that the state stands for. This number of First letters waits in the hub's mail: they are
-- counted in the state already, and not yet in the world.
pub record MailsTell (g : Phase) (allowed most : ℕ) (s : SingleState) (firsts : ℕ) (w : World) : Type 0 where
  pub taken : ℕ
  pub objects : w.objects_mail ≡ one_box g.persons most (lane taken []) blank_lane
  pub few : taken + s.bids ≤ allowed
  pub heard : ℕ
  pub letters : List Letter
  pub persons : w.persons_mail ≡ one_box (4 * g.persons) most blank_lane (lane heard letters)
  pub tells : AreNoticesOf s.notices letters
  pub room : length letters ≤ 4 * g.persons
  pub few_notices : heard + length letters + 2 * s.bids ≤ 2 * allowed
  pub counted : ℕ
  pub waiting : List Letter
  pub hub : w.hub_mail ≡ one_box (g.persons + 2) most blank_lane (lane counted waiting)
  pub are_firsts : AreFirsts waiting
  pub many : length waiting ≡ firsts
  pub few_firsts : counted + length waiting + s.bids ≤ allowed

-- The state stands for this world of the phase, with one shard of each kind and all boxes open, between two turns that
-- leave no letter in an outbox. This number of bids was allowed, and this number of posts in each lane.
pub record Shows (g : Phase) (allowed most : ℕ) (s : SingleState) (firsts : ℕ) (w : World) : Type 0 where
  pub price : (j : ℕ) → w.price j ≡ slice_index_or s.prices j (pos 0)
  pub holder : (j : ℕ) → w.holder j ≡ slice_index_or s.holders j None
  pub copy : (j : ℕ) → w.copy 0 j ≡ slice_index_or s.copies j (pos 0)
  pub idle : w.idle 0 ≡ s.idle
  pub bids : w.bids_left 0 ≡ s.bids
  pub going : w.has_stopped 0 ≡ false
  pub person_out : w.person_out 0 ≡ []
  pub object_out : w.object_out 0 ≡ []
  pub mails : MailsTell g allowed most s firsts w
  pub count : w.count + firsts ≡ s.count
  pub prices_are : length s.prices ≡ g.objects
  pub holders_are : length s.holders ≡ g.objects
  pub copies_are : length s.copies ≡ g.objects
  pub within : s.count ≤ g.persons

-- the end of a phase in which this number of objects was sold, if it has ended
abbrev pub end_at : ℕ → ℕ → Option End
end_at count persons = if count == persons then Some End.All else None

-- whole rounds have led from the world that the phase began with to one that the state stands for
pub record Going (g : Phase) (start : World) (allowed most : ℕ) (s : SingleState) : Type 0 where
  pub rounds : ℕ
  pub world : World
  pub led : Rounds g start rounds world
  pub reached : Reached g world
  pub shows : Shows g allowed most s 0 world
  pub end : world.end ≡ end_at s.count g.persons

-- the turns of a round up to the answers to a bid
abbrev pub sale_turns : List Turn
sale_turns = Turn.Bid 0 ∷ Turn.PersonPost 0 ∷ Turn.ObjectTake 0 ∷ Turn.ObjectPost 0 ∷ Turn.ObjectPost 0 ∷ []

-- whole rounds, and these turns of the next one, have led to a world that the state stands for; it counts the First
-- letters that the hub has still to count
pub record Halfway (g : Phase) (start : World) (allowed most : ℕ) (s : SingleState) : Type 0 where
  pub rounds : ℕ
  pub before : World
  pub led : Rounds g start rounds before
  pub unended : before.end ≡ None
  pub moved : Bool
  pub world : World
  pub played : Plays g before sale_turns moved world
  pub reached : Reached g world
  pub firsts : ℕ
  pub few : firsts ≤ 1
  pub shows : Shows g allowed most s firsts world
  pub still : world.end ≡ None
  -- where nothing is to be counted, some person was still without an object before the round
  pub unsold : firsts ≡ 0 → s.count < g.persons
