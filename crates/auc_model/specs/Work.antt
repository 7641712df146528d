-- The work left in a world, as a number. Each turn of a round that changes anything uses some of it up, so rounds end.
use Rattle.std.specs.Prelude.{ℕ, ◌+◌, ◌*◌, Bool, true, false, sum_by}
use Rattle.auc_letters.specs.declared.letter.Letter.{Letter}
use Rattle.auc_letters.specs.declared.out.Out.{Out}
use Rattle.auc_model.specs.declared.turn.Turn.{Turn}
use Rattle.auc_model.specs.World.{Phase, World}
use Rattle.auc_model.specs.Room.{weight}
use Rattle.auc_model.specs.Counts.{total}

-- a turn that may be part of a round: any but Tell, which makes letters from nothing, and HubClose
abbrev pub IsOfRound : Turn → Type 0
IsOfRound (Turn.Bid s) = Unit {0}
IsOfRound (Turn.PersonPost s) = Unit {0}
IsOfRound (Turn.ObjectPost q) = Unit {0}
IsOfRound (Turn.PersonTake s) = Unit {0}
IsOfRound (Turn.ObjectTake q) = Unit {0}
IsOfRound (Turn.Tell q j s) = ⊥
IsOfRound Turn.HubTake = Unit {0}
IsOfRound (Turn.HubClose name at) = ⊥

-- The work in a letter that waits in a mail: it is still to be taken. A Bid is then answered by at most two letters,
-- each of which is still to be posted and taken.
abbrev pub waiting_work : Letter → ℕ
waiting_work (Letter.Bid i a j p) = 5
waiting_work (Letter.Award i j p) = 1
waiting_work (Letter.Refused i j p) = 1
waiting_work (Letter.Outbid i j p) = 1
waiting_work (Letter.Price j p) = 1
waiting_work (Letter.First j) = 1
waiting_work (Letter.Stop y) = 1

-- the work in a letter of an outbox: it is still to be posted, and then it waits
abbrev pub posting_work : Out → ℕ
posting_work o = waiting_work o.letter + 1

-- the work in a bid that is left: a Bid is still to be put into the outbox
abbrev pub bid_work : ℕ
bid_work = 7

-- the work in a shard's one Stop: until the shard has made it, a Stop may still be put into the outbox
abbrev pub stop_work : Bool → ℕ
stop_work true = 0
stop_work false = 3

-- the work in both shards of this number: bids, the Stop, and their outboxes
abbrev pub shard_work : World → ℕ → ℕ
shard_work w s =
    (bid_work * w.bids_left s + stop_work (w.has_stopped s)) +
    (sum_by posting_work (w.person_out s) + sum_by posting_work (w.object_out s))

abbrev pub shards_work : Phase → World → ℕ
shards_work g w = total (λ s. shard_work w s) g.shards

abbrev pub mails_work : World → ℕ
mails_work w = (weight waiting_work w.objects_mail + weight waiting_work w.persons_mail) + weight waiting_work w.hub_mail

-- the work in the whole world
abbrev pub work : Phase → World → ℕ
work g w = shards_work g w + mails_work w
