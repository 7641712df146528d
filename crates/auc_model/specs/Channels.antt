-- The letters under way. A channel leads from one sender to one box: the letters that wait in the lane, those that a
-- closed box has dropped, and those in the sender's outbox.
use Rattle.std.specs.Prelude.{ℕ, ◌+◌, ◌-◌, ◌*◌, ◌%◌, ◌<◌, ◌≡◌, ◌==◌, ◌&&◌, nat_lt, ℤ, Bool, List, [], ◌∷◌, ◌++◌, Option, Some, None, if◌then◌else◌, filter_map, length}
use Rattle.auc_letters.specs.declared.letter.Letter.{Letter}
use Rattle.auc_letters.specs.declared.letter.Why.{Why}
use Rattle.auc_letters.specs.declared.out.To.{To}
use Rattle.auc_letters.specs.declared.out.Out.{Out}
use Rattle.auc_letters.specs.declared.state.Held.{Held}
use Rattle.auc_graph.specs.Price.{IsPrice}
use Rattle.auc_mail.specs.Mail.{Mail, lane_of}
use Rattle.auc_model.specs.World.{Phase, World}
use Rattle.auc_model.specs.Mails.{mail_of, box_of}
use Rattle.auc_model.specs.Bidding.{SomeoneStuck}
use Rattle.auc_model.specs.Letters.{same_to, letters_to, told_answer, told_price}
use Rattle.auc_model.specs.Places.{Answer, Places}
use Rattle.auc_model.specs.Prices.{Prices}

-- the letters that wait in the lane of a box and a sender, if there is such a sender
abbrev pub waiting : {T : Type 0} → Mail T → ℕ → ℕ → List T
waiting m b x = if nat_lt x m.senders then (lane_of m b x).waiting else []

-- the outbox of a sender
abbrev pub out_of : Phase → World → ℕ → List Out
out_of g w x = if nat_lt x g.shards then w.person_out x else (if nat_lt x (2 * g.shards) then w.object_out (x - g.shards) else [])

-- Letters that met a closed box, by address and sender. They come after the letters that wait there, and are never
-- taken.
abbrev pub Lost : Type 0
Lost = To → ℕ → List Letter

-- all letters on each channel, the next one to arrive first
abbrev pub Channels : Type 0
Channels = To → ℕ → List Letter

abbrev pub channels : Phase → World → Lost → Channels
channels g w lost t x = waiting (mail_of w t) (box_of t) x ++ (lost t x ++ letters_to t (out_of g w x))

-- the sender x puts these letters into the outbox
abbrev pub send : Channels → ℕ → List Out → Channels
send c x os = λ t y. if y == x then c t y ++ letters_to t os else c t y

-- the channel from x to t is replaced by ls
abbrev pub set_channel : Channels → To → ℕ → List Letter → Channels
set_channel c t x ls = λ u y. if same_to u t && (y == x) then ls else c u y

-- the answer, if both tests hold
abbrev pub if_both : Bool → Bool → Answer → Option Answer
if_both b c a = if b && c then Some a else None

-- the answer, if it is for this person and about this object
abbrev pub for_pair : ℕ → ℕ → Option (Answer × ℕ × ℕ × ℤ) → Option Answer
for_pair i j None = None
for_pair i j (Some (a, k, l, p)) = if_both (k == i) (l == j) a

abbrev pub answer_to : ℕ → ℕ → Letter → Option Answer
answer_to i j l = for_pair i j (told_answer l)

abbrev pub bid_by : ℕ → ℕ → Letter → Option ℤ
bid_by i j (Letter.Bid k a l p) = if (k == i) && (l == j) then Some p else None
bid_by i j (Letter.Award k l p) = None
bid_by i j (Letter.Refused k l p) = None
bid_by i j (Letter.Outbid k l p) = None
bid_by i j (Letter.Price l p) = None
bid_by i j (Letter.First l) = None
bid_by i j (Letter.Stop y) = None

-- the price, if it is that of this object
abbrev pub about : ℕ → Option (ℕ × ℤ) → Option ℤ
about j None = None
about j (Some (k, p)) = if k == j then Some p else None

abbrev pub price_about : ℕ → Letter → Option ℤ
price_about j l = about j (told_price l)

-- what f reads from the letters of a channel, in order
abbrev pub view : {Y : Type 0} → (Letter → Option Y) → Channels → To → ℕ → List Y
view f c t x = filter_map f (c t x)

abbrev pub answers_in : Phase → Channels → ℕ → ℕ → List Answer
answers_in g c i j = view (answer_to i j) c (To.Person (i % g.shards)) (g.shards + j % g.shards)

abbrev pub bids_in : Phase → Channels → ℕ → ℕ → ℕ
bids_in g c i j = length (view (bid_by i j) c (To.Object (j % g.shards)) (i % g.shards))

abbrev pub news_in : Phase → Channels → ℕ → ℕ → List ℤ
news_in g c s j = view (price_about j) c (To.Person s) (g.shards + j % g.shards)

abbrev pub person_of : Option Held → Option ℕ
person_of None = None
person_of (Some h) = Some h.person

-- a world and its channels, seen by persons and objects, and seen by prices
abbrev pub places : Phase → World → Channels → Places
places g w c = record { state = w.state; holder = λ j. person_of (w.holder j); bids = bids_in g c; answers = answers_in g c }

abbrev pub prices : Phase → World → Channels → Prices
prices g w c = record { price = w.price; copy = w.copy; news = news_in g c }

-- an answer to person i about j, with the price p, may be on the channel from the sender x to the shard s
pub record ToPerson (g : Phase) (s x i j : ℕ) (p : ℤ) : Type 0 where
  pub person : i < g.persons
  pub shard : i % g.shards ≡ s
  pub object : j < g.objects
  pub channel : x ≡ g.shards + j % g.shards
  pub price : IsPrice p

-- the price p of j may be on the channel from the sender x to the shard s of the persons
pub record PriceToPersons (g : Phase) (s x j : ℕ) (p : ℤ) : Type 0 where
  pub object : j < g.objects
  pub channel : x ≡ g.shards + j % g.shards
  pub price : IsPrice p
  pub shard : s < g.shards

-- a bid of person i on j, with the amount p, may be on the channel from the sender x to the shard q
pub record ToObject (g : Phase) (q x i j : ℕ) (p : ℤ) : Type 0 where
  pub person : i < g.persons
  pub channel : i % g.shards ≡ x
  pub object : j < g.objects
  pub shard : j % g.shards ≡ q
  pub price : IsPrice p

-- Each letter is on the right channel, and its numbers are in range. A Stop for want of an arc is sent only if some
-- person has none.
abbrev pub Routed : Phase → To → ℕ → Letter → Type 0
Routed g (To.Person s) x (Letter.Award i j p) = ToPerson g s x i j p
Routed g (To.Person s) x (Letter.Refused i j p) = ToPerson g s x i j p
Routed g (To.Person s) x (Letter.Outbid i j p) = ToPerson g s x i j p
Routed g (To.Person s) x (Letter.Price j p) = PriceToPersons g s x j p
Routed g (To.Person s) x (Letter.Bid i a j p) = ⊥
Routed g (To.Person s) x (Letter.First j) = ⊥
Routed g (To.Person s) x (Letter.Stop y) = ⊥
Routed g (To.Object q) x (Letter.Bid i a j p) = ToObject g q x i j p
Routed g (To.Object q) x (Letter.Award i j p) = ⊥
Routed g (To.Object q) x (Letter.Refused i j p) = ⊥
Routed g (To.Object q) x (Letter.Outbid i j p) = ⊥
Routed g (To.Object q) x (Letter.Price j p) = ⊥
Routed g (To.Object q) x (Letter.First j) = ⊥
Routed g (To.Object q) x (Letter.Stop y) = ⊥
Routed g To.Hub x (Letter.First j) = (j < g.objects) × (x ≡ g.shards + j % g.shards)
Routed g To.Hub x (Letter.Stop Why.Bids) = x < g.shards
Routed g To.Hub x (Letter.Stop Why.Stuck) = (x < g.shards) × SomeoneStuck g
Routed g To.Hub x (Letter.Stop Why.Ceiling) = x < g.shards
Routed g To.Hub x (Letter.Stop Why.Posts) = ⊥
Routed g To.Hub x (Letter.Stop Why.Trail) = ⊥
Routed g To.Hub x (Letter.Stop Why.Mail) = ⊥
Routed g To.Hub x (Letter.Stop Why.Fell) = ⊥
Routed g To.Hub x (Letter.Stop Why.Stray) = ⊥
Routed g To.Hub x (Letter.Bid i a j p) = ⊥
Routed g To.Hub x (Letter.Award i j p) = ⊥
Routed g To.Hub x (Letter.Refused i j p) = ⊥
Routed g To.Hub x (Letter.Outbid i j p) = ⊥
Routed g To.Hub x (Letter.Price j p) = ⊥

-- each element of a list has this property
abbrev pub Each : {X : Type 0} → (X → Type 0) → List X → Type 0
Each P [] = Unit {0}
Each P (x ∷ xs) = P x × Each P xs

-- each letter of each channel is on the right one
abbrev pub AllRouted : Phase → Channels → Type 0
AllRouted g c = (t : To) (x : ℕ) → Each (Routed g t x) (c t x)
