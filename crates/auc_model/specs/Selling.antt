-- ObjectTake and Tell: a shard of the objects answers a bid, or sends a price.
use Rattle.std.specs.Prelude.{ℕ, ◌%◌, ◌<◌, ◌≤◌, ◌≡◌, ◌≢◌, ◌⊎◌, ℤ, [], ◌∷◌}
use Rattle.auc_mail.specs.Mail.{Mail}
use Rattle.auc_letters.specs.declared.letter.Letter.{Letter}
use Rattle.auc_letters.specs.declared.letter.Bid.{Bid}
use Rattle.auc_letters.specs.declared.letter.Why.{Why}
use Rattle.auc_graph.specs.Price.{IsPrice}
use Rattle.auc_letters.specs.Routing.{price_told}
use Rattle.auc_letters.specs.Award.{Sale, answers, award, bid_letter}
use Rattle.auc_model.specs.declared.turn.TurnReply.{TurnReply}
use Rattle.auc_model.specs.Put.{put}
use Rattle.auc_model.specs.World.{Phase, World, ended}
use Rattle.auc_model.specs.Mails.{Takes, TakesNone}

-- j is an object of the shard q, and the amount is in the range of prices
pub record FitsShard (g : Phase) (q j : ℕ) (amount : ℤ) : Type 0 where
  pub object : j < g.objects
  pub shard : j % g.shards ≡ q
  pub price : IsPrice amount

-- the letter is a bid on an object of the shard q
abbrev pub FitsBid : Phase → ℕ → Letter → Type 0
FitsBid g q (Letter.Bid i a j amount) = FitsShard g q j amount
FitsBid g q (Letter.Award i j p) = ⊥
FitsBid g q (Letter.Refused i j p) = ⊥
FitsBid g q (Letter.Outbid i j p) = ⊥
FitsBid g q (Letter.Price j p) = ⊥
FitsBid g q (Letter.First j) = ⊥
FitsBid g q (Letter.Stop y) = ⊥

-- the state of an object: the price, and the holder
abbrev pub sale_of : World → ℕ → Sale
sale_of w j = record { price = w.price j; holder = w.holder j }

-- The world after an answered bid: the mail is m, the object is as the award leaves it, and the answers are in the
-- outbox of the shard q.
abbrev pub after_answer : Phase → World → ℕ → Mail Letter → Bid → World
after_answer g w q m bid = record w {
  objects_mail = m;
  price = put w.price bid.object (award g.eps (sale_of w bid.object) bid).price;
  holder = put w.holder bid.object (award g.eps (sale_of w bid.object) bid).holder;
  object_out = put w.object_out q (answers g.shards g.eps (sale_of w bid.object) bid);
}

-- ObjectTake(q): no letter, a bid that is answered, or a letter that doesn't fit
pub data ObjectTakeTurn (g : Phase) (w : World) (q : ℕ) (r : TurnReply) (v : World) : Type 0 where
  no_letter : ((g.shards ≤ q) ⊎ (w.object_out q ≢ []) ⊎ TakesNone w.objects_mail q) → r ≡ TurnReply.Nothing → v ≡ w
      → ObjectTakeTurn g w q r v
  answers_bid : (x k : ℕ) (bid : Bid) (m : Mail Letter) → q < g.shards → w.object_out q ≡ [] → Takes w.objects_mail q x k (bid_letter bid) m
      → FitsBid g q (bid_letter bid)
      → r ≡ TurnReply.Moved → v ≡ after_answer g w q m bid → ObjectTakeTurn g w q r v
  strays : (x k : ℕ) (l : Letter) (m : Mail Letter) → q < g.shards → w.object_out q ≡ [] → Takes w.objects_mail q x k l m
      → (FitsBid g q l → ⊥)
      → r ≡ TurnReply.Moved → v ≡ ended (record w { objects_mail = m }) Why.Stray → ObjectTakeTurn g w q r v

-- Tell(q, j, s): the shard q of the objects sends the price of j to the shard s of the persons
pub data TellTurn (g : Phase) (w : World) (q j s : ℕ) (r : TurnReply) (v : World) : Type 0 where
  silent : ((g.shards ≤ q) ⊎ (g.shards ≤ s) ⊎ (g.objects ≤ j) ⊎ (j % g.shards ≢ q) ⊎ (w.object_out q ≢ []))
      → r ≡ TurnReply.Nothing → v ≡ w → TellTurn g w q j s r v
  tells : q < g.shards → s < g.shards → j < g.objects → j % g.shards ≡ q → w.object_out q ≡ []
      → r ≡ TurnReply.Moved → v ≡ record w {
        object_out =
            put w.object_out q (price_told g.persons s j (w.price j) ∷ []);
      } → TellTurn g w q j s r v
