-- A bid that is answered, by cases: it is accepted, or it isn't.
use Rattle.std.proofs.Common.{ℕ, ◌≡◌, ◌≢◌, ◌<◌, ◌≤◌, ◌⊎◌, List, [], ap, ◌∙◌, Some}
use Rattle.std.specs.Prelude.{ℤ, ◌≤ℤ◌, ◌<ℤ◌, Option}
use Rattle.std.proofs.lemmas.Int.{by_lt_z}
use Rattle.auc_letters.specs.declared.letter.Letter.{Letter}
use Rattle.auc_letters.specs.declared.letter.Bid.{Bid}
use Rattle.auc_letters.specs.declared.letter.Why.{Why}
use Rattle.auc_letters.specs.declared.out.Out.{Out}
use Rattle.auc_letters.specs.declared.state.Held.{Held}
use Rattle.auc_letters.specs.Award.{Sale, answers, awards, least_amount, refusal}
use Rattle.auc_letters.proofs.Award.{award_accepts, award_declines, answers_accept, answers_decline}
use Rattle.auc_mail.specs.Mail.{Mail}
use Rattle.auc_model.specs.Mails.{Takes, TakesNone}
use Rattle.auc_model.specs.Put.{put}
use Rattle.auc_model.specs.Selling.{FitsBid, ObjectTakeTurn, after_answer, sale_of}
use Rattle.auc_model.specs.World.{Phase, World, ended}
use Rattle.auc_model.specs.declared.turn.TurnReply.{TurnReply}
use Rattle.auc_model.proofs.Places.{put_self}

-- the mail becomes m, j is sold to the holder at that price, and the letters go into the empty outbox of the shard q
abbrev pub sold : World → ℕ → Mail Letter → ℕ → ℤ → Held → List Out → World
sold w q m j price holder letters = record w {
  objects_mail = m;
  price = put w.price j price;
  holder = put w.holder j (Some holder);
  object_out = put w.object_out q letters;
}

-- ObjectTake(q), where a bid that is answered is accepted or declined
pub data TakesBid (g : Phase) (w : World) (q : ℕ) (r : TurnReply) (v : World) : Type 0 where
  no_letter : ((g.shards ≤ q) ⊎ (w.object_out q ≢ []) ⊎ TakesNone w.objects_mail q) → r ≡ TurnReply.Nothing → v ≡ w → TakesBid g w q r v
  accepts : (x k i a j : ℕ) (amount : ℤ) (m : Mail Letter) → q < g.shards → w.object_out q ≡ [] → Takes w.objects_mail q x k (Letter.Bid i a j amount) m
      → FitsBid g q (Letter.Bid i a j amount) → least_amount (w.price j) g.eps ≤ℤ amount
      → r ≡ TurnReply.Moved → v ≡ sold w q m j amount (record { person = i; arc = a }) (awards g.shards (w.holder j) i j amount) → TakesBid g w q r v
  declines : (x k i a j : ℕ) (amount : ℤ) (m : Mail Letter) → q < g.shards → w.object_out q ≡ [] → Takes w.objects_mail q x k (Letter.Bid i a j amount) m
      → FitsBid g q (Letter.Bid i a j amount) → amount <ℤ least_amount (w.price j) g.eps
      → r ≡ TurnReply.Moved → v ≡ record w { objects_mail = m; object_out = put w.object_out q (refusal g.shards i j (w.price j)) } → TakesBid g w q r v
  strays : (x k : ℕ) (l : Letter) (m : Mail Letter) → q < g.shards → w.object_out q ≡ [] → Takes w.objects_mail q x k l m
      → (FitsBid g q l → ⊥)
      → r ≡ TurnReply.Moved → v ≡ ended (record w { objects_mail = m }) Why.Stray → TakesBid g w q r v

module _ (g : Phase) (w : World) (q : ℕ) (m : Mail Letter) (bid : Bid) where
  abbrev after : Sale → List Out → World
  after sale letters = record w { objects_mail = m; price = put w.price bid.object sale.price; holder = put w.holder bid.object sale.holder; object_out = put w.object_out q letters }

  pub after_accepted : least_amount (w.price bid.object) g.eps ≤ℤ bid.amount
      → after_answer g w q m bid ≡ sold w q m bid.object bid.amount (record { person = bid.person; arc = bid.arc }) (awards g.shards (w.holder bid.object) bid.person bid.object bid.amount)
  after_accepted h =
      ap (λ (s : Sale). after s (answers g.shards g.eps (sale_of w bid.object) bid)) (award_accepts g.shards g.eps (sale_of w bid.object) bid h)
      ∙ ap (after (record { price = bid.amount; holder = Some (record { person = bid.person; arc = bid.arc }) })) (answers_accept g.shards g.eps (sale_of w bid.object) bid h)

  pub after_declined : bid.amount <ℤ least_amount (w.price bid.object) g.eps
      → after_answer g w q m bid ≡ record w { objects_mail = m; object_out = put w.object_out q (refusal g.shards bid.person bid.object (w.price bid.object)) }
  after_declined h =
      ap (λ (s : Sale). after s (answers g.shards g.eps (sale_of w bid.object) bid)) (award_declines g.shards g.eps (sale_of w bid.object) bid h)
      ∙ (ap (after (sale_of w bid.object)) (answers_decline g.shards g.eps (sale_of w bid.object) bid h)
      ∙ (ap (λ (p : ℕ → ℤ). record w { objects_mail = m; price = p; holder = put w.holder bid.object (w.holder bid.object); object_out = put w.object_out q (refusal g.shards bid.person bid.object (w.price bid.object)) }) (put_self w.price bid.object)
      ∙ ap (λ (h : ℕ → Option Held). record w { objects_mail = m; holder = h; object_out = put w.object_out q (refusal g.shards bid.person bid.object (w.price bid.object)) }) (put_self w.holder bid.object)))

pub by_cases : (g : Phase) (w : World) (q : ℕ) (r : TurnReply) (v : World) → ObjectTakeTurn g w q r v → TakesBid g w q r v
by_cases g w q r v (ObjectTakeTurn.no_letter h e1 e) = TakesBid.no_letter h e1 e
by_cases g w q r v (ObjectTakeTurn.answers_bid x k bid m h1 h2 t fits e1 e) =
    by_lt_z bid.amount (least_amount (w.price bid.object) g.eps)
    (λ low. TakesBid.declines x k bid.person bid.arc bid.object bid.amount m h1 h2 t fits low e1 (e ∙ after_declined g w q m bid low))
    (λ enough. TakesBid.accepts x k bid.person bid.arc bid.object bid.amount m h1 h2 t fits enough e1 (e ∙ after_accepted g w q m bid enough))
by_cases g w q r v (ObjectTakeTurn.strays x k l m h1 h2 t bad e1 e) = TakesBid.strays x k l m h1 h2 t bad e1 e
