-- An object without a holder had none before, and has kept its price.
use Rattle.std.proofs.Common.{ℕ, ◌≡◌, refl, List, [], ◌∷◌, None, inl, inr, ap, sym, ◌∙◌}
use Rattle.std.specs.Prelude.{nat_lt}
use Rattle.std.proofs.lemmas.Bool.{cases_eq, cond_both}
use Rattle.auc_letters.specs.Award.{Sale, award}
use Rattle.auc_letters.proofs.Award.{award_holds}
use Rattle.auc_letters.specs.declared.letter.Letter.{Letter}
use Rattle.auc_letters.specs.declared.letter.Bid.{Bid}
use Rattle.auc_letters.specs.declared.out.Out.{Out}
use Rattle.auc_letters.specs.declared.out.To.{To}
use Rattle.auc_mail.specs.Mail.{Mail}
use Rattle.auc_model.specs.Bidding.{BidTurn, after_bid, after_stop}
use Rattle.auc_model.specs.Hearing.{PersonTakeTurn, after_letter}
use Rattle.auc_model.specs.Hub.{HubCloseTurn, HubTakeTurn, hub_after}
use Rattle.auc_model.specs.Mails.{ObjectShard, PersonShard, Shard, with_mail, with_mail_named, with_outbox}
use Rattle.auc_model.specs.Posting.{PostTurn}
use Rattle.auc_model.specs.Schedule.{Schedule, Turned}
use Rattle.auc_model.specs.Selling.{ObjectTakeTurn, TellTurn, after_answer, sale_of}
use Rattle.auc_model.specs.World.{Phase, World}
use Rattle.auc_model.specs.declared.turn.MailName.{MailName}
use Rattle.auc_model.specs.declared.turn.Turn.{Turn}
use Rattle.auc_model.specs.declared.turn.TurnReply.{TurnReply}
use Rattle.auc_model.proofs.Places.{put_at, put_off}

-- the prices and the holders are the same
record SameSales (w v : World) : Type 0 where
  price : v.price ≡ w.price
  holder : v.holder ≡ w.holder

as_before : (w : World) → SameSales w w
as_before w = record { price = refl; holder = refl }

then : (w u v : World) → SameSales w u → SameSales u v → SameSales w v
then w u v a b = record { price = b.price ∙ a.price; holder = b.holder ∙ a.holder }

same_mail : (w : World) (t : To) (m : Mail Letter) → SameSales w (with_mail w t m)
same_mail w (To.Person s) m = record { price = refl; holder = refl }
same_mail w (To.Object s) m = record { price = refl; holder = refl }
same_mail w To.Hub m = record { price = refl; holder = refl }

same_mail_named : (w : World) (name : MailName) (m : Mail Letter) → SameSales w (with_mail_named w name m)
same_mail_named w MailName.Objects m = record { price = refl; holder = refl }
same_mail_named w MailName.Persons m = record { price = refl; holder = refl }
same_mail_named w MailName.Hub m = record { price = refl; holder = refl }

same_outbox : (w : World) (h : Shard) (os : List Out) → SameSales w (with_outbox w h os)
same_outbox w (PersonShard s) os = record { price = refl; holder = refl }
same_outbox w (ObjectShard s) os = record { price = refl; holder = refl }

same_heard : (w : World) (s : ℕ) (l : Letter) → SameSales w (after_letter w s l)
same_heard w s (Letter.Award i j p) = record { price = refl; holder = refl }
same_heard w s (Letter.Refused i j p) = record { price = refl; holder = refl }
same_heard w s (Letter.Outbid i j p) = record { price = refl; holder = refl }
same_heard w s (Letter.Price j p) = record { price = refl; holder = refl }
same_heard w s (Letter.Bid i a j p) = record { price = refl; holder = refl }
same_heard w s (Letter.First j) = record { price = refl; holder = refl }
same_heard w s (Letter.Stop y) = record { price = refl; holder = refl }

same_hub : (g : Phase) (l : Letter) (w : World) → SameSales w (hub_after g l w)
same_hub g (Letter.First j) w = cond_both (nat_lt w.count g.persons) _ w (λ (x : World). SameSales w x) (λ e. record { price = refl; holder = refl }) (λ e. record { price = refl; holder = refl })
same_hub g (Letter.Stop y) w = record { price = refl; holder = refl }
same_hub g (Letter.Bid i a j p) w = record { price = refl; holder = refl }
same_hub g (Letter.Award i j p) w = record { price = refl; holder = refl }
same_hub g (Letter.Refused i j p) w = record { price = refl; holder = refl }
same_hub g (Letter.Outbid i j p) w = record { price = refl; holder = refl }
same_hub g (Letter.Price j p) w = record { price = refl; holder = refl }

-- what was unheld then was unheld before, at the same price
abbrev pub StaysUnheld : World → World → Type 0
StaysUnheld w v = (j : ℕ) → v.holder j ≡ None → (w.holder j ≡ None) × (v.price j ≡ w.price j)

module _ (g : Phase) (w : World) where
  by_same : (u v : World) → v ≡ u → SameSales w u → StaysUnheld w v
  by_same u v e s j none =
      let holder = ap (λ (x : World). x.holder j) e ∙ ap (λ f. f j) s.holder in
      let price = ap (λ (x : World). x.price j) e ∙ ap (λ f. f j) s.price in
      (sym holder ∙ none, price)

  -- an answered bid
  answered : (q : ℕ) (m : Mail Letter) (bid : Bid) → StaysUnheld w (after_answer g w q m bid)
  answered q m bid j none =
      elim (cases_eq j bid.object) [
        | inl e ↦ (
            let sale : Sale = award g.eps (sale_of w bid.object) bid in
            let kept : sale ≡ sale_of w bid.object = award_holds g.eps (sale_of w bid.object) bid (sym (put_at w.holder bid.object sale.holder j e) ∙ none) in
            let before : w.holder bid.object ≡ None = ap (λ (s : Sale). s.holder) (sym kept) ∙ (sym (put_at w.holder bid.object sale.holder j e) ∙ none) in
            (ap w.holder e ∙ before, put_at w.price bid.object sale.price j e ∙ (ap (λ (s : Sale). s.price) kept ∙ ap w.price (sym e)))
            )
        | inr n ↦ (
            let sale : Sale = award g.eps (sale_of w bid.object) bid in
            (sym (put_off w.holder bid.object sale.holder j n) ∙ none, put_off w.price bid.object sale.price j n)
            )
      ]

  unheld_post : (h : Shard) (y : TurnReply) (v : World) → PostTurn g w h y v → StaysUnheld w v
  unheld_post h y v (PostTurn.no_letter q e1 e) = by_same w v e (as_before w)
  unheld_post h y v (PostTurn.posts o rest n m may p e1 e) =
      let u : World = with_mail w o.to m in by_same (with_outbox u h rest) v e (then w u (with_outbox u h rest) (same_mail w o.to m) (same_outbox u h rest))
  unheld_post h y v (PostTurn.meets_closed o rest may p e1 e) = by_same (with_outbox w h rest) v e (same_outbox w h rest)
  unheld_post h y v (PostTurn.drops_price o rest z may p n i e1 e) = by_same (with_outbox w h rest) v e (same_outbox w h rest)
  unheld_post h y v (PostTurn.keeps_letter o rest z may p n i e1 e) = by_same _ v e (record { price = refl; holder = refl })

  pub unheld_turn : (t : Turn) (y : TurnReply) (v : World) → Turned g w t y v → StaysUnheld w v
  unheld_turn (Turn.Bid r) y v (BidTurn.barred h e1 e) = by_same w v e (as_before w)
  unheld_turn (Turn.Bid r) y v (BidTurn.stops i rest z may why e1 e) = by_same (after_stop w r z) v e (record { price = refl; holder = refl })
  unheld_turn (Turn.Bid r) y v (BidTurn.bids i rest a amount may left best low e1 e) = by_same (after_bid g w r i rest a amount) v e (record { price = refl; holder = refl })
  unheld_turn (Turn.PersonPost r) y v h = unheld_post (PersonShard r) y v h
  unheld_turn (Turn.ObjectPost q) y v h = unheld_post (ObjectShard q) y v h
  unheld_turn (Turn.PersonTake r) y v (PersonTakeTurn.no_letter h e1 e) = by_same w v e (as_before w)
  unheld_turn (Turn.PersonTake r) y v (PersonTakeTurn.hears x n l m h1 t fits low e1 e) =
      let u : World = record w { persons_mail = m } in let s = same_heard u r l in by_same (after_letter u r l) v e (record { price = s.price; holder = s.holder })
  unheld_turn (Turn.PersonTake r) y v (PersonTakeTurn.strays x n l m h1 t bad e1 e) = by_same _ v e (record { price = refl; holder = refl })
  unheld_turn (Turn.PersonTake r) y v (PersonTakeTurn.falls x n l m h1 t fits low e1 e) = by_same _ v e (record { price = refl; holder = refl })
  unheld_turn (Turn.ObjectTake q) y v (ObjectTakeTurn.no_letter h e1 e) = by_same w v e (as_before w)
  unheld_turn (Turn.ObjectTake q) y v (ObjectTakeTurn.answers_bid x n bid m h1 h2 t fits e1 e) = rw e (answered q m bid)
  unheld_turn (Turn.ObjectTake q) y v (ObjectTakeTurn.strays x n l m h1 h2 t bad e1 e) = by_same _ v e (record { price = refl; holder = refl })
  unheld_turn (Turn.Tell q k r) y v (TellTurn.silent h e1 e) = by_same w v e (as_before w)
  unheld_turn (Turn.Tell q k r) y v (TellTurn.tells h1 h2 h3 h4 h5 e1 e) = by_same _ v e (record { price = refl; holder = refl })
  unheld_turn Turn.HubTake y v (HubTakeTurn.no_letter h e1 e) = by_same w v e (as_before w)
  unheld_turn Turn.HubTake y v (HubTakeTurn.takes x n l m t e1 e) =
      let u : World = record w { hub_mail = m } in let s = same_hub g l u in by_same (hub_after g l u) v e (record { price = s.price; holder = s.holder })
  unheld_turn (Turn.HubClose name b) y v (HubCloseTurn.leaves h e1 e) = by_same w v e (as_before w)
  unheld_turn (Turn.HubClose name b) y v (HubCloseTurn.closes m h1 h2 h3 e1 e) = by_same (with_mail_named w name m) v e (same_mail_named w name m)

pub unheld_schedule : (g : Phase) (w : World) (ts : List Turn) (v : World) → Schedule g w ts v → StaysUnheld w v
unheld_schedule g w [] v e j none = (sym (ap (λ (x : World). x.holder j) e) ∙ none, ap (λ (x : World). x.price j) e)
unheld_schedule g w (t ∷ ts) v run j none =
    let later = unheld_schedule g run.mid ts v run.rest j none in
    let first = unheld_turn g w t run.reply run.mid run.turned j later.0 in
    (first.0, later.1 ∙ first.1)
