-- Every box is open until the end is set.
use Rattle.std.proofs.Common.{ℕ, ◌≡◌, ◌≢◌, refl, true, [], ◌∷◌, None, ◌⊎◌, inl, inr, ap, ◌∙◌}
use Rattle.auc_letters.specs.Award.{bid_letter}
use Rattle.auc_letters.specs.Routing.{price_told}
use Rattle.auc_letters.specs.declared.letter.Letter.{Letter}
use Rattle.auc_letters.specs.declared.letter.Why.{Why}
use Rattle.auc_letters.specs.declared.out.To.{To}
use Rattle.auc_mail.specs.Mail.{Lane, Mail, lane_behind, lane_of, with_lane}
use Rattle.auc_model.specs.Bidding.{BidTurn, after_bid, after_stop}
use Rattle.auc_model.specs.Hearing.{PersonTakeTurn, after_letter}
use Rattle.auc_model.specs.Hub.{HubCloseTurn, HubTakeTurn, hub_after}
use Rattle.auc_model.specs.Mails.{ObjectShard, PersonShard, Shard, Takes, box_of, mail_of, sender, with_mail, with_outbox}
use Rattle.auc_model.specs.Posting.{PostTurn, reason}
use Rattle.auc_model.specs.Put.{put}
use Rattle.auc_model.specs.Schedule.{Turned}
use Rattle.auc_model.specs.Selling.{ObjectTakeTurn, TellTurn, after_answer}
use Rattle.auc_model.specs.World.{Phase, World, ended}
use Rattle.auc_model.specs.declared.turn.Turn.{Turn}
use Rattle.auc_model.specs.declared.turn.TurnReply.{TurnReply}
use Rattle.auc_model.proofs.Closing.{opens, opens_same, opens_set}
use Rattle.auc_model.proofs.Ends.{end_back, turn_end}
use Rattle.auc_model.proofs.Small.{SameMails, same_heard, same_hub, same_outbox}
use Rattle.auc_model.proofs.Totals.{IsBox}

-- a turn leaves each box as it was, or the end was set before it
abbrev OpenMove : World → World → Type 0
OpenMove w v = (w.end ≢ None) ⊎ ((u : To) → opens v u ≡ opens w u)

same_mails_open : (w v : World) → SameMails w v → (u : To) → opens v u ≡ opens w u
same_mails_open w v e u = opens_same w v e.objects e.persons e.hub u

module _ (g : Phase) (w : World) where
  same_open : (v u : World) → v ≡ u → SameMails w u → OpenMove w v
  same_open v u e h = rw e (inr (same_mails_open w u h))

  -- a mail in which a lane was set
  lane_open : (v u : World) (t : To) (x : ℕ) (l : Lane Letter) (m : Mail Letter) → m ≡ with_lane (mail_of w t) (box_of t) x l → v ≡ u → SameMails (with_mail w t m) u → OpenMove w v
  lane_open v u t x l m set e h =
      rw e (inr (λ b. same_mails_open (with_mail w t m) u h b ∙ (ap (λ (z : Mail Letter). opens (with_mail w t z) b) set ∙ opens_set w t x l b)))

  taken_open : (v u : World) (t : To) (x n : ℕ) (l : Letter) (m : Mail Letter) → Takes (mail_of w t) (box_of t) x n l m → v ≡ u → SameMails (with_mail w t m) u → OpenMove w v
  taken_open v u t x n l m p e h = lane_open v u t x (record { taken = n; waiting = p.rest }) m p.next e h

  post_open : (h : Shard) (r : TurnReply) (v : World) → PostTurn g w h r v → OpenMove w v
  post_open h r v (PostTurn.no_letter q e1 e) = same_open v w e (record { objects = refl; persons = refl; hub = refl })
  post_open h r v (PostTurn.posts o rest n m may p e1 e) =
      lane_open v (with_outbox (with_mail w o.to m) h rest) o.to (sender g h) (lane_behind (lane_of (mail_of w o.to) (box_of o.to) (sender g h)) o.letter) m p.next e (same_outbox (with_mail w o.to m) h rest)
  post_open h r v (PostTurn.meets_closed o rest may p e1 e) = same_open v (with_outbox w h rest) e (same_outbox w h rest)
  post_open h r v (PostTurn.drops_price o rest y may p n i e1 e) = same_open v (with_outbox w h rest) e (same_outbox w h rest)
  post_open h r v (PostTurn.keeps_letter o rest y may p n i e1 e) = same_open v (ended w (reason y)) e (record { objects = refl; persons = refl; hub = refl })

  turn_open : (t : Turn) (r : TurnReply) (v : World) → Turned g w t r v → OpenMove w v
  turn_open (Turn.Bid s) r v (BidTurn.barred h e1 e) = same_open v w e (record { objects = refl; persons = refl; hub = refl })
  turn_open (Turn.Bid s) r v (BidTurn.stops i rest y may why e1 e) = same_open v (after_stop w s y) e (record { objects = refl; persons = refl; hub = refl })
  turn_open (Turn.Bid s) r v (BidTurn.bids i rest a amount may left best low e1 e) = same_open v (after_bid g w s i rest a amount) e (record { objects = refl; persons = refl; hub = refl })
  turn_open (Turn.PersonPost s) r v h = post_open (PersonShard s) r v h
  turn_open (Turn.ObjectPost q) r v h = post_open (ObjectShard q) r v h
  turn_open (Turn.PersonTake s) r v (PersonTakeTurn.no_letter h e1 e) = same_open v w e (record { objects = refl; persons = refl; hub = refl })
  turn_open (Turn.PersonTake s) r v (PersonTakeTurn.hears x n l m h1 t fits low e1 e) =
      let u : World = record w { persons_mail = m } in taken_open v (after_letter u s l) (To.Person s) x n l m t e (same_heard u s l)
  turn_open (Turn.PersonTake s) r v (PersonTakeTurn.strays x n l m h1 t bad e1 e) =
      taken_open v (ended (record w { persons_mail = m }) Why.Stray) (To.Person s) x n l m t e (record { objects = refl; persons = refl; hub = refl })
  turn_open (Turn.PersonTake s) r v (PersonTakeTurn.falls x n l m h1 t fits low e1 e) =
      taken_open v (ended (record w { persons_mail = m }) Why.Fell) (To.Person s) x n l m t e (record { objects = refl; persons = refl; hub = refl })
  turn_open (Turn.ObjectTake q) r v (ObjectTakeTurn.no_letter h e1 e) = same_open v w e (record { objects = refl; persons = refl; hub = refl })
  turn_open (Turn.ObjectTake q) r v (ObjectTakeTurn.answers_bid x n bid m h1 h2 t fits e1 e) =
      taken_open v (after_answer g w q m bid) (To.Object q) x n (bid_letter bid) m t e (record { objects = refl; persons = refl; hub = refl })
  turn_open (Turn.ObjectTake q) r v (ObjectTakeTurn.strays x n l m h1 h2 t bad e1 e) =
      taken_open v (ended (record w { objects_mail = m }) Why.Stray) (To.Object q) x n l m t e (record { objects = refl; persons = refl; hub = refl })
  turn_open (Turn.Tell q j s) r v (TellTurn.silent h e1 e) = same_open v w e (record { objects = refl; persons = refl; hub = refl })
  turn_open (Turn.Tell q j s) r v (TellTurn.tells h1 h2 h3 h4 h5 e1 e) =
      same_open v (record w { object_out = put w.object_out q (price_told g.persons s j (w.price j) ∷ []) }) e (record { objects = refl; persons = refl; hub = refl })
  turn_open Turn.HubTake r v (HubTakeTurn.no_letter h e1 e) = same_open v w e (record { objects = refl; persons = refl; hub = refl })
  turn_open Turn.HubTake r v (HubTakeTurn.takes x n l m t e1 e) =
      let u : World = record w { hub_mail = m } in taken_open v (hub_after g l u) To.Hub x n l m t e (same_hub g l u)
  turn_open (Turn.HubClose name b) r v (HubCloseTurn.leaves h e1 e) = same_open v w e (record { objects = refl; persons = refl; hub = refl })
  turn_open (Turn.HubClose name b) r v (HubCloseTurn.closes m h1 h2 h3 e1 e) = inl h2

-- until the end is set every box is open
abbrev pub OpenYet : Phase → World → Type 0
OpenYet g w = w.end ≡ None → (t : To) → IsBox g t → opens w t ≡ true

pub open_turn : (g : Phase) (w : World) (t : Turn) (r : TurnReply) (v : World) → Turned g w t r v → OpenYet g w → OpenYet g v
open_turn g w t r v h yet none u b =
    let before = end_back g w v (turn_end g w t r v h) none in
    elim (turn_open g w t r v h) [
      | inl set ↦ absurd (set before)
      | inr same ↦ same u ∙ yet before u b
    ]
