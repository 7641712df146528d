-- Each turn of a round that moves uses up work, or ends the phase.
use Rattle.std.proofs.Common.{ℕ, ◌<◌, ◌≤◌, ◌≡◌, ◌≢◌, ◌⊎◌, refl, arith, ℤ, true, List, [], ◌∷◌, Option, Some, None, sum_by, inl, inr, ap, sym, ◌∙◌}
use Rattle.std.specs.Prelude.{◌-◌}
use Rattle.auc_letters.specs.Award.{awards, refusal, bid_of, bid_out}
use Rattle.auc_letters.specs.declared.letter.Letter.{Letter}
use Rattle.auc_letters.specs.declared.letter.Why.{Why}
use Rattle.auc_letters.specs.declared.out.Out.{Out}
use Rattle.auc_letters.specs.declared.state.Held.{Held}
use Rattle.auc_letters.specs.Routing.{to_hub}
use Rattle.auc_mail.specs.Mail.{Mail}
use Rattle.auc_model.specs.Bidding.{BidTurn, after_bid, after_stop}
use Rattle.auc_model.specs.Hearing.{PersonTakeTurn, after_letter}
use Rattle.auc_model.specs.Hub.{HubTakeTurn, hub_after}
use Rattle.auc_model.specs.Mails.{ObjectShard, PersonShard, Shard, Takes, box_of, sender, with_mail, with_outbox}
use Rattle.auc_model.specs.Posting.{PostTurn, reason}
use Rattle.auc_model.specs.Put.{put}
use Rattle.auc_model.specs.Schedule.{Turned}
use Rattle.auc_model.proofs.Selling.{TakesBid, by_cases, sold}
use Rattle.auc_model.specs.Work.{IsOfRound, posting_work, waiting_work, work}
use Rattle.auc_model.specs.World.{Phase, World, ended, first_end}
use Rattle.auc_model.specs.declared.turn.End.{End}
use Rattle.auc_model.specs.declared.turn.Turn.{Turn}
use Rattle.auc_model.specs.declared.turn.TurnReply.{TurnReply}
use Rattle.auc_model.proofs.Example.{beginning, small}
use Rattle.auc_model.proofs.WeightSteps.{weight_taken}
use Rattle.auc_model.proofs.WorkSteps.{bid_used, counted_in, heard, mail_posted, outbox_filled, outbox_popped, outbox_with_mail, some_work, stop_made}

-- how a turn leaves the work: it answers Nothing and changes nothing, or uses some up, or the phase has ended after it
pub data Spends (g : Phase) (w : World) (r : TurnReply) (v : World) : Type 0 where
  rests : r ≡ TurnReply.Nothing → v ≡ w → Spends g w r v
  less : work g v < work g w → Spends g w r v
  ends : work g v ≡ work g w → v.end ≢ None → Spends g w r v

first_end_set : (e : Option End) (d : End) → first_end e d ≢ None
first_end_set None d p = absurd cc
first_end_set (Some e) d p = absurd cc

-- an accepted bid is answered by two letters
answers_work : (shards : ℕ) (held : Option Held) (i j : ℕ) (p : ℤ) → sum_by posting_work (awards shards held i j p) ≡ 4
answers_work shards None i j p = refl
answers_work shards (Some held) i j p = refl

module _ (g : Phase) (w : World) where
  -- v is the world u, which has less work
  less_as : (r : TurnReply) (v u : World) → v ≡ u → work g u < work g w → Spends g w r v
  less_as r v u e l = let a = ap (λ (x : World). work g x) e in Spends.less (omega (arith, a, l))

  bid_spends : (s : ℕ) (r : TurnReply) (v : World) → BidTurn g w s r v → Spends g w r v
  bid_spends s r v (BidTurn.barred h e1 e) = Spends.rests e1 e
  bid_spends s r v (BidTurn.stops i rest y may why e1 e) =
      let u : World = record w { has_stopped = put w.has_stopped s true } in
      let a = stop_made g w s may.known may.going in
      let b = outbox_filled g u (PersonShard s) (to_hub (Letter.Stop y) ∷ []) may.known may.empty in
      let c : sum_by posting_work (to_hub (Letter.Stop y) ∷ []) ≡ 2 = refl in
      less_as r v (after_stop w s y) e (omega (arith, a, b, c))
  bid_spends s r v (BidTurn.bids i rest arc amount may left best low e1 e) =
      let u : World = record w { bids_left = put w.bids_left s (w.bids_left s - 1) } in
      let a = bid_used g w s may.known left in
      let b = outbox_filled g u (PersonShard s) (bid_out g.shards (bid_of i arc.arc arc.object amount) ∷ []) may.known may.empty in
      let c : sum_by posting_work (bid_out g.shards (bid_of i arc.arc arc.object amount) ∷ []) ≡ 6 = refl in
      less_as r v (after_bid g w s i rest arc amount) e (omega (arith, a, b, c))

  post_spends : (h : Shard) (r : TurnReply) (v : World) → PostTurn g w h r v → Spends g w r v
  post_spends h r v (PostTurn.no_letter q e1 e) = Spends.rests e1 e
  post_spends h r v (PostTurn.posts o rest k m may p e1 e) =
      let u : World = with_mail w o.to m in
      let a = mail_posted g w o.to m (sender g h) (box_of o.to) o.reserve k o.letter p in
      let b = outbox_popped g u h o rest may.known (outbox_with_mail w o.to m h ∙ may.first) in
      less_as r v (with_outbox u h rest) e (omega (arith, a, b))
  post_spends h r v (PostTurn.meets_closed o rest may p e1 e) = let a = outbox_popped g w h o rest may.known may.first in less_as r v (with_outbox w h rest) e (omega (arith, a))
  post_spends h r v (PostTurn.drops_price o rest y may p n i e1 e) = let a = outbox_popped g w h o rest may.known may.first in less_as r v (with_outbox w h rest) e (omega (arith, a))
  post_spends h r v (PostTurn.keeps_letter o rest y may p n i e1 e) =
      Spends.ends (ap (λ (x : World). work g x) e) (λ q. first_end_set w.end (End.Stopped (reason y)) (sym (ap (λ (x : World). x.end) e) ∙ q))

  persons_less : (s x k : ℕ) (l : Letter) (m : Mail Letter) → Takes w.persons_mail s x k l m → work g (record w { persons_mail = m }) < work g w
  persons_less s x k l m t = let a = weight_taken w.persons_mail m s x k l waiting_work t in let b = some_work l in omega (arith, a, b)

  hear_spends : (s : ℕ) (r : TurnReply) (v : World) → PersonTakeTurn g w s r v → Spends g w r v
  hear_spends s r v (PersonTakeTurn.no_letter h e1 e) = Spends.rests e1 e
  hear_spends s r v (PersonTakeTurn.hears x k l m h t fits low e1 e) =
      let u : World = record w { persons_mail = m } in
      let a = persons_less s x k l m t in
      let b = heard g u s l in
      less_as r v (after_letter u s l) e (omega (arith, a, b))
  hear_spends s r v (PersonTakeTurn.strays x k l m h t bad e1 e) = less_as r v (ended (record w { persons_mail = m }) Why.Stray) e (persons_less s x k l m t)
  hear_spends s r v (PersonTakeTurn.falls x k l m h t fits low e1 e) = less_as r v (ended (record w { persons_mail = m }) Why.Fell) e (persons_less s x k l m t)

  sell_spends : (q : ℕ) (r : TurnReply) (v : World) → TakesBid g w q r v → Spends g w r v
  sell_spends q r v (TakesBid.no_letter h e1 e) = Spends.rests e1 e
  sell_spends q r v (TakesBid.accepts x k i a j amount m known empty t fits enough e1 e) =
      let u : World = record w { objects_mail = m } in
      let os : List Out = awards g.shards (w.holder j) i j amount in
      let b = weight_taken w.objects_mail m q x k (Letter.Bid i a j amount) waiting_work t in
      let c = outbox_filled g u (ObjectShard q) os known empty in
      let d = answers_work g.shards (w.holder j) i j amount in
      less_as r v (sold w q m j amount (record { person = i; arc = a }) os) e (omega (arith, b, c, d))
  sell_spends q r v (TakesBid.declines x k i a j amount m known empty t fits low e1 e) =
      let u : World = record w { objects_mail = m } in
      let os : List Out = refusal g.shards i j (w.price j) in
      let b = weight_taken w.objects_mail m q x k (Letter.Bid i a j amount) waiting_work t in
      let c = outbox_filled g u (ObjectShard q) os known empty in
      let d : sum_by posting_work os ≡ 2 = refl in
      less_as r v (with_outbox u (ObjectShard q) os) e (omega (arith, b, c, d))
  sell_spends q r v (TakesBid.strays x k l m known empty t bad e1 e) =
      let a = weight_taken w.objects_mail m q x k l waiting_work t in
      let b = some_work l in
      less_as r v (ended (record w { objects_mail = m }) Why.Stray) e (omega (arith, a, b))

  count_spends : (r : TurnReply) (v : World) → HubTakeTurn g w r v → Spends g w r v
  count_spends r v (HubTakeTurn.no_letter h e1 e) = Spends.rests e1 e
  count_spends r v (HubTakeTurn.takes x k l m t e1 e) =
      let u : World = record w { hub_mail = m } in
      let a = weight_taken w.hub_mail m 0 x k l waiting_work t in
      let b = some_work l in
      let c = counted_in g u l in
      less_as r v (hub_after g l u) e (omega (arith, a, b, c))

  turn_spends : (t : Turn) (r : TurnReply) (v : World) → IsOfRound t → Turned g w t r v → Spends g w r v
  turn_spends (Turn.Bid s) r v i h = bid_spends s r v h
  turn_spends (Turn.PersonPost s) r v i h = post_spends (PersonShard s) r v h
  turn_spends (Turn.ObjectPost q) r v i h = post_spends (ObjectShard q) r v h
  turn_spends (Turn.PersonTake s) r v i h = hear_spends s r v h
  turn_spends (Turn.ObjectTake q) r v i h = sell_spends q r v (by_cases g w q r v h)
  turn_spends (Turn.Tell q j s) r v i h = absurd i
  turn_spends Turn.HubTake r v i h = count_spends r v h
  turn_spends (Turn.HubClose name at) r v i h = absurd i

  never_more : (r : TurnReply) (v : World) → Spends g w r v → work g v ≤ work g w
  never_more r v (Spends.rests e1 e) = let a = ap (λ (x : World). work g x) e in omega (arith, a)
  never_more r v (Spends.less l) = omega (arith, l)
  never_more r v (Spends.ends a n) = omega (arith, a)

  moved_less : (r : TurnReply) (v : World) → r ≡ TurnReply.Moved → Spends g w r v → (v.end ≢ None) ⊎ (work g v < work g w)
  moved_less r v m (Spends.rests e1 e) = absurd (cc (m, e1))
  moved_less r v m (Spends.less l) = inr l
  moved_less r v m (Spends.ends a n) = inl n

-- no turn of a round makes work, and one that moves uses some up or has ended the phase
pub turns_never_more : (g : Phase) (w v : World) (t : Turn) (r : TurnReply) → IsOfRound t → Turned g w t r v → work g v ≤ work g w
turns_never_more g w v t r i h = never_more g w r v (turn_spends g w t r v i h)

pub moves_less : (g : Phase) (w v : World) (t : Turn) → IsOfRound t → Turned g w t TurnReply.Moved v → (v.end ≢ None) ⊎ (work g v < work g w)
moves_less g w v t i h = moved_less g w TurnReply.Moved v refl (turn_spends g w t TurnReply.Moved v i h)

-- the world of one person begins with five bids left and no Stop made
begins_with : work small beginning ≡ 38
begins_with = refl
