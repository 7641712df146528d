-- The effect of a turn on the end and on the hub's count: the first cause sets the end, which then stays. It is All
-- only if every person was counted.
use Rattle.std.proofs.Common.{ℕ, ◌+◌, ◌<◌, ◌≡◌, ◌≢◌, refl, arith, true, false, List, [], ◌∷◌, Option, Some, None, inl, inr, ap, sym, ◌∙◌}
use Rattle.std.specs.Prelude.{if◌then◌else◌, ◌==◌, nat_lt}
use Rattle.std.proofs.lemmas.Bool.{cond_both, eqb-true, eq-eqb, cases_Bool, cases_lt}
use Rattle.std.proofs.lemmas.Bool.Decides.{nat_tests}
use Rattle.auc_letters.specs.Routing.{price_told}
use Rattle.auc_letters.specs.declared.letter.Letter.{Letter}
use Rattle.auc_letters.specs.declared.letter.Why.{Why}
use Rattle.auc_mail.specs.Mail.{Mail}
use Rattle.auc_model.specs.Bidding.{BidTurn, after_bid, after_stop}
use Rattle.auc_model.specs.Hearing.{PersonTakeTurn, after_letter}
use Rattle.auc_model.specs.Hub.{HubCloseTurn, HubTakeTurn, hub_after}
use Rattle.auc_model.specs.Mails.{ObjectShard, PersonShard, Shard, with_mail, with_mail_named, with_outbox}
use Rattle.auc_model.specs.Posting.{PostTurn, reason}
use Rattle.auc_model.specs.Put.{put}
use Rattle.auc_model.specs.Schedule.{Schedule, Turned}
use Rattle.auc_model.specs.Selling.{ObjectTakeTurn, TellTurn, after_answer}
use Rattle.auc_model.specs.World.{Phase, World, ended, first_end}
use Rattle.auc_model.specs.declared.turn.End.{End}
use Rattle.auc_model.specs.declared.turn.MailName.{MailName}
use Rattle.auc_model.specs.declared.turn.Turn.{Turn}
use Rattle.auc_model.specs.declared.turn.TurnReply.{TurnReply}
use Rattle.auc_model.proofs.Schedule.{count_with_mail, count_with_outbox, end_with_mail, end_with_outbox}
use Rattle.auc_model.proofs.WorkedRun.{run}

pub data EndMove (g : Phase) (w v : World) : Type 0 where
  stays : v.end ≡ w.end → v.count ≡ w.count → EndMove g w v
  stops : (y : Why) → v.end ≡ first_end w.end (End.Stopped y) → v.count ≡ w.count → EndMove g w v
  counts : w.count < g.persons → v.count ≡ w.count + 1 → v.end ≡ (if (w.count + 1) == g.persons then first_end w.end End.All else w.end) → EndMove g w v

stays_as : (g : Phase) (w v u : World) → v ≡ u → u.end ≡ w.end → u.count ≡ w.count → EndMove g w v
stays_as g w v u e f h = EndMove.stays (ap (λ (x : World). x.end) e ∙ f) (ap (λ (x : World). x.count) e ∙ h)

stops_as : (g : Phase) (w v u : World) (y : Why) → v ≡ ended u y → u.end ≡ w.end → u.count ≡ w.count → EndMove g w v
stops_as g w v u y e f h = EndMove.stops y (ap (λ (x : World). x.end) e ∙ ap (λ (d : Option End). first_end d (End.Stopped y)) f) (ap (λ (x : World). x.count) e ∙ h)

heard_end : (w : World) (s : ℕ) (l : Letter) → (after_letter w s l).end ≡ w.end
heard_end w s (Letter.Award i j p) = refl
heard_end w s (Letter.Refused i j p) = refl
heard_end w s (Letter.Outbid i j p) = refl
heard_end w s (Letter.Price j p) = refl
heard_end w s (Letter.Bid i a j p) = refl
heard_end w s (Letter.First j) = refl
heard_end w s (Letter.Stop y) = refl

heard_count : (w : World) (s : ℕ) (l : Letter) → (after_letter w s l).count ≡ w.count
heard_count w s (Letter.Award i j p) = refl
heard_count w s (Letter.Refused i j p) = refl
heard_count w s (Letter.Outbid i j p) = refl
heard_count w s (Letter.Price j p) = refl
heard_count w s (Letter.Bid i a j p) = refl
heard_count w s (Letter.First j) = refl
heard_count w s (Letter.Stop y) = refl

named_end : (w : World) (name : MailName) (m : Mail Letter) → ((with_mail_named w name m).end ≡ w.end) × ((with_mail_named w name m).count ≡ w.count)
named_end w MailName.Objects m = (refl, refl)
named_end w MailName.Persons m = (refl, refl)
named_end w MailName.Hub m = (refl, refl)

module _ (g : Phase) (w : World) where
  hub_end : (l : Letter) (m : Mail Letter) → EndMove g w (hub_after g l (record w { hub_mail = m }))
  hub_end (Letter.First j) m =
      elim (cases_lt w.count g.persons) [
        | inl l ↦ (let e : nat_lt w.count g.persons ≡ true = grind (arith, nat_tests) in rw e (EndMove.counts l refl refl))
        | inr n ↦ (let e : nat_lt w.count g.persons ≡ false = grind (arith, nat_tests) in rw e (EndMove.stays refl refl))
      ]
  hub_end (Letter.Stop y) m = EndMove.stops y refl refl
  hub_end (Letter.Bid i a j p) m = EndMove.stops Why.Stray refl refl
  hub_end (Letter.Award i j p) m = EndMove.stops Why.Stray refl refl
  hub_end (Letter.Refused i j p) m = EndMove.stops Why.Stray refl refl
  hub_end (Letter.Outbid i j p) m = EndMove.stops Why.Stray refl refl
  hub_end (Letter.Price j p) m = EndMove.stops Why.Stray refl refl

  post_end : (h : Shard) (r : TurnReply) (v : World) → PostTurn g w h r v → EndMove g w v
  post_end h r v (PostTurn.no_letter q e1 e) = stays_as g w v w e refl refl
  post_end h r v (PostTurn.posts o rest n m may p e1 e) =
      let u : World = with_mail w o.to m in
      stays_as g w v (with_outbox u h rest) e (end_with_outbox u h rest ∙ end_with_mail w o.to m) (count_with_outbox u h rest ∙ count_with_mail w o.to m)
  post_end h r v (PostTurn.meets_closed o rest may p e1 e) = stays_as g w v (with_outbox w h rest) e (end_with_outbox w h rest) (count_with_outbox w h rest)
  post_end h r v (PostTurn.drops_price o rest y may p n i e1 e) = stays_as g w v (with_outbox w h rest) e (end_with_outbox w h rest) (count_with_outbox w h rest)
  post_end h r v (PostTurn.keeps_letter o rest y may p n i e1 e) = stops_as g w v w (reason y) e refl refl

  pub turn_end : (t : Turn) (r : TurnReply) (v : World) → Turned g w t r v → EndMove g w v
  turn_end (Turn.Bid s) r v (BidTurn.barred h e1 e) = stays_as g w v w e refl refl
  turn_end (Turn.Bid s) r v (BidTurn.stops i rest y may why e1 e) = stays_as g w v (after_stop w s y) e refl refl
  turn_end (Turn.Bid s) r v (BidTurn.bids i rest a amount may left best low e1 e) = stays_as g w v (after_bid g w s i rest a amount) e refl refl
  turn_end (Turn.PersonPost s) r v h = post_end (PersonShard s) r v h
  turn_end (Turn.ObjectPost q) r v h = post_end (ObjectShard q) r v h
  turn_end (Turn.PersonTake s) r v (PersonTakeTurn.no_letter h e1 e) = stays_as g w v w e refl refl
  turn_end (Turn.PersonTake s) r v (PersonTakeTurn.hears x n l m h1 t fits low e1 e) =
      let u : World = record w { persons_mail = m } in
      stays_as g w v (after_letter u s l) e (heard_end u s l) (heard_count u s l)
  turn_end (Turn.PersonTake s) r v (PersonTakeTurn.strays x n l m h1 t bad e1 e) = stops_as g w v (record w { persons_mail = m }) Why.Stray e refl refl
  turn_end (Turn.PersonTake s) r v (PersonTakeTurn.falls x n l m h1 t fits low e1 e) = stops_as g w v (record w { persons_mail = m }) Why.Fell e refl refl
  turn_end (Turn.ObjectTake q) r v (ObjectTakeTurn.no_letter h e1 e) = stays_as g w v w e refl refl
  turn_end (Turn.ObjectTake q) r v (ObjectTakeTurn.answers_bid x n bid m h1 h2 t fits e1 e) = stays_as g w v (after_answer g w q m bid) e refl refl
  turn_end (Turn.ObjectTake q) r v (ObjectTakeTurn.strays x n l m h1 h2 t bad e1 e) = stops_as g w v (record w { objects_mail = m }) Why.Stray e refl refl
  turn_end (Turn.Tell q j s) r v (TellTurn.silent h e1 e) = stays_as g w v w e refl refl
  turn_end (Turn.Tell q j s) r v (TellTurn.tells h1 h2 h3 h4 h5 e1 e) =
      stays_as g w v (record w { object_out = put w.object_out q (price_told g.persons s j (w.price j) ∷ []) }) e refl refl
  turn_end Turn.HubTake r v (HubTakeTurn.no_letter h e1 e) = stays_as g w v w e refl refl
  turn_end Turn.HubTake r v (HubTakeTurn.takes x n l m t e1 e) = rw e (hub_end l m)
  turn_end (Turn.HubClose name b) r v (HubCloseTurn.leaves h e1 e) = stays_as g w v w e refl refl
  turn_end (Turn.HubClose name b) r v (HubCloseTurn.closes m h1 h2 h3 e1 e) = stays_as g w v (with_mail_named w name m) e (named_end w name m).0 (named_end w name m).1

first_stays : (o : Option End) (d e : End) → o ≡ Some e → first_end o d ≡ Some e
first_stays o d e h = rw h

-- a set end stays
end_move_stays : (g : Phase) (w v : World) (d : End) → w.end ≡ Some d → EndMove g w v → v.end ≡ Some d
end_move_stays g w v d h (EndMove.stays e c) = e ∙ h
end_move_stays g w v d h (EndMove.stops y e c) = e ∙ first_stays w.end (End.Stopped y) d h
end_move_stays g w v d h (EndMove.counts l c e) =
    e ∙ cond_both ((w.count + 1) == g.persons) (first_end w.end End.All) w.end (λ (x : Option End). x ≡ Some d) (λ _. first_stays w.end End.All d h) (λ _. h)

pub end_schedule : (g : Phase) (w : World) (ts : List Turn) (v : World) (d : End) → Schedule g w ts v → w.end ≡ Some d → v.end ≡ Some d
end_schedule g w [] v d e h = ap (λ (x : World). x.end) e ∙ h
end_schedule g w (t ∷ ts) v d run h = end_schedule g run.mid ts v d run.rest (end_move_stays g w run.mid d h (turn_end g w t run.reply run.mid run.turned))

-- the end is All only if every person was counted
abbrev pub AllCounted : Phase → World → Type 0
AllCounted g w = w.end ≡ Some End.All → w.count ≡ g.persons

from_stop : (o : Option End) (y : Why) → first_end o (End.Stopped y) ≡ Some End.All → o ≡ Some End.All
from_stop None y e = absurd cc
from_stop (Some d) y e = e

all_counted_move : (g : Phase) (w v : World) → EndMove g w v → AllCounted g w → AllCounted g v
all_counted_move g w v (EndMove.stays e c) h all = c ∙ h (sym e ∙ all)
all_counted_move g w v (EndMove.stops y e c) h all = c ∙ h (from_stop w.end y (sym e ∙ all))
all_counted_move g w v (EndMove.counts l c e) h all =
    elim (cases_Bool ((w.count + 1) == g.persons)) [
      | inl t ↦ c ∙ eqb-true (w.count + 1) g.persons t
      | inr f ↦ (let before : w.end ≡ Some End.All = sym (e ∙ rw f) ∙ all in absurd (omega (arith, l, h before)))
    ]

pub all_schedule : (g : Phase) (w : World) (ts : List Turn) (v : World) → Schedule g w ts v → AllCounted g w → AllCounted g v
all_schedule g w [] v e h all = ap (λ (x : World). x.count) e ∙ h (sym (ap (λ (x : World). x.end) e) ∙ all)
all_schedule g w (t ∷ ts) v run h all = all_schedule g run.mid ts v run.rest (all_counted_move g w run.mid (turn_end g w t run.reply run.mid run.turned) h) all

-- if every person was counted, the end is set
abbrev pub EndsCounted : Phase → World → Type 0
EndsCounted g w = w.count ≡ g.persons → w.end ≢ None

set_first : (o : Option End) (d : End) → first_end o d ≢ None
set_first None d e = cc
set_first (Some x) d e = cc

ends_counted_move : (g : Phase) (w v : World) → EndMove g w v → EndsCounted g w → EndsCounted g v
ends_counted_move g w v (EndMove.stays e c) h all none = h (sym c ∙ all) (sym e ∙ none)
ends_counted_move g w v (EndMove.stops y e c) h all none = set_first w.end (End.Stopped y) (sym e ∙ none)
ends_counted_move g w v (EndMove.counts l c e) h all none =
    let t : ((w.count + 1) == g.persons) ≡ true = eq-eqb (w.count + 1) g.persons (sym c ∙ all) in
    set_first w.end End.All (sym (e ∙ rw t) ∙ none)

pub ends_counted_schedule : (g : Phase) (w : World) (ts : List Turn) (v : World) → Schedule g w ts v → EndsCounted g w → EndsCounted g v
ends_counted_schedule g w [] v e h all none = h (sym (ap (λ (x : World). x.count) e) ∙ all) (sym (ap (λ (x : World). x.end) e) ∙ none)
ends_counted_schedule g w (t ∷ ts) v run h all none = ends_counted_schedule g run.mid ts v run.rest (ends_counted_move g w run.mid (turn_end g w t run.reply run.mid run.turned) h) all none

-- an end that is not set was not set before
pub end_back : (g : Phase) (w v : World) → EndMove g w v → v.end ≡ None → w.end ≡ None
end_back g w v m none = by w.end refl
  where
    by : (o : Option End) → w.end ≡ o → w.end ≡ None
    by None e = e
    by (Some d) e = absurd (let s = end_move_stays g w v d e m in cc (s, none))
