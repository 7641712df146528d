-- If no bid, post or take changes anything, nothing can move.
use Rattle.std.proofs.Common.{ℕ, ◌<◌, ◌≤◌, ◌≡◌, ◌≢◌, arith, true, List, [], None, ◌⊎◌, inl, inr}
use Rattle.auc_letters.specs.declared.letter.Letter.{Letter}
use Rattle.auc_mail.specs.Mail.{HasBox, Mail, NothingWaits}
use Rattle.auc_model.specs.Bidding.{BidTurn}
use Rattle.auc_model.specs.Hearing.{PersonTakeTurn}
use Rattle.auc_model.specs.Hub.{HubTakeTurn}
use Rattle.auc_model.specs.Invariants.{Shapes}
use Rattle.auc_model.specs.Mails.{ObjectShard, PersonShard, Shard, TakesNone, mail_named, number, outbox}
use Rattle.auc_model.specs.Posting.{PostTurn}
use Rattle.auc_model.specs.Schedule.{Schedule}
use Rattle.auc_model.specs.Selling.{ObjectTakeTurn}
use Rattle.auc_model.specs.Start.{Lawful, Starts}
use Rattle.auc_model.specs.Still.{IsStill, Rests}
use Rattle.auc_model.specs.World.{Phase, World}
use Rattle.auc_model.specs.declared.turn.MailName.{MailName}
use Rattle.auc_model.specs.declared.turn.Turn.{Turn}
use Rattle.auc_model.specs.declared.turn.TurnReply.{TurnReply}
use Rattle.auc_model.proofs.Schedule.{kept_schedule}
use Rattle.auc_model.proofs.Start.{kept_start}
use Rattle.auc_model.proofs.Still.{still_ended}
use Rattle.auc_model.proofs.WorkedRun.{run}

module _ (g : Phase) (w : World) where
  moved_not : {A : Type 0} → TurnReply.Nothing ≡ TurnReply.Moved → A
  moved_not e = absurd cc

  within : {A : Type 0} (s : ℕ) → s < g.shards → g.shards ≤ s → A
  within s l past = absurd (omega (arith, l, past))

  post_rests : (h : Shard) → number h < g.shards → PostTurn g w h TurnReply.Nothing w → outbox w h ≡ []
  post_rests h l (PostTurn.no_letter (inl past) e1 e) = within (number h) l past
  post_rests h l (PostTurn.no_letter (inr none) e1 e) = none
  post_rests h l (PostTurn.posts o rest n m may p e1 e) = moved_not e1
  post_rests h l (PostTurn.meets_closed o rest may p e1 e) = moved_not e1
  post_rests h l (PostTurn.drops_price o rest y may p n i e1 e) = moved_not e1
  post_rests h l (PostTurn.keeps_letter o rest y may p n i e1 e) = moved_not e1

  nothing_in : (m : Mail Letter) (b : ℕ) → TakesNone m b → NothingWaits m b
  nothing_in m b (inl empty) = empty.nothing
  nothing_in m b (inr over) = over.nothing

  object_take_rests : (q : ℕ) → q < g.shards → w.object_out q ≡ [] → ObjectTakeTurn g w q TurnReply.Nothing w → NothingWaits w.objects_mail q
  object_take_rests q l none (ObjectTakeTurn.no_letter (inl past) e1 e) = within q l past
  object_take_rests q l none (ObjectTakeTurn.no_letter (inr (inl full)) e1 e) = absurd (full none)
  object_take_rests q l none (ObjectTakeTurn.no_letter (inr (inr t)) e1 e) = nothing_in w.objects_mail q t
  object_take_rests q l none (ObjectTakeTurn.answers_bid x n bid m h1 h2 t fits e1 e) = moved_not e1
  object_take_rests q l none (ObjectTakeTurn.strays x n k m h1 h2 t bad e1 e) = moved_not e1

  person_take_rests : (s : ℕ) → s < g.shards → PersonTakeTurn g w s TurnReply.Nothing w → NothingWaits w.persons_mail s
  person_take_rests s l (PersonTakeTurn.no_letter (inl past) e1 e) = within s l past
  person_take_rests s l (PersonTakeTurn.no_letter (inr t) e1 e) = nothing_in w.persons_mail s t
  person_take_rests s l (PersonTakeTurn.hears x n k m h1 t fits low e1 e) = moved_not e1
  person_take_rests s l (PersonTakeTurn.strays x n k m h1 t bad e1 e) = moved_not e1
  person_take_rests s l (PersonTakeTurn.falls x n k m h1 t fits low e1 e) = moved_not e1

  hub_rests : HubTakeTurn g w TurnReply.Nothing w → NothingWaits w.hub_mail 0
  hub_rests (HubTakeTurn.no_letter t e1 e) = nothing_in w.hub_mail 0 t
  hub_rests (HubTakeTurn.takes x n l m t e1 e) = moved_not e1

  bid_rests : (s : ℕ) → s < g.shards → w.person_out s ≡ [] → BidTurn g w s TurnReply.Nothing w → (w.has_stopped s ≡ true) ⊎ (w.idle s ≡ [])
  bid_rests s l none (BidTurn.barred (inl past) e1 e) = within s l past
  bid_rests s l none (BidTurn.barred (inr (inl full)) e1 e) = absurd (full none)
  bid_rests s l none (BidTurn.barred (inr (inr h)) e1 e) = h
  bid_rests s l none (BidTurn.stops i rest y may why e1 e) = moved_not e1
  bid_rests s l none (BidTurn.bids i rest a amount may left best low e1 e) = moved_not e1

  pub rests_still : Shapes g w → Rests g w → IsStill g w
  rests_still shapes r = record {
    no_person_out = (λ s l. post_rests (PersonShard s) l (r.person_posts s l));
    no_object_out = (λ q l. post_rests (ObjectShard q) l (r.object_posts q l));
    nothing_waits = waits;
    nobody_free = (λ s l. bid_rests s l (post_rests (PersonShard s) l (r.person_posts s l)) (r.bids s l));
  }
    where
      only : (b : ℕ) → b ≡ 0 → NothingWaits w.hub_mail b
      only b e = rw e (hub_rests r.hub_takes)

      waits : (name : MailName) (b : ℕ) → HasBox (mail_named w name) b → NothingWaits (mail_named w name) b
      waits MailName.Objects b h = let l : b < g.shards = rw (← shapes.objects.boxes_are) h in object_take_rests b l (post_rests (ObjectShard b) l (r.object_posts b l)) (r.object_takes b l)
      waits MailName.Persons b h = person_take_rests b (rw (← shapes.persons.boxes_are) h) (r.person_takes b (rw (← shapes.persons.boxes_are) h))
      waits MailName.Hub b h = only b (let e = shapes.hub.boxes_are in omega (arith, e, h))

-- so it never stalls before the end
pub rests_ended : (g : Phase) (w v : World) (ts : List Turn) → Lawful g → 0 < g.persons → Starts g w → Schedule g w ts v → Rests g v → v.end ≢ None
rests_ended g w v ts law some s run r = still_ended g w v ts law some s run (rests_still g v (kept_schedule g w ts v law run (kept_start g w s)).shapes r)
