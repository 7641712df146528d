-- No turn lets a copy fall, and so no schedule does.
use Rattle.std.proofs.Common.{ℕ, ℤ, ◌≤ℤ◌, ◌≡◌, refl, arith, List, [], ◌∷◌, inl, inr, ap, ◌∙◌}
use Rattle.std.specs.Prelude.{nat_lt}
use Rattle.std.proofs.lemmas.Bool.{cond_both}
use Rattle.std.proofs.lemmas.Int.{ints}
use Rattle.auc_letters.specs.declared.letter.Letter.{Letter}
use Rattle.auc_letters.specs.declared.out.Out.{Out}
use Rattle.auc_letters.specs.declared.out.To.{To}
use Rattle.auc_mail.specs.Mail.{Mail}
use Rattle.auc_model.specs.Bidding.{BidTurn}
use Rattle.auc_model.specs.Hearing.{PersonTakeTurn, Rises, after_letter}
use Rattle.auc_model.specs.Hub.{HubCloseTurn, HubTakeTurn, hub_after}
use Rattle.auc_model.specs.Mails.{ObjectShard, PersonShard, Shard, with_mail, with_mail_named, with_outbox}
use Rattle.auc_model.specs.Posting.{PostTurn}
use Rattle.auc_model.specs.Put.{put2}
use Rattle.auc_model.specs.Schedule.{Schedule, Turned}
use Rattle.auc_model.specs.Selling.{ObjectTakeTurn, TellTurn}
use Rattle.auc_model.specs.World.{Phase, World}
use Rattle.auc_model.specs.declared.turn.MailName.{MailName}
use Rattle.auc_model.specs.declared.turn.Turn.{Turn}
use Rattle.auc_model.specs.declared.turn.TurnReply.{TurnReply}
use Rattle.auc_model.proofs.Views.{cases_both, put2_at, put2_off}

copy_mail : (w : World) (t : To) (m : Mail Letter) → (with_mail w t m).copy ≡ w.copy
copy_mail w (To.Person s) m = refl
copy_mail w (To.Object s) m = refl
copy_mail w To.Hub m = refl

copy_mail_named : (w : World) (name : MailName) (m : Mail Letter) → (with_mail_named w name m).copy ≡ w.copy
copy_mail_named w MailName.Objects m = refl
copy_mail_named w MailName.Persons m = refl
copy_mail_named w MailName.Hub m = refl

copy_outbox : (w : World) (h : Shard) (os : List Out) → (with_outbox w h os).copy ≡ w.copy
copy_outbox w (PersonShard s) os = refl
copy_outbox w (ObjectShard s) os = refl

copy_hub : (g : Phase) (l : Letter) (w : World) → (hub_after g l w).copy ≡ w.copy
copy_hub g (Letter.First j) w = cond_both (nat_lt w.count g.persons) _ w (λ (x : World). x.copy ≡ w.copy) (λ e. refl) (λ e. refl)
copy_hub g (Letter.Stop y) w = refl
copy_hub g (Letter.Bid i a j p) w = refl
copy_hub g (Letter.Award i j p) w = refl
copy_hub g (Letter.Refused i j p) w = refl
copy_hub g (Letter.Outbid i j p) w = refl
copy_hub g (Letter.Price j p) w = refl

module _ (g : Phase) (w : World) (s j : ℕ) where
  stays : (v : World) → v.copy ≡ w.copy → w.copy s j ≤ℤ v.copy s j
  stays v e = rw e (omega (arith, ints))

  rises : (r k : ℕ) (p : ℤ) → w.copy r k ≤ℤ p → w.copy s j ≤ℤ put2 w.copy r k p s j
  rises r k p h =
      elim (cases_both s r j k) [
        | inl e ↦ rw (put2_at w.copy r k p s j e.0 e.1, e.0, e.1) h
        | inr n ↦ (rw (put2_off w.copy r k p s j n) (omega (arith, ints)))
      ]

  same : (v u : World) → v ≡ u → u.copy ≡ w.copy → w.copy s j ≤ℤ v.copy s j
  same v u e f = stays v (ap (λ (x : World). x.copy) e ∙ f)

  -- a letter that is taken sets the copy to its price, which is no less
  copy_hears : (r : ℕ) (l : Letter) (m : Mail Letter) → Rises w r l → w.copy s j ≤ℤ (after_letter (record w { persons_mail = m }) r l).copy s j
  copy_hears r (Letter.Award i k p) m low = rises r k p low
  copy_hears r (Letter.Refused i k p) m low = rises r k p low
  copy_hears r (Letter.Outbid i k p) m low = rises r k p low
  copy_hears r (Letter.Price k p) m low = rises r k p low
  copy_hears r (Letter.Bid i a k p) m low = absurd low
  copy_hears r (Letter.First k) m low = absurd low
  copy_hears r (Letter.Stop y) m low = absurd low

  copy_person_take : (r : ℕ) (y : TurnReply) (v : World) → PersonTakeTurn g w r y v → w.copy s j ≤ℤ v.copy s j
  copy_person_take r y v (PersonTakeTurn.no_letter h e1 e) = same v w e refl
  copy_person_take r y v (PersonTakeTurn.hears x n l m h1 t fits low e1 e) = rw e (copy_hears r l m low)
  copy_person_take r y v (PersonTakeTurn.strays x n l m h1 t bad e1 e) = stays v (ap (λ (x : World). x.copy) e)
  copy_person_take r y v (PersonTakeTurn.falls x n l m h1 t fits low e1 e) = stays v (ap (λ (x : World). x.copy) e)

  copy_post : (h : Shard) (y : TurnReply) (v : World) → PostTurn g w h y v → w.copy s j ≤ℤ v.copy s j
  copy_post h y v (PostTurn.no_letter q e1 e) = same v w e refl
  copy_post h y v (PostTurn.posts o rest n m may p e1 e) = same v (with_outbox (with_mail w o.to m) h rest) e (copy_outbox (with_mail w o.to m) h rest ∙ copy_mail w o.to m)
  copy_post h y v (PostTurn.meets_closed o rest may p e1 e) = same v (with_outbox w h rest) e (copy_outbox w h rest)
  copy_post h y v (PostTurn.drops_price o rest z may p n i e1 e) = same v (with_outbox w h rest) e (copy_outbox w h rest)
  copy_post h y v (PostTurn.keeps_letter o rest z may p n i e1 e) = stays v (ap (λ (x : World). x.copy) e)

  copy_bid : (r : ℕ) (y : TurnReply) (v : World) → BidTurn g w r y v → w.copy s j ≤ℤ v.copy s j
  copy_bid r y v (BidTurn.barred h e1 e) = same v w e refl
  copy_bid r y v (BidTurn.stops i rest z may why e1 e) = stays v (ap (λ (x : World). x.copy) e)
  copy_bid r y v (BidTurn.bids i rest a amount may left best low e1 e) = stays v (ap (λ (x : World). x.copy) e)

  copy_object_take : (q : ℕ) (y : TurnReply) (v : World) → ObjectTakeTurn g w q y v → w.copy s j ≤ℤ v.copy s j
  copy_object_take q y v (ObjectTakeTurn.no_letter h e1 e) = same v w e refl
  copy_object_take q y v (ObjectTakeTurn.answers_bid x n bid m h1 h2 t fits e1 e) = stays v (ap (λ (x : World). x.copy) e)
  copy_object_take q y v (ObjectTakeTurn.strays x n l m h1 h2 t bad e1 e) = stays v (ap (λ (x : World). x.copy) e)

  copy_tell : (q k r : ℕ) (y : TurnReply) (v : World) → TellTurn g w q k r y v → w.copy s j ≤ℤ v.copy s j
  copy_tell q k r y v (TellTurn.silent h e1 e) = same v w e refl
  copy_tell q k r y v (TellTurn.tells h1 h2 h3 h4 h5 e1 e) = stays v (ap (λ (x : World). x.copy) e)

  copy_hub_take : (y : TurnReply) (v : World) → HubTakeTurn g w y v → w.copy s j ≤ℤ v.copy s j
  copy_hub_take y v (HubTakeTurn.no_letter h e1 e) = same v w e refl
  copy_hub_take y v (HubTakeTurn.takes x n l m t e1 e) = stays v (ap (λ (x : World). x.copy) e ∙ copy_hub g l (record w { hub_mail = m }))

  copy_hub_close : (name : MailName) (b : ℕ) (y : TurnReply) (v : World) → HubCloseTurn w name b y v → w.copy s j ≤ℤ v.copy s j
  copy_hub_close name b y v (HubCloseTurn.leaves h e1 e) = same v w e refl
  copy_hub_close name b y v (HubCloseTurn.closes m h1 h2 h3 e1 e) = same v (with_mail_named w name m) e (copy_mail_named w name m)

  pub copy_turn : (t : Turn) (y : TurnReply) (v : World) → Turned g w t y v → w.copy s j ≤ℤ v.copy s j
  copy_turn (Turn.Bid r) y v h = copy_bid r y v h
  copy_turn (Turn.PersonPost r) y v h = copy_post (PersonShard r) y v h
  copy_turn (Turn.ObjectPost q) y v h = copy_post (ObjectShard q) y v h
  copy_turn (Turn.PersonTake r) y v h = copy_person_take r y v h
  copy_turn (Turn.ObjectTake q) y v h = copy_object_take q y v h
  copy_turn (Turn.Tell q k r) y v h = copy_tell q k r y v h
  copy_turn Turn.HubTake y v h = copy_hub_take y v h
  copy_turn (Turn.HubClose name b) y v h = copy_hub_close name b y v h

-- no copy falls over a schedule, whatever the world
pub copy_schedule : (g : Phase) (w : World) (ts : List Turn) (v : World) (s j : ℕ) → Schedule g w ts v → w.copy s j ≤ℤ v.copy s j
copy_schedule g w [] v s j e = rw e (omega (arith, ints))
copy_schedule g w (t ∷ ts) v s j h =
    let a = copy_turn g w s j t h.reply h.mid h.turned in
    let b = copy_schedule g h.mid ts v s j h.rest in
    omega (arith, ints, a, b)
