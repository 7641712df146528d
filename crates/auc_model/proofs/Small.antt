-- The most that one turn may change: nothing if it returns Nothing, and at most one mail, by one step.
use Rattle.std.proofs.Common.{ℕ, ◌≡◌, ◌≢◌, refl, true, List, [], ◌∷◌, ◌++◌, inl, inr, sym, ◌∙◌}
use Rattle.std.specs.Prelude.{nat_lt}
use Rattle.std.proofs.lemmas.Bool.{cond_both}
use Rattle.auc_letters.specs.Award.{bid_letter}
use Rattle.auc_letters.specs.Routing.{price_told}
use Rattle.auc_letters.specs.declared.letter.Letter.{Letter}
use Rattle.auc_letters.specs.declared.letter.Why.{Why}
use Rattle.auc_letters.specs.declared.out.Out.{Out}
use Rattle.auc_letters.specs.declared.out.To.{To}
use Rattle.auc_mail.specs.Mail.{Mail}
use Rattle.auc_mail.specs.Step.{Step}
use Rattle.auc_mail.specs.declared.call.Call.{Call}
use Rattle.auc_mail.specs.declared.call.Reply.{Reply}
use Rattle.auc_mail.specs.declared.call.Taken.{Taken}
use Rattle.auc_model.specs.Bidding.{BidTurn, after_bid, after_stop}
use Rattle.auc_model.specs.Hearing.{PersonTakeTurn, after_letter}
use Rattle.auc_model.specs.Hub.{HubCloseTurn, HubTakeTurn, hub_after}
use Rattle.auc_model.specs.Mails.{ObjectShard, PersonShard, Shard, Takes, box_of, mail_named, mail_of, sender, with_mail, with_mail_named, with_outbox}
use Rattle.auc_model.specs.Posting.{PostTurn, reason}
use Rattle.auc_model.specs.Put.{put}
use Rattle.auc_model.specs.Schedule.{Schedule, StepsIn, Turned}
use Rattle.auc_model.specs.Selling.{ObjectTakeTurn, TellTurn, after_answer}
use Rattle.auc_model.specs.World.{Phase, World, ended}
use Rattle.auc_model.specs.declared.turn.MailName.{MailName}
use Rattle.auc_model.specs.declared.turn.Turn.{Turn}
use Rattle.auc_model.specs.declared.turn.TurnReply.{TurnReply}

contrary : {A : Type 0} → TurnReply.Nothing ≡ TurnReply.Moved → A
contrary e = absurd cc

pub nothing_changes : (g : Phase) (w : World) (t : Turn) (r : TurnReply) (v : World) → Turned g w t r v → r ≡ TurnReply.Nothing → v ≡ w
nothing_changes g w (Turn.Bid s) r v (BidTurn.barred h e1 e) n = e
nothing_changes g w (Turn.Bid s) r v (BidTurn.stops i rest y may why e1 e) n = contrary (sym n ∙ e1)
nothing_changes g w (Turn.Bid s) r v (BidTurn.bids i rest a amount may left best low e1 e) n = contrary (sym n ∙ e1)
nothing_changes g w (Turn.PersonPost s) r v (PostTurn.no_letter h e1 e) n = e
nothing_changes g w (Turn.PersonPost s) r v (PostTurn.posts o rest k m may p e1 e) n = contrary (sym n ∙ e1)
nothing_changes g w (Turn.PersonPost s) r v (PostTurn.meets_closed o rest may p e1 e) n = contrary (sym n ∙ e1)
nothing_changes g w (Turn.PersonPost s) r v (PostTurn.drops_price o rest y may p c i e1 e) n = contrary (sym n ∙ e1)
nothing_changes g w (Turn.PersonPost s) r v (PostTurn.keeps_letter o rest y may p c i e1 e) n = contrary (sym n ∙ e1)
nothing_changes g w (Turn.ObjectPost q) r v (PostTurn.no_letter h e1 e) n = e
nothing_changes g w (Turn.ObjectPost q) r v (PostTurn.posts o rest k m may p e1 e) n = contrary (sym n ∙ e1)
nothing_changes g w (Turn.ObjectPost q) r v (PostTurn.meets_closed o rest may p e1 e) n = contrary (sym n ∙ e1)
nothing_changes g w (Turn.ObjectPost q) r v (PostTurn.drops_price o rest y may p c i e1 e) n = contrary (sym n ∙ e1)
nothing_changes g w (Turn.ObjectPost q) r v (PostTurn.keeps_letter o rest y may p c i e1 e) n = contrary (sym n ∙ e1)
nothing_changes g w (Turn.PersonTake s) r v (PersonTakeTurn.no_letter h e1 e) n = e
nothing_changes g w (Turn.PersonTake s) r v (PersonTakeTurn.hears x k l m h1 t fits low e1 e) n = contrary (sym n ∙ e1)
nothing_changes g w (Turn.PersonTake s) r v (PersonTakeTurn.strays x k l m h1 t bad e1 e) n = contrary (sym n ∙ e1)
nothing_changes g w (Turn.PersonTake s) r v (PersonTakeTurn.falls x k l m h1 t fits low e1 e) n = contrary (sym n ∙ e1)
nothing_changes g w (Turn.ObjectTake q) r v (ObjectTakeTurn.no_letter h e1 e) n = e
nothing_changes g w (Turn.ObjectTake q) r v (ObjectTakeTurn.answers_bid x k bid m h1 h2 t fits e1 e) n = contrary (sym n ∙ e1)
nothing_changes g w (Turn.ObjectTake q) r v (ObjectTakeTurn.strays x k l m h1 h2 t bad e1 e) n = contrary (sym n ∙ e1)
nothing_changes g w (Turn.Tell q j s) r v (TellTurn.silent h e1 e) n = e
nothing_changes g w (Turn.Tell q j s) r v (TellTurn.tells h1 h2 h3 h4 h5 e1 e) n = contrary (sym n ∙ e1)
nothing_changes g w Turn.HubTake r v (HubTakeTurn.no_letter h e1 e) n = e
nothing_changes g w Turn.HubTake r v (HubTakeTurn.takes x k l m t e1 e) n = contrary (sym n ∙ e1)
nothing_changes g w (Turn.HubClose name b) r v (HubCloseTurn.leaves h e1 e) n = e
nothing_changes g w (Turn.HubClose name b) r v (HubCloseTurn.closes m h1 h2 h3 e1 e) n = contrary (sym n ∙ e1)

abbrev OneStep : World → World → Type 0
OneStep w v = (name : MailName) × StepsIn w v name

-- the mails of two worlds are the same
pub record SameMails (w v : World) : Type 0 where
  pub objects : v.objects_mail ≡ w.objects_mail
  pub persons : v.persons_mail ≡ w.persons_mail
  pub hub : v.hub_mail ≡ w.hub_mail

same_named : (w v : World) → SameMails w v → (name : MailName) → mail_named v name ≡ mail_named w name
same_named w v e MailName.Objects = e.objects
same_named w v e MailName.Persons = e.persons
same_named w v e MailName.Hub = e.hub

no_step : (w v : World) → SameMails w v → OneStep w v
no_step w v e = (MailName.Hub, record { this = inl e.hub; others = (λ other n. same_named w v e other) })

same_to_all : (w u v : World) → v ≡ u → SameMails w u → SameMails w v
same_to_all w u v e h = rw e h

-- the mail with this name made a step, and w has the others
named_step : (w v : World) (name : MailName) (m : Mail Letter) (c : Call Letter) (r : Reply Letter) → Step (mail_named w name) c r m → SameMails (with_mail_named w name m) v → OneStep w v
named_step w v MailName.Objects m c r h e = (MailName.Objects, record { this = inr (record { call = c; reply = r; step = rw e.objects h }); others = apart })
  where
    apart : (other : MailName) → other ≢ MailName.Objects → mail_named v other ≡ mail_named w other
    apart MailName.Objects n = absurd (n refl)
    apart MailName.Persons n = e.persons
    apart MailName.Hub n = e.hub
named_step w v MailName.Persons m c r h e = (MailName.Persons, record { this = inr (record { call = c; reply = r; step = rw e.persons h }); others = apart })
  where
    apart : (other : MailName) → other ≢ MailName.Persons → mail_named v other ≡ mail_named w other
    apart MailName.Objects n = e.objects
    apart MailName.Persons n = absurd (n refl)
    apart MailName.Hub n = e.hub
named_step w v MailName.Hub m c r h e = (MailName.Hub, record { this = inr (record { call = c; reply = r; step = rw e.hub h }); others = apart })
  where
    apart : (other : MailName) → other ≢ MailName.Hub → mail_named v other ≡ mail_named w other
    apart MailName.Objects n = e.objects
    apart MailName.Persons n = e.persons
    apart MailName.Hub n = absurd (n refl)

-- the mail that a letter goes into made a step
to_step : (w v : World) (t : To) (m : Mail Letter) (c : Call Letter) (r : Reply Letter) → Step (mail_of w t) c r m → SameMails (with_mail w t m) v → OneStep w v
to_step w v (To.Person s) m c r h e = named_step w v MailName.Persons m c r h e
to_step w v (To.Object q) m c r h e = named_step w v MailName.Objects m c r h e
to_step w v To.Hub m c r h e = named_step w v MailName.Hub m c r h e

pub same_outbox : (w : World) (h : Shard) (os : List Out) → SameMails w (with_outbox w h os)
same_outbox w (PersonShard s) os = record { objects = refl; persons = refl; hub = refl }
same_outbox w (ObjectShard q) os = record { objects = refl; persons = refl; hub = refl }

pub same_heard : (w : World) (s : ℕ) (l : Letter) → SameMails w (after_letter w s l)
same_heard w s (Letter.Award i j p) = record { objects = refl; persons = refl; hub = refl }
same_heard w s (Letter.Refused i j p) = record { objects = refl; persons = refl; hub = refl }
same_heard w s (Letter.Outbid i j p) = record { objects = refl; persons = refl; hub = refl }
same_heard w s (Letter.Price j p) = record { objects = refl; persons = refl; hub = refl }
same_heard w s (Letter.Bid i a j p) = record { objects = refl; persons = refl; hub = refl }
same_heard w s (Letter.First j) = record { objects = refl; persons = refl; hub = refl }
same_heard w s (Letter.Stop y) = record { objects = refl; persons = refl; hub = refl }

pub same_hub : (g : Phase) (l : Letter) (w : World) → SameMails w (hub_after g l w)
same_hub g (Letter.First j) w =
    cond_both (nat_lt w.count g.persons) _ w (λ (x : World). SameMails w x) (λ e. record { objects = refl; persons = refl; hub = refl }) (λ e. record { objects = refl; persons = refl; hub = refl })
same_hub g (Letter.Stop y) w = record { objects = refl; persons = refl; hub = refl }
same_hub g (Letter.Bid i a j p) w = record { objects = refl; persons = refl; hub = refl }
same_hub g (Letter.Award i j p) w = record { objects = refl; persons = refl; hub = refl }
same_hub g (Letter.Refused i j p) w = record { objects = refl; persons = refl; hub = refl }
same_hub g (Letter.Outbid i j p) w = record { objects = refl; persons = refl; hub = refl }
same_hub g (Letter.Price j p) w = record { objects = refl; persons = refl; hub = refl }

module _ (g : Phase) (w : World) where
  itself : SameMails w w
  itself = record { objects = refl; persons = refl; hub = refl }

  still : (v u : World) → v ≡ u → SameMails w u → OneStep w v
  still v u e h = no_step w v (same_to_all w u v e h)

  post_step : (h : Shard) (r : TurnReply) (v : World) → PostTurn g w h r v → OneStep w v
  post_step h r v (PostTurn.no_letter q e1 e) = still v w e itself
  post_step h r v (PostTurn.posts o rest n m may p e1 e) =
      let u : World = with_mail w o.to m in
      to_step w v o.to m (Call.Post (sender g h) (box_of o.to) o.letter o.reserve) (Reply.Posted n) p (same_to_all u (with_outbox u h rest) v e (same_outbox u h rest))
  post_step h r v (PostTurn.meets_closed o rest may p e1 e) = still v (with_outbox w h rest) e (same_outbox w h rest)
  post_step h r v (PostTurn.drops_price o rest y may p n i e1 e) = still v (with_outbox w h rest) e (same_outbox w h rest)
  post_step h r v (PostTurn.keeps_letter o rest y may p n i e1 e) = still v (ended w (reason y)) e (record { objects = refl; persons = refl; hub = refl })

  persons_step : (s x n : ℕ) (l : Letter) (m : Mail Letter) (v u : World) → Takes w.persons_mail s x n l m → v ≡ u → SameMails (record w { persons_mail = m }) u → OneStep w v
  persons_step s x n l m v u t e h = named_step w v MailName.Persons m (Call.Take s) (Reply.Took (Taken.Letter x n l)) t (same_to_all (record w { persons_mail = m }) u v e h)

  objects_step : (q x n : ℕ) (l : Letter) (m : Mail Letter) (v u : World) → Takes w.objects_mail q x n l m → v ≡ u → SameMails (record w { objects_mail = m }) u → OneStep w v
  objects_step q x n l m v u t e h = named_step w v MailName.Objects m (Call.Take q) (Reply.Took (Taken.Letter x n l)) t (same_to_all (record w { objects_mail = m }) u v e h)

  pub turn_step : (t : Turn) (r : TurnReply) (v : World) → Turned g w t r v → OneStep w v
  turn_step (Turn.Bid s) r v (BidTurn.barred h e1 e) = still v w e itself
  turn_step (Turn.Bid s) r v (BidTurn.stops i rest y may why e1 e) = still v (after_stop w s y) e (record { objects = refl; persons = refl; hub = refl })
  turn_step (Turn.Bid s) r v (BidTurn.bids i rest a amount may left best low e1 e) = still v (after_bid g w s i rest a amount) e (record { objects = refl; persons = refl; hub = refl })
  turn_step (Turn.PersonPost s) r v h = post_step (PersonShard s) r v h
  turn_step (Turn.ObjectPost q) r v h = post_step (ObjectShard q) r v h
  turn_step (Turn.PersonTake s) r v (PersonTakeTurn.no_letter h e1 e) = still v w e itself
  turn_step (Turn.PersonTake s) r v (PersonTakeTurn.hears x n l m h1 t fits low e1 e) =
      let u : World = record w { persons_mail = m } in persons_step s x n l m v (after_letter u s l) t e (same_heard u s l)
  turn_step (Turn.PersonTake s) r v (PersonTakeTurn.strays x n l m h1 t bad e1 e) =
      persons_step s x n l m v (ended (record w { persons_mail = m }) Why.Stray) t e (record { objects = refl; persons = refl; hub = refl })
  turn_step (Turn.PersonTake s) r v (PersonTakeTurn.falls x n l m h1 t fits low e1 e) =
      persons_step s x n l m v (ended (record w { persons_mail = m }) Why.Fell) t e (record { objects = refl; persons = refl; hub = refl })
  turn_step (Turn.ObjectTake q) r v (ObjectTakeTurn.no_letter h e1 e) = still v w e itself
  turn_step (Turn.ObjectTake q) r v (ObjectTakeTurn.answers_bid x n bid m h1 h2 t fits e1 e) =
      objects_step q x n (bid_letter bid) m v (after_answer g w q m bid) t e (record { objects = refl; persons = refl; hub = refl })
  turn_step (Turn.ObjectTake q) r v (ObjectTakeTurn.strays x n l m h1 h2 t bad e1 e) =
      objects_step q x n l m v (ended (record w { objects_mail = m }) Why.Stray) t e (record { objects = refl; persons = refl; hub = refl })
  turn_step (Turn.Tell q j s) r v (TellTurn.silent h e1 e) = still v w e itself
  turn_step (Turn.Tell q j s) r v (TellTurn.tells h1 h2 h3 h4 h5 e1 e) =
      still v (record w { object_out = put w.object_out q (price_told g.persons s j (w.price j) ∷ []) }) e (record { objects = refl; persons = refl; hub = refl })
  turn_step Turn.HubTake r v (HubTakeTurn.no_letter h e1 e) = still v w e itself
  turn_step Turn.HubTake r v (HubTakeTurn.takes x n l m t e1 e) =
      let u : World = record w { hub_mail = m } in
      named_step w v MailName.Hub m (Call.Take 0) (Reply.Took (Taken.Letter x n l)) t (same_to_all u (hub_after g l u) v e (same_hub g l u))
  turn_step (Turn.HubClose name b) r v (HubCloseTurn.leaves h e1 e) = still v w e itself
  turn_step (Turn.HubClose name b) r v (HubCloseTurn.closes m h1 h2 h3 e1 e) =
      let u : World = with_mail_named w name m in
      named_step w v name m (Call.Close b) (Reply.WasOpen true) h3 (same_to_all u u v e (record { objects = refl; persons = refl; hub = refl }))

-- one schedule after another, and one turn more
pub schedules_join : (g : Phase) (w : World) (ts us : List Turn) (u v : World) → Schedule g w ts u → Schedule g u us v → Schedule g w (ts ++ us) v
schedules_join g w [] us u v e b = rw e at b
schedules_join g w (t ∷ ts) us u v a b = record { mid = a.mid; reply = a.reply; turned = a.turned; rest = schedules_join g a.mid ts us u v a.rest b }

pub one_more : (g : Phase) (u v : World) (t : Turn) (r : TurnReply) → Turned g u t r v → Schedule g u (t ∷ []) v
one_more g u v t r h = record { mid = v; reply = r; turned = h; rest = refl }
