-- Until the end is set, as many Stops are under way as shards have stopped. So where nothing can move, every person was
-- counted, and the end is set.
use Rattle.std.proofs.Common.{ℕ, ℤ, ◌+◌, ◌<◌, ◌≡◌, refl, arith, Bool, true, List, [], ◌∷◌, ◌++◌, Option, Some, None, ap, sym, ◌∙◌}
use Rattle.std.specs.Prelude.{nat_lt, if◌then◌else◌, ◌==◌}
use Rattle.std.proofs.lemmas.Bool.{cond_both}
use Rattle.auc_letters.specs.Award.{awards, refusal, bid_of, bid_out}
use Rattle.auc_letters.specs.Routing.{price_told, to_hub, to_person}
use Rattle.auc_letters.specs.declared.letter.Letter.{Letter}
use Rattle.auc_letters.specs.declared.letter.Why.{Why}
use Rattle.auc_letters.specs.declared.out.Out.{Out}
use Rattle.auc_letters.specs.declared.out.To.{To}
use Rattle.auc_letters.specs.declared.state.Held.{Held}
use Rattle.auc_mail.specs.Mail.{Mail}
use Rattle.auc_model.specs.Bidding.{BidTurn, after_bid, after_stop}
use Rattle.auc_model.specs.Counts.{everywhere, total}
use Rattle.auc_model.specs.Hearing.{FitsLetter, PersonTakeTurn, after_letter, free_after, held_after}
use Rattle.auc_model.specs.Hub.{HubCloseTurn, HubTakeTurn, hub_after}
use Rattle.auc_model.specs.Invariants.{Kept}
use Rattle.auc_model.specs.Letters.{letters_to, stop_one}
use Rattle.auc_model.specs.Mails.{ObjectShard, PersonShard, Shard, Takes, box_of, mail_of, number, sender, with_mail, with_outbox}
use Rattle.auc_model.specs.Posting.{MayPost, PostTurn, is_price, reason}
use Rattle.auc_model.specs.Put.{put, put2}
use Rattle.auc_model.specs.Room.{one_if, stopped_shards}
use Rattle.auc_model.specs.Schedule.{Schedule, Turned}
use Rattle.auc_model.specs.Selling.{TellTurn}
use Rattle.auc_model.proofs.Selling.{TakesBid, by_cases, sold}
use Rattle.auc_model.specs.Start.{Lawful}
use Rattle.auc_model.specs.Channels.{Lost, Routed, Channels, send, set_channel, channels}
use Rattle.auc_model.specs.World.{Phase, World, first_end, senders}
use Rattle.auc_model.specs.declared.turn.End.{End}
use Rattle.auc_model.specs.declared.turn.Turn.{Turn}
use Rattle.auc_model.specs.declared.turn.TurnReply.{TurnReply}
use Rattle.auc_model.proofs.Closing.{shape_of, whole_of}
use Rattle.auc_model.proofs.CountSteps.{less}
use Rattle.auc_model.proofs.Ends.{end_back, turn_end}
use Rattle.auc_model.proofs.Opening.{OpenYet, open_turn}
use Rattle.auc_model.proofs.Routes.{routed_middle}
use Rattle.auc_model.proofs.Schedule.{kept_turn}
use Rattle.auc_model.proofs.Small.{SameMails}
use Rattle.auc_model.proofs.Sums.{total_put}
use Rattle.auc_model.proofs.Totals.{IsBox, everywhere_sent}
use Rattle.auc_model.proofs.Turns.{channels_other}
use Rattle.auc_model.proofs.Views.{send_two}
use Rattle.auc_model.proofs.Channels.{ahead, left_behind, channel_full, channel_taken, channels_dropped, channels_posted, channels_sent, channels_taken}

-- no box has swallowed a letter
abbrev none_lost : Lost
none_lost = λ t x. []

-- until the end is set: the Stops under way
abbrev pub StopsTold : Phase → World → Type 0
StopsTold g w = w.end ≡ None → everywhere g stop_one (channels g w none_lost) ≡ stopped_shards g w

stopless : Letter → Type 0
stopless l = stop_one l ≡ 0

set_never : {A : Type 0} (o : Option End) (d : End) → first_end o d ≡ None → A
set_never None d e = absurd cc
set_never (Some x) d e = absurd cc

module _ (g : Phase) (w : World) (law : Lawful g) (k : Kept g w) (yet : OpenYet g w) (told : StopsTold g w) where
  abbrev c : Channels
  c = channels g w none_lost

  -- from one form of the new channels to the other, where as many shards have stopped
  as_told : (v : World) (d : Channels) → w.end ≡ None → channels g v none_lost ≡ d → v.has_stopped ≡ w.has_stopped → everywhere g stop_one d ≡ everywhere g stop_one c → everywhere g stop_one (channels g v none_lost) ≡ stopped_shards g v
  as_told v d none e same sums =
      ap (everywhere g stop_one) e ∙ (sums ∙ (told none ∙ sym (ap (λ (f : ℕ → Bool). total (λ s. one_if (f s)) g.shards) same)))

  -- a letter that is no Stop is sent
  sent : (d : Channels) (x : ℕ) (o : Out) → x < senders g → IsBox g o.to → stop_one o.letter ≡ 0 → everywhere g stop_one (send d x (o ∷ [])) ≡ everywhere g stop_one d
  sent d x o h b z = let a = everywhere_sent g stop_one d x o h b in omega (arith, a, z)

  -- one that is no Stop goes
  gone : (t : To) (x : ℕ) (hs : List Letter) (l : Letter) (ls : List Letter) → c t x ≡ hs ++ l ∷ ls → x < senders g → IsBox g t → stop_one l ≡ 0 → everywhere g stop_one (set_channel c t x (hs ++ ls)) ≡ everywhere g stop_one c
  gone t x hs l ls e h b z = let a = less g stop_one c t x hs l ls e h b in omega (arith, a, z)

  bid_told : (s : ℕ) (r : TurnReply) (v : World) → BidTurn g w s r v → v.end ≡ None → everywhere g stop_one (channels g v none_lost) ≡ stopped_shards g v
  bid_told s r v (BidTurn.barred h e1 e) none = rw e (told (sym (ap (λ (x : World). x.end) e) ∙ none))
  bid_told s r v (BidTurn.stops i rest y may why e1 e) none =
      let u : World = after_stop w s y in
      let o : Out = to_hub (Letter.Stop y) in
      let same = channels_other g (with_outbox w (PersonShard s) (o ∷ [])) u none_lost refl refl refl refl refl ∙ channels_sent g w none_lost (PersonShard s) (o ∷ []) may.known may.empty in
      let a = everywhere_sent g stop_one c s o (omega (arith, may.known)) tt in
      let b = total_put one_if w.has_stopped s true g.shards may.known in
      let d : one_if (w.has_stopped s) ≡ 0 = rw may.going in
      let f = told (sym (ap (λ (x : World). x.end) e) ∙ none) in
      let h = ap (everywhere g stop_one) same in
      rw e (omega (arith, a, b, d, f, h))
  bid_told s r v (BidTurn.bids i rest a amount may left best low e1 e) none =
      let u : World = after_bid g w s i rest a amount in
      let o : Out = bid_out g.shards (bid_of i a.arc a.object amount) in
      rw e (as_told u (send c s (o ∷ [])) (sym (ap (λ (x : World). x.end) e) ∙ none)
      (channels_other g (with_outbox w (PersonShard s) (o ∷ [])) u none_lost refl refl refl refl refl ∙ channels_sent g w none_lost (PersonShard s) (o ∷ []) may.known may.empty)
      refl (sent c s o (omega (arith, may.known)) (omega (arith, law.some_shards)) refl))

  tell_told : (q j s : ℕ) (r : TurnReply) (v : World) → TellTurn g w q j s r v → v.end ≡ None → everywhere g stop_one (channels g v none_lost) ≡ stopped_shards g v
  tell_told q j s r v (TellTurn.silent h e1 e) none = rw e (told (sym (ap (λ (x : World). x.end) e) ∙ none))
  tell_told q j s r v (TellTurn.tells h1 h2 h3 h4 h5 e1 e) none =
      let o : Out = price_told g.persons s j (w.price j) in
      let u : World = record w { object_out = put w.object_out q (o ∷ []) } in
      rw e (as_told u (send c (g.shards + q) (o ∷ [])) (sym (ap (λ (x : World). x.end) e) ∙ none)
      (channels_other g (with_outbox w (ObjectShard q) (o ∷ [])) u none_lost refl refl refl refl refl ∙ channels_sent g w none_lost (ObjectShard q) (o ∷ []) h1 h5)
      refl (sent c (g.shards + q) o (omega (arith, h1)) h2 refl))

  stopped_outbox : (u : World) (h : Shard) (os : List Out) → (with_outbox u h os).has_stopped ≡ u.has_stopped
  stopped_outbox u (PersonShard s) os = refl
  stopped_outbox u (ObjectShard q) os = refl

  stopped_mail : (u : World) (t : To) (m : Mail Letter) → (with_mail u t m).has_stopped ≡ u.has_stopped
  stopped_mail u (To.Person s) m = refl
  stopped_mail u (To.Object q) m = refl
  stopped_mail u To.Hub m = refl

  sender_in : (h : Shard) → number h < g.shards → sender g h < senders g
  sender_in (PersonShard s) l = omega (arith, l)
  sender_in (ObjectShard q) l = omega (arith, l)

  -- a Price is on a channel to a box that is there
  price_box : (t : To) (x : ℕ) (l : Letter) → is_price l ≡ true → Routed g t x l → IsBox g t × (stop_one l ≡ 0)
  price_box (To.Person s) x (Letter.Price j p) i r = (r.shard, refl)
  price_box (To.Object s) x (Letter.Price j p) i r = absurd r
  price_box To.Hub x (Letter.Price j p) i r = absurd r
  price_box t x (Letter.Award k j p) i r = absurd cc
  price_box t x (Letter.Refused k j p) i r = absurd cc
  price_box t x (Letter.Outbid k j p) i r = absurd cc
  price_box t x (Letter.Bid k a j p) i r = absurd cc
  price_box t x (Letter.First j) i r = absurd cc
  price_box t x (Letter.Stop y) i r = absurd cc

  -- each letter is on a channel to a box that is there
  pub its_box : (t : To) (x : ℕ) (l : Letter) → Routed g t x l → IsBox g t
  its_box To.Hub x l r = tt
  its_box (To.Person s) x (Letter.Award i j p) r = let e = r.shard in omega (arith, e, law.some_shards)
  its_box (To.Person s) x (Letter.Refused i j p) r = let e = r.shard in omega (arith, e, law.some_shards)
  its_box (To.Person s) x (Letter.Outbid i j p) r = let e = r.shard in omega (arith, e, law.some_shards)
  its_box (To.Person s) x (Letter.Price j p) r = r.shard
  its_box (To.Person s) x (Letter.Bid i a j p) r = absurd r
  its_box (To.Person s) x (Letter.First j) r = absurd r
  its_box (To.Person s) x (Letter.Stop y) r = absurd r
  its_box (To.Object q) x (Letter.Bid i a j p) r = let e = r.shard in omega (arith, e, law.some_shards)
  its_box (To.Object q) x (Letter.Award i j p) r = absurd r
  its_box (To.Object q) x (Letter.Refused i j p) r = absurd r
  its_box (To.Object q) x (Letter.Outbid i j p) r = absurd r
  its_box (To.Object q) x (Letter.Price j p) r = absurd r
  its_box (To.Object q) x (Letter.First j) r = absurd r
  its_box (To.Object q) x (Letter.Stop y) r = absurd r

  head_routed : (h : Shard) (o : Out) (rest : List Out) → MayPost g w h o rest → Routed g o.to (sender g h) o.letter
  head_routed h o rest may =
      routed_middle g (channels g w k.lost) k.inv.routed o.to (sender g h) (ahead g w h o rest may.known may.first k.lost) o.letter (letters_to o.to rest) (channel_full g w h o rest may.known may.first k.lost)

  post_told : (h : Shard) (r : TurnReply) (v : World) → PostTurn g w h r v → w.end ≡ None → v.end ≡ None → everywhere g stop_one (channels g v none_lost) ≡ stopped_shards g v
  post_told h r v (PostTurn.no_letter q e1 e) before none = rw e (told before)
  post_told h r v (PostTurn.posts o rest n m may p e1 e) before none =
      let u : World = with_outbox (with_mail w o.to m) h rest in
      rw e (as_told u c before
      (channels_posted g w h o rest may.known may.first n m (whole_of g w k.shapes o.to) p none_lost refl)
      (stopped_outbox (with_mail w o.to m) h rest ∙ stopped_mail w o.to m) refl)
  post_told h r v (PostTurn.meets_closed o rest may p e1 e) before none =
      absurd (let opened = yet before o.to (its_box o.to (sender g h) o.letter (head_routed h o rest may)) in let closed = p.closed in cc (opened, closed))
  post_told h r v (PostTurn.drops_price o rest y may p n i e1 e) before none =
      let a = price_box o.to (sender g h) o.letter i (head_routed h o rest may) in
      rw e (as_told (with_outbox w h rest) (set_channel c o.to (sender g h) (ahead g w h o rest may.known may.first none_lost ++ letters_to o.to rest)) before
      (channels_dropped g w h o rest may.known may.first none_lost) (stopped_outbox w h rest)
      (gone o.to (sender g h) (ahead g w h o rest may.known may.first none_lost) o.letter (letters_to o.to rest) (channel_full g w h o rest may.known may.first none_lost) (sender_in h may.known) a.0 a.1))
  post_told h r v (PostTurn.keeps_letter o rest y may p n i e1 e) before none = set_never w.end (End.Stopped (reason y)) (sym (ap (λ (x : World). x.end) e) ∙ none)

  -- a letter that is no Stop is taken, and the mails and outboxes are as u has them
  took : (t : To) (x n : ℕ) (l : Letter) (m : Mail Letter) (u : World) → Takes (mail_of w t) (box_of t) x n l m → x < senders g → IsBox g t → stop_one l ≡ 0 → w.end ≡ None
      → SameMails (with_mail w t m) u → u.person_out ≡ (with_mail w t m).person_out → u.object_out ≡ (with_mail w t m).object_out → u.has_stopped ≡ w.has_stopped
      → everywhere g stop_one (channels g u none_lost) ≡ stopped_shards g u
  took t x n l m u p h b z before same e4 e5 stops =
      let whole = whole_of g w k.shapes t in
      let left = left_behind g w none_lost t x n l m whole p in
      as_told u (set_channel c t x left) before
      (channels_other g (with_mail w t m) u none_lost same.objects same.persons same.hub e4 e5 ∙ channels_taken g w none_lost t x n l m whole p) stops
      (gone t x [] l left (channel_taken g w none_lost t x n l m whole p) h b z)

  -- the sender of the letter is a sender of the mail
  taker : (t : To) (x n : ℕ) (l : Letter) (m : Mail Letter) → Takes (mail_of w t) (box_of t) x n l m → x < senders g
  taker t x n l m p = rw (shape_of g w k.shapes t).senders_are at p.sender

  person_take_told : (s : ℕ) (r : TurnReply) (v : World) → PersonTakeTurn g w s r v → w.end ≡ None → v.end ≡ None → everywhere g stop_one (channels g v none_lost) ≡ stopped_shards g v
  person_take_told s r v (PersonTakeTurn.no_letter h e1 e) before none = rw e (told before)
  person_take_told s r v (PersonTakeTurn.hears x n l m h1 t fits low e1 e) before none = rw e (by l t fits)
    where
      at : (l : Letter) (u : World) → Takes w.persons_mail s x n l m → stop_one l ≡ 0 → SameMails (with_mail w (To.Person s) m) u → u.person_out ≡ w.person_out → u.object_out ≡ w.object_out → u.has_stopped ≡ w.has_stopped
          → everywhere g stop_one (channels g u none_lost) ≡ stopped_shards g u
      at l u p z same e4 e5 stops = took (To.Person s) x n l m u p (taker (To.Person s) x n l m p) h1 z before same e4 e5 stops

      by : (l : Letter) → Takes w.persons_mail s x n l m → FitsLetter g w s l → everywhere g stop_one (channels g (after_letter (record w { persons_mail = m }) s l) none_lost) ≡ stopped_shards g (after_letter (record w { persons_mail = m }) s l)
      by (Letter.Award i j q) p f = at (Letter.Award i j q) (held_after (record w { persons_mail = m }) s i j q) p refl (record { objects = refl; persons = refl; hub = refl }) refl refl refl
      by (Letter.Refused i j q) p f = at (Letter.Refused i j q) (free_after (record w { persons_mail = m }) s i j q) p refl (record { objects = refl; persons = refl; hub = refl }) refl refl refl
      by (Letter.Outbid i j q) p f = at (Letter.Outbid i j q) (free_after (record w { persons_mail = m }) s i j q) p refl (record { objects = refl; persons = refl; hub = refl }) refl refl refl
      by (Letter.Price j q) p f = at (Letter.Price j q) (record w { persons_mail = m; copy = put2 w.copy s j q }) p refl (record { objects = refl; persons = refl; hub = refl }) refl refl refl
      by (Letter.Bid i a j q) p f = absurd f
      by (Letter.First j) p f = absurd f
      by (Letter.Stop y) p f = absurd f
  person_take_told s r v (PersonTakeTurn.strays x n l m h1 t bad e1 e) before none = set_never w.end (End.Stopped Why.Stray) (sym (ap (λ (x : World). x.end) e) ∙ none)
  person_take_told s r v (PersonTakeTurn.falls x n l m h1 t fits low e1 e) before none = set_never w.end (End.Stopped Why.Fell) (sym (ap (λ (x : World). x.end) e) ∙ none)

  sent_two : (d : Channels) (x : ℕ) (o p : Out) → x < senders g → IsBox g o.to → IsBox g p.to → stop_one o.letter ≡ 0 → stop_one p.letter ≡ 0 → everywhere g stop_one (send d x (o ∷ p ∷ [])) ≡ everywhere g stop_one d
  sent_two d x o p h b1 b2 z1 z2 = ap (everywhere g stop_one) (send_two d x o p) ∙ (sent (send d x (o ∷ [])) x p h b2 z2 ∙ sent d x o h b1 z1)

  -- a bid is taken, and letters that are no Stops answer it
  dealt : (q x n : ℕ) (l : Letter) (m : Mail Letter) (u : World) (outs : List Out) → q < g.shards → w.object_out q ≡ [] → Takes w.objects_mail q x n l m → stop_one l ≡ 0 → w.end ≡ None
      → SameMails (with_mail w (To.Object q) m) u → u.person_out ≡ w.person_out → u.object_out ≡ put w.object_out q outs → u.has_stopped ≡ w.has_stopped
      → ((d : Channels) → everywhere g stop_one (send d (g.shards + q) outs) ≡ everywhere g stop_one d)
      → everywhere g stop_one (channels g u none_lost) ≡ stopped_shards g u
  dealt q x n l m u outs h1 h2 p z before same e4 e5 stops answers =
      let b : World = with_mail w (To.Object q) m in
      let whole = whole_of g w k.shapes (To.Object q) in
      let left = left_behind g w none_lost (To.Object q) x n l m whole p in
      let d : Channels = set_channel c (To.Object q) x left in
      as_told u (send d (g.shards + q) outs) before
      (channels_other g (with_outbox b (ObjectShard q) outs) u none_lost same.objects same.persons same.hub e4 e5
      ∙ (channels_sent g b none_lost (ObjectShard q) outs h1 h2 ∙ ap (λ (d : Channels). send d (g.shards + q) outs) (channels_taken g w none_lost (To.Object q) x n l m whole p))) stops
      (answers d ∙ gone (To.Object q) x [] l left (channel_taken g w none_lost (To.Object q) x n l m whole p) (taker (To.Object q) x n l m p) h1 z)

  awards_told : (o : Option Held) (i j : ℕ) (p : ℤ) (q : ℕ) → q < g.shards → (d : Channels) → everywhere g stop_one (send d (g.shards + q) (awards g.shards o i j p)) ≡ everywhere g stop_one d
  awards_told None i j p q h d = sent_two d (g.shards + q) (to_person g.shards i (Letter.Award i j p)) (to_hub (Letter.First j)) (omega (arith, h)) (omega (arith, law.some_shards)) tt refl refl
  awards_told (Some old) i j p q h d =
      sent_two d (g.shards + q) (to_person g.shards old.person (Letter.Outbid old.person j p)) (to_person g.shards i (Letter.Award i j p)) (omega (arith, h)) (omega (arith, law.some_shards)) (omega (arith, law.some_shards)) refl refl

  object_take_told : (q : ℕ) (r : TurnReply) (v : World) → TakesBid g w q r v → w.end ≡ None → v.end ≡ None → everywhere g stop_one (channels g v none_lost) ≡ stopped_shards g v
  object_take_told q r v (TakesBid.no_letter h e1 e) before none = rw e (told before)
  object_take_told q r v (TakesBid.accepts x n i a j amount m h1 h2 t fits enough e1 e) before none =
      let outs : List Out = awards g.shards (w.holder j) i j amount in
      rw e (dealt q x n (Letter.Bid i a j amount) m (sold w q m j amount (record { person = i; arc = a }) outs) outs h1 h2 t refl before
      (record { objects = refl; persons = refl; hub = refl }) refl refl refl (awards_told (w.holder j) i j amount q h1))
  object_take_told q r v (TakesBid.declines x n i a j amount m h1 h2 t fits low e1 e) before none =
      let outs : List Out = refusal g.shards i j (w.price j) in
      rw e (dealt q x n (Letter.Bid i a j amount) m (record w { objects_mail = m; object_out = put w.object_out q outs }) outs h1 h2 t refl before
      (record { objects = refl; persons = refl; hub = refl }) refl refl refl
      (λ d. sent d (g.shards + q) (to_person g.shards i (Letter.Refused i j (w.price j))) (omega (arith, h1)) (omega (arith, law.some_shards)) refl))
  object_take_told q r v (TakesBid.strays x n l m h1 h2 t bad e1 e) before none = set_never w.end (End.Stopped Why.Stray) (sym (ap (λ (x : World). x.end) e) ∙ none)

  hub_told : (x n : ℕ) (l : Letter) (m : Mail Letter) → Takes w.hub_mail 0 x n l m → w.end ≡ None → (hub_after g l (record w { hub_mail = m })).end ≡ None
      → everywhere g stop_one (channels g (hub_after g l (record w { hub_mail = m })) none_lost) ≡ stopped_shards g (hub_after g l (record w { hub_mail = m }))
  hub_told x n (Letter.First j) m t before none =
      let b : World = record w { hub_mail = m } in
      let u : World = record b { count = w.count + 1; end = if (w.count + 1) == g.persons then first_end w.end End.All else w.end } in
      cond_both (nat_lt w.count g.persons) u b (λ (z : World). everywhere g stop_one (channels g z none_lost) ≡ stopped_shards g z)
      (λ f. took To.Hub x n (Letter.First j) m u t (taker To.Hub x n (Letter.First j) m t) tt refl before (record { objects = refl; persons = refl; hub = refl }) refl refl refl)
      (λ f. took To.Hub x n (Letter.First j) m b t (taker To.Hub x n (Letter.First j) m t) tt refl before (record { objects = refl; persons = refl; hub = refl }) refl refl refl)
  hub_told x n (Letter.Stop y) m t before none = set_never w.end (End.Stopped y) none
  hub_told x n (Letter.Bid i a j p) m t before none = set_never w.end (End.Stopped Why.Stray) none
  hub_told x n (Letter.Award i j p) m t before none = set_never w.end (End.Stopped Why.Stray) none
  hub_told x n (Letter.Refused i j p) m t before none = set_never w.end (End.Stopped Why.Stray) none
  hub_told x n (Letter.Outbid i j p) m t before none = set_never w.end (End.Stopped Why.Stray) none
  hub_told x n (Letter.Price j p) m t before none = set_never w.end (End.Stopped Why.Stray) none

  told_by : (t : Turn) (r : TurnReply) (v : World) → Turned g w t r v → w.end ≡ None → v.end ≡ None → everywhere g stop_one (channels g v none_lost) ≡ stopped_shards g v
  told_by (Turn.Bid s) r v h before none = bid_told s r v h none
  told_by (Turn.PersonPost s) r v h before none = post_told (PersonShard s) r v h before none
  told_by (Turn.ObjectPost q) r v h before none = post_told (ObjectShard q) r v h before none
  told_by (Turn.PersonTake s) r v h before none = person_take_told s r v h before none
  told_by (Turn.ObjectTake q) r v h before none = object_take_told q r v (by_cases g w q r v h) before none
  told_by (Turn.Tell q j s) r v h before none = tell_told q j s r v h none
  told_by Turn.HubTake r v (HubTakeTurn.no_letter h e1 e) before none = rw e (told before)
  told_by Turn.HubTake r v (HubTakeTurn.takes x n l m t e1 e) before none = rw e (hub_told x n l m t before (sym (ap (λ (x : World). x.end) e) ∙ none))
  told_by (Turn.HubClose name b) r v (HubCloseTurn.leaves h e1 e) before none = rw e (told before)
  told_by (Turn.HubClose name b) r v (HubCloseTurn.closes m h1 h2 h3 e1 e) before none = absurd (h2 before)

  pub told_turn : (t : Turn) (r : TurnReply) (v : World) → Turned g w t r v → StopsTold g v
  told_turn t r v h none = told_by t r v h (end_back g w v (turn_end g w t r v h) none) none

-- what the laws on a still world rest on, over every schedule
pub record Going (g : Phase) (w : World) : Type 0 where
  pub kept : Kept g w
  pub yet : OpenYet g w
  pub told : StopsTold g w

pub going_schedule : (g : Phase) (w : World) (ts : List Turn) (v : World) → Lawful g → Schedule g w ts v → Going g w → Going g v
going_schedule g w [] v law e k = rw e k
going_schedule g w (t ∷ ts) v law h k =
    going_schedule g h.mid ts v law h.rest (record {
      kept = kept_turn g w law k.kept t h.reply h.mid h.turned;
      yet = open_turn g w t h.reply h.mid h.turned k.yet;
      told = told_turn g w law k.kept k.yet k.told t h.reply h.mid h.turned;
    })
