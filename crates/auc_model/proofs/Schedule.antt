-- Every turn keeps the invariants, and so does every schedule.
use Rattle.std.proofs.Common.{ℕ, ℤ, ◌≤ℤ◌, ◌+◌, ◌<◌, ◌≡◌, refl, arith, List, [], ◌∷◌, ◌++◌, Option, Some, None, ap, sym, ◌∙◌, subst}
use Rattle.std.specs.Prelude.{if◌then◌else◌, ◌==◌, nat_lt}
use Rattle.std.proofs.lemmas.Bool.{cond_both, ltb-false}
use Rattle.std.proofs.lemmas.Int.{ints}
use Rattle.auc_letters.specs.Award.{awards, least_amount, refusal, bid_of, bid_out}
use Rattle.auc_letters.specs.Routing.{price_told, to_hub}
use Rattle.auc_letters.specs.declared.letter.Letter.{Letter}
use Rattle.auc_letters.specs.declared.letter.Why.{Why}
use Rattle.auc_letters.specs.declared.out.Out.{Out}
use Rattle.auc_letters.specs.declared.out.To.{To}
use Rattle.auc_letters.specs.declared.state.Held.{Held}
use Rattle.auc_mail.specs.Mail.{HasBox, Lane, Mail, is_open, lane_behind, lane_of, with_closed, with_lane}
use Rattle.auc_mail.specs.declared.call.Call.{Call}
use Rattle.auc_mail.specs.declared.call.PostRefused.{PostRefused}
use Rattle.auc_mail.specs.declared.call.Reply.{Reply}
use Rattle.auc_mail.specs.declared.call.Taken.{Taken}
use Rattle.auc_model.specs.Bidding.{BidTurn, after_bid, after_stop}
use Rattle.auc_model.specs.Counts.{Counts}
use Rattle.auc_model.specs.SlackBids.{SlackLetter}
use Rattle.auc_model.specs.Hearing.{Falls, FitsLetter, PersonTakeTurn, after_letter, free_after, held_after}
use Rattle.auc_model.specs.Hub.{HubCloseTurn, HubTakeTurn, hub_after}
use Rattle.auc_model.specs.Invariants.{Inv, Kept, Open, Shapes, Sound}
use Rattle.auc_model.specs.Letters.{letters_to}
use Rattle.auc_model.specs.Mails.{ObjectShard, PersonShard, Shard, Takes, box_of, mail_named, mail_of, sender, with_mail, with_mail_named, with_outbox}
use Rattle.auc_model.specs.Places.{Answer}
use Rattle.auc_model.specs.Posting.{PostTurn, reason}
use Rattle.auc_model.specs.Put.{put, put2}
use Rattle.auc_model.specs.Schedule.{Schedule, Turned}
use Rattle.auc_model.specs.Selling.{TellTurn}
use Rattle.auc_model.proofs.Selling.{TakesBid, by_cases, sold}
use Rattle.auc_model.specs.Start.{Lawful}
use Rattle.auc_model.specs.Channels.{Lost, Routed, Channels, send, set_channel, channels}
use Rattle.auc_model.specs.World.{Phase, World, ended, first_end, senders}
use Rattle.auc_model.specs.declared.turn.End.{End}
use Rattle.auc_model.specs.declared.turn.MailName.{MailName}
use Rattle.auc_model.specs.declared.turn.Turn.{Turn}
use Rattle.auc_model.specs.declared.turn.TurnReply.{TurnReply}
use Rattle.auc_model.proofs.Bounds.{firsts_le}
use Rattle.auc_model.proofs.Closing.{open_by, open_more, opens_before, opens_outbox, opens_same, opens_set, shapes_named, shapes_outbox, shapes_same, shapes_step, channels_close, whole_of}
use Rattle.auc_model.proofs.CountSteps.{Plus, counts_first_gone, counts_same, counts_stop_gone, plus_gone}
use Rattle.auc_model.proofs.PlaceSteps.{Unseen, place_kept, place_taken}
use Rattle.auc_model.proofs.Places.{put_self}
use Rattle.auc_model.proofs.PriceSteps.{Priceless, price_kept, price_taken}
use Rattle.auc_model.proofs.Routes.{routed_first, routed_popped}
use Rattle.auc_model.proofs.Slack.{all_gone}
use Rattle.auc_model.proofs.Takes.{bid_letter_fits, inv_declines, inv_drops, inv_first, inv_hears, inv_learns, inv_passes, letter_fits, letter_no_less}
use Rattle.auc_model.proofs.Turns.{inv_bids, inv_stops, inv_tells, channels_other}
use Rattle.auc_model.proofs.Channels.{ahead, left_behind, lost_more, channel_full, channel_taken, channels_closed, channels_dropped, channels_posted, channels_sent, channels_taken}

-- the tables alone: what an invariant reads beside the channels
record SameTables (w v : World) : Type 0 where
  price : v.price ≡ w.price
  copy : v.copy ≡ w.copy
  state : v.state ≡ w.state
  holder : v.holder ≡ w.holder
  idle : v.idle ≡ w.idle

inv_same : (g : Phase) (w v : World) (c : Channels) → SameTables w v → v.count ≡ w.count → Sound g v.end → Inv g w c → Inv g v c
inv_same g w v c e n sound inv =
    record {
      routed = inv.routed;
      never_falls = price_kept g w v c e.price e.copy inv.never_falls;
      in_place = place_kept g w v c e.state e.holder inv.in_place;
      price_range = rw e.price inv.price_range;
      copy_range = rw e.copy inv.copy_range;
      idle_is = rw (e.idle, e.state) inv.idle_is;
      holder_range = rw e.holder inv.holder_range;
      slack_letters = rw e.price inv.slack_letters;
      slack_holders = rw (e.holder, e.price) inv.slack_holders;
      counts = counts_same g w v c c inv.counts e.state e.holder n refl;
      sound = sound;
    }

same_with_mail : (w : World) (t : To) (m : Mail Letter) → SameTables w (with_mail w t m)
same_with_mail w (To.Person s) m = record { price = refl; copy = refl; state = refl; holder = refl; idle = refl }
same_with_mail w (To.Object s) m = record { price = refl; copy = refl; state = refl; holder = refl; idle = refl }
same_with_mail w To.Hub m = record { price = refl; copy = refl; state = refl; holder = refl; idle = refl }

same_with_outbox : (w : World) (h : Shard) (os : List Out) → SameTables w (with_outbox w h os)
same_with_outbox w (PersonShard s) os = record { price = refl; copy = refl; state = refl; holder = refl; idle = refl }
same_with_outbox w (ObjectShard s) os = record { price = refl; copy = refl; state = refl; holder = refl; idle = refl }

pub end_with_mail : (w : World) (t : To) (m : Mail Letter) → (with_mail w t m).end ≡ w.end
end_with_mail w (To.Person s) m = refl
end_with_mail w (To.Object s) m = refl
end_with_mail w To.Hub m = refl

pub end_with_outbox : (w : World) (h : Shard) (os : List Out) → (with_outbox w h os).end ≡ w.end
end_with_outbox w (PersonShard s) os = refl
end_with_outbox w (ObjectShard s) os = refl

pub count_with_mail : (w : World) (t : To) (m : Mail Letter) → (with_mail w t m).count ≡ w.count
count_with_mail w (To.Person s) m = refl
count_with_mail w (To.Object s) m = refl
count_with_mail w To.Hub m = refl

pub count_with_outbox : (w : World) (h : Shard) (os : List Out) → (with_outbox w h os).count ≡ w.count
count_with_outbox w (PersonShard s) os = refl
count_with_outbox w (ObjectShard s) os = refl

-- a cause that is no guard
sound_ended : (g : Phase) (d : Option End) (y : Why) → Sound g (Some (End.Stopped y)) → Sound g d → Sound g (first_end d (End.Stopped y))
sound_ended g None y h s = h
sound_ended g (Some e) y h s = s

module _ (g : Phase) (w : World) (law : Lawful g) (k : Kept g w) where
  abbrev c : Channels
  c = channels g w k.lost

  -- from one form of the new channels to the other
  kept_by : (v : World) → Shapes g v → (lost : Lost) (d : Channels) → Open v lost → channels g v lost ≡ d → Inv g v d → Kept g v
  kept_by v shapes lost d o e inv = record { shapes = shapes; lost = lost; only_closed = o; inv = subst (λ (x : Channels). Inv g v x) (sym e) inv }

  -- the shapes of the mails, where none of them changes
  kept_shapes : (v : World) → v.objects_mail ≡ w.objects_mail → v.persons_mail ≡ w.persons_mail → v.hub_mail ≡ w.hub_mail → Shapes g v
  kept_shapes v e1 e2 e3 = shapes_same g w k.shapes v e1 e2 e3

  kept_bid : (s : ℕ) (r : TurnReply) (v : World) → BidTurn g w s r v → Kept g v
  kept_bid s r v (BidTurn.barred h e1 e) = rw e k
  kept_bid s r v (BidTurn.stops i rest y may why e1 e) =
      let u : World = after_stop w s y in
      let o : Out = to_hub (Letter.Stop y) in
      rw e
      (kept_by u (kept_shapes u refl refl refl) k.lost (send c s (o ∷ []))
      (open_by w u k.lost (λ t q. sym (opens_same w u refl refl refl t) ∙ q) k.only_closed)
      (channels_other g (with_outbox w (PersonShard s) (o ∷ [])) u k.lost refl refl refl refl refl ∙ channels_sent g w k.lost (PersonShard s) (o ∷ []) may.known may.empty)
      (inv_stops g w c law k.inv s i rest y why may.known may.first))
  kept_bid s r v (BidTurn.bids i rest a amount may left best low e1 e) =
      let u : World = after_bid g w s i rest a amount in
      let o : Out = bid_out g.shards (bid_of i a.arc a.object amount) in
      rw e
      (kept_by u (kept_shapes u refl refl refl) k.lost (send c s (o ∷ []))
      (open_by w u k.lost (λ t q. sym (opens_same w u refl refl refl t) ∙ q) k.only_closed)
      (channels_other g (with_outbox w (PersonShard s) (o ∷ [])) u k.lost refl refl refl refl refl ∙ channels_sent g w k.lost (PersonShard s) (o ∷ []) may.known may.empty)
      (inv_bids g w c law k.inv s i rest a amount may.first best low))

  kept_tell : (q j s : ℕ) (r : TurnReply) (v : World) → TellTurn g w q j s r v → Kept g v
  kept_tell q j s r v (TellTurn.silent h e1 e) = rw e k
  kept_tell q j s r v (TellTurn.tells h1 h2 h3 h4 h5 e1 e) =
      let o : Out = price_told g.persons s j (w.price j) in
      let u : World = record w { object_out = put w.object_out q (o ∷ []) } in
      rw e
      (kept_by u (kept_shapes u refl refl refl) k.lost (send c (g.shards + q) (o ∷ []))
      (open_by w u k.lost (λ t z. sym (opens_same w u refl refl refl t) ∙ z) k.only_closed)
      (channels_other g (with_outbox w (ObjectShard q) (o ∷ [])) u k.lost refl refl refl refl refl ∙ channels_sent g w k.lost (ObjectShard q) (o ∷ []) h1 h5)
      (inv_tells g w c law k.inv q j s h3 h4 h2))

  sound_reason : (y : PostRefused) → Sound g (Some (End.Stopped (reason y)))
  sound_reason PostRefused.Closed = tt
  sound_reason PostRefused.Spent = tt
  sound_reason PostRefused.Full = tt

  same_ended : (y : Why) → SameTables w (ended w y)
  same_ended y = record { price = refl; copy = refl; state = refl; holder = refl; idle = refl }

  -- the outbox alone changes
  kept_outbox : (h : Shard) (os : List Out) (lost : Lost) (d : Channels) → Open w lost → channels g (with_outbox w h os) lost ≡ d → Inv g w d → Kept g (with_outbox w h os)
  kept_outbox h os lost d o e inv =
      kept_by (with_outbox w h os) (shapes_outbox g w h os k.shapes) lost d
      (open_by w (with_outbox w h os) lost (λ t z. sym (opens_outbox w h os t) ∙ z) o) e
      (inv_same g w (with_outbox w h os) d (same_with_outbox w h os) (count_with_outbox w h os) (rw (end_with_outbox w h os) inv.sound) inv)

  posted_open : (h : Shard) (o : Out) (rest : List Out) (m : Mail Letter) (l : Lane Letter) → m ≡ with_lane (mail_of w o.to) (box_of o.to) (sender g h) l
      → Open (with_outbox (with_mail w o.to m) h rest) k.lost
  posted_open h o rest m l e =
      open_by w (with_outbox (with_mail w o.to m) h rest) k.lost
      (λ t z. sym (opens_set w o.to (sender g h) l t) ∙ (rw e at (sym (opens_outbox (with_mail w o.to m) h rest t) ∙ z))) k.only_closed

  posted_inv : (h : Shard) (o : Out) (rest : List Out) (m : Mail Letter) → Inv g (with_outbox (with_mail w o.to m) h rest) c
  posted_inv h o rest m =
      let u : World = with_mail w o.to m in
      let i : Inv g u c = inv_same g w u c (same_with_mail w o.to m) (count_with_mail w o.to m) (rw (end_with_mail w o.to m) k.inv.sound) k.inv in
      inv_same g u (with_outbox u h rest) c (same_with_outbox u h rest) (count_with_outbox u h rest) (rw (end_with_outbox u h rest) i.sound) i

  kept_post : (h : Shard) (r : TurnReply) (v : World) → PostTurn g w h r v → Kept g v
  kept_post h r v (PostTurn.no_letter q e1 e) = rw e k
  kept_post h r v (PostTurn.posts o rest n m may p e1 e) =
      let u : World = with_outbox (with_mail w o.to m) h rest in
      let post : Call Letter = Call.Post (sender g h) (box_of o.to) o.letter o.reserve in
      rw e
      (kept_by u (shapes_outbox g (with_mail w o.to m) h rest (shapes_step g w k.shapes o.to m post (Reply.Posted n) p)) k.lost c
      (posted_open h o rest m (lane_behind (lane_of (mail_of w o.to) (box_of o.to) (sender g h)) o.letter) p.next)
      (channels_posted g w h o rest may.known may.first n m (whole_of g w k.shapes o.to) p k.lost (k.only_closed o.to (sender g h) p.accepts))
      (posted_inv h o rest m))
  kept_post h r v (PostTurn.meets_closed o rest may p e1 e) =
      rw e (kept_outbox h rest (lost_more g w h o rest may.known may.first k.lost) c
      (open_more w o.to (sender g h) (k.lost o.to (sender g h) ++ o.letter ∷ []) k.lost p.closed k.only_closed)
      (channels_closed g w h o rest may.known may.first k.lost) k.inv)
  kept_post h r v (PostTurn.drops_price o rest y may p n i e1 e) =
      rw e (kept_outbox h rest k.lost (set_channel c o.to (sender g h) (ahead g w h o rest may.known may.first k.lost ++ letters_to o.to rest)) k.only_closed
      (channels_dropped g w h o rest may.known may.first k.lost)
      (inv_drops g w c law k.inv o.to (sender g h) (ahead g w h o rest may.known may.first k.lost) o.letter (letters_to o.to rest) (channel_full g w h o rest may.known may.first k.lost) i))
  kept_post h r v (PostTurn.keeps_letter o rest y may p n i e1 e) =
      let u : World = ended w (reason y) in
      rw e
      (kept_by u (kept_shapes u refl refl refl) k.lost c
      (open_by w u k.lost (λ t z. sym (opens_same w u refl refl refl t) ∙ z) k.only_closed)
      (channels_other g w u k.lost refl refl refl refl refl)
      (inv_same g w u c (same_ended (reason y)) refl (sound_ended g w.end (reason y) (sound_reason y) k.inv.sound) k.inv))

  -- a take from one of the mails, and the place of its letters
  taken_open : (t : To) (x n : ℕ) (l : Letter) (m : Mail Letter) → Takes (mail_of w t) (box_of t) x n l m → Open (with_mail w t m) k.lost
  taken_open t x n l m p =
      open_by w (with_mail w t m) k.lost (λ u z. sym (opens_set w t x (record { taken = n; waiting = p.rest }) u) ∙ (rw p.next at z)) k.only_closed

  taken_shapes : (t : To) (x n : ℕ) (l : Letter) (m : Mail Letter) → Takes (mail_of w t) (box_of t) x n l m → Shapes g (with_mail w t m)
  taken_shapes t x n l m p = shapes_step g w k.shapes t m (Call.Take (box_of t)) (Reply.Took (Taken.Letter x n l)) p

  module _ (s x n : ℕ) (l : Letter) (m : Mail Letter) (t : Takes w.persons_mail s x n l m) where
    abbrev heard_left : List Letter
    heard_left = left_behind g w k.lost (To.Person s) x n l m (whole_of g w k.shapes (To.Person s)) t

    pub heard_head : c (To.Person s) x ≡ l ∷ heard_left
    heard_head = channel_taken g w k.lost (To.Person s) x n l m (whole_of g w k.shapes (To.Person s)) t

    -- what is left to show of the world after: its tables
    kept_heard : (u : World) → u.objects_mail ≡ w.objects_mail → u.persons_mail ≡ m → u.hub_mail ≡ w.hub_mail → u.person_out ≡ w.person_out → u.object_out ≡ w.object_out
        → Inv g u (set_channel c (To.Person s) x heard_left) → Kept g u
    kept_heard u e1 e2 e3 e4 e5 inv =
        let b : World = with_mail w (To.Person s) m in
        kept_by u (shapes_same g b (taken_shapes (To.Person s) x n l m t) u e1 e2 e3) k.lost (set_channel c (To.Person s) x heard_left)
        (open_by b u k.lost (λ y z. sym (opens_same b u e1 e2 e3 y) ∙ z) (taken_open (To.Person s) x n l m t))
        (channels_other g b u k.lost e1 e2 e3 e4 e5 ∙ channels_taken g w k.lost (To.Person s) x n l m (whole_of g w k.shapes (To.Person s)) t)
        inv

  -- a letter that fits, by its kind
  kept_hears : (s x n : ℕ) (l : Letter) (m : Mail Letter) → Takes w.persons_mail s x n l m → FitsLetter g w s l → Kept g (after_letter (record w { persons_mail = m }) s l)
  kept_hears s x n (Letter.Award i j p) m t fits =
      let l : Letter = Letter.Award i j p in
      let u : World = held_after (record w { persons_mail = m }) s i j p in
      let h : Kept g (record u { idle = put w.idle s (w.idle s) }) =
      kept_heard s x n l m t (record u { idle = put w.idle s (w.idle s) }) refl refl refl refl refl
      (inv_hears g w c law k.inv s x l (heard_left s x n l m t) m Answer.Award i j p (heard_head s x n l m t) refl) in
      subst (λ (f : ℕ → List ℕ). Kept g (record u { idle = f })) (put_self w.idle s) h
  kept_hears s x n (Letter.Refused i j p) m t fits =
      let l : Letter = Letter.Refused i j p in
      kept_heard s x n l m t (free_after (record w { persons_mail = m }) s i j p) refl refl refl refl refl
      (inv_hears g w c law k.inv s x l (heard_left s x n l m t) m Answer.Refused i j p (heard_head s x n l m t) refl)
  kept_hears s x n (Letter.Outbid i j p) m t fits =
      let l : Letter = Letter.Outbid i j p in
      kept_heard s x n l m t (free_after (record w { persons_mail = m }) s i j p) refl refl refl refl refl
      (inv_hears g w c law k.inv s x l (heard_left s x n l m t) m Answer.Outbid i j p (heard_head s x n l m t) refl)
  kept_hears s x n (Letter.Price j p) m t fits =
      let l : Letter = Letter.Price j p in
      kept_heard s x n l m t (record w { persons_mail = m; copy = put2 w.copy s j p }) refl refl refl refl refl
      (inv_learns g w c law k.inv s x (heard_left s x n l m t) m j p (heard_head s x n l m t))
  kept_hears s x n (Letter.Bid i a j p) m t fits = absurd fits
  kept_hears s x n (Letter.First j) m t fits = absurd fits
  kept_hears s x n (Letter.Stop y) m t fits = absurd fits

  -- the price of a letter that is taken is no less than the copy
  pub falls_never : (s x : ℕ) (l : Letter) (ls : List Letter) → c (To.Person s) x ≡ l ∷ ls → Falls w s l → ⊥
  falls_never s x (Letter.Award i j p) ls e f = let n = letter_no_less g w c law k.inv s x (Letter.Award i j p) ls j p e refl in absurd (omega (arith, ints))
  falls_never s x (Letter.Refused i j p) ls e f = let n = letter_no_less g w c law k.inv s x (Letter.Refused i j p) ls j p e refl in absurd (omega (arith, ints))
  falls_never s x (Letter.Outbid i j p) ls e f = let n = letter_no_less g w c law k.inv s x (Letter.Outbid i j p) ls j p e refl in absurd (omega (arith, ints))
  falls_never s x (Letter.Price j p) ls e f = let n = letter_no_less g w c law k.inv s x (Letter.Price j p) ls j p e refl in absurd (omega (arith, ints))
  falls_never s x (Letter.Bid i a j p) ls e f = f
  falls_never s x (Letter.First j) ls e f = f
  falls_never s x (Letter.Stop y) ls e f = f

  kept_person_take : (s : ℕ) (r : TurnReply) (v : World) → PersonTakeTurn g w s r v → Kept g v
  kept_person_take s r v (PersonTakeTurn.no_letter h e1 e) = rw e k
  kept_person_take s r v (PersonTakeTurn.hears x n l m h1 t fits rises e1 e) = rw e (kept_hears s x n l m t fits)
  kept_person_take s r v (PersonTakeTurn.strays x n l m h1 t bad e1 e) =
      absurd (bad (letter_fits g w c law k.inv s x l (heard_left s x n l m t) (heard_head s x n l m t)))
  kept_person_take s r v (PersonTakeTurn.falls x n l m h1 t fits f e1 e) =
      absurd (falls_never s x l (heard_left s x n l m t) (heard_head s x n l m t) f)

  module _ (q x n : ℕ) (l : Letter) (m : Mail Letter) (h1 : q < g.shards) (h2 : w.object_out q ≡ []) (t : Takes w.objects_mail q x n l m) where
    abbrev bids_left_behind : List Letter
    bids_left_behind = left_behind g w k.lost (To.Object q) x n l m (whole_of g w k.shapes (To.Object q)) t

    bid_head : c (To.Object q) x ≡ l ∷ bids_left_behind
    bid_head = channel_taken g w k.lost (To.Object q) x n l m (whole_of g w k.shapes (To.Object q)) t

    -- what is left to show of the world after, whose outbox is filled: its tables
    kept_dealt : (u : World) (outs : List Out) → u.objects_mail ≡ m → u.persons_mail ≡ w.persons_mail → u.hub_mail ≡ w.hub_mail → u.person_out ≡ w.person_out → u.object_out ≡ put w.object_out q outs
        → Inv g u (send (set_channel c (To.Object q) x bids_left_behind) (g.shards + q) outs) → Kept g u
    kept_dealt u outs e1 e2 e3 e4 e5 inv =
        let b : World = with_mail w (To.Object q) m in
        kept_by u (shapes_same g b (taken_shapes (To.Object q) x n l m t) u e1 e2 e3) k.lost (send (set_channel c (To.Object q) x bids_left_behind) (g.shards + q) outs)
        (open_by b u k.lost (λ y z. sym (opens_same b u e1 e2 e3 y) ∙ z) (taken_open (To.Object q) x n l m t))
        (channels_other g (with_outbox b (ObjectShard q) outs) u k.lost e1 e2 e3 e4 e5
        ∙ (channels_sent g b k.lost (ObjectShard q) outs h1 h2 ∙ ap (λ (d : Channels). send d (g.shards + q) outs) (channels_taken g w k.lost (To.Object q) x n l m (whole_of g w k.shapes (To.Object q)) t)))
        inv

  -- an accepted bid, by the holder of the object before it
  module _ (q x n i a j : ℕ) (amount : ℤ) (m : Mail Letter) (h1 : q < g.shards) (h2 : w.object_out q ≡ []) (t : Takes w.objects_mail q x n (Letter.Bid i a j amount) m) (enough : least_amount (w.price j) g.eps ≤ℤ amount) where
    abbrev ls : List Letter
    ls = bids_left_behind q x n (Letter.Bid i a j amount) m h1 h2 t

    abbrev accepted : List Out → World
    accepted outs = sold w q m j amount (record { person = i; arc = a }) outs

    done : (outs : List Out) → Inv g (accepted outs) (send (set_channel c (To.Object q) x ls) (g.shards + q) outs) → Kept g (accepted outs)
    done outs inv = kept_dealt q x n (Letter.Bid i a j amount) m h1 h2 t (accepted outs) outs refl refl refl refl refl inv

    by_holder : (h : Option Held) → w.holder j ≡ h → Kept g (accepted (awards g.shards (w.holder j) i j amount))
    by_holder None e = rw e (done (awards g.shards None i j amount) (inv_first g w c law k.inv q x ls m i a j amount (bid_head q x n (Letter.Bid i a j amount) m h1 h2 t) enough e))
    by_holder (Some old) e = rw e (done (awards g.shards (Some old) i j amount) (inv_passes g w c law k.inv q x ls m i a j amount (bid_head q x n (Letter.Bid i a j amount) m h1 h2 t) enough old e))

  kept_object_take : (q : ℕ) (r : TurnReply) (v : World) → TakesBid g w q r v → Kept g v
  kept_object_take q r v (TakesBid.no_letter h e1 e) = rw e k
  kept_object_take q r v (TakesBid.accepts x n i a j amount m h1 h2 t fits enough e1 e) = rw e (by_holder q x n i a j amount m h1 h2 t enough (w.holder j) refl)
  kept_object_take q r v (TakesBid.declines x n i a j amount m h1 h2 t fits low e1 e) =
      let l : Letter = Letter.Bid i a j amount in
      let outs : List Out = refusal g.shards i j (w.price j) in
      rw e (kept_dealt q x n l m h1 h2 t (record w { objects_mail = m; object_out = put w.object_out q outs }) outs refl refl refl refl refl
      (inv_declines g w c law k.inv q x (bids_left_behind q x n l m h1 h2 t) m i a j amount (bid_head q x n l m h1 h2 t)))
  kept_object_take q r v (TakesBid.strays x n l m h1 h2 t bad e1 e) =
      absurd (bad (bid_letter_fits g w c law k.inv q x l (bids_left_behind q x n l m h1 h2 t) (bid_head q x n l m h1 h2 t)))

sound_first : (g : Phase) (d : Option End) → Sound g d → Sound g (first_end d End.All)
sound_first g None s = tt
sound_first g (Some e) s = s

module _ (g : Phase) (w : World) (law : Lawful g) (k : Kept g w) where
  module _ (x n : ℕ) (l : Letter) (m : Mail Letter) (t : Takes w.hub_mail 0 x n l m) where
    abbrev hub_left : List Letter
    hub_left = left_behind g w k.lost To.Hub x n l m (whole_of g w k.shapes To.Hub) t

    abbrev hub_channels : Channels
    hub_channels = set_channel (channels g w k.lost) To.Hub x hub_left

    hub_head : channels g w k.lost To.Hub x ≡ l ∷ hub_left
    hub_head = channel_taken g w k.lost To.Hub x n l m (whole_of g w k.shapes To.Hub) t

    -- what is left to show of the world after: its counts and its end
    hub_taken : (v : World) → Priceless l → Unseen l → SameTables w v → v.objects_mail ≡ w.objects_mail → v.persons_mail ≡ w.persons_mail → v.hub_mail ≡ m → v.person_out ≡ w.person_out → v.object_out ≡ w.object_out
        → Counts g v hub_channels → Sound g v.end → Kept g v
    hub_taken v p u same e1 e2 e3 e4 e5 counts sound =
        let b : World = with_mail w To.Hub m in
        let c : Channels = channels g w k.lost in
        kept_by g w law k v (shapes_same g b (taken_shapes g w law k To.Hub x n l m t) v e1 e2 e3) k.lost hub_channels
        (open_by b v k.lost (λ y z. sym (opens_same b v e1 e2 e3 y) ∙ z) (taken_open g w law k To.Hub x n l m t))
        (channels_other g b v k.lost e1 e2 e3 e4 e5 ∙ channels_taken g w k.lost To.Hub x n l m (whole_of g w k.shapes To.Hub) t)
        (record {
          routed = routed_popped g c k.inv.routed To.Hub x l hub_left hub_head;
          never_falls = price_kept g w v hub_channels same.price same.copy (price_taken g w w c To.Hub x l hub_left hub_head p k.inv.never_falls);
          in_place = place_kept g w v hub_channels same.state same.holder (place_taken g w w c To.Hub x l hub_left hub_head u k.inv.in_place);
          price_range = rw same.price k.inv.price_range;
          copy_range = rw same.copy k.inv.copy_range;
          idle_is = rw (same.idle, same.state) k.inv.idle_is;
          holder_range = rw same.holder k.inv.holder_range;
          slack_letters = rw same.price (all_gone (SlackLetter g w.price) c k.inv.slack_letters To.Hub x [] l hub_left hub_head);
          slack_holders = rw (same.holder, same.price) k.inv.slack_holders;
          counts = counts;
          sound = sound;
        })

  hub_letter : (x n : ℕ) (l : Letter) (m : Mail Letter) → Takes w.hub_mail 0 x n l m → Routed g To.Hub x l → Kept g (hub_after g l (with_mail w To.Hub m))
  hub_letter x n (Letter.First j) m t r =
      let b : World = with_mail w To.Hub m in
      let u : World = record b { count = w.count + 1; end = if (w.count + 1) == g.persons then first_end w.end End.All else w.end } in
      let d : Channels = hub_channels x n (Letter.First j) m t in
      let e : Plus g (Letter.First j) d (channels g w k.lost) = plus_gone g (channels g w k.lost) To.Hub x [] (Letter.First j) (hub_left x n (Letter.First j) m t) (hub_head x n (Letter.First j) m t) (omega (arith, law.some_shards, r.1)) tt in
      let bound = firsts_le g w (channels g w k.lost) k.inv.counts in
      cond_both (nat_lt w.count g.persons) u b (λ (z : World). Kept g z)
      (λ f. hub_taken x n (Letter.First j) m t u (λ i. refl) (λ i j. (refl, refl)) (record { price = refl; copy = refl; state = refl; holder = refl; idle = refl }) refl refl refl refl refl
      (counts_first_gone g w u (channels g w k.lost) d k.inv.counts refl refl refl j e)
      (cond_both ((w.count + 1) == g.persons) (first_end w.end End.All) w.end (λ (y : Option End). Sound g y) (λ h. sound_first g w.end k.inv.sound) (λ h. k.inv.sound)))
      (λ f. let past = ltb-false w.count g.persons f in absurd (omega (arith, past, bound, e)))
  hub_letter x n (Letter.Stop y) m t r =
      let b : World = with_mail w To.Hub m in
      let d : Channels = hub_channels x n (Letter.Stop y) m t in
      let e : Plus g (Letter.Stop y) d (channels g w k.lost) = plus_gone g (channels g w k.lost) To.Hub x [] (Letter.Stop y) (hub_left x n (Letter.Stop y) m t) (hub_head x n (Letter.Stop y) m t) (sender_stop y r) tt in
      hub_taken x n (Letter.Stop y) m t (ended b y) (λ i. refl) (λ i j. (refl, refl)) (record { price = refl; copy = refl; state = refl; holder = refl; idle = refl }) refl refl refl refl refl
      (counts_stop_gone g w (ended b y) (channels g w k.lost) d k.inv.counts refl refl refl y e)
      (sound_ended g w.end y (sound_stop y r) k.inv.sound)
    where
      sender_stop : (y : Why) → Routed g To.Hub x (Letter.Stop y) → x < senders g
      sender_stop Why.Bids r = omega arith
      sender_stop Why.Stuck r = let l = r.0 in omega (arith, l)
      sender_stop Why.Ceiling r = omega arith
      sender_stop Why.Posts r = absurd r
      sender_stop Why.Trail r = absurd r
      sender_stop Why.Mail r = absurd r
      sender_stop Why.Fell r = absurd r
      sender_stop Why.Stray r = absurd r

      sound_stop : (y : Why) → Routed g To.Hub x (Letter.Stop y) → Sound g (Some (End.Stopped y))
      sound_stop Why.Bids r = tt
      sound_stop Why.Stuck r = r.1
      sound_stop Why.Ceiling r = tt
      sound_stop Why.Posts r = absurd r
      sound_stop Why.Trail r = absurd r
      sound_stop Why.Mail r = absurd r
      sound_stop Why.Fell r = absurd r
      sound_stop Why.Stray r = absurd r
  hub_letter x n (Letter.Bid i a j p) m t r = absurd r
  hub_letter x n (Letter.Award i j p) m t r = absurd r
  hub_letter x n (Letter.Refused i j p) m t r = absurd r
  hub_letter x n (Letter.Outbid i j p) m t r = absurd r
  hub_letter x n (Letter.Price j p) m t r = absurd r

  kept_hub_take : (r : TurnReply) (v : World) → HubTakeTurn g w r v → Kept g v
  kept_hub_take r v (HubTakeTurn.no_letter h e1 e) = rw e k
  kept_hub_take r v (HubTakeTurn.takes x n l m t e1 e) =
      let whole = whole_of g w k.shapes To.Hub in
      rw e (hub_letter x n l m t (routed_first g (channels g w k.lost) k.inv.routed To.Hub x l (left_behind g w k.lost To.Hub x n l m whole t) (channel_taken g w k.lost To.Hub x n l m whole t)))

  -- a box closes
  kept_closed : (name : MailName) (b : ℕ) → HasBox (mail_named w name) b → Kept g (with_mail_named w name (with_closed (mail_named w name) b))
  kept_closed name b known =
      let u : World = with_mail_named w name (with_closed (mail_named w name) b) in
      kept_by g w law k u
      (shapes_named g w k.shapes name (with_closed (mail_named w name) b) (Call.Close b) (Reply.WasOpen (is_open (mail_named w name) b)) (record { was = refl; next = refl; box = known }))
      k.lost (channels g w k.lost)
      (open_by w u k.lost (opens_before w name b) k.only_closed)
      (channels_close g w k.lost name b)
      (closed_inv name)
    where
      closed_inv : (n : MailName) → Inv g (with_mail_named w n (with_closed (mail_named w n) b)) (channels g w k.lost)
      closed_inv MailName.Objects = inv_same g w (with_mail_named w MailName.Objects (with_closed w.objects_mail b)) (channels g w k.lost) (record { price = refl; copy = refl; state = refl; holder = refl; idle = refl }) refl k.inv.sound k.inv
      closed_inv MailName.Persons = inv_same g w (with_mail_named w MailName.Persons (with_closed w.persons_mail b)) (channels g w k.lost) (record { price = refl; copy = refl; state = refl; holder = refl; idle = refl }) refl k.inv.sound k.inv
      closed_inv MailName.Hub = inv_same g w (with_mail_named w MailName.Hub (with_closed w.hub_mail b)) (channels g w k.lost) (record { price = refl; copy = refl; state = refl; holder = refl; idle = refl }) refl k.inv.sound k.inv

  kept_hub_close : (name : MailName) (b : ℕ) (r : TurnReply) (v : World) → HubCloseTurn w name b r v → Kept g v
  kept_hub_close name b r v (HubCloseTurn.leaves h e1 e) = rw e k
  kept_hub_close name b r v (HubCloseTurn.closes m h1 h2 h3 e1 e) = rw (e, h3.next) (kept_closed name b h1)

  pub kept_turn : (t : Turn) (r : TurnReply) (v : World) → Turned g w t r v → Kept g v
  kept_turn (Turn.Bid s) r v h = kept_bid g w law k s r v h
  kept_turn (Turn.PersonPost s) r v h = kept_post g w law k (PersonShard s) r v h
  kept_turn (Turn.ObjectPost q) r v h = kept_post g w law k (ObjectShard q) r v h
  kept_turn (Turn.PersonTake s) r v h = kept_person_take g w law k s r v h
  kept_turn (Turn.ObjectTake q) r v h = kept_object_take g w law k q r v (by_cases g w q r v h)
  kept_turn (Turn.Tell q j s) r v h = kept_tell g w law k q j s r v h
  kept_turn Turn.HubTake r v h = kept_hub_take r v h
  kept_turn (Turn.HubClose name b) r v h = kept_hub_close name b r v h

-- every schedule
pub kept_schedule : (g : Phase) (w : World) (ts : List Turn) (v : World) → Lawful g → Schedule g w ts v → Kept g w → Kept g v
kept_schedule g w [] v law e k = rw e k
kept_schedule g w (t ∷ ts) v law h k = kept_schedule g h.mid ts v law h.rest (kept_turn g w law k t h.reply h.mid h.turned)
