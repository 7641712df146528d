-- Every turn keeps the room of the mails, and so does every schedule.
use Rattle.std.proofs.Common.{ℕ, ℤ, ◌+◌, ◌*◌, ◌<◌, ◌≤◌, ◌≡◌, ◌≢◌, refl, arith, true, false, List, [], ◌∷◌, Option, Some, None, sum_by, inl, inr, ap, sym, ◌∙◌}
use Rattle.std.specs.Prelude.{if◌then◌else◌, ◌==◌, nat_lt}
use Rattle.std.proofs.lemmas.Bool.{cases_eq, cond_both}
use Rattle.std.proofs.lemmas.List.Sums.{sum_by-cons}
use Rattle.auc_letters.specs.Award.{awards, refusal, bid_of, bid_out}
use Rattle.auc_letters.specs.Routing.{price_told, to_hub}
use Rattle.auc_letters.specs.declared.letter.Letter.{Letter}
use Rattle.auc_letters.specs.declared.letter.Why.{Why}
use Rattle.auc_letters.specs.declared.out.Out.{Out}
use Rattle.auc_letters.specs.declared.out.To.{To}
use Rattle.auc_letters.specs.declared.state.Held.{Held}
use Rattle.auc_mail.specs.Mail.{Mail, with_closed}
use Rattle.auc_mail.specs.declared.call.PostRefused.{PostRefused}
use Rattle.auc_model.specs.Bidding.{BidTurn}
use Rattle.auc_model.specs.Counts.{total}
use Rattle.auc_model.specs.Hearing.{PersonTakeTurn, after_letter, free_after, held_after}
use Rattle.auc_model.specs.Hub.{HubCloseTurn, HubTakeTurn, hub_after}
use Rattle.auc_model.specs.Invariants.{Kept}
use Rattle.auc_model.specs.Letters.{price_one, stop_one}
use Rattle.auc_model.specs.Mails.{ObjectShard, PersonShard, Shard, Takes, mail_named, mail_of, number, outbox, sender, with_mail, with_mail_named, with_outbox}
use Rattle.auc_model.specs.Posting.{PostTurn, Posts, Refuses, is_price, reason}
use Rattle.auc_model.specs.Put.{put, put2}
use Rattle.auc_model.specs.Room.{Reserved, Room, one_if, stops_out, weight}
use Rattle.auc_model.specs.Schedule.{Schedule, Turned}
use Rattle.auc_model.specs.Selling.{TellTurn}
use Rattle.auc_model.proofs.Selling.{TakesBid, by_cases, sold}
use Rattle.auc_model.specs.Start.{Lawful}
use Rattle.auc_model.specs.Channels.{Each, Routed, channels}
use Rattle.auc_model.specs.World.{Phase, World, ended, first_end}
use Rattle.auc_model.specs.declared.turn.End.{End}
use Rattle.auc_model.specs.declared.turn.MailName.{MailName}
use Rattle.auc_model.specs.declared.turn.Turn.{Turn}
use Rattle.auc_model.specs.declared.turn.TurnReply.{TurnReply}
use Rattle.auc_model.proofs.FindsRoom.{finds_room, routed_head}
use Rattle.auc_model.proofs.Places.{put_at, put_off, put_self}
use Rattle.auc_model.proofs.Routes.{routed_first}
use Rattle.auc_model.proofs.Schedule.{kept_turn}
use Rattle.auc_model.proofs.Sums.{total_put}
use Rattle.auc_model.proofs.Channels.{left_behind, channel_taken}
use Rattle.auc_model.proofs.WeightSteps.{few_prices_posted, weight_posted, weight_taken}

each_put : (g : Phase) (f : ℕ → List Out) (s : ℕ) (os : List Out) → Each (Reserved g) os → ((k : ℕ) → Each (Reserved g) (f k)) → (k : ℕ) → Each (Reserved g) (put f s os k)
each_put g f s os new all k = elim (cases_eq k s) [ inl e ↦ rw (put_at f s os k e) new | inr n ↦ rw (put_off f s os k n) (all k) ]

not_mail : (d : Option End) (y : Why) → y ≢ Why.Mail → d ≢ Some (End.Stopped Why.Mail) → first_end d (End.Stopped y) ≢ Some (End.Stopped Why.Mail)
not_mail None y n d e = n (stopped_same y e)
  where
    stopped_same : (y : Why) → (let a : Option End = Some (End.Stopped y) in let b : Option End = Some (End.Stopped Why.Mail) in a ≡ b) → y ≡ Why.Mail
    stopped_same y e = cc
not_mail (Some x) y n d e = d e

reserve_of : (g : Phase) (o : Out) (rest : List Out) (os : List Out) → os ≡ o ∷ rest → Each (Reserved g) os → Reserved g o
reserve_of g o rest os e p = (rw e at p).0

reserve_rest : (g : Phase) (o : Out) (rest : List Out) (os : List Out) → os ≡ o ∷ rest → Each (Reserved g) os → Each (Reserved g) rest
reserve_rest g o rest os e p = (rw e at p).1

module _ (g : Phase) (w : World) (law : Lawful g) (k : Kept g w) (room : Room g w) where
  head_reserve : (h : Shard) (o : Out) (rest : List Out) → outbox w h ≡ o ∷ rest → Reserved g o
  head_reserve (PersonShard s) o rest e = reserve_of g o rest (w.person_out s) e (room.person_reserves s)
  head_reserve (ObjectShard q) o rest e = reserve_of g o rest (w.object_out q) e (room.object_reserves q)

  -- a letter leaves an outbox: it is no Stop, or the outbox has one Stop less
  less_stops : (s : ℕ) (o : Out) (rest : List Out) → s < g.shards → w.person_out s ≡ o ∷ rest → total (λ x. sum_by (λ o. stop_one o.letter) (put w.person_out s rest x)) g.shards + stop_one o.letter ≡ stops_out g w
  less_stops s o rest l e =
      let a = total_put (λ (os : List Out). sum_by (λ o. stop_one o.letter) os) w.person_out s rest g.shards l in
      let b : sum_by (λ o. stop_one o.letter) (w.person_out s) ≡ sum_by (λ o. stop_one o.letter) (o ∷ rest) = ap (λ (os : List Out). sum_by (λ o. stop_one o.letter) os) e in
      let d = sum_by-cons (λ (o : Out). stop_one o.letter) o rest in
      omega (arith, a, b, d)

  room_dropped : (h : Shard) (o : Out) (rest : List Out) → number h < g.shards → outbox w h ≡ o ∷ rest → Room g (with_outbox w h rest)
  room_dropped (PersonShard s) o rest l e =
      let a = less_stops s o rest l e in
      record {
        objects_nodes = room.objects_nodes;
        persons_nodes = room.persons_nodes;
        hub_nodes = room.hub_nodes;
        few_prices = room.few_prices;
        few_stops = omega (arith, a, room.few_stops);
        person_reserves = each_put g w.person_out s rest (reserve_rest g o rest (w.person_out s) e (room.person_reserves s)) room.person_reserves;
        object_reserves = room.object_reserves;
        no_mail = room.no_mail;
      }
  room_dropped (ObjectShard q) o rest l e =
      record {
        objects_nodes = room.objects_nodes;
        persons_nodes = room.persons_nodes;
        hub_nodes = room.hub_nodes;
        few_prices = room.few_prices;
        few_stops = room.few_stops;
        person_reserves = room.person_reserves;
        object_reserves = each_put g w.object_out q rest (reserve_rest g o rest (w.object_out q) e (room.object_reserves q)) room.object_reserves;
        no_mail = room.no_mail;
      }

  pub never_full : (h : Shard) (o : Out) (rest : List Out) → number h < g.shards → outbox w h ≡ o ∷ rest → Refuses g w h o PostRefused.Full → is_price o.letter ≡ false → ⊥
  never_full h o rest l e p i =
      let f = finds_room g w k.lost law k.inv k.shapes room h o rest l e i in
      let r : o.reserve ≡ 0 = head_reserve h o rest e ∙ rw i in
      omega (arith, f, r, p.full)

  -- a letter that is not a price never meets Full, so the world does not end by the mail
  room_kept : (h : Shard) (o : Out) (rest : List Out) (y : PostRefused) → number h < g.shards → outbox w h ≡ o ∷ rest → y ≢ PostRefused.Closed → Refuses g w h o y → is_price o.letter ≡ false → Room g (ended w (reason y))
  room_kept h o rest y l e n p i =
      record {
        objects_nodes = room.objects_nodes;
        persons_nodes = room.persons_nodes;
        hub_nodes = room.hub_nodes;
        few_prices = room.few_prices;
        few_stops = room.few_stops;
        person_reserves = room.person_reserves;
        object_reserves = room.object_reserves;
        no_mail = by y n p;
      }
    where
      by : (y : PostRefused) → y ≢ PostRefused.Closed → Refuses g w h o y → first_end w.end (End.Stopped (reason y)) ≢ Some (End.Stopped Why.Mail)
      by PostRefused.Closed n p = absurd (n refl)
      by PostRefused.Spent n p = not_mail w.end Why.Posts (λ q. cc) room.no_mail
      by PostRefused.Full n p = absurd (never_full h o rest l e p i)

  module _ (h : Shard) (o : Out) (rest : List Out) (in_range : number h < g.shards) (full : outbox w h ≡ o ∷ rest) where
    -- the numbers that a post may move
    record Moved (v : World) : Type 0 where
      objects_nodes : v.objects_mail.nodes ≡ g.persons
      persons_nodes : v.persons_mail.nodes ≡ 4 * g.persons
      hub_nodes : v.hub_mail.nodes ≡ g.persons + 2 * g.shards
      few_prices : weight price_one v.persons_mail ≤ 2 * g.persons
      stops : weight stop_one v.hub_mail ≤ weight stop_one w.hub_mail + stop_one o.letter
      same_persons : v.person_out ≡ w.person_out
      same_objects : v.object_out ≡ w.object_out
      same_stopped : v.has_stopped ≡ w.has_stopped
      same_end : v.end ≡ w.end

    nodes_posted : (n : ℕ) (m : Mail Letter) → Posts g w h o n m → m.nodes ≡ (mail_of w o.to).nodes
    nodes_posted n m p = ap (λ (z : Mail Letter). z.nodes) p.next

    moved : (t : To) (n : ℕ) (m : Mail Letter) → o.to ≡ t → Posts g w h o n m → Moved (with_mail w t m)
    moved (To.Object q) n m e p =
        record {
          objects_nodes = nodes_posted n m p ∙ rw e room.objects_nodes;
          persons_nodes = room.persons_nodes;
          hub_nodes = room.hub_nodes;
          few_prices = room.few_prices;
          stops = omega arith;
          same_persons = refl;
          same_objects = refl;
          same_stopped = refl;
          same_end = refl;
        }
    moved (To.Person s) n m e p =
        record {
          objects_nodes = room.objects_nodes;
          persons_nodes = nodes_posted n m p ∙ rw e room.persons_nodes;
          hub_nodes = room.hub_nodes;
          few_prices = few_prices_posted w.persons_mail m (sender g h) s o.reserve n g.persons o.letter k.shapes.persons.whole (rw e at p) room.persons_nodes (head_reserve h o rest full) room.few_prices;
          stops = omega arith;
          same_persons = refl;
          same_objects = refl;
          same_stopped = refl;
          same_end = refl;
        }
    moved To.Hub n m e p =
        record {
          objects_nodes = room.objects_nodes;
          persons_nodes = room.persons_nodes;
          hub_nodes = nodes_posted n m p ∙ rw e room.hub_nodes;
          few_prices = room.few_prices;
          stops = (let a = weight_posted w.hub_mail m (sender g h) 0 o.reserve n o.letter stop_one k.shapes.hub.whole (rw e at p) in omega (arith, a));
          same_persons = refl;
          same_objects = refl;
          same_stopped = refl;
          same_end = refl;
        }

    no_stop : (q : ℕ) → h ≡ ObjectShard q → (t : To) (l : Letter) → Routed g t (sender g h) l → stop_one l ≡ 0
    no_stop q e t (Letter.Bid i a j p) r = refl
    no_stop q e t (Letter.Award i j p) r = refl
    no_stop q e t (Letter.Refused i j p) r = refl
    no_stop q e t (Letter.Outbid i j p) r = refl
    no_stop q e t (Letter.Price j p) r = refl
    no_stop q e t (Letter.First j) r = refl
    no_stop q e (To.Person s) (Letter.Stop y) r = absurd r
    no_stop q e (To.Object s) (Letter.Stop y) r = absurd r
    no_stop q e To.Hub (Letter.Stop y) r = absurd (let f = by_shard y r in let d : sender g h ≡ g.shards + q = ap (λ (x : Shard). sender g x) e in omega (arith, f, d))
      where
        by_shard : (y : Why) → Routed g To.Hub (sender g h) (Letter.Stop y) → sender g h < g.shards
        by_shard Why.Bids r = r
        by_shard Why.Stuck r = r.0
        by_shard Why.Ceiling r = r
        by_shard Why.Posts r = absurd r
        by_shard Why.Trail r = absurd r
        by_shard Why.Mail r = absurd r
        by_shard Why.Fell r = absurd r
        by_shard Why.Stray r = absurd r

    after_person : (s : ℕ) (u : World) → h ≡ PersonShard s → Moved u → Room g (with_outbox u (PersonShard s) rest)
    after_person s u e m =
        let a = less_stops s o rest (rw e at in_range) (rw e at full) in
        record {
          objects_nodes = m.objects_nodes;
          persons_nodes = m.persons_nodes;
          hub_nodes = m.hub_nodes;
          few_prices = m.few_prices;
          few_stops = rw (m.same_persons, m.same_stopped) (omega (arith, a, m.stops, room.few_stops));
          person_reserves = rw m.same_persons (each_put g w.person_out s rest (reserve_rest g o rest (w.person_out s) (rw e at full) (room.person_reserves s)) room.person_reserves);
          object_reserves = rw m.same_objects room.object_reserves;
          no_mail = rw m.same_end room.no_mail;
        }

    after_object : (q : ℕ) (u : World) → h ≡ ObjectShard q → stop_one o.letter ≡ 0 → Moved u → Room g (with_outbox u (ObjectShard q) rest)
    after_object q u e z m =
        record {
          objects_nodes = m.objects_nodes;
          persons_nodes = m.persons_nodes;
          hub_nodes = m.hub_nodes;
          few_prices = m.few_prices;
          few_stops = rw (m.same_persons, m.same_stopped) (omega (arith, z, m.stops, room.few_stops));
          person_reserves = rw m.same_persons room.person_reserves;
          object_reserves = rw m.same_objects (each_put g w.object_out q rest (reserve_rest g o rest (w.object_out q) (rw e at full) (room.object_reserves q)) room.object_reserves);
          no_mail = rw m.same_end room.no_mail;
        }

    room_posted : (n : ℕ) (m : Mail Letter) → Posts g w h o n m → Room g (with_outbox (with_mail w o.to m) h rest)
    room_posted n m p = by h refl
      where
        by : (j : Shard) → h ≡ j → Room g (with_outbox (with_mail w o.to m) j rest)
        by (PersonShard s) e = after_person s (with_mail w o.to m) e (moved o.to n m refl p)
        by (ObjectShard q) e = after_object q (with_mail w o.to m) e (no_stop q e o.to o.letter (routed_head g w k.lost law k.inv k.shapes room h o rest in_range full)) (moved o.to n m refl p)

  pub room_post : (h : Shard) (r : TurnReply) (v : World) → PostTurn g w h r v → Room g v
  room_post h r v (PostTurn.no_letter q e1 e) = rw e room
  room_post h r v (PostTurn.posts o rest n m may p e1 e) = rw e (room_posted h o rest may.known may.first n m p)
  room_post h r v (PostTurn.meets_closed o rest may p e1 e) = rw e (room_dropped h o rest may.known may.first)
  room_post h r v (PostTurn.drops_price o rest y may p n i e1 e) = rw e (room_dropped h o rest may.known may.first)
  room_post h r v (PostTurn.keeps_letter o rest y may p n i e1 e) = rw e (room_kept h o rest y may.known may.first n p i)

  -- Bid(s)
  stops_put : (s : ℕ) (o : Out) → s < g.shards → w.person_out s ≡ [] → total (λ x. sum_by (λ o. stop_one o.letter) (put w.person_out s (o ∷ []) x)) g.shards ≡ stops_out g w + stop_one o.letter
  stops_put s o l e =
      let a = total_put (λ (os : List Out). sum_by (λ o. stop_one o.letter) os) w.person_out s (o ∷ []) g.shards l in
      let b : sum_by (λ o. stop_one o.letter) (w.person_out s) ≡ 0 = ap (λ (os : List Out). sum_by (λ o. stop_one o.letter) os) e in
      let d = sum_by-cons (λ (o : Out). stop_one o.letter) o [] in
      omega (arith, a, b, d)

  pub room_bid : (s : ℕ) (r : TurnReply) (v : World) → BidTurn g w s r v → Room g v
  room_bid s r v (BidTurn.barred h e1 e) = rw e room
  room_bid s r v (BidTurn.stops i rest y may why e1 e) =
      let o : Out = to_hub (Letter.Stop y) in
      let a = stops_put s o may.known may.empty in
      let b = total_put one_if w.has_stopped s true g.shards may.known in
      let d : one_if (w.has_stopped s) ≡ 0 = rw may.going in
      rw e (record {
        objects_nodes = room.objects_nodes;
        persons_nodes = room.persons_nodes;
        hub_nodes = room.hub_nodes;
        few_prices = room.few_prices;
        few_stops = omega (arith, a, b, d, room.few_stops);
        person_reserves = each_put g w.person_out s (o ∷ []) (refl, tt) room.person_reserves;
        object_reserves = room.object_reserves;
        no_mail = room.no_mail;
      })
  room_bid s r v (BidTurn.bids i rest a amount may left best low e1 e) =
      let o : Out = bid_out g.shards (bid_of i a.arc a.object amount) in
      let x = stops_put s o may.known may.empty in
      rw e (record {
        objects_nodes = room.objects_nodes;
        persons_nodes = room.persons_nodes;
        hub_nodes = room.hub_nodes;
        few_prices = room.few_prices;
        few_stops = omega (arith, x, room.few_stops);
        person_reserves = each_put g w.person_out s (o ∷ []) (refl, tt) room.person_reserves;
        object_reserves = room.object_reserves;
        no_mail = room.no_mail;
      })

  -- Tell(q, j, s)
  pub room_tell : (q j s : ℕ) (r : TurnReply) (v : World) → TellTurn g w q j s r v → Room g v
  room_tell q j s r v (TellTurn.silent h e1 e) = rw e room
  room_tell q j s r v (TellTurn.tells h1 h2 h3 h4 h5 e1 e) =
      rw e (record {
        objects_nodes = room.objects_nodes;
        persons_nodes = room.persons_nodes;
        hub_nodes = room.hub_nodes;
        few_prices = room.few_prices;
        few_stops = room.few_stops;
        person_reserves = room.person_reserves;
        object_reserves = each_put g w.object_out q (price_told g.persons s j (w.price j) ∷ []) (refl, tt) room.object_reserves;
        no_mail = room.no_mail;
      })

  -- a take
  nodes_taken : (m n : Mail Letter) (b x i : ℕ) (l : Letter) → Takes m b x i l n → n.nodes ≡ m.nodes
  nodes_taken m n b x i l t = ap (λ (z : Mail Letter). z.nodes) t.next

  -- the persons mail was taken from, and the tables are as they may be
  room_persons : (v : World) (s x n : ℕ) (l : Letter) → Takes w.persons_mail s x n l v.persons_mail → v.objects_mail ≡ w.objects_mail → v.hub_mail ≡ w.hub_mail → v.person_out ≡ w.person_out → v.object_out ≡ w.object_out → v.has_stopped ≡ w.has_stopped
      → v.end ≢ Some (End.Stopped Why.Mail) → Room g v
  room_persons v s x n l t e1 e2 e3 e4 e5 end =
      let a = weight_taken w.persons_mail v.persons_mail s x n l price_one t in
      record {
        objects_nodes = rw e1 room.objects_nodes;
        persons_nodes = nodes_taken w.persons_mail v.persons_mail s x n l t ∙ room.persons_nodes;
        hub_nodes = rw e2 room.hub_nodes;
        few_prices = omega (arith, a, room.few_prices);
        few_stops = rw (e2, e3, e5) room.few_stops;
        person_reserves = rw e3 room.person_reserves;
        object_reserves = rw e4 room.object_reserves;
        no_mail = end;
      }

  room_hears : (s x n : ℕ) (l : Letter) (m : Mail Letter) → Takes w.persons_mail s x n l m → Room g (after_letter (record w { persons_mail = m }) s l)
  room_hears s x n (Letter.Award i j p) m t = room_persons (held_after (record w { persons_mail = m }) s i j p) s x n (Letter.Award i j p) t refl refl refl refl refl room.no_mail
  room_hears s x n (Letter.Refused i j p) m t = room_persons (free_after (record w { persons_mail = m }) s i j p) s x n (Letter.Refused i j p) t refl refl refl refl refl room.no_mail
  room_hears s x n (Letter.Outbid i j p) m t = room_persons (free_after (record w { persons_mail = m }) s i j p) s x n (Letter.Outbid i j p) t refl refl refl refl refl room.no_mail
  room_hears s x n (Letter.Price j p) m t = room_persons (record w { persons_mail = m; copy = put2 w.copy s j p }) s x n (Letter.Price j p) t refl refl refl refl refl room.no_mail
  room_hears s x n (Letter.Bid i a j p) m t = room_persons (record w { persons_mail = m }) s x n (Letter.Bid i a j p) t refl refl refl refl refl room.no_mail
  room_hears s x n (Letter.First j) m t = room_persons (record w { persons_mail = m }) s x n (Letter.First j) t refl refl refl refl refl room.no_mail
  room_hears s x n (Letter.Stop y) m t = room_persons (record w { persons_mail = m }) s x n (Letter.Stop y) t refl refl refl refl refl room.no_mail

  pub room_person_take : (s : ℕ) (r : TurnReply) (v : World) → PersonTakeTurn g w s r v → Room g v
  room_person_take s r v (PersonTakeTurn.no_letter h e1 e) = rw e room
  room_person_take s r v (PersonTakeTurn.hears x n l m h1 t fits low e1 e) = rw e (room_hears s x n l m t)
  room_person_take s r v (PersonTakeTurn.strays x n l m h1 t bad e1 e) =
      rw e (room_persons (ended (record w { persons_mail = m }) Why.Stray) s x n l t refl refl refl refl refl (not_mail w.end Why.Stray (λ q. cc) room.no_mail))
  room_person_take s r v (PersonTakeTurn.falls x n l m h1 t fits low e1 e) =
      rw e (room_persons (ended (record w { persons_mail = m }) Why.Fell) s x n l t refl refl refl refl refl (not_mail w.end Why.Fell (λ q. cc) room.no_mail))

  awards_reserved : (h : Option Held) (i j : ℕ) (p : ℤ) → Each (Reserved g) (awards g.shards h i j p)
  awards_reserved None i j p = (refl, (refl, tt))
  awards_reserved (Some h) i j p = (refl, (refl, tt))

  room_objects : (v : World) (q x n : ℕ) (l : Letter) (os : List Out) → Takes w.objects_mail q x n l v.objects_mail → v.persons_mail ≡ w.persons_mail → v.hub_mail ≡ w.hub_mail → v.person_out ≡ w.person_out → v.object_out ≡ put w.object_out q os → v.has_stopped ≡ w.has_stopped
      → Each (Reserved g) os → v.end ≢ Some (End.Stopped Why.Mail) → Room g v
  room_objects v q x n l os t e1 e2 e3 e4 e5 reserved end =
      record {
        objects_nodes = nodes_taken w.objects_mail v.objects_mail q x n l t ∙ room.objects_nodes;
        persons_nodes = rw e1 room.persons_nodes;
        hub_nodes = rw e2 room.hub_nodes;
        few_prices = rw e1 room.few_prices;
        few_stops = rw (e2, e3, e5) room.few_stops;
        person_reserves = rw e3 room.person_reserves;
        object_reserves = rw e4 (each_put g w.object_out q os reserved room.object_reserves);
        no_mail = end;
      }

  pub room_object_take : (q : ℕ) (r : TurnReply) (v : World) → TakesBid g w q r v → Room g v
  room_object_take q r v (TakesBid.no_letter h e1 e) = rw e room
  room_object_take q r v (TakesBid.accepts x n i a j amount m h1 h2 t fits enough e1 e) =
      let outs : List Out = awards g.shards (w.holder j) i j amount in
      rw e (room_objects (sold w q m j amount (record { person = i; arc = a }) outs) q x n (Letter.Bid i a j amount) outs t refl refl refl refl refl (awards_reserved (w.holder j) i j amount) room.no_mail)
  room_object_take q r v (TakesBid.declines x n i a j amount m h1 h2 t fits low e1 e) =
      let outs : List Out = refusal g.shards i j (w.price j) in
      rw e (room_objects (record w { objects_mail = m; object_out = put w.object_out q outs }) q x n (Letter.Bid i a j amount) outs t refl refl refl refl refl (refl, tt) room.no_mail)
  room_object_take q r v (TakesBid.strays x n l m h1 h2 t bad e1 e) =
      rw e (room_objects (ended (record w { objects_mail = m }) Why.Stray) q x n l (w.object_out q) t refl refl refl (sym (put_self w.object_out q)) refl (room.object_reserves q) (not_mail w.end Why.Stray (λ z. cc) room.no_mail))

  room_hub : (v : World) (x n : ℕ) (l : Letter) → Takes w.hub_mail 0 x n l v.hub_mail → v.objects_mail ≡ w.objects_mail → v.persons_mail ≡ w.persons_mail → v.person_out ≡ w.person_out → v.object_out ≡ w.object_out → v.has_stopped ≡ w.has_stopped
      → v.end ≢ Some (End.Stopped Why.Mail) → Room g v
  room_hub v x n l t e1 e2 e3 e4 e5 end =
      let a = weight_taken w.hub_mail v.hub_mail 0 x n l stop_one t in
      record {
        objects_nodes = rw e1 room.objects_nodes;
        persons_nodes = rw e2 room.persons_nodes;
        hub_nodes = nodes_taken w.hub_mail v.hub_mail 0 x n l t ∙ room.hub_nodes;
        few_prices = rw e2 room.few_prices;
        few_stops = rw (e3, e5) (omega (arith, a, room.few_stops));
        person_reserves = rw e3 room.person_reserves;
        object_reserves = rw e4 room.object_reserves;
        no_mail = end;
      }

  first_everyone : (d : Option End) → d ≢ Some (End.Stopped Why.Mail) → first_end d End.All ≢ Some (End.Stopped Why.Mail)
  first_everyone None n e = cc
  first_everyone (Some x) n e = n e

  hub_room : (x n : ℕ) (l : Letter) (m : Mail Letter) → Takes w.hub_mail 0 x n l m → Routed g To.Hub x l → Room g (hub_after g l (record w { hub_mail = m }))
  hub_room x n (Letter.First j) m t r =
      let b : World = record w { hub_mail = m } in
      let u : World = record b { count = w.count + 1; end = if (w.count + 1) == g.persons then first_end w.end End.All else w.end } in
      cond_both (nat_lt w.count g.persons) u b (λ (z : World). Room g z)
      (λ f. room_hub u x n (Letter.First j) t refl refl refl refl refl
      (cond_both ((w.count + 1) == g.persons) (first_end w.end End.All) w.end (λ (y : Option End). y ≢ Some (End.Stopped Why.Mail)) (λ h. first_everyone w.end room.no_mail) (λ h. room.no_mail)))
      (λ f. room_hub b x n (Letter.First j) t refl refl refl refl refl room.no_mail)
  hub_room x n (Letter.Stop y) m t r = room_hub (ended (record w { hub_mail = m }) y) x n (Letter.Stop y) t refl refl refl refl refl (not_mail w.end y (other y r) room.no_mail)
    where
      other : (y : Why) → Routed g To.Hub x (Letter.Stop y) → y ≢ Why.Mail
      other Why.Bids r e = cc
      other Why.Stuck r e = cc
      other Why.Ceiling r e = cc
      other Why.Posts r e = cc
      other Why.Trail r e = cc
      other Why.Mail r e = r
      other Why.Fell r e = cc
      other Why.Stray r e = cc
  hub_room x n (Letter.Bid i a j p) m t r = absurd r
  hub_room x n (Letter.Award i j p) m t r = absurd r
  hub_room x n (Letter.Refused i j p) m t r = absurd r
  hub_room x n (Letter.Outbid i j p) m t r = absurd r
  hub_room x n (Letter.Price j p) m t r = absurd r

  pub room_hub_take : (r : TurnReply) (v : World) → HubTakeTurn g w r v → Room g v
  room_hub_take r v (HubTakeTurn.no_letter h e1 e) = rw e room
  room_hub_take r v (HubTakeTurn.takes x n l m t e1 e) =
      let whole = k.shapes.hub.whole in
      rw e (hub_room x n l m t (routed_first g (channels g w k.lost) k.inv.routed To.Hub x l (left_behind g w k.lost To.Hub x n l m whole t) (channel_taken g w k.lost To.Hub x n l m whole t)))

  -- a box that closes keeps its letters
  room_closed : (name : MailName) (b : ℕ) → Room g (with_mail_named w name (with_closed (mail_named w name) b))
  room_closed MailName.Objects b = record {
    objects_nodes = room.objects_nodes;
    persons_nodes = room.persons_nodes;
    hub_nodes = room.hub_nodes;
    few_prices = room.few_prices;
    few_stops = room.few_stops;
    person_reserves = room.person_reserves;
    object_reserves = room.object_reserves;
    no_mail = room.no_mail;
  }
  room_closed MailName.Persons b = record {
    objects_nodes = room.objects_nodes;
    persons_nodes = room.persons_nodes;
    hub_nodes = room.hub_nodes;
    few_prices = room.few_prices;
    few_stops = room.few_stops;
    person_reserves = room.person_reserves;
    object_reserves = room.object_reserves;
    no_mail = room.no_mail;
  }
  room_closed MailName.Hub b = record {
    objects_nodes = room.objects_nodes;
    persons_nodes = room.persons_nodes;
    hub_nodes = room.hub_nodes;
    few_prices = room.few_prices;
    few_stops = room.few_stops;
    person_reserves = room.person_reserves;
    object_reserves = room.object_reserves;
    no_mail = room.no_mail;
  }

  pub room_turn : (t : Turn) (r : TurnReply) (v : World) → Turned g w t r v → Room g v
  room_turn (Turn.Bid s) r v h = room_bid s r v h
  room_turn (Turn.PersonPost s) r v h = room_post (PersonShard s) r v h
  room_turn (Turn.ObjectPost q) r v h = room_post (ObjectShard q) r v h
  room_turn (Turn.PersonTake s) r v h = room_person_take s r v h
  room_turn (Turn.ObjectTake q) r v h = room_object_take q r v (by_cases g w q r v h)
  room_turn (Turn.Tell q j s) r v h = room_tell q j s r v h
  room_turn Turn.HubTake r v h = room_hub_take r v h
  room_turn (Turn.HubClose name b) r v (HubCloseTurn.leaves h e1 e) = rw e room
  room_turn (Turn.HubClose name b) r v (HubCloseTurn.closes m h1 h2 h3 e1 e) = rw (e, h3.next) (room_closed name b)

pub room_schedule : (g : Phase) (w : World) (ts : List Turn) (v : World) → Lawful g → Kept g w → Room g w → Schedule g w ts v → Room g v
room_schedule g w [] v law k room e = rw e room
room_schedule g w (t ∷ ts) v law k room h = room_schedule g h.mid ts v law (kept_turn g w law k t h.reply h.mid h.turned) (room_turn g w law k room t h.reply h.mid h.turned) h.rest
