-- How a phase with one shard of each kind ends before each person has an object: by a Stop of the only person shard. It
-- never stalls.
use Rattle.std.proofs.Common.{ℕ, suc, ◌+◌, ◌*◌, ◌<◌, ◌≡◌, ◌≢◌, ◌^◌, refl, arith, true, List, [], ◌∷◌, Option, None, drop, length, inr, sym, ap, subst, ◌∙◌}
use Rattle.std.specs.Prelude.{ℤ, pos, ◌<ℤ◌, ◌||◌}
use Rattle.auc_graph.specs.Bid.{IsBid}
use Rattle.auc_graph.specs.declared.rows.RowArc.{RowArc}
use Rattle.auc_letters.specs.declared.letter.Letter.{Letter}
use Rattle.auc_letters.specs.declared.letter.Why.{Why}
use Rattle.auc_letters.specs.declared.state.Held.{Held}
use Rattle.auc_letters.specs.Routing.{to_hub}
use Rattle.auc_mail.specs.Mail.{Mail, blank_lane, free_of}
use Rattle.auc_mail.specs.Step.{Step}
use Rattle.auc_mail.specs.declared.call.Call.{Call}
use Rattle.auc_mail.specs.declared.call.Reply.{Reply}
use Rattle.auc_mail.specs.declared.call.Taken.{Taken}
use Rattle.auc_model.specs.Bidding.{BidTurn, Stops, after_stop}
use Rattle.auc_model.specs.Hearing.{PersonTakeTurn, after_letter}
use Rattle.auc_model.specs.Hub.{HubTakeTurn, hub_after}
use Rattle.auc_model.specs.Mails.{PersonShard, Takes, TakesNone, with_mail, with_outbox}
use Rattle.auc_model.specs.Posting.{PostTurn}
use Rattle.auc_model.specs.Schedule.{Reached, Turned}
use Rattle.auc_model.specs.Selling.{ObjectTakeTurn}
use Rattle.auc_model.specs.Start.{UsualNodes}
use Rattle.auc_model.specs.Still.{Rests}
use Rattle.auc_model.specs.World.{Phase, World, first_end, scale}
use Rattle.auc_model.specs.declared.turn.End.{End}
use Rattle.auc_model.specs.declared.turn.Turn.{Turn}
use Rattle.auc_model.specs.declared.turn.TurnReply.{TurnReply}
use Rattle.auc_model.proofs.Reached.{hears_well, kept_reached, reached_turn}
use Rattle.auc_model.proofs.Rests.{rests_ended}
use Rattle.auc_letters.specs.declared.out.To.{To}
use Rattle.auc_persons.specs.Scan.{copy_in}
use Rattle.auc_world.specs.declared.single_shard.notice.Notice.{Notice}
use Rattle.auc_world.specs.SingleState.{SingleState, Going, lane, one_box, sale_turns}
use Rattle.auc_world.specs.SinglePhase.{StopEnds}
use Rattle.auc_machine.specs.Rounds.{Plays, has_moved, round_of}
use Rattle.auc_world.proofs.SingleLaws.{not_ended}
use Rattle.auc_world.proofs.SingleMails.{gives_nothing, post_first, post_turn, room_for, step_at, take_first, take_second, notices_many}
use Rattle.auc_machine.proofs.RoundLaws.{five_plays, plays_join, two_plays}

-- ---- what the persons hear leaves prices, holders, the hub's mail and the end

record Hears (g : Phase) (w : World) : Type 0 where
  world : World
  reply : TurnReply
  turned : Turned g w (Turn.PersonTake 0) reply world
  reached : Reached g world
  price : world.price ≡ w.price
  holder : world.holder ≡ w.holder
  hub : world.hub_mail ≡ w.hub_mail
  end : world.end ≡ w.end

record KeepsSales (w v : World) : Type 0 where
  price : v.price ≡ w.price
  holder : v.holder ≡ w.holder
  hub : v.hub_mail ≡ w.hub_mail
  end : v.end ≡ w.end

keeps : (w : World) (l : Letter) → KeepsSales w (after_letter w 0 l)
keeps w (Letter.Award i j p) = record { price = refl; holder = refl; hub = refl; end = refl }
keeps w (Letter.Refused i j p) = record { price = refl; holder = refl; hub = refl; end = refl }
keeps w (Letter.Outbid i j p) = record { price = refl; holder = refl; hub = refl; end = refl }
keeps w (Letter.Price j p) = record { price = refl; holder = refl; hub = refl; end = refl }
keeps w (Letter.Bid i a j p) = record { price = refl; holder = refl; hub = refl; end = refl }
keeps w (Letter.First j) = record { price = refl; holder = refl; hub = refl; end = refl }
keeps w (Letter.Stop y) = record { price = refl; holder = refl; hub = refl; end = refl }

module _ (g : Phase) (known : 0 < g.shards) (w : World) (reached : Reached g w) (nodes most k : ℕ) where
  hears_any : (ls : List Letter) → w.persons_mail ≡ one_box nodes most blank_lane (lane k ls) → Hears g w
  hears_any [] mail =
      let none : TakesNone w.persons_mail 0 = subst (λ (m : Mail Letter). TakesNone m 0) (sym mail) (gives_nothing nodes most 0 k) in
      record { world = w; reply = TurnReply.Nothing; turned = PersonTakeTurn.no_letter (inr none) refl refl; reached = reached; price = refl; holder = refl; hub = refl; end = refl }
  hears_any (l ∷ ls) mail =
      let p1 : Mail Letter = one_box nodes most blank_lane (lane (k + 1) ls) in
      let takes : Takes w.persons_mail 0 1 (k + 1) l p1 = step_at w.persons_mail (one_box nodes most blank_lane (lane k (l ∷ ls))) (Call.Take 0) (Reply.Took (Taken.Letter 1 (k + 1) l)) p1 mail (take_second nodes most k ls blank_lane l) in
      let fits = hears_well g w reached.lawful (kept_reached g w reached) 0 1 (k + 1) l p1 takes in
      let v : World = after_letter (record w { persons_mail = p1 }) 0 l in
      let turn : Turned g w (Turn.PersonTake 0) TurnReply.Moved v = PersonTakeTurn.hears 1 (k + 1) l p1 known takes fits.0 fits.1 refl refl in
      let same = keeps (record w { persons_mail = p1 }) l in
      record { world = v; reply = TurnReply.Moved; turned = turn; reached = reached_turn g w v (Turn.PersonTake 0) TurnReply.Moved reached turn; price = same.price; holder = same.holder; hub = same.hub; end = same.end }

-- ---- a Stop

module _ (g : Phase) (one : g.shards ≡ 1) (start : World) (allowed most : ℕ) (enough : 2 * allowed < most) (s : SingleState) (going : Going g start allowed most s) (more : s.count < g.persons) where
  known : 0 < g.shards
  known = omega (arith, one)

  abbrev w : World
  w = going.world

  unended : w.end ≡ None
  unended = going.end ∙ not_ended s.count g.persons more

  no_letters : (ls : List Letter) → length ls ≡ 0 → ls ≡ []
  no_letters [] e = refl
  no_letters (l ∷ ls) e = absurd (omega (arith, e))

  abbrev c : ℕ
  c = going.shows.mails.counted

  abbrev nodes : ℕ
  nodes = g.persons + 2

  abbrev hub0 : Mail Letter
  hub0 = one_box nodes most (lane 0 []) (lane c [])

  hub_is : w.hub_mail ≡ hub0
  hub_is = going.shows.mails.hub ∙ ap (λ (ls : List Letter). one_box nodes most blank_lane (lane c ls)) (no_letters going.shows.mails.waiting going.shows.mails.many)

  module _ (i : ℕ) (first : s.idle ≡ i ∷ drop 1 s.idle) (why : Why) (stops : Stops g w 0 i why) where
    abbrev stop : Letter
    stop = Letter.Stop why

    abbrev w1 : World
    w1 = after_stop w 0 why

    turn1 : Turned g w (Turn.Bid 0) TurnReply.Moved w1
    turn1 = BidTurn.stops i (drop 1 s.idle) why (record { known = known; empty = going.shows.person_out; going = going.shows.going; first = going.shows.idle ∙ first }) stops refl refl

    reached1 : Reached g w1
    reached1 = reached_turn g w w1 (Turn.Bid 0) TurnReply.Moved going.reached turn1

    usual : UsualNodes g w1
    usual = record {
      objects = ap (λ (m : Mail Letter). m.nodes) going.shows.mails.objects;
      persons = ap (λ (m : Mail Letter). m.nodes) going.shows.mails.persons;
      hub = ap (λ (m : Mail Letter). m.nodes) going.shows.mails.hub ∙ omega (arith, one);
    }

    room : 0 < free_of hub0
    room = let r = room_for g w1 reached1 usual (PersonShard 0) (to_hub stop) [] known refl refl in rw hub_is at r

    abbrev hub1 : Mail Letter
    hub1 = one_box nodes most (lane 0 (stop ∷ [])) (lane c [])

    step2 : Step w.hub_mail (Call.Post 0 0 stop 0) (Reply.Posted (0 + 0 + 1)) hub1
    step2 = step_at w.hub_mail hub0 (Call.Post 0 0 stop 0) (Reply.Posted (0 + 0 + 1)) hub1 hub_is (post_first nodes most 0 [] (lane c []) stop (omega (arith, enough)) room)

    abbrev w2 : World
    w2 = with_outbox (with_mail w1 To.Hub hub1) (PersonShard 0) []

    turn2 : Turned g w1 (Turn.PersonPost 0) TurnReply.Moved w2
    turn2 = post_turn g w1 (PersonShard 0) (to_hub stop) [] (0 + 0 + 1) hub1 known refl step2

    reached2 : Reached g w2
    reached2 = reached_turn g w1 w2 (Turn.PersonPost 0) TurnReply.Moved reached1 turn2

    -- nothing waits for the objects
    take : Turned g w2 (Turn.ObjectTake 0) TurnReply.Nothing w2
    take = ObjectTakeTurn.no_letter (inr (inr (subst (λ (m : Mail Letter). TakesNone m 0) (sym going.shows.mails.objects) (gives_nothing g.persons most going.shows.mails.taken 0)))) refl refl

    answer : Turned g w2 (Turn.ObjectPost 0) TurnReply.Nothing w2
    answer = PostTurn.no_letter (inr going.shows.object_out) refl refl

    sale : Plays g w sale_turns true w2
    sale = five_plays g w w1 w2 w2 w2 w2 (Turn.Bid 0) (Turn.PersonPost 0) (Turn.ObjectTake 0) (Turn.ObjectPost 0) (Turn.ObjectPost 0) TurnReply.Moved TurnReply.Moved TurnReply.Nothing TurnReply.Nothing TurnReply.Nothing turn1 turn2 take answer answer

    heard : Hears g w2
    heard = hears_any g known w2 reached2 (4 * g.persons) most going.shows.mails.heard going.shows.mails.letters going.shows.mails.persons

    abbrev hub2 : Mail Letter
    hub2 = one_box nodes most (lane (0 + 1) []) (lane c [])

    takes : Takes heard.world.hub_mail 0 0 (0 + 1) stop hub2
    takes = step_at heard.world.hub_mail hub1 (Call.Take 0) (Reply.Took (Taken.Letter 0 (0 + 1) stop)) hub2 heard.hub (take_first nodes most 0 [] (lane c []) stop)

    abbrev w4 : World
    w4 = hub_after g stop (record heard.world { hub_mail = hub2 })

    turn4 : Turned g heard.world Turn.HubTake TurnReply.Moved w4
    turn4 = HubTakeTurn.takes 0 (0 + 1) stop hub2 takes refl refl

    pub stop_ends : StopEnds g start s why
    stop_ends =
        let later = two_plays g w2 heard.world w4 (Turn.PersonTake 0) Turn.HubTake heard.reply TurnReply.Moved heard.turned turn4 in
        let moved = true || (has_moved heard.reply || true) in
        let whole = plays_join g w sale_turns (Turn.PersonTake 0 ∷ Turn.HubTake ∷ []) w2 w4 true (has_moved heard.reply || true) sale later in
        record {
          rounds = suc going.rounds;
          world = w4;
          led = record { mid = w; moved = moved; before = going.led; unended = unended; played = subst (λ (n : ℕ). Plays g w (round_of n) moved w4) (sym one) whole };
          reached = reached_turn g heard.world w4 Turn.HubTake TurnReply.Moved heard.reached turn4;
          end = ap (λ (e : Option End). first_end e (End.Stopped why)) (heard.end ∙ unended);
          price = λ j. ap (λ (f : ℕ → ℤ). f j) heard.price ∙ going.shows.price j;
          holder = λ j. ap (λ (f : ℕ → Option Held). f j) heard.holder ∙ going.shows.holder j;
        }

  -- no bid is left
  pub stops_for_bids : (i : ℕ) → s.idle ≡ i ∷ drop 1 s.idle → s.bids ≡ 0 → StopEnds g start s Why.Bids
  stops_for_bids i first none = stop_ends i first Why.Bids (going.shows.bids ∙ none)

  -- the person would bid above the greatest price
  pub stops_at_ceiling : (i : ℕ) → s.idle ≡ i ∷ drop 1 s.idle → s.bids ≢ 0 → (arc : RowArc) (amount : ℤ) → IsBid (scale g) g.spread g.eps (copy_in s.copies) (g.row i) arc amount → pos (2 ^ 61) <ℤ amount → StopEnds g start s Why.Ceiling
  stops_at_ceiling i first some arc amount bids high =
      let left : w.bids_left 0 ≢ 0 = λ e. some (sym going.shows.bids ∙ e) in
      let there : IsBid (scale g) g.spread g.eps (w.copy 0) (g.row i) arc amount = (let same : w.copy 0 ≡ copy_in s.copies = (λ c k. going.shows.copy k c) in rw same bids) in
      stop_ends i first Why.Ceiling (record { left = left; arc = arc; amount = amount; bid = there; above = high })

  -- ---- some person is free, or a notice waits for the persons

  at_first : (P : ℕ → Type 0) (q : ℕ) → q < g.shards → P 0 → P q
  at_first P q l here = subst P (let only : 0 ≡ q = omega (arith, one, l) in only) here

  pub never_still : s.idle ≡ [] → s.notices ≡ [] → ⊥
  never_still none silent =
      let bid : Turned g w (Turn.Bid 0) TurnReply.Nothing w = BidTurn.barred (inr (inr (inr (going.shows.idle ∙ none)))) refl refl in
      let post : Turned g w (Turn.PersonPost 0) TurnReply.Nothing w = PostTurn.no_letter (inr going.shows.person_out) refl refl in
      let take : Turned g w (Turn.ObjectTake 0) TurnReply.Nothing w = ObjectTakeTurn.no_letter (inr (inr (subst (λ (m : Mail Letter). TakesNone m 0) (sym going.shows.mails.objects) (gives_nothing g.persons most going.shows.mails.taken 0)))) refl refl in
      let answer : Turned g w (Turn.ObjectPost 0) TurnReply.Nothing w = PostTurn.no_letter (inr going.shows.object_out) refl refl in
      let empty : going.shows.mails.letters ≡ [] = no_letters going.shows.mails.letters (sym (notices_many s.notices going.shows.mails.letters going.shows.mails.tells) ∙ ap (λ (ts : List Notice). length ts) silent) in
      let mail : w.persons_mail ≡ one_box (4 * g.persons) most (lane 0 []) (lane going.shows.mails.heard []) = going.shows.mails.persons ∙ ap (λ (ls : List Letter). one_box (4 * g.persons) most blank_lane (lane going.shows.mails.heard ls)) empty in
      let hear : Turned g w (Turn.PersonTake 0) TurnReply.Nothing w = PersonTakeTurn.no_letter (inr (subst (λ (m : Mail Letter). TakesNone m 0) (sym mail) (gives_nothing (4 * g.persons) most 0 going.shows.mails.heard))) refl refl in
      let count : Turned g w Turn.HubTake TurnReply.Nothing w = HubTakeTurn.no_letter (subst (λ (m : Mail Letter). TakesNone m 0) (sym hub_is) (gives_nothing nodes most 0 c)) refl refl in
      let rests : Rests g w = record {
        bids = λ q l. at_first (λ (k : ℕ). Turned g w (Turn.Bid k) TurnReply.Nothing w) q l bid;
        person_posts = λ q l. at_first (λ (k : ℕ). Turned g w (Turn.PersonPost k) TurnReply.Nothing w) q l post;
        object_takes = λ q l. at_first (λ (k : ℕ). Turned g w (Turn.ObjectTake k) TurnReply.Nothing w) q l take;
        object_posts = λ q l. at_first (λ (k : ℕ). Turned g w (Turn.ObjectPost k) TurnReply.Nothing w) q l answer;
        person_takes = λ q l. at_first (λ (k : ℕ). Turned g w (Turn.PersonTake k) TurnReply.Nothing w) q l hear;
        hub_takes = count;
      } in
      rests_ended g going.reached.start w going.reached.turns going.reached.lawful (omega (arith, more)) going.reached.starts going.reached.leads rests unended
