-- A phase with one shard of each kind: what a round of it makes of the world is what its turns make.
use Rattle.std.proofs.Common.{ℕ, suc, ◌*◌, ◌<◌, ◌≤◌, ◌≡◌, ◌≢◌, ◌⊎◌, ◌^◌, refl, arith, true, false, List, [], ◌∷◌, Some, None, drop, length, cond, inl, inr, sym, ap, subst, ◌∙◌}
use Rattle.std.specs.Prelude.{ℤ, pos, ◌≤ℤ◌, ◌||◌, slice_index_or}
use Rattle.std.proofs.lemmas.Bool.{ne_eqb}
use Rattle.std.proofs.lemmas.Bool.Decides.{nat_tests}
use Rattle.std.proofs.lemmas.Int.{ints}
use Rattle.auc_graph.specs.Bid.{IsBid}
use Rattle.auc_graph.specs.declared.rows.RowArc.{RowArc}
use Rattle.auc_letters.specs.declared.letter.Letter.{Letter}
use Rattle.auc_letters.specs.declared.letter.Bid.{Bid}
use Rattle.auc_letters.specs.declared.state.PersonState.{PersonState}
use Rattle.auc_graph.specs.Price.{IsPrice}
use Rattle.auc_mail.specs.Mail.{Mail}
use Rattle.auc_model.specs.Bidding.{BidTurn}
use Rattle.auc_model.specs.Mails.{TakesNone}
use Rattle.auc_model.specs.Posting.{PostTurn}
use Rattle.auc_model.specs.Schedule.{Turned}
use Rattle.auc_model.specs.Selling.{ObjectTakeTurn}
use Rattle.auc_model.specs.Start.{free_in, occurs}
use Rattle.auc_model.specs.World.{Phase, World, scale}
use Rattle.auc_model.specs.declared.turn.End.{End}
use Rattle.auc_model.specs.declared.turn.Turn.{Turn}
use Rattle.auc_model.specs.declared.turn.TurnReply.{TurnReply}
use Rattle.auc_model.proofs.Idle.{idle_facts}
use Rattle.auc_model.proofs.Reached.{kept_reached}
use Rattle.auc_model.proofs.Theorems.{of_every_schedule}
use Rattle.auc_persons.specs.Scan.{copy_in}
use Rattle.auc_world.specs.declared.single_shard.notice.Notice.{Notice}
use Rattle.auc_world.specs.SingleState.{SingleState, AreNoticesOf, Going, Halfway, IsNoticeOf, end_at, heard, nobody, sale_turns, sold}
use Rattle.auc_machine.specs.Rounds.{Plays, has_moved, round_of}
use Rattle.auc_world.proofs.SingleCounting.{CountEnds, counting}
use Rattle.auc_world.proofs.SingleHearing.{HearEnds, fits, hearing}
use Rattle.auc_world.proofs.SingleMails.{gives_nothing, notices_many}
use Rattle.auc_world.proofs.SingleSales.{SaleEnds, bid_ends}
use Rattle.auc_world.proofs.Distinct.{at_most, occurs_here}
use Rattle.auc_machine.proofs.RoundLaws.{five_plays, plays_join, two_plays}

-- the notices that wait for the persons fit the world
pub record TellsRight (g : Phase) (s : SingleState) (t : Notice) : Type 0 where
  pub object : t.object < g.objects
  pub price : IsPrice t.price
  pub rises : copy_in s.copies t.object ≤ℤ t.price
  pub freed : (t.freed ≡ nobody) ⊎ (t.freed < g.persons)
  pub room : length (heard s t).idle ≤ g.persons

-- some person is without an object before the last one is sold
pub not_ended : (count persons : ℕ) → count < persons → end_at count persons ≡ None
not_ended count persons l = ap (λ b. cond b (Some End.All) None) (ne_eqb count persons (λ same. omega (arith, l, same)))

free_once : (g : Phase) (t : PersonState) (s i : ℕ) → free_in g t s i ≤ 1
free_once g t s i = grind arith

free_below : (g : Phase) (t : PersonState) (s i : ℕ) → g.persons ≤ i → free_in g t s i ≡ 0
free_below g t s i l = grind (arith, nat_tests)

module _ (g : Phase) (one : g.shards ≡ 1) (small : g.persons < nobody) (start : World) (allowed most : ℕ) (enough : 2 * allowed < most) (s : SingleState) where
  known : 0 < g.shards
  known = omega (arith, one)

  unended : (going : Going g start allowed most s) → s.count < g.persons → going.world.end ≡ None
  unended going more = going.end ∙ not_ended s.count g.persons more

  halfway_by : (going : Going g start allowed most s) → s.count < g.persons → (t : SingleState) → SaleEnds g allowed most going.world t → Halfway g start allowed most t
  halfway_by going more t ends = record {
    rounds = going.rounds;
    before = going.world;
    led = going.led;
    unended = unended going more;
    moved = true;
    world = ends.world;
    played = ends.played;
    reached = ends.reached;
    firsts = ends.firsts;
    few = ends.few;
    shows = ends.shows;
    still = ends.still;
    unsold = ends.unsold;
  }

  -- the only person shard bids, and the only object shard answers
  pub sells : (bid : Bid) (arc : RowArc) → Going g start allowed most s → s.count < g.persons → s.idle ≡ bid.person ∷ drop 1 s.idle → s.bids ≢ 0
      → arc.object ≡ bid.object → arc.arc ≡ bid.arc → IsBid (scale g) g.spread g.eps (copy_in s.copies) (g.row bid.person) arc bid.amount → bid.amount ≤ℤ pos (2 ^ 61)
      → Halfway g start allowed most (sold g.eps s bid)
  sells bid arc going more first left object place bids high =
      let same : record { person = bid.person; arc = arc.arc; object = arc.object; amount = bid.amount } ≡ bid = (λ c. record { person = bid.person; arc = place c; object = object c; amount = bid.amount }) in
      let ends = bid_ends g one allowed most enough s going.world going.reached going.shows (unended going more) bid.person arc bid.amount first left bids high more in
      halfway_by going more (sold g.eps s bid) (subst (λ (b : Bid). SaleEnds g allowed most going.world (sold g.eps s b)) same ends)

  -- no person is free
  pub rests : Going g start allowed most s → s.count < g.persons → s.idle ≡ [] → Halfway g start allowed most s
  rests going more none =
      let w = going.world in
      let n = going.shows.mails.taken in
      let bid : Turned g w (Turn.Bid 0) TurnReply.Nothing w = BidTurn.barred (inr (inr (inr (going.shows.idle ∙ none)))) refl refl in
      let post : Turned g w (Turn.PersonPost 0) TurnReply.Nothing w = PostTurn.no_letter (inr going.shows.person_out) refl refl in
      let empty : TakesNone w.objects_mail 0 = subst (λ (m : Mail Letter). TakesNone m 0) (sym going.shows.mails.objects) (gives_nothing g.persons most n 0) in
      let take : Turned g w (Turn.ObjectTake 0) TurnReply.Nothing w = ObjectTakeTurn.no_letter (inr (inr empty)) refl refl in
      let answer : Turned g w (Turn.ObjectPost 0) TurnReply.Nothing w = PostTurn.no_letter (inr going.shows.object_out) refl refl in
      record {
        rounds = going.rounds;
        before = w;
        led = going.led;
        unended = unended going more;
        moved = false;
        world = w;
        played = five_plays g w w w w w w (Turn.Bid 0) (Turn.PersonPost 0) (Turn.ObjectTake 0) (Turn.ObjectPost 0) (Turn.ObjectPost 0) TurnReply.Nothing TurnReply.Nothing TurnReply.Nothing TurnReply.Nothing TurnReply.Nothing bid post take answer answer;
        reached = going.reached;
        firsts = 0;
        few = omega arith;
        shows = going.shows;
        still = unended going more;
        unsold = λ e. more;
      }

  -- the end of a round
  round_ends : (half : Halfway g start allowed most s) (t : SingleState) (hears : HearEnds g allowed most half.world half.firsts t) → CountEnds g allowed most hears.world t → Going g start allowed most t
  round_ends half t hears counts =
      let heard_turns = two_plays g half.world hears.world counts.world (Turn.PersonTake 0) Turn.HubTake hears.reply counts.reply hears.turned counts.turned in
      let moved = half.moved || (has_moved hears.reply || has_moved counts.reply) in
      let whole = plays_join g half.before sale_turns (Turn.PersonTake 0 ∷ Turn.HubTake ∷ []) half.world counts.world half.moved (has_moved hears.reply || has_moved counts.reply) half.played heard_turns in
      record {
        rounds = suc half.rounds;
        world = counts.world;
        led = record { mid = half.before; moved = moved; before = half.led; unended = half.unended; played = subst (λ (n : ℕ). Plays g half.before (round_of n) moved counts.world) (sym one) whole };
        reached = counts.reached;
        shows = counts.shows;
        end = counts.end;
      }

  -- the only person shard takes a letter, and the hub counts
  pub hears : (t : Notice) → Halfway g start allowed most s → s.notices ≡ t ∷ drop 1 s.notices → Going g start allowed most (heard s t)
  hears t half first =
      let ends = hearing g one small allowed most s half.world half.reached half.firsts half.shows half.still t (drop 1 s.notices) first in
      round_ends half (heard s t) ends (counting g one allowed most (heard s t) ends.world ends.reached ends.still half.firsts half.few half.unsold ends.shows)

  pub notices_fit : Halfway g start allowed most s → length s.notices ≤ 4 * g.persons
  notices_fit half = let same = notices_many s.notices half.shows.mails.letters half.shows.mails.tells in let room = half.shows.mails.room in omega (arith, same, room)

  pub price_fits : Going g start allowed most s → (j : ℕ) → IsPrice (slice_index_or s.prices j (pos 0))
  price_fits going j = subst IsPrice (going.shows.price j) ((kept_reached g going.world going.reached).inv.price_range j)

  pub copy_fits : Going g start allowed most s → (j : ℕ) → IsPrice (copy_in s.copies j)
  copy_fits going j =
      let kept = kept_reached g going.world going.reached in
      let low = kept.inv.copy_range 0 j in
      let high = (kept.inv.price_range j).high in
      let below = (of_every_schedule g going.world going.reached).copies_low 0 j in
      subst IsPrice (going.shows.copy j) (record { low = low; high = omega (arith, ints, below, high) })

  -- each free person is there once
  idle_fits : Going g start allowed most s → length s.idle ≤ g.persons
  idle_fits going =
      let kept = kept_reached g going.world going.reached in
      let each = λ (i : ℕ). kept.inv.idle_is 0 i in
      let few = at_most g.persons (going.world.idle 0) (λ i. rw (each i) (free_once g (going.world.state i) 0 i)) (λ i l. each i ∙ free_below g (going.world.state i) 0 i l) in
      subst (λ (xs : List ℕ). length xs ≤ g.persons) going.shows.idle few

  pub idle_is : (i : ℕ) → Going g start allowed most s → s.idle ≡ i ∷ drop 1 s.idle → i < g.persons
  idle_is i going first =
      let kept = kept_reached g going.world going.reached in
      let here : suc (occurs i (drop 1 s.idle)) ≡ free_in g (going.world.state i) 0 i = sym (ap (occurs i) (going.shows.idle ∙ first) ∙ occurs_here i (drop 1 s.idle)) ∙ kept.inv.idle_is 0 i in
      (idle_facts g (going.world.state i) 0 i (occurs i (drop 1 s.idle)) here).known

  -- ---- what the persons hear fits

  module _ (t : Notice) (half : Halfway g start allowed most s) (first : s.notices ≡ t ∷ drop 1 s.notices) where
    room_then : length (heard s t).idle ≤ g.persons
    room_then = idle_then (hears t half first)
      where
        idle_then : Going g start allowed most (heard s t) → length (heard s t).idle ≤ g.persons
        idle_then going =
            let kept = kept_reached g going.world going.reached in
            let each = λ (i : ℕ). kept.inv.idle_is 0 i in
            let few = at_most g.persons (going.world.idle 0) (λ i. rw (each i) (free_once g (going.world.state i) 0 i)) (λ i l. each i ∙ free_below g (going.world.state i) 0 i l) in
            subst (λ (xs : List ℕ). length xs ≤ g.persons) going.shows.idle few

    copy_here : (j : ℕ) (p : ℤ) → t.object ≡ j → t.price ≡ p → half.world.copy 0 j ≤ℤ p → copy_in s.copies t.object ≤ℤ t.price
    copy_here j p object price rises = rw (object, price) (subst (λ (v : ℤ). v ≤ℤ p) (half.shows.copy j) rises)

    price_here : (p : ℤ) → t.price ≡ p → IsPrice p → IsPrice t.price
    price_here p e is = rw e is

    right_by : (l : Letter) (ls : List Letter) → half.shows.mails.letters ≡ l ∷ ls → IsNoticeOf t l → AreNoticesOf (drop 1 s.notices) ls → TellsRight g s t
    right_by (Letter.Award i j p) ls e is are =
        let both = fits g one small allowed most s half.world half.reached half.firsts half.shows half.still t (drop 1 s.notices) first (Letter.Award i j p) ls e is are in
        record { object = rw is.object both.0.object; price = price_here p is.price both.0.price; rises = copy_here j p is.object is.price both.1; freed = inl is.freed_is; room = room_then }
    right_by (Letter.Refused i j p) ls e is are =
        let both = fits g one small allowed most s half.world half.reached half.firsts half.shows half.still t (drop 1 s.notices) first (Letter.Refused i j p) ls e is are in
        record { object = rw is.object both.0.object; price = price_here p is.price both.0.price; rises = copy_here j p is.object is.price both.1; freed = inr (rw is.freed_is both.0.person); room = room_then }
    right_by (Letter.Outbid i j p) ls e is are =
        let both = fits g one small allowed most s half.world half.reached half.firsts half.shows half.still t (drop 1 s.notices) first (Letter.Outbid i j p) ls e is are in
        record { object = rw is.object both.0.object; price = price_here p is.price both.0.price; rises = copy_here j p is.object is.price both.1; freed = inr (rw is.freed_is both.0.person); room = room_then }
    right_by (Letter.Price j p) ls e is are = absurd is
    right_by (Letter.Bid i a j p) ls e is are = absurd is
    right_by (Letter.First j) ls e is are = absurd is
    right_by (Letter.Stop y) ls e is are = absurd is

    by_letters : (ls : List Letter) → half.shows.mails.letters ≡ ls → AreNoticesOf (t ∷ drop 1 s.notices) ls → TellsRight g s t
    by_letters [] e all = absurd all
    by_letters (l ∷ ls) e all = right_by l ls e all.0 all.1

    pub tells_right : TellsRight g s t
    tells_right = by_letters half.shows.mails.letters refl (subst (λ (us : List Notice). AreNoticesOf us half.shows.mails.letters) first half.shows.mails.tells)
