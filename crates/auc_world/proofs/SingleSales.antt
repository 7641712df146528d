-- A bid of the only shard of the persons, and its answers by the only one of the objects: five turns, and what is kept
-- after them.
use Rattle.std.proofs.Common.{ℕ, ◌+◌, ◌-◌, ◌*◌, ◌%◌, ◌<◌, ◌≤◌, ◌≡◌, ◌≢◌, ◌^◌, refl, arith, Bool, true, false, List, [], ◌∷◌, ◌++◌, Option, Some, None, drop, length, get_or, set, cond, inl, inr, sym, ap, subst, ◌∙◌, length-set, append_assoc}
use Rattle.std.specs.Prelude.{ℤ, pos, ◌≤ℤ◌, ◌<ℤ◌, int_le}
use Rattle.std.proofs.lemmas.Bool.{cases_eq}
use Rattle.std.proofs.lemmas.Int.{by_lt_z, ints}
use Rattle.std.proofs.lemmas.List.{get_or-set_same, get_or-set_other, length-append}
use Rattle.auc_graph.specs.Bid.{IsBid}
use Rattle.auc_graph.specs.declared.rows.RowArc.{RowArc}
use Rattle.auc_letters.specs.declared.letter.Letter.{Letter}
use Rattle.auc_letters.specs.declared.letter.Bid.{Bid}
use Rattle.auc_letters.specs.declared.out.Out.{Out}
use Rattle.auc_letters.specs.declared.out.To.{To}
use Rattle.auc_letters.specs.declared.state.Held.{Held}
use Rattle.auc_letters.specs.Award.{Sale, awards, bid_out, least_amount, refusal}
use Rattle.auc_letters.specs.Routing.{to_hub, to_person}
use Rattle.auc_mail.specs.Mail.{Mail, blank_lane, free_of}
use Rattle.auc_mail.specs.Step.{Step}
use Rattle.auc_mail.specs.declared.call.Call.{Call}
use Rattle.auc_mail.specs.declared.call.Reply.{Reply}
use Rattle.auc_model.specs.Bidding.{BidTurn, after_bid}
use Rattle.auc_model.specs.Mails.{PersonShard, Takes, with_mail, with_outbox}
use Rattle.auc_model.specs.Posting.{PostTurn}
use Rattle.auc_model.specs.Put.{put}
use Rattle.auc_model.specs.Schedule.{Reached, Turned}
use Rattle.auc_model.specs.Selling.{FitsBid, ObjectTakeTurn}
use Rattle.auc_model.specs.Start.{UsualNodes}
use Rattle.auc_model.specs.World.{Phase, World, scale}
use Rattle.auc_model.specs.declared.turn.Turn.{Turn}
use Rattle.auc_model.specs.declared.turn.TurnReply.{TurnReply}
use Rattle.auc_model.proofs.Places.{put_at, put_off}
use Rattle.auc_model.proofs.Reached.{kept_reached, reached_turn, sells_well}
use Rattle.auc_model.proofs.Selling.{after_accepted, after_declined}
use Rattle.auc_persons.specs.Scan.{copy_in}
use Rattle.auc_world.specs.declared.single_shard.notice.Notice.{Notice}
use Rattle.auc_world.specs.SingleState.{SingleState, AreFirsts, AreNoticesOf, Shows, awarded, first_of, frees, lane, one_box, sale_at, sale_turns, sold, notices_of_sale}
use Rattle.auc_machine.specs.Rounds.{Plays}
use Rattle.auc_world.proofs.SingleMails.{answer_fits, answer_turn, first_turn, one_first, post_first, post_turn, room_for, step_at, take_first, notices_one}
use Rattle.auc_machine.proofs.RoundLaws.{five_plays}

-- ---- lists in place of functions

pub set_shows : {X : Type 0} (f : ℕ → X) (xs : List X) (d : X) (j : ℕ) (v : X) → ((k : ℕ) → f k ≡ get_or xs k d) → j < length xs → (k : ℕ) → put f j v k ≡ get_or (set xs j v) k d
set_shows f xs d j v shows l k =
    elim (cases_eq k j) [
      | inl e ↦ put_at f j v k e ∙ sym (ap (λ n. get_or (set xs j v) n d) e ∙ get_or-set_same xs j v d l)
      | inr n ↦ put_off f j v k n ∙ (shows k ∙ sym (get_or-set_other xs j k v d n))
    ]

-- an entry that is set to what it is
pub same_shows : {X : Type 0} (f : ℕ → X) (xs : List X) (d : X) (j : ℕ) → ((k : ℕ) → f k ≡ get_or xs k d) → j < length xs → (k : ℕ) → f k ≡ get_or (set xs j (get_or xs j d)) k d
same_shows f xs d j shows l k =
    elim (cases_eq k j) [
      | inl e ↦ shows k ∙ (ap (λ n. get_or xs n d) e ∙ sym (ap (λ n. get_or (set xs j (get_or xs j d)) n d) e ∙ get_or-set_same xs j (get_or xs j d) d l))
      | inr n ↦ shows k ∙ sym (get_or-set_other xs j k (get_or xs j d) d n)
    ]

-- ---- what a bid makes of what is kept, by cases

-- with this sale of the object, these notices, and this number more sold for the first time
abbrev pub sold_as : SingleState → ℕ → Sale → List Notice → ℕ → SingleState
sold_as s j sale notices firsts = record s {
  prices = set s.prices j sale.price;
  holders = set s.holders j sale.holder;
  notices = s.notices ++ notices;
  idle = drop 1 s.idle;
  bids = s.bids - 1;
  count = s.count + firsts;
}

module _ (s : SingleState) (eps : ℤ) (bid : Bid) where
  abbrev here : Sale
  here = sale_at s bid.object

  abbrev by_case : Bool → SingleState
  by_case accepted = sold_as s bid.object (cond accepted (record { price = bid.amount; holder = Some (record { person = bid.person; arc = bid.arc }) }) here)
      (cond accepted (notices_of_sale here.holder bid.object bid.amount) (frees bid.person bid.object here.price ∷ []))
      (cond accepted (first_of here.holder) 0)

  pub sold_declined : bid.amount <ℤ least_amount here.price eps → sold eps s bid ≡ sold_as s bid.object here (frees bid.person bid.object here.price ∷ []) 0
  sold_declined low = let no : int_le (least_amount here.price eps) bid.amount ≡ false = grind (arith, ints) in ap by_case no

  pub sold_accepted : least_amount here.price eps ≤ℤ bid.amount
      → sold eps s bid ≡ sold_as s bid.object (record { price = bid.amount; holder = Some (record { person = bid.person; arc = bid.arc }) }) (notices_of_sale here.holder bid.object bid.amount) (first_of here.holder)
  sold_accepted enough = let yes : int_le (least_amount here.price eps) bid.amount ≡ true = grind (arith, ints) in ap by_case yes

-- ---- the turns

-- how a bid ends
pub record SaleEnds (g : Phase) (allowed most : ℕ) (w : World) (t : SingleState) : Type 0 where
  pub world : World
  pub played : Plays g w sale_turns true world
  pub reached : Reached g world
  pub firsts : ℕ
  pub few : firsts ≤ 1
  pub shows : Shows g allowed most t firsts world
  pub still : world.end ≡ None
  pub unsold : firsts ≡ 0 → t.count < g.persons

module _ (g : Phase) (one : g.shards ≡ 1) (allowed most : ℕ) (enough : 2 * allowed < most) (s : SingleState) (w : World) (reached : Reached g w) (shows : Shows g allowed most s 0 w) (end : w.end ≡ None)
    (i : ℕ) (arc : RowArc) (amount : ℤ) (first : s.idle ≡ i ∷ drop 1 s.idle) (left : s.bids ≢ 0) (bids_it : IsBid (scale g) g.spread g.eps (copy_in s.copies) (g.row i) arc amount) (high : amount ≤ℤ pos (2 ^ 61)) where
  abbrev rest : List ℕ
  rest = drop 1 s.idle

  abbrev bid : Bid
  bid = record { person = i; arc = arc.arc; object = arc.object; amount = amount }

  abbrev j : ℕ
  j = arc.object

  abbrev n : ℕ
  n = shows.mails.taken

  abbrev letter : Letter
  letter = Letter.Bid i arc.arc j amount

  known : 0 < g.shards
  known = omega (arith, one)

  only : (k : ℕ) → k % g.shards ≡ 0
  only k = rw one (omega arith)

  -- Bid
  abbrev w1 : World
  w1 = after_bid g w 0 i rest arc amount

  has_bids : w.bids_left 0 ≢ 0
  has_bids = λ e. left (sym shows.bids ∙ e)

  bids_there : IsBid (scale g) g.spread g.eps (w.copy 0) (g.row i) arc amount
  bids_there = let same : w.copy 0 ≡ copy_in s.copies = (λ c k. shows.copy k c) in rw same bids_it

  turn1 : Turned g w (Turn.Bid 0) TurnReply.Moved w1
  turn1 = BidTurn.bids i rest arc amount (record { known = known; empty = shows.person_out; going = shows.going; first = shows.idle ∙ first }) has_bids bids_there high refl refl

  reached1 : Reached g w1
  reached1 = reached_turn g w w1 (Turn.Bid 0) TurnReply.Moved reached turn1

  -- PersonPost
  abbrev o1 : Out
  o1 = record { letter = letter; to = To.Object 0; reserve = 0 }

  posted_first : bid_out g.shards bid ∷ [] ≡ o1 ∷ []
  posted_first = ap (λ (q : ℕ). let o : Out = record { letter = letter; to = To.Object q; reserve = 0 } in o ∷ []) (only j)

  usual : UsualNodes g w1
  usual = record {
    objects = ap (λ (m : Mail Letter). m.nodes) shows.mails.objects;
    persons = ap (λ (m : Mail Letter). m.nodes) shows.mails.persons;
    hub = ap (λ (m : Mail Letter). m.nodes) shows.mails.hub ∙ omega (arith, one);
  }

  abbrev m1 : Mail Letter
  m1 = one_box g.persons most (lane n (letter ∷ [])) blank_lane

  room1 : 0 < free_of w.objects_mail
  room1 = room_for g w1 reached1 usual (PersonShard 0) o1 [] known posted_first refl

  few1 : n + 0 < most
  few1 = let a = shows.mails.few in omega (arith, a, enough)

  step1 : Step w.objects_mail (Call.Post 0 0 letter 0) (Reply.Posted (n + 0 + 1)) m1
  step1 =
      let room : 0 < free_of (one_box g.persons most (lane n []) blank_lane) = rw shows.mails.objects at room1 in
      step_at w.objects_mail (one_box g.persons most (lane n []) blank_lane) (Call.Post 0 0 letter 0) (Reply.Posted (n + 0 + 1)) m1 shows.mails.objects (post_first g.persons most n [] blank_lane letter few1 room)

  abbrev w2 : World
  w2 = with_outbox (with_mail w1 (To.Object 0) m1) (PersonShard 0) []

  turn2 : Turned g w1 (Turn.PersonPost 0) TurnReply.Moved w2
  turn2 = post_turn g w1 (PersonShard 0) o1 [] (n + 0 + 1) m1 known posted_first step1

  reached2 : Reached g w2
  reached2 = reached_turn g w1 w2 (Turn.PersonPost 0) TurnReply.Moved reached1 turn2

  -- ObjectTake
  abbrev m2 : Mail Letter
  m2 = one_box g.persons most (lane (n + 1) []) blank_lane

  taken : Takes m1 0 0 (n + 1) letter m2
  taken = take_first g.persons most n [] blank_lane letter

  fits : FitsBid g 0 letter
  fits = sells_well g w2 reached.lawful (kept_reached g w2 reached2) 0 0 (n + 1) letter m2 taken

  abbrev to_only : Letter → Out
  to_only l = record { letter = l; to = To.Person 0; reserve = 0 }

  pub object_known : j < g.objects
  object_known = fits.object

  abbrev answered : Sale → List Out → World
  answered sale letters = record w2 { objects_mail = m2; price = put w2.price j sale.price; holder = put w2.holder j sale.holder; object_out = put w2.object_out 0 letters }

  -- ---- what is kept after the turns

  abbrev k : ℕ
  k = shows.mails.heard

  abbrev c : ℕ
  c = shows.mails.counted

  abbrev ls : List Letter
  ls = shows.mails.letters

  -- with these prices and holders, these two mails, and this in the outboxes of the objects
  abbrev behind : (ℕ → ℤ) → (ℕ → Option Held) → Mail Letter → Mail Letter → (ℕ → List Out) → World
  behind price holder persons hub out = record w2 { objects_mail = m2; price = price; holder = holder; persons_mail = persons; hub_mail = hub; object_out = out }

  module _ (sale : Sale) (notices : List Notice) (firsts : ℕ) (price : ℕ → ℤ) (holder : ℕ → Option Held) (persons hub : Mail Letter) (out : ℕ → List Out) (notice_letters ws : List Letter) where
    shown : ((l : ℕ) → price l ≡ get_or (set s.prices j sale.price) l (pos 0)) → ((l : ℕ) → holder l ≡ get_or (set s.holders j sale.holder) l None) → out 0 ≡ []
        → persons ≡ one_box (4 * g.persons) most blank_lane (lane k notice_letters) → AreNoticesOf (s.notices ++ notices) notice_letters → length notice_letters ≤ 4 * g.persons → length notice_letters ≤ length shows.mails.letters + 2
        → hub ≡ one_box (g.persons + 2) most blank_lane (lane c ws) → AreFirsts ws → length ws ≡ firsts → length ws ≤ length shows.mails.waiting + 1 → s.count + firsts ≤ g.persons
        → Shows g allowed most (sold_as s j sale notices firsts) firsts (behind price holder persons hub out)
    shown prices holders empty persons_is tells room few hub_is are many few_ws within = record {
      price = prices;
      holder = holders;
      copy = shows.copy;
      idle = refl;
      bids = ap (λ b. b - 1) shows.bids;
      going = shows.going;
      person_out = refl;
      object_out = empty;
      mails = record {
        taken = n + 1;
        objects = refl;
        few = (let a = shows.mails.few in omega (arith, a, left));
        heard = k;
        letters = notice_letters;
        persons = persons_is;
        tells = tells;
        room = room;
        few_notices = (let a = shows.mails.few_notices in omega (arith, a, left, few));
        counted = c;
        waiting = ws;
        hub = hub_is;
        are_firsts = are;
        many = many;
        few_firsts = (let a = shows.mails.few_firsts in omega (arith, a, left, few_ws));
      };
      count = (let a = shows.count in omega (arith, a));
      prices_are = length-set s.prices j sale.price ∙ shows.prices_are;
      holders_are = length-set s.holders j sale.holder ∙ shows.holders_are;
      copies_are = shows.copies_are;
      within = within;
    }

  in_prices : j < length s.prices
  in_prices = let a = shows.prices_are in omega (arith, object_known, a)

  in_holders : j < length s.holders
  in_holders = let a = shows.holders_are in omega (arith, object_known, a)

  played_by : (w3 w4 w5 : World) (last : TurnReply) → Turned g w2 (Turn.ObjectTake 0) TurnReply.Moved w3 → Turned g w3 (Turn.ObjectPost 0) TurnReply.Moved w4 → Turned g w4 (Turn.ObjectPost 0) last w5 → Plays g w sale_turns true w5
  played_by w3 w4 w5 last take post again =
      five_plays g w w1 w2 w3 w4 w5 (Turn.Bid 0) (Turn.PersonPost 0) (Turn.ObjectTake 0) (Turn.ObjectPost 0) (Turn.ObjectPost 0) TurnReply.Moved TurnReply.Moved TurnReply.Moved TurnReply.Moved last turn1 turn2 take post again

  few_notices : k + length shows.mails.letters < most
  few_notices = let a = shows.mails.few_notices in omega (arith, a, left, enough)

  -- ---- too low a bid

  module _ (low : amount <ℤ least_amount (w.price j) g.eps) (more : s.count < g.persons) where
    abbrev refused : Letter
    refused = Letter.Refused i j (w.price j)

    abbrev w3 : World
    w3 = record w2 { objects_mail = m2; object_out = put w2.object_out 0 (refusal g.shards i j (w.price j)) }

    turn3 : Turned g w2 (Turn.ObjectTake 0) TurnReply.Moved w3
    turn3 = ObjectTakeTurn.answers_bid 0 (n + 1) bid m2 known shows.object_out taken fits refl (sym (after_declined g w2 0 m2 bid low))

    reached3 : Reached g w3
    reached3 = reached_turn g w2 w3 (Turn.ObjectTake 0) TurnReply.Moved reached2 turn3

    posted : refusal g.shards i j (w.price j) ≡ to_only refused ∷ []
    posted = ap (λ (q : ℕ). let o : Out = record { letter = refused; to = To.Person q; reserve = 0 } in o ∷ []) (only i)

    usual3 : UsualNodes g w3
    usual3 = record { objects = refl; persons = usual.persons; hub = usual.hub }

    abbrev w4 : World
    w4 = record w3 { persons_mail = one_box (4 * g.persons) most blank_lane (lane k (ls ++ refused ∷ [])); object_out = put w3.object_out 0 [] }

    turn4 : Turned g w3 (Turn.ObjectPost 0) TurnReply.Moved w4
    turn4 = answer_turn g one most w3 reached3 usual3 refused _ [] refl k ls shows.mails.persons few_notices refl posted

    turn5 : Turned g w4 (Turn.ObjectPost 0) TurnReply.Nothing w4
    turn5 = PostTurn.no_letter (inr refl) refl refl

    price_here : (sale_at s j).price ≡ w.price j
    price_here = sym (shows.price j)

    notices_here : AreNoticesOf (s.notices ++ frees i j (sale_at s j).price ∷ []) (ls ++ refused ∷ [])
    notices_here = notices_one s.notices ls (frees i j (sale_at s j).price) refused shows.mails.tells (record { price = price_here; object = refl; freed_is = refl })

    fits_here : length ls < 4 * g.persons
    fits_here = answer_fits g one most w3 reached3 usual3 refused _ [] refl k ls shows.mails.persons few_notices refl posted

    pub declined : SaleEnds g allowed most w (sold g.eps s bid)
    declined =
        let longer = length-append ls (refused ∷ []) in
        let is = sold_declined s g.eps bid (rw price_here low) in
        let none_waits = shows.mails.many in
        rw is (record {
          world = w4;
          played = played_by w3 w4 w4 TurnReply.Nothing turn3 turn4 turn5;
          reached = reached_turn g w3 w4 (Turn.ObjectPost 0) TurnReply.Moved reached3 turn4;
          firsts = 0;
          few = omega arith;
          shows = shown (sale_at s j) (frees i j (sale_at s j).price ∷ []) 0 w.price w.holder w4.persons_mail w.hub_mail w4.object_out (ls ++ refused ∷ []) shows.mails.waiting
              (same_shows w.price s.prices (pos 0) j shows.price in_prices) (same_shows w.holder s.holders None j shows.holder in_holders) refl
              refl notices_here (omega (arith, longer, fits_here)) (omega (arith, longer))
              shows.mails.hub shows.mails.are_firsts none_waits (omega arith) (let a = shows.within in omega (arith, a));
          still = end;
          unsold = λ e. omega (arith, more);
        })

  -- ---- a bid that is high enough

  abbrev held : Held
  held = record { person = i; arc = arc.arc }

  abbrev award : Letter
  award = Letter.Award i j amount

  award_to : (k : ℕ) (rest : List Out) → to_person g.shards i award ∷ rest ≡ to_only award ∷ rest
  award_to k rest = ap (λ (q : ℕ). let o : Out = record { letter = award; to = To.Person q; reserve = 0 } in o ∷ rest) (only i)

  -- the world when the only shard of the objects has sold the object, with these letters in its outbox
  abbrev sold_world : List Out → World
  sold_world letters = record w2 { objects_mail = m2; price = put w2.price j amount; holder = put w2.holder j (Some held); object_out = put w2.object_out 0 letters }

  abbrev sale : Sale
  sale = record { price = amount; holder = Some held }

  price_set : (l : ℕ) → put w.price j amount l ≡ get_or (set s.prices j amount) l (pos 0)
  price_set = set_shows w.price s.prices (pos 0) j amount shows.price in_prices

  holder_set : (l : ℕ) → put w.holder j (Some held) l ≡ get_or (set s.holders j (Some held)) l None
  holder_set = set_shows w.holder s.holders None j (Some held) shows.holder in_holders

  module _ (high_enough : least_amount (w.price j) g.eps ≤ℤ amount) where
    kept_high : least_amount (sale_at s j).price g.eps ≤ℤ amount
    kept_high = let same : (sale_at s j).price ≡ w.price j = sym (shows.price j) in rw same high_enough

    take_by : (h : Option Held) → w.holder j ≡ h → Turned g w2 (Turn.ObjectTake 0) TurnReply.Moved (sold_world (awards g.shards h i j amount))
    take_by h e =
        subst (λ (x : Option Held). Turned g w2 (Turn.ObjectTake 0) TurnReply.Moved (sold_world (awards g.shards x i j amount))) e
        (ObjectTakeTurn.answers_bid 0 (n + 1) bid m2 known shows.object_out taken fits refl (sym (after_accepted g w2 0 m2 bid high_enough)))

    kept_as : (h : Option Held) → w.holder j ≡ h → sold g.eps s bid ≡ sold_as s j sale (notices_of_sale h j amount) (first_of h)
    kept_as h e =
        let same : get_or s.holders j None ≡ h = sym (shows.holder j) ∙ e in
        sold_accepted s g.eps bid kept_high ∙ ap (λ (x : Option Held). sold_as s j sale (notices_of_sale x j amount) (first_of x)) same

    -- of an object without a holder
    module _ (none : w.holder j ≡ None) (more : s.count < g.persons) where
      abbrev f3 : World
      f3 = sold_world (awards g.shards None i j amount)

      reached_f3 : Reached g f3
      reached_f3 = reached_turn g w2 f3 (Turn.ObjectTake 0) TurnReply.Moved reached2 (take_by None none)

      usual_f3 : UsualNodes g f3
      usual_f3 = record { objects = refl; persons = usual.persons; hub = usual.hub }

      abbrev f4 : World
      f4 = record f3 { persons_mail = one_box (4 * g.persons) most blank_lane (lane k (ls ++ award ∷ [])); object_out = put f3.object_out 0 (to_hub (Letter.First j) ∷ []) }

      turn_f4 : Turned g f3 (Turn.ObjectPost 0) TurnReply.Moved f4
      turn_f4 = answer_turn g one most f3 reached_f3 usual_f3 award _ (to_hub (Letter.First j) ∷ []) refl k ls shows.mails.persons few_notices refl (award_to 0 (to_hub (Letter.First j) ∷ []))

      fits_f4 : length ls < 4 * g.persons
      fits_f4 = answer_fits g one most f3 reached_f3 usual_f3 award _ (to_hub (Letter.First j) ∷ []) refl k ls shows.mails.persons few_notices refl (award_to 0 (to_hub (Letter.First j) ∷ []))

      reached_f4 : Reached g f4
      reached_f4 = reached_turn g f3 f4 (Turn.ObjectPost 0) TurnReply.Moved reached_f3 turn_f4

      usual_f4 : UsualNodes g f4
      usual_f4 = record { objects = refl; persons = refl; hub = usual.hub }

      few_counted : c + length shows.mails.waiting < most
      few_counted = let a = shows.mails.few_firsts in omega (arith, a, left, enough)

      abbrev f5 : World
      f5 = record f4 { hub_mail = one_box (g.persons + 2) most blank_lane (lane c (shows.mails.waiting ++ Letter.First j ∷ [])); object_out = put f4.object_out 0 [] }

      turn_f5 : Turned g f4 (Turn.ObjectPost 0) TurnReply.Moved f5
      turn_f5 = first_turn g one most f4 reached_f4 usual_f4 j c shows.mails.waiting shows.mails.hub few_counted refl

      pub sells_first : SaleEnds g allowed most w (sold g.eps s bid)
      sells_first =
          let longer = length-append ls (award ∷ []) in
          let longer_hub = length-append shows.mails.waiting (Letter.First j ∷ []) in
          let one_more = shows.mails.many in
          subst (SaleEnds g allowed most w) (sym (kept_as None none)) (record {
            world = f5;
            played = played_by f3 f4 f5 TurnReply.Moved (take_by None none) turn_f4 turn_f5;
            reached = reached_turn g f4 f5 (Turn.ObjectPost 0) TurnReply.Moved reached_f4 turn_f5;
            firsts = 1;
            few = omega arith;
            shows = shown sale (awarded j amount ∷ []) 1 f5.price f5.holder f5.persons_mail f5.hub_mail f5.object_out (ls ++ award ∷ []) (shows.mails.waiting ++ Letter.First j ∷ [])
                price_set holder_set refl
                refl (notices_one s.notices ls (awarded j amount) award shows.mails.tells (record { price = refl; object = refl; freed_is = refl })) (omega (arith, longer, fits_f4)) (omega (arith, longer))
                refl (one_first shows.mails.waiting j shows.mails.are_firsts) (omega (arith, longer_hub, one_more)) (omega (arith, longer_hub)) (omega (arith, more));
            still = end;
            unsold = λ e. absurd (omega (arith, e));
          })

    -- that another has had
    module _ (old : Held) (some : w.holder j ≡ Some old) (more : s.count < g.persons) where
      abbrev outbid : Letter
      outbid = Letter.Outbid old.person j amount

      abbrev h3 : World
      h3 = sold_world (awards g.shards (Some old) i j amount)

      reached_h3 : Reached g h3
      reached_h3 = reached_turn g w2 h3 (Turn.ObjectTake 0) TurnReply.Moved reached2 (take_by (Some old) some)

      usual_h3 : UsualNodes g h3
      usual_h3 = record { objects = refl; persons = usual.persons; hub = usual.hub }

      outbid_to : awards g.shards (Some old) i j amount ≡ to_only outbid ∷ to_person g.shards i award ∷ []
      outbid_to = ap (λ (q : ℕ). let o : Out = record { letter = outbid; to = To.Person q; reserve = 0 } in o ∷ to_person g.shards i award ∷ []) (only old.person)

      abbrev h4 : World
      h4 = record h3 { persons_mail = one_box (4 * g.persons) most blank_lane (lane k (ls ++ outbid ∷ [])); object_out = put h3.object_out 0 (to_person g.shards i award ∷ []) }

      turn_h4 : Turned g h3 (Turn.ObjectPost 0) TurnReply.Moved h4
      turn_h4 = answer_turn g one most h3 reached_h3 usual_h3 outbid _ (to_person g.shards i award ∷ []) refl k ls shows.mails.persons few_notices refl outbid_to

      reached_h4 : Reached g h4
      reached_h4 = reached_turn g h3 h4 (Turn.ObjectPost 0) TurnReply.Moved reached_h3 turn_h4

      usual_h4 : UsualNodes g h4
      usual_h4 = record { objects = refl; persons = refl; hub = usual.hub }

      few_more : k + length (ls ++ outbid ∷ []) < most
      few_more = let a = shows.mails.few_notices in let b = length-append ls (outbid ∷ []) in omega (arith, a, b, left, enough)

      abbrev h5 : World
      h5 = record h4 { persons_mail = one_box (4 * g.persons) most blank_lane (lane k ((ls ++ outbid ∷ []) ++ award ∷ [])); object_out = put h4.object_out 0 [] }

      turn_h5 : Turned g h4 (Turn.ObjectPost 0) TurnReply.Moved h5
      turn_h5 = answer_turn g one most h4 reached_h4 usual_h4 award _ [] refl k (ls ++ outbid ∷ []) refl few_more refl (award_to 0 [])

      fits_h5 : length (ls ++ outbid ∷ []) < 4 * g.persons
      fits_h5 = answer_fits g one most h4 reached_h4 usual_h4 award _ [] refl k (ls ++ outbid ∷ []) refl few_more refl (award_to 0 [])

      notices_both : AreNoticesOf (s.notices ++ frees old.person j amount ∷ awarded j amount ∷ []) ((ls ++ outbid ∷ []) ++ award ∷ [])
      notices_both =
          let first_notice = notices_one s.notices ls (frees old.person j amount) outbid shows.mails.tells (record { price = refl; object = refl; freed_is = refl }) in
          let both = notices_one (s.notices ++ frees old.person j amount ∷ []) (ls ++ outbid ∷ []) (awarded j amount) award first_notice (record { price = refl; object = refl; freed_is = refl }) in
          subst (λ (ts : List Notice). AreNoticesOf ts ((ls ++ outbid ∷ []) ++ award ∷ [])) (append_assoc s.notices (frees old.person j amount ∷ []) (awarded j amount ∷ [])) both

      pub sells_again : SaleEnds g allowed most w (sold g.eps s bid)
      sells_again =
          let longer = length-append ls (outbid ∷ []) in
          let longest = length-append (ls ++ outbid ∷ []) (award ∷ []) in
          let none_waits = shows.mails.many in
          let within = shows.within in
          subst (SaleEnds g allowed most w) (sym (kept_as (Some old) some)) (record {
            world = h5;
            played = played_by h3 h4 h5 TurnReply.Moved (take_by (Some old) some) turn_h4 turn_h5;
            reached = reached_turn g h4 h5 (Turn.ObjectPost 0) TurnReply.Moved reached_h4 turn_h5;
            firsts = 0;
            few = omega arith;
            shows = shown sale (frees old.person j amount ∷ awarded j amount ∷ []) 0 h5.price h5.holder h5.persons_mail w.hub_mail h5.object_out ((ls ++ outbid ∷ []) ++ award ∷ []) shows.mails.waiting
                price_set holder_set refl
                refl notices_both (omega (arith, longest, fits_h5)) (omega (arith, longer, longest))
                shows.mails.hub shows.mails.are_firsts none_waits (omega arith) (omega (arith, within));
            still = end;
            unsold = λ e. omega (arith, more);
          })

  -- a bid is answered, whatever it is
  pub bid_ends : s.count < g.persons → SaleEnds g allowed most w (sold g.eps s bid)
  bid_ends more = by_lt_z amount (least_amount (w.price j) g.eps) (λ low. declined low more) (λ high_enough. by_holder high_enough (w.holder j) refl)
    where
      by_holder : least_amount (w.price j) g.eps ≤ℤ amount → (h : Option Held) → w.holder j ≡ h → SaleEnds g allowed most w (sold g.eps s bid)
      by_holder high_enough None e = sells_first high_enough e more
      by_holder high_enough (Some old) e = sells_again high_enough old e more
