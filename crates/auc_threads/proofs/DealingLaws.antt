-- How an object worker deals with letters and posts about them, one after another.
use Rattle.std.proofs.Common.{◌≡◌, ℕ, ◌+◌, ◌<◌, ◌%◌, ◌==◌, not, Bool, true, false, cond, List, [], ◌∷◌, ◌++◌, filter, map, length, Some, None, refl, ap, sym, ◌∙◌, subst, arith, append_assoc, All}
use Rattle.std.specs.Prelude.{Option, ℤ, Ok}
use Rattle.std.specs.List.{range_with_len}
use Rattle.std.proofs.lemmas.List.{append-nil, map-append, map-id}
use Rattle.std.proofs.lemmas.List.FromFn.{get_or-range_with_len, length-range_with_len, map-range_with_len_more}
use Rattle.std.proofs.lemmas.List.Elements.{All-append, All-filter, All-map, All-nil, All-push, All-weaker, filter-append}
use Rattle.auc_letters.specs.declared.letter.Letter.{Letter}
use Rattle.auc_letters.specs.declared.letter.Bid.{Bid}
use Rattle.auc_letters.specs.declared.letter.Why.{Why}
use Rattle.auc_letters.specs.declared.out.Out.{Out}
use Rattle.auc_letters.specs.declared.state.Held.{Held}
use Rattle.auc_letters.specs.Award.{Sale, answers, awards, bid_letter, is_accepted, refusal}
use Rattle.auc_letters.specs.Routing.{price_told}
use Rattle.auc_objects.specs.Objects.{IsBidIn, Objects, Owns, SameShape, after_bid, price_of, sale_of}
use Rattle.auc_objects.proofs.Sales.{shape_same, shape_sold}
use Rattle.auc_phases.specs.Boxes.{Reaches}
use Rattle.auc_phases.proofs.ShardLaws.{answers_reach}
use Rattle.auc_mail.specs.declared.call.Call.{Call}
use Rattle.auc_mail.specs.declared.call.Taken.{Taken}
use Rattle.auc_book.specs.Replies.{take_reply}
use Rattle.auc_book.specs.Seat.{Account, SeatCalls}
use Rattle.auc_threads.specs.declared.calls.Step.{Step}
use Rattle.auc_threads.specs.Taking.{AfterTake, AfterTakes, Answer, Takes, letter_of}
use Rattle.auc_threads.specs.Posting.{Says, first_step}
use Rattle.auc_threads.specs.Dealing.{AfterLetters, Deals, DealsWith, Fits, Serves, after_bids, others, prices_told, says, says_all}
use Rattle.auc_threads.specs.Worker.{Rooms, Worker, box, taker}
use Rattle.auc_threads.proofs.TakingLaws.{after_one, after_then, took_nil, took_take, took_then}
use Rattle.auc_threads.proofs.PostingLaws.{says_none, says_then}

-- ---- prices to all but one

range_more : (n : ℕ) → range_with_len 0 (n + 1) ≡ range_with_len 0 n ++ n ∷ []
range_more n = sym (map-id (range_with_len 0 (n + 1))) ∙ (map-range_with_len_more (λ (q : ℕ). q) 0 n n (omega arith) ∙ ap (λ w. w ++ n ∷ []) (map-id (range_with_len 0 n)))

others_more : (n one : ℕ) → others (n + 1) one ≡ others n one ++ cond (not (n == one)) (n ∷ []) []
others_more n one = ap (λ w. filter (λ q. not (q == one)) w) (range_more n) ∙ filter-append (λ q. not (q == one)) (range_with_len 0 n) (n ∷ [])

prices_more : (s : Objects) (n one object : ℕ) → prices_told s (n + 1) one object ≡ prices_told s n one object ++ map (λ q. price_told s.persons q object (price_of s object)) (cond (not (n == one)) (n ∷ []) [])
prices_more s n one object =
    ap (λ w. map (λ q. price_told s.persons q object (price_of s object)) w) (others_more n one)
    ∙ map-append (λ q. price_told s.persons q object (price_of s object)) (others n one) (cond (not (n == one)) (n ∷ []) [])

-- one more shard, which gets the price or knows it already
pub prices_one : (s : Objects) (n one object : ℕ) (old now new : List Out) → (n == one) ≡ false → now ≡ old ++ prices_told s n one object → new ≡ now ++ price_told s.persons n object (price_of s object) ∷ [] → new ≡ old ++ prices_told s (n + 1) one object
prices_one s n one object old now new ne was pushed =
    let more = prices_more s n one object ∙ ap (λ b. prices_told s n one object ++ map (λ q. price_told s.persons q object (price_of s object)) (cond (not b) (n ∷ []) [])) ne in
    pushed ∙ (ap (λ w. w ++ price_told s.persons n object (price_of s object) ∷ []) was ∙ (append_assoc old (prices_told s n one object) (price_told s.persons n object (price_of s object) ∷ []) ∙ ap (λ w. old ++ w) (sym more)))

pub prices_skip : (s : Objects) (n one object : ℕ) (old now : List Out) → (n == one) ≡ true → now ≡ old ++ prices_told s n one object → now ≡ old ++ prices_told s (n + 1) one object
prices_skip s n one object old now e was =
    let more = prices_more s n one object ∙ (ap (λ b. prices_told s n one object ++ map (λ q. price_told s.persons q object (price_of s object)) (cond (not b) (n ∷ []) [])) e ∙ append-nil (prices_told s n one object)) in
    was ∙ ap (λ w. old ++ w) (sym more)

-- ---- whether a bid was accepted, by its answers

two_of : (n : ℕ) (held : Option Held) (bid : Bid) → length (awards n held bid.person bid.object bid.amount) ≡ 2
two_of n None bid = refl
two_of n (Some held) bid = refl

pub accepted_is : (n : ℕ) (eps : ℤ) (sale : Sale) (bid : Bid) → length (answers n eps sale bid) ≡ 2 → is_accepted eps sale bid ≡ true
accepted_is n eps sale bid two = by (is_accepted eps sale bid) two
  where
    by : (b : Bool) → length (cond b (awards n sale.holder bid.person bid.object bid.amount) (refusal n bid.person bid.object sale.price)) ≡ 2 → b ≡ true
    by true e = refl
    by false e = absurd cc

pub declined_is : (n : ℕ) (eps : ℤ) (sale : Sale) (bid : Bid) → (length (answers n eps sale bid) ≡ 2 → ⊥) → is_accepted eps sale bid ≡ false
declined_is n eps sale bid not_two = by (is_accepted eps sale bid) not_two
  where
    by : (b : Bool) → (length (cond b (awards n sale.holder bid.person bid.object bid.amount) (refusal n bid.person bid.object sale.price)) ≡ 2 → ⊥) → b ≡ false
    by true h = absurd (h (two_of n sale.holder bid))
    by false h = refl

-- the letters noted about a bid are those to be posted about it
pub said_accepted : (eps : ℤ) (s t : Objects) (bid : Bid) (old one two ls : List Out) (shards knowing : ℕ) → is_accepted eps (sale_of s bid.object) bid ≡ true → t ≡ after_bid s eps bid → ls ≡ answers s.person_shards eps (sale_of s bid.object) bid
    → one ≡ old ++ ls → s.person_shards ≡ shards → knowing ≡ bid.person % shards → two ≡ one ++ prices_told t shards knowing bid.object → two ≡ old ++ says eps s bid
said_accepted eps s t bid old one two ls shards knowing accepted left letters first e know second =
    let after : Objects = after_bid s eps bid in
    let prices : prices_told t shards knowing bid.object ≡ prices_told after s.person_shards (bid.person % s.person_shards) bid.object =
    ap (λ (z : Objects). prices_told z shards knowing bid.object) left
    ∙ (ap (λ (n : ℕ). prices_told after n knowing bid.object) (sym e) ∙ ap (λ (k : ℕ). prices_told after s.person_shards k bid.object) (know ∙ ap (λ (n : ℕ). bid.person % n) (sym e))) in
    let whole : says eps s bid ≡ answers s.person_shards eps (sale_of s bid.object) bid ++ prices_told after s.person_shards (bid.person % s.person_shards) bid.object =
    ap (λ b. answers s.person_shards eps (sale_of s bid.object) bid ++ cond b (prices_told after s.person_shards (bid.person % s.person_shards) bid.object) []) accepted in
    second
    ∙ (ap (λ w. w ++ prices_told t shards knowing bid.object) first
    ∙ (append_assoc old ls (prices_told t shards knowing bid.object)
    ∙ (ap (λ w. old ++ (w ++ prices_told t shards knowing bid.object)) letters
    ∙ (ap (λ w. old ++ (answers s.person_shards eps (sale_of s bid.object) bid ++ w)) prices ∙ ap (λ w. old ++ w) (sym whole)))))

pub said_declined : (eps : ℤ) (s : Objects) (bid : Bid) (old one ls : List Out) → is_accepted eps (sale_of s bid.object) bid ≡ false → ls ≡ answers s.person_shards eps (sale_of s bid.object) bid → one ≡ old ++ ls → one ≡ old ++ says eps s bid
said_declined eps s bid old one ls declined letters first =
    let whole : says eps s bid ≡ answers s.person_shards eps (sale_of s bid.object) bid =
    ap (λ b. answers s.person_shards eps (sale_of s bid.object) bid ++ cond b (prices_told (after_bid s eps bid) s.person_shards (bid.person % s.person_shards) bid.object) []) declined
    ∙ append-nil (answers s.person_shards eps (sale_of s bid.object) bid) in
    first ∙ ap (λ w. old ++ w) (letters ∙ sym whole)

-- ---- several bids

pub after_append : (eps : ℤ) (s : Objects) (bs cs : List Bid) → after_bids eps s (bs ++ cs) ≡ after_bids eps (after_bids eps s bs) cs
after_append eps s [] cs = refl
after_append eps s (b ∷ bs) cs = after_append eps (after_bid s eps b) bs cs

pub says_append : (eps : ℤ) (s : Objects) (bs cs : List Bid) → says_all eps s (bs ++ cs) ≡ says_all eps s bs ++ says_all eps (after_bids eps s bs) cs
says_append eps s [] cs = refl
says_append eps s (b ∷ bs) cs = ap (λ w. says eps s b ++ w) (says_append eps (after_bid s eps b) bs cs) ∙ sym (append_assoc (says eps s b) (says_all eps (after_bid s eps b) bs) (says_all eps (after_bids eps (after_bid s eps b) bs) cs))

shape_then : (s t u : Objects) → SameShape s t → SameShape t u → SameShape s u
shape_then s t u f g = record {
  shard = g.shard ∙ f.shard;
  of = g.of ∙ f.of;
  person_shards = g.person_shards ∙ f.person_shards;
  persons = g.persons ∙ f.persons;
  objects = g.objects ∙ f.objects;
  holders = g.holders ∙ f.holders;
}

pub shape_after : (eps : ℤ) (s : Objects) (bs : List Bid) → SameShape s (after_bids eps s bs)
shape_after eps s [] = shape_same s
shape_after eps s (b ∷ bs) = shape_then s (after_bid s eps b) (after_bids eps (after_bid s eps b) bs) (shape_sold s b.object _) (shape_after eps (after_bid s eps b) bs)

owns_back : (s t : Objects) (j : ℕ) → SameShape s t → Owns t j → Owns s j
owns_back s t j e o = record { known = subst (λ (n : ℕ). j < n) e.objects o.known; own = ap (λ (n : ℕ). j % n) (sym e.of) ∙ (o.own ∙ e.shard) }

fits_back : (s t : Objects) (b : Bid) → SameShape s t → Fits t b → Fits s b
fits_back s t b e f = record { owns = owns_back s t b.object e f.owns; amount = f.amount }

pub deals_none : (eps : ℤ) (s : Objects) (letters : List Letter) (step : Step) → letters ≡ [] → AfterLetters s [] step → DealsWith eps s letters [] s step
deals_none eps s letters step e after = record { bids = []; stray = []; letters_are = e; fit = All-nil (Fits s); left = refl; said_are = refl; after = after }

pub deals_stray : (eps : ℤ) (s t : Objects) (x : Letter) (more : List Out) → t ≡ s → more ≡ [] → ((bid : Bid) → IsBidIn s x bid → ⊥) → DealsWith eps s (x ∷ []) more t (Step.Stop Why.Stray)
deals_stray eps s t x more e none unfit = record {
  bids = [];
  stray = x ∷ [];
  letters_are = refl;
  fit = All-nil (Fits s);
  left = e;
  said_are = none;
  after = record { letter = x; stray_is = refl; unfit = subst (λ (z : Objects). (bid : Bid) → IsBidIn z x bid → ⊥) (sym e) unfit };
}

pub deals_bid : (eps : ℤ) (s t : Objects) (x : Letter) (bid : Bid) (more : List Out) → IsBidIn s x bid → t ≡ after_bid s eps bid → more ≡ says eps s bid → DealsWith eps s (x ∷ []) more t Step.On
deals_bid eps s t x bid more fits left said = record {
  bids = bid ∷ [];
  stray = [];
  letters_are = ap (λ y. y ∷ []) fits.letter_is;
  fit = All-push (Fits s) [] bid (All-nil (Fits s)) (record { owns = fits.owns; amount = fits.amount });
  left = left;
  said_are = said ∙ sym (append-nil (says eps s bid));
  after = refl;
}

pub deals_then : (eps : ℤ) (s t u : Objects) (xs ys : List Letter) (said more : List Out) (step : Step) → DealsWith eps s xs said t Step.On → DealsWith eps t ys more u step → DealsWith eps s (xs ++ ys) (said ++ more) u step
deals_then eps s t u xs ys said more step f g =
    let shape : SameShape s t = subst (λ (z : Objects). SameShape s z) (sym f.left) (shape_after eps s f.bids) in
    let first : xs ≡ map bid_letter f.bids = f.letters_are ∙ (ap (λ w. map bid_letter f.bids ++ w) f.after ∙ append-nil (map bid_letter f.bids)) in
    record {
      bids = f.bids ++ g.bids;
      stray = g.stray;
      letters_are =
          ap (λ w. w ++ ys) first
          ∙ (ap (λ w. map bid_letter f.bids ++ w) g.letters_are
          ∙ (sym (append_assoc (map bid_letter f.bids) (map bid_letter g.bids) g.stray) ∙ ap (λ w. w ++ g.stray) (sym (map-append bid_letter f.bids g.bids))));
      fit = All-append (Fits s) f.bids g.bids f.fit (All-weaker (Fits t) (Fits s) (λ b h. fits_back s t b shape h) g.bids g.fit);
      left = g.left ∙ (ap (λ (z : Objects). after_bids eps z g.bids) f.left ∙ sym (after_append eps s f.bids g.bids));
      said_are =
          ap (λ w. w ++ more) f.said_are
          ∙ (ap (λ w. says_all eps s f.bids ++ w) g.said_are
          ∙ (ap (λ (z : Objects). says_all eps s f.bids ++ says_all eps z g.bids) f.left ∙ sym (says_append eps s f.bids g.bids)));
      after = g.after;
    }

pub with_shape : (eps : ℤ) (s t : Objects) (letters : List Letter) (said : List Out) (step : Step) → DealsWith eps s letters said t step → SameShape s t
with_shape eps s t letters said step f = subst (λ (z : Objects). SameShape s z) (sym f.left) (shape_after eps s f.bids)

-- ---- with the account of the seat

pub takes_none : (eps : ℤ) (room at : ℕ) (s : Objects) (a : Account Letter) (said : List Out) → said ≡ [] → Deals eps (box room at) (taker s a) said (taker s a) Step.On
takes_none eps room at s a said none = record {
  letters = [];
  took = took_nil room at a;
  dealt = subst (λ w. DealsWith eps s [] w s Step.On) (sym none) (deals_none eps s [] Step.On refl refl);
  taken = ((λ e. cc), (λ e. cc));
}

pub deals_more : (eps : ℤ) (room at : ℕ) (s t u : Objects) (a b c : Account Letter) (said new more : List Out) (letters : List Letter) (step : Step)
    → Deals eps (box room at) (taker s a) said (taker t b) Step.On → (took : Takes room at b letters c) → new ≡ said ++ more → DealsWith eps t letters more u step → AfterTakes took.answers step → Deals eps (box room at) (taker s a) new (taker u c) step
deals_more eps room at s t u a b c said new more letters step f took e g after = record {
  letters = f.letters ++ letters;
  took = took_then room at a b c f.letters letters f.took took;
  dealt = subst (λ w. DealsWith eps s (f.letters ++ letters) w u step) (sym e) (deals_then eps s t u f.letters letters said more step f.dealt g);
  taken = after_then f.took.answers took.answers step f.taken after;
}

pub takes_more : (eps : ℤ) (room at : ℕ) (s t u : Objects) (a b c : Account Letter) (said new more : List Out) (r : Answer) (step : Step)
    → Deals eps (box room at) (taker s a) said (taker t b) Step.On → SeatCalls room b (Call.Take at) (take_reply r) c → new ≡ said ++ more → DealsWith eps t (letter_of r) more u step → AfterTake r step → Deals eps (box room at) (taker s a) new (taker u c) step
takes_more eps room at s t u a b c said new more r step f call e g after = deals_more eps room at s t u a b c said new more (letter_of r) step f (took_take room at b c r call) e g (after_one r step after)

pub takes_empty : (eps : ℤ) (room at : ℕ) (s t : Objects) (a b c : Account Letter) (said : List Out) (r : Answer)
    → Deals eps (box room at) (taker s a) said (taker t b) Step.On → SeatCalls room b (Call.Take at) (take_reply r) c → r ≡ Ok Taken.Empty → Deals eps (box room at) (taker s a) said (taker t c) Step.On
takes_empty eps room at s t a b c said r f call e =
    takes_more eps room at s t t a b c said said [] r Step.On f call (sym (append-nil said))
    (subst (λ (q : Answer). DealsWith eps t (letter_of q) [] t Step.On) (sym e) (deals_none eps t [] Step.On refl refl))
    (subst (λ (q : Answer). AfterTake q Step.On) (sym e) refl)

-- ---- what is said goes to boxes that are there

others_below : (n one : ℕ) → All (λ q. q < n) (others n one)
others_below n one = All-filter (λ q. not (q == one)) (λ q. q < n) (range_with_len 0 n) (λ k d l.
    let there : k < n = omega (arith, l, length-range_with_len 0 n) in
    omega (arith, there, get_or-range_with_len 0 n k d there))

prices_reach : (n : ℕ) (s : Objects) (one object : ℕ) → All (Reaches n) (prices_told s n one object)
prices_reach n s one object = All-map (Reaches n) (λ q. price_told s.persons q object (price_of s object)) (others n one) (others_below n one)

says_reach : (n : ℕ) (eps : ℤ) (s : Objects) (bid : Bid) → s.person_shards ≡ n → 0 < n → All (Reaches n) (says eps s bid)
says_reach n eps s bid e some =
    All-append (Reaches n) (answers s.person_shards eps (sale_of s bid.object) bid) _ (subst (λ (m : ℕ). All (Reaches n) (answers m eps (sale_of s bid.object) bid)) (sym e) (answers_reach n eps (sale_of s bid.object) bid some))
    (by (is_accepted eps (sale_of s bid.object) bid))
  where
    by : (b : Bool) → All (Reaches n) (cond b (prices_told (after_bid s eps bid) s.person_shards (bid.person % s.person_shards) bid.object) [])
    by true = subst (λ (m : ℕ). All (Reaches n) (prices_told (after_bid s eps bid) m (bid.person % s.person_shards) bid.object)) (sym e) (prices_reach n (after_bid s eps bid) (bid.person % s.person_shards) bid.object)
    by false = All-nil (Reaches n)

pub all_reach : (n : ℕ) (eps : ℤ) (s : Objects) (bids : List Bid) → s.person_shards ≡ n → 0 < n → All (Reaches n) (says_all eps s bids)
all_reach n eps s [] e some = All-nil (Reaches n)
all_reach n eps s (b ∷ bs) e some = All-append (Reaches n) (says eps s b) (says_all eps (after_bid s eps b) bs) (says_reach n eps s b e some) (all_reach n eps (after_bid s eps b) bs e some)

pub deals_reach : (n : ℕ) (eps : ℤ) (room at : ℕ) (s t : Objects) (a b : Account Letter) (said : List Out) (step : Step) → s.person_shards ≡ n → 0 < n → Deals eps (box room at) (taker s a) said (taker t b) step → All (Reaches n) said
deals_reach n eps room at s t a b said step e some f = subst (λ w. All (Reaches n) w) (sym f.dealt.said_are) (all_reach n eps s f.dealt.bids e some)

pub deals_shape : (eps : ℤ) (room at : ℕ) (s t : Objects) (a b : Account Letter) (said : List Out) (step : Step) → Deals eps (box room at) (taker s a) said (taker t b) step → SameShape s t
deals_shape eps room at s t a b said step f = subst (λ (z : Objects). SameShape s z) (sym f.dealt.left) (shape_after eps s f.dealt.bids)

-- ---- and posted

pub serves_none : (eps : ℤ) (r : Rooms) (at : ℕ) (w : Worker Objects) → Serves eps r at w w Step.On
serves_none eps r at w = record {
  said = [];
  took_step = Step.On;
  said_step = Step.On;
  deals = takes_none eps r.objects at w.shard w.seats.objects [] refl;
  posts = says_none r w.seats;
  is = refl;
}

-- where the worker goes on, both steps do
on_first : (x y : Step) → Step.On ≡ first_step x y → (x ≡ Step.On) × (y ≡ Step.On)
on_first Step.On y e = (refl, sym e)
on_first Step.Over y e = absurd cc
on_first (Step.Stop why) y e = absurd cc

pub serves_then : (eps : ℤ) (r : Rooms) (at : ℕ) (x y z : Worker Objects) (step : Step) → Serves eps r at x y Step.On → Serves eps r at y z step → Serves eps r at x z step
serves_then eps r at x y z step f g =
    let a = x.seats in
    let b = y.seats in
    let c = z.seats in
    let on = on_first f.said_step f.took_step f.is in
    let deals : Deals eps (box r.objects at) (taker x.shard a.objects) f.said (taker y.shard b.objects) Step.On = subst (λ (s : Step). Deals eps (box r.objects at) (taker x.shard a.objects) f.said (taker y.shard b.objects) s) on.1 f.deals in
    let posts : Says r a f.said b Step.On = subst (λ (s : Step). Says r a f.said b s) on.0 f.posts in
    record {
      said = f.said ++ g.said;
      took_step = g.took_step;
      said_step = g.said_step;
      deals = deals_more eps r.objects at x.shard y.shard z.shard a.objects b.objects c.objects f.said (f.said ++ g.said) g.said g.deals.letters g.took_step deals g.deals.took refl g.deals.dealt g.deals.taken;
      posts = says_then r a b c f.said g.said g.said_step posts g.posts;
      is = g.is;
    }
