-- A turn leaves nothing open but the sender of a letter that it takes.
use Rattle.std.proofs.Common.{ℕ, ℤ, pos, ◌^◌, ◌<◌, ◌≤◌, ◌≡◌, ◌≢◌, ◌⊎◌, ◌≤ℤ◌, Bool, true, false, refl, arith, List, [], length, inl, inr, ap, sym, ◌∙◌, subst, Contains, None}
use Rattle.std.specs.Prelude.{◌%◌}
use Rattle.std.proofs.lemmas.Int.{ints}
use Rattle.std.proofs.lemmas.List.Elements.{All-contains}
use Rattle.auc_graph.specs.Bid.{IsAmount, IsBestArc, value}
use Rattle.auc_graph.specs.declared.rows.RowArc.{RowArc}
use Rattle.auc_letters.specs.Award.{bid_letter}
use Rattle.auc_letters.specs.declared.letter.Letter.{Letter}
use Rattle.auc_letters.specs.declared.letter.Bid.{Bid}
use Rattle.auc_letters.specs.declared.letter.Why.{Why}
use Rattle.auc_letters.specs.declared.out.Out.{Out}
use Rattle.auc_mail.specs.Mail.{HasBox, IsClosed, Mail}
use Rattle.auc_mail.specs.Step.{AreOfTwoSenders, Step}
use Rattle.auc_mail.specs.declared.call.Call.{Call}
use Rattle.auc_mail.specs.declared.call.PostRefused.{PostRefused}
use Rattle.auc_mail.specs.declared.call.Reply.{Reply}
use Rattle.auc_mail.specs.declared.call.Taken.{Taken}
use Rattle.auc_model.specs.Bidding.{BidTurn, Bids, MayBid, Stops, after_bid, after_stop}
use Rattle.auc_model.specs.Hearing.{Falls, FitsLetter, PersonTakeTurn, Rises, after_letter}
use Rattle.auc_model.specs.Hub.{HubCloseTurn, HubTakeTurn, hub_after}
use Rattle.auc_model.specs.Mails.{ObjectShard, PersonShard, Shard, Takes, TakesNone, box_of, mail_named, mail_of, number, outbox, sender, with_mail, with_mail_named, with_outbox}
use Rattle.auc_model.specs.Posting.{MayPost, PostTurn, is_price, reason}
use Rattle.auc_model.specs.Schedule.{TakesOfTwoSenders, Turned}
use Rattle.auc_model.specs.Selling.{FitsBid, ObjectTakeTurn, TellTurn, after_answer}
use Rattle.auc_model.specs.World.{Phase, World, ended, scale}
use Rattle.auc_model.specs.declared.turn.MailName.{MailName}
use Rattle.auc_model.specs.declared.turn.Turn.{Turn}
use Rattle.auc_model.specs.declared.turn.TurnReply.{TurnReply}
use Rattle.auc_model.proofs.Small.{same_heard, same_hub}

-- two bids by the rule are the same
module _ (s spread eps : ℤ) (q : ℕ → ℤ) (row : List RowArc) (a b : RowArc) (f : IsBestArc (value s q) row a) (h : IsBestArc (value s q) row b) where
  same_value : value s q a ≡ value s q b
  same_value =
      let x = All-contains (λ c. value s q a ≤ℤ value s q c) row b f.least h.listed in
      let y = All-contains (λ c. value s q b ≤ℤ value s q c) row a h.least f.listed in
      omega (arith, ints, x, y)

  pub same_object : a.object ≡ b.object
  same_object =
      let x = All-contains (λ c. value s q a ≡ value s q c → a.object ≤ c.object) row b f.lowest h.listed same_value in
      let y = All-contains (λ c. value s q b ≡ value s q c → b.object ≤ c.object) row a h.lowest f.listed (sym same_value) in
      omega (arith, x, y)

  pub same_place : a.arc ≡ b.arc
  same_place =
      let x = All-contains (λ c. value s q a ≡ value s q c → a.object ≡ c.object → a.arc ≤ c.arc) row b f.earliest h.listed same_value same_object in
      let y = All-contains (λ c. value s q b ≡ value s q c → b.object ≡ c.object → b.arc ≤ c.arc) row a h.earliest f.listed (sym same_value) (sym same_object) in
      omega (arith, x, y)

  pub same_amount : (m n : ℤ) → IsAmount s spread eps q row a m → IsAmount s spread eps q row b n → m ≡ n
  same_amount m n (inl x) (inl y) =
      let v = same_value in
      let p : q a.object ≡ q b.object = ap q same_object in
      let low = All-contains (λ c. c.object ≢ a.object → value s q x.0 ≤ℤ value s q c) row y.0 x.1.least y.1.listed (λ e. y.1.other (e ∙ same_object)) in
      let high = All-contains (λ c. c.object ≢ b.object → value s q y.0 ≤ℤ value s q c) row x.0 y.1.least x.1.listed (λ e. x.1.other (e ∙ sym same_object)) in
      omega (arith, ints, v, p, low, high, x.2, y.2)
  same_amount m n (inl x) (inr y) = absurd (x.1.other (All-contains (λ c. c.object ≡ b.object) row x.0 y.0 x.1.listed ∙ sym same_object))
  same_amount m n (inr x) (inl y) = absurd (y.1.other (All-contains (λ c. c.object ≡ a.object) row y.0 x.0 y.1.listed ∙ same_object))
  same_amount m n (inr x) (inr y) = let p : q a.object ≡ q b.object = ap q same_object in omega (arith, ints, p, x.1, y.1)

-- what two outcomes of a turn have in common
abbrev Same : TurnReply → TurnReply → World → World → Type 0
Same r s u v = (r ≡ s) × (u ≡ v)

abbrev Alike : World → TurnReply → TurnReply → World → World → Type 0
Alike w r s u v = Same r s u v ⊎ TakesOfTwoSenders w u v

both_as : (r s t : TurnReply) (u v z : World) → r ≡ t → s ≡ t → u ≡ z → v ≡ z → Same r s u v
both_as r s t u v z a b c d = (a ∙ sym b, c ∙ sym d)

-- two bids, of m on a and of n on b, are on one object, by one place of the list, with one amount
record SameBid (a b : RowArc) (m n : ℤ) : Type 0 where
  object : a.object ≡ b.object
  place : a.arc ≡ b.arc
  amount : m ≡ n

module _ (g : Phase) (w : World) where
  -- Bid(s)
  module _ (s : ℕ) where
    barred_not : (i : ℕ) (rest : List ℕ) → ((g.shards ≤ s) ⊎ (w.person_out s ≢ []) ⊎ (w.has_stopped s ≡ true) ⊎ (w.idle s ≡ [])) → MayBid g w s i rest → ⊥
    barred_not i rest (inl past) may = let k = may.known in omega (arith, past, k)
    barred_not i rest (inr (inl full)) may = full may.empty
    barred_not i rest (inr (inr (inl stopped))) may = let e = may.going in cc
    barred_not i rest (inr (inr (inr none))) may = let e = may.first in cc

    same_first : (i j : ℕ) (xs ys : List ℕ) → MayBid g w s i xs → MayBid g w s j ys → i ≡ j
    same_first i j xs ys a b = let e = a.first in let f = b.first in cc

    same_rest : (i j : ℕ) (xs ys : List ℕ) → MayBid g w s i xs → MayBid g w s j ys → xs ≡ ys
    same_rest i j xs ys a b = let e = a.first in let f = b.first in cc

    no_row : (i : ℕ) (a : RowArc) → g.row i ≡ [] → Contains (g.row i) a → ⊥
    no_row i a e c = let l = c.1 in let n : length (g.row i) ≡ 0 = ap length e in omega (arith, l, n)

    same_bid : (i : ℕ) (a b : RowArc) (m n : ℤ) → Bids g w s i a m → Bids g w s i b n → SameBid a b m n
    same_bid i a b m n x y = record {
      object = same_object (scale g) g.spread g.eps (w.copy s) (g.row i) a b x.best y.best;
      place = same_place (scale g) g.spread g.eps (w.copy s) (g.row i) a b x.best y.best;
      amount = same_amount (scale g) g.spread g.eps (w.copy s) (g.row i) a b x.best y.best m n x.amount_is y.amount_is;
    }

    -- a person that bids isn't one that can't
    stops_not : (i : ℕ) (y : Why) (a : RowArc) (m : ℤ) → Stops g w s i y → w.bids_left s ≢ 0 → Bids g w s i a m → m ≤ℤ pos (2 ^ 61) → ⊥
    stops_not i Why.Bids a m h left b low = left h
    stops_not i Why.Stuck a m h left b low = no_row i a h.1 b.best.listed
    stops_not i Why.Ceiling a m h left b low = let e = (same_bid i h.arc a h.amount m h.bid b).amount in let high = h.above in omega (arith, ints, e, high, low)
    stops_not i Why.Posts a m h left b low = h
    stops_not i Why.Trail a m h left b low = h
    stops_not i Why.Mail a m h left b low = h
    stops_not i Why.Fell a m h left b low = h
    stops_not i Why.Stray a m h left b low = h

    -- the one cause
    same_why : (i : ℕ) (y z : Why) → Stops g w s i y → Stops g w s i z → y ≡ z
    same_why i Why.Bids Why.Bids h k = refl
    same_why i Why.Bids Why.Stuck h k = absurd (k.0 h)
    same_why i Why.Bids Why.Ceiling h k = absurd (k.left h)
    same_why i Why.Stuck Why.Bids h k = absurd (h.0 k)
    same_why i Why.Stuck Why.Stuck h k = refl
    same_why i Why.Stuck Why.Ceiling h k = absurd (no_row i k.arc h.1 k.bid.best.listed)
    same_why i Why.Ceiling Why.Bids h k = absurd (h.left k)
    same_why i Why.Ceiling Why.Stuck h k = absurd (no_row i h.arc k.1 h.bid.best.listed)
    same_why i Why.Ceiling Why.Ceiling h k = refl
    same_why i Why.Posts z h k = absurd h
    same_why i Why.Trail z h k = absurd h
    same_why i Why.Mail z h k = absurd h
    same_why i Why.Fell z h k = absurd h
    same_why i Why.Stray z h k = absurd h
    same_why i y Why.Posts h k = absurd k
    same_why i y Why.Trail h k = absurd k
    same_why i y Why.Mail h k = absurd k
    same_why i y Why.Fell h k = absurd k
    same_why i y Why.Stray h k = absurd k

    abbrev as_bid : ℕ → List ℕ → ℕ → ℕ → ℤ → World
    as_bid i rest object place amount = after_bid g w s i rest (record { cost = pos 0; object = object; arc = place }) amount

    after_same : (i j : ℕ) (xs ys : List ℕ) (a b c d : ℕ) (m n : ℤ) → i ≡ j → xs ≡ ys → a ≡ b → c ≡ d → m ≡ n → as_bid i xs a c m ≡ as_bid j ys b d n
    after_same i j xs ys a b c d m n e1 e2 e3 e4 e5 = rw (e1, e2, e3, e4, e5) refl

    same_bid_turn : (r t : TurnReply) (u v : World) → BidTurn g w s r u → BidTurn g w s t v → Same r t u v
    same_bid_turn r t u v (BidTurn.barred h e1 e) (BidTurn.barred k f1 f) = both_as r t TurnReply.Nothing u v w e1 f1 e f
    same_bid_turn r t u v (BidTurn.barred h e1 e) (BidTurn.stops i rest y may why f1 f) = absurd (barred_not i rest h may)
    same_bid_turn r t u v (BidTurn.barred h e1 e) (BidTurn.bids i rest a m may left best low f1 f) = absurd (barred_not i rest h may)
    same_bid_turn r t u v (BidTurn.stops i rest y may why e1 e) (BidTurn.barred k f1 f) = absurd (barred_not i rest k may)
    same_bid_turn r t u v (BidTurn.stops i xs y a why e1 e) (BidTurn.stops j ys z b because f1 f) =
        let there : Stops g w s i z = subst (λ (n : ℕ). Stops g w s n z) (sym (same_first i j xs ys a b)) because in
        both_as r t TurnReply.Moved u v (after_stop w s y) e1 f1 e (f ∙ ap (after_stop w s) (sym (same_why i y z why there)))
    same_bid_turn r t u v (BidTurn.stops i xs y a why e1 e) (BidTurn.bids j ys c m b left best low f1 f) =
        absurd (stops_not i y c m why left (subst (λ (n : ℕ). Bids g w s n c m) (sym (same_first i j xs ys a b)) best) low)
    same_bid_turn r t u v (BidTurn.bids i rest a m may left best low e1 e) (BidTurn.barred k f1 f) = absurd (barred_not i rest k may)
    same_bid_turn r t u v (BidTurn.bids j ys c m b left best low e1 e) (BidTurn.stops i xs y a why f1 f) =
        absurd (stops_not i y c m why left (subst (λ (n : ℕ). Bids g w s n c m) (sym (same_first i j xs ys a b)) best) low)
    same_bid_turn r t u v (BidTurn.bids i xs a m p left best low e1 e) (BidTurn.bids j ys b n o more better below f1 f) =
        let i_is = same_first i j xs ys p o in
        let x = same_bid i a b m n best (subst (λ (k : ℕ). Bids g w s k b n) (sym i_is) better) in
        let same : after_bid g w s i xs a m ≡ after_bid g w s j ys b n = after_same i j xs ys a.object b.object a.arc b.arc m n i_is (same_rest i j xs ys p o) x.object x.place x.amount in
        (e1 ∙ sym f1, e ∙ (same ∙ sym f))

  -- Tell(q, j, s)
  silent_not : (q j s : ℕ) → ((g.shards ≤ q) ⊎ (g.shards ≤ s) ⊎ (g.objects ≤ j) ⊎ (j % g.shards ≢ q) ⊎ (w.object_out q ≢ [])) → q < g.shards → s < g.shards → j < g.objects → j % g.shards ≡ q → w.object_out q ≡ [] → ⊥
  silent_not q j s (inl x) a b c d o = omega (arith, x, a)
  silent_not q j s (inr (inl x)) a b c d o = omega (arith, x, b)
  silent_not q j s (inr (inr (inl x))) a b c d o = omega (arith, x, c)
  silent_not q j s (inr (inr (inr (inl x)))) a b c d o = x d
  silent_not q j s (inr (inr (inr (inr x)))) a b c d o = x o

  same_tell : (q j s : ℕ) (r t : TurnReply) (u v : World) → TellTurn g w q j s r u → TellTurn g w q j s t v → Same r t u v
  same_tell q j s r t u v (TellTurn.silent h e1 e) (TellTurn.silent k f1 f) = both_as r t TurnReply.Nothing u v w e1 f1 e f
  same_tell q j s r t u v (TellTurn.silent h e1 e) (TellTurn.tells a b c d o f1 f) = absurd (silent_not q j s h a b c d o)
  same_tell q j s r t u v (TellTurn.tells a b c d o e1 e) (TellTurn.silent h f1 f) = absurd (silent_not q j s h a b c d o)
  same_tell q j s r t u v (TellTurn.tells a b c d o e1 e) (TellTurn.tells a' b' c' d' o' f1 f) = both_as r t TurnReply.Moved u v _ e1 f1 e f

  -- what stays open of the mails: the sender of a letter
  module _ (reply : (x y z : Mail Letter) (c : Call Letter) (r s : Reply Letter) → Step x c r y → Step x c s z → (r ≡ s) ⊎ AreOfTwoSenders r s) (next : (x y z : Mail Letter) (c : Call Letter) (r : Reply Letter) → Step x c r y → Step x c r z → y ≡ z) where
    -- A turn that takes from box b: it does nothing where it is barred or no letter waits, and else the next world is
    -- one that this relation gives for the letter and the mail after it.
    module _ (name : MailName) (b : ℕ) (Barred : Type 0) (Next : Letter → Mail Letter → World → Type 0)
        (next_same : (l : Letter) (m : Mail Letter) (u v : World) → Next l m u → Next l m v → u ≡ v)
        (mail_is : (l : Letter) (m : Mail Letter) (v : World) → Next l m v → mail_named v name ≡ m) where
      data Outcome (r : TurnReply) (v : World) : Type 0 where
        still : (Barred ⊎ TakesNone (mail_named w name) b) → r ≡ TurnReply.Nothing → v ≡ w → Outcome r v
        moves : (Barred → ⊥) → (x k : ℕ) (l : Letter) (m : Mail Letter) → Takes (mail_named w name) b x k l m → Next l m v → r ≡ TurnReply.Moved → Outcome r v

      none_not : (x k : ℕ) (l : Letter) (m : Mail Letter) → Takes (mail_named w name) b x k l m → TakesNone (mail_named w name) b → ⊥
      none_not x k l m t (inl e) = elim (reply (mail_named w name) m (mail_named w name) (Call.Take b) (Reply.Took (Taken.Letter x k l)) (Reply.Took Taken.Empty) t e) [ inl c ↦ cc | inr n ↦ n ]
      none_not x k l m t (inr e) = elim (reply (mail_named w name) m (mail_named w name) (Call.Take b) (Reply.Took (Taken.Letter x k l)) (Reply.Took Taken.Over) t e) [ inl c ↦ cc | inr n ↦ n ]

      alike : (r s : TurnReply) (u v : World) → Outcome r u → Outcome s v → Alike w r s u v
      alike r s u v (still h e1 e) (still k f1 f) = inl (both_as r s TurnReply.Nothing u v w e1 f1 e f)
      alike r s u v (still (inl h) e1 e) (moves free x k l m t n f1) = absurd (free h)
      alike r s u v (still (inr h) e1 e) (moves free x k l m t n f1) = absurd (none_not x k l m t h)
      alike r s u v (moves free x k l m t n e1) (still (inl h) f1 f) = absurd (free h)
      alike r s u v (moves free x k l m t n e1) (still (inr h) f1 f) = absurd (none_not x k l m t h)
      alike r s u v (moves free x k l m t n e1) (moves free' y i o z p q f1) =
          elim (reply (mail_named w name) m z (Call.Take b) (Reply.Took (Taken.Letter x k l)) (Reply.Took (Taken.Letter y i o)) t p) [
            | inl e ↦ (
                let letter : l ≡ o = cc in
                let here = subst (λ (a : Reply Letter). Step (mail_named w name) (Call.Take b) a z) (sym e) p in
                let mail : m ≡ z = next (mail_named w name) m z (Call.Take b) (Reply.Took (Taken.Letter x k l)) t here in
                inl (e1 ∙ sym f1, next_same o z u v (subst (λ (a : Mail Letter). Next o a u) mail (subst (λ (a : Letter). Next a m u) letter n)) q)
                )
            | inr ne ↦ inr (record {
              mail = name;
              box = b;
              one = Reply.Took (Taken.Letter x k l);
              other = Reply.Took (Taken.Letter y i o);
              takes_one = subst (λ (a : Mail Letter). Step (mail_named w name) (Call.Take b) (Reply.Took (Taken.Letter x k l)) a) (sym (mail_is l m u n)) t;
              takes_other = subst (λ (a : Mail Letter). Step (mail_named w name) (Call.Take b) (Reply.Took (Taken.Letter y i o)) a) (sym (mail_is o z v q)) p;
              senders = ne;
            })
          ]

    -- PersonTake(s)
    data Heard (s : ℕ) (l : Letter) (m : Mail Letter) (v : World) : Type 0 where
      hears : FitsLetter g w s l → Rises w s l → v ≡ after_letter (record w { persons_mail = m }) s l → Heard s l m v
      strays : (FitsLetter g w s l → ⊥) → v ≡ ended (record w { persons_mail = m }) Why.Stray → Heard s l m v
      falls : FitsLetter g w s l → Falls w s l → v ≡ ended (record w { persons_mail = m }) Why.Fell → Heard s l m v

    rises_not : (s : ℕ) (l : Letter) → Rises w s l → Falls w s l → ⊥
    rises_not s (Letter.Award i j p) a b = omega (arith, ints, a, b)
    rises_not s (Letter.Refused i j p) a b = omega (arith, ints, a, b)
    rises_not s (Letter.Outbid i j p) a b = omega (arith, ints, a, b)
    rises_not s (Letter.Price j p) a b = omega (arith, ints, a, b)
    rises_not s (Letter.Bid i k j p) a b = a
    rises_not s (Letter.First j) a b = a
    rises_not s (Letter.Stop y) a b = a

    heard_same : (s : ℕ) (l : Letter) (m : Mail Letter) (u v : World) → Heard s l m u → Heard s l m v → u ≡ v
    heard_same s l m u v (hears a b e) (hears c d f) = e ∙ sym f
    heard_same s l m u v (hears a b e) (strays c f) = absurd (c a)
    heard_same s l m u v (hears a b e) (falls c d f) = absurd (rises_not s l b d)
    heard_same s l m u v (strays a e) (hears c d f) = absurd (a c)
    heard_same s l m u v (strays a e) (strays c f) = e ∙ sym f
    heard_same s l m u v (strays a e) (falls c d f) = absurd (a c)
    heard_same s l m u v (falls a b e) (hears c d f) = absurd (rises_not s l d b)
    heard_same s l m u v (falls a b e) (strays c f) = absurd (c a)
    heard_same s l m u v (falls a b e) (falls c d f) = e ∙ sym f

    heard_mail : (s : ℕ) (l : Letter) (m : Mail Letter) (v : World) → Heard s l m v → v.persons_mail ≡ m
    heard_mail s l m v (hears a b e) = ap (λ (x : World). x.persons_mail) e ∙ (same_heard (record w { persons_mail = m }) s l).persons
    heard_mail s l m v (strays a e) = ap (λ (x : World). x.persons_mail) e
    heard_mail s l m v (falls a b e) = ap (λ (x : World). x.persons_mail) e

    abbrev PersonOutcome : ℕ → TurnReply → World → Type 0
    PersonOutcome s = Outcome MailName.Persons s (g.shards ≤ s) (Heard s) (heard_same s) (heard_mail s)

    person_outcome : (s : ℕ) (r : TurnReply) (v : World) → PersonTakeTurn g w s r v → PersonOutcome s r v
    person_outcome s r v (PersonTakeTurn.no_letter h e1 e) = still h e1 e
    person_outcome s r v (PersonTakeTurn.hears x k l m known t fits low e1 e) = moves (λ past. omega (arith, known, past)) x k l m t (hears fits low e) e1
    person_outcome s r v (PersonTakeTurn.strays x k l m known t bad e1 e) = moves (λ past. omega (arith, known, past)) x k l m t (strays bad e) e1
    person_outcome s r v (PersonTakeTurn.falls x k l m known t fits low e1 e) = moves (λ past. omega (arith, known, past)) x k l m t (falls fits low e) e1

    -- ObjectTake(q)
    data Dealt (q : ℕ) (l : Letter) (m : Mail Letter) (v : World) : Type 0 where
      answers : (bid : Bid) → l ≡ bid_letter bid → FitsBid g q l → v ≡ after_answer g w q m bid → Dealt q l m v
      strays_here : (FitsBid g q l → ⊥) → v ≡ ended (record w { objects_mail = m }) Why.Stray → Dealt q l m v

    one_bid : (a b : Bid) (l : Letter) → l ≡ bid_letter a → l ≡ bid_letter b → a ≡ b
    one_bid a b l e f =
        let person : a.person ≡ b.person = cc in
        let arc : a.arc ≡ b.arc = cc in
        let object : a.object ≡ b.object = cc in
        let amount : a.amount ≡ b.amount = cc in
        λ d. record { person = person d; arc = arc d; object = object d; amount = amount d }

    dealt_same : (q : ℕ) (l : Letter) (m : Mail Letter) (u v : World) → Dealt q l m u → Dealt q l m v → u ≡ v
    dealt_same q l m u v (answers a is x e) (answers b its y f) = e ∙ (ap (after_answer g w q m) (one_bid a b l is its) ∙ sym f)
    dealt_same q l m u v (answers a is x e) (strays_here bad f) = absurd (bad x)
    dealt_same q l m u v (strays_here bad e) (answers b its y f) = absurd (bad y)
    dealt_same q l m u v (strays_here a e) (strays_here b f) = e ∙ sym f

    dealt_mail : (q : ℕ) (l : Letter) (m : Mail Letter) (v : World) → Dealt q l m v → v.objects_mail ≡ m
    dealt_mail q l m v (answers bid is fits e) = ap (λ (x : World). x.objects_mail) e
    dealt_mail q l m v (strays_here bad e) = ap (λ (x : World). x.objects_mail) e

    abbrev ObjectBarred : ℕ → Type 0
    ObjectBarred q = (g.shards ≤ q) ⊎ (w.object_out q ≢ [])

    abbrev ObjectOutcome : ℕ → TurnReply → World → Type 0
    ObjectOutcome q = Outcome MailName.Objects q (ObjectBarred q) (Dealt q) (dealt_same q) (dealt_mail q)

    free : (q : ℕ) → q < g.shards → w.object_out q ≡ [] → ObjectBarred q → ⊥
    free q known empty (inl past) = omega (arith, known, past)
    free q known empty (inr full) = full empty

    object_outcome : (q : ℕ) (r : TurnReply) (v : World) → ObjectTakeTurn g w q r v → ObjectOutcome q r v
    object_outcome q r v (ObjectTakeTurn.no_letter (inl past) e1 e) = still (inl (inl past)) e1 e
    object_outcome q r v (ObjectTakeTurn.no_letter (inr (inl full)) e1 e) = still (inl (inr full)) e1 e
    object_outcome q r v (ObjectTakeTurn.no_letter (inr (inr none)) e1 e) = still (inr none) e1 e
    object_outcome q r v (ObjectTakeTurn.answers_bid x k bid m known empty t fits e1 e) = moves (free q known empty) x k (bid_letter bid) m t (answers bid refl fits e) e1
    object_outcome q r v (ObjectTakeTurn.strays x k l m known empty t bad e1 e) = moves (free q known empty) x k l m t (strays_here bad e) e1

    -- HubTake
    abbrev Counted : Letter → Mail Letter → World → Type 0
    Counted l m v = v ≡ hub_after g l (record w { hub_mail = m })

    counted_mail : (l : Letter) (m : Mail Letter) (v : World) → Counted l m v → v.hub_mail ≡ m
    counted_mail l m v e = ap (λ (x : World). x.hub_mail) e ∙ (same_hub g l (record w { hub_mail = m })).hub

    abbrev HubOutcome : TurnReply → World → Type 0
    HubOutcome = Outcome MailName.Hub 0 ⊥ Counted (λ l m u v e f. e ∙ sym f) counted_mail

    hub_outcome : (r : TurnReply) (v : World) → HubTakeTurn g w r v → HubOutcome r v
    hub_outcome r v (HubTakeTurn.no_letter h e1 e) = still (inr h) e1 e
    hub_outcome r v (HubTakeTurn.takes x k l m t e1 e) = moves (λ none. none) x k l m t e e1

    -- PersonPost(s), ObjectPost(q)
    module _ (h : Shard) where
      -- the next world, by what the mail replied
      refused : Bool → List Out → PostRefused → World
      refused price rest PostRefused.Closed = with_outbox w h rest
      refused true rest PostRefused.Spent = with_outbox w h rest
      refused false rest PostRefused.Spent = ended w (reason PostRefused.Spent)
      refused true rest PostRefused.Full = with_outbox w h rest
      refused false rest PostRefused.Full = ended w (reason PostRefused.Full)

      behind : Out → List Out → Reply Letter → Mail Letter → World
      behind o rest (Reply.Posted k) m = with_outbox (with_mail w o.to m) h rest
      behind o rest (Reply.Refused y) m = refused (is_price o.letter) rest y
      behind o rest (Reply.Took t) m = w
      behind o rest (Reply.WasOpen b) m = w

      abbrev Made : Out → Reply Letter → Mail Letter → Type 0
      Made o a m = Step (mail_of w o.to) (Call.Post (sender g h) (box_of o.to) o.letter o.reserve) a m

      data Posted (r : TurnReply) (v : World) : Type 0 where
        none : ((g.shards ≤ number h) ⊎ (outbox w h ≡ [])) → r ≡ TurnReply.Nothing → v ≡ w → Posted r v
        post : (o : Out) (rest : List Out) (a : Reply Letter) (m : Mail Letter) → MayPost g w h o rest → Made o a m → r ≡ TurnReply.Moved → v ≡ behind o rest a m → Posted r v

      drops : (b : Bool) (rest : List Out) (y : PostRefused) → b ≡ true → with_outbox w h rest ≡ refused b rest y
      unfolding refused
      drops b rest PostRefused.Closed e = refl
      drops b rest PostRefused.Spent e = rw e refl
      drops b rest PostRefused.Full e = rw e refl

      keeps : (b : Bool) (rest : List Out) (y : PostRefused) → y ≢ PostRefused.Closed → b ≡ false → ended w (reason y) ≡ refused b rest y
      unfolding refused
      keeps b rest PostRefused.Closed n e = absurd (n refl)
      keeps b rest PostRefused.Spent n e = rw e refl
      keeps b rest PostRefused.Full n e = rw e refl

      posted : (r : TurnReply) (v : World) → PostTurn g w h r v → Posted r v
      unfolding behind refused
      posted r v (PostTurn.no_letter q e1 e) = none q e1 e
      posted r v (PostTurn.posts o rest k m may p e1 e) = post o rest (Reply.Posted k) m may p e1 e
      posted r v (PostTurn.meets_closed o rest may p e1 e) = post o rest (Reply.Refused PostRefused.Closed) (mail_of w o.to) may p e1 e
      posted r v (PostTurn.drops_price o rest y may p n i e1 e) = post o rest (Reply.Refused y) (mail_of w o.to) may p e1 (e ∙ drops (is_price o.letter) rest y i)
      posted r v (PostTurn.keeps_letter o rest y may p n i e1 e) = post o rest (Reply.Refused y) (mail_of w o.to) may p e1 (e ∙ keeps (is_price o.letter) rest y n i)

      none_to_post : (o : Out) (rest : List Out) → ((g.shards ≤ number h) ⊎ (outbox w h ≡ [])) → MayPost g w h o rest → ⊥
      none_to_post o rest (inl past) may = let k = may.known in omega (arith, past, k)
      none_to_post o rest (inr empty) may = let e = may.first in cc

      -- a post has no letter to choose
      no_senders : (o : Out) (a b : Reply Letter) (m n : Mail Letter) → Made o a m → Made o b n → AreOfTwoSenders a b → ⊥
      no_senders o (Reply.Posted k) b m n p q x = x
      no_senders o (Reply.Refused y) b m n p q x = x
      no_senders o (Reply.Took t) b m n p q x = p
      no_senders o (Reply.WasOpen f) b m n p q x = p

      same_out : (o i : Out) (xs ys : List Out) → MayPost g w h o xs → MayPost g w h i ys → (o ≡ i) × (xs ≡ ys)
      same_out o i xs ys a b = let e = a.first in let f = b.first in (cc, cc)

      same_posted : (r s : TurnReply) (u v : World) → Posted r u → Posted s v → Same r s u v
      same_posted r s u v (none x e1 e) (none y f1 f) = both_as r s TurnReply.Nothing u v w e1 f1 e f
      same_posted r s u v (none x e1 e) (post o rest a m may p f1 f) = absurd (none_to_post o rest x may)
      same_posted r s u v (post o rest a m may p e1 e) (none y f1 f) = absurd (none_to_post o rest y may)
      same_posted r s u v (post o xs a m may p e1 e) (post i ys b n might q f1 f) =
          let same = same_out o i xs ys may might in
          let here : Made o b n = subst (λ (z : Out). Made z b n) (sym same.0) q in
          elim (reply (mail_of w o.to) m n (Call.Post (sender g h) (box_of o.to) o.letter o.reserve) a b p here) [
            | inl is ↦ (
                let mail : m ≡ n = next (mail_of w o.to) m n (Call.Post (sender g h) (box_of o.to) o.letter o.reserve) a p (subst (λ (z : Reply Letter). Made o z n) (sym is) here) in
                let world : behind o xs a m ≡ behind i ys b n = ap (λ (z : Out). behind z xs a m) same.0 ∙ (ap (λ (zs : List Out). behind i zs a m) same.1 ∙ (ap (λ (z : Reply Letter). behind i ys z m) is ∙ ap (behind i ys b) mail)) in
                (e1 ∙ sym f1, e ∙ (world ∙ sym f))
                )
            | inr two ↦ absurd (no_senders o a b m n p here two)
          ]

    -- HubClose(mail, box)
    closes_not : (name : MailName) (at : ℕ) (m : Mail Letter) → ((HasBox (mail_named w name) at → ⊥) ⊎ (w.end ≡ None) ⊎ IsClosed (mail_named w name) at) → HasBox (mail_named w name) at → w.end ≢ None → Step (mail_named w name) (Call.Close at) (Reply.WasOpen true) m → ⊥
    closes_not name at m (inl h) a b c = h a
    closes_not name at m (inr (inl h)) a b c = b h
    closes_not name at m (inr (inr h)) a b c = let o = c.was in cc

    same_close : (name : MailName) (at : ℕ) (r s : TurnReply) (u v : World) → HubCloseTurn w name at r u → HubCloseTurn w name at s v → Same r s u v
    same_close name at r s u v (HubCloseTurn.leaves h e1 e) (HubCloseTurn.leaves k f1 f) = both_as r s TurnReply.Nothing u v w e1 f1 e f
    same_close name at r s u v (HubCloseTurn.leaves h e1 e) (HubCloseTurn.closes m a b c f1 f) = absurd (closes_not name at m h a b c)
    same_close name at r s u v (HubCloseTurn.closes m a b c e1 e) (HubCloseTurn.leaves h f1 f) = absurd (closes_not name at m h a b c)
    same_close name at r s u v (HubCloseTurn.closes m a b c e1 e) (HubCloseTurn.closes n i j k f1 f) =
        (e1 ∙ sym f1, e ∙ (ap (with_mail_named w name) (next (mail_named w name) m n (Call.Close at) (Reply.WasOpen true) c k) ∙ sym f))

    pub turns_alike : (t : Turn) (r s : TurnReply) (u v : World) → Turned g w t r u → Turned g w t s v → Alike w r s u v
    turns_alike (Turn.Bid n) r s u v h k = inl (same_bid_turn n r s u v h k)
    turns_alike (Turn.PersonPost n) r s u v h k = inl (same_posted (PersonShard n) r s u v (posted (PersonShard n) r u h) (posted (PersonShard n) s v k))
    turns_alike (Turn.ObjectPost n) r s u v h k = inl (same_posted (ObjectShard n) r s u v (posted (ObjectShard n) r u h) (posted (ObjectShard n) s v k))
    turns_alike (Turn.PersonTake n) r s u v h k = alike MailName.Persons n (g.shards ≤ n) (Heard n) (heard_same n) (heard_mail n) r s u v (person_outcome n r u h) (person_outcome n s v k)
    turns_alike (Turn.ObjectTake n) r s u v h k = alike MailName.Objects n (ObjectBarred n) (Dealt n) (dealt_same n) (dealt_mail n) r s u v (object_outcome n r u h) (object_outcome n s v k)
    turns_alike (Turn.Tell q j n) r s u v h k = inl (same_tell q j n r s u v h k)
    turns_alike Turn.HubTake r s u v h k = alike MailName.Hub 0 ⊥ Counted (λ l m u v e f. e ∙ sym f) counted_mail r s u v (hub_outcome r u h) (hub_outcome s v k)
    turns_alike (Turn.HubClose name at) r s u v h k = inl (same_close name at r s u v h k)
