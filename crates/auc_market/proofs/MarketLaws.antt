-- An award keeps the invariant between two bids.
use Rattle.std.proofs.Common.{ℕ, ℤ, pos, zero, suc, ◌<◌, ◌^◌, ◌≡◌, ◌≢◌, arith, List, [], ◌∷◌, length, get_or, replicate, set, inl, inr, ap, sym, subst, ◌∙◌}
use Rattle.std.specs.Prelude.{All, ◌+ℤ◌, ◌≤ℤ◌}
use Rattle.std.proofs.lemmas.Bool.{cases_eq, cases_lt}
use Rattle.std.proofs.lemmas.Int.{ints}
use Rattle.std.proofs.lemmas.List.{get_or-replicate, get_or_past, get_or-set_same, get_or-set_other, length-replicate, length-set}
use Rattle.std.proofs.lemmas.List.Elements.{All-contains, All-set}
use Rattle.auc_graph.specs.Assignment.{total}
use Rattle.auc_graph.specs.Dual.{price_at}
use Rattle.auc_graph.specs.Price.{IsPrice}
use Rattle.auc_letters.specs.Price.{IsEps}
use Rattle.auc_rows.specs.declared.arc.ShortArc.{ShortArc}
use Rattle.auc_rows.specs.Rows.{FlatTable, IsFlatTable, IsShort, flat_row_of, scale_in}
use Rattle.auc_letters.specs.declared.limits.TheConstants.{NOBODY}
use Rattle.auc_market.specs.Bid.{IsRaise}
use Rattle.auc_market.specs.Augmented.{IsAugmented}
use Rattle.auc_market.specs.Market.{AreSpare, AreUnsold, HaveAllBut, IsAwarded, IsSlack, Stands, holder_at, no_own, own_at}
use Rattle.auc_market.proofs.BidLaws.{risen}

-- ---- lists

pub replicate_default : {X : Type 0} (n i : ℕ) (a : X) → get_or (replicate n a) i a ≡ a
replicate_default n i a = elim (cases_lt i n) [ inl l ↦ get_or-replicate n i a a l | inr past ↦ get_or_past (replicate n a) i a (rw length-replicate past) ]

-- ---- sums of prices

pub total_set : (prices : List ℤ) (j : ℕ) (amount : ℤ) → j < length prices → (total (set prices j amount) +ℤ price_at prices j) ≡ (total prices +ℤ amount)
total_set [] j amount lt = absurd (omega (arith, lt))
total_set (z ∷ zs) zero amount lt = omega (arith, ints)
total_set (z ∷ zs) (suc j) amount lt = let e = total_set zs j amount (omega (arith, lt)) in omega (arith, ints, e)

pub total_rises : (old new : List ℤ) → length new ≡ length old → ((k : ℕ) → price_at old k ≤ℤ price_at new k) → total old ≤ℤ total new
total_rises [] [] e rise = omega (arith, ints)
total_rises [] (y ∷ ys) e rise = absurd (omega (arith, e))
total_rises (x ∷ xs) [] e rise = absurd (omega (arith, e))
total_rises (x ∷ xs) (y ∷ ys) e rise = let first = rise 0 in let r = total_rises xs ys (omega (arith, e)) (λ k. rise (suc k)) in omega (arith, ints, first, r)

pub total_low : (prices : List ℤ) → All IsPrice prices → pos 0 ≤ℤ total prices
total_low [] all = omega (arith, ints)
total_low (z ∷ zs) all = let first = (all 0 (pos 0) (omega arith)).low in let e = total_low zs (λ k d l. all (suc k) d (omega (arith, l))) in omega (arith, ints, first, e)

-- ---- holders, and persons with objects

module _ (r : FlatTable) (eps : ℤ) (prices : List ℤ) (holders : List ℕ) (owns : List ShortArc) (sound : IsFlatTable r) (stands : Stands r eps prices holders owns) where
  -- the number that has an object is a person
  pub owner_below : (i : ℕ) → (own_at owns i).object ≢ NOBODY → i < length r.rows
  owner_below i some =
      elim (cases_lt i (length r.rows)) [
        | inl l ↦ l
        | inr past ↦ absurd (some (ap (λ (s : ShortArc). s.object) (get_or_past owns i no_own (let e = stands.owns_are in omega (arith, past, e)))))
      ]

  -- the number that is held is an object
  pub held_below : (j : ℕ) → holder_at holders j ≢ NOBODY → j < r.objects
  held_below j some =
      elim (cases_lt j r.objects) [
        | inl l ↦ l
        | inr past ↦ absurd (some (get_or_past holders j NOBODY (let e = stands.holders_are in omega (arith, past, e))))
      ]

  pub not_nobody : (j : ℕ) → j < r.objects → j ≢ NOBODY
  not_nobody j l e = let m = sound.most_objects in omega (arith, l, e, m)

  -- the holder of an object has it
  pub holder_has : (j : ℕ) → holder_at holders j ≢ NOBODY → (own_at owns (holder_at holders j)).object ≢ NOBODY
  holder_has j some e = not_nobody j (held_below j some) (sym (stands.held j some) ∙ e)

  pub holder_below : (j : ℕ) → holder_at holders j ≢ NOBODY → holder_at holders j < length r.rows
  holder_below j some = owner_below (holder_at holders j) (holder_has j some)

  pub own_below : (i : ℕ) → (own_at owns i).object ≢ NOBODY → (own_at owns i).object < r.objects
  own_below i some = held_below (own_at owns i).object (λ e. (let h = stands.holds i some in let l = owner_below i some in let m = sound.most in omega (arith, h, l, m, e)))

-- ---- slackness at prices that have risen

pub slack_rises : (r : FlatTable) (eps : ℤ) (prices new : List ℤ) (i : ℕ) (s : ShortArc) → ((k : ℕ) → price_at prices k ≤ℤ price_at new k) → price_at new s.object ≡ price_at prices s.object → IsSlack r eps prices i s → IsSlack r eps new i s
slack_rises r eps prices new i s rise same h = record {
  listed = h.listed;
  least = λ k d lt. (let b = get_or (flat_row_of r i) k d in let o = h.least k d lt in let up = rise b.object in omega (arith, ints, o, up, same));
}

-- ---- an award

module _ (r : FlatTable) (eps : ℤ) (prices : List ℤ) (holders : List ℕ) (owns : List ShortArc) (i : ℕ) (s : ShortArc) (amount : ℤ) (sound : IsFlatTable r) (stands : Stands r eps prices holders owns) (known : i < length r.rows) (none : (own_at owns i).object ≡ NOBODY)
    (up : price_at prices s.object ≤ℤ amount) (fits : IsSlack r eps (set prices s.object amount) i s) where
  abbrev j : ℕ
  j = s.object

  pub object_in : j < r.objects
  object_in = (All-contains (IsShort r.objects) (flat_row_of r i) s (sound.each i) fits.listed).object

  pub price_in : j < length prices
  price_in = let e = stands.prices_are in let l = object_in in omega (arith, e, l)

  abbrev new : List ℤ
  new = set prices j amount

  abbrev sold : List ℕ
  sold = set holders j i

  abbrev d : ℕ
  d = holder_at holders j

  abbrev had : List ShortArc
  had = set owns i s

  abbrev left : List ShortArc
  left = set had d no_own

  pub total_with : (total new +ℤ price_at prices j) ≡ (total prices +ℤ amount)
  total_with = total_set prices j amount price_in

  pub rise : (k : ℕ) → price_at prices k ≤ℤ price_at new k
  rise = risen prices j amount price_in up

  pub price_here : price_at new j ≡ amount
  price_here = get_or-set_same prices j amount (pos 0) price_in

  pub price_off : (k : ℕ) → k ≢ j → price_at new k ≡ price_at prices k
  price_off k ne = get_or-set_other prices j k amount (pos 0) ne

  holder_here : holder_at sold j ≡ i
  holder_here = get_or-set_same holders j i NOBODY (let e = stands.holders_are in let l = object_in in omega (arith, e, l))

  holder_off : (k : ℕ) → k ≢ j → holder_at sold k ≡ holder_at holders k
  holder_off k ne = get_or-set_other holders j k i NOBODY ne

  -- the bidder isn't the displaced person
  apart : i ≢ d
  apart e =
      elim (cases_eq d NOBODY) [
        | inl nobody ↦ (let m = sound.most in omega (arith, e, nobody, known, m))
        | inr some ↦ holder_has r eps prices holders owns sound stands j some (ap (λ (k : ℕ). (own_at owns k).object) (sym e) ∙ none)
      ]

  pub own_new : own_at left i ≡ s
  own_new = get_or-set_other had d i no_own no_own apart ∙ get_or-set_same owns i s no_own (let e = stands.owns_are in omega (arith, e, known))

  pub own_off : (k : ℕ) → k ≢ i → k ≢ d → own_at left k ≡ own_at owns k
  own_off k ni nd = get_or-set_other had d k no_own no_own nd ∙ get_or-set_other owns i k s no_own ni

  own_gone : own_at left d ≡ no_own
  own_gone =
      elim (cases_lt d (length had)) [
        | inl l ↦ get_or-set_same had d no_own no_own l
        | inr past ↦ get_or_past left d no_own (let e = length-set had d no_own in omega (arith, past, e))
      ]

  pub new_has : (own_at left i).object ≢ NOBODY
  new_has e = not_nobody r eps prices holders owns sound stands j object_in (sym (ap (λ (x : ShortArc). x.object) own_new) ∙ e)

  pub gone : (own_at left d).object ≡ NOBODY
  gone = ap (λ (x : ShortArc). x.object) own_gone

  -- every other person keeps the object
  pub others_have : (k : ℕ) → k ≢ i → k ≢ d → (own_at owns k).object ≢ NOBODY → (own_at left k).object ≢ NOBODY
  others_have k ni nd some e = some (sym (ap (λ (x : ShortArc). x.object) (own_off k ni nd)) ∙ e)

  -- a person with an object after the award, but for the bidder, had it before, and it isn't that of the bid
  pub had_before : (k : ℕ) → k ≢ i → (own_at left k).object ≢ NOBODY → ((own_at left k) ≡ (own_at owns k)) × ((own_at owns k).object ≢ NOBODY) × ((own_at owns k).object ≢ j)
  had_before k ni some =
      let nd : k ≢ d = λ e. some (ap (λ (m : ℕ). (own_at left m).object) e ∙ gone) in
      let same = own_off k ni nd in
      let was : (own_at owns k).object ≢ NOBODY = λ e. some (ap (λ (x : ShortArc). x.object) same ∙ e) in
      (same, was, λ e. nd (sym (stands.holds k was) ∙ ap (holder_at holders) e))

  holds_new : (k : ℕ) → (own_at left k).object ≢ NOBODY → holder_at sold (own_at left k).object ≡ k
  holds_new k some =
      elim (cases_eq k i) [
        | inl e ↦ (ap (λ (m : ℕ). holder_at sold (own_at left m).object) e ∙ ap (λ (x : ShortArc). holder_at sold x.object) own_new ∙ holder_here ∙ sym e)
        | inr ne ↦ (let b = had_before k ne some in ap (λ (x : ShortArc). holder_at sold x.object) b.0 ∙ holder_off (own_at owns k).object b.2 ∙ stands.holds k b.1)
      ]

  slack_after : (k : ℕ) → (own_at left k).object ≢ NOBODY → IsSlack r eps new k (own_at left k)
  slack_after k some =
      elim (cases_eq k i) [
        | inl e ↦ subst (λ (m : ℕ). IsSlack r eps new m (own_at left m)) (sym e) (subst (IsSlack r eps new i) (sym own_new) fits)
        | inr ne ↦ (let b = had_before k ne some in subst (IsSlack r eps new k) (sym b.0) (slack_rises r eps prices new k (own_at owns k) rise (price_off (own_at owns k).object b.2) (stands.slack k b.1)))
      ]

  held_new : (k : ℕ) → holder_at sold k ≢ NOBODY → (own_at left (holder_at sold k)).object ≡ k
  held_new k some =
      elim (cases_eq k j) [
        | inl e ↦ (ap (λ (m : ℕ). (own_at left m).object) (ap (holder_at sold) e ∙ holder_here) ∙ ap (λ (x : ShortArc). x.object) own_new ∙ sym e)
        | inr ne ↦ (
            let same = holder_off k ne in
            let was : holder_at holders k ≢ NOBODY = λ z. some (same ∙ z) in
            let has = stands.held k was in
            let ni : holder_at holders k ≢ i = λ z. holder_has r eps prices holders owns sound stands k was (ap (λ (m : ℕ). (own_at owns m).object) z ∙ none) in
            let nd : holder_at holders k ≢ d = λ z. (
            elim (cases_eq d NOBODY) [
              | inl nobody ↦ was (z ∙ nobody)
              | inr held ↦ ne (sym has ∙ ap (λ (m : ℕ). (own_at owns m).object) z ∙ stands.held j held)
            ]
            ) in
            ap (λ (m : ℕ). (own_at left m).object) same ∙ ap (λ (x : ShortArc). x.object) (own_off (holder_at holders k) ni nd) ∙ has
            )
      ]

  spare_by : AreSpare r prices holders → AreSpare r new sold
  spare_by (inl square) = inl square
  spare_by (inr unheld) = inr (λ k nobody. elim (cases_eq k j) [
    | inl e ↦ absurd (let h = ap (holder_at sold) e ∙ holder_here in let m = sound.most in omega (arith, nobody, h, known, m))
    | inr ne ↦ price_off k ne ∙ unheld k (sym (holder_off k ne) ∙ nobody)
  ])

  module _ (high : amount ≤ℤ pos (2 ^ 61)) where
    zero_low : pos 0 ≤ℤ amount
    zero_low = let l = (stands.within j (pos 0) price_in).low in omega (arith, ints, up, l)

    pub stands_after : Stands r eps new sold left
    stands_after = record {
      prices_are = length-set prices j amount ∙ stands.prices_are;
      holders_are = length-set holders j i ∙ stands.holders_are;
      owns_are = length-set had d no_own ∙ (length-set owns i s ∙ stands.owns_are);
      within = All-set IsPrice prices j amount (record { low = zero_low; high = high }) stands.within;
      spare = spare_by stands.spare;
      held = held_new;
      holds = holds_new;
      slack = slack_after;
    }

  -- the person that waits still has no object
  waits_still : (other : ℕ) → other ≢ i → (own_at owns other).object ≡ NOBODY → (own_at left other).object ≡ NOBODY
  waits_still other ni free =
      elim (cases_eq other d) [
        | inl e ↦ (ap (λ (m : ℕ). (own_at left m).object) e ∙ gone)
        | inr nd ↦ (ap (λ (x : ShortArc). x.object) (own_off other ni nd) ∙ free)
      ]

  -- all but the bidder and the waiting person had objects; now all but the displaced and the waiting one
  pub all_but : (n other : ℕ) → HaveAllBut n owns i other → HaveAllBut n left d other
  all_but n other h = record {
    none = gone;
    waits = waits_still other (λ e. h.apart (λ z. (let m = sound.most in omega (arith, z, known, m))) (sym e)) h.waits;
    apart = λ some e. holder_has r eps prices holders owns sound stands j some (ap (λ (m : ℕ). (own_at owns m).object) e ∙ h.waits);
    others = λ k l nd no. elim (cases_eq k i) [
      | inl e ↦ subst (λ (m : ℕ). (own_at left m).object ≢ NOBODY) (sym e) new_has
      | inr ni ↦ others_have k ni nd (h.others k l ni no)
    ];
  }

-- the invariant holds of equal lists
pub stands_by : (r : FlatTable) (eps : ℤ) (prices these : List ℤ) (holders they : List ℕ) (owns those : List ShortArc) → these ≡ prices → they ≡ holders → those ≡ owns → Stands r eps prices holders owns → Stands r eps these they those
stands_by r eps prices these holders they owns those e f g h =
    subst (λ (ps : List ℤ). Stands r eps ps they those) (sym e)
    (subst (λ (hs : List ℕ). Stands r eps prices hs those) (sym f)
    (subst (λ (os : List ShortArc). Stands r eps prices holders os) (sym g) h))

-- a person takes an object at a price that is no lower, and at which its arc satisfies epsilon-complementary slackness
-- where an object gets a holder, at any price, the others without one have price 0 as before
pub set_unsold : (prices : List ℤ) (holders : List ℕ) (object person : ℕ) (amount : ℤ) → object < length holders → person ≢ NOBODY → AreUnsold prices holders → AreUnsold (set prices object amount) (set holders object person)
set_unsold prices holders object person amount lt known unsold j nobody =
    elim (cases_eq j object) [
      | inl same ↦ absurd (known (sym (get_or-set_same holders object person NOBODY lt) ∙ (ap (holder_at (set holders object person)) (sym same) ∙ nobody)))
      | inr other ↦ (get_or-set_other prices object j amount (pos 0) other ∙ unsold j (sym (get_or-set_other holders object j person NOBODY other) ∙ nobody))
    ]

pub augmented_taken : (r : FlatTable) (eps : ℤ) (person : ℕ) (prices new : List ℤ) (holders sold : List ℕ) (owns left : List ShortArc) (d : ℕ) (s : ShortArc) (amount : ℤ) → IsFlatTable r → Stands r eps prices holders owns → person < length r.rows → (own_at owns person).object ≡ NOBODY
    → price_at prices s.object ≤ℤ amount → amount ≤ℤ pos (2 ^ 61) → IsSlack r eps (set prices s.object amount) person s → new ≡ set prices s.object amount → sold ≡ set holders s.object person → left ≡ set (set owns person s) (holder_at holders s.object) no_own → d ≡ holder_at holders s.object
    → IsAugmented r eps person prices new holders sold owns left d
augmented_taken r eps person prices new holders sold owns left d s amount sound stands known none up high fits e f g h =
    record {
      stands = stands_by r eps (set prices s.object amount) new (set holders s.object person) sold (set (set owns person s) (holder_at holders s.object) no_own) left e f g (stands_after r eps prices holders owns person s amount sound stands known none up fits high);
      none = subst (λ (os : List ShortArc). (own_at os d).object ≡ NOBODY) (sym g) (subst (λ (m : ℕ). (own_at (set (set owns person s) (holder_at holders s.object) no_own) m).object ≡ NOBODY) (sym h) (gone r eps prices holders owns person s amount sound stands known none up fits));
      but = λ n other b. subst (λ (os : List ShortArc). HaveAllBut n os d other) (sym g) (subst (λ (m : ℕ). HaveAllBut n (set (set owns person s) (holder_at holders s.object) no_own) m other) (sym h) (all_but r eps prices holders owns person s amount sound stands known none up fits n other b));
      below = λ some. (let l = holder_below r eps prices holders owns sound stands s.object (λ z. some (h ∙ z)) in omega (arith, l, h));
      higher = λ k. (let up_k = rise r eps prices holders owns person s amount sound stands known none up fits k in rw e up_k);
      unsold = λ u. rw (e, f) (set_unsold prices holders s.object person amount object (let most = sound.most in λ n. omega (arith, n, known, most)) u);
    }
  where
    object : s.object < length holders
    object = let is = (All-contains (IsShort r.objects) (flat_row_of r person) s (sound.each person) fits.listed).object in let many = stands.holders_are in omega (arith, is, many)

pub awarded : (r : FlatTable) (eps : ℤ) (person : ℕ) (prices new : List ℤ) (holders sold : List ℕ) (owns left : List ShortArc) (d : ℕ) (s : ShortArc) (amount : ℤ) → IsFlatTable r → IsEps eps → Stands r eps prices holders owns → person < length r.rows → (own_at owns person).object ≡ NOBODY
    → IsRaise (scale_in r) eps prices (flat_row_of r person) s amount → amount ≤ℤ pos (2 ^ 61) → new ≡ set prices s.object amount → sold ≡ set holders s.object person → left ≡ set (set owns person s) (holder_at holders s.object) no_own → d ≡ holder_at holders s.object
    → IsAwarded r eps person prices new sold owns left d
awarded r eps person prices new holders sold owns left d s amount sound is_eps stands known none raise high e f g h =
    let m = raise.more in
    let e0 = is_eps.low in
    let up : price_at prices s.object ≤ℤ amount = omega (arith, ints, m, e0) in
    let fits : IsSlack r eps (set prices s.object amount) person s = record { listed = raise.listed; least = raise.slack } in
    let augmented = augmented_taken r eps person prices new holders sold owns left d s amount sound stands known none up high fits e f g h in
    record {
      stands = augmented.stands;
      more = rw e (let t = total_with r eps prices holders owns person s amount sound stands known none up fits in omega (arith, ints, t, m, e0));
      none = augmented.none;
      but = augmented.but;
      below = augmented.below;
      higher = augmented.higher;
    }
