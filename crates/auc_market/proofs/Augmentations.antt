-- The result of a path that a search has proposed, once it was tried.
use Rattle.std.proofs.Common.{ℕ, zero, suc, ℤ, pos, ◌+◌, ◌<◌, ◌≡◌, ◌≢◌, arith, Contains, List, length, set, inl, inr, ap, refl, sym, subst, ◌∙◌}
use Rattle.std.specs.Prelude.{All, ◌⊎◌, ◌-ℤ◌, ◌≤ℤ◌}
use Rattle.std.proofs.lemmas.Bool.{cases_eq}
use Rattle.std.proofs.lemmas.Int.{ints}
use Rattle.std.proofs.lemmas.List.{get_or-set_same, get_or-set_other, length-set, set-get_or, set-set}
use Rattle.std.proofs.lemmas.List.Elements.{All-contains, All-get_or, All-set}
use Rattle.auc_graph.specs.Dual.{price_at}
use Rattle.auc_graph.specs.Price.{IsPrice}
use Rattle.auc_rows.specs.declared.arc.ShortArc.{ShortArc}
use Rattle.auc_rows.specs.Rows.{FlatTable, IsFlatTable, IsShort, flat_row_of, scale_in}
use Rattle.auc_letters.specs.declared.limits.TheConstants.{NOBODY}
use Rattle.auc_market.specs.declared.search.Rise.{Rise}
use Rattle.auc_market.specs.Market.{AreHigher, AreSpare, AreUnsold, IsSlack, Stands, holder_at, no_own, own_at}
use Rattle.auc_market.specs.Path.{AreRaised, AreWithin, IsAmong, IsRise, IsWithin, no_rise, rise_at, set_back}
use Rattle.auc_market.specs.Scan.{short_value}
use Rattle.auc_market.specs.Starts.{any_eps}
use Rattle.auc_market.specs.Augmented.{IsAugmented}
use Rattle.auc_market.proofs.MarketLaws.{slack_rises, augmented_taken}
use Rattle.auc_market.proofs.StartLaws.{any_slack}

-- by a pass over the person's row that found no value below this
pub slack_of : (r : FlatTable) (eps : ℤ) (prices : List ℤ) (i : ℕ) (s : ShortArc) (scale least : ℤ) (row : List ShortArc) → scale ≡ scale_in r → row ≡ flat_row_of r i → Contains (flat_row_of r i) s → least ≡ (short_value scale prices s -ℤ eps) → All (λ b. least ≤ℤ short_value scale prices b) row → IsSlack r eps prices i s
slack_of r eps prices i s scale least row e f listed l all =
    let mine : All (λ b. least ≤ℤ short_value (scale_in r) prices b) (flat_row_of r i) = subst (λ (xs : List ShortArc). All (λ b. least ≤ℤ short_value (scale_in r) prices b) xs) f (subst (λ (z : ℤ). All (λ b. least ≤ℤ short_value z prices b) row) e all) in
    let own : least ≡ (short_value (scale_in r) prices s -ℤ eps) = l ∙ ap (λ (z : ℤ). short_value z prices s -ℤ eps) e in
    record { listed = listed; least = λ k d lt. (let a = mine k d lt in omega (arith, ints, a, own)) }

-- ---- prices rise

-- only the first n of these count
set_back_same : (n : ℕ) (these those : List Rise) → ((m : ℕ) → m < n → rise_at these m ≡ rise_at those m) → (prices : List ℤ) → set_back n these prices ≡ set_back n those prices
set_back_same zero these those same prices = refl
set_back_same (suc n) these those same prices =
    ap (λ (r : Rise). set_back n these (set prices r.object r.amount)) (same n (omega arith)) ∙ set_back_same n these those (λ m lt. same m (omega (arith, lt))) (set prices (rise_at those n).object (rise_at those n).amount)

module _ (prices now : List ℤ) (holders : List ℕ) (rises : List Rise) (n : ℕ) (raised : AreRaised prices now holders rises n) (may : IsRise prices holders (rise_at rises n)) (lt : n < length rises) where
  abbrev object : ℕ
  object = (rise_at rises n).object

  -- the rise with the price before it in place of the amount
  abbrev noted : Rise
  noted = record { object = (rise_at rises n).object; amount = price_at now (rise_at rises n).object }

  abbrev new : List ℤ
  new = set now (rise_at rises n).object (rise_at rises n).amount

  abbrev left : List Rise
  left = set rises n (record { object = (rise_at rises n).object; amount = price_at now (rise_at rises n).object })

  room : object < length now
  room = let k = may.known in let m = raised.many in omega (arith, k, m)

  at_last : rise_at left n ≡ noted
  at_last = get_or-set_same rises n noted no_rise lt

  off : (k : ℕ) → k ≢ object → price_at new k ≡ price_at now k
  off k ne = get_or-set_other now object k (rise_at rises n).amount (pos 0) ne

  higher : AreHigher prices new
  higher k =
      elim (cases_eq k object) [
        | inl same ↦ (
            let e : price_at new k ≡ (rise_at rises n).amount = ap (price_at new) same ∙ get_or-set_same now object (rise_at rises n).amount (pos 0) room in
            let was : price_at prices k ≡ price_at prices object = ap (price_at prices) same in
            let more = may.more in
            omega (arith, ints, e, was, more)
            )
        | inr ne ↦ (let e = off k ne in let h = raised.higher k in omega (arith, ints, e, h))
      ]

  within : All IsPrice prices → All IsPrice new
  within all = All-set IsPrice now object (rise_at rises n).amount (
      let low = (All-get_or IsPrice prices object (pos 0) may.known all).low in
      let more = may.more in
      let most = may.most in
      record { low = omega (arith, ints, low, more); high = omega (arith, ints, most) }
      ) (raised.within all)

  each : (k : ℕ) → (price_at new k ≡ price_at prices k) ⊎ IsAmong holders left (n + 1) k
  each k =
      elim (cases_eq k object) [
        | inl same ↦ inr (record {
          held = λ none. may.held (ap (holder_at holders) (sym same) ∙ none);
          place = n;
          below = omega arith;
          object = ap (λ (r : Rise). r.object) at_last ∙ sym same;
        })
        | inr ne ↦ by ne (raised.each k)
      ]
    where
      by : k ≢ object → (price_at now k ≡ price_at prices k) ⊎ IsAmong holders rises n k → (price_at new k ≡ price_at prices k) ⊎ IsAmong holders left (n + 1) k
      by ne (inl same) = inl (off k ne ∙ same)
      by ne (inr among) = inr (record {
        held = among.held;
        place = among.place;
        below = let b = among.below in omega (arith, b);
        object = ap (λ (r : Rise). r.object) (get_or-set_other rises n among.place noted no_rise (λ e. (let b = among.below in omega (arith, b, e)))) ∙ among.object;
      })

  -- one more price has risen
  pub raised_next : AreRaised prices new holders left (n + 1)
  raised_next = record { many = length-set now object (rise_at rises n).amount ∙ raised.many; higher = higher; within = within; each = each }

  -- and is set back first
  pub set_back_next : set_back (n + 1) left new ≡ set_back n rises now
  set_back_next =
      let one : n + 1 ≡ suc n = omega arith in
      ap (λ (m : ℕ). set_back m left new) one
      ∙ (ap (λ (r : Rise). set_back n left (set new r.object r.amount)) at_last
      ∙ (ap (set_back n left) (set-set now object (rise_at rises n).amount (price_at now object) ∙ set-get_or now object (pos 0)) ∙ set_back_same n left rises (λ m below. get_or-set_other rises n m noted no_rise (λ e. omega (arith, below, e))) now))

-- one more price is set back
pub set_back_on : (n left : ℕ) (rises : List Rise) (prices now : List ℤ) → n ≡ left + 1 → now ≡ set prices (rise_at rises left).object (rise_at rises left).amount → set_back left rises now ≡ set_back n rises prices
set_back_on n left rises prices now one is =
    let next : left + 1 ≡ suc left = omega arith in
    ap (set_back left rises) is ∙ ap (λ (m : ℕ). set_back m rises prices) (sym (one ∙ next))

module _ (prices new : List ℤ) (holders : List ℕ) (rises : List Rise) (raised : AreRaised prices new holders rises (length rises)) where
  pub raised_unsold : AreUnsold prices holders → AreUnsold new holders
  raised_unsold unheld k nobody = by (raised.each k)
    where
      by : (price_at new k ≡ price_at prices k) ⊎ IsAmong holders rises (length rises) k → price_at new k ≡ pos 0
      by (inl same) = same ∙ unheld k nobody
      by (inr among) = absurd (among.held nobody)

  module _ (r : FlatTable) (eps : ℤ) (owns : List ShortArc) (sound : IsFlatTable r) (stands : Stands r eps prices holders owns) where
    many_after : length new ≡ r.objects
    many_after = raised.many ∙ stands.prices_are

    spare_by : AreSpare r prices holders → AreSpare r new holders
    spare_by (inl square) = inl square
    spare_by (inr unheld) = inr (raised_unsold unheld)

    pub raised_any : Stands r any_eps new holders owns
    raised_any = record {
      prices_are = many_after;
      holders_are = stands.holders_are;
      owns_are = stands.owns_are;
      within = raised.within stands.within;
      spare = spare_by stands.spare;
      held = stands.held;
      holds = stands.holds;
      slack = λ i some. any_slack r new i (own_at owns i) sound (raised.within stands.within) many_after (stands.slack i some).listed;
    }

    -- each holder of one of these objects satisfies epsilon-complementary slackness, and so does every other person as
    -- before
    pub raised_stands : AreWithin r eps new holders owns rises → Stands r eps new holders owns
    raised_stands are = record {
      prices_are = many_after;
      holders_are = stands.holders_are;
      owns_are = stands.owns_are;
      within = raised.within stands.within;
      spare = spare_by stands.spare;
      held = stands.held;
      holds = stands.holds;
      slack = λ i some. by i some (raised.each (own_at owns i).object);
    }
      where
        by : (i : ℕ) → (own_at owns i).object ≢ NOBODY → (price_at new (own_at owns i).object ≡ price_at prices (own_at owns i).object) ⊎ IsAmong holders rises (length rises) (own_at owns i).object → IsSlack r eps new i (own_at owns i)
        by i some (inl same) = slack_rises r eps prices new i (own_at owns i) raised.higher same (stands.slack i some)
        by i some (inr among) = subst (IsWithin r eps new owns) (ap (holder_at holders) among.object ∙ stands.holds i some) (All-get_or (λ (y : Rise). IsWithin r eps new owns (holder_at holders y.object)) rises among.place no_rise among.below are) some

-- ---- paths

pub higher_same : (prices : List ℤ) → AreHigher prices prices
higher_same prices k = omega (arith, ints)

-- a path, and another one from where it has ended
pub augmented_on : (r : FlatTable) (eps : ℤ) (first next last : ℕ) (prices mid new : List ℤ) (holders held sold : List ℕ) (owns had left : List ShortArc) → IsAugmented r eps first prices mid holders held owns had next → IsAugmented r eps next mid new held sold had left last → IsAugmented r eps first prices new holders sold owns left last
augmented_on r eps first next last prices mid new holders held sold owns had left one two = record {
  stands = two.stands;
  higher = λ k. (let a = one.higher k in let b = two.higher k in omega (arith, ints, a, b));
  unsold = λ u. two.unsold (one.unsold u);
  none = two.none;
  below = two.below;
  but = λ n other h. two.but n other (one.but n other h);
}

-- an object is taken at its price
pub augmented_at_price : (r : FlatTable) (eps : ℤ) (person : ℕ) (prices new : List ℤ) (holders sold : List ℕ) (owns left : List ShortArc) (d : ℕ) (s : ShortArc) (amount : ℤ) → IsFlatTable r → Stands r eps prices holders owns → person < length r.rows → (own_at owns person).object ≡ NOBODY → amount ≡ price_at prices s.object → IsSlack r eps prices person s
    → new ≡ set prices s.object amount → sold ≡ set holders s.object person → left ≡ set (set owns person s) (holder_at holders s.object) no_own → d ≡ holder_at holders s.object → IsAugmented r eps person prices new holders sold owns left d
augmented_at_price r eps person prices new holders sold owns left d s amount sound stands known none is slack e f g h =
    let object = (All-contains (IsShort r.objects) (flat_row_of r person) s (sound.each person) slack.listed).object in
    let many = stands.prices_are in
    let price = All-get_or IsPrice prices s.object (pos 0) (omega (arith, object, many)) stands.within in
    let high = price.high in
    let same : set prices s.object amount ≡ prices = ap (set prices s.object) is ∙ set-get_or prices s.object (pos 0) in
    augmented_taken r eps person prices new holders sold owns left d s amount sound stands known none (omega (arith, ints, is)) (omega (arith, ints, is, high)) (subst (λ (ps : List ℤ). IsSlack r eps ps person s) (sym same) slack) e f g h
