-- The least worth of a row's entries and the second least, entry by entry, and the offer that they make.
use Rattle.std.proofs.Common.{◌≡◌, ◌≢◌, inl, inr, ℕ, ◌+◌, List, length, get_or, refl, sym, ap, subst, ◌∙◌, arith}
use Rattle.std.specs.Prelude.{ℤ, pos, ◌≤ℤ◌, ◌<ℤ◌, ◌⊎◌}
use Rattle.std.proofs.lemmas.Bool.{cases_lt}
use Rattle.std.proofs.lemmas.Int.{by_lt_z, ints}
use Rattle.auc_dense.specs.declared.bidding.Found.{Found}
use Rattle.auc_dense.specs.declared.bidding.Offer.{Offer}
use Rattle.auc_dense.specs.Bidding.{IsFound, IsLowered, IsMargin, IsOffer, IsOwn, IsWorth, endless, found}
use Rattle.auc_dense.specs.Tried.{worth_at}

-- an entry before this place, or the one there
one_more : (gap : ℤ) (row : List ℤ) (end place : ℕ) → IsOwn gap row (end + 1) place → (IsOwn gap row end place) ⊎ (place ≡ end)
one_more gap row end place h = elim (cases_lt place end) [
  | inl lt ↦ inl (record { before = lt; own = h.own })
  | inr past ↦ inr (let l = h.before in omega (arith, l, past))
]

later : (gap : ℤ) (row : List ℤ) (end place : ℕ) → IsOwn gap row end place → IsOwn gap row (end + 1) place
later gap row end place h = record { before = let l = h.before in omega (arith, l); own = h.own }

pub found_none : (gap : ℤ) (row prices : List ℤ) → IsFound gap row prices 0 (found 0 endless endless)
found_none gap row prices = record {
  low = omega (arith, ints);
  order = omega (arith, ints);
  least_is = inl refl;
  below = λ place h. absurd (let l = h.before in omega (arith, l));
  others = λ place h ne. absurd (let l = h.before in omega (arith, l));
  second_is = inl refl;
}

module _ (gap : ℤ) (row prices : List ℤ) (end : ℕ) (f : Found) (h : IsFound gap row prices end f) where
  -- a gap changes nothing
  pub found_gap : get_or row end (pos 0) ≡ gap → IsFound gap row prices (end + 1) f
  found_gap gone = record {
    low = h.low;
    order = h.order;
    least_is = elim h.least_is [
      | inl none ↦ inl none
      | inr some ↦ inr (later gap row end f.place some.0, some.1, some.2)
    ];
    below = λ place own. elim (one_more gap row end place own) [
      | inl before ↦ h.below place before
      | inr here ↦ absurd (own.own (ap (λ (k : ℕ). get_or row k (pos 0)) here ∙ gone))
    ];
    others = λ place own ne. elim (one_more gap row end place own) [
      | inl before ↦ h.others place before ne
      | inr here ↦ absurd (own.own (ap (λ (k : ℕ). get_or row k (pos 0)) here ∙ gone))
    ];
    second_is = elim h.second_is [
      | inl none ↦ inl none
      | inr some ↦ inr (some.0, (some.1.0, later gap row end some.1.0 some.1.1, some.1.2))
    ];
  }

  module _ (worth : ℤ) (own : get_or row end (pos 0) ≢ gap) (fits : IsWorth worth) (is : worth ≡ worth_at row prices end) where
    at_end : IsOwn gap row (end + 1) end
    at_end = record { before = omega arith; own = own }

    -- the place of the least is another, where there is one
    place_before : (f.least ≡ endless) ⊎ (IsOwn gap row end f.place × IsWorth f.least × (f.least ≡ worth_at row prices f.place)) → f.least ≤ℤ worth → end ≢ f.place
    place_before (inl none) le same = let high = fits.high in absurd (omega (arith, ints, none, le, high))
    place_before (inr some) le same = let l = some.0.before in omega (arith, l, same)

    found_wins : worth <ℤ f.least → IsFound gap row prices (end + 1) (found end worth f.least)
    found_wins wins = record {
      low = fits.low;
      order = omega (arith, ints, wins);
      least_is = inr (at_end, fits, is);
      below = λ place own_at. elim (one_more gap row end place own_at) [
        | inl before ↦ (let le = h.below place before in omega (arith, ints, le, wins))
        | inr here ↦ (let e = ap (worth_at row prices) here in omega (arith, ints, e, is))
      ];
      others = λ place own_at ne. elim (one_more gap row end place own_at) [
        | inl before ↦ h.below place before
        | inr here ↦ absurd (ne here)
      ];
      second_is = elim h.least_is [
        | inl none ↦ inl none
        | inr some ↦ inr (some.1, (f.place, later gap row end f.place some.0, λ same. (let l = some.0.before in omega (arith, l, same))))
      ];
    }

    found_next : f.least ≤ℤ worth → worth <ℤ f.second → IsFound gap row prices (end + 1) (found f.place f.least worth)
    found_next le next = record {
      low = h.low;
      order = le;
      least_is = elim h.least_is [
        | inl none ↦ inl none
        | inr some ↦ inr (later gap row end f.place some.0, some.1, some.2)
      ];
      below = λ place own_at. elim (one_more gap row end place own_at) [
        | inl before ↦ h.below place before
        | inr here ↦ (let e = ap (worth_at row prices) here in omega (arith, ints, e, is, le))
      ];
      others = λ place own_at ne. elim (one_more gap row end place own_at) [
        | inl before ↦ (let l = h.others place before ne in omega (arith, ints, l, next))
        | inr here ↦ (let e = ap (worth_at row prices) here in omega (arith, ints, e, is))
      ];
      second_is = inr (fits, (end, at_end, place_before h.least_is le));
    }

    found_stays : f.least ≤ℤ worth → f.second ≤ℤ worth → IsFound gap row prices (end + 1) f
    found_stays le stays = record {
      low = h.low;
      order = h.order;
      least_is = elim h.least_is [
        | inl none ↦ inl none
        | inr some ↦ inr (later gap row end f.place some.0, some.1, some.2)
      ];
      below = λ place own_at. elim (one_more gap row end place own_at) [
        | inl before ↦ h.below place before
        | inr here ↦ (let e = ap (worth_at row prices) here in omega (arith, ints, e, is, le))
      ];
      others = λ place own_at ne. elim (one_more gap row end place own_at) [
        | inl before ↦ h.others place before ne
        | inr here ↦ (let e = ap (worth_at row prices) here in omega (arith, ints, e, is, stays))
      ];
      second_is = elim h.second_is [
        | inl none ↦ inl none
        | inr some ↦ inr (some.0, (some.1.0, later gap row end some.1.0 some.1.1, some.1.2))
      ];
    }

    -- one more entry that is no gap
    pub found_more : (new : Found) → IsLowered f end worth new → IsFound gap row prices (end + 1) new
    found_more new lowered =
        by_lt_z worth f.least
        (λ wins. subst (IsFound gap row prices (end + 1)) (sym (lowered.wins wins)) (found_wins wins))
        (λ le.
        by_lt_z worth f.second
        (λ next. subst (IsFound gap row prices (end + 1)) (sym (lowered.next le next)) (found_next le next))
        (λ stays. subst (IsFound gap row prices (end + 1)) (sym (lowered.stays le stays)) (found_stays le stays)))

-- the offer that they make
module _ (gap : ℤ) (row prices : List ℤ) (f : Found) (margin : ℤ) (h : IsFound gap row prices (length row) f) (some : f.least ≢ endless) (is : IsMargin f margin) where
  abbrev offer : Offer
  offer = record { object = f.place; margin = margin }

  its_place : IsOwn gap row (length row) f.place × IsWorth f.least × (f.least ≡ worth_at row prices f.place)
  its_place = elim h.least_is [ inl none ↦ absurd (some none) | inr there ↦ there ]

  without : f.second ≡ endless → IsOffer gap row prices offer
  without none =
      let zero_margin = is.none none in
      record {
        own = its_place.0;
        low = omega (arith, ints, zero_margin);
        high = omega (arith, ints, zero_margin);
        others = λ place own ne. (let le = h.below place own in let e = its_place.2 in omega (arith, ints, zero_margin, le, e));
        only = inl zero_margin;
      }

  with_second : IsWorth f.second → (other : ℕ) × IsOwn gap row (length row) other × (other ≢ f.place) → IsOffer gap row prices offer
  with_second fits other =
      let high = fits.high in
      let margin_is = is.some (λ none. absurd (omega (arith, ints, none, high))) in
      let order = h.order in
      let low = h.low in
      record {
        own = its_place.0;
        low = omega (arith, ints, margin_is, order);
        high = omega (arith, ints, margin_is, high, low);
        others = λ place own ne. (let le = h.others place own ne in let e = its_place.2 in omega (arith, ints, margin_is, le, e));
        only = inr other;
      }

  pub offer_is : IsOffer gap row prices offer
  offer_is = elim h.second_is [ inl none ↦ without none | inr second ↦ with_second second.0 second.1 ]
