-- Persons with a flag, and the objects to which they have arcs, are a Hall set of the rows if the objects are fewer.
use Rattle.std.proofs.Common.{◌≡◌, ℕ, ◌+◌, ◌<◌, Bool, false, List, length, get_or, subst, ◌∙◌, arith, inl, inr, Contains}
use Rattle.std.proofs.lemmas.Bool.{both_ways, cases_eq, cases_lt}
use Rattle.std.proofs.lemmas.List.{get_or_past}
use Rattle.std.proofs.lemmas.Option.{slice_get_within}
use Rattle.auc_hall.specs.Chosen.{places}
use Rattle.auc_hall.specs.Search.{WasSeen}
use Rattle.auc_hall.proofs.FlagLaws.{place_all, place_only, places_rise}
use Rattle.auc_hall.proofs.Membership.{place_of}
use Rattle.auc_rows.specs.Rows.{FlatTable, flat_row_of}
use Rattle.auc_market.specs.Hall.{AreAdded, AreKnownTo, IsShortHallSet, KnowsShort}

-- ---- the objects to which persons with a flag have arcs

module _ (r : FlatTable) (is_in : List Bool) where
  -- the row of one more person, with a flag
  pub row_known : (i : ℕ) (seen new : List Bool) → AreKnownTo r is_in i seen → WasSeen is_in i → AreAdded (flat_row_of r i) (length (flat_row_of r i)) seen new → AreKnownTo r is_in (i + 1) new
  row_known i seen new h has added = record {
    size = added.size ∙ h.size;
    all = λ m j lt its knows. elim (cases_eq m i) [
      | inl is ↦
          let own = subst (λ (n : ℕ). KnowsShort r n j) is knows in
          let at = place_of (flat_row_of r i) own.0 own.1 in
          subst (WasSeen new) own.2 (added.each at.0 own.0 (slice_get_within (flat_row_of r i) at.0 own.0 at.1) at.1)
      | inr not ↦ added.stay j (h.all m j (omega (arith, lt, not)) its knows)
    ];
    only = λ j was. elim (added.only j was) [
      | inl old ↦ (let x = h.only j old in (x.0, omega (arith, x.1), x.2, x.3))
      | inr own ↦ (i, omega arith, has, own)
    ];
  }

  -- and of one without a flag
  pub row_past : (i : ℕ) (seen : List Bool) → AreKnownTo r is_in i seen → get_or is_in i false ≡ false → AreKnownTo r is_in (i + 1) seen
  row_past i seen h none = record {
    size = h.size;
    all = λ m j lt its knows. elim (cases_eq m i) [
      | inl is ↦ absurd (both_ways (get_or is_in i false) none (subst (WasSeen is_in) is its))
      | inr not ↦ h.all m j (omega (arith, lt, not)) its knows
    ];
    only = λ j was. (let x = h.only j was in (x.0, omega (arith, x.1), x.2, x.3));
  }

  pub is_short_hall_set : (seen : List Bool) → length is_in ≡ length r.rows → AreKnownTo r is_in (length r.rows) seen → length (places 0 seen) < length (places 0 is_in) → IsShortHallSet r (places 0 is_in) (places 0 seen)
  is_short_hall_set seen many h fewer =
      let below : (i : ℕ) → WasSeen is_in i → i < length r.rows = λ i was. elim (cases_lt i (length is_in)) [
        | inl lt ↦ omega (arith, lt, many)
        | inr le ↦ absurd (both_ways (get_or is_in i false) (get_or_past is_in i false le) was)
      ] in
      let flag : (i : ℕ) → Contains (places 0 is_in) i → WasSeen is_in i = λ i c. (let x = place_only 0 is_in i c in subst (WasSeen is_in) (omega (arith, x.1)) x.2) in
      record {
        within = λ i c. below i (flag i c);
        persons_rise = places_rise 0 is_in;
        objects_rise = places_rise 0 seen;
        all = λ i j c knows. place_all 0 seen j (h.all i j (below i (flag i c)) (flag i c) knows) j (omega arith);
        only = λ j c.
            let x = place_only 0 seen j c in
            let y = h.only j (subst (WasSeen seen) (omega (arith, x.1)) x.2) in
            (y.0, place_all 0 is_in y.0 y.2 y.0 (omega arith), y.3);
        fewer = fewer;
      }
