-- Marks of the objects that the persons of some rows know, and the lists that are read off them.
use Rattle.std.proofs.Common.{◌≡◌, inl, inr, ℕ, ◌+◌, ◌<◌, ◌≤◌, Bool, false, List, length, get_or, subst, ◌∙◌, arith, Contains}
use Rattle.std.specs.Prelude.{ℤ}
use Rattle.std.proofs.lemmas.Bool.{cases_lt, both_ways}
use Rattle.auc_hall.specs.Chosen.{places}
use Rattle.auc_hall.specs.Search.{WasSeen}
use Rattle.auc_hall.proofs.FlagLaws.{count_most, length-places, place_all, place_only, places_rise, seen_within}
use Rattle.auc_dense.specs.Shortage.{AreRowsMarked, IsRowMarked, Knows, ShowShortage}
use Rattle.auc_dense.specs.Table.{row_of}

-- one more person
module _ (objects : ℕ) (costs : List ℤ) (stride : ℕ) (gap : ℤ) (flags : List Bool) (person : ℕ) (known : List Bool) (was : AreRowsMarked objects costs stride gap flags person known) where
  -- where the person has no flag, the marks are as they were
  pub rows_past : get_or flags person false ≡ false → AreRowsMarked objects costs stride gap flags (person + 1) known
  rows_past none = record {
    size = was.size;
    all = λ i j lt flagged inside knows. elim (cases_lt i person) [
      | inl before ↦ was.all i j before flagged inside knows
      | inr not_before ↦
          let here : i ≡ person = omega (arith, lt, not_before) in
          absurd (both_ways (get_or flags person false) none (subst (WasSeen flags) here flagged))
    ];
    only = was.only;
  }

  -- else those that the person knows are marked too
  pub rows_more : (more : List Bool) (end : ℕ) → WasSeen flags person → end ≡ objects → IsRowMarked gap (row_of objects costs stride person) known more end → AreRowsMarked objects costs stride gap flags (person + 1) more
  rows_more more end flag whole row = record {
    size = row.size ∙ was.size;
    all = λ i j lt flagged inside knows. elim (cases_lt i person) [
      | inl before ↦ row.kept j (was.all i j before flagged inside knows)
      | inr not_before ↦
          let here : i ≡ person = omega (arith, lt, not_before) in
          row.all j (omega (arith, inside, whole)) (subst (λ (k : ℕ). Knows gap (row_of objects costs stride k) j) here knows)
    ];
    only = λ j seen. elim (row.only j seen) [
      | inl before ↦ was.only j before
      | inr knows ↦ (person, flag, knows)
    ];
  }

seen_at : (flags : List Bool) (i : ℕ) → Contains (places 0 flags) i → WasSeen flags i
seen_at flags i c =
    let at = place_only 0 flags i c in
    let same : at.0 ≡ i = omega (arith, at.1) in
    subst (WasSeen flags) same at.2

place_at : (flags : List Bool) (i : ℕ) → WasSeen flags i → Contains (places 0 flags) i
place_at flags i seen = place_all 0 flags i seen i (omega arith)

-- the persons flagged are no more than all
pub listed_few : (flags : List Bool) (persons : ℕ) → length flags ≡ persons → length (places 0 flags) ≤ persons
listed_few flags persons size = omega (arith, size, length-places 0 flags, count_most flags)

-- the persons flagged and the objects marked, where these are fewer
pub shortage_shown : (persons objects : ℕ) (costs : List ℤ) (stride : ℕ) (gap : ℤ) (flags known : List Bool) → length flags ≡ persons → AreRowsMarked objects costs stride gap flags persons known
    → length (places 0 known) < length (places 0 flags) → ShowShortage persons objects costs stride gap (places 0 flags) (places 0 known)
shortage_shown persons objects costs stride gap flags known size marks fewer = record {
  listed_below = λ i c. let lt = seen_within flags i (seen_at flags i c) in omega (arith, lt, size);
  listed_rise = places_rise 0 flags;
  known_below = λ j c. let lt = seen_within known j (seen_at known j c) in let all = marks.size in omega (arith, lt, all);
  known_rise = places_rise 0 known;
  all = λ i j c inside knows.
      let flagged = seen_at flags i c in
      let below = seen_within flags i flagged in
      place_at known j (marks.all i j (omega (arith, below, size)) flagged inside knows);
  only = λ j c. let by = marks.only j (seen_at known j c) in (by.0, place_at flags by.0 by.1, by.2);
  fewer = fewer;
}
