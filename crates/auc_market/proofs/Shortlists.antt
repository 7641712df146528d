-- Candidate lists.
use Rattle.std.proofs.Common.{◌≡◌, ℕ, ◌+◌, ◌<◌, ◌≤◌, inl, inr, List, [], ◌∷◌, ◌++◌, length, get_or, insert, set, take, ap, sym, subst, ◌∙◌, arith}
use Rattle.std.specs.Prelude.{ℤ, ◌≤ℤ◌, ◌⊎◌, All, Contains}
use Rattle.std.proofs.lemmas.Bool.{cases_eq, cases_lt}
use Rattle.std.proofs.lemmas.Int.{ints}
use Rattle.std.proofs.lemmas.List.{get_or_default, get_or_past, get_or-set_same, get_or-set_other, get_or-take, length-take}
use Rattle.std.proofs.lemmas.List.Elements.{All-contains, All-get_or, All-nil, All-push, All-weaker, Contains-append_left, Contains-get_or, Contains-push}
use Rattle.std.specs.List.Sorted.{IsPermutation}
use Rattle.std.proofs.lemmas.List.Sorted.{All-permutation, Contains-permutation, IsPermutation-insert, IsPermutation-to_front, IsPermutation-trans}
use Rattle.auc_rows.specs.declared.arc.ShortArc.{ShortArc}
use Rattle.auc_rows.specs.Rows.{FlatTable, IsShort, flat_row_of, scale_in}
use Rattle.auc_market.specs.declared.best.Best.{Best}
use Rattle.auc_market.specs.declared.scan.Found.{Found}
use Rattle.auc_market.specs.declared.shortlist.Shortlist.{Shortlist}
use Rattle.auc_market.specs.Market.{AreHigher}
use Rattle.auc_market.specs.Scan.{IsFound, IsWorth, endless, no_arc, short_value}
use Rattle.auc_market.specs.Shortlist.{Gathered, IsBest, IsSecond, Kept, Says, SaysNothing, list_at, no_list}

-- ---- the best arc

-- by a pass over all arcs of a row
module _ (val : ShortArc → ℤ) (row : List ShortArc) (f : Found) (h : IsFound val row (length row) f) where
  abbrev pub found_best : Best
  found_best = record { value = f.value; second = f.second; arc = get_or row f.place no_arc }

  same_arc : (k : ℕ) (d : ShortArc) → k < length row → k ≡ f.place → get_or row k d ≡ get_or row f.place no_arc
  same_arc k d lt e = get_or_default row k d no_arc lt ∙ ap (λ (m : ℕ). get_or row m no_arc) e

  other : (k : ℕ) (d : ShortArc) → k < length row → (get_or row k d ≡ get_or row f.place no_arc) ⊎ (f.second ≤ℤ val (get_or row k d))
  other k d lt =
      elim (cases_eq k f.place) [
        | inl e ↦ inl (same_arc k d lt e)
        | inr ne ↦ inr (subst (λ (a : ShortArc). f.second ≤ℤ val a) (get_or_default row k no_arc d lt) (h.others k lt ne))
      ]

  second_value : IsWorth val row (length row) f.second → IsSecond val row f.second
  second_value w = record { range = w.range; arc = get_or row w.place no_arc; listed = Contains-get_or row w.place no_arc w.known; below = w.below }

  second_by : ((f.second ≡ endless) × (length row ≡ 1)) ⊎ IsWorth val row (length row) f.second → ((f.second ≡ endless) × All (λ a. a ≡ get_or row f.place no_arc) row) ⊎ IsSecond val row f.second
  second_by (inl e) = inl (e.0, λ k d lt. same_arc k d lt (let one = e.1 in let p = h.known in omega (arith, lt, one, p)))
  second_by (inr w) = inr (second_value w)

  pub best_found : IsBest val row found_best
  best_found = record {
    listed = Contains-get_or row f.place no_arc h.known;
    is = h.is;
    range = h.range;
    others = other;
    least = h.least;
    second_is = second_by h.second_is;
  }

  -- of two or more arcs, one is the second
  pub second_of_two : 2 ≤ length row → IsSecond val row f.second
  second_of_two two = by h.second_is
    where
      by : ((f.second ≡ endless) × (length row ≡ 1)) ⊎ IsWorth val row (length row) f.second → IsSecond val row f.second
      by (inl e) = absurd (let one = e.1 in omega (arith, one, two))
      by (inr w) = second_value w

-- by a list that says this of the row
module _ (val : ShortArc → ℤ) (row : List ShortArc) (l : Shortlist) (b : Best) (its : IsBest val l.arcs.items b) (value : IsSecond val l.arcs.items b.second) (below : b.second ≤ℤ l.bound) where
  listed_other : (a : ShortArc) → Contains l.arcs.items a ⊎ (l.bound ≤ℤ val a) → (a ≡ b.arc) ⊎ (b.second ≤ℤ val a)
  listed_other a (inl there) = All-contains (λ c. (c ≡ b.arc) ⊎ (b.second ≤ℤ val c)) l.arcs.items a its.others there
  listed_other a (inr out) = inr (omega (arith, ints, below, out))

  best_gathered : Gathered val row l → IsBest val row b
  best_gathered g = record {
    listed = All-contains (Contains row) l.arcs.items b.arc g.members its.listed;
    is = its.is;
    range = its.range;
    others = All-weaker (λ a. Contains l.arcs.items a ⊎ (l.bound ≤ℤ val a)) (λ a. (a ≡ b.arc) ⊎ (b.second ≤ℤ val a)) listed_other row g.rest;
    least = its.least;
    second_is = inr (record { range = value.range; arc = value.arc; listed = All-contains (Contains row) l.arcs.items value.arc g.members value.listed; below = value.below });
  }

  pub best_listed : 2 ≤ length l.arcs.items → Says val row l → IsBest val row b
  best_listed two (inl none) = absurd (let e = ap length none in omega (arith, e, two))
  best_listed two (inr g) = best_gathered g

-- ---- making a list

pub gathered_none : (val : ShortArc → ℤ) (l : Shortlist) → SaysNothing l → Gathered val [] l
gathered_none val l none = record {
  members = subst (All (Contains [])) (sym none) (All-nil (Contains []));
  rest = All-nil (λ b. Contains l.arcs.items b ⊎ (l.bound ≤ℤ val b));
}

module _ (val : ShortArc → ℤ) (seen : List ShortArc) (a : ShortArc) where
  abbrev more : List ShortArc
  more = seen ++ a ∷ []

  wider : (arcs : List ShortArc) → All (Contains seen) arcs → All (Contains more) arcs
  wider arcs all = All-weaker (Contains seen) (Contains more) (λ b there. Contains-append_left seen (a ∷ []) b there) arcs all

  -- an arc whose value is at least the bound is left out
  pub gathered_out : (l : Shortlist) → l.bound ≤ℤ val a → Gathered val seen l → Gathered val more l
  gathered_out l out g = record {
    members = wider l.arcs.items g.members;
    rest = All-push (λ b. Contains l.arcs.items b ⊎ (l.bound ≤ℤ val b)) seen a g.rest (inr out);
  }

  -- an arc enters at some place, and the bound has not risen
  module _ (old new : Shortlist) (place : ℕ) where
    abbrev pushed : List ShortArc
    pushed = old.arcs.items ++ a ∷ []

    abbrev within : List ShortArc
    within = insert old.arcs.items place a

    moved : IsPermutation pushed within
    moved = IsPermutation-trans pushed (a ∷ old.arcs.items) within (IsPermutation-to_front old.arcs.items a) (IsPermutation-insert old.arcs.items place a)

    stays_in : new.bound ≤ℤ old.bound → (b : ShortArc) → Contains old.arcs.items b ⊎ (old.bound ≤ℤ val b) → Contains within b ⊎ (new.bound ≤ℤ val b)
    stays_in low b (inl there) = inl (Contains-permutation pushed within b moved (Contains-append_left old.arcs.items (a ∷ []) b there))
    stays_in low b (inr out) = inr (omega (arith, ints, low, out))

    pub gathered_insert : new.arcs.items ≡ within → new.bound ≤ℤ old.bound → Gathered val seen old → Gathered val more new
    gathered_insert is low g = record {
      members = subst (All (Contains more)) (sym is) (All-permutation (Contains more) pushed within moved (All-push (Contains more) old.arcs.items a (wider old.arcs.items g.members) (Contains-push seen a)));
      rest = subst (λ (xs : List ShortArc). All (λ b. Contains xs b ⊎ (new.bound ≤ℤ val b)) more) (sym is) (All-push (λ b. Contains within b ⊎ (new.bound ≤ℤ val b)) seen a (All-weaker (λ b. Contains old.arcs.items b ⊎ (old.bound ≤ℤ val b)) (λ b. Contains within b ⊎ (new.bound ≤ℤ val b)) (stays_in low) seen g.rest) (inl (Contains-permutation pushed within a moved (Contains-push old.arcs.items a))));
    }

-- the last arc is dropped, and the bound is at most what it was and at most that arc's value
pub gathered_drop : (val : ShortArc → ℤ) (seen : List ShortArc) (old new : Shortlist) (last : ℕ) → length old.arcs.items ≡ last + 1 → new.arcs.items ≡ take last old.arcs.items → new.bound ≤ℤ old.bound → new.bound ≤ℤ val (get_or old.arcs.items last no_arc) → Gathered val seen old → Gathered val seen new
gathered_drop val seen old new last len is low out g = record {
  members = subst (All (Contains seen)) (sym is) (λ k d lt. (let short : k < last = (let n = length-take last old.arcs.items in omega (arith, lt, n)) in subst (Contains seen) (sym (get_or-take last old.arcs.items k d short)) (g.members k d (omega (arith, short, len)))));
  rest = subst (λ (xs : List ShortArc). All (λ b. Contains xs b ⊎ (new.bound ≤ℤ val b)) seen) (sym is) (All-weaker (λ b. Contains old.arcs.items b ⊎ (old.bound ≤ℤ val b)) (λ b. Contains (take last old.arcs.items) b ⊎ (new.bound ≤ℤ val b)) by seen g.rest);
}
  where
    stays : (b : ShortArc) → Contains old.arcs.items b → Contains (take last old.arcs.items) b ⊎ (new.bound ≤ℤ val b)
    stays b (k, lt, same) =
        elim (cases_lt k last) [
          | inl short ↦ inl (k, (let n = length-take last old.arcs.items in omega (arith, short, n, len)), get_or-take last old.arcs.items k b short ∙ same)
          | inr le ↦ inr (subst (λ (c : ShortArc). new.bound ≤ℤ val c) (ap (λ (m : ℕ). get_or old.arcs.items m no_arc) (omega (arith, le, lt, len)) ∙ (get_or_default old.arcs.items k no_arc b lt ∙ same)) out)
        ]

    by : (b : ShortArc) → Contains old.arcs.items b ⊎ (old.bound ≤ℤ val b) → Contains (take last old.arcs.items) b ⊎ (new.bound ≤ℤ val b)
    by b (inl there) = stays b there
    by b (inr over) = inr (omega (arith, ints, low, over))

-- ---- the arcs of a list

pub arcs_short : (val : ShortArc → ℤ) (objects : ℕ) (row : List ShortArc) (l : Shortlist) → All (IsShort objects) row → Says val row l → All (IsShort objects) l.arcs.items
arcs_short val objects row l all (inl none) = subst (All (IsShort objects)) (sym none) (All-nil (IsShort objects))
arcs_short val objects row l all (inr g) = All-weaker (Contains row) (IsShort objects) (λ b there. All-contains (IsShort objects) row b all there) l.arcs.items g.members

-- ---- prices rise

says_rises : (scale : ℤ) (prices new : List ℤ) (row : List ShortArc) (l : Shortlist) → AreHigher prices new → Says (short_value scale prices) row l → Says (short_value scale new) row l
says_rises scale prices new row l higher (inl none) = inl none
says_rises scale prices new row l higher (inr g) = inr (record {
  members = g.members;
  rest = All-weaker (λ b. Contains l.arcs.items b ⊎ (l.bound ≤ℤ short_value scale prices b)) (λ b. Contains l.arcs.items b ⊎ (l.bound ≤ℤ short_value scale new b)) by row g.rest;
})
  where
    by : (b : ShortArc) → Contains l.arcs.items b ⊎ (l.bound ≤ℤ short_value scale prices b) → Contains l.arcs.items b ⊎ (l.bound ≤ℤ short_value scale new b)
    by b (inl there) = inl there
    by b (inr out) = inr (let up = higher b.object in omega (arith, ints, out, up))

pub kept_rises : (r : FlatTable) (prices new : List ℤ) (lists : List Shortlist) → AreHigher prices new → Kept r prices lists → Kept r new lists
kept_rises r prices new lists higher kept i = says_rises (scale_in r) prices new (flat_row_of r i) (list_at lists i) higher (kept i)

-- ---- the lists of all persons

-- empty lists are correct
pub kept_none : (r : FlatTable) (prices : List ℤ) (lists : List Shortlist) → All SaysNothing lists → Kept r prices lists
kept_none r prices lists none i =
    inl
    (elim (cases_lt i (length lists)) [
      | inl lt ↦ All-get_or SaysNothing lists i no_list lt none
      | inr past ↦ ap (λ (l : Shortlist). l.arcs.items) (get_or_past lists i no_list (omega (arith, past)))
    ])

-- the list of one person is correct
pub says_at : (r : FlatTable) (prices : List ℤ) (lists : List Shortlist) (i : ℕ) (l : Shortlist) → i < length lists → l ≡ get_or lists i l → Kept r prices lists → Says (short_value (scale_in r) prices) (flat_row_of r i) l
says_at r prices lists i l lt is kept = subst (Says (short_value (scale_in r) prices) (flat_row_of r i)) (sym (is ∙ get_or_default lists i l no_list lt)) (kept i)

-- one list is replaced
pub kept_set : (r : FlatTable) (prices : List ℤ) (lists : List Shortlist) (i : ℕ) (l : Shortlist) → i < length lists → Says (short_value (scale_in r) prices) (flat_row_of r i) l → Kept r prices lists → Kept r prices (set lists i l)
kept_set r prices lists i l lt says kept k =
    elim (cases_eq k i) [
      | inl e ↦ subst (λ (m : ℕ). Says (short_value (scale_in r) prices) (flat_row_of r m) (list_at (set lists i l) m)) (sym e) (subst (Says (short_value (scale_in r) prices) (flat_row_of r i)) (sym (get_or-set_same lists i l no_list lt)) says)
      | inr ne ↦ subst (Says (short_value (scale_in r) prices) (flat_row_of r k)) (sym (get_or-set_other lists i k l no_list ne)) (kept k)
    ]
