-- Where a person may be placed.
use Rattle.std.proofs.Common.{◌≡◌, ◌≢◌, ℕ, ◌<◌, Bool, List, get_or, Option, Some, None, sym, ap, ◌∙◌, arith, inl, inr, Contains, All}
use Rattle.std.specs.Prelude.{AllPairs}
use Rattle.std.specs.List.{slice_get, find, position_or_len}
use Rattle.std.proofs.lemmas.Bool.{cases_eq, cases_lt}
use Rattle.std.proofs.lemmas.List.{get_or_default}
use Rattle.std.proofs.lemmas.List.Elements.{All-contains}
use Rattle.std.proofs.lemmas.List.Folds.{find_at}
use Rattle.std.proofs.lemmas.Option.{none-some, slice_get_within, get_or_from_slice_get}
use Rattle.auc_graph.specs.declared.rows.RowArc.{RowArc}
use Rattle.auc_graph.specs.Table.{Table, row_of}
use Rattle.auc_hall.specs.Partial.{pick, MayPlace}
use Rattle.auc_hall.specs.Matched.{holder_of, IsMatched}
use Rattle.auc_hall.proofs.MatchedLaws.{untaken}

pub found_in : (row : List RowArc) (test : RowArc → Bool) (a : RowArc) → Some a ≡ find test row → Contains row a
found_in row test a h =
    let e : slice_get row (position_or_len test row) ≡ Some a = sym (find_at test row) ∙ sym h in
    (position_or_len test row, slice_get_within row (position_or_len test row) a e, get_or_from_slice_get row (position_or_len test row) a a e)

-- the arcs of a row have different numbers
same_number : (row : List RowArc) (a b : RowArc) → AllPairs (λ a b. a.arc < b.arc) row → Contains row a → Contains row b → a.arc ≡ b.arc → a ≡ b
same_number row a b rising (k, k_lt, k_is) (m, m_lt, m_is) e =
    let at_m : get_or row m a ≡ b = get_or_default row m a b m_lt ∙ m_is in
    elim (cases_eq k m) [
      | inl same ↦ sym k_is ∙ ap (λ (n : ℕ). get_or row n a) same ∙ at_m
      | inr differ ↦ elim (cases_lt k m) [
        | inl lt ↦ absurd (omega (arith, e, rising k m a lt m_lt, ap (λ (r : RowArc). r.arc) k_is, ap (λ (r : RowArc). r.arc) at_m))
        | inr le ↦ absurd (omega (arith, e, rising m k a (omega (arith, le, differ)) k_lt, ap (λ (r : RowArc). r.arc) k_is, ap (λ (r : RowArc). r.arc) at_m))
      ]
    ]

pub may_place : (t : Table) (choice : List (Option RowArc)) (holder : List (Option ℕ)) (person n : ℕ) (a : RowArc) → IsMatched t choice holder → pick choice person ≡ None → Contains (row_of t person) a → a.arc ≡ n → holder_of holder a.object ≡ None → MayPlace t choice person n a
may_place t choice holder person n a m none his is free = record {
  his = his;
  numbered = is;
  unplaced = none;
  untaken = untaken t choice holder a.object m free;
}

pub not_placed_twice : (t : Table) (choice : List (Option RowArc)) (person n : ℕ) (x a : RowArc) → pick choice person ≡ Some x → MayPlace t choice person n a → ⊥
not_placed_twice t choice person n x a h may = none-some x (sym may.unplaced ∙ h)

pub not_an_arc_of_others : (t : Table) (choice : List (Option RowArc)) (person n : ℕ) (a : RowArc) → All (λ (b : RowArc). b.arc ≢ n) (row_of t person) → MayPlace t choice person n a → ⊥
not_an_arc_of_others t choice person n a others may = All-contains (λ (b : RowArc). b.arc ≢ n) (row_of t person) a others may.his may.numbered

pub not_on_a_taken_object : (t : Table) (choice : List (Option RowArc)) (holder : List (Option ℕ)) (person n i : ℕ) (x a : RowArc) → IsMatched t choice holder → AllPairs (λ a b. a.arc < b.arc) (row_of t person) → Contains (row_of t person) x → x.arc ≡ n → holder_of holder x.object ≡ Some i → MayPlace t choice person n a → ⊥
not_on_a_taken_object t choice holder person n i x a m rising his is taken may =
    let b = m.tied.held x.object i taken in
    may.untaken i b.arc b.picked (b.object ∙ ap (λ (r : RowArc). r.object) (same_number (row_of t person) x a rising his may.his (is ∙ sym may.numbered)))
