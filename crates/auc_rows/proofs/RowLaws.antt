-- The rows of a problem: the arcs of each, and that they are those of its table.
use Rattle.std.proofs.Common.{ℕ, ℤ, pos, ◌<◌, ◌≤◌, ◌≡◌, refl, arith, inl, inr, List, [], length, map, ap, sym, ◌∙◌}
use Rattle.std.specs.Prelude.{All, ◌*◌, ◌^◌, ◌≤ℤ◌}
use Rattle.std.specs.List.{range_with_len}
use Rattle.std.proofs.lemmas.Bool.{cases_lt}
use Rattle.std.proofs.lemmas.List.{get_or_past, length-map}
use Rattle.std.proofs.lemmas.List.Elements.{All-map, All-weaker}
use Rattle.std.proofs.lemmas.List.FromFn.{get_or-map-range_with_len, length-map-range_with_len}
use Rattle.auc_graph.specs.declared.limits.TheConstants.{MOST_ARCS}
use Rattle.auc_graph.specs.Layout.{AreInRows, rows_between}
use Rattle.auc_graph.specs.Problem.{IsProblem, Problem}
use Rattle.auc_graph.specs.Row.{IsSpread, row}
use Rattle.auc_graph.specs.Table.{IsRow, IsRowArc, Table}
use Rattle.auc_graph.proofs.LayoutLaws.{length-rows_between, row_at}
use Rattle.auc_graph.proofs.RowLaws.{row_is}
use Rattle.auc_rows.specs.declared.arc.ShortArc.{ShortArc}
use Rattle.auc_rows.specs.Rows.{AreRowsOf, FlatTable, IsFlatTable, IsShort, flat_row_of, short, short_row}

module _ (p : Problem) (spread : ℤ) (offsets : List ℕ) (arcs : List ShortArc) (is : IsProblem p) (h : AreInRows short p.persons p.arcs offsets arcs) where
  abbrev pub those : FlatTable
  those = record { objects = p.objects; spread = spread; rows = rows_between offsets arcs p.persons }

  abbrev its : Table
  its = record { objects = p.objects; spread = spread; rows = map (λ person. row person p.arcs) (range_with_len 0 p.persons) }

  many_rows : length (rows_between offsets arcs p.persons) ≡ p.persons
  many_rows = length-rows_between offsets arcs p.persons

  his_row : (i : ℕ) → i < p.persons → flat_row_of those i ≡ short_row i p.arcs
  his_row i lt = row_at offsets arcs p.persons i lt ∙ h.rows i lt

  past : (i : ℕ) → p.persons ≤ i → flat_row_of those i ≡ []
  past i le = get_or_past (rows_between offsets arcs p.persons) i [] (let m = many_rows in omega (arith, le, m))

  facts : (i : ℕ) → IsRow p.objects (row i p.arcs)
  facts i = row_is p.persons p.objects p.arcs is.few is.within i

  each_short : (i : ℕ) → All (IsShort p.objects) (flat_row_of those i)
  each_short i =
      elim (cases_lt i p.persons) [
        | inl l ↦ rw (his_row i l) (All-map (IsShort p.objects) short (row i p.arcs) (All-weaker (IsRowArc p.objects) (λ a. IsShort p.objects (short a)) (λ a w. record { object = w.object; low = w.low; high = w.high }) (row i p.arcs) (facts i).within))
        | inr le ↦ rw (past i le) (λ k d lt. absurd (omega (arith, lt)))
      ]

  few_short : (i : ℕ) → length (flat_row_of those i) ≤ MOST_ARCS
  few_short i =
      elim (cases_lt i p.persons) [
        | inl l ↦ rw (his_row i l) (omega (arith, (facts i).few, length-map (row i p.arcs) short))
        | inr le ↦ rw (past i le) (omega arith)
      ]

  module _ (low : pos 0 ≤ℤ spread) (high : spread ≤ℤ pos (2 * 10 ^ 9)) where
    pub is_flat_table : IsFlatTable those
    is_flat_table = record {
      some = (let m = many_rows in let s = is.some in omega (arith, m, s));
      most = (let m = many_rows in let s = is.most in omega (arith, m, s));
      enough = (let m = many_rows in let s = is.enough in omega (arith, m, s));
      most_objects = is.most_objects;
      low = low;
      high = high;
      each = each_short;
      few = few_short;
    }

  pub are_rows : IsSpread p.arcs spread → AreRowsOf p those
  are_rows spreads = record {
    table = its;
    of = record { objects = refl; rows = refl; spread = spreads };
    same = record {
      objects = refl;
      persons = (let m = many_rows in let n = length-map-range_with_len (λ person. row person p.arcs) 0 p.persons in omega (arith, m, n));
      spread = refl;
      rows = λ i lt. (
          let l : i < p.persons = (let n = length-map-range_with_len (λ person. row person p.arcs) 0 p.persons in omega (arith, lt, n)) in
          his_row i l ∙ ap (map short) (sym (get_or-map-range_with_len (λ person. row person p.arcs) 0 p.persons i i [] l (omega arith)))
          );
    };
  }
