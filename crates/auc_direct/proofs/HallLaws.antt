-- A Hall set by the rows is one of the problem.
use Rattle.std.proofs.Common.{◌≡◌, ℕ, ◌<◌, List, length, get_or, map, sym, ap, subst, ◌∙◌, arith, Contains}
use Rattle.std.proofs.lemmas.List.{get_or-map, length-map}
use Rattle.std.proofs.lemmas.List.Elements.{Contains-get_or}
use Rattle.auc_graph.specs.declared.rows.RowArc.{RowArc}
use Rattle.auc_graph.specs.Problem.{Problem}
use Rattle.auc_graph.specs.Table.{Table, row_of}
use Rattle.auc_hall.specs.HallSet.{IsRowHallSet}
use Rattle.auc_hall.specs.OfProblem.{IsHallSetOf}
use Rattle.auc_hall.proofs.ProblemLaws.{hall_set_of}
use Rattle.auc_rows.specs.declared.arc.ShortArc.{ShortArc}
use Rattle.auc_rows.specs.Rows.{AreRowsOf, AreSameRows, FlatTable, short}
use Rattle.auc_market.specs.Hall.{IsShortHallSet}
use Rattle.auc_direct.proofs.Choices.{in_map}

-- ---- of the problem

-- an arc of a row stands for one with its place in the list
long : (row : List RowArc) (s : ShortArc) → Contains (map short row) s → (a : RowArc) × Contains row a × (a.object ≡ s.object)
long row s (n, lt, e) =
    let none : RowArc = record { object = 0; cost = s.cost; arc = 0 } in
    let in_row : n < length row = (let m = length-map row short in omega (arith, lt, m)) in
    let is : short (get_or row n none) ≡ s = sym (get_or-map short row n none s in_row) ∙ e in
    (get_or row n none, Contains-get_or row n none in_row, ap (λ (x : ShortArc). x.object) is)

row_hall_set : (t : Table) (r : FlatTable) (persons objects : List ℕ) → AreSameRows t r → IsShortHallSet r persons objects → IsRowHallSet t persons objects
row_hall_set t r persons objects same h =
    let within : (i : ℕ) → Contains persons i → i < length t.rows = λ i c. (let lt = h.within i c in let m = same.persons in omega (arith, lt, m)) in
    record {
      within = within;
      persons_rise = h.persons_rise;
      objects_rise = h.objects_rise;
      all = λ i j c knows. h.all i j c (short knows.0, subst (λ (row : List ShortArc). Contains row (short knows.0)) (sym (same.rows i (within i c))) (in_map (row_of t i) knows.0 knows.1), knows.2);
      only = λ j c.
          let x = h.only j c in
          let a = long (row_of t x.0) x.2.0 (subst (λ (row : List ShortArc). Contains row x.2.0) (same.rows x.0 (within x.0 x.1)) x.2.1) in
          (x.0, x.1, (a.0, a.1, a.2 ∙ x.2.2));
      fewer = h.fewer;
    }

pub hall_set_of_rows : (p : Problem) (r : FlatTable) (persons objects : List ℕ) → AreRowsOf p r → IsShortHallSet r persons objects → IsHallSetOf p persons objects
hall_set_of_rows p r persons objects rows h = hall_set_of p rows.table persons objects rows.of (row_hall_set rows.table r persons objects rows.same h)
