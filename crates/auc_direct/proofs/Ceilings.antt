-- An assignment of a problem is a full matching of its rows, and no arc of them costs more than another plus the spread.
use Rattle.std.proofs.Common.{ℕ, ℤ, pos, ◌<◌, ◌≡◌, ◌≢◌, ◌∙◌, arith, Contains, List, [], length, get_or, map, inl, inr, ap, sym, subst}
use Rattle.std.specs.Prelude.{nat_eq, ◌+ℤ◌, ◌≤ℤ◌}
use Rattle.std.proofs.lemmas.Bool.{cases_eq, cases_lt, eqb-false}
use Rattle.std.proofs.lemmas.Int.{ints}
use Rattle.std.proofs.lemmas.List.{get_or-map, get_or_past, length-map}
use Rattle.std.proofs.lemmas.List.Elements.{All-contains, All-get_or}
use Rattle.std.proofs.lemmas.List.FromFn.{get_or-range_with_len, length-range_with_len}
use Rattle.std.proofs.lemmas.Map.Keys.{apart_from_distinct}
use Rattle.auc_answers.specs.declared.answer.Answer.{Answer}
use Rattle.auc_claim.specs.Claim.{IsAllowed, IsBracket, chosen}
use Rattle.auc_claim.specs.declared.reason.Reason.{Reason}
use Rattle.auc_graph.specs.declared.arc.Arc.{Arc}
use Rattle.auc_graph.specs.declared.rows.RowArc.{RowArc}
use Rattle.auc_graph.specs.Assignment.{IsAssignment, object_of, person_of}
use Rattle.auc_graph.specs.Problem.{Problem}
use Rattle.auc_graph.specs.Row.{IsSpread, row, row_arc}
use Rattle.auc_hall.proofs.Membership.{place_of}
use Rattle.auc_hall.proofs.ProblemLaws.{in_row}
use Rattle.auc_rows.specs.declared.arc.ShortArc.{ShortArc}
use Rattle.auc_rows.specs.Rows.{AreRowsOf, FlatTable, flat_row_of, short}
use Rattle.auc_market.specs.Ceiling.{AreSpread, IsMatching}
use Rattle.auc_market.specs.declared.ending.Ending.{Ending}
use Rattle.auc_direct.specs.Endings.{IsBracketFor, IsCeilingWide, IsWideProblem}
use Rattle.auc_direct.specs.Held.{arc_by}
use Rattle.auc_direct.specs.Told.{IsTold}
use Rattle.auc_direct.proofs.Answering.{listed_at, persons_are, row_at}

no_arc : Arc
no_arc = record { person = 0; object = 0; cost = pos 0 }

module _ (p : Problem) (r : FlatTable) (rows : AreRowsOf p r) where
  -- ---- costs

  listed_arc : (i : ℕ) (s : ShortArc) → Contains (flat_row_of r i) s → Contains p.arcs (arc_by i s)
  listed_arc i s listed = elim (cases_lt i (length r.rows)) [
    | inl lt ↦ listed_at p i s (subst (λ (xs : List ShortArc). Contains xs s) (row_at p r rows i (let e = persons_are p r rows in omega (arith, lt, e))) listed)
    | inr past ↦ absurd (none (subst (λ (xs : List ShortArc). Contains xs s) (get_or_past r.rows i [] past) listed))
  ]
    where
      none : Contains [] s → ⊥
      none (k, lt, e) = absurd (omega (arith, lt))

  pub spread_is : AreSpread r
  spread_is i k a b listed_a listed_b = by rows.of.spread
    where
      in_a : Contains p.arcs (arc_by i a)
      in_a = listed_arc i a listed_a

      in_b : Contains p.arcs (arc_by k b)
      in_b = listed_arc k b listed_b

      by : IsSpread p.arcs rows.table.spread → a.cost ≤ℤ (b.cost +ℤ r.spread)
      by (inl none) = absurd (let lt = (subst (λ (xs : List Arc). Contains xs (arc_by i a)) none.0 in_a).1 in omega (arith, lt))
      by (inr range) =
          let high = All-contains (λ x. x.cost ≤ℤ range.1) p.arcs (arc_by i a) range.2.none_above in_a in
          let low = All-contains (λ x. range.0 ≤ℤ x.cost) p.arcs (arc_by k b) range.2.none_below in_b in
          let is = range.3 in
          let same = rows.same.spread in
          omega (arith, ints, high, low, is, same)

  -- ---- an assignment

  module _ (arcs : List Arc) (given : IsAssignment p arcs) where
    arc_at : ℕ → Arc
    arc_at i = get_or arcs i no_arc

    pub short_at : ℕ → ShortArc
    short_at i = record { object = (arc_at i).object; cost = (arc_at i).cost }

    many : length arcs ≡ length r.rows
    many = (let e = sym (length-map arcs person_of) ∙ ap length given.persons ∙ length-range_with_len 0 p.persons in let f = persons_are p r rows in omega (arith, e, f))

    person_is : (i : ℕ) → i < length r.rows → (arc_at i).person ≡ i
    unfolding arc_at
    person_is i lt =
        let below : i < p.persons = (let f = persons_are p r rows in omega (arith, lt, f)) in
        sym (get_or-map person_of arcs i no_arc 0 (let m = many in omega (arith, lt, m))) ∙ ap (λ (ks : List ℕ). get_or ks i 0) given.persons ∙ get_or-range_with_len 0 p.persons i 0 below ∙ omega arith

    in_arcs : (i : ℕ) → i < length r.rows → Contains p.arcs (arc_at i)
    unfolding arc_at
    in_arcs i lt = All-get_or (Contains p.arcs) arcs i no_arc (let m = many in omega (arith, lt, m)) given.arcs

    listed : (i : ℕ) → i < length r.rows → Contains (flat_row_of r i) (short_at i)
    unfolding short_at
    listed i lt =
        let place = place_of p.arcs (arc_at i) (in_arcs i lt) in
        let in_long : Contains (row i p.arcs) (row_arc (place.0, arc_at i)) = in_row i p.arcs place.0 (arc_at i) place.1 (person_is i lt) in
        let below : i < p.persons = (let f = persons_are p r rows in omega (arith, lt, f)) in
        subst (λ (xs : List ShortArc). Contains xs (short_at i)) (sym (row_at p r rows i below)) (mapped (row i p.arcs) (row_arc (place.0, arc_at i)) in_long)
      where
        mapped : (xs : List RowArc) (a : RowArc) → Contains xs a → Contains (map short xs) (short a)
        mapped xs a (k, k_lt, e) = (k, (let m = length-map xs short in omega (arith, k_lt, m)), get_or-map short xs k a (short a) k_lt ∙ ap short e)

    differ : (i k : ℕ) → i < k → k < length r.rows → (short_at i).object ≢ (short_at k).object
    unfolding short_at arc_at
    differ i k lt k_lt e =
        let m = many in
        let l = length-map arcs object_of in
        let a = get_or-map object_of arcs i no_arc 0 (omega (arith, lt, k_lt, m)) in
        let b = get_or-map object_of arcs k no_arc 0 (omega (arith, k_lt, m)) in
        eqb-false (get_or (map object_of arcs) i 0) (get_or (map object_of arcs) k 0) (apart_from_distinct nat_eq (map object_of arcs) i k 0 given.objects lt (omega (arith, k_lt, m, l))) (a ∙ e ∙ sym b)

    pub matching_is : IsMatching r short_at
    matching_is = record { listed = listed; apart = apart }
      where
        apart : (i k : ℕ) → i < length r.rows → k < length r.rows → (short_at i).object ≡ (short_at k).object → i ≡ k
        apart i k i_lt k_lt e = elim (cases_eq i k) [
          | inl same ↦ same
          | inr other ↦ elim (cases_lt i k) [
            | inl below ↦ absurd (differ i k below k_lt e)
            | inr above ↦ absurd (differ k i (omega (arith, above, other)) i_lt (sym e))
          ]
        ]

-- what a bracket for the greatest price says of its problem
pub wide_told : (p : Problem) (r : FlatTable) (ending : Ending) (prices : List ℤ) (answer : Answer) → AreRowsOf p r → IsCeilingWide r ending → IsTold p r ending prices answer → IsBracketFor Reason.Ceiling answer → IsWideProblem p
wide_told p r ending prices (Answer.Optimal cert) rows wide told bracket = absurd bracket
wide_told p r ending prices (Answer.Infeasible cert) rows wide told bracket = absurd bracket
wide_told p r ending prices (Answer.Bracket cert) rows wide told bracket =
    let is = told.is in
    let arcs = chosen 0 is.choice in
    let given : IsBracket p is.lower is.cost arcs = subst (IsAllowed p) is.is is.certified.allowed in
    (r, rows, wide (told.why bracket) (short_at p r rows arcs given.assignment) (spread_is p r rows) (matching_is p r rows arcs given.assignment))
wide_told p r ending prices (Answer.Broken guard) rows wide told bracket = absurd bracket
