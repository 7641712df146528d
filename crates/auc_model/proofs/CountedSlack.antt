-- The holders' arcs satisfy epsilon-complementary slackness at the true prices, in the terms of the problem. So they
-- cost least at eps 1, and an object that such an assignment leaves has no holder.
use Rattle.std.proofs.Common.{ℕ, ℤ, pos, zero, suc, ◌+◌, ◌<◌, ◌≡◌, true, refl, arith, List, [], ◌∷◌, length, get_or, map, Option, Some, None, Contains, All, sym, ap, subst, ◌∙◌, inl, inr}
use Rattle.std.specs.Prelude.{filter, ◌==◌, ◌+ℤ◌, ◌*ℤ◌, ◌≤ℤ◌}
use Rattle.std.specs.List.{slice_get, enumerate_from}
use Rattle.std.proofs.lemmas.Bool.{cases_Bool, eq-eqb}
use Rattle.std.proofs.lemmas.Int.{ints}
use Rattle.std.proofs.lemmas.Option.{slice_get-get_or}
use Rattle.std.proofs.lemmas.List.FromFn.{get_or-map-range_with_len, get_or-range_with_len, length-map-range_with_len, length-range_with_len}
use Rattle.std.proofs.lemmas.List.{get_or-map, length-map}
use Rattle.auc_graph.specs.Assignment.{IsAssignment, IsLeast, object_of, person_of}
use Rattle.auc_graph.specs.Dual.{AreNotNegative, IsNoPriceLeft, IsSlackRight, price_at, scale_of}
use Rattle.auc_graph.specs.Problem.{IsWithin, Problem}
use Rattle.auc_graph.specs.Row.{is_of, row, row_arc}
use Rattle.auc_graph.specs.Table.{IsTableOf, Table, row_of}
use Rattle.auc_graph.specs.declared.arc.Arc.{Arc}
use Rattle.auc_graph.specs.declared.rows.RowArc.{RowArc}
use Rattle.auc_graph.proofs.DualLaws.{slack_right_is_least}
use Rattle.auc_letters.specs.declared.state.Held.{Held}
use Rattle.auc_model.specs.Chosen.{ArePricesOf, IsHeldArc}
use Rattle.auc_model.specs.Schedule.{Reached}
use Rattle.auc_model.specs.World.{World, phase_of}
use Rattle.auc_model.proofs.Chosen.{row_arc_listed}
use Rattle.auc_model.proofs.Reached.{kept_reached}
use Rattle.auc_model.proofs.Theorems.{holders_slack, of_every_schedule}

-- an arc of a person is in the person's row
in_row : (i n : ℕ) (arcs : List Arc) (b : Arc) (k : ℕ) → k < length arcs → get_or arcs k b ≡ b → b.person ≡ i → Contains (map row_arc (filter (is_of i) (enumerate_from n arcs))) (row_arc (n + k, b))
in_row i n [] b k lt e his = absurd (omega arith)
in_row i n (x ∷ xs) b zero lt e his =
    let t : (x.person == i) ≡ true = eq-eqb x.person i (ap (λ (a : Arc). a.person) e ∙ his) in
    let at : n ≡ n + 0 = omega arith in
    rw t (0, omega arith, ap (λ (m : ℕ). row_arc (m, x)) at ∙ ap (λ (a : Arc). row_arc (n + 0, a)) e)
in_row i n (x ∷ xs) b (suc k) lt e his =
    let at : n + 1 + k ≡ n + suc k = omega arith in
    let rest = subst (λ (m : ℕ). Contains (map row_arc (filter (is_of i) (enumerate_from (n + 1) xs))) (row_arc (m, b))) at (in_row i (n + 1) xs b k (omega (arith, lt)) e his) in
    elim (cases_Bool (x.person == i)) [
      | inl t ↦ rw t (suc rest.0, (let l = rest.1 in omega (arith, l)), rest.2)
      | inr f ↦ rw f rest
    ]

from_arc : Arc → Option Arc → Arc
from_arc d None = d
from_arc d (Some a) = a

some_same : {a b : Arc} → ◌≡◌ {A = Option Arc} (Some a) (Some b) → a ≡ b
unfolding from_arc
some_same {a} {b} e = ap (λ (o : Option Arc). from_arc a o) e

get_or_self : (xs : List Arc) (k : ℕ) (d : Arc) → k < length xs → get_or xs k (get_or xs k d) ≡ get_or xs k d
get_or_self [] k d lt = absurd (omega arith)
get_or_self (x ∷ xs) zero d lt = refl
get_or_self (x ∷ xs) (suc k) d lt = get_or_self xs k d (omega (arith, lt))

-- the same value, of a row's arc at prices by object, and of an arc at a list of prices
same_value : (price : ℕ → ℤ) (prices : List ℤ) → ((j : ℕ) → price_at prices j ≡ price j) → (m n : ℕ) (c d : ℤ) (j k : ℕ) → m ≡ n → c ≡ d → j ≡ k → (pos (m + 1) *ℤ c +ℤ price j) ≡ (pos (n + 1) *ℤ d +ℤ price_at prices k)
same_value price prices true_prices m n c d j k e f h = rw (e, f, h, true_prices k) refl

module _ (p : Problem) (t : Table) (shards : ℕ) (eps : ℤ) (v : World) (prices : List ℤ) (its : IsTableOf p t) (reached : Reached (phase_of t shards eps) v) (true_prices : ArePricesOf v prices) where
  persons_are : length t.rows ≡ p.persons
  persons_are = ap length its.rows ∙ length-map-range_with_len (λ person. row person p.arcs) 0 p.persons

  row_is : (i : ℕ) → i < p.persons → row_of t i ≡ map row_arc (filter (is_of i) (enumerate_from 0 p.arcs))
  unfolding row
  row_is i l = ap (λ (rows : List (List RowArc)). get_or rows i []) its.rows ∙ get_or-map-range_with_len (λ person. row person p.arcs) 0 p.persons i i [] l (omega arith)

  pub held_slack_right : (arc : Arc) → arc.person < p.persons → IsHeldArc p v arc → IsSlackRight eps (scale_of p) prices p.arcs arc
  held_slack_right arc below h k d lt his =
      let right = holders_slack (phase_of t shards eps) v reached arc.object h.held h.holds in
      let who = h.person in
      let own : Contains (row_of t arc.person) right.arc = subst (λ (i : ℕ). Contains (row_of t i) right.arc) who right.listed in
      let found = row_arc_listed arc.person 0 p.arcs right.arc (rw (row_is arc.person below) at own) in
      let own_place = right.place in
      let at = found.numbered in
      let place : h.held.arc ≡ found.place = omega (arith, own_place, at) in
      let held_place : slice_get p.arcs h.held.arc ≡ Some arc = h.place in
      let there_place : slice_get p.arcs h.held.arc ≡ slice_get p.arcs found.place = ap (slice_get p.arcs) place in
      let found_place : slice_get p.arcs found.place ≡ Some (get_or p.arcs found.place arc) = slice_get-get_or p.arcs found.place arc found.known in
      let same : arc ≡ get_or p.arcs found.place arc = some_same (sym held_place ∙ (there_place ∙ found_place)) in
      let cost : right.arc.cost ≡ arc.cost = sym (ap (λ (a : Arc). a.cost) (same ∙ found.there arc)) in
      let mine = same_value v.price prices true_prices (length t.rows) p.persons right.arc.cost arc.cost right.arc.object arc.object persons_are cost right.leads in
      let b : Arc = get_or p.arcs k d in
      let listed : Contains (row_of t arc.person) (row_arc (0 + k, b)) = rw (row_is arc.person below) (in_row arc.person 0 p.arcs b k lt (get_or_self p.arcs k d lt) his) in
      let theirs = same_value v.price prices true_prices (length t.rows) p.persons b.cost b.cost b.object b.object persons_are refl refl in
      let there : Contains (row_of t h.held.person) (row_arc (0 + k, b)) = subst (λ (i : ℕ). Contains (row_of t i) (row_arc (0 + k, b))) (sym who) listed in
      let le : (pos (length t.rows + 1) *ℤ right.arc.cost +ℤ v.price right.arc.object) ≤ℤ ((pos (length t.rows + 1) *ℤ b.cost +ℤ v.price b.object) +ℤ eps) =
      subst (λ (a : RowArc). (pos (length t.rows + 1) *ℤ right.arc.cost +ℤ v.price right.arc.object) ≤ℤ ((pos (length t.rows + 1) *ℤ a.cost +ℤ v.price a.object) +ℤ eps)) there.2 (right.slack there.0 (row_arc (0 + k, b)) there.1) in
      omega (arith, ints, le, mine, theirs)

pub held_costs_least : (p : Problem) (t : Table) (shards : ℕ) (v : World) (prices : List ℤ) (choice : List Arc) → IsTableOf p t → Reached (phase_of t shards (pos 1)) v → ArePricesOf v prices → length prices ≡ p.objects
    → All (IsWithin p.persons p.objects) p.arcs → IsAssignment p choice → All (IsHeldArc p v) choice → IsNoPriceLeft prices choice → IsLeast p choice
held_costs_least p t shards v prices choice its reached true_prices many within given held left =
    let own : (k : ℕ) (d : Arc) → k < length choice → (get_or choice k d).person < p.persons = λ k d lt.
    let there = given.arcs k d lt in
    subst (λ (a : Arc). a.person < p.persons) there.2 (within there.0 (get_or choice k d) there.1).person in
    let above : AreNotNegative prices = λ j. let low = ((kept_reached (phase_of t shards (pos 1)) v reached).inv.price_range j).low in let e = true_prices j in omega (arith, ints, low, e) in
    slack_right_is_least p prices choice within many above given
    (λ k d lt. held_slack_right p t shards (pos 1) v prices its reached true_prices (get_or choice k d) (own k d lt) (held k d lt)) left

-- where each person has an arc that is held, whatever is held is held by one of these arcs
module _ (p : Problem) (t : Table) (shards : ℕ) (eps : ℤ) (v : World) (choice : List Arc) (its : IsTableOf p t) (reached : Reached (phase_of t shards eps) v) (given : IsAssignment p choice) (held : All (IsHeldArc p v) choice) where
  holder_listed : (j : ℕ) (h : Held) → v.holder j ≡ Some h → Contains (map object_of choice) j
  holder_listed j h e =
      let below = (kept_reached (phase_of t shards eps) v reached).inv.holder_range j h e in
      let rows : length t.rows ≡ p.persons = ap length its.rows ∙ length-map-range_with_len (λ person. row person p.arcs) 0 p.persons in
      let many : length choice ≡ p.persons = sym (length-map choice person_of) ∙ (ap length given.persons ∙ length-range_with_len 0 p.persons) in
      let l : h.person < length choice = omega (arith, below, rows, many) in
      let d : Arc = record { person = 0; object = 0; cost = pos 0 } in
      let a : Arc = get_or choice h.person d in
      let own : IsHeldArc p v a = held h.person d l in
      let his : a.person ≡ 0 + h.person = sym (get_or-map person_of choice h.person d 0 l) ∙ (ap (λ (xs : List ℕ). get_or xs h.person 0) given.persons ∙ get_or-range_with_len 0 p.persons h.person 0 (omega (arith, l, many))) in
      let who = own.person in
      let once : j ≡ a.object = (of_every_schedule (phase_of t shards eps) v reached).held_once j a.object h own.held e own.holds (omega (arith, his, who)) in
      (h.person, rw (length-map choice object_of) l, get_or-map object_of choice h.person d j l ∙ sym once)

  pub left_unheld : (j : ℕ) → (Contains (map object_of choice) j → ⊥) → v.holder j ≡ None
  left_unheld j left = by (v.holder j) refl
    where
      by : (o : Option Held) → v.holder j ≡ o → v.holder j ≡ None
      by None e = e
      by (Some h) e = absurd (left (holder_listed j h e))
