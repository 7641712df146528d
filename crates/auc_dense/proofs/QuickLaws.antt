-- What is found of a table without its arcs is right for its problem.
use Rattle.std.proofs.Common.{◌≡◌, ◌⊎◌, ℕ, ◌+◌, List, [], ◌∷◌, length, map, nat_eq, Bool, true, arith, refl, subst, sym, inl, inr}
use Rattle.std.specs.Prelude.{ℤ, pos, All}
use Rattle.std.proofs.lemmas.Bool.Decides.{nat_tests}
use Rattle.auc_graph.specs.Problem.{IsProblem, Problem}
use Rattle.auc_graph.specs.Reading.{problem}
use Rattle.auc_claim.specs.declared.lists.Pick.{Pick}
use Rattle.auc_claim.specs.declared.reason.Reason.{Reason}
use Rattle.auc_call.specs.declared.solved.Solved.{Solved}
use Rattle.auc_call.specs.declared.solved.Solved.TheVariants.{Optimal, Infeasible, Bracket}
use Rattle.auc_call.specs.Drivers.{IsAskedSolve}
use Rattle.auc_call.specs.Limited.{IsLimitAt, UnlessStopped}
use Rattle.auc_call.specs.Memory.{Memory, memory}
use Rattle.auc_call.specs.Shown.{IsBracketAt}
use Rattle.auc_table.specs.declared.table.Table.{Table}
use Rattle.auc_dense.specs.declared.quick.Assignment.{Assignment}
use Rattle.auc_dense.specs.declared.quick.Quick.TheVariants.{Assigned}
use Rattle.auc_dense.specs.Bidding.{HaveBid}
use Rattle.auc_dense.specs.Naming.{ByObjects}
use Rattle.auc_dense.specs.Quick.{IsFound}
use Rattle.auc_dense.specs.Shortage.{IsHallFound}
use Rattle.auc_dense.specs.Table.{IsTable, table_arcs}
use Rattle.auc_dense.specs.TableSolving.{IsTableSolved}
use Rattle.auc_dense.specs.Tried.{IsPlainPrice, IsShown, scaled}
use Rattle.auc_dense.proofs.BracketLaws.{shown_bracket}
use Rattle.auc_dense.proofs.ShownLaws.{shown_least}

module _ (persons objects : ℕ) (costs : List ℤ) (stride : ℕ) (gap : ℤ) (may : Bool) (prices : List ℤ) (picks : List Pick) where
  pub shown_many : (solved : Solved) → IsShown persons objects costs stride gap may prices picks solved → length picks ≡ persons
  shown_many (Optimal cost) show = show.0.best.many
  shown_many (Infeasible few many) show = absurd show
  shown_many (Bracket reason lower cost) show = show.0.own.many

  pub shown_priced : (solved : Solved) → IsShown persons objects costs stride gap may prices picks solved → length prices ≡ objects
  shown_priced (Optimal cost) show = show.0.priced
  shown_priced (Infeasible few many) show = absurd show
  shown_priced (Bracket reason lower cost) show = show.0.priced

  pub shown_plain : (solved : Solved) → IsShown persons objects costs stride gap may prices picks solved → All (IsPlainPrice (pos (persons + 1))) prices
  shown_plain (Optimal cost) show = show.0.fair
  shown_plain (Infeasible few many) show = absurd show
  shown_plain (Bracket reason lower cost) show = show.0.fair

  -- a bound is left by a limit, or by a stop
  limited : (start : List ℤ) (bids : ℕ) (stopped : Bool) (places : List ℕ) (reason : Reason) (lower cost : ℤ) → reason ≡ Reason.Bids
      → ((stopped ≡ true) ⊎ ((start ≡ []) × HaveBid persons objects costs stride gap bids prices))
      → IsBracketAt (problem persons objects (table_arcs objects costs stride gap persons)) places (map (scaled (pos (persons + 1))) prices) reason lower cost
      → UnlessStopped stopped (reason ≡ Reason.Bids) (IsLimitAt (problem persons objects (table_arcs objects costs stride gap persons)) start bids places (map (scaled (pos (persons + 1))) prices) reason lower cost)
  limited start bids stopped places reason lower cost is (inl told) at = inl (told, is)
  limited start bids stopped places reason lower cost is (inr by) at =
      inr (subst (λ (s : List ℤ). IsLimitAt (problem persons objects (table_arcs objects costs stride gap persons)) s bids places (map (scaled (pos (persons + 1))) prices) reason lower cost) (sym by.0)
      (subst (λ (r : Reason). IsLimitAt (problem persons objects (table_arcs objects costs stride gap persons)) [] bids places (map (scaled (pos (persons + 1))) prices) r lower cost) (sym is)
      (record { picks = at.picks; at = at.at; limited = by.1.limited at.picks lower cost })))

  pub shown_solved : (start : List ℤ) (bids : ℕ) (stopped : Bool) (before : Memory) (solved : Solved)
      → IsProblem (problem persons objects (table_arcs objects costs stride gap persons)) → IsTable persons objects stride (length costs)
      → IsShown persons objects costs stride gap may prices picks solved
      → (may ≡ true → (stopped ≡ true) ⊎ ((start ≡ []) × HaveBid persons objects costs stride gap bids prices))
      → IsTableSolved (problem persons objects (table_arcs objects costs stride gap persons)) start bids stopped before
      (memory (map (λ pick. pick.object) picks) (map (scaled (pos (persons + 1))) prices) before.set) solved
  shown_solved start bids stopped before (Optimal cost) is table show cause = (shown_least persons objects costs stride gap picks prices is table show.0 cost show.1, refl)
  shown_solved start bids stopped before (Infeasible few many) is table show cause = absurd show
  shown_solved start bids stopped before (Bracket reason lower cost) is table show cause =
      let by = shown_bracket persons objects costs stride gap picks prices lower is table show.0 reason cost show.1 in
      (record { places = by.places; objects_are = by.objects_are; holds = (by.holds, limited start bids stopped by.places reason lower cost show.3 (cause show.2) by.holds) }, refl)

-- what was found, as it is written
module _ (t : Table) (gap : ℤ) (start : List ℤ) (bids : ℕ) (stopped : Bool) (a : Assignment) (found : IsFound t gap start bids stopped (Assigned a)) where
  shown : IsShown t.persons t.objects t.costs.now t.stride gap found.may a.prices.items a.picks.items a.solved
  shown = subst (λ (prices : List ℤ). IsShown t.persons t.objects t.costs.now t.stride gap found.may prices a.picks.items a.solved) (sym found.quick_is.0) found.quick_is.1

  pub found_many : length a.picks.items ≡ t.persons
  found_many = shown_many t.persons t.objects t.costs.now t.stride gap found.may a.prices.items a.picks.items a.solved shown

  pub found_priced : length a.prices.items ≡ t.objects
  found_priced = shown_priced t.persons t.objects t.costs.now t.stride gap found.may a.prices.items a.picks.items a.solved shown

  pub found_plain : All (IsPlainPrice (pos (t.persons + 1))) a.prices.items
  found_plain = shown_plain t.persons t.objects t.costs.now t.stride gap found.may a.prices.items a.picks.items a.solved shown

  pub found_solved : (before : Memory) (choice : List ℕ) (prices : List ℤ) → IsProblem (problem t.persons t.objects (table_arcs t.objects t.costs.now t.stride gap t.persons)) → IsTable t.persons t.objects t.stride (length t.costs.now)
      → choice ≡ map (λ pick. pick.object) a.picks.items → prices ≡ map (scaled (pos (t.persons + 1))) a.prices.items
      → IsTableSolved (problem t.persons t.objects (table_arcs t.objects t.costs.now t.stride gap t.persons)) start bids stopped before (memory choice prices before.set) a.solved
  found_solved before choice prices is table choice_is prices_are =
      let cause : found.may ≡ true → (stopped ≡ true) ⊎ ((start ≡ []) × HaveBid t.persons t.objects t.costs.now t.stride gap bids a.prices.items) =
      subst (λ (zs : List ℤ). found.may ≡ true → (stopped ≡ true) ⊎ ((start ≡ []) × HaveBid t.persons t.objects t.costs.now t.stride gap bids zs)) (sym found.quick_is.0) found.cause in
      rw (choice_is, prices_are) (shown_solved t.persons t.objects t.costs.now t.stride gap found.may a.prices.items a.picks.items start bids stopped before a.solved is table shown cause)

-- persons who know too few objects are an answer as well
pub hall_solved : (p : Problem) (start : List ℤ) (bids : ℕ) (stopped : Bool) (choice_before choice set_before set : List ℕ) (prices : List ℤ) (solved : Solved) → IsHallFound p choice_before choice set_before set solved
    → IsTableSolved p start bids stopped (memory choice_before prices set_before) (memory choice prices set) solved
hall_solved p start bids stopped choice_before choice set_before set prices (Optimal cost) h = absurd h
hall_solved p start bids stopped choice_before choice set_before set prices (Infeasible persons objects) h = (h.0, refl, h.1, h.2)
hall_solved p start bids stopped choice_before choice set_before set prices (Bracket reason lower cost) h = absurd h

pub no_prices : (start : List ℤ) → nat_eq (length start) 0 ≡ true → start ≡ []
no_prices [] e = refl
no_prices (price ∷ start) e = absurd (grind (arith, nat_tests))

-- a watch that was asked was asked whatever was found
pub asked_anyway : (asked : Bool) → asked ≡ true → (solved : Solved) → IsAskedSolve asked solved
asked_anyway asked h (Optimal cost) = h
asked_anyway asked h (Infeasible persons objects) = tt
asked_anyway asked h (Bracket reason lower cost) = h
