-- From the holders of a counted world to a certificate that passes the checker.
use Rattle.std.proofs.Common.{ℕ, ℤ, pos, ◌+◌, ◌<◌, ◌≡◌, ◌⊎◌, inl, inr, arith, List, length, get_or, Option, Some, None, Contains, refl, sym, subst, ◌∙◌}
use Rattle.std.specs.Prelude.{All, map}
use Rattle.auc_claim.specs.declared.cert.CertParts.TheVariants.{Optimal}
use Rattle.auc_claim.specs.Claim.{pick_of}
use Rattle.auc_claim.proofs.ClaimLaws.{faultless_is_allowed}
use Rattle.auc_claim.proofs.Converse.{assignment_in_range, slack_right_faultless}
use Rattle.auc_graph.specs.declared.arc.Arc.{Arc}
use Rattle.auc_graph.specs.Assignment.{IsAssignment, object_of, total_cost}
use Rattle.auc_graph.specs.Dual.{IsNoPriceLeft, IsSlackRight, scale_of}
use Rattle.auc_graph.specs.Problem.{IsProblem, IsSquare, IsWithin, Problem}
use Rattle.auc_graph.proofs.DualLaws.{as_many, none_left_over}
use Rattle.std.proofs.lemmas.List.{get_or-map, length-map}
use Rattle.auc_letters.specs.declared.state.Held.{Held}
use Rattle.auc_hall.proofs.ProblemLaws.{length-rows}
use Rattle.auc_model.proofs.Reached.{kept_reached}
use Rattle.auc_model.proofs.Theorems.{of_every_schedule}
use Rattle.auc_answers.proofs.FoundLaws.{person_at}
use Rattle.auc_answers.specs.Answers.{IsCertified}
use Rattle.auc_graph.specs.Table.{IsTable, IsTableOf, Table}
use Rattle.auc_graph.specs.Price.{IsPrice}
use Rattle.auc_model.specs.Chosen.{ArePricesOf, IsHeldArc}
use Rattle.auc_model.specs.Schedule.{Reached}
use Rattle.auc_model.specs.World.{World, phase_of}
use Rattle.auc_model.proofs.Chosen.{holders_are_assignment}
use Rattle.auc_model.proofs.CountedSlack.{held_slack_right}
use Rattle.auc_machine.specs.Certified.{HasCertified}

module _ (p : Problem) (t : Table) (shards : ℕ) (v : World) (prices : List ℤ) (is : IsProblem p) (table : IsTable t) (of : IsTableOf p t) (reached : Reached (phase_of t shards (pos 1)) v) (true_prices : ArePricesOf v prices) (many : length prices ≡ p.objects) (range : All IsPrice prices) where
  slack : (choice : List Arc) → IsAssignment p choice → All (IsHeldArc p v) choice → All (IsSlackRight (pos 1) (scale_of p) prices p.arcs) choice
  slack choice given held k d l =
      let arc = get_or choice k d in
      let listed = given.arcs k d l in
      let within : IsWithin p.persons p.objects arc = subst (IsWithin p.persons p.objects) listed.2 (is.within listed.0 arc listed.1) in
      held_slack_right p t shards (pos 1) v prices of reached true_prices arc within.person (held k d l)

  -- an object that no person of the assignment takes has no holder
  unheld : (choice : List Arc) → IsAssignment p choice → All (IsHeldArc p v) choice → (j : ℕ) → ¬ Contains (map object_of choice) j → v.holder j ≡ None
  unheld choice given held j free = by (v.holder j) refl
    where
      by : (o : Option Held) → v.holder j ≡ o → v.holder j ≡ None
      by None e = e
      by (Some h) e =
          let below = (kept_reached (phase_of t shards (pos 1)) v reached).inv.holder_range j h e in
          let l : h.person < length choice = omega (arith, below, length-rows p t of, as_many p choice given) in
          let none : Arc = record { person = 0; object = 0; cost = pos 0 } in
          let own = held h.person none l in
          let person : (get_or choice h.person none).person ≡ 0 + h.person = person_at p.persons 0 h.person choice none given.persons l in
          let who = own.person in
          let once : j ≡ (get_or choice h.person none).object = (of_every_schedule (phase_of t shards (pos 1)) v reached).held_once j (get_or choice h.person none).object h own.held e own.holds (omega (arith, person, who)) in
          absurd (free (h.person, omega (arith, l, length-map choice object_of), get_or-map object_of choice h.person none j l ∙ sym once))

  no_price_left : (IsSquare p ⊎ ((j : ℕ) → v.holder j ≡ None → v.price j ≡ pos 0)) → (choice : List Arc) → IsAssignment p choice → All (IsHeldArc p v) choice → IsNoPriceLeft prices choice
  no_price_left (inl square) choice given held j not_taken = none_left_over p prices choice is.within square many given j not_taken
  no_price_left (inr free) choice given held j not_taken = true_prices j ∙ free j (unheld choice given held j not_taken)

  certified : (IsSquare p ⊎ ((j : ℕ) → v.holder j ≡ None → v.price j ≡ pos 0)) → (choice : List Arc) → IsAssignment p choice → All (IsHeldArc p v) choice → IsCertified p (Optimal (total_cost choice) (map pick_of choice) prices)
  certified priced choice given held =
      let in_range = assignment_in_range p choice prices is given many range in
      let faultless = slack_right_faultless p choice given prices many (total_cost choice) refl (slack choice given held) (no_price_left priced choice given held) in
      record { in_range = in_range; faultless = faultless; allowed = faultless_is_allowed p (Optimal (total_cost choice) (map pick_of choice) prices) is in_range faultless }

pub counted_are_certified : (p : Problem) (t : Table) (shards : ℕ) (v : World) (prices : List ℤ) → IsProblem p → IsTable t → IsTableOf p t → (IsSquare p ⊎ ((j : ℕ) → v.holder j ≡ None → v.price j ≡ pos 0)) → Reached (phase_of t shards (pos 1)) v → v.count ≡ length t.rows → ArePricesOf v prices → length prices ≡ p.objects → All IsPrice prices
    → HasCertified p v prices
counted_are_certified p t shards v prices is table of priced reached counted true_prices many range =
    let found = holders_are_assignment p t shards (pos 1) v of reached counted in
    record {
      choice = found.choice;
      assigned = found.assigned;
      held = found.held;
      certified = certified p t shards v prices is table of reached true_prices many range priced found.choice found.assigned found.held;
    }
