-- Claims in range, and those that a text spells: which of them are both.
use Rattle.std.proofs.Common.{◌≡◌, ℕ, ◌+◌, ◌≤◌, ◌<◌, ◌∷◌, [], not, List, length, None, refl, sym, subst, inl, inr, arith, All}
use Rattle.std.specs.Prelude.{ℤ}
use Rattle.std.proofs.lemmas.Bool.{cases_eq, ne_eqb}
use Rattle.std.proofs.Common.{eqb, false, true}
use Rattle.std.specs.Prelude.{◌&&◌, nat_lt}
use Rattle.std.specs.List.{list_all}
use Rattle.std.proofs.lemmas.Bool.{and_parts}
use Rattle.auc_graph.specs.Problem.{Problem, IsProblem}
use Rattle.auc_graph.specs.declared.limits.TheConstants.{MOST_OBJECTS, MOST_PERSONS, TEXT_OBJECTS, TEXT_PERSONS}
use Rattle.auc_graph.specs.Rising.{Rises}
use Rattle.auc_claim.specs.declared.lists.Pick.{Pick}
use Rattle.auc_claim.specs.declared.version.Version.{Version}
use Rattle.auc_claim.specs.declared.cert.CertParts.{CertParts}
use Rattle.auc_claim.specs.declared.cert.CertParts.TheVariants.{Optimal, Infeasible, Bracket}
use Rattle.auc_claim.specs.declared.refused.CertRefused.TheVariants.{NotHall}
use Rattle.auc_claim.specs.Spelled.{AreNamed, IsChoice, IsPick, IsSpelled, choice_version, most_in, version_of_sizes}
use Rattle.auc_claim.specs.InRange.{AreNamesInRange, IsChoiceInRange, IsInRange}
use Rattle.auc_claim.specs.Claim.{are_below, bound_fault, choice_faults, fault_of, first_of, is_hall, left_over_fault, slack_fault, stays_within}
use Rattle.auc_claim.proofs.VersionLaws.{most_is_few, sized_first}
use Rattle.auc_claim.proofs.RisingLaws.{is_rising, rises_below_higher, rises_from, rises_room}
use Rattle.auc_claim.proofs.HallLaws.{all_below, hall_set_is, none_below_0}
use Rattle.auc_claim.proofs.ClaimLaws.{IsFaultless, is_faultless, none_if, none_in_front, not_false, objects_below}

-- ---- what a text spells is in range

picks_in_range : (most : ℕ) (choice : List Pick) → most ≤ MOST_OBJECTS → All (IsPick most) choice → All (IsPick MOST_OBJECTS) choice
picks_in_range most choice le h = λ k d lt.
    let here = h k d lt in
    let object = here.object in
    record { object = omega (arith, object, le); low = here.low; high = here.high }

choice_in_range : (choice : List Pick) (prices : List ℤ) → IsChoice choice prices → IsChoiceInRange choice prices
choice_in_range choice prices is =
    let most = is.most in
    let few = is.few in
    let version = most_is_few (choice_version choice prices) in
    record {
      some = is.some;
      most = omega (arith, most);
      enough = is.enough;
      few = omega (arith, few);
      picks = picks_in_range (most_in (choice_version choice prices)) choice (omega (arith, version)) is.picks;
      fair = is.fair;
    }

names_in_range : (persons objects : List ℕ) → AreNamed persons objects → AreNamesInRange persons objects
names_in_range persons objects is =
    let few = is.few in
    record {
      some = is.some;
      few = omega (arith, few);
      persons_rise = rises_below_higher 0 10000 MOST_PERSONS persons (omega arith) is.persons_rise;
      objects_rise = rises_below_higher 0 20000 MOST_OBJECTS objects (omega arith) is.objects_rise;
    }

pub spelled_in_range : (c : CertParts) → IsSpelled c → IsInRange c
spelled_in_range (Optimal cost choice prices) is = (is.0, choice_in_range choice prices is.1)
spelled_in_range (Infeasible persons objects) is = names_in_range persons objects is
spelled_in_range (Bracket reason lower cost choice prices) is = record { lower_fits = is.lower_fits; cost_fits = is.cost_fits; choice = choice_in_range choice prices is.choice }

-- ---- a claim in range without a fault, of a problem that has a text

-- the version of a claim can number the problem's objects
within_version : (n m persons objects : ℕ) → n ≡ persons → m ≡ objects → persons ≤ 10000 → objects ≤ 20000 → objects ≤ most_in (version_of_sizes n m)
within_version n m persons objects size len most few =
    elim (cases_eq m n) [
      | inl same ↦ subst (λ (v : Version). objects ≤ most_in v) (sym (sized_first n m same)) (omega arith)
      | inr other ↦ (let t : eqb m n ≡ false = ne_eqb m n other in rw t few)
    ]

module _ (p : Problem) (is : IsProblem p) (most : p.persons ≤ TEXT_PERSONS) (few : p.objects ≤ TEXT_OBJECTS) where
  choice_spelled : (cost : ℤ) (choice : List Pick) (prices : List ℤ) → IsChoiceInRange choice prices → first_of (choice_faults p cost choice prices) ≡ None → IsChoice choice prices
  choice_spelled cost choice prices in_range none =
      let faultless : IsFaultless p cost choice prices = is_faultless p cost choice prices none in
      let size = faultless.size in
      let priced = faultless.priced in
      let below : All (λ (c : Pick). c.object < p.objects) choice = objects_below p p.objects choice is refl faultless.missing in
      let numbered : p.objects ≤ most_in (choice_version choice prices) = within_version (length choice) (length prices) p.persons p.objects size priced most few in
      record {
        some = in_range.some;
        most = omega (arith, size, most);
        enough = in_range.enough;
        few = omega (arith, priced, few);
        picks = λ k d lt.
            let object = below k d lt in
            let pick = in_range.picks k d lt in
            record { object = omega (arith, object, numbered); low = pick.low; high = pick.high };
        fair = in_range.fair;
      }

  names_spelled : (persons objects : List ℕ) → AreNamesInRange persons objects → is_hall p persons objects ≡ true → AreNamed persons objects
  names_spelled persons objects in_range hall =
      let set = hall_set_is p persons objects in_range hall in
      let outer = and_parts (are_below p.persons persons && are_below p.objects objects) (nat_lt (length objects) (length persons) && list_all (stays_within persons objects) p.arcs) hall in
      let below = and_parts (are_below p.persons persons) (are_below p.objects objects) outer.0 in
      let persons_below = all_below p.persons persons below.0 in
      let objects_below = all_below p.objects objects below.1 in
      let persons_rise : Rises 0 p.persons persons = rises_from 0 p.persons persons (none_below_0 persons) persons_below (is_rising 0 MOST_PERSONS persons in_range.persons_rise) in
      let objects_rise : Rises 0 p.objects objects = rises_from 0 p.objects objects (none_below_0 objects) objects_below (is_rising 0 MOST_OBJECTS objects in_range.objects_rise) in
      let room : 0 + length persons ≤ p.persons = rises_room 0 p.persons persons (omega arith) persons_rise in
      let fewer = set.fewer in
      record {
        some = in_range.some;
        few = omega (arith, room, fewer, most);
        persons_rise = rises_below_higher 0 p.persons 10000 persons most persons_rise;
        objects_rise = rises_below_higher 0 p.objects 20000 objects few objects_rise;
      }

  pub faultless_is_spelled : (c : CertParts) → IsInRange c → fault_of p c ≡ None → IsSpelled c
  faultless_is_spelled (Optimal cost choice prices) in_range none =
      let parts = none_in_front (choice_faults p cost choice prices) (slack_fault p choice prices ∷ left_over_fault choice prices ∷ []) none in
      (in_range.0, choice_spelled cost choice prices in_range.1 parts.0)
  faultless_is_spelled (Infeasible persons objects) in_range none =
      let passed = none_if (not (is_hall p persons objects)) NotHall [] none in
      names_spelled persons objects in_range (not_false (is_hall p persons objects) passed.0)
  faultless_is_spelled (Bracket reason lower cost choice prices) in_range none =
      let parts = none_in_front (choice_faults p cost choice prices) (bound_fault p lower prices ∷ []) none in
      record { lower_fits = in_range.lower_fits; cost_fits = in_range.cost_fits; choice = choice_spelled cost choice prices in_range.choice parts.0 }
