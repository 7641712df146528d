-- Which claims have a text of versions 1 and 2, and which have one of version 3.
use Rattle.std.proofs.Common.{◌≡◌, ℕ, ◌+◌, ◌≤◌, ◌<◌, true, false, not, None, List, [], ◌∷◌, length, refl, sym, ap, subst, ◌∙◌, arith, inl, inr, All}
use Rattle.std.specs.Prelude.{ℤ, nat_lt}
use Rattle.std.proofs.lemmas.Bool.{cases_lt, cases_eq}
use Rattle.std.proofs.lemmas.Bool.Decides.{nat_tests}
use Rattle.auc_graph.specs.declared.limits.TheConstants.{MOST_OBJECTS, MOST_PERSONS}
use Rattle.auc_graph.specs.Problem.{Problem, IsProblem}
use Rattle.auc_graph.specs.Rising.{Rises}
use Rattle.auc_claim.specs.declared.lists.Pick.{Pick}
use Rattle.auc_claim.specs.declared.version.Version.{Version}
use Rattle.auc_claim.specs.declared.version.Version.TheVariants.{First, Second}
use Rattle.auc_claim.specs.declared.cert.CertParts.{CertParts}
use Rattle.auc_claim.specs.declared.cert.CertParts.TheVariants.{Optimal, Infeasible, Bracket}
use Rattle.auc_claim.specs.Spelled.{most_in, version_of_sizes, choice_version, least_behind, names_version, IsPick, IsChoice, AreNamed, IsSpelled}
use Rattle.auc_claim.specs.declared.refused.CertRefused.TheVariants.{NotHall}
use Rattle.auc_claim.specs.InRange.{AreNamesInRange, IsInRange}
use Rattle.auc_claim.specs.Claim.{bound_fault, choice_faults, fault_of, is_hall, left_over_fault, slack_fault}
use Rattle.auc_cert.specs.declared.form.Form.{Form}
use Rattle.auc_cert.specs.declared.form.Form.TheVariants.{Usual, Large}
use Rattle.auc_cert.specs.Form.{AreNamedIn, AreObjects, IsChoiceIn, IsSpelledIn, form_of, form_of_names, form_of_sizes, least_last, least_named}
use Rattle.auc_claim.proofs.ClaimLaws.{is_faultless, none_if, none_in_front, not_false}
use Rattle.auc_claim.proofs.HallLaws.{hall_set_is}
use Rattle.auc_claim.proofs.RangeLaws.{faultless_is_spelled}
use Rattle.auc_claim.proofs.RisingLaws.{rises_below_higher, rises_below_last, behind_below, behind_some, rises_room}
use Rattle.auc_claim.proofs.VersionLaws.{most_is_few, sized_first, sized_second, named_first, named_second}

-- ---- picks and prices

sized_as : (v : Version) (n m : ℕ) → AreObjects (Usual v) n m → version_of_sizes n m ≡ v
sized_as First n m is = sized_first n m is
sized_as Second n m is = let lt : n < m = is.0 in sized_second n m lt

objects_are : (n m : ℕ) → n ≤ m → m ≤ 20000 → AreObjects (Usual (version_of_sizes n m)) n m
objects_are n m enough few =
    elim (cases_eq m n) [
      | inl same ↦ subst (λ (v : Version). AreObjects (Usual v) n m) (sym (sized_first n m same)) same
      | inr other ↦ (let lt : n < m = omega arith in subst (λ (v : Version). AreObjects (Usual v) n m) (sym (sized_second n m lt)) (lt, few))
    ]

-- as many as are counted have numbers
few_in : (v : Version) (n m : ℕ) → AreObjects (Usual v) n m → n ≤ 10000 → m ≤ most_in v
few_in First n m is most = let same : m ≡ n = is in omega arith
few_in Second n m is most = is.1

usual_sizes : (n m : ℕ) → n ≤ 10000 → m ≤ 20000 → form_of_sizes n m ≡ Usual (version_of_sizes n m)
usual_sizes n m most few =
    let t : nat_lt 10000 n ≡ false = grind (arith, nat_tests) in
    let u : nat_lt 20000 m ≡ false = grind (arith, nat_tests) in
    rw (t, u) refl

choice_in : (choice : List Pick) (prices : List ℤ) → IsChoice choice prices → IsChoiceIn (Usual (choice_version choice prices)) choice prices
choice_in choice prices is =
    let sizes = objects_are (length choice) (length prices) is.enough is.few in
    record {
      within = record {
        some = is.some;
        most = is.most;
        enough = is.enough;
        few = few_in (choice_version choice prices) (length choice) (length prices) sizes is.most;
        picks = is.picks;
        fair = is.fair;
      };
      sizes = sizes;
    }

choice_from : (v : Version) (choice : List Pick) (prices : List ℤ) → IsChoiceIn (Usual v) choice prices → IsChoice choice prices
choice_from v choice prices is = record {
  some = is.within.some;
  most = is.within.most;
  enough = is.within.enough;
  few = (let few : length prices ≤ most_in v = is.within.few in omega (arith, few, most_is_few v));
  picks = subst (λ (w : Version). All (IsPick (most_in w)) choice) (sym (sized_as v (length choice) (length prices) is.sizes)) is.within.picks;
  fair = is.within.fair;
}

-- ---- names

first_second : First ≡ Second → ⊥
first_second e = absurd cc

up_to_first : (objects : List ℕ) → names_version objects ≡ First → least_behind 0 objects ≤ 10000
up_to_first objects is =
    elim (cases_lt 10000 (least_behind 0 objects)) [
      | inl lt ↦ absurd (first_second (sym is ∙ named_second objects lt))
      | inr le ↦ le
    ]

above_first : (objects : List ℕ) → names_version objects ≡ Second → 10000 < least_behind 0 objects
above_first objects is =
    elim (cases_lt 10000 (least_behind 0 objects)) [
      | inl lt ↦ lt
      | inr le ↦ absurd (first_second (sym (named_first objects le) ∙ is))
    ]

some_named : (objects : List ℕ) → 10000 < least_behind 0 objects → 1 ≤ length objects
some_named [] lt = absurd (omega arith)
some_named (j ∷ objects) lt = omega arith

-- its objects are those that the version numbers
rises_in : (v : Version) (objects : List ℕ) → Rises 0 20000 objects → names_version objects ≡ v → Rises 0 (most_in v) objects
rises_in First objects p is = rises_below_last 0 20000 10000 objects p (up_to_first objects is)
rises_in Second objects p is = p

last_in : (v : Version) (objects : List ℕ) → Rises 0 20000 objects → 0 < length objects → names_version objects ≡ v → least_last (Usual v) < least_behind 0 objects
last_in First objects p some is = behind_some 0 20000 objects some p
last_in Second objects p some is = above_first objects is

least_is_named : (v : Version) (objects : List ℕ) → names_version objects ≡ v → least_named (Usual v) ≤ length objects
least_is_named First objects is = omega arith
least_is_named Second objects is = some_named objects (above_first objects is)

names_in : (persons objects : List ℕ) → AreNamed persons objects → AreNamedIn (Usual (names_version objects)) persons objects
names_in persons objects is =
    let v = names_version objects in
    record {
      within = record {
        some = is.some;
        few = is.few;
        persons_rise = is.persons_rise;
        objects_rise = rises_in v objects is.objects_rise refl;
      };
      some = least_is_named v objects refl;
      last = λ some. last_in v objects is.objects_rise some refl;
    }

names_from : (v : Version) (persons objects : List ℕ) → AreNamedIn (Usual v) persons objects → AreNamed persons objects
names_from v persons objects is = record {
  some = is.within.some;
  few = is.within.few;
  persons_rise = is.within.persons_rise;
  objects_rise = rises_below_higher 0 (most_in v) 20000 objects (most_is_few v) is.within.objects_rise;
}

named_as : (v : Version) (persons objects : List ℕ) → AreNamedIn (Usual v) persons objects → names_version objects ≡ v
named_as First persons objects is = named_first objects (behind_below 0 10000 objects (omega arith) is.within.objects_rise)
named_as Second persons objects is = let some : 1 ≤ length objects = is.some in named_second objects (is.last (omega arith))

usual_names : (persons objects : List ℕ) → AreNamed persons objects → form_of_names persons objects ≡ Usual (names_version objects)
usual_names persons objects is =
    let most : least_behind 0 persons ≤ 10000 = behind_below 0 10000 persons (omega arith) is.persons_rise in
    let few : least_behind 0 objects ≤ 20000 = behind_below 0 20000 objects (omega arith) is.objects_rise in
    let t : nat_lt 10000 (least_behind 0 persons) ≡ false = grind (arith, nat_tests) in
    let u : nat_lt 20000 (least_behind 0 objects) ≡ false = grind (arith, nat_tests) in
    rw (t, u) refl

-- ---- whole claims

abbrev pub version_of : CertParts → Version
version_of (Optimal cost choice prices) = choice_version choice prices
version_of (Infeasible persons objects) = names_version objects
version_of (Bracket reason lower cost choice prices) = choice_version choice prices

-- a claim that versions 1 and 2 spell is written in one of them
pub usual_form : (c : CertParts) → IsSpelled c → form_of c ≡ Usual (version_of c)
usual_form (Optimal cost choice prices) s = usual_sizes (length choice) (length prices) s.1.most s.1.few
usual_form (Infeasible persons objects) s = usual_names persons objects s
usual_form (Bracket reason lower cost choice prices) s = usual_sizes (length choice) (length prices) s.choice.most s.choice.few

spelled_usually : (c : CertParts) → IsSpelled c → IsSpelledIn (Usual (version_of c)) c
spelled_usually (Optimal cost choice prices) s = (s.0, choice_in choice prices s.1)
spelled_usually (Infeasible persons objects) s = names_in persons objects s
spelled_usually (Bracket reason lower cost choice prices) s = record { lower_fits = s.lower_fits; cost_fits = s.cost_fits; choice = choice_in choice prices s.choice }

pub spelled_in : (c : CertParts) → IsSpelled c → IsSpelledIn (form_of c) c
spelled_in c s = subst (λ (f : Form). IsSpelledIn f c) (sym (usual_form c s)) (spelled_usually c s)

pub spelled_from : (v : Version) (c : CertParts) → IsSpelledIn (Usual v) c → IsSpelled c
spelled_from v (Optimal cost choice prices) s = (s.0, choice_from v choice prices s.1)
spelled_from v (Infeasible persons objects) s = names_from v persons objects s
spelled_from v (Bracket reason lower cost choice prices) s = record { lower_fits = s.lower_fits; cost_fits = s.cost_fits; choice = choice_from v choice prices s.choice }

version_from : (v : Version) (c : CertParts) → IsSpelledIn (Usual v) c → version_of c ≡ v
version_from v (Optimal cost choice prices) s = sized_as v (length choice) (length prices) s.1.sizes
version_from v (Infeasible persons objects) s = named_as v persons objects s
version_from v (Bracket reason lower cost choice prices) s = sized_as v (length choice) (length prices) s.choice.sizes

pub form_from : (v : Version) (c : CertParts) → IsSpelledIn (Usual v) c → form_of c ≡ Usual v
form_from v c s = usual_form c (spelled_from v c s) ∙ ap (λ (w : Version). Usual w) (version_from v c s)

-- ---- version 3 spells what is in range

pub large_in_range : (c : CertParts) → IsSpelledIn Large c → IsInRange c
large_in_range (Optimal cost choice prices) s = (s.0, s.1.within)
large_in_range (Infeasible persons objects) s = s.within
large_in_range (Bracket reason lower cost choice prices) s = record { lower_fits = s.lower_fits; cost_fits = s.cost_fits; choice = s.choice.within }

pub range_is_large : (c : CertParts) → IsInRange c → IsSpelledIn Large c
range_is_large (Optimal cost choice prices) s = (s.0, record { within = s.1; sizes = (s.1.enough, s.1.few) })
range_is_large (Infeasible persons objects) s = record { within = s; some = omega arith; last = λ some. behind_some 0 4194304 objects some s.objects_rise }
range_is_large (Bracket reason lower cost choice prices) s = record { lower_fits = s.lower_fits; cost_fits = s.cost_fits; choice = record { within = s.choice; sizes = (s.choice.enough, s.choice.few) } }

-- ---- claims of problems

large_picks : (n m : ℕ) → 10000 < n → form_of_sizes n m ≡ Large
large_picks n m lt = let t : nat_lt 10000 n ≡ true = grind (arith, nat_tests) in rw t refl

large_prices : (n m : ℕ) → n ≤ 10000 → 20000 < m → form_of_sizes n m ≡ Large
large_prices n m le lt =
    let t : nat_lt 10000 n ≡ false = grind (arith, nat_tests) in
    let u : nat_lt 20000 m ≡ true = grind (arith, nat_tests) in
    rw (t, u) refl

large_persons : (persons objects : List ℕ) → 10000 < least_behind 0 persons → form_of_names persons objects ≡ Large
large_persons persons objects lt = let t : nat_lt 10000 (least_behind 0 persons) ≡ true = grind (arith, nat_tests) in rw t refl

large_objects : (persons objects : List ℕ) → least_behind 0 persons ≤ 10000 → 20000 < least_behind 0 objects → form_of_names persons objects ≡ Large
large_objects persons objects le lt =
    let t : nat_lt 10000 (least_behind 0 persons) ≡ false = grind (arith, nat_tests) in
    let u : nat_lt 20000 (least_behind 0 objects) ≡ true = grind (arith, nat_tests) in
    rw (t, u) refl

as_large : (c : CertParts) → IsInRange c → form_of c ≡ Large → IsSpelledIn (form_of c) c
as_large c in_range is = subst (λ (f : Form). IsSpelledIn f c) (sym is) (range_is_large c in_range)

-- names below the limits of versions 1 and 2, the objects fewer than the persons
low_names : (persons objects : List ℕ) → AreNamesInRange persons objects → length objects < length persons → least_behind 0 persons ≤ 10000 → least_behind 0 objects ≤ 20000 → AreNamed persons objects
low_names persons objects is fewer most few =
    let persons_rise : Rises 0 10000 persons = rises_below_last 0 MOST_PERSONS 10000 persons is.persons_rise most in
    let room : 0 + length persons ≤ 10000 = rises_room 0 10000 persons (omega arith) persons_rise in
    record {
      some = is.some;
      few = omega (arith, room, fewer);
      persons_rise = persons_rise;
      objects_rise = rises_below_last 0 MOST_OBJECTS 20000 objects is.objects_rise few;
    }

module _ (p : Problem) (is : IsProblem p) where
  choice_has_text : (c : CertParts) (choice : List Pick) (prices : List ℤ) → IsInRange c → fault_of p c ≡ None → form_of c ≡ form_of_sizes (length choice) (length prices) → length choice ≡ p.persons → length prices ≡ p.objects → IsSpelledIn (form_of c) c
  choice_has_text c choice prices in_range none form size priced =
      elim (cases_lt 10000 (length choice)) [
        | inl lt ↦ as_large c in_range (form ∙ large_picks (length choice) (length prices) lt)
        | inr most ↦
            elim (cases_lt 20000 (length prices)) [
              | inl lt ↦ as_large c in_range (form ∙ large_prices (length choice) (length prices) most lt)
              | inr few ↦ spelled_in c (faultless_is_spelled p is (omega (arith, most, size)) (omega (arith, few, priced)) c in_range none)
            ]
      ]

  names_have_text : (persons objects : List ℕ) → AreNamesInRange persons objects → length objects < length persons → IsSpelledIn (form_of_names persons objects) (Infeasible persons objects)
  names_have_text persons objects in_range fewer =
      elim (cases_lt 10000 (least_behind 0 persons)) [
        | inl lt ↦ as_large (Infeasible persons objects) in_range (large_persons persons objects lt)
        | inr most ↦
            elim (cases_lt 20000 (least_behind 0 objects)) [
              | inl lt ↦ as_large (Infeasible persons objects) in_range (large_objects persons objects most lt)
              | inr few ↦ spelled_in (Infeasible persons objects) (low_names persons objects in_range fewer most few)
            ]
      ]

  pub faultless_has_text : (c : CertParts) → IsInRange c → fault_of p c ≡ None → IsSpelledIn (form_of c) c
  faultless_has_text (Optimal cost choice prices) in_range none =
      let parts = none_in_front (choice_faults p cost choice prices) (slack_fault p choice prices ∷ left_over_fault choice prices ∷ []) none in
      let faultless = is_faultless p cost choice prices parts.0 in
      choice_has_text (Optimal cost choice prices) choice prices in_range none refl faultless.size faultless.priced
  faultless_has_text (Infeasible persons objects) in_range none =
      let passed = none_if (not (is_hall p persons objects)) NotHall [] none in
      let set = hall_set_is p persons objects in_range (not_false (is_hall p persons objects) passed.0) in
      names_have_text persons objects in_range set.fewer
  faultless_has_text (Bracket reason lower cost choice prices) in_range none =
      let parts = none_in_front (choice_faults p cost choice prices) (bound_fault p lower prices ∷ []) none in
      let faultless = is_faultless p cost choice prices parts.0 in
      choice_has_text (Bracket reason lower cost choice prices) choice prices in_range none refl faultless.size faultless.priced
