-- What a bracket needs to pass: an assignment, and prices in range, at most as many above 0 as there are persons.
use Rattle.std.proofs.Common.{ℕ, ℤ, zero, suc, refl, ◌+◌, ◌<◌, ◌≡◌, ◌⊎◌, arith, true, false, eq-eqb, inl, inr, List, [], ◌∷◌, length, get_or, Option, Some, None, Contains, sym, ap, subst, ◌∙◌}
use Rattle.std.specs.Prelude.{All, Bool, FitsSigned, map, ◌==◌, if◌then◌else◌}
use Rattle.std.specs.List.{range_with_len}
use Rattle.std.proofs.lemmas.Bool.{cases_eq, ne_eqb}
use Rattle.std.proofs.lemmas.List.FromFn.{get_or-map-range_with_len, length-map-range_with_len}
use Rattle.std.proofs.lemmas.Option.{get_or_from_slice_get, same_Some, slice_get_within}
use Rattle.auc_letters.specs.declared.state.Held.{Held}
use Rattle.std.specs.Int.{w64}
use Rattle.auc_graph.specs.declared.arc.Arc.{Arc}
use Rattle.auc_graph.specs.Assignment.{IsAssignment, total_cost}
use Rattle.auc_graph.specs.Dual.{AreFewPriced, IsLower, dual, scale_of}
use Rattle.auc_graph.specs.Price.{IsPrice}
use Rattle.auc_graph.specs.Problem.{IsProblem, IsSquare, IsWithin, Problem}
use Rattle.auc_graph.proofs.DualLaws.{as_many, square_are_few}
use Rattle.std.proofs.lemmas.Grind.{common_steps}
use Rattle.auc_claim.specs.declared.cert.CertParts.{CertParts}
use Rattle.auc_claim.specs.declared.reason.Reason.{Reason}
use Rattle.auc_claim.specs.declared.lists.Pick.{Pick}
use Rattle.auc_claim.specs.Claim.{chosen, pick_of}
use Rattle.auc_claim.proofs.Converse.{assignment_in_range, bracket_faultless, bracket_in_range}
use Rattle.auc_claim.proofs.ClaimLaws.{faultless_is_allowed}
use Rattle.auc_claim.specs.InRange.{IsInRange}
use Rattle.auc_answers.specs.Answers.{HasAssignment, IsCertified}
use Rattle.auc_answers.specs.Claims.{ArePlaceable, BoundFits, HasNoPriceUnheld, IsBracketBy, holder_at}
use Rattle.auc_answers.proofs.FoundLaws.{length_chosen, pick_back}

-- the picks of an assignment, their cost, and the bound of lawful prices
module _ (p : Problem) (reason : Reason) (prices : List ℤ) (is : IsProblem p) (each : length prices ≡ p.objects) (within : All IsPrice prices) where
  pub cost_fits : (choice : List Arc) → IsAssignment p choice → FitsSigned w64 (total_cost choice)
  cost_fits choice given = (assignment_in_range p choice prices is given each within).0

  -- if there is an assignment, and at most as many objects as persons have a price
  pub bound_fits : AreFewPriced p prices → HasAssignment p → BoundFits p prices
  bound_fits few has lower bound = (bracket_in_range p has.0 prices lower reason is has.1 each within few bound).lower_fits

  pub certified_bracket : BoundFits p prices → (cert : CertParts) → IsBracketBy p reason prices cert → IsCertified p cert
  certified_bracket fits cert by =
      let other = assignment_in_range p by.choice prices is by.assigned each within in
      let in_range : IsInRange (CertParts.Bracket reason by.lower (total_cost by.choice) (map pick_of by.choice) prices) = record { lower_fits = fits by.lower by.bound; cost_fits = other.0; choice = other.1 } in
      let faultless = bracket_faultless p by.choice by.assigned prices each (total_cost by.choice) refl reason by.lower by.bound in
      subst (IsCertified p) (sym by.is)
      (record { in_range = in_range; faultless = faultless; allowed = faultless_is_allowed p (CertParts.Bracket reason by.lower (total_cost by.choice) (map pick_of by.choice) prices) is in_range faultless })

-- the parts, as the code makes them
pub bracket_is : (p : Problem) (reason : Reason) (prices : List ℤ) (lower cost : ℤ) (picks : List Pick) → IsAssignment p (chosen 0 picks) → IsLower (scale_of p) (dual p prices) lower → cost ≡ total_cost (chosen 0 picks)
    → IsBracketBy p reason prices (CertParts.Bracket reason lower cost picks prices)
bracket_is p reason prices lower cost picks given bound is = record {
  choice = chosen 0 picks;
  assigned = given;
  lower = lower;
  bound = bound;
  is = ap (λ (z : ℤ). CertParts.Bracket reason lower z picks prices) is ∙ ap (λ (ps : List Pick). CertParts.Bracket reason lower (total_cost (chosen 0 picks)) ps prices) (sym (pick_back 0 picks));
}

-- ---- the same of what the code has at hand

pub bound_is : (p : Problem) (n : ℕ) (slice prices : List ℤ) (bound lower : ℤ) → n ≡ p.persons → bound ≡ dual p slice → slice ≡ prices → IsLower (n + 1) bound lower → IsLower (scale_of p) (dual p prices) lower
bound_is p n slice prices bound lower many is same h = subst (λ (m : ℕ). IsLower (m + 1) (dual p prices) lower) many (subst (λ (d : ℤ). IsLower (n + 1) d lower) (is ∙ ap (dual p) same) h)

pub few_picks : (p : Problem) (picks slice : List Pick) → IsProblem p → IsAssignment p (chosen 0 picks) → slice ≡ picks → length slice < 4294967296
few_picks p picks slice is given same =
    let most = is.most in
    let many = as_many p (chosen 0 picks) given in
    let len = length_chosen 0 picks in
    let size = ap (λ (ps : List Pick). length ps) same in
    grind (arith, common_steps, most, many, len, size)

-- ---- no person holds two objects, so at most as many are held as there are persons

-- the first object that this person holds
abbrev found_by : ℕ → ℕ → List (Option Held) → ℕ
found_by i k [] = 0
found_by i k (None ∷ hs) = found_by i (k + 1) hs
found_by i k (Some h ∷ hs) = if h.person == i then k else found_by i (k + 1) hs

-- the result of a search for a holder
record IsFound (i k : ℕ) (hs : List (Option Held)) : Type 0 where
  pub place : ℕ
  pub holder : Held
  pub at : found_by i k hs ≡ k + place
  pub holds : holder_at hs place ≡ Some holder
  pub is : holder.person ≡ i

found_later : (i k : ℕ) (o : Option Held) (hs : List (Option Held)) → found_by i k (o ∷ hs) ≡ found_by i (k + 1) hs → IsFound i (k + 1) hs → IsFound i k (o ∷ hs)
found_later i k o hs on x = record { place = suc x.place; holder = x.holder; at = on ∙ omega (arith, x.at); holds = x.holds; is = x.is }

is_found : (i k : ℕ) (hs : List (Option Held)) (j : ℕ) (h : Held) → holder_at hs j ≡ Some h → h.person ≡ i → IsFound i k hs
is_found i k [] j h e same = absurd cc
is_found i k (None ∷ hs) zero h e same = absurd cc
is_found i k (None ∷ hs) (suc j) h e same = found_later i k None hs refl (is_found i (k + 1) hs j h e same)
is_found i k (Some g ∷ hs) zero h e same =
    let own : g ≡ h = same_Some g h e in
    let his : g.person ≡ i = ap (λ (x : Held). x.person) own ∙ same in
    let t : (g.person == i) ≡ true = eq-eqb g.person i his in
    record { place = 0; holder = g; at = ap (λ (b : Bool). if b then k else found_by i (k + 1) hs) t ∙ omega arith; holds = refl; is = his }
is_found i k (Some g ∷ hs) (suc j) h e same =
    elim (cases_eq g.person i) [
      | inl his ↦ (let t : (g.person == i) ≡ true = eq-eqb g.person i his in record { place = 0; holder = g; at = ap (λ (b : Bool). if b then k else found_by i (k + 1) hs) t ∙ omega arith; holds = refl; is = his })
      | inr other ↦ (let t : (g.person == i) ≡ false = ne_eqb g.person i other in found_later i k (Some g) hs (ap (λ (b : Bool). if b then k else found_by i (k + 1) hs) t) (is_found i (k + 1) hs j h e same))
    ]

module _ (p : Problem) (holders : List (Option Held)) (prices : List ℤ) (is : IsProblem p) (placed : ArePlaceable p holders) where
  -- the objects that are held, one for each person at most
  abbrev held_objects : List ℕ
  held_objects = map (λ i. found_by i 0 holders) (range_with_len 0 p.persons)

  person_below : (j : ℕ) (h : Held) → holder_at holders j ≡ Some h → h.person < p.persons
  person_below j h e =
      let arc = placed.each j h e in
      let place = arc.1.by.place in
      let within : IsWithin p.persons p.objects arc.0 = subst (IsWithin p.persons p.objects) (get_or_from_slice_get p.arcs h.arc arc.0 arc.0 place) (is.within h.arc arc.0 (slice_get_within p.arcs h.arc arc.0 place)) in
      let low = within.person in
      omega (arith, low, arc.1.by.his)

  held_is_among : (j : ℕ) (h : Held) → holder_at holders j ≡ Some h → Contains held_objects j
  held_is_among j h e =
      let x = is_found h.person 0 holders j h e refl in
      let one : j ≡ x.place = placed.once j x.place h x.holder e x.holds (sym x.is) in
      let lt = person_below j h e in
      let at : get_or held_objects h.person j ≡ found_by h.person 0 holders = get_or-map-range_with_len (λ i. found_by i 0 holders) 0 p.persons h.person h.person j lt (omega arith) in
      (h.person, omega (arith, lt, length-map-range_with_len (λ i. found_by i 0 holders) 0 p.persons), at ∙ omega (arith, one, x.at))

  nobody_holds : (j : ℕ) → ¬ Contains held_objects j → holder_at holders j ≡ None
  nobody_holds j free = by (holder_at holders j) refl
    where
      by : (o : Option Held) → holder_at holders j ≡ o → holder_at holders j ≡ None
      by None e = e
      by (Some h) e = absurd (free (held_is_among j h e))

  -- so at most as many objects as persons have a price
  pub holders_price_few : length prices ≡ p.objects → IsSquare p ⊎ HasNoPriceUnheld holders prices → AreFewPriced p prices
  holders_price_few len (inl square) = square_are_few p prices square len
  holders_price_few len (inr unheld) = record { priced = held_objects; few = omega (arith, length-map-range_with_len (λ i. found_by i 0 holders) 0 p.persons); others = λ j free. unheld j (nobody_holds j free) }
