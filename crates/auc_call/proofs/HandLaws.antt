-- What a certificate holds that is handed out.
use Rattle.std.proofs.Common.{◌≡◌, ◌≤◌, ℕ, ◌+◌, List, length, take, None, sym, subst, ◌∙◌, arith, All, Contains}
use Rattle.std.specs.Prelude.{ℤ}
use Rattle.auc_graph.specs.declared.arc.Arc.{Arc}
use Rattle.auc_graph.specs.Problem.{Problem, IsProblem}
use Rattle.auc_hall.specs.OfProblem.{IsHallSetOf}
use Rattle.auc_claim.specs.declared.lists.Pick.{Pick}
use Rattle.auc_claim.specs.declared.reason.Reason.{Reason}
use Rattle.auc_claim.specs.declared.cert.CertParts.{CertParts}
use Rattle.auc_claim.specs.Claim.{IsAllowed, chosen, fault_of}
use Rattle.auc_graph.specs.declared.limits.TheConstants.{MOST_PERSONS}
use Rattle.auc_claim.specs.InRange.{IsInRange}
use Rattle.auc_answers.specs.Answers.{IsCertified, IsHallCertificate}
use Rattle.auc_call.specs.Shown.{IsHallAt}
use Rattle.auc_call.proofs.PlaceLaws.{few}

-- each pick of a least assignment is by an arc of the problem
pub least_there : (p : Problem) (cert parts : CertParts) (cost : ℤ) (picks slice : List Pick) (prices : List ℤ) (arcs : List Arc) → IsCertified p cert → parts ≡ cert → parts ≡ CertParts.Optimal cost picks prices → slice ≡ picks → arcs ≡ p.arcs → All (Contains arcs) (chosen 0 slice)
least_there p cert parts cost picks slice prices arcs h is arm same list =
    let e : cert ≡ CertParts.Optimal cost picks prices = cc in
    let a : IsAllowed p (CertParts.Optimal cost picks prices) = subst (IsAllowed p) e h.allowed in
    rw (same, list) a.0.assignment.arcs

-- and so is each pick of a bracket
pub bracket_there : (p : Problem) (cert parts : CertParts) (reason : Reason) (lower cost : ℤ) (picks slice : List Pick) (prices : List ℤ) (arcs : List Arc) → IsCertified p cert → parts ≡ cert → parts ≡ CertParts.Bracket reason lower cost picks prices → slice ≡ picks → arcs ≡ p.arcs → All (Contains arcs) (chosen 0 slice)
bracket_there p cert parts reason lower cost picks slice prices arcs h is arm same list =
    let e : cert ≡ CertParts.Bracket reason lower cost picks prices = cc in
    let a : IsAllowed p (CertParts.Bracket reason lower cost picks prices) = subst (IsAllowed p) e h.allowed in
    rw (same, list) a.assignment.arcs

-- persons and objects of a Hall set's certificate
pub record Named (p : Problem) (persons objects : List ℕ) : Type 0 where
  pub set : IsHallSetOf p persons objects
  pub in_range : IsInRange (CertParts.Infeasible persons objects)
  pub shown : fault_of p (CertParts.Infeasible persons objects) ≡ None

parts_are : (p q r s : List ℕ) → CertParts.Infeasible p q ≡ CertParts.Infeasible r s → (p ≡ r) × (q ≡ s)
parts_are p q r s e = (cc, cc)

told : (cert parts : CertParts) (ps os qs rs : List ℕ) → parts ≡ cert → parts ≡ CertParts.Infeasible ps os → qs ≡ ps → rs ≡ os → cert ≡ CertParts.Infeasible qs rs
told cert parts ps os qs rs is arm p o = cc

pub named : (p : Problem) (cert parts : CertParts) (ps os qs rs : List ℕ) → IsHallCertificate p cert → parts ≡ cert → parts ≡ CertParts.Infeasible ps os → qs ≡ ps → rs ≡ os → Named p qs rs
named p cert parts ps os qs rs h is arm same-p same-o =
    let e : cert ≡ CertParts.Infeasible qs rs = told cert parts ps os qs rs is arm same-p same-o in
    let same = parts_are h.persons h.objects qs rs (sym h.is ∙ e) in
    record {
      set = subst (λ (xs : List ℕ). IsHallSetOf p qs xs) same.1 (subst (λ (xs : List ℕ). IsHallSetOf p xs h.objects) same.0 h.set);
      in_range = subst IsInRange e h.certified.in_range;
      shown = subst (λ (c : CertParts). fault_of p c ≡ None) e h.certified.faultless;
    }

pub few_persons : (p : Problem) (persons objects : List ℕ) → Named p persons objects → length persons ≤ p.persons
few_persons p persons objects n =
    let h : 0 + length persons ≤ p.persons = few p.persons 0 MOST_PERSONS persons n.set.set.within n.in_range.persons_rise (omega arith) in
    omega (arith, h)

pub few_objects : (p : Problem) (persons objects : List ℕ) → Named p persons objects → length objects ≤ p.persons
few_objects p persons objects n = let h = few_persons p persons objects n in omega (arith, h, n.set.set.fewer)

pub hall_at : (p : Problem) (persons objects choice set : List ℕ) → IsProblem p → Named p persons objects → length persons ≤ length choice → length objects ≤ length set → take (length persons) choice ≡ persons → take (length objects) set ≡ objects → IsHallAt p choice set (length persons) (length objects)
hall_at p persons objects choice set is n persons_in objects_in front back = record {
  problem = is;
  persons_in = persons_in;
  objects_in = objects_in;
  hall = rw (front, back) n.set;
  in_range = rw (front, back) n.in_range;
  shown = rw (front, back) n.shown;
}
