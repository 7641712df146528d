-- A Hall set with exactly the objects of its persons has a certificate, and it passes the checker.
use Rattle.std.proofs.Common.{◌≡◌, ℕ, ◌<◌, List, refl, sym, subst, arith, Contains}
use Rattle.auc_graph.specs.Problem.{Problem, IsProblem, IsWithin}
use Rattle.auc_graph.specs.Table.{Table, IsTableOf}
use Rattle.auc_hall.specs.OfProblem.{IsHallSetOf}
use Rattle.auc_hall.specs.Matching.{IsMatching}
use Rattle.auc_hall.specs.declared.matching.Matching.{Matching}
use Rattle.auc_hall.specs.declared.matching.Matching.TheVariants.{Hall}
use Rattle.auc_hall.proofs.ProblemLaws.{matching_of}
use Rattle.auc_claim.specs.declared.cert.CertParts.{CertParts}
use Rattle.auc_claim.specs.declared.cert.CertParts.TheVariants.{Infeasible}
use Rattle.auc_claim.specs.InRange.{AreNamesInRange}
use Rattle.auc_claim.proofs.HallLaws.{hall_set_in_range}
use Rattle.auc_claim.proofs.ClaimLaws.{hall_sets_faultless}
use Rattle.auc_answers.specs.Answers.{IsCertified, IsHallCertificate}

pub hall_is : (p : Problem) (t : Table) (m : Matching) (persons objects : List ℕ) → IsTableOf p t → IsMatching t m → m ≡ Hall persons objects → IsHallSetOf p persons objects
hall_is p t m persons objects of h is = matching_of p t (Hall persons objects) of (subst (IsMatching t) is h)

known_within : (p : Problem) (persons objects : List ℕ) → IsProblem p → IsHallSetOf p persons objects → (j : ℕ) → Contains objects j → j < p.objects
known_within p persons objects is set j c =
    let a = set.known j c in
    let within : IsWithin p.persons p.objects a.0 = subst (IsWithin p.persons p.objects) a.1.2 (is.within a.1.0 a.0 a.1.1) in
    omega (arith, within.object, a.3)

pub names_in_range : (p : Problem) (persons objects : List ℕ) → IsProblem p → IsHallSetOf p persons objects → AreNamesInRange persons objects
names_in_range p persons objects is set = hall_set_in_range p persons objects is set.set set.persons_rise set.objects_rise (known_within p persons objects is set)

pub hall_set_certified : (p : Problem) (persons objects : List ℕ) → IsProblem p → IsHallSetOf p persons objects → IsCertified p (Infeasible persons objects)
hall_set_certified p persons objects is set = record {
  in_range = names_in_range p persons objects is set;
  faultless = hall_sets_faultless p persons objects set.set (known_within p persons objects is set);
  allowed = set.set;
}

pub is_hall_certificate : (p : Problem) (persons objects : List ℕ) (cert : CertParts) → IsProblem p → IsHallSetOf p persons objects → cert ≡ Infeasible persons objects → IsHallCertificate p cert
is_hall_certificate p persons objects cert is set same =
    let here : IsHallCertificate p (Infeasible persons objects) = record {
      persons = persons;
      objects = objects;
      is = refl;
      set = set;
      certified = hall_set_certified p persons objects is set;
    } in
    subst (IsHallCertificate p) (sym same) here
