-- Which claims have numbers in the range of a problem, whether a text spells them or not.
use Rattle.std.specs.Prelude.{ℕ, List, ℤ, FitsSigned}
use Rattle.std.specs.Int.{w64}
use Rattle.auc_graph.specs.declared.limits.TheConstants.{MOST_OBJECTS, MOST_PERSONS}
use Rattle.auc_claim.specs.declared.lists.Pick.{Pick}
use Rattle.auc_claim.specs.declared.cert.CertParts.{CertParts}
use Rattle.auc_claim.specs.declared.cert.CertParts.TheVariants.{Optimal, Infeasible, Bracket}
use Rattle.auc_claim.specs.Spelled.{AreNamedWithin, IsBracketOf, IsChoiceWithin}

abbrev pub IsChoiceInRange : List Pick → List ℤ → Type 0
IsChoiceInRange choice prices = IsChoiceWithin MOST_PERSONS MOST_OBJECTS MOST_OBJECTS choice prices

abbrev pub AreNamesInRange : List ℕ → List ℕ → Type 0
AreNamesInRange persons objects = AreNamedWithin MOST_PERSONS MOST_PERSONS MOST_OBJECTS persons objects

abbrev pub IsInRange : CertParts → Type 0
IsInRange (Optimal cost choice prices) = FitsSigned w64 cost × IsChoiceInRange choice prices
IsInRange (Infeasible persons objects) = AreNamesInRange persons objects
IsInRange (Bracket reason lower cost choice prices) = IsBracketOf lower cost (IsChoiceInRange choice prices)
