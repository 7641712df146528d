-- The forms of a certificate's text: their limits, and which claims each of them spells.
use Rattle.std.specs.Prelude.{◌≡◌, ℕ, ◌≤◌, ◌<◌, Bool, true, false, nat_lt, if◌then◌else◌, List, length, ℤ, FitsSigned}
use Rattle.std.specs.Int.{w64}
use Rattle.auc_graph.specs.declared.limits.TheConstants.{MOST_OBJECTS, MOST_PERSONS}
use Rattle.auc_claim.specs.declared.lists.Pick.{Pick}
use Rattle.auc_claim.specs.declared.version.Version.TheVariants.{First, Second}
use Rattle.auc_claim.specs.declared.cert.CertParts.{CertParts}
use Rattle.auc_claim.specs.declared.cert.CertParts.TheVariants.{Optimal, Infeasible, Bracket}
use Rattle.auc_claim.specs.Spelled.{most_persons, most_objects, most_in, version_of_sizes, names_version, least_behind}
use Rattle.auc_claim.specs.Spelled.{AreNamedWithin, IsBracketOf, IsChoiceWithin}
use Rattle.auc_cert.specs.declared.form.Form.{Form}
use Rattle.auc_cert.specs.declared.form.Form.TheVariants.{Usual, Large}

-- whether a text has the number of objects, beside that of persons
abbrev pub has_objects : Form → Bool
has_objects (Usual First) = false
has_objects (Usual Second) = true
has_objects Large = true

-- the most persons that a text of this form numbers, and the most objects that an infeasible one names
abbrev pub persons_in : Form → ℕ
persons_in (Usual version) = most_persons
persons_in Large = MOST_PERSONS

-- the most objects
abbrev pub objects_in : Form → ℕ
objects_in (Usual version) = most_in version
objects_in Large = MOST_OBJECTS

-- the least number of objects that it names: version 2 is for those that name an object above 10,000
abbrev pub least_named : Form → ℕ
least_named (Usual First) = 0
least_named (Usual Second) = 1
least_named Large = 0

-- the least object, counted from 0, that may be the last one named
abbrev pub least_last : Form → ℕ
least_last (Usual First) = 0
least_last (Usual Second) = most_in First
least_last Large = 0

-- the number of objects of a claim: in version 1 as many as persons, in version 2 more, in version 3 any that is enough
abbrev pub AreObjects : Form → ℕ → ℕ → Type 0
AreObjects (Usual First) persons objects = objects ≡ persons
AreObjects (Usual Second) persons objects = (persons < objects) × (objects ≤ most_objects)
AreObjects Large persons objects = (persons ≤ objects) × (objects ≤ MOST_OBJECTS)

-- the picks and prices that a text of this form spells
pub record IsChoiceIn (form : Form) (choice : List Pick) (prices : List ℤ) : Type 0 where
  pub within : IsChoiceWithin (persons_in form) (objects_in form) (objects_in form) choice prices
  pub sizes : AreObjects form (length choice) (length prices)

-- the persons and objects that it names
pub record AreNamedIn (form : Form) (persons objects : List ℕ) : Type 0 where
  pub within : AreNamedWithin (persons_in form) (persons_in form) (objects_in form) persons objects
  pub some : least_named form ≤ length objects
  pub last : 0 < length objects → least_last form < least_behind 0 objects

-- the claim has a text of this form
abbrev pub IsSpelledIn : Form → CertParts → Type 0
IsSpelledIn form (Optimal cost choice prices) = FitsSigned w64 cost × IsChoiceIn form choice prices
IsSpelledIn form (Infeasible persons objects) = AreNamedIn form persons objects
IsSpelledIn form (Bracket reason lower cost choice prices) = IsBracketOf lower cost (IsChoiceIn form choice prices)

-- the form in which a claim is written: version 3 has those that are too large for the others
abbrev pub form_of_sizes : ℕ → ℕ → Form
form_of_sizes picks prices =
    if nat_lt most_persons picks then Large else (if nat_lt most_objects prices then Large else Usual (version_of_sizes picks prices))

abbrev pub form_of_names : List ℕ → List ℕ → Form
form_of_names persons objects =
    if nat_lt most_persons (least_behind 0 persons) then Large else (if nat_lt most_objects (least_behind 0 objects) then Large else Usual (names_version objects))

abbrev pub form_of : CertParts → Form
form_of (Optimal cost choice prices) = form_of_sizes (length choice) (length prices)
form_of (Infeasible persons objects) = form_of_names persons objects
form_of (Bracket reason lower cost choice prices) = form_of_sizes (length choice) (length prices)
