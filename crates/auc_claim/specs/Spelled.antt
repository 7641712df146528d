-- Which certificates have a text, and of which version it is.
use Rattle.std.specs.Prelude.{ℕ, ◌≤◌, ◌<◌, ◌^◌, ◌==◌, nat_lt, if◌then◌else◌, List, [], ◌∷◌, ◌+◌, length, All, ℤ, pos, neg_ℤ, ◌≤ℤ◌, FitsSigned}
use Rattle.std.specs.Int.{w64}
use Rattle.auc_graph.specs.Rising.{Rises}
use Rattle.auc_graph.specs.Price.{IsPrice}
use Rattle.auc_claim.specs.declared.lists.Pick.{Pick}
use Rattle.auc_claim.specs.declared.version.Version.{Version}
use Rattle.auc_claim.specs.declared.version.Version.TheVariants.{First, Second}
use Rattle.auc_claim.specs.declared.cert.CertParts.{CertParts}
use Rattle.auc_claim.specs.declared.cert.CertParts.TheVariants.{Optimal, Infeasible, Bracket}

-- the most persons and the most objects that a certificate's text can number
abbrev pub most_persons : ℕ
most_persons = 10000

abbrev pub most_objects : ℕ
most_objects = 20000

-- the most objects that a certificate of each version can number
abbrev pub most_in : Version → ℕ
most_in First = 10000
most_in Second = most_objects

-- the most objects that an infeasible certificate can name
abbrev pub most_named : ℕ
most_named = 10000

-- version 1 spells as many prices as picks, and version 2 all others
abbrev pub version_of_sizes : ℕ → ℕ → Version
version_of_sizes picks prices = if prices == picks then First else Second

abbrev pub choice_version : List Pick → List ℤ → Version
choice_version choice prices = version_of_sizes (length choice) (length prices)

-- the least number that may follow a rising list; counted from 1, it is the number of the last object
abbrev pub least_behind : ℕ → List ℕ → ℕ
least_behind least [] = least
least_behind least (k ∷ numbers) = least_behind (k + 1) numbers

-- the version of a list of objects: 1 where the last one is at most 10,000, counted from 1, else 2
abbrev pub names_version : List ℕ → Version
names_version objects = if nat_lt (most_in First) (least_behind 0 objects) then Second else First

abbrev pub IsBelow : ℕ → ℕ → Type 0
IsBelow end k = k < end

-- a pick whose object is below this number, with a cost in range
pub record IsPick (most : ℕ) (p : Pick) : Type 0 where
  pub object : p.object < most
  pub low : neg_ℤ (pos (10 ^ 9)) ≤ℤ p.cost
  pub high : p.cost ≤ℤ pos (10 ^ 9)

-- A pick for each person and a price for each object, at most so many of each; a pick's object is below the last number.
-- There may be more objects than persons.
pub record IsChoiceWithin (persons objects object : ℕ) (choice : List Pick) (prices : List ℤ) : Type 0 where
  pub some : 1 ≤ length choice
  pub most : length choice ≤ persons
  pub enough : length choice ≤ length prices
  pub few : length prices ≤ objects
  pub picks : All (IsPick object) choice
  pub fair : All IsPrice prices

-- at least one person is named and no more objects than `most`, and both lists rise below their ends
pub record AreNamedWithin (most end_of_persons end_of_objects : ℕ) (persons objects : List ℕ) : Type 0 where
  pub some : 1 ≤ length persons
  pub few : length objects ≤ most
  pub persons_rise : Rises 0 end_of_persons persons
  pub objects_rise : Rises 0 end_of_objects objects

abbrev pub IsChoice : List Pick → List ℤ → Type 0
IsChoice choice prices = IsChoiceWithin most_persons most_objects (most_in (choice_version choice prices)) choice prices

abbrev pub AreNamed : List ℕ → List ℕ → Type 0
AreNamed persons objects = AreNamedWithin most_named most_persons most_objects persons objects

-- a bracket of two 64-bit numbers, whose picks and prices are such a choice
pub record IsBracketOf (lower cost : ℤ) (Choice : Type 0) : Type 0 where
  pub lower_fits : FitsSigned w64 lower
  pub cost_fits : FitsSigned w64 cost
  pub choice : Choice

-- the certificate has a text: its numbers are in range, and its lists have the sizes and the order of the format
abbrev pub IsSpelled : CertParts → Type 0
IsSpelled (Optimal cost choice prices) = FitsSigned w64 cost × IsChoice choice prices
IsSpelled (Infeasible persons objects) = AreNamed persons objects
IsSpelled (Bracket reason lower cost choice prices) = IsBracketOf lower cost (IsChoice choice prices)
