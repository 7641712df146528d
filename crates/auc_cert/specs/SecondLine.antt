-- The second line of a certificate: the kind of the claim, and the number and the shape of the lines that follow.
use Rattle.std.specs.Prelude.{ℕ, ◌≤◌, List, ℤ, FitsSigned}
use Rattle.std.specs.Int.{w64}
use Rattle.auc_cert.specs.declared.form.Form.{Form}
use Rattle.auc_cert.specs.declared.second_line.SecondLine.{SecondLine}
use Rattle.auc_cert.specs.declared.second_line.SecondLine.TheVariants.{Optimal, Infeasible, Bracket}
use Rattle.auc_cert.specs.Form.{AreObjects, least_named, persons_in}
use Rattle.auc_cert.specs.Text.{optimal_line, infeasible_line, bracket_line}
use Rattle.auc_cert.specs.CertReading.{ChoiceLines, NameLines}

-- the second line as bytes
abbrev pub second_line : Form → SecondLine → List ℕ
second_line form (Optimal persons objects cost) = optimal_line form persons objects cost
second_line form (Infeasible persons objects) = infeasible_line persons objects
second_line form (Bracket reason persons objects lower cost) = bracket_line form reason persons objects lower cost

-- the range of the number of persons of a claim
pub record IsCount (form : Form) (n : ℕ) : Type 0 where
  pub some : 1 ≤ n
  pub most : n ≤ persons_in form

-- the numbers of persons and objects of a claim, by the form of its text
pub record AreSizes (form : Form) (persons objects : ℕ) : Type 0 where
  pub count : IsCount form persons
  pub beside : AreObjects form persons objects

-- the numbers of persons and objects that a claim names
pub record AreCounts (form : Form) (persons objects : ℕ) : Type 0 where
  pub some : 1 ≤ persons
  pub most : persons ≤ persons_in form
  pub some_objects : least_named form ≤ objects
  pub few : objects ≤ persons_in form

-- the numbers of the second line of a bracket
pub record AreBracketNumbers (form : Form) (persons objects : ℕ) (lower cost : ℤ) : Type 0 where
  pub sizes : AreSizes form persons objects
  pub lower_fits : FitsSigned w64 lower
  pub cost_fits : FitsSigned w64 cost

-- the numbers of the line are in range
abbrev pub IsSecondLine : Form → SecondLine → Type 0
IsSecondLine form (Optimal persons objects cost) = AreSizes form persons objects × FitsSigned w64 cost
IsSecondLine form (Infeasible persons objects) = AreCounts form persons objects
IsSecondLine form (Bracket reason persons objects lower cost) = AreBracketNumbers form persons objects lower cost

-- the lines that may follow the second line
abbrev pub LinesBehind : Form → SecondLine → List (List ℕ) → Type 0
LinesBehind form (Optimal persons objects cost) = ChoiceLines form persons objects
LinesBehind form (Infeasible persons objects) = NameLines form persons objects
LinesBehind form (Bracket reason persons objects lower cost) = ChoiceLines form persons objects
