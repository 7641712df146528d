-- Warm starts: the prices of an old certificate, from which a run may start.
use Rattle.std.specs.Prelude.{◌≡◌, ℕ, ◌^◌, ◌==◌, ◌&&◌, Bool, List, length, All, Option, Some, None, Result, Ok, Err, ℤ, pos, ◌≤ℤ◌, int_lt, if◌then◌else◌}
use Rattle.std.specs.List.{position}
use Rattle.auc_graph.specs.Problem.{Problem}
use Rattle.auc_claim.specs.declared.cert.CertParts.{CertParts}
use Rattle.auc_claim.specs.declared.cert.CertParts.TheVariants.{Optimal, Infeasible, Bracket}
use Rattle.auc_claim.specs.declared.lists.Pick.{Pick}
use Rattle.auc_claim.specs.declared.start_error.StartError.{StartError}
use Rattle.auc_claim.specs.declared.start_error.StartError.TheVariants.{NotSquare, NoPrices, OtherSize, TooHigh}

-- the highest price that a run may start from
abbrev pub highest_start : ℤ
highest_start = pos (2 ^ 60)

abbrev pub is_high : ℤ → Bool
is_high price = int_lt highest_start price

-- the first object whose price is above that
abbrev pub high_price : List ℤ → Option ℕ
high_price prices = position is_high prices

abbrev pub start_unless : List ℤ → Option ℕ → Result (List ℤ) StartError
start_unless prices None = Ok prices
start_unless prices (Some object) = Err (TooHigh object)

-- the prices beside picks, where there are as many of each as persons
abbrev pub start_of_choice : ℕ → List Pick → List ℤ → Result (List ℤ) StartError
start_of_choice persons choice prices =
    if (length choice == persons) && (length prices == persons) then start_unless prices (high_price prices) else Err
    OtherSize

abbrev pub start_of_parts : ℕ → CertParts → Result (List ℤ) StartError
start_of_parts persons (Optimal cost choice prices) = start_of_choice persons choice prices
start_of_parts persons (Infeasible those objects) = Err NoPrices
start_of_parts persons (Bracket reason lower cost choice prices) = start_of_choice persons choice prices

-- The prices of a certificate from which a run on this problem may start, or why it can't start from them. Nothing else
-- of the certificate matters.
abbrev pub start_of : Problem → CertParts → Result (List ℤ) StartError
start_of p cert = if p.objects == p.persons then start_of_parts p.persons cert else Err NotSquare

-- a price from which a run may start
pub record IsStartPrice (price : ℤ) : Type 0 where
  pub low : pos 0 ≤ℤ price
  pub high : price ≤ℤ highest_start

-- start prices of a problem: one such price for each object, and as many objects as persons
pub record AreStart (p : Problem) (prices : List ℤ) : Type 0 where
  pub square : p.objects ≡ p.persons
  pub each : length prices ≡ p.objects
  pub within : All IsStartPrice prices
