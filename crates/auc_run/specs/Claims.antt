-- The claim that the certificate of a job spells, or the first line at which it is none.
use Rattle.std.specs.Prelude.{◌≡◌, ℕ, Bool, true, false, List}
use Rattle.auc_claim.specs.declared.cert.CertParts.{CertParts}
use Rattle.auc_claim.specs.Spelled.{IsSpelled}
use Rattle.auc_cert.specs.Text.{text}
use Rattle.auc_cert.specs.CertReading.{CertLines, IsFirstBadLine, IsFirstBadOf, IsTextOf}

-- the claim that a certificate spells
pub record IsClaimOf (cert : List ℕ) (c : CertParts) : Type 0 where
  pub spelled : IsSpelled c
  pub text : cert ≡ text c

-- the same, in any version where the problem may be large
abbrev pub IsClaimFor : Bool → List ℕ → CertParts → Type 0
IsClaimFor true cert c = IsTextOf true cert c
IsClaimFor false cert c = IsClaimOf cert c

-- the first line at which it is no certificate
abbrev pub IsBadLineFor : Bool → List ℕ → ℕ → Type 0
IsBadLineFor true cert k = IsFirstBadOf (CertLines true) cert k
IsBadLineFor false cert k = IsFirstBadLine cert k
