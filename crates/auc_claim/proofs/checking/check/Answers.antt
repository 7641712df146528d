use Rattle.std.proofs.Common.{sym, ◌∙◌, w64, rules}
use Rattle.std.specs.Prelude.{FitsSigned}
use Rattle.std.proofs.lemmas.Int.{to_z-of_z}
use Rattle.auc_claim.proofs.checking.check.Goals as goal

pub returns-in-Bracket-clause-exact : goal.returns-in-Bracket-clause-exact
returns-in-Bracket-clause-exact c =
    let low : FitsSigned w64 c.in-Bracket.lower = search rules in
    let fits : FitsSigned w64 c.in-Bracket.cost = search rules in
    rw (sym c.parts.ensures.is ∙ c.in-Bracket.is, ← c.as_slice-in-Bracket.ensures, ← c.as_slice-in-Bracket-2.ensures) (simp to_z-of_z at c.check_bracket.ensures.exact c.in-Bracket.reason)

pub returns-in-Bracket-clause-allowed : goal.returns-in-Bracket-clause-allowed
returns-in-Bracket-clause-allowed c =
    let low : FitsSigned w64 c.in-Bracket.lower = search rules in
    let fits : FitsSigned w64 c.in-Bracket.cost = search rules in
    rw (sym c.parts.ensures.is ∙ c.in-Bracket.is, ← c.as_slice-in-Bracket.ensures) (simp to_z-of_z at c.check_bracket.ensures.allowed c.in-Bracket.reason)
