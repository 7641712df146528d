use Rattle.std.proofs.Common.{rules, w64}
use Rattle.std.specs.Prelude.{FitsSigned as SFits}
use Rattle.std.proofs.lemmas.Int.{to_z-of_z}
use Rattle.auc_cert.proofs.writing.write_cert.Goals as goal

pub returns-in-Optimal : goal.returns-in-Optimal
returns-in-Optimal g c =
    let fits : SFits w64 c.in-Optimal.cost = search rules in
    rw (← c.parts.ensures.is, c.in-Optimal.is) (rw (c.as_slice.ensures, c.as_slice-in-Optimal.ensures) at (simp to_z-of_z at c.write_optimal.ensures))

pub returns-in-Infeasible : goal.returns-in-Infeasible
returns-in-Infeasible g c =
    rw (← c.parts.ensures.is, c.in-Infeasible.is) (rw (c.as_slice-in-Infeasible.ensures, c.as_slice-in-Infeasible-2.ensures) at c.write_infeasible.ensures)

pub returns-in-Bracket : goal.returns-in-Bracket
returns-in-Bracket g c =
    let low : SFits w64 c.in-Bracket.lower = search rules in
    let fits : SFits w64 c.in-Bracket.cost = search rules in
    rw (← c.parts.ensures.is, c.in-Bracket.is) (rw (c.as_slice-in-Bracket.ensures, c.as_slice-in-Bracket-2.ensures) at (simp to_z-of_z at c.write_bracket.ensures))
