use Rattle.std.proofs.Common.{rules, w64}
use Rattle.std.specs.Prelude.{FitsSigned as SFits}
use Rattle.std.proofs.lemmas.Int.{to_z-of_z}
use Rattle.auc_run.proofs.lines.write_optimal.Goals as goal

pub returns : goal.returns
returns g c =
    let cost_fits : SFits w64 c.args.cost = search rules in
    simp to_z-of_z at c.write_parts.ensures
