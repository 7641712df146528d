use Rattle.std.proofs.Common.{rules, w32, w64}
use Rattle.std.specs.Prelude.{FitsSigned}
use Rattle.std.proofs.lemmas.Int.{to_z-of_z}
use Rattle.sigdorf_c.proofs.sigdorf_check.Goals as goal

pub returns : goal.returns
returns c =
    let fits : FitsSigned w32 c.check_call.result = search rules in
    let cost : FitsSigned w64 c.args.cost = c.ranges.cost in
    record { told = simp to_z-of_z (simp to_z-of_z at c.check_call.ensures.told) }
