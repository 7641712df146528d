use Rattle.std.proofs.Common.{w64}
use Rattle.std.specs.Prelude.{FitsSigned}
use Rattle.std.proofs.lemmas.Int.{to_z-of_z}
use Rattle.auc_machine.proofs.Made.{made_lawful, made_starts}
use Rattle.auc_machine.proofs.world.World.make_with.Goals as goal

pub returns-clause-lawful : goal.returns-clause-lawful
returns-clause-lawful c =
    let fits : FitsSigned w64 c.args.eps = c.ranges.eps in
    let made = simp to_z-of_z at c.in_ok-world.ensures.made in
    made_lawful c.args.rows.now c.args.limits.now c.args.prices.now c.args.eps _ made c.assemble.ensures.table c.requires.limits c.requires.prices c.requires.eps

pub returns-clause-starts : goal.returns-clause-starts
returns-clause-starts c =
    let fits : FitsSigned w64 c.args.eps = c.ranges.eps in
    let made = simp to_z-of_z at c.in_ok-world.ensures.made in
    made_starts c.args.rows.now c.args.limits.now c.args.prices.now c.args.eps _ made c.assemble.ensures.table c.requires.limits c.requires.prices c.requires.eps
