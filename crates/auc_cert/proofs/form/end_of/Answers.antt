use Rattle.std.proofs.Common.{length, ◌-◌, arith}
use Rattle.auc_claim.proofs.RisingLaws.{behind_last}
use Rattle.auc_cert.proofs.form.end_of.Goals as goal

pub returns : goal.returns
returns c = omega (arith, c.from.ensures, behind_last 0 c.args.numbers.now (length c.args.numbers.now - 1) 0 (omega (arith, c.if-count-eq0.false)))
