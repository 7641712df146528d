use Rattle.auc_machine.proofs.Bridge.{counted_are_certified}
use Rattle.auc_machine.proofs.laws.counted_holders_pass_the_checker.Goals as goal

pub returns : goal.returns
returns c = counted_are_certified
