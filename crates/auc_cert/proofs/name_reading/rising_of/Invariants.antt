use Rattle.auc_cert.proofs.RisingRuns.{HasRead}
use Rattle.auc_cert.proofs.name_reading.rising_of.Given as goal

abbrev pub invariant-loop-done : goal.invariant-loop-done
invariant-loop-done l = HasRead l.front l.most l.last l.count l.done l.bytes l.numbers.items l.rest l.least
