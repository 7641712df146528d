use Rattle.std.proofs.Common.{sym, arith}
use Rattle.auc_graph.proofs.NumberLaws.{parted_is_bad}
use Rattle.auc_graph.proofs.number.number_of.Goals as goal

pub returns-then-len-token : goal.returns-then-len-token
returns-then-len-token c = sym (parted_is_bad c.args.token.now (omega (arith, c.number_at-number.ensures.len)))
