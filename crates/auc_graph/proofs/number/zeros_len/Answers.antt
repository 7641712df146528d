use Rattle.std.proofs.Common.{length, sym, arith}
use Rattle.std.proofs.lemmas.Bool.Decides.{nat_tests}
use Rattle.auc_graph.specs.Numbers.{is_zero}
use Rattle.auc_graph.proofs.TokenLaws.{prefix_len_is}
use Rattle.auc_graph.proofs.number.zeros_len.Goals as goal

pub returns-then-byte-ne48-clause-len : goal.returns-then-byte-ne48-clause-len
returns-then-byte-ne48-clause-len c = sym (prefix_len_is is_zero c.args.bytes.now c.loop-i.i (omega arith) c.loop-i.invariant (λ lt. grind (arith, nat_tests)))

pub returns-clause-len : goal.returns-clause-len
returns-clause-len c = sym (prefix_len_is is_zero c.args.bytes.now (length c.args.bytes.now) (omega arith) (λ k lt. c.loop-i.invariant k (omega arith)) (λ lt. absurd (omega arith)))
