use Rattle.std.proofs.Common.{length, sym, arith}
use Rattle.auc_graph.specs.Tokens.{is_separator}
use Rattle.auc_graph.proofs.TokenLaws.{prefix_len_is}
use Rattle.auc_graph.proofs.tokens.separators_len.Goals as goal

pub returns-then-not-is_separator_byte-clause-len : goal.returns-then-not-is_separator_byte-clause-len
returns-then-not-is_separator_byte-clause-len c = sym (prefix_len_is is_separator c.args.bytes.now c.loop-i.i (omega arith) c.loop-i.invariant (λ lt. cc (c.if-not-is_separator_byte.true, c.is_separator_byte.ensures)))

pub returns-clause-len : goal.returns-clause-len
returns-clause-len c = sym (prefix_len_is is_separator c.args.bytes.now (length c.args.bytes.now) (omega arith) (λ k lt. c.loop-i.invariant k (omega arith)) (λ lt. absurd (omega arith)))
