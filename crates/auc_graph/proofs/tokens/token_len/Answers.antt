use Rattle.std.proofs.Common.{length, sym, arith}
use Rattle.std.proofs.lemmas.List.Sums.{position_or_len_is}
use Rattle.auc_graph.specs.Tokens.{is_separator}
use Rattle.auc_graph.proofs.tokens.token_len.Goals as goal

pub returns-then-is_separator_byte-clause-len : goal.returns-then-is_separator_byte-clause-len
returns-then-is_separator_byte-clause-len c = sym (position_or_len_is is_separator c.args.bytes.now c.loop-i.i 0 (omega arith) c.loop-i.invariant (λ lt. cc (c.if-is_separator_byte.true, c.is_separator_byte.ensures)))

pub returns-clause-len : goal.returns-clause-len
returns-clause-len c = sym (position_or_len_is is_separator c.args.bytes.now (length c.args.bytes.now) 0 (omega arith) (λ k lt. c.loop-i.invariant k (omega arith)) (λ lt. absurd (omega arith)))
