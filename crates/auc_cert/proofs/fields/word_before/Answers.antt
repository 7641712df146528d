use Rattle.std.proofs.Common.{sym, arith}
use Rattle.auc_cert.proofs.WordLaws.{word_split, word_nowhere}
use Rattle.auc_cert.proofs.fields.word_before.Goals as goal

pub returns-then-byte-stop : goal.returns-then-byte-stop
returns-then-byte-stop c = word_split c.args.stop c.args.bytes.now c.loop-i.i c.loop-i.invariant c.loop-i-test.true c.if-byte-stop.true

pub returns : goal.returns
returns c = sym (word_nowhere c.args.stop c.args.bytes.now (λ k lt. c.loop-i.invariant k (omega arith)))
