use Rattle.std.proofs.Common.{◌≡◌, true, length, get_or, sym, ◌∙◌, arith}
use Rattle.std.specs.Char.{is_ascii_digit}
use Rattle.std.proofs.lemmas.Int.Digits.{digits_value_more}
use Rattle.auc_graph.proofs.TokenLaws.{prefix_len_is}
use Rattle.auc_graph.proofs.NumberLaws.{value_of_digit, all_and_next}
use Rattle.auc_graph.proofs.number.digits_of.Goals as goal

pub returns-then-not-is_ascii_digit-clause-len : goal.returns-then-not-is_ascii_digit-clause-len
returns-then-not-is_ascii_digit-clause-len c =
    sym (prefix_len_is is_ascii_digit c.args.bytes.now c.loop-i.i (omega arith) c.loop-i.invariant.digits (λ lt. sym c.is_ascii_digit.ensures.value ∙ c.if-not-is_ascii_digit.true))

pub loop-i-preserved : goal.loop-i-preserved
loop-i-preserved c =
    let digit : is_ascii_digit (get_or c.args.bytes.now c.loop-i.i 0) ≡ true = sym c.is_ascii_digit.ensures.value ∙ c.if-not-is_ascii_digit.false in
    let own = value_of_digit (get_or c.args.bytes.now c.loop-i.i 0) digit in
    let more = digits_value_more 10 c.args.bytes.now c.loop-i.i c.loop-i-test.true in
    record {
      digits = all_and_next c.args.bytes.now c.loop-i.i c.loop-i.invariant.digits digit;
      value = omega (arith, more, own, c.loop-i.invariant.value, c.min-value.ensures);
    }

pub returns-clause-len : goal.returns-clause-len
returns-clause-len c = sym (prefix_len_is is_ascii_digit c.args.bytes.now (length c.args.bytes.now) (omega arith) (λ k lt. c.loop-i.invariant.digits k (omega arith)) (λ lt. absurd (omega arith)))
