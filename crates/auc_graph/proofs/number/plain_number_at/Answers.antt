use Rattle.std.proofs.Common.{◌≡◌, true, get_or, sym, ◌∙◌, arith}
use Rattle.std.specs.Char.{is_ascii_digit}
use Rattle.std.proofs.lemmas.Int.Digits.{digits_value_more}
use Rattle.auc_graph.proofs.NumberLaws.{value_of_digit, all_and_next, plain_token, plain_end, some_bytes}
use Rattle.auc_graph.proofs.number.plain_number_at.Goals as goal

pub returns-then-is_separator_byte : goal.returns-then-is_separator_byte
returns-then-is_separator_byte c =
    plain_token c.args.bytes.now c.loop-i.value c.loop-i.i c.if-i-gt0.true c.loop-i-test.true c.loop-i.invariant.digits
    (sym c.is_ascii_digit.ensures.value ∙ c.if-not-is_ascii_digit.true) (sym c.is_separator_byte.ensures ∙ c.if-is_separator_byte.true) c.loop-i.invariant.value c.loop-i.invariant.small

pub loop-i-preserved : goal.loop-i-preserved
loop-i-preserved c =
    let digit : is_ascii_digit (get_or c.args.bytes.now c.loop-i.i 0) ≡ true = sym c.is_ascii_digit.ensures.value ∙ c.if-not-is_ascii_digit.false in
    let own = value_of_digit (get_or c.args.bytes.now c.loop-i.i 0) digit in
    let more = digits_value_more 10 c.args.bytes.now c.loop-i.i c.loop-i-test.true in
    record {
      digits = all_and_next c.args.bytes.now c.loop-i.i c.loop-i.invariant.digits digit;
      value = omega (arith, more, own, c.loop-i.invariant.value);
      small = omega (arith, own, c.if-value.false, c.if-not-is_ascii_digit.ensures.cases);
    }

pub returns-else-is_empty : goal.returns-else-is_empty
returns-else-is_empty c =
    plain_end c.args.bytes.now c.loop-i.value c.loop-i.i (some_bytes c.args.bytes.now (sym c.is_empty.ensures ∙ c.if-is_empty.false)) c.loop-i-test.false c.loop-i.auto.i-end c.loop-i.invariant.digits c.loop-i.invariant.value c.loop-i.invariant.small
