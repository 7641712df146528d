use Rattle.std.proofs.Common.{◌<◌, length, get_or, arith}
use Rattle.std.proofs.lemmas.Int.Digits.{digits_value_more}
use Rattle.auc_graph.proofs.NumberLaws.{value_of_digit, all_and_next, plain_token}
use Rattle.auc_graph.proofs.ShortLaws.{tens_up}
use Rattle.std.proofs.lemmas.Grind.{pow_more}
use Rattle.auc_graph.proofs.front.short_number_at.Goals as goal

pub returns-then-is_among : goal.returns-then-is_among
returns-then-is_among c =
    let lt : c.loop-i.i < 8 = omega (arith, c.loop-i-test.true, c.fits-bytes) in (
      lt,
      omega (arith, c.loop-i.invariant.small, tens_up c.loop-i.i 7 (omega arith)),
      plain_token c.args.bytes.now c.loop-i.value c.loop-i.i c.if-i-gt0.true (omega (arith, lt, c.fits-bytes)) c.loop-i.invariant.digits
          (c.digit_of-digit.ensures.other c.if-digit-gt9.true) (c.is_among.ensures c.if-is_among.true) c.loop-i.invariant.value (omega (arith, c.loop-i.invariant.small, tens_up c.loop-i.i 7 (omega arith))),
    )

pub overflow_mul-value : goal.overflow_mul-value
overflow_mul-value c =
    let lt : c.loop-i.i < 8 = omega (arith, c.loop-i-test.true, c.fits-bytes) in
    omega (arith, c.loop-i.invariant.small, tens_up c.loop-i.i 7 (omega arith))

pub overflow_add-value : goal.overflow_add-value
overflow_add-value c =
    let lt : c.loop-i.i < 8 = omega (arith, c.loop-i-test.true, c.fits-bytes) in
    omega (arith, c.loop-i.invariant.small, tens_up c.loop-i.i 7 (omega arith), c.if-digit-gt9.false)

pub loop-i-preserved : goal.loop-i-preserved
loop-i-preserved c =
    let told = c.digit_of-digit.ensures.digit c.if-digit-gt9.false in
    let within : c.loop-i.i < length c.args.bytes.now = omega (arith, c.loop-i-test.true, c.fits-bytes) in
    let own = value_of_digit (get_or c.args.bytes.now c.loop-i.i 0) told.0 in
    let more = digits_value_more 10 c.args.bytes.now c.loop-i.i within in
    record {
      digits = all_and_next c.args.bytes.now c.loop-i.i c.loop-i.invariant.digits told.0;
      value = omega (arith, more, own, told.1, c.loop-i.invariant.value);
      small = omega (arith, c.if-digit-gt9.false, c.loop-i.invariant.small, pow_more 10 c.loop-i.i);
    }
