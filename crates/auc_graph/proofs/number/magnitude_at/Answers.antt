use Rattle.std.proofs.Common.{◌≡◌, ◌+◌, ◌<◌, ◌⊎◌, inl, inr, sym, ap, ◌∙◌, arith, min, Some}
use Rattle.std.specs.Option.{option_map}
use Rattle.auc_graph.specs.declared.number.TheConstants.{LARGEST}
use Rattle.auc_graph.proofs.MagnitudeLaws.{AreParts, parts_read, token_of_parts, none_of_parts, some_of_parts}
use Rattle.auc_graph.proofs.number.magnitude_at.Goals as goal

-- the parts that the code has looked at
then_parts : (c : goal.Then-excess-gt0) → AreParts c.args.bytes.now c.digits_of-value.result.1 c.point_len-point.result c.token_len-excess.result
then_parts c =
    parts_read c.args.bytes.now c.from_place-behind.result.now c.from_place.result.now c.digits_of-value.result.1 c.point_len-point.result c.token_len-excess.result
    c.digits_of-value.ensures.len c.from_place-behind.ensures c.point_len-point.ensures.len c.from_place.ensures c.token_len-excess.ensures.len

else_parts : (c : goal.Else-excess-gt0) → AreParts c.args.bytes.now c.digits_of-value.result.1 c.point_len-point.result c.token_len-excess.result
else_parts c =
    parts_read c.args.bytes.now c.from_place-behind.result.now c.from_place.result.now c.digits_of-value.result.1 c.point_len-point.result c.token_len-excess.result
    c.digits_of-value.ensures.len c.from_place-behind.ensures c.point_len-point.ensures.len c.from_place.ensures c.token_len-excess.ensures.len

pub returns-then-excess-gt0-clause-len : goal.returns-then-excess-gt0-clause-len
returns-then-excess-gt0-clause-len c = sym (token_of_parts c.args.bytes.now c.digits_of-value.result.1 c.point_len-point.result c.token_len-excess.result (then_parts c))

pub returns-then-excess-gt0-clause-value : goal.returns-then-excess-gt0-clause-value
returns-then-excess-gt0-clause-value c =
    let why : (c.digits_of-value.result.1 ≡ 0) ⊎ (0 < c.token_len-excess.result) = elim c.if-excess-gt0.either [
      | inl none ↦ inl none
      | inr some ↦ inr some.1
    ] in
    sym (ap (λ o. option_map (λ n. min n (LARGEST + 1)) o) (none_of_parts c.args.bytes.now c.digits_of-value.result.1 c.point_len-point.result c.token_len-excess.result (then_parts c) why))

pub returns-else-excess-gt0-clause-len : goal.returns-else-excess-gt0-clause-len
returns-else-excess-gt0-clause-len c = sym (token_of_parts c.args.bytes.now c.digits_of-value.result.1 c.point_len-point.result c.token_len-excess.result (else_parts c))

pub returns-else-excess-gt0-clause-value : goal.returns-else-excess-gt0-clause-value
returns-else-excess-gt0-clause-value c =
    let none : c.token_len-excess.result ≡ 0 = omega arith in
    let some : 0 < c.digits_of-value.result.1 = omega arith in
    ap (λ n. Some n) c.digits_of-value.ensures.value
    ∙ sym (ap (λ o. option_map (λ n. min n (LARGEST + 1)) o) (some_of_parts c.args.bytes.now c.digits_of-value.result.1 c.point_len-point.result c.token_len-excess.result (else_parts c) some none))
