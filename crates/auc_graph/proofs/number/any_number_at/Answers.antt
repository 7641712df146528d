use Rattle.std.proofs.Common.{◌≡◌, ◌+◌, ◌-◌, ◌∙◌, length, take, sym, ap, arith, min}
use Rattle.std.specs.Option.{option_map}
use Rattle.auc_graph.specs.declared.number.TheConstants.{LARGEST}
use Rattle.auc_graph.specs.Numbers.{magnitude, split_sign, signed, sized}
use Rattle.auc_graph.proofs.NumberLaws.{sign_len, sign_text, number_none, number_some}
use Rattle.auc_graph.proofs.number.any_number_at.Goals as goal
use Rattle.auc_graph.proofs.number.any_number_at.Goals.{in-None, in-Some}

pub returns-clause-len : goal.returns-clause-len
returns-clause-len c =
    omega (arith, sign_len c.args.bytes.now c.split_sign_of-negative.result.1.now c.split_sign_of-negative.result.0 c.split_sign_of-negative.ensures.parts, c.magnitude_at-magnitude.ensures.len)

pub returns-clause-number : goal.returns-clause-number
returns-clause-number c =
    let token = take (length c.args.bytes.now - length c.split_sign_of-negative.result.1.now + c.magnitude_at-magnitude.result.1) c.args.bytes.now in
    let text = sign_text c.args.bytes.now c.split_sign_of-negative.result.1.now c.split_sign_of-negative.result.0 c.magnitude_at-magnitude.result.1 c.split_sign_of-negative.ensures.parts in
    let found : c.magnitude_at-magnitude.result.0 ≡ option_map (λ n. min n (LARGEST + 1)) (magnitude (split_sign token).1) =
    c.magnitude_at-magnitude.ensures.value ∙ sym (ap (λ x. option_map (λ n. min n (LARGEST + 1)) (magnitude x.1)) text) in
    elim c.match-magnitude.branch [
      | in-None w ↦ w.number-is ∙ sym (number_none token (sym found ∙ w.in-None.is))
      | in-Some w ↦ w.number-is ∙ w.sized_of-number.ensures ∙ ap (λ b. sized (signed b w.in-Some.magnitude)) (sym (ap (λ x. x.0) text)) ∙ sym (number_some token w.in-Some.magnitude (sym found ∙ w.in-Some.is))
    ]
