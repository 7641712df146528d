use Rattle.std.proofs.Common.{◌≡◌, ◌<◌, ◌⊎◌, length, ap, arith, inl, inr, ◌∙◌, drop}
use Rattle.std.proofs.lemmas.Bool.Decides.{nat_tests}
use Rattle.std.specs.Prelude.{nat_lt}
use Rattle.auc_graph.specs.Numbers.{fraction_len}
use Rattle.auc_graph.proofs.AlikeLaws.{alike_bad, alike_digits, sign_is_short}
use Rattle.auc_graph.proofs.unfinished.unfinished_of.Goals as goal

pub returns-then-point-behind-clause-alike : goal.returns-then-point-behind-clause-alike
returns-then-point-behind-clause-alike c =
    let u = c.split_sign_of-negative.result.1.now in
    let behind = c.from_place-behind.ensures in
    let f : c.point_len-point.result ≡ fraction_len (drop c.digits_of-value.result.1 u) = c.point_len-point.ensures.len ∙ ap fraction_len behind in
    let why : (c.digits_of-value.result.1 ≡ 0) ⊎ (c.point_len-point.result < length (drop c.digits_of-value.result.1 u)) = elim c.if-point-behind.either [
      | inl none ↦ inl none
      | inr some ↦ inr (omega (arith, some.1, ap length behind))
    ] in
    alike_bad c.args.token.now u c.split_sign_of-negative.result.0 c.digits_of-value.result.1 c.point_len-point.result (omega (arith, c.requires)) (omega (arith, c.requires, sign_is_short c.args.token.now c.split_sign_of-negative.result.0 u c.split_sign_of-negative.ensures.parts))
    c.split_sign_of-negative.ensures.parts c.digits_of-value.ensures.len f why

pub returns-else-point-behind-clause-alike : goal.returns-else-point-behind-clause-alike
returns-else-point-behind-clause-alike c =
    let u = c.split_sign_of-negative.result.1.now in
    let behind = c.from_place-behind.ensures in
    let f : c.point_len-point.result ≡ fraction_len (drop c.digits_of-value.result.1 u) = c.point_len-point.ensures.len ∙ ap fraction_len behind in
    alike_digits c.args.token.now u c.split_sign_of-negative.result.0 (nat_lt 0 c.point_len-point.result) c.digits_of-value.result.1 c.point_len-point.result c.digits_of-value.result.0 (omega (arith, c.requires))
    c.split_sign_of-negative.ensures.parts c.digits_of-value.ensures.len (omega (arith, c.if-point-behind.false)) c.digits_of-value.ensures.value f (omega (arith, c.if-point-behind.false, ap length behind))
    (λ e. grind (arith, nat_tests)) (λ e. grind (arith, nat_tests))
