use Rattle.std.proofs.Common.{◌≡◌, pos, sym, ap, ◌∙◌, arith, w64, to_z}
use Rattle.std.proofs.lemmas.Int.{to_z_pos}
use Rattle.auc_graph.specs.declared.number.Number.TheVariants.{Value}
use Rattle.auc_graph.proofs.NumberLaws.{number_of_plain}
use Rattle.auc_graph.proofs.number.number_at.Goals as goal

pub returns-in-Some-clause-number : goal.returns-in-Some-clause-number
returns-in-Some-clause-number c =
    let same : to_z w64 c.in-Some.value ≡ pos c.in-Some.value = to_z_pos w64 c.in-Some.value (omega (arith, c.in-Some.ensures.small)) in
    ap (λ z. Value z) same ∙ sym (number_of_plain c.args.bytes.now c.in-Some.value c.in-Some.len c.in-Some.ensures)
