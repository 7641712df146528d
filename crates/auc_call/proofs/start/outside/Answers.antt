use Rattle.std.proofs.Common.{pos, get_or, rules, sym, ◌∙◌, arith, w64}
use Rattle.std.specs.Prelude.{FitsSigned}
use Rattle.std.proofs.lemmas.Int.{to_z-of_z}
use Rattle.auc_call.specs.Start.{is_outside}
use Rattle.auc_claim.proofs.ClaimLaws.{place_is, no_place}
use Rattle.auc_call.proofs.start.outside.Goals as goal

pub returns-then-is_outside : goal.returns-then-is_outside
returns-then-is_outside c =
    let fits : FitsSigned w64 (get_or c.args.prices.now c.loop-object.object (pos 0)) = search rules in
    place_is is_outside c.args.prices.now c.loop-object.object (pos 0) (omega arith) c.loop-object.invariant (sym (simp to_z-of_z at c.is_outside.ensures) ∙ c.if-is_outside.true)

pub returns : goal.returns
returns c = no_place is_outside c.args.prices.now (pos 0) (λ k lt. c.loop-object.invariant k (omega arith))
