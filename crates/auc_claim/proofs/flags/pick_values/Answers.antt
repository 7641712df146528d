use Rattle.std.proofs.Common.{◌≡◌, ◌∷◌, [], ◌++◌, take, List, pos, get_or, w64, rules, ap, sym, ◌∙◌}
use Rattle.std.specs.Prelude.{ℤ, map, ◌+ℤ◌, ◌*ℤ◌, FitsSigned}
use Rattle.std.proofs.lemmas.Int.{to_z-of_z}
use Rattle.std.proofs.lemmas.List.{take_more, map-append}
use Rattle.auc_claim.specs.Claim.{pick_value}
use Rattle.auc_claim.proofs.SlackLaws.{no_pick}
use Rattle.auc_claim.proofs.flags.pick_values.Goals as goal

pub loop-pick-preserved : goal.loop-pick-preserved
loop-pick-preserved c =
    let f = pick_value c.args.scale c.args.prices.now in
    let picks = c.args.choice.now in
    let i = c.loop-pick.pick-index in
    let p = get_or picks i no_pick in
    let f1 : FitsSigned w64 p.cost = search rules in
    let f2 : FitsSigned w64 c.price_of.result = search rules in
    let g : FitsSigned w64 c.small_value.result = search rules in
    let is : c.small_value.result ≡ f p = (simp to_z-of_z at c.small_value.ensures.is) ∙ ap (λ (z : ℤ). pos c.args.scale *ℤ p.cost +ℤ z) c.price_of.ensures.is in
    (simp to_z-of_z at c.in_ok-push.ensures.items) ∙ ap (λ (zs : List ℤ). zs ++ c.small_value.result ∷ []) c.loop-pick.invariant ∙ ap (λ (z : ℤ). map f (take i picks) ++ z ∷ []) is
    ∙ sym (ap (map f) (take_more picks i no_pick c.loop-pick-test.true) ∙ map-append f (take i picks) (p ∷ []))
