use Rattle.std.proofs.Common.{not, ◌&&◌, ◌<◌, length, pos, ap, ◌∙◌}
use Rattle.std.proofs.lemmas.List.Elements.{All-get_or}
use Rattle.auc_claim.specs.Claim.{same_arc}
use Rattle.auc_claim.proofs.FlagLaws.{written, none_yet, missing_own}
use Rattle.auc_claim.proofs.flags.missing_flags.Goals as goal

pub loop-arc-init : goal.loop-arc-init
loop-arc-init c = c.in_ok-flags.ensures.items_if_clones_equal (λ y e. e) ∙ none_yet (λ c a. not (same_arc c a)) 0 c.args.choice.now

pub loop-arc-preserved : goal.loop-arc-preserved
loop-arc-preserved c =
    let his = All-get_or (λ a. a.person < length c.args.choice.now) c.args.arcs.now c.loop-arc.arc-index (record { person = 0; object = 0; cost = pos 0 }) c.loop-arc-test.true c.requires in
    written (λ c a. not (same_arc c a)) missing_own c.args.arcs.now c.loop-arc.arc-index (record { person = 0; object = 0; cost = pos 0 }) c.args.choice.now (record { object = 0; cost = pos 0 }) c.loop-arc.flags.items c.index.result.now c.both.result
    c.loop-arc-test.true his c.loop-arc.invariant c.index.ensures (c.both.ensures ∙ ap (λ b. c.index.result.now && not b) c.is_same-is_other.ensures)
