use Rattle.std.proofs.Common.{◌&&◌, length, pos, ap, ◌∙◌}
use Rattle.std.proofs.lemmas.List.Elements.{All-get_or}
use Rattle.auc_graph.specs.Problem.{IsWithin}
use Rattle.auc_claim.specs.Claim.{is_slack_beside}
use Rattle.auc_claim.proofs.FlagLaws.{written, none_yet, slack_beside_own}
use Rattle.auc_claim.proofs.flags.slack_flags.Goals as goal

pub loop-arc-init : goal.loop-arc-init
loop-arc-init c = c.in_ok-flags.ensures.items_if_clones_equal (λ y e. e) ∙ none_yet (is_slack_beside c.args.scale c.args.prices.now) 0 c.args.choice.now

pub loop-arc-preserved : goal.loop-arc-preserved
loop-arc-preserved c =
    let within = All-get_or (IsWithin (length c.args.choice.now) (length c.args.prices.now)) c.args.arcs.now c.loop-arc.arc-index (record { person = 0; object = 0; cost = pos 0 }) c.loop-arc-test.true c.requires.arcs in
    written (is_slack_beside c.args.scale c.args.prices.now) (slack_beside_own c.args.scale c.args.prices.now) c.args.arcs.now c.loop-arc.arc-index (record { person = 0; object = 0; cost = pos 0 }) c.args.choice.now (record { object = 0; cost = pos 0 }) c.loop-arc.flags.items c.index.result.now c.both.result
    c.loop-arc-test.true within.person c.loop-arc.invariant c.index.ensures (c.both.ensures ∙ ap (λ b. c.index.result.now && b) c.is_slack_beside_arc-is_fine.ensures)
