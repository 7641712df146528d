use Rattle.std.proofs.Common.{◌≡◌, not, ◌&&◌, List, All, length, take, pos, get_or, sym, ap, subst, ◌∙◌, arith, rules, w64}
use Rattle.std.specs.Prelude.{ℤ, ◌+ℤ◌, int_le, FitsSigned}
use Rattle.std.proofs.lemmas.Int.{to_z-of_z}
use Rattle.std.proofs.lemmas.List.{take_all, get_or-map}
use Rattle.std.proofs.lemmas.List.Elements.{All-get_or}
use Rattle.auc_graph.specs.Problem.{IsWithin}
use Rattle.auc_graph.specs.declared.arc.Arc.{Arc}
use Rattle.auc_graph.specs.Dual.{arc_value}
use Rattle.auc_claim.specs.Claim.{same_arc, is_missing, chosen, pick_value, AreFlags}
use Rattle.auc_claim.proofs.ClaimLaws.{from_flags, some_length}
use Rattle.auc_claim.proofs.FlagLaws.{written, none_yet, missing_own}
use Rattle.auc_claim.proofs.SlackLaws.{IsNear, no_arc, no_pick, near_more, near_is_right}
use Rattle.auc_claim.proofs.flags.first_look.Goals as goal

pub loop-arc-init : goal.loop-arc-init
loop-arc-init c = record {
  missing = c.in_ok-missing.ensures.items_if_clones_equal (λ y e. e) ∙ none_yet (λ c a. not (same_arc c a)) 0 c.args.choice.now;
  slack = λ _ k d lt. absurd (omega arith);
}

pub loop-arc-preserved : goal.loop-arc-preserved
loop-arc-preserved c =
    let within = All-get_or (IsWithin (length c.args.choice.now) (length c.args.prices.now)) c.args.arcs.now c.loop-arc.arc-index no_arc c.loop-arc-test.true c.requires.arcs in
    let held = c.index-in-loop-arc.result.now in
    let fits : FitsSigned w64 held = search rules in
    let near = simp to_z-of_z at c.is_near.ensures in
    let value : held ≡ pick_value c.args.scale c.args.prices.now (get_or c.args.choice.now (get_or c.args.arcs.now c.loop-arc.arc-index no_arc).person no_pick) =
    c.index-in-loop-arc.ensures ∙ ap (λ (zs : List ℤ). get_or zs (get_or c.args.arcs.now c.loop-arc.arc-index no_arc).person held) c.in_ok-values.ensures
    ∙ get_or-map (pick_value c.args.scale c.args.prices.now) c.args.choice.now (get_or c.args.arcs.now c.loop-arc.arc-index no_arc).person no_pick held within.person in
    record {
      missing = written (λ c a. not (same_arc c a)) missing_own c.args.arcs.now c.loop-arc.arc-index no_arc c.args.choice.now no_pick c.loop-arc.missing.items c.index.result.now c.both.result
          c.loop-arc-test.true within.person c.loop-arc.invariant.missing c.index.ensures (c.both.ensures ∙ ap (λ b. c.index.result.now && not b) c.is_same-is_other.ensures);
      slack = near_more c.args.scale c.args.prices.now c.args.choice.now c.args.arcs.now c.loop-arc.arc-index c.loop-arc.is_slack c.is_near.result c.both-is_slack.result c.loop-arc-test.true c.loop-arc.invariant.slack c.both-is_slack.ensures
          (near ∙ ap (λ (z : ℤ). int_le z (arc_value c.args.scale c.args.prices.now (get_or c.args.arcs.now c.loop-arc.arc-index no_arc) +ℤ pos 1)) value);
    }

pub first_person-requires : goal.first_person-requires
first_person-requires c =
    omega (arith, some_length (is_missing (take c.loop-arc.arc-index c.args.arcs.now)) 0 c.args.choice.now c.as_slice.result.now c.loop-arc.missing.items c.as_slice.ensures.value c.loop-arc.invariant.missing, c.requires.choice.most)

pub returns-clause-missing : goal.returns-clause-missing
returns-clause-missing c =
    let all : take c.loop-arc.arc-index c.args.arcs.now ≡ c.args.arcs.now = take_all c.loop-arc.arc-index c.args.arcs.now (omega arith) in
    sym (from_flags (is_missing c.args.arcs.now) (chosen 0 c.args.choice.now) c.as_slice.result.now c.loop-arc.missing.items c.first_person.result c.as_slice.ensures.value
    (subst (λ (xs : List Arc). AreFlags (is_missing xs) c.args.choice.now c.loop-arc.missing.items) all c.loop-arc.invariant.missing) c.first_person.ensures)

pub returns-clause-slack : goal.returns-clause-slack
returns-clause-slack c = λ h.
    let all : take c.loop-arc.arc-index c.args.arcs.now ≡ c.args.arcs.now = take_all c.loop-arc.arc-index c.args.arcs.now (omega arith) in
    near_is_right c.args.scale c.args.prices.now c.args.choice.now c.args.arcs.now (subst (All (IsNear c.args.scale c.args.prices.now c.args.choice.now)) all (c.loop-arc.invariant.slack h))
