use Rattle.std.proofs.Common.{◌∙◌, Some, ap, sym, w64}
use Rattle.std.specs.Prelude.{FitsSigned}
use Rattle.std.proofs.lemmas.Int.{to_z-of_z}
use Rattle.auc_machine.proofs.ListLaws.{left_for}
use Rattle.auc_world.proofs.PhaseLaws.{comes_to_no_guard, comes_to_no_stall, comes_to_sale, comes_to_stop, is_reached}
use Rattle.auc_world.proofs.solving.play_world.Goals as goal

pub returns-in-Some-All-clause-comes : goal.returns-in-Some-All-clause-comes
returns-in-Some-All-clause-comes c =
    let fits : FitsSigned w64 c.args.eps = c.ranges.eps in
    let made = c.in_ok-world.ensures in
    let same = simp to_z-of_z at made.phase in
    comes_to_sale c.args.rows.now c.args.limits.now c.args.prices.now c.args.eps c.make_with.ensures.table c.requires.arcs c.in_ok-world.world c.run.new.self (simp to_z-of_z at made.made) same made.lawful made.starts c.run.ensures.rounds c.run.ensures.phase c.in_ok-gathered-in-Some-All.gathered (sym c.in-Some-All.ensures.end ∙ ap Some c.in-Some-All.field-0-is)
    c.in_ok-gathered-in-Some-All.ensures.gathered c.in_ok-gathered-in-Some-All.ensures.range

pub returns-in-Ok-clause-comes : goal.returns-in-Ok-clause-comes
returns-in-Ok-clause-comes c =
    let fits : FitsSigned w64 c.args.eps = c.ranges.eps in
    let made = c.in_ok-world.ensures in
    let same = simp to_z-of_z at made.phase in
    comes_to_stop c.args.rows.now c.args.limits.now c.args.prices.now c.args.eps c.make_with.ensures.table c.requires.arcs c.in_ok-world.world c.run.new.self (simp to_z-of_z at made.made) same made.lawful made.starts c.run.ensures.rounds c.run.ensures.phase c.in-Some-Stopped.why c.in-Ok.reason
    c.in_ok-gathered-in-Ok.gathered (sym c.in-Ok.ensures) (sym c.in-Some-Stopped.ensures.end ∙ ap Some c.in-Some-Stopped.field-0-is) c.in_ok-gathered-in-Ok.ensures.gathered c.in_ok-gathered-in-Ok.ensures.range

pub returns-in-Some-Stopped-clause-comes : goal.returns-in-Some-Stopped-clause-comes
returns-in-Some-Stopped-clause-comes c =
    let fits : FitsSigned w64 c.args.eps = c.ranges.eps in
    let made = c.in_ok-world.ensures in
    let same = simp to_z-of_z at made.phase in
    comes_to_no_guard c.args.rows.now c.args.limits.now c.args.prices.now c.args.eps c.make_with.ensures.table c.requires.arcs c.in_ok-world.world c.run.new.self (simp to_z-of_z at made.made) same made.lawful made.starts c.run.ensures.rounds c.run.ensures.phase c.in-Some-Stopped.why c.in-Err.guard (sym c.in-Err.ensures) (sym c.in-Some-Stopped.ensures.end ∙ ap Some c.in-Some-Stopped.field-0-is)

pub returns-clause-comes : goal.returns-clause-comes
returns-clause-comes c =
    let fits : FitsSigned w64 c.args.eps = c.ranges.eps in
    let made = c.in_ok-world.ensures in
    let same = simp to_z-of_z at made.phase in
    absurd (comes_to_no_stall c.args.rows.now c.args.limits.now c.args.prices.now c.args.eps c.make_with.ensures.table c.requires.arcs c.in_ok-world.world c.run.new.self (simp to_z-of_z at made.made) same made.lawful made.starts c.run.ensures.rounds c.run.ensures.phase (sym c.in-None.ensures.end) c.in-None.ensures.rests)

pub returns-in-Some-All-clause-kept : goal.returns-in-Some-All-clause-kept
returns-in-Some-All-clause-kept c =
    let fits : FitsSigned w64 c.args.eps = c.ranges.eps in
    let same = c.run.ensures.phase ∙ simp to_z-of_z at c.in_ok-world.ensures.phase in
    let made = c.in_ok-world.ensures in
    let begins = simp to_z-of_z at made.phase in
    let reached = is_reached c.args.rows.now c.args.limits.now c.args.prices.now c.args.eps c.make_with.ensures.table c.requires.arcs c.in_ok-world.world c.run.new.self (simp to_z-of_z at made.made) begins made.lawful made.starts c.run.ensures.rounds c.run.ensures.phase in
    left_for c.args.rows.now c.args.limits.now.shards c.args.eps c.run.new.self c.in_ok-gathered-in-Some-All.gathered.holders.items c.in_ok-gathered-in-Some-All.gathered.prices.items _ c.into_bidders.ensures.sound same reached c.in_ok-gathered-in-Some-All.ensures.gathered c.into_bidders.ensures.kept
