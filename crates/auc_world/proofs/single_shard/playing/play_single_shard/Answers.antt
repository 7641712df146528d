use Rattle.std.proofs.Common.{◌≡◌, ◌<◌, length, set, ap, sym, subst, ◌∙◌, arith, w64}
use Rattle.std.specs.Prelude.{FitsSigned}
use Rattle.std.proofs.lemmas.Int.{to_z-of_z}
use Rattle.auc_persons.specs.Candidates.{Kept}
use Rattle.auc_world.specs.SingleState.{SingleState}
use Rattle.auc_world.specs.SinglePhase.{Given, IsGoing}
use Rattle.auc_machine.specs.Lists.{MayKeep}
use Rattle.auc_world.specs.Phases.{ComesOf}
use Rattle.auc_world.specs.declared.solving.Outcome.{Outcome}
use Rattle.auc_world.proofs.SingleEnds.{begins, comes, comes_to_stop, left}
use Rattle.auc_world.proofs.single_shard.playing.play_single_shard.Goals as goal

pub run-world-requires-clause-going : goal.run-world-requires-clause-going
run-world-requires-clause-going c = subst (IsGoing c.new-task.result) (sym c.in_ok-begun.ensures) (begins c.new-task.result c.new-task.ensures.given)

pub run-world-requires-clause-kept : goal.run-world-requires-clause-kept
run-world-requires-clause-kept c =
    let fits : FitsSigned w64 c.args.eps = c.ranges.eps in
    let is : c.new-task.result ≡ record { table = c.args.rows.now; limits = c.args.limits.now; prices = c.args.prices.now; eps = c.args.eps } = simp to_z-of_z at c.new-task.ensures.is in
    let one = c.requires.single_shard.one in
    let many = c.requires.kept.many in
    let there : 0 < length c.args.bidders.now.items = omega (arith, one, many) in
    let list = c.index_mut-bidder.result.now in
    let first : Kept c.args.rows.now c.args.prices.now list = subst (Kept c.args.rows.now c.args.prices.now) (sym c.index_mut-bidder.ensures.value) (c.requires.kept.each 0 list there) in
    let given : Kept c.new-task.result.table c.new-task.result.prices list = subst (λ (x : Given). Kept x.table x.prices list) (sym is) first in
    subst (λ (s : SingleState). Kept c.new-task.result.table s.copies list) (sym c.in_ok-begun.ensures) given

pub returns-in-None-clause-comes : goal.returns-in-None-clause-comes
returns-in-None-clause-comes c =
    let fits : FitsSigned w64 c.args.eps = c.ranges.eps in
    let is : c.new-task.result ≡ record { table = c.args.rows.now; limits = c.args.limits.now; prices = c.args.prices.now; eps = c.args.eps } = simp to_z-of_z at c.new-task.ensures.is in
    let e = c.in_ok-gathered.ensures in
    let going = rw c.in-None.is at c.run-world.ensures.going in
    let done = rw c.in-None.is at c.run-world.ensures.done in
    subst (λ (x : Given). ComesOf x.table x.limits x.prices x.eps (Outcome.Sold c.in_ok-gathered.gathered)) is
    (comes c.new-task.result c.run-world.result.world going done c.in_ok-gathered.gathered e.holders e.prices)

pub returns-in-None-clause-kept : goal.returns-in-None-clause-kept
returns-in-None-clause-kept c =
    let fits : FitsSigned w64 c.args.eps = c.ranges.eps in
    let is : c.new-task.result ≡ record { table = c.args.rows.now; limits = c.args.limits.now; prices = c.args.prices.now; eps = c.args.eps } = simp to_z-of_z at c.new-task.ensures.is in
    let e = c.in_ok-gathered.ensures in
    let many = c.requires.kept.many ∙ ap (λ (x : Given). x.limits.shards) (sym is) in
    let going = rw c.in-None.is at c.run-world.ensures.going in
    let done = rw c.in-None.is at c.run-world.ensures.done in
    let kept = rw c.in-None.is at c.run-world.ensures.kept in
    subst (λ (x : Given). MayKeep x.table x.limits.shards c.in_ok-gathered.gathered.prices.items (set c.args.bidders.now.items 0 c.run-world.new.bidder)) is
    (left c.new-task.result c.run-world.result.world going done c.args.bidders.now.items c.run-world.new.bidder c.in_ok-gathered.gathered.prices.items many kept e.prices)

pub returns-clause-comes : goal.returns-clause-comes
returns-clause-comes c =
    let fits : FitsSigned w64 c.args.eps = c.ranges.eps in
    let is : c.new-task.result ≡ record { table = c.args.rows.now; limits = c.args.limits.now; prices = c.args.prices.now; eps = c.args.eps } = simp to_z-of_z at c.new-task.ensures.is in
    let e = c.in_ok-gathered.ensures in
    let stopped = rw c.in-Some.is at c.run-world.ensures.stopped in
    subst (λ (x : Given). ComesOf x.table x.limits x.prices x.eps (Outcome.Stopped c.in-Some.reason c.in_ok-gathered.gathered)) is
    (comes_to_stop c.new-task.result c.run-world.result.world c.in-Some.reason stopped c.in_ok-gathered.gathered e.holders e.prices)
