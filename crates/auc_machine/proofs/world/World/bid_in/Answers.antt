use Rattle.std.proofs.Common.{arith, sym, subst, ◌≡◌}
use Rattle.std.proofs.lemmas.Grind.{common_steps}
use Rattle.auc_objects.specs.Objects.{IsBidIn, Objects}
use Rattle.auc_machine.specs.Parts.{objects_at}
use Rattle.auc_machine.proofs.PostingLaws.{IfNone_then}
use Rattle.auc_machine.proofs.SellingLaws.{unfit}
use Rattle.auc_machine.proofs.world.World.bid_in.Goals as goal

pub returns-clause-none : goal.returns-clause-none
returns-clause-none c =
    let here : c.index-objects.result.now ≡ objects_at c.args.self.now c.args.shard = grind (arith, common_steps) in
    let are = rw c.self.view_is at c.self.invariant.0 in
    IfNone_then c.bid_in.result c.bid_in.ensures.none (λ none. unfit c.args.self.now c.args.shard are c.requires c.args.letter (λ bid fits. none bid (subst (λ (x : Objects). IsBidIn x c.args.letter bid) (sym here) fits)))
