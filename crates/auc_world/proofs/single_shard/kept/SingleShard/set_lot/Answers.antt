use Rattle.std.proofs.Common.{ℤ, ◌≢◌, List, Some, map, set, ap, ◌∙◌, arith, w64, to_z, of_z}
use Rattle.std.specs.Prelude.{Option}
use Rattle.std.proofs.lemmas.Int.{to_z-of_z}
use Rattle.auc_letters.specs.declared.state.Held.{Held}
use Rattle.auc_world.specs.declared.single_shard.lot.Lot.{Lot}
use Rattle.auc_world.specs.SingleState.{SingleState, nobody}
use Rattle.auc_world.specs.Lots.{holder_in}
use Rattle.auc_world.proofs.SingleSteps.{held_by, lot_holders, lot_prices}
use Rattle.auc_world.proofs.single_shard.kept.SingleShard.set_lot.Goals as goal

pub returns : goal.returns
returns c =
    let held = c.args.held in
    let inside = c.self.inside in
    let lots = inside.lots.items in
    let new : Lot = record { price = to_z w64 (of_z w64 c.args.price); person = held.person; arc = held.arc } in
    let known : held.person ≢ nobody = (let few = c.requires.person in λ e. omega (arith, few, e)) in
    ap (λ (ps : List ℤ). record { persons = inside.persons; copies = inside.copies.items; prices = ps; holders = map holder_in (set lots c.args.object new); notices = inside.notices.items; idle = inside.idle.items; bids = inside.bids; count = inside.count }) (lot_prices lots c.args.object new c.args.price (to_z-of_z w64 c.args.price c.ranges.price))
    ∙ ap (λ (hs : List (Option Held)). record { persons = inside.persons; copies = inside.copies.items; prices = set (map (λ (l : Lot). l.price) lots) c.args.object c.args.price; holders = hs; notices = inside.notices.items; idle = inside.idle.items; bids = inside.bids; count = inside.count }) (lot_holders lots c.args.object new (Some held) (held_by held.person held.arc known))
    ∙ ap (λ (s : SingleState). record s { prices = set s.prices c.args.object c.args.price; holders = set s.holders c.args.object (Some held) }) c.self.view_is
