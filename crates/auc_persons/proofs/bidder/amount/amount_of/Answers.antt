use Rattle.std.proofs.Common.{◌<◌, length, get_or, pos, w64, arith, rules}
use Rattle.std.specs.Prelude.{FitsSigned}
use Rattle.std.proofs.lemmas.Int.{ints, to_z-of_z}
use Rattle.std.proofs.lemmas.List.Elements.{All-get_or, All-contains}
use Rattle.auc_graph.specs.Table.{IsRowArc}
use Rattle.auc_graph.specs.Price.{IsPrice}
use Rattle.auc_persons.specs.Scan.{copy_in}
use Rattle.auc_persons.proofs.Amounts.{next_bid, only_bid}
use Rattle.auc_persons.proofs.bidder.amount.amount_of.Goals as goal
use Rattle.auc_graph.proofs.ValueBounds.{price_fits}

pub next_amount-requires-clause-price : goal.next_amount-requires-clause-price
next_amount-requires-clause-price c =
    let s = c.requires.found in
    let lt : c.args.found.best.object < length c.args.row.copies.now = (All-contains (IsRowArc (length c.args.row.copies.now)) c.args.row.arcs.now c.args.found.best c.args.row.is_row.within s.listed).object in
    let i = All-get_or IsPrice c.args.row.copies.now c.args.found.best.object (pos 0) lt c.args.row.are_prices in
    let f : FitsSigned w64 (get_or c.args.row.copies.now c.args.found.best.object (pos 0)) = price_fits (get_or c.args.row.copies.now c.args.found.best.object (pos 0)) i in
    simp to_z-of_z i

pub only_amount-requires-clause-price : goal.only_amount-requires-clause-price
only_amount-requires-clause-price c =
    let s = c.requires.found in
    let lt : c.args.found.best.object < length c.args.row.copies.now = (All-contains (IsRowArc (length c.args.row.copies.now)) c.args.row.arcs.now c.args.found.best c.args.row.is_row.within s.listed).object in
    let i = All-get_or IsPrice c.args.row.copies.now c.args.found.best.object (pos 0) lt c.args.row.are_prices in
    let f : FitsSigned w64 (get_or c.args.row.copies.now c.args.found.best.object (pos 0)) = price_fits (get_or c.args.row.copies.now c.args.found.best.object (pos 0)) i in
    simp to_z-of_z i

pub returns-then-found-lt9223372036854775807 : goal.returns-then-found-lt9223372036854775807
returns-then-found-lt9223372036854775807 c =
    let f2 : FitsSigned w64 c.args.eps = c.ranges.eps in
    let f3 : FitsSigned w64 c.next_amount.result = search rules in
    let f4 : FitsSigned w64 c.args.found.second = search rules in
    let f5 : FitsSigned w64 c.args.found.value = search rules in
    let f6 : FitsSigned w64 (get_or c.args.row.copies.now c.args.found.best.object (pos 0)) = search rules in
    let s = c.requires.found in
    let e = simp to_z-of_z at c.next_amount.ensures in
    simp to_z-of_z (next_bid c.args.row.scale c.args.spread c.args.eps (copy_in c.args.row.copies.now) c.args.row.arcs.now c.args.found c.next_amount.result s (omega (arith, ints)) e)

pub returns : goal.returns
returns c =
    let f1 : FitsSigned w64 c.args.row.scale = search rules in
    let f2 : FitsSigned w64 c.args.eps = c.ranges.eps in
    let f3 : FitsSigned w64 c.only_amount.result = search rules in
    let f4 : FitsSigned w64 c.scaled.result = search rules in
    let f5 : FitsSigned w64 c.args.spread = c.ranges.spread in
    let f6 : FitsSigned w64 (get_or c.args.row.copies.now c.args.found.best.object (pos 0)) = search rules in
    let s = c.requires.found in
    let g = simp to_z-of_z at c.scaled.ensures.is in
    let e = simp to_z-of_z at c.only_amount.ensures in
    simp to_z-of_z (only_bid c.args.row.scale c.args.spread c.args.eps (copy_in c.args.row.copies.now) c.args.row.arcs.now c.args.found c.only_amount.result s (omega (arith, ints)) (rw g at e))
