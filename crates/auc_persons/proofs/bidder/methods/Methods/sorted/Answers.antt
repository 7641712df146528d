use Rattle.std.proofs.Common.{◌<◌, ◌+◌, ◌∙◌, length, pos, sym, w64, arith, rules}
use Rattle.std.specs.Prelude.{FitsSigned, slice_range}
use Rattle.std.proofs.lemmas.Int.{to_z-of_z}
use Rattle.std.proofs.lemmas.List.Elements.{All-same}
use Rattle.auc_graph.specs.Table.{IsRow, row_of}
use Rattle.auc_persons.specs.Candidates.{KeepsListed}
use Rattle.auc_persons.specs.Scan.{copy_in}
use Rattle.auc_persons.specs.Sorted.{of_rows}
use Rattle.auc_persons.proofs.KnownRows.{rising_here, sorted_here, sorted_within}
use Rattle.auc_persons.proofs.SortedScans.{sorted_scan}
use Rattle.auc_persons.proofs.bidder.methods.Methods.sorted.Goals as goal

pub invariant_of-result-clause-rising : goal.invariant_of-result-clause-rising
invariant_of-result-clause-rising c =
    let t = c.args.own.rows.now in
    let made = c.self.inside.made.value in
    let copies = c.args.own.copies.now in
    let methods = c.self.inside.methods.items in
    let lt : c.args.own.person < length methods = omega (arith, c.len.ensures, c.if-person-len.false) in
    let kept = All-same (KeepsListed t copies) (of_rows made (length methods)) c.args.self.now c.self.view_is c.requires.kept in
    let row : IsRow (length copies) (row_of t c.args.own.person) = rw (c.of-row.ensures.arcs, c.of-row.ensures.copies) at c.of-row.result.is_row in
    let low = rw c.of-row.ensures.scale at c.of-row.result.scale_low in
    let high = rw c.of-row.ensures.scale at c.of-row.result.scale_high in
    rw c.of-row.ensures.arcs (rising_here made t copies c.self.inside.arcs.items methods c.args.own.person c.index.result.now c.self.invariant lt kept row c.args.own.are_prices low high (sym c.index.ensures ∙ c.in-Rising.is))

pub invariant_of-result-in-Sorted-clause-within : goal.invariant_of-result-in-Sorted-clause-within
invariant_of-result-in-Sorted-clause-within c =
    let t = c.args.own.rows.now in
    let made = c.self.inside.made.value in
    let copies = c.args.own.copies.now in
    let methods = c.self.inside.methods.items in
    let lt : c.args.own.person < length methods = omega (arith, c.len.ensures, c.if-person-len.false) in
    let kept = All-same (KeepsListed t copies) (of_rows made (length methods)) c.args.self.now c.self.view_is c.requires.kept in
    let row : IsRow (length copies) (row_of t c.args.own.person) = rw (c.of-row.ensures.arcs, c.of-row.ensures.copies) at c.of-row.result.is_row in
    let low = rw c.of-row.ensures.scale at c.of-row.result.scale_low in
    let high = rw c.of-row.ensures.scale at c.of-row.result.scale_high in
    let is = sorted_here made t copies c.self.inside.arcs.items methods c.args.own.person c.index.result.now c.self.invariant lt kept row c.args.own.are_prices low high c.in-Sorted.start c.in-Sorted.count (sym c.index.ensures ∙ c.in-Sorted.is) in
    rw (c.deref.ensures.value, c.of-row.ensures.copies) (sorted_within (length copies) (row_of t c.args.own.person) (slice_range c.self.inside.arcs.items c.in-Sorted.start (c.in-Sorted.start + c.in-Sorted.count)) is.1 row.within)

pub invariant_of-result-in-Sorted-clause-rising : goal.invariant_of-result-in-Sorted-clause-rising
invariant_of-result-in-Sorted-clause-rising c =
    let t = c.args.own.rows.now in
    let made = c.self.inside.made.value in
    let copies = c.args.own.copies.now in
    let methods = c.self.inside.methods.items in
    let lt : c.args.own.person < length methods = omega (arith, c.len.ensures, c.if-person-len.false) in
    let kept = All-same (KeepsListed t copies) (of_rows made (length methods)) c.args.self.now c.self.view_is c.requires.kept in
    let row : IsRow (length copies) (row_of t c.args.own.person) = rw (c.of-row.ensures.arcs, c.of-row.ensures.copies) at c.of-row.result.is_row in
    let low = rw c.of-row.ensures.scale at c.of-row.result.scale_low in
    let high = rw c.of-row.ensures.scale at c.of-row.result.scale_high in
    let is = sorted_here made t copies c.self.inside.arcs.items methods c.args.own.person c.index.result.now c.self.invariant lt kept row c.args.own.are_prices low high c.in-Sorted.start c.in-Sorted.count (sym c.index.ensures ∙ c.in-Sorted.is) in
    rw c.deref.ensures.value is.1.rising

pub returns-in-Sorted : goal.returns-in-Sorted
returns-in-Sorted c scan found =
    let f1 : FitsSigned w64 c.of-row.result.scale = search rules in
    let t = c.args.own.rows.now in
    let made = c.self.inside.made.value in
    let copies = c.args.own.copies.now in
    let methods = c.self.inside.methods.items in
    let lt : c.args.own.person < length methods = omega (arith, c.len.ensures, c.if-person-len.false) in
    let kept = All-same (KeepsListed t copies) (of_rows made (length methods)) c.args.self.now c.self.view_is c.requires.kept in
    let row : IsRow (length copies) (row_of t c.args.own.person) = rw (c.of-row.ensures.arcs, c.of-row.ensures.copies) at c.of-row.result.is_row in
    let low = rw c.of-row.ensures.scale at c.of-row.result.scale_low in
    let high = rw c.of-row.ensures.scale at c.of-row.result.scale_high in
    let is = sorted_here made t copies c.self.inside.arcs.items methods c.args.own.person c.index.result.now c.self.invariant lt kept row c.args.own.are_prices low high c.in-Sorted.start c.in-Sorted.count (sym c.index.ensures ∙ c.in-Sorted.is) in
    let s = rw (c.deref.ensures.value, c.of-row.ensures.scale, c.of-row.ensures.copies) at (simp to_z-of_z at found) in
    sorted_scan (pos (length t.rows + 1)) (copy_in copies) (row_of t c.args.own.person) (slice_range c.self.inside.arcs.items c.in-Sorted.start (c.in-Sorted.start + c.in-Sorted.count)) scan low is.1 s
