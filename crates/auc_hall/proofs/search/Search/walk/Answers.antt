use Rattle.std.proofs.Common.{◌-◌, ◌<◌, length, get_or, set, true, false, sym, arith, ◌∙◌}
use Rattle.std.proofs.lemmas.List.{get_or_read}
use Rattle.auc_graph.specs.Table.{row_of}
use Rattle.auc_hall.proofs.QueueLaws.{blank}
use Rattle.auc_hall.proofs.SearchLaws.{are_marks, walk_past_row, walk_on_row, way_out, last_way_out, walked_all}
use Rattle.auc_hall.proofs.QueueLaws.{the_row}
use Rattle.auc_hall.proofs.ProblemLaws.{no_arc}
use Rattle.auc_hall.proofs.search.Search.walk.Goals as goal

pub loop-arc-preserved-then-index : goal.loop-arc-preserved-then-index
loop-arc-preserved-then-index c =
    let within = c.row-arc-items.ensures.objects c.loop-arc.arc-index no_arc c.loop-arc-test.true in
    let room : (get_or c.row-arc-items.result.now c.loop-arc.arc-index no_arc).object < length c.loop-arc.self.seen.items = omega (arith, within, c.loop-arc.invariant.search.marks.size) in
    walk_past_row c.args.rows.now c.args.holder.now c.args.self.now.queue.items c.loop-arc.self.queue.items c.args.self.now.seen.items c.loop-arc.self.seen.items c.row-arc-items.result.now (row_of c.args.rows.now (get_or c.args.self.now.queue.items c.args.at blank).person) c.loop-arc.arc-index
    (the_row c.args.rows.now c.args.self.now.queue.items c.args.at c.index.result.now c.row-arc-items.result.now c.requires.at c.index.ensures c.row-arc-items.ensures.row) c.loop-arc.invariant c.loop-arc-test.true (sym (get_or_read c.loop-arc.self.seen.items (get_or c.row-arc-items.result.now c.loop-arc.arc-index no_arc).object c.index-in-loop-arc.result.now room c.index-in-loop-arc.ensures false) ∙ c.if-index.true)

pub returns-in-None-clause-found : goal.returns-in-None-clause-found
returns-in-None-clause-found c =
    let within = c.row-arc-items.ensures.objects c.loop-arc.arc-index no_arc c.loop-arc-test.true in
    way_out c.args.rows.now c.args.holder.now c.args.self.now.queue.items c.loop-arc.self.queue.items c.args.at c.row-arc-items.result.now c.loop-arc.arc-index c.loop-arc.invariant.grows c.requires.at (the_row c.args.rows.now c.args.self.now.queue.items c.args.at c.index.result.now c.row-arc-items.result.now c.requires.at c.index.ensures c.row-arc-items.ensures.row) c.loop-arc-test.true c.in-None.is (omega (arith, within, c.requires.holders.objects))

pub invariant_of-self-in-Some : goal.invariant_of-self-in-Some
invariant_of-self-in-Some c =
    let within = c.row-arc-items.ensures.objects c.loop-arc.arc-index no_arc c.loop-arc-test.true in
    let room : (get_or c.row-arc-items.result.now c.loop-arc.arc-index no_arc).object < length c.loop-arc.self.seen.items = omega (arith, within, c.loop-arc.invariant.search.marks.size) in
    record {
      marks = are_marks c.args.rows.now c.args.holder.now c.push.new.self.items (set c.loop-arc.self.seen.items (get_or c.row-arc-items.result.now c.loop-arc.arc-index no_arc).object true) (rw (c.in_ok-push-in-Some.ensures.items) ((walk_on_row c.args.rows.now c.args.holder.now c.args.self.now.queue.items c.loop-arc.self.queue.items c.args.self.now.seen.items c.loop-arc.self.seen.items c.row-arc-items.result.now c.loop-arc.arc-index c.args.at c.in-Some.partner
          c.requires.holders c.requires.at (the_row c.args.rows.now c.args.self.now.queue.items c.args.at c.index.result.now c.row-arc-items.result.now c.requires.at c.index.ensures c.row-arc-items.ensures.row) c.loop-arc.invariant c.loop-arc-test.true (sym (get_or_read c.loop-arc.self.seen.items (get_or c.row-arc-items.result.now c.loop-arc.arc-index no_arc).object c.index-in-loop-arc.result.now room c.index-in-loop-arc.ensures false) ∙ c.if-index.false) room c.in-Some.is).search));
    }

pub loop-arc-preserved : goal.loop-arc-preserved
loop-arc-preserved c =
    let within = c.row-arc-items.ensures.objects c.loop-arc.arc-index no_arc c.loop-arc-test.true in
    let room : (get_or c.row-arc-items.result.now c.loop-arc.arc-index no_arc).object < length c.loop-arc.self.seen.items = omega (arith, within, c.loop-arc.invariant.search.marks.size) in
    rw (c.in_ok-push-in-Some.ensures.items) (walk_on_row c.args.rows.now c.args.holder.now c.args.self.now.queue.items c.loop-arc.self.queue.items c.args.self.now.seen.items c.loop-arc.self.seen.items c.row-arc-items.result.now c.loop-arc.arc-index c.args.at c.in-Some.partner
    c.requires.holders c.requires.at (the_row c.args.rows.now c.args.self.now.queue.items c.args.at c.index.result.now c.row-arc-items.result.now c.requires.at c.index.ensures c.row-arc-items.ensures.row) c.loop-arc.invariant c.loop-arc-test.true (sym (get_or_read c.loop-arc.self.seen.items (get_or c.row-arc-items.result.now c.loop-arc.arc-index no_arc).object c.index-in-loop-arc.result.now room c.index-in-loop-arc.ensures false) ∙ c.if-index.false) room c.in-Some.is)

pub returns-clause-walked : goal.returns-clause-walked
returns-clause-walked c =
    walked_all c.args.rows.now c.args.self.now.queue.items c.loop-arc.self.seen.items c.args.at c.row-arc-items.result.now c.loop-arc.arc-index c.requires.at (the_row c.args.rows.now c.args.self.now.queue.items c.args.at c.index.result.now c.row-arc-items.result.now c.requires.at c.index.ensures c.row-arc-items.ensures.row) (omega arith) c.loop-arc.invariant.walked

pub free_arc-requires-clause-person : goal.free_arc-requires-clause-person
free_arc-requires-clause-person c = c.requires.holders.within (get_or c.row-arc-items.result.now c.loop-arc.arc-index no_arc).object c.in-Some.partner c.in-Some.is

pub returns-in-Some-free_arc-clause-search : goal.returns-in-Some-free_arc-clause-search
returns-in-Some-free_arc-clause-search c =
    let within = c.row-arc-items.ensures.objects c.loop-arc.arc-index no_arc c.loop-arc-test.true in
    let room : (get_or c.row-arc-items.result.now c.loop-arc.arc-index no_arc).object < length c.loop-arc.self.seen.items = omega (arith, within, c.loop-arc.invariant.search.marks.size) in
    rw (c.in_ok-push-in-Some.ensures.items) ((walk_on_row c.args.rows.now c.args.holder.now c.args.self.now.queue.items c.loop-arc.self.queue.items c.args.self.now.seen.items c.loop-arc.self.seen.items c.row-arc-items.result.now c.loop-arc.arc-index c.args.at c.in-Some.partner
    c.requires.holders c.requires.at (the_row c.args.rows.now c.args.self.now.queue.items c.args.at c.index.result.now c.row-arc-items.result.now c.requires.at c.index.ensures c.row-arc-items.ensures.row) c.loop-arc.invariant c.loop-arc-test.true (sym (get_or_read c.loop-arc.self.seen.items (get_or c.row-arc-items.result.now c.loop-arc.arc-index no_arc).object c.index-in-loop-arc.result.now room c.index-in-loop-arc.ensures false) ∙ c.if-index.false) room c.in-Some.is).search)

pub returns-in-Some-free_arc-clause-found : goal.returns-in-Some-free_arc-clause-found
returns-in-Some-free_arc-clause-found c =
    last_way_out c.args.rows.now c.args.holder.now c.loop-arc.self.queue.items c.push.new.self.items (record { person = c.in-Some.partner; parent = c.args.at; arc = get_or c.row-arc-items.result.now c.loop-arc.arc-index no_arc }) (c.len-last.result - 1) c.in-Some-free_arc.out
    c.in_ok-push-in-Some.ensures.items (omega arith) c.in-Some-free_arc.ensures
