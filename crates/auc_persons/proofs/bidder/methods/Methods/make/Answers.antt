use Rattle.std.proofs.Common.{[], ◌∷◌, ap, sym, length, arith, length-append}
use Rattle.std.proofs.lemmas.List.Elements.{All-get_or}
use Rattle.auc_graph.specs.Table.{IsRow}
use Rattle.auc_persons.proofs.KnownRows.{rows_new, methods_more}
use Rattle.auc_persons.proofs.bidder.methods.Methods.make.Goals as goal

pub loop-person-preserved : goal.loop-person-preserved
loop-person-preserved c =
    let inv = c.loop-person.invariant in
    let items = c.in_ok-push.ensures.items in
    let is = rw c.row.ensures.row at c.in_ok-method.ensures.method in
    record {
      methods = rw items (methods_more c.args.rows.now c.loop-person.arcs.items c.method_of.new.arcs.items c.loop-person.methods.items c.loop-person.person c.in_ok-method.method inv.methods c.in_ok-method.ensures.grown (sym inv.count) is);
      count = omega (arith, ap length items, length-append c.loop-person.methods.items (c.in_ok-method.method ∷ []), inv.count);
      lists = omega (arith, c.count_with-lists.ensures, inv.lists);
    }

pub invariant_of-result : goal.invariant_of-result
invariant_of-result c = rw c.of.ensures c.loop-person.invariant.methods

pub returns : goal.returns
returns c =
    let t = c.args.rows.now in
    let inv = c.loop-person.invariant in
    rw c.of.ensures (record {
      kept = λ copies. rows_new t copies (length c.loop-person.methods.items) (λ i lt. (All-get_or (IsRow t.objects) t.rows i [] (omega (arith, lt, inv.count, c.loop-person.auto.person-end, c.persons.ensures.persons)) c.persons.ensures.table.each).rising);
    })
