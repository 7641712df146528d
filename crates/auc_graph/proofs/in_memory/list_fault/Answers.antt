use Rattle.std.proofs.Common.{sym, ◌∙◌, ◌≡◌, ◌≤◌, ◌+◌, length, arith}
use Rattle.auc_graph.specs.declared.limits.TheConstants.{MOST_ARCS}
use Rattle.auc_graph.specs.InMemory.{objects_or}
use Rattle.auc_graph.proofs.InMemoryLaws.{sound, room, complete}
use Rattle.auc_graph.proofs.in_memory.list_fault.Goals as goal

pub returns-clause-none : goal.returns-clause-none
returns-clause-none c =
    let e : c.objects_or-objects.result ≡ objects_or c.args.objects c.args.persons = c.objects_or-objects.ensures in (
      λ none.
          let found = sym c.first_fault.ensures ∙ none in
          record {
            some = omega (arith, c.if-persons-lt1.false);
            most = omega (arith, c.if-persons-gt-MOST_PERSONS.false);
            enough = omega (arith, e, c.if-objects-persons.false);
            most_objects = omega (arith, e, c.if-objects-gt-MOST_OBJECTS.false);
            few =
                let few : 0 + length c.args.arcs.now ≤ MOST_ARCS = room c.args.persons c.objects_or-objects.result 0 c.args.arcs.now (omega arith) found in
                omega (arith, few);
            within = rw (sym e) (sound c.args.persons c.objects_or-objects.result 0 c.args.arcs.now found);
          },
      λ is.
          let few : length c.args.arcs.now ≤ MOST_ARCS = is.few in
          c.first_fault.ensures ∙ rw e (complete c.args.persons (objects_or c.args.objects c.args.persons) 0 c.args.arcs.now (omega (arith, few)) is.within),
    )
