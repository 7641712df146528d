use Rattle.std.proofs.Common.{◌≡◌, ◌<◌, Bool, List, length, w64, subst, ap, rules, ◌∙◌}
use Rattle.std.specs.Prelude.{FitsSigned}
use Rattle.std.proofs.lemmas.Int.{to_z-of_z}
use Rattle.auc_hall.specs.Chosen.{places}
use Rattle.auc_dense.specs.Shortage.{AreRowsMarked}
use Rattle.auc_dense.proofs.MarkLaws.{listed_few, shortage_shown}
use Rattle.auc_dense.proofs.shortage.find_shortage.Goals as goal

pub returns-clause-shown : goal.returns-clause-shown
returns-clause-shown c =
    let gap_fits : FitsSigned w64 c.args.gap = c.ranges.gap in
    let t = c.args.table.now in
    let told = simp to_z-of_z at c.in_ok-known.ensures in
    let marks = subst (λ (flags : List Bool). AreRowsMarked t.objects t.costs.now t.stride c.args.gap flags t.persons c.in_ok-known.known.items) c.as_slice-2.ensures.value told in
    let size : length c.in-Some.flags.items ≡ t.persons = search rules in
    let persons : c.in_ok-persons.persons.items ≡ places 0 c.in-Some.flags.items = c.in_ok-persons.ensures ∙ ap (places 0) c.as_slice-3.ensures.value in
    let objects : c.in_ok-objects.objects.items ≡ places 0 c.in_ok-known.known.items = c.in_ok-objects.ensures ∙ ap (places 0) c.as_slice-4.ensures.value in
    let less : length c.in_ok-objects.objects.items < length c.in_ok-persons.persons.items = search rules in
    let fewer : length (places 0 c.in_ok-known.known.items) < length (places 0 c.in-Some.flags.items) = rw (← persons, ← objects) less in
    rw (persons, objects) (shortage_shown t.persons t.objects t.costs.now t.stride c.args.gap c.in-Some.flags.items c.in_ok-known.known.items size marks fewer)

pub returns-clause-persons : goal.returns-clause-persons
returns-clause-persons c =
    let persons = c.in_ok-persons.ensures ∙ ap (places 0) c.as_slice-3.ensures.value in
    let size : length c.in-Some.flags.items ≡ c.args.table.now.persons = search rules in
    rw persons (listed_few c.in-Some.flags.items c.args.table.now.persons size)
