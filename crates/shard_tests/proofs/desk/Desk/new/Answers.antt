use Rattle.std.proofs.Common.{◌≡◌, length, sym, ap, ◌∙◌, arith}
use Rattle.std.proofs.lemmas.List.{length-replicate}
use Rattle.auc_letters.specs.declared.state.PersonState.TheVariants.{Free}
use Rattle.auc_persons.specs.Persons.{Persons, IsMadeFor}
use Rattle.shard_tests.proofs.desk.Desk.new.Goals as goal

pub invariant_of-result-clause-fits : goal.invariant_of-result-clause-fits
invariant_of-result-clause-fits c =
    let e = c.in-Ok.ensures in
    let persons = ap (λ (s : Persons). length s.states) e ∙ length-replicate c.persons-persons.result Free in
    let objects = ap (λ (s : Persons). length s.copies) e in
    record {
      persons = omega (arith, persons, c.persons-persons.ensures.persons);
      objects = omega (arith, objects, c.objects.ensures.objects);
    }
