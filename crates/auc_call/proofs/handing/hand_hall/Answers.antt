use Rattle.std.proofs.Common.{◌≤◌, length, refl, arith}
use Rattle.auc_call.proofs.HandLaws.{named, few_persons, few_objects, hall_at}
use Rattle.auc_call.proofs.handing.hand_hall.Goals as goal

pub put_front-requires : goal.put_front-requires
put_front-requires c =
    let n = named c.args.problem.now c.args.cert.now c.parts.result.now c.in-Infeasible.persons c.in-Infeasible.objects c.as_slice-persons.result.now c.as_slice-objects.result.now c.requires.cert c.parts.ensures.is c.in-Infeasible.is c.as_slice-persons.ensures c.as_slice-objects.ensures in
    omega (arith, few_persons c.args.problem.now c.as_slice-persons.result.now c.as_slice-objects.result.now n, c.requires.choice)

pub put_front-requires-in-Infeasible : goal.put_front-requires-in-Infeasible
put_front-requires-in-Infeasible c =
    let n = named c.args.problem.now c.args.cert.now c.parts.result.now c.in-Infeasible.persons c.in-Infeasible.objects c.as_slice-persons.result.now c.as_slice-objects.result.now c.requires.cert c.parts.ensures.is c.in-Infeasible.is c.as_slice-persons.ensures c.as_slice-objects.ensures in
    omega (arith, few_objects c.args.problem.now c.as_slice-persons.result.now c.as_slice-objects.result.now n, c.requires.set)

pub overflow_cast-result : goal.overflow_cast-result
overflow_cast-result c =
    let n = named c.args.problem.now c.args.cert.now c.parts.result.now c.in-Infeasible.persons c.in-Infeasible.objects c.as_slice-persons.result.now c.as_slice-objects.result.now c.requires.cert c.parts.ensures.is c.in-Infeasible.is c.as_slice-persons.ensures c.as_slice-objects.ensures in
    omega (arith, few_persons c.args.problem.now c.as_slice-persons.result.now c.as_slice-objects.result.now n, c.arcs.ensures.problem.most)

pub overflow_cast-result-in-Infeasible : goal.overflow_cast-result-in-Infeasible
overflow_cast-result-in-Infeasible c =
    let n = named c.args.problem.now c.args.cert.now c.parts.result.now c.in-Infeasible.persons c.in-Infeasible.objects c.as_slice-persons.result.now c.as_slice-objects.result.now c.requires.cert c.parts.ensures.is c.in-Infeasible.is c.as_slice-persons.ensures c.as_slice-objects.ensures in
    omega (arith, few_objects c.args.problem.now c.as_slice-persons.result.now c.as_slice-objects.result.now n, c.arcs.ensures.problem.most)

pub returns-clause-solved : goal.returns-clause-solved
returns-clause-solved c =
    let n = named c.args.problem.now c.args.cert.now c.parts.result.now c.in-Infeasible.persons c.in-Infeasible.objects c.as_slice-persons.result.now c.as_slice-objects.result.now c.requires.cert c.parts.ensures.is c.in-Infeasible.is c.as_slice-persons.ensures c.as_slice-objects.ensures in
    let persons_in : length c.as_slice-persons.result.now ≤ length c.put_front.new.target = omega (arith, few_persons c.args.problem.now c.as_slice-persons.result.now c.as_slice-objects.result.now n, c.requires.choice, c.put_front.auto.target) in
    let objects_in : length c.as_slice-objects.result.now ≤ length c.put_front-in-Infeasible.new.target = omega (arith, few_objects c.args.problem.now c.as_slice-persons.result.now c.as_slice-objects.result.now n, c.requires.set, c.put_front-in-Infeasible.auto.target) in (
      hall_at c.args.problem.now c.as_slice-persons.result.now c.as_slice-objects.result.now c.put_front.new.target c.put_front-in-Infeasible.new.target c.arcs.ensures.problem n persons_in objects_in c.put_front.ensures.front c.put_front-in-Infeasible.ensures.front,
      refl,
      c.put_front.ensures.after,
      c.put_front-in-Infeasible.ensures.after,
    )
