use Rattle.std.proofs.Common.{◌≡◌, ◌∙◌, ◌∷◌, [], ◌++◌, map, None, Some, rules, sym}
use Rattle.auc_threads.specs.Worked.{first_some}
use Rattle.auc_threads.proofs.WorkedLaws.{first_here, first_later, first_one}
use Rattle.auc_threads.proofs.gathering.reason.Goals as goal

pub returns-in-Some-clause-first : goal.returns-in-Some-clause-first
returns-in-Some-clause-first g c =
    let ps = map (λ w. w.why) c.args.works.now.persons.items in
    let os = map (λ w. w.why) c.args.works.now.objects.items in
    let fact : first_some ps ≡ Some c.in-Some.why = search rules in
    sym (first_here (ps ++ os) (c.args.works.now.hub.why ∷ []) c.in-Some.why (first_here ps os c.in-Some.why fact))

pub returns-in-Some-objects_reason-clause-first : goal.returns-in-Some-objects_reason-clause-first
returns-in-Some-objects_reason-clause-first g c =
    let ps = map (λ w. w.why) c.args.works.now.persons.items in
    let os = map (λ w. w.why) c.args.works.now.objects.items in
    let none : first_some ps ≡ None = search rules in
    let fact : first_some os ≡ Some c.in-Some-objects_reason.why = search rules in
    sym (first_here (ps ++ os) (c.args.works.now.hub.why ∷ []) c.in-Some-objects_reason.why (first_later ps os none ∙ fact))

pub returns-clause-first : goal.returns-clause-first
returns-clause-first g c =
    let ps = map (λ w. w.why) c.args.works.now.persons.items in
    let os = map (λ w. w.why) c.args.works.now.objects.items in
    let none : first_some ps ≡ None = search rules in
    let gone : first_some os ≡ None = search rules in
    sym (first_later (ps ++ os) (c.args.works.now.hub.why ∷ []) (first_later ps os none ∙ gone) ∙ first_one c.args.works.now.hub.why)
