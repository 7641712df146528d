use Rattle.std.proofs.Common.{subst, ap, ◌∙◌, ℕ}
use Rattle.auc_hall.specs.Chosen.{places, AreReached}
use Rattle.auc_hall.proofs.AnswerLaws.{is_hall_set}
use Rattle.auc_hall.proofs.hall_set.hall_set.Goals as goal

pub reached_flags-requires : goal.reached_flags-requires
reached_flags-requires c = rw c.persons.ensures.persons c.requires.persons

pub returns-clause-matching : goal.returns-clause-matching
returns-clause-matching c =
    let flags = subst (λ (n : ℕ). AreReached c.args.queue.now n c.in_ok-flags.flags.items) c.persons.ensures.persons c.in_ok-flags.ensures in
    let h = is_hall_set c.args.rows.now c.args.queue.now c.args.seen.now c.in_ok-flags.flags.items c.requires.known c.requires.seen c.requires.walked flags in
    let persons = c.new.ensures ∙ c.in_ok-persons.ensures ∙ ap (places 0) c.as_slice.ensures.value in
    let objects = c.new-2.ensures ∙ c.in_ok-objects.ensures in
    rw (persons, objects) h
