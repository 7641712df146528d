use Rattle.std.proofs.Common.{ap, ◌∙◌}
use Rattle.auc_world.specs.SingleState.{SingleState}
use Rattle.auc_world.specs.SinglePhase.{noted}
use Rattle.auc_world.proofs.SinglePhase.{copies_rise, idle_has_room, note_less, noticed, object_known}
use Rattle.auc_world.proofs.single_shard.kept.SingleShard.hear.Goals as goal

pub note-requires-clause-object : goal.note-requires-clause-object
note-requires-clause-object c =
    let h = c.requires.halfway in
    let leaves = c.in-Some.ensures.leaves in
    rw leaves (object_known c.args.task.now h.given c.args.self.now h c.in-Some.notices c.in-Some.ensures.some)

pub note-requires-clause-room : goal.note-requires-clause-room
note-requires-clause-room c =
    let h = c.requires.halfway in
    let leaves = c.in-Some.ensures.leaves in
    rw leaves (idle_has_room c.args.task.now h.given c.args.self.now h c.in-Some.notices c.in-Some.ensures.some)

pub returns-in-Some-clause-going : goal.returns-in-Some-clause-going
returns-in-Some-clause-going c =
    let h = c.requires.halfway in
    let is = c.note.ensures ∙ ap (λ (s : SingleState). noted s c.in-Some.notices) c.in-Some.ensures.leaves in
    rw is (noticed c.args.task.now h.given c.args.self.now h c.in-Some.notices c.in-Some.ensures.some)

pub returns-in-Some-clause-less : goal.returns-in-Some-clause-less
returns-in-Some-clause-less c =
    let is = c.note.ensures ∙ ap (λ (s : SingleState). noted s c.in-Some.notices) c.in-Some.ensures.leaves in
    rw is (note_less c.args.self.now c.in-Some.notices c.in-Some.ensures.some)

pub returns-in-Some-clause-rises : goal.returns-in-Some-clause-rises
returns-in-Some-clause-rises c =
    let h = c.requires.halfway in
    let is = c.note.ensures ∙ ap (λ (s : SingleState). noted s c.in-Some.notices) c.in-Some.ensures.leaves in
    rw is (copies_rise c.args.task.now h.given c.args.self.now h c.in-Some.notices c.in-Some.ensures.some)
