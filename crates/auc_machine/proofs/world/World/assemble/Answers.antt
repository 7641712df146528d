use Rattle.std.proofs.Common.{◌+◌, ◌*◌, arith, refl, ap, ◌∙◌, w64}
use Rattle.std.proofs.lemmas.Grind.{common_steps}
use Rattle.std.proofs.lemmas.Int.{to_z-of_z}
use Rattle.auc_mail.specs.Mail.{empty_mail}
use Rattle.auc_phases.specs.Hub.{Counting}
use Rattle.auc_phases.specs.Limits.{nodes_or}
use Rattle.auc_machine.proofs.ListLaws.{kept_made}
use Rattle.auc_machine.proofs.Made.{made_are}
use Rattle.auc_machine.proofs.world.World.assemble.Goals as goal

pub returns-clause-made : goal.returns-clause-made
returns-clause-made c =
    let shards = c.args.limits.now.shards in
    let nodes = c.args.limits.now.nodes in
    let posts = c.args.limits.now.posts in
    let persons = c.persons.ensures.persons in
    let new = c.in_ok-post.ensures in
    record {
      table = refl;
      shards = refl;
      eps_is = to_z-of_z w64 c.args.eps c.ranges.eps;
      persons_are = c.in_ok-new_person_shards.ensures.many;
      each_persons = c.in_ok-new_person_shards.ensures.each;
      objects_are = c.in_ok-new_object_shards.ensures.many;
      each_objects = c.in_ok-new_object_shards.ensures.each;
      outboxes_are = new.outboxes;
      each_outbox = new.empty;
      stopped_are = grind (arith, common_steps);
      objects_mail = new.objects ∙ ap (λ n. empty_mail shards (2 * shards + 1) (nodes_or nodes n) posts) persons;
      persons_mail = new.persons ∙ ap (λ n. empty_mail shards (2 * shards + 1) (nodes_or nodes (4 * n)) posts) persons;
      hub_mail = new.hub ∙ ap (λ n. empty_mail 1 (2 * shards + 1) (nodes_or nodes (n + 2 * shards)) posts) persons;
      count = ap (λ (h : Counting). h.count) c.new.ensures;
      end = ap (λ (h : Counting). h.end) c.new.ensures;
    }

pub invariant_of-result : goal.invariant_of-result
invariant_of-result c = (
  made_are c.args.rows.now c.args.limits.now c.args.prices.now c.args.eps _ (returns-clause-made c) c.persons.ensures.table c.requires.limits c.requires.prices c.requires.eps,
  kept_made c.args.rows.now c.args.limits.now c.args.prices.now c.args.eps _ c.args.bidders.items (returns-clause-made c) c.requires.kept,
)
