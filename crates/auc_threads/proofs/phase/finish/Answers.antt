use Rattle.std.proofs.Common.{rules, arith, sym, subst, ℕ, ◌∙◌, ◌≡◌, ◌<◌, length, map}
use Rattle.auc_letters.specs.declared.letter.Why.{Why}
use Rattle.auc_threads.specs.Naming.{numbers}
use Rattle.auc_threads.specs.Worker.{rooms, setting_of}
use Rattle.auc_threads.proofs.CountingLaws.{hub_bids, hub_guard}
use Rattle.auc_threads.proofs.PhaseLaws.{counted_told, no_bids, no_guards, own_of, played_told, stuck_told, told_all, told_counted, told_map, told_phase, told_some}
use Rattle.auc_threads.proofs.WorkedLaws.{first_never}
use Rattle.auc_threads.proofs.phase.finish.Goals as goal

pub gather-requires-clause-works : goal.gather-requires-clause-works
gather-requires-clause-works g c =
    rw c.as_slice.ensures.value (own_of (setting_of c.args.task.now) (rooms g.O.MailBrand.room g.P.MailBrand.room g.H.MailBrand.room) _ c.requires.works.objects c.objects.result (c.args.task.now.prices_are.each ∙ sym c.objects.ensures.objects))

pub end_of-ended-requires-clause-objects : goal.end_of-ended-requires-clause-objects
end_of-ended-requires-clause-objects g c = no_guards (setting_of c.args.task.now) (rooms g.O.MailBrand.room g.P.MailBrand.room g.H.MailBrand.room) _ c.requires.works.objects

pub end_of-ended-requires-clause-hub : goal.end_of-ended-requires-clause-hub
end_of-ended-requires-clause-hub g c = hub_guard _ _ _ _ _ _ c.requires.works.counts

pub returns : goal.returns
returns g c =
    let on = setting_of c.args.task.now in
    let o = g.O.MailBrand in
    let p = g.P.MailBrand in
    let h = g.H.MailBrand in
    let room = rooms o.room p.room h.room in
    let works = c.requires.works in
    let got = c.in_ok-gathered.ensures in
    let each = rw (c.as_slice.ensures.value, c.objects.ensures.objects) at got.each in
    let persons : length c.args.works.persons.items ≡ c.args.task.now.limits.now.shards = search rules in
    let objects : length c.args.works.objects.items ≡ c.args.task.now.limits.now.shards = search rules in
    let some : 0 < c.args.task.now.limits.now.shards = omega (arith, c.args.task.now.limits_are.world.some) in
    let settled = c.settle_all-trails.ensures in
    let all = c.in_ok-all.ensures in
    let counted : c.in_ok-bids.bids.items ≡ map (λ w. w.seats.objects.count) c.args.works.persons.items = search rules in
    let same = c.told_end-end.ensures.some in
    record {
      holders = got.holders ∙ c.objects.ensures.objects;
      prices = record { each = got.prices ∙ c.objects.ensures.objects; within = got.range };
      stuck = λ e. stuck_told on room _ works.persons (c.end_of-ended.ensures.stuck (told_some _ _ _ same e));
      trail = c.told_end-end.ensures.trail;
      counted =
          told_counted _ _ _ _ same
          (counted_told on room _ works.persons _ _ _ _ _ counted persons c.end_of-ended.ensures.is (first_never (λ w. w.why) _ Why.Bids (no_bids on room _ works.objects)) (hub_bids _ _ _ _ _ _ works.counts));
      played = played_told on room _ works.persons _ counted persons;
      told =
          told_map _ _ _ _ _ settled.objects settled.persons settled.hub
          (λ t at_objects at_persons at_hub.
          told_phase on (numbers o.boxes o.workers o.nodes o.most o.room) (numbers p.boxes p.workers p.nodes p.most p.room) (numbers h.boxes h.workers h.nodes h.most h.room) c.args.works works c.requires.names some c.args.task.now.prices_are.each persons objects _
          each (told_all _ _ _ same c.told_end-end.ensures.others c.end_of-ended.ensures.all) (λ e. c.end_of-ended.ensures.fell (told_some _ _ _ same e)) _ _ _ all.objects all.persons all.hub
          (c.told_end-end.ensures.kept (subst (λ (n : ℕ). 0 < n) c.requires.names.objects.room_is at_objects.kept) ∙ c.end_of-ended.ensures.is) counted t at_objects at_persons at_hub);
    }
