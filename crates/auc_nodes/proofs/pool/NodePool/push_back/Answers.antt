use Rattle.std.proofs.Common.{◌≡◌, ◌+◌, ◌-◌, ◌≤◌, length, ap, ◌∙◌, refl, sym, subst, arith}
use Rattle.std.proofs.lemmas.List.{length-map}
use Rattle.auc_nodes.specs.Links.{behind, end_of}
use Rattle.auc_nodes.specs.Lists.{Lists, HasList}
use Rattle.auc_nodes.specs.Pool.{with_fresh}
use Rattle.auc_nodes.specs.declared.links.Node.{Node}
use Rattle.auc_nodes.proofs.Counting.{free_read, same_count, still_kept}
use Rattle.auc_nodes.proofs.Contents.{same_pool}
use Rattle.auc_nodes.proofs.Growing.{can_link, link_keeps, link_makes, grown_links_count}
use Rattle.auc_nodes.proofs.Steps.{list_within, free_within, can_push, push_keeps, push_makes}
use Rattle.auc_nodes.proofs.Parts.{end_read, list_below, set_up}
use Rattle.auc_nodes.proofs.pool.NodePool.push_back.Goals as goal

pub index-requires : goal.index-requires
index-requires g c =
    let p = c.self.inside in
    let list = c.args.list in
    let has = list_within p.blank p.nodes.items c.self.invariant.linked list (subst (λ (l : Lists _). HasList l list) (sym c.self.view_is) c.requires) in
    let end = end_of p.ends.items list in
    let read = end_read p.free p.ends.items list (list_below p.free p.ends.items list has) in
    omega (arith, free_within p.blank p.nodes.items c.self.invariant.linked list has end read p.free refl (omega arith), p.nodes.ok.0)

pub index_mut-requires : goal.index_mut-requires
index_mut-requires g c =
    let p = c.self.inside in
    let list = c.args.list in
    let has = list_within p.blank p.nodes.items c.self.invariant.linked list (subst (λ (l : Lists _). HasList l list) (sym c.self.view_is) c.requires) in
    let end = end_of p.ends.items list in
    let read = end_read p.free p.ends.items list (list_below p.free p.ends.items list has) in
    omega (arith, free_within p.blank p.nodes.items c.self.invariant.linked list has end read p.free refl (omega arith), p.nodes.ok.0)

pub link_behind-requires-clause-can : goal.link_behind-requires-clause-can
link_behind-requires-clause-can g c =
    let p = c.self.inside in
    let list = c.args.list in
    let has = list_within p.blank p.nodes.items c.self.invariant.linked list (subst (λ (l : Lists _). HasList l list) (sym c.self.view_is) c.requires) in
    let end = end_of p.ends.items list in
    let read = end_read p.free p.ends.items list (list_below p.free p.ends.items list has) in
    can_push p.blank p.nodes.items c.self.invariant.linked list has end read p.free refl (omega arith)
    c.index.result.now c.index.ensures c.index_mut.result.now c.index_mut.ensures.value c.args.item

pub link_behind-requires-clause-list : goal.link_behind-requires-clause-list
link_behind-requires-clause-list g c =
    let p = c.self.inside in
    let list = c.args.list in
    let has = list_within p.blank p.nodes.items c.self.invariant.linked list (subst (λ (l : Lists _). HasList l list) (sym c.self.view_is) c.requires) in
    list_below p.free p.ends.items list has

pub link_fresh-requires-clause-can : goal.link_fresh-requires-clause-can
link_fresh-requires-clause-can g c =
    let p = c.self.inside in
    let list = c.args.list in
    let has = list_within p.blank p.nodes.items c.self.invariant.linked list (subst (λ (l : Lists _). HasList l list) (sym c.self.view_is) c.requires) in
    can_link p.blank p.nodes.items c.self.invariant.linked c.if-self-eq0.true c.args.item (omega (arith, c.self.invariant.all_fit, length-map p.nodes.items (λ (n : Node _). n.next)))
    list (list_below p.free p.ends.items list has)

pub invariant_of-self : goal.invariant_of-self
invariant_of-self g c =
    let p = c.self.inside in
    let list = c.args.list in
    let has = list_within p.blank p.nodes.items c.self.invariant.linked list (subst (λ (l : Lists _). HasList l list) (sym c.self.view_is) c.requires) in
    let count = length-map p.nodes.items (λ (n : Node _). n.next) in
    let fit : length p.nodes.items + 1 ≤ 16777216 = omega (arith, c.self.invariant.all_fit, count) in
    let e = c.link_fresh.ensures in
    let grown = grown_links_count p.blank p.nodes.items c.self.invariant.linked c.if-self-eq0.true c.args.item fit in
    rw e.ends (record {
      linked = link_keeps p.blank p.nodes.items c.self.invariant.linked c.if-self-eq0.true c.args.item fit list (list_below p.free p.ends.items list has)
          c.link_fresh.new.nodes.items (behind (end_of p.ends.items list) (length p.nodes.items)) e.items e.joined e.last;
      reserved = omega (arith, c.self.invariant.reserved, count, grown, e.joined.size, e.room);
      all_fit = omega (arith, c.self.invariant.all_fit, count, grown, e.joined.size);
    })

pub returns-then-self-eq0 : goal.returns-then-self-eq0
returns-then-self-eq0 g c =
    let p = c.self.inside in
    let list = c.args.list in
    let has = list_within p.blank p.nodes.items c.self.invariant.linked list (subst (λ (l : Lists _). HasList l list) (sym c.self.view_is) c.requires) in
    let fit : length p.nodes.items + 1 ≤ 16777216 = omega (arith, c.self.invariant.all_fit, length-map p.nodes.items (λ (n : Node _). n.next)) in
    let e = c.link_fresh.ensures in
    let free = free_read p.blank p.nodes.items c.self.invariant.linked p.free refl p.fresh in
    let makes = link_makes p.blank p.nodes.items c.self.invariant.linked c.if-self-eq0.true c.args.item fit list (list_below p.free p.ends.items list has)
    c.link_fresh.new.nodes.items (behind (end_of p.ends.items list) (length p.nodes.items)) e.items e.joined e.last in
    let one_less : length p.nodes.items + 1 + (p.fresh - 1) ≡ length p.nodes.items + p.fresh = omega arith in
    rw (← c.self.view_is, e.ends) (omega (arith, free), ap (λ (l : Lists _). with_fresh (p.fresh - 1) l) makes ∙ same_pool one_less refl)

pub invariant_of-self-2 : goal.invariant_of-self-2
invariant_of-self-2 g c =
    let p = c.self.inside in
    let list = c.args.list in
    let has = list_within p.blank p.nodes.items c.self.invariant.linked list (subst (λ (l : Lists _). HasList l list) (sym c.self.view_is) c.requires) in
    let end = end_of p.ends.items list in
    let read = end_read p.free p.ends.items list (list_below p.free p.ends.items list has) in
    let e = c.link_behind.ensures in
    let keeps = push_keeps p.blank p.nodes.items c.self.invariant.linked list has end read p.free refl (omega arith)
    c.index.result.now c.index.ensures c.index_mut.result.now c.index_mut.ensures.value c.args.item c.link_behind.new.nodes.items (behind end c.self.inside.free.first) e.items e.joined e.last in
    rw e.ends
    (still_kept p.blank p.nodes.items c.self.invariant c.link_behind.new.nodes.items _ _ (rw (set_up _ p.ends.items list (behind end p.free.first)) at keeps)
    (e.joined.size ∙ same_count p.nodes.items p.free.first _) e.room)

pub returns : goal.returns
returns g c =
    let p = c.self.inside in
    let list = c.args.list in
    let has = list_within p.blank p.nodes.items c.self.invariant.linked list (subst (λ (l : Lists _). HasList l list) (sym c.self.view_is) c.requires) in
    let end = end_of p.ends.items list in
    let read = end_read p.free p.ends.items list (list_below p.free p.ends.items list has) in
    let e = c.link_behind.ensures in
    let free = free_read p.blank p.nodes.items c.self.invariant.linked p.free refl p.fresh in
    let makes = push_makes p.blank p.nodes.items c.self.invariant.linked list has end read p.free refl (omega arith)
    c.index.result.now c.index.ensures c.index_mut.result.now c.index_mut.ensures.value c.args.item c.link_behind.new.nodes.items (behind end p.free.first) e.items e.joined e.last in
    rw (← c.self.view_is, e.ends) (omega (arith, free), ap (λ (l : Lists _). with_fresh p.fresh l) (rw (set_up _ p.ends.items list (behind end p.free.first)) at makes))
