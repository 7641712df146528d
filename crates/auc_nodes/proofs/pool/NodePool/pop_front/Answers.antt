use Rattle.std.proofs.Common.{ap, set, refl, sym, subst, arith}
use Rattle.auc_nodes.specs.Lists.{Lists, HasList}
use Rattle.auc_nodes.specs.Pool.{with_fresh}
use Rattle.auc_nodes.specs.declared.links.Node.{Node}
use Rattle.auc_nodes.proofs.Counting.{same_count, still_kept}
use Rattle.auc_nodes.proofs.Steps.{list_within, none_listed, node_within, free_below, node_listed, pop_keeps, pop_makes}
use Rattle.auc_nodes.proofs.Parts.{get_up, read_up, set_up}
use Rattle.auc_nodes.proofs.pool.NodePool.pop_front.Goals as goal

pub returns-then-ends-eq0 : goal.returns-then-ends-eq0
returns-then-ends-eq0 g c =
    let p = c.self.inside in
    let has = list_within p.blank p.nodes.items c.self.invariant.linked c.args.list (subst (λ (l : Lists _). HasList l c.args.list) (sym c.self.view_is) c.requires) in
    (rw (← c.self.view_is) (none_listed p.blank p.nodes.items c.self.invariant.linked c.args.list has c.index-ends.result.now (read_up p.free p.ends.items c.args.list c.index-ends.result.now c.index-ends.ensures) c.if-ends-eq0.true), refl)

pub index-requires : goal.index-requires
index-requires g c =
    let p = c.self.inside in
    let has = list_within p.blank p.nodes.items c.self.invariant.linked c.args.list (subst (λ (l : Lists _). HasList l c.args.list) (sym c.self.view_is) c.requires) in
    omega (arith, node_within p.blank p.nodes.items c.self.invariant.linked c.args.list has c.index-ends.result.now (read_up p.free p.ends.items c.args.list c.index-ends.result.now c.index-ends.ensures) (omega arith), p.nodes.ok.0)

pub index_mut-requires : goal.index_mut-requires
index_mut-requires g c =
    let p = c.self.inside in
    let has = list_within p.blank p.nodes.items c.self.invariant.linked c.args.list (subst (λ (l : Lists _). HasList l c.args.list) (sym c.self.view_is) c.requires) in
    omega (arith, node_within p.blank p.nodes.items c.self.invariant.linked c.args.list has c.index-ends.result.now (read_up p.free p.ends.items c.args.list c.index-ends.result.now c.index-ends.ensures) (omega arith), p.nodes.ok.0)

pub overflow_add-self : goal.overflow_add-self
overflow_add-self g c =
    let p = c.self.inside in
    let has = list_within p.blank p.nodes.items c.self.invariant.linked c.args.list (subst (λ (l : Lists _). HasList l c.args.list) (sym c.self.view_is) c.requires) in
    omega (arith, free_below p.blank p.nodes.items c.self.invariant.linked c.args.list has c.index-ends.result.now (read_up p.free p.ends.items c.args.list c.index-ends.result.now c.index-ends.ensures) p.free refl (omega arith) c.index.result.now c.index.ensures c.index_mut.result.now c.index_mut.ensures.value)

pub invariant_of-self : goal.invariant_of-self
invariant_of-self g c =
    let p = c.self.inside in
    let has = list_within p.blank p.nodes.items c.self.invariant.linked c.args.list (subst (λ (l : Lists _). HasList l c.args.list) (sym c.self.view_is) c.requires) in
    let keeps = pop_keeps p.blank p.nodes.items c.self.invariant.linked c.args.list has c.index-ends.result.now (read_up p.free p.ends.items c.args.list c.index-ends.result.now c.index-ends.ensures) p.free refl (omega arith) c.index.result.now c.index.ensures c.index_mut.result.now c.index_mut.ensures.value p.free.last in
    let freed : Node _ = record { item = c.index_mut.result.now.item; next = p.free.first } in
    rw c.set_front.ensures
    (still_kept p.blank p.nodes.items c.self.invariant (set p.nodes.items c.index-ends.result.now.first freed) _ _
    (rw (set_up p.free p.ends.items c.args.list _, get_up p.free p.ends.items c.args.list _) at keeps)
    (same_count p.nodes.items c.index-ends.result.now.first freed) refl)

pub returns : goal.returns
returns g c =
    let p = c.self.inside in
    let has = list_within p.blank p.nodes.items c.self.invariant.linked c.args.list (subst (λ (l : Lists _). HasList l c.args.list) (sym c.self.view_is) c.requires) in
    let listed = node_listed p.blank p.nodes.items c.self.invariant.linked c.args.list has c.index-ends.result.now (read_up p.free p.ends.items c.args.list c.index-ends.result.now c.index-ends.ensures) (omega arith) c.index.result.now c.index.ensures in
    let makes = pop_makes p.blank p.nodes.items c.self.invariant.linked c.args.list has c.index-ends.result.now (read_up p.free p.ends.items c.args.list c.index-ends.result.now c.index-ends.ensures) p.free refl (omega arith) c.index.result.now c.index.ensures c.index_mut.result.now c.index_mut.ensures.value p.free.last in
    rw (← c.self.view_is, c.set_front.ensures) (_, rw (get_up p.free p.ends.items c.args.list _) at listed, ap (λ (l : Lists _). with_fresh p.fresh l) (rw (set_up p.free p.ends.items c.args.list _, get_up p.free p.ends.items c.args.list _) at makes))
