use Rattle.std.proofs.Common.{◌∷◌, ap, set, sym, subst, arith}
use Rattle.auc_nodes.specs.Links.{no_ends}
use Rattle.auc_nodes.specs.Lists.{Lists, HasList}
use Rattle.auc_nodes.specs.Pool.{with_fresh}
use Rattle.auc_nodes.proofs.Counting.{still_kept}
use Rattle.auc_nodes.proofs.Steps.{list_within, can_append, append_keeps, append_makes}
use Rattle.auc_nodes.proofs.Parts.{read_up, set_up}
use Rattle.auc_nodes.proofs.pool.NodePool.append.Goals as goal

pub join-joined-requires : goal.join-joined-requires
join-joined-requires g c =
    let p = c.self.inside in
    let has = list_within p.blank p.nodes.items c.self.invariant.linked c.args.from (subst (λ (l : Lists _). HasList l c.args.from) (sym c.self.view_is) c.requires.from) in
    let has_to = list_within p.blank p.nodes.items c.self.invariant.linked c.args.to (subst (λ (l : Lists _). HasList l c.args.to) (sym c.self.view_is) c.requires.to) in
    can_append p.blank p.nodes.items c.self.invariant.linked c.args.from c.args.to has has_to c.requires.two
    c.index-back.result.now c.index-front.result.now (read_up p.free p.ends.items c.args.from c.index-back.result.now c.index-back.ensures) (read_up p.free p.ends.items c.args.to c.index-front.result.now c.index-front.ensures)

pub index_mut-requires-2 : goal.index_mut-requires-2
index_mut-requires-2 g c =
    let p = c.self.inside in
    let has_to = list_within p.blank p.nodes.items c.self.invariant.linked c.args.to (subst (λ (l : Lists _). HasList l c.args.to) (sym c.self.view_is) c.requires.to) in
    omega (arith, has_to, p.ends.ok.0)

pub invariant_of-self : goal.invariant_of-self
invariant_of-self g c =
    let p = c.self.inside in
    let has = list_within p.blank p.nodes.items c.self.invariant.linked c.args.from (subst (λ (l : Lists _). HasList l c.args.from) (sym c.self.view_is) c.requires.from) in
    let has_to = list_within p.blank p.nodes.items c.self.invariant.linked c.args.to (subst (λ (l : Lists _). HasList l c.args.to) (sym c.self.view_is) c.requires.to) in
    still_kept p.blank p.nodes.items c.self.invariant c.join-joined.new.nodes.items (p.free ∷ set (set p.ends.items c.args.from no_ends) c.args.to c.join-joined.result) _
    (rw (set_up p.free p.ends.items c.args.from no_ends, set_up p.free (set p.ends.items c.args.from no_ends) c.args.to c.join-joined.result) at
    (append_keeps p.blank p.nodes.items c.self.invariant.linked c.args.from c.args.to has has_to c.requires.two
    c.index-back.result.now c.index-front.result.now (read_up p.free p.ends.items c.args.from c.index-back.result.now c.index-back.ensures) (read_up p.free p.ends.items c.args.to c.index-front.result.now c.index-front.ensures)
    c.join-joined.new.nodes.items c.join-joined.result c.join-joined.ensures.items c.join-joined.ensures.joined c.join-joined.ensures.last))
    c.join-joined.ensures.joined.size c.join-joined.ensures.room

pub returns : goal.returns
returns g c =
    let p = c.self.inside in
    let has = list_within p.blank p.nodes.items c.self.invariant.linked c.args.from (subst (λ (l : Lists _). HasList l c.args.from) (sym c.self.view_is) c.requires.from) in
    let has_to = list_within p.blank p.nodes.items c.self.invariant.linked c.args.to (subst (λ (l : Lists _). HasList l c.args.to) (sym c.self.view_is) c.requires.to) in
    rw (← c.self.view_is)
    (ap (λ (l : Lists _). with_fresh p.fresh l) (rw (set_up p.free p.ends.items c.args.from no_ends, set_up p.free (set p.ends.items c.args.from no_ends) c.args.to c.join-joined.result) at
    (append_makes p.blank p.nodes.items c.self.invariant.linked c.args.from c.args.to has has_to c.requires.two
    c.index-back.result.now c.index-front.result.now (read_up p.free p.ends.items c.args.from c.index-back.result.now c.index-back.ensures) (read_up p.free p.ends.items c.args.to c.index-front.result.now c.index-front.ensures)
    c.join-joined.new.nodes.items c.join-joined.result c.join-joined.ensures.items c.join-joined.ensures.joined c.join-joined.ensures.last)))
