use Rattle.std.proofs.Common.{◌∷◌, ap, set, refl, sym, subst}
use Rattle.auc_nodes.specs.Links.{no_ends}
use Rattle.auc_nodes.specs.Lists.{Lists, HasList}
use Rattle.auc_nodes.specs.Pool.{with_fresh}
use Rattle.auc_nodes.proofs.Counting.{still_kept}
use Rattle.auc_nodes.proofs.Steps.{list_within, can_clear, clear_keeps, clear_makes}
use Rattle.auc_nodes.proofs.Parts.{read_up, set_up}
use Rattle.auc_nodes.proofs.pool.NodePool.clear.Goals as goal

pub join-joined-requires : goal.join-joined-requires
join-joined-requires g c =
    let p = c.self.inside in
    let has = list_within p.blank p.nodes.items c.self.invariant.linked c.args.list (subst (λ (l : Lists _). HasList l c.args.list) (sym c.self.view_is) c.requires) in
    can_clear p.blank p.nodes.items c.self.invariant.linked c.args.list has c.index-front.result.now (read_up p.free p.ends.items c.args.list c.index-front.result.now c.index-front.ensures) p.free refl

pub invariant_of-self : goal.invariant_of-self
invariant_of-self g c =
    let p = c.self.inside in
    let has = list_within p.blank p.nodes.items c.self.invariant.linked c.args.list (subst (λ (l : Lists _). HasList l c.args.list) (sym c.self.view_is) c.requires) in
    let keeps = clear_keeps p.blank p.nodes.items c.self.invariant.linked c.args.list has c.index-front.result.now (read_up p.free p.ends.items c.args.list c.index-front.result.now c.index-front.ensures) p.free refl
    c.join-joined.new.nodes.items c.join-joined.result c.join-joined.ensures.items c.join-joined.ensures.joined in
    still_kept p.blank p.nodes.items c.self.invariant c.join-joined.new.nodes.items (c.join-joined.result ∷ set p.ends.items c.args.list no_ends) _
    (rw (set_up p.free p.ends.items c.args.list no_ends) at keeps) c.join-joined.ensures.joined.size c.join-joined.ensures.room

pub returns : goal.returns
returns g c =
    let p = c.self.inside in
    let has = list_within p.blank p.nodes.items c.self.invariant.linked c.args.list (subst (λ (l : Lists _). HasList l c.args.list) (sym c.self.view_is) c.requires) in
    let makes = clear_makes p.blank p.nodes.items c.self.invariant.linked c.args.list has c.index-front.result.now (read_up p.free p.ends.items c.args.list c.index-front.result.now c.index-front.ensures) p.free refl
    c.join-joined.new.nodes.items c.join-joined.result c.join-joined.ensures.items c.join-joined.ensures.joined in
    rw (← c.self.view_is) (ap (λ (l : Lists _). with_fresh p.fresh l) (rw (set_up p.free p.ends.items c.args.list no_ends) at makes))
