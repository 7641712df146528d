use Rattle.std.proofs.Common.{refl, arith}
use Rattle.std.proofs.lemmas.List.{length-map}
use Rattle.auc_nodes.specs.declared.links.Node.{Node}
use Rattle.auc_nodes.proofs.Counting.{all_read, free_read}
use Rattle.auc_nodes.proofs.pool.NodePool.free.Goals as goal

pub returns-clause-free : goal.returns-clause-free
returns-clause-free g c =
    let p = c.self.inside in
    rw (← c.self.view_is) (free_read p.blank p.nodes.items c.self.invariant.linked p.free refl p.fresh)

pub returns-clause-all : goal.returns-clause-all
returns-clause-all g c =
    let p = c.self.inside in
    rw (← c.self.view_is) (all_read p.blank p.nodes.items c.self.invariant.linked p.free refl p.fresh)

pub overflow_add-result : goal.overflow_add-result
overflow_add-result g c =
    let p = c.self.inside in
    omega (arith, all_read p.blank p.nodes.items c.self.invariant.linked p.free refl p.fresh, c.self.invariant.all_fit, length-map p.nodes.items (λ (n : Node _). n.next))
