use Rattle.std.proofs.Common.{refl, sym, subst, arith}
use Rattle.auc_nodes.specs.Lists.{Lists, HasList}
use Rattle.auc_nodes.proofs.Steps.{list_within, none_listed, node_within, node_listed}
use Rattle.auc_nodes.proofs.Parts.{read_up}
use Rattle.auc_nodes.proofs.pool.NodePool.front.Goals as goal

pub index-requires : goal.index-requires
index-requires g c =
    let p = c.self.inside in
    let has = list_within p.blank p.nodes.items c.self.invariant.linked c.args.list (subst (λ (l : Lists _). HasList l c.args.list) (sym c.self.view_is) c.requires) in
    omega (arith, node_within p.blank p.nodes.items c.self.invariant.linked c.args.list has c.index-ends.result.now (read_up p.free p.ends.items c.args.list c.index-ends.result.now c.index-ends.ensures) (omega arith), p.nodes.ok.0)

pub returns-then-ends-eq0 : goal.returns-then-ends-eq0
returns-then-ends-eq0 g c =
    let p = c.self.inside in
    let has = list_within p.blank p.nodes.items c.self.invariant.linked c.args.list (subst (λ (l : Lists _). HasList l c.args.list) (sym c.self.view_is) c.requires) in
    rw (← c.self.view_is, none_listed p.blank p.nodes.items c.self.invariant.linked c.args.list has c.index-ends.result.now (read_up p.free p.ends.items c.args.list c.index-ends.result.now c.index-ends.ensures) c.if-ends-eq0.true) refl

pub returns-else-ends-eq0 : goal.returns-else-ends-eq0
returns-else-ends-eq0 g c =
    let p = c.self.inside in
    let has = list_within p.blank p.nodes.items c.self.invariant.linked c.args.list (subst (λ (l : Lists _). HasList l c.args.list) (sym c.self.view_is) c.requires) in
    rw (← c.self.view_is, node_listed p.blank p.nodes.items c.self.invariant.linked c.args.list has c.index-ends.result.now (read_up p.free p.ends.items c.args.list c.index-ends.result.now c.index-ends.ensures) (omega arith) c.index.result.now c.index.ensures) refl
