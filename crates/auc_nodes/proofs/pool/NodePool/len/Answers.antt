use Rattle.std.proofs.Common.{sym, subst}
use Rattle.auc_nodes.specs.Lists.{Lists, HasList}
use Rattle.auc_nodes.proofs.Steps.{list_within, len_listed}
use Rattle.auc_nodes.proofs.Parts.{read_up}
use Rattle.auc_nodes.proofs.pool.NodePool.len.Goals as goal

pub returns : goal.returns
returns g c =
    let p = c.self.inside in
    let has = list_within p.blank p.nodes.items c.self.invariant.linked c.args.list (subst (λ (l : Lists _). HasList l c.args.list) (sym c.self.view_is) c.requires) in
    rw (← c.self.view_is) (len_listed p.blank p.nodes.items c.self.invariant.linked c.args.list has c.index.result.now (read_up p.free p.ends.items c.args.list c.index.result.now c.index.ensures))
