use Rattle.std.proofs.Common.{◌∙◌, ap, refl, set, sym, arith}
use Rattle.std.proofs.lemmas.List.{get_or_read, length-map, map-set, set-get_or}
use Rattle.auc_nodes.specs.Links.{items_of, no_ends}
use Rattle.auc_nodes.specs.declared.links.Node.{Node}
use Rattle.auc_nodes.specs.declared.links.Ends.{Ends}
use Rattle.auc_nodes.proofs.Joining.{front_within, last_both, behind_none, behind_some}
use Rattle.auc_nodes.proofs.links.link_behind.Goals as goal
use Rattle.auc_nodes.proofs.links.link_behind.Goals.{then-list-eq0, else-list-eq0}

pub index_mut-requires : goal.index_mut-requires
index_mut-requires g c =
    let is = get_or_read c.args.ends.now.items c.args.list c.index_mut-list.result.now c.requires.list c.index_mut-list.ensures.value no_ends in
    let within = front_within c.requires.can (omega (arith, ap (λ (e : Ends). e.len) is)) (omega arith) in
    omega (arith, within, ap (λ (e : Ends). e.last) is, length-map c.args.nodes.now.items (λ (n : Node _). n.next), c.args.nodes.now.ok.0)

pub returns-clause-joined : goal.returns-clause-joined
returns-clause-joined g c =
    let is = get_or_read c.args.ends.now.items c.args.list c.index_mut-list.result.now c.requires.list c.index_mut-list.ensures.value no_ends in
    elim c.if-list-eq0.branch [
      | then-list-eq0 w ↦ rw w.nodes-is (behind_none c.requires.can (omega (arith, w.if-list-eq0.true, ap (λ (e : Ends). e.len) is)))
      | else-list-eq0 w ↦ rw (w.nodes-is, map-set (λ (n : Node _). n.next) c.args.nodes.now.items c.index_mut-list.result.now.last (record { item = w.index_mut.result.now.item; next = c.args.node }), is)
          (behind_some c.requires.can (omega (arith, w.if-list-eq0.false, ap (λ (e : Ends). e.len) is)))
    ]

pub returns-clause-items : goal.returns-clause-items
returns-clause-items g c =
    elim c.if-list-eq0.branch [
      | then-list-eq0 w ↦ rw w.nodes-is refl
      | else-list-eq0 w ↦
          let xs = c.args.nodes.now.items in
          let i = c.index_mut-list.result.now.last in
          let x = w.index_mut.result.now in
          rw w.nodes-is
          (map-set (λ (n : Node _). n.item) xs i (record { item = x.item; next = c.args.node })
          ∙ (sym (map-set (λ (n : Node _). n.item) xs i x)
          ∙ ap items_of (ap (set xs i) w.index_mut.ensures.value ∙ set-get_or xs i x)))
    ]

pub returns-clause-last : goal.returns-clause-last
returns-clause-last g c = last_both c.requires.can (omega arith)
