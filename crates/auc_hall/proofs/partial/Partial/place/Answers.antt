use Rattle.std.proofs.Common.{subst, sym, ap, ◌∙◌, List, Option}
use Rattle.auc_graph.specs.declared.rows.RowArc.{RowArc}
use Rattle.auc_hall.specs.Partial.{Placed, IsNotPlaced, MayPlace}
use Rattle.auc_hall.proofs.partial.Partial.place.Goals as goal

pub returns-clause-refused : goal.returns-clause-refused
returns-clause-refused c h a may =
    let same = ap (λ (p : Placed). p.choice) (sym c.self.view_is) ∙ sym c.as_mut_slice.ensures.value in
    c.place_in.ensures.refused h a (subst (λ (choice : List (Option RowArc)). MayPlace c.args.rows.now choice c.args.person c.args.arc a) same may)

pub returns-clause-cause : goal.returns-clause-cause
returns-clause-cause c h =
    let same = ap (λ (p : Placed). p.choice) (sym c.self.view_is) ∙ sym c.as_mut_slice.ensures.value in
    subst (λ (choice : List (Option RowArc)). IsNotPlaced c.args.rows.now choice c.args.person c.args.arc) (sym same) (c.place_in.ensures.cause h)
