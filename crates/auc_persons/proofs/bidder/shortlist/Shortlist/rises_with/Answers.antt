use Rattle.std.proofs.Common.{rules, true, nat_lt, ◌≡◌, ◌<◌, ◌-◌, ◌++◌, ◌∷◌, [], length, take, get_or, arith, ap, sym}
use Rattle.std.proofs.lemmas.List.{get_or-take, length-take-le}
use Rattle.auc_persons.specs.Candidates.{Listed}
use Rattle.auc_persons.specs.Priced.{no_arc}
use Rattle.auc_persons.specs.Rising.{IsRisingRow}
use Rattle.auc_persons.proofs.RisingLists.{rising_push}
use Rattle.auc_persons.proofs.bidder.shortlist.Shortlist.rises_with.Goals as goal

pub returns : goal.returns
returns c less =
    let arcs = c.self.inside.arcs in
    let n = c.self.inside.count in
    let many : length (take n arcs) ≡ n = length-take-le n arcs (omega (arith, c.self.invariant.few, c.self.invariant.room)) in
    let last : get_or (take n arcs) (n - 1) no_arc ≡ get_or arcs (n - 1) no_arc = get_or-take n arcs (n - 1) no_arc (omega (arith, c.if-self-eq0.false)) in
    let test : nat_lt (get_or arcs (n - 1) no_arc).object c.args.arc.object ≡ true = less in
    let above : (get_or arcs (n - 1) no_arc).object < c.args.arc.object = search (rules, test) in
    let rising : IsRisingRow (take n arcs) = c.self.invariant.rising c.if-not-self.false in
    let found : IsRisingRow (take n arcs ++ c.args.arc ∷ []) = rising_push (take n arcs) c.args.arc no_arc rising (omega (arith, many, c.if-self-eq0.false)) (rw (many, last) above) in
    rw (sym (ap (λ (l : Listed). l.arcs) c.self.view_is)) found
