use Rattle.std.proofs.Common.{length, w64, rules, ap}
use Rattle.std.specs.Prelude.{FitsSigned}
use Rattle.std.proofs.lemmas.Int.{to_z-of_z}
use Rattle.auc_persons.specs.Candidates.{Listed}
use Rattle.auc_persons.specs.Priced.{value_in}
use Rattle.auc_persons.proofs.Shortlists.{decided_if, found_if, list_is_row}
use Rattle.auc_persons.proofs.bidder.shortlist.Shortlist.listed.Goals as goal

pub invariant_of-best-clause-within : goal.invariant_of-best-clause-within
invariant_of-best-clause-within c =
    let row = list_is_row (value_in c.args.row) (length c.args.row.copies.now) c.args.row.arcs.now c.args.self.now.arcs c.args.self.now.bound c.args.row.is_row c.requires.keeps (rw c.arcs.ensures.value at c.arcs.ensures.few) in
    rw c.arcs.ensures.value row.within

pub invariant_of-best-clause-rising : goal.invariant_of-best-clause-rising
invariant_of-best-clause-rising c =
    rw c.arcs.ensures.value (rw (ap (λ (l : Listed). l.arcs) c.self.view_is) at c.self.invariant.rising c.if-self.true)

pub returns-then-self-clause-found : goal.returns-then-self-clause-found
returns-then-self-clause-found c =
    let f1 : FitsSigned w64 c.args.row.scale = search rules in
    let s = simp to_z-of_z at c.best.ensures.some in
    decided_if (value_in c.args.row) c.args.row.arcs.now c.args.self.now.arcs c.args.self.now.bound c.best.result c.requires.keeps (rw c.arcs.ensures.value at s)

pub invariant_of-scan_from-clause-is_row : goal.invariant_of-scan_from-clause-is_row
invariant_of-scan_from-clause-is_row c =
    rw c.arcs-2.ensures.value (list_is_row (value_in c.args.row) (length c.args.row.copies.now) c.args.row.arcs.now c.args.self.now.arcs c.args.self.now.bound c.args.row.is_row c.requires.keeps (rw c.arcs-2.ensures.value at c.arcs-2.ensures.few))

pub returns-clause-found : goal.returns-clause-found
returns-clause-found c =
    let f1 : FitsSigned w64 c.args.row.scale = search rules in
    let s = simp to_z-of_z at c.scan_from.ensures.some in
    decided_if (value_in c.args.row) c.args.row.arcs.now c.args.self.now.arcs c.args.self.now.bound c.scan_from.result c.requires.keeps (rw c.arcs-2.ensures.value at s)

pub returns-then-self-clause-some : goal.returns-then-self-clause-some
returns-then-self-clause-some c =
    let f1 : FitsSigned w64 c.args.row.scale = search rules in
    let s = simp to_z-of_z at c.best.ensures.some in
    found_if (value_in c.args.row) c.args.row.arcs.now c.args.self.now.arcs c.args.self.now.bound c.best.result c.requires.keeps (rw c.arcs.ensures.value at s)

pub returns-clause-some : goal.returns-clause-some
returns-clause-some c =
    let f1 : FitsSigned w64 c.args.row.scale = search rules in
    let s = simp to_z-of_z at c.scan_from.ensures.some in
    found_if (value_in c.args.row) c.args.row.arcs.now c.args.self.now.arcs c.args.self.now.bound c.scan_from.result c.requires.keeps (rw c.arcs-2.ensures.value at s)
