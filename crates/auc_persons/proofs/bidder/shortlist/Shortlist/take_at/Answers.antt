use Rattle.std.proofs.Common.{◌≡◌, get_or, w64, arith, rules}
use Rattle.std.specs.Prelude.{FitsSigned}
use Rattle.std.proofs.lemmas.Int.{ints, to_z-of_z}
use Rattle.auc_persons.specs.Priced.{no_arc, value_in}
use Rattle.auc_persons.proofs.Shortlists.{row_one, row_out}
use Rattle.auc_persons.proofs.bidder.shortlist.Shortlist.take_at.Goals as goal

pub returns-else-is_full-clause-taken : goal.returns-else-is_full-clause-taken
returns-else-is_full-clause-taken c _ = rw c.push.ensures (row_one (value_in c.args.row) c.args.row.arcs.now c.args.self.now.arcs c.args.bound c.args.place c.args.row.is_row.rising c.requires.within c.requires.gathered)

pub returns-else-value-bound-clause-taken : goal.returns-else-value-bound-clause-taken
returns-else-value-bound-clause-taken c _ =
    let f2 : FitsSigned w64 c.value.result = search rules in
    let f5 : FitsSigned w64 c.args.bound = c.ranges.bound in
    let val = value_in c.args.row in
    let is : c.value.result ≡ val (get_or c.args.row.arcs.now c.args.place no_arc) = c.value.ensures.is in
    let above = simp to_z-of_z at c.if-value-bound.false in
    row_out val c.args.row.arcs.now c.args.self.now.arcs c.args.bound c.args.place c.args.row.is_row.rising c.requires.within c.requires.gathered (omega (arith, ints, is, above))
