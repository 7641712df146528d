use Rattle.std.proofs.Common.{◌<◌, length, get_or, w64, arith, rules}
use Rattle.std.specs.Prelude.{FitsSigned}
use Rattle.std.proofs.lemmas.Int.{ints, to_z-of_z}
use Rattle.std.proofs.lemmas.List.Elements.{Contains-get_or}
use Rattle.auc_graph.specs.declared.rows.RowArc.{RowArc}
use Rattle.auc_persons.specs.Priced.{no_arc, value_in}
use Rattle.auc_persons.specs.Search.{Covers}
use Rattle.auc_persons.proofs.Found.{above_limit, taken_is}
use Rattle.auc_persons.proofs.Parts.{covered_more, covered_weaker}
use Rattle.auc_persons.proofs.bidder.bounded.with_part.Goals as goal
use Rattle.auc_persons.proofs.bidder.bounded.with_part.Goals.{then-value-search, else-value-search}

pub loop-place-preserved : goal.loop-place-preserved
loop-place-preserved c =
    let f2 : FitsSigned w64 c.value-value.result = search rules in
    let val = value_in c.args.row in
    let row = c.args.row.arcs.now in
    let i = c.loop-place.place in
    let a : RowArc = get_or row i no_arc in
    let lt : i < length row = omega (arith, c.loop-place-test.true, c.requires.within) in
    let inv = c.loop-place.invariant in
    let is = c.value-value.ensures.is in
    let ok = c.value-value.ensures.range in
    let there = Contains-get_or row i no_arc lt in
    elim c.if-value-search.branch [
      | then-value-search w ↦ (
          let t = simp to_z-of_z at w.with-search.ensures.taken in
          let got = taken_is val row c.loop-place.search.scan w.with-search.result.scan a c.value-value.result inv.found there is ok t in
          rw w.search-is (record {
            found = got.found;
            limit = w.with-search.ensures.limit;
            kept = λ b old. got.kept b (inv.kept b old);
            covered = covered_more (Covers val w.with-search.result.scan) row c.args.from i lt (covered_weaker val c.loop-place.search.scan w.with-search.result.scan row c.args.from i got.kept inv.covered) got.covered;
          })
          )
      | else-value-search w ↦ (
          rw w.search-is (record {
            found = inv.found;
            limit = inv.limit;
            kept = inv.kept;
            covered = covered_more (Covers val c.loop-place.search.scan) row c.args.from i lt inv.covered (above_limit val row c.loop-place.search.scan a c.value-value.result c.loop-place.search.limit inv.found is ok inv.limit (omega (arith, ints)));
          })
          )
    ]

pub returns-clause-kept : goal.returns-clause-kept
returns-clause-kept c =
    let inv = c.loop-place.invariant in
    inv.kept

pub returns-clause-covered : goal.returns-clause-covered
returns-clause-covered c =
    let inv = c.loop-place.invariant in
    λ k d le lt. inv.covered k d le (omega (arith, c.loop-place-test.false))
