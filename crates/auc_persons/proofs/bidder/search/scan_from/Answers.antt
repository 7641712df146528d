use Rattle.std.proofs.Common.{get_or, take, w64, arith, rules}
use Rattle.std.specs.Prelude.{FitsSigned}
use Rattle.std.proofs.lemmas.Int.{ints, to_z-of_z}
use Rattle.std.proofs.lemmas.List.{take_all}
use Rattle.std.proofs.lemmas.List.Elements.{All-more, All-weaker, Contains-get_or}
use Rattle.auc_graph.specs.declared.rows.RowArc.{RowArc}
use Rattle.auc_persons.specs.Priced.{no_arc, value_in}
use Rattle.auc_persons.specs.Search.{Covers}
use Rattle.auc_persons.proofs.Found.{above_limit, taken_is, whole}
use Rattle.auc_persons.proofs.bidder.search.scan_from.Goals as goal
use Rattle.auc_persons.proofs.bidder.search.scan_from.Goals.{then-value-search, else-value-search}

pub loop-place-preserved : goal.loop-place-preserved
loop-place-preserved c =
    let f2 : FitsSigned w64 c.value-value.result = search rules in
    let val = value_in c.args.row in
    let row = c.args.row.arcs.now in
    let i = c.loop-place.place in
    let a : RowArc = get_or row i no_arc in
    let lt = c.loop-place-test.true in
    let inv = c.loop-place.invariant in
    let is = c.value-value.ensures.is in
    let ok = c.value-value.ensures.range in
    let there = Contains-get_or row i no_arc lt in
    elim c.if-value-search.branch [
      | then-value-search w ↦ (
          let t = simp to_z-of_z at w.with-search.ensures.taken in
          let got = taken_is val row c.loop-place.search.scan w.with-search.result.scan a c.value-value.result inv.found there is ok t in
          rw w.search-is (record {
            found = got.found;
            limit = w.with-search.ensures.limit;
            covered = All-more (Covers val w.with-search.result.scan) row i no_arc lt (All-weaker (Covers val c.loop-place.search.scan) (Covers val w.with-search.result.scan) got.kept (take i row) inv.covered) got.covered;
          })
          )
      | else-value-search w ↦ (
          rw w.search-is (record {
            found = inv.found;
            limit = inv.limit;
            covered = All-more (Covers val c.loop-place.search.scan) row i no_arc lt inv.covered (above_limit val row c.loop-place.search.scan a c.value-value.result c.loop-place.search.limit inv.found is ok inv.limit (omega (arith, ints)));
          })
          )
    ]

pub returns-clause-some : goal.returns-clause-some
returns-clause-some c =
    let val = value_in c.args.row in
    let inv = c.loop-place.invariant in
    let all = take_all c.loop-place.place c.args.row.arcs.now c.loop-place-test.false in
    whole val c.args.row.arcs.now c.loop-place.search.scan inv.found (rw all at inv.covered)
