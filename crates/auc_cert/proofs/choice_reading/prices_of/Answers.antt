use Rattle.std.proofs.Common.{refl, sym, arith, rules, w64}
use Rattle.std.specs.Prelude.{FitsSigned}
use Rattle.std.proofs.lemmas.Int.{to_z-of_z}
use Rattle.auc_graph.specs.Price.{IsPrice}
use Rattle.auc_cert.specs.Text.{price_line}
use Rattle.auc_cert.proofs.RunLaws.{breaks_off, no_price, price_more}
use Rattle.auc_cert.proofs.choice_reading.prices_of.Goals as goal

pub returns-in-None-clause-line : goal.returns-in-None-clause-line
returns-in-None-clause-line c = λ _.
    let inv = c.loop-object.invariant in
    (c.loop-object.object, refl, breaks_off price_line IsPrice c.args.objects c.args.bytes.now c.loop-object.object c.loop-object.prices.items c.loop-object.rest.now inv c.loop-object-test.true (no_price c.loop-object.object c.loop-object.rest.now (omega arith) c.in-None.ensures))

pub loop-object-preserved : goal.loop-object-preserved
loop-object-preserved c =
    let fits : FitsSigned w64 c.in-Some.found.0 = search rules in
    rw c.in_ok-push.ensures.items (simp to_z-of_z (price_more c.loop-object.object c.args.bytes.now c.loop-object.prices.items c.loop-object.rest.now c.in-Some.found.0 c.in-Some.found.1.now c.loop-object.invariant (sym c.in-Some.ensures)))
