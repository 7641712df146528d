use Rattle.std.proofs.Common.{arith, pos, rules, w64}
use Rattle.std.specs.Prelude.{FitsSigned as SFits}
use Rattle.std.proofs.lemmas.Int.{to_z-of_z}
use Rattle.auc_graph.specs.Dual.{price_at}
use Rattle.auc_cert.specs.Text.{price_line, joined, numbered}
use Rattle.auc_cert.proofs.WriteLaws.{one_more, cut_in_line, cut}
use Rattle.auc_cert.proofs.writing.write_prices.Goals as goal

pub loop-price-preserved : goal.loop-price-preserved
loop-price-preserved g c = record {
  counted = omega arith;
  written =
      let fits : SFits w64 (price_at c.args.prices.now c.loop-price.price-index) = search rules in
      one_more price_line c.args.prices.now c.loop-price.price-index c.loop-price.object (pos 0) (g.W.Write.contents c.args.writer.now) (g.W.Write.contents c.loop-price.writer) (g.W.Write.contents c.write_price.new.writer) (omega arith) c.loop-price.invariant.counted c.loop-price.invariant.written (simp to_z-of_z at c.in_ok-write_price.ensures);
}

pub returns-in_err-write_price : goal.returns-in_err-write_price
returns-in_err-write_price g c =
    let fits : SFits w64 (price_at c.args.prices.now c.loop-price.price-index) = search rules in
    cut c.from_residual.result (g.W.Write.contents c.args.writer.now) (g.W.Write.contents c.write_price.new.writer) (joined (numbered price_line 0 c.args.prices.now)) c.from_residual.ensures.0
    (cut_in_line price_line c.args.prices.now c.loop-price.price-index c.loop-price.object (pos 0) (g.W.Write.contents c.args.writer.now) (g.W.Write.contents c.loop-price.writer) (g.W.Write.contents c.write_price.new.writer) (omega arith) c.loop-price.invariant.counted c.loop-price.invariant.written (simp to_z-of_z at c.in_err-write_price.ensures))
