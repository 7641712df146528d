use Rattle.auc_cert.specs.Text.{numbered, joined, assign_line, price_line, choice_lines}
use Rattle.auc_cert.proofs.WriteLaws.{two_lists, cut_in_first, cut}
use Rattle.auc_cert.proofs.writing.write_choice.Goals as goal

pub returns-in_err-write_picks : goal.returns-in_err-write_picks
returns-in_err-write_picks g c =
    cut c.from_residual.result (g.W.Write.contents c.args.writer.now) (g.W.Write.contents c.write_picks.new.writer) (joined (choice_lines c.args.choice.now c.args.prices.now)) c.from_residual.ensures.0
    (cut_in_first (g.W.Write.contents c.args.writer.now) (g.W.Write.contents c.write_picks.new.writer) (numbered assign_line 0 c.args.choice.now) (numbered price_line 0 c.args.prices.now) c.in_err-write_picks.ensures)

pub returns : goal.returns
returns g c =
    two_lists c.write_prices.result (g.W.Write.contents c.args.writer.now) (g.W.Write.contents c.write_picks.new.writer) (g.W.Write.contents c.write_prices.new.writer) (numbered assign_line 0 c.args.choice.now) (numbered price_line 0 c.args.prices.now)
    c.in_ok-write_picks.ensures c.write_prices.ensures
