use Rattle.clap.specs.Words.{with_subcommand}
use Rattle.auction.specs.Grammar.{check_grammar, hall_grammar, mail_grammar, solve_grammar, bare_grammar}
use Rattle.auction.proofs.GrammarLaws.{adds, adds_last}
use Rattle.auction.proofs.grammar.all_commands.Goals as goal

pub returns : goal.returns
returns c =
    let with_check = adds c.bare_command.result c.in_ok-check.check c.in_ok-subcommand.field-0 bare_grammar check_grammar c.in_ok-subcommand.ensures c.in_ok-check.ensures.local c.bare_command.ensures c.in_ok-check.ensures.shape in
    let with_hall = adds c.in_ok-subcommand.field-0 c.in_ok-hall.hall c.in_ok-subcommand-2.field-0 (with_subcommand bare_grammar check_grammar.top) hall_grammar c.in_ok-subcommand-2.ensures c.in_ok-hall.ensures.local with_check c.in_ok-hall.ensures.shape in
    let with_mail = adds c.in_ok-subcommand-2.field-0 c.in_ok-mail.mail c.in_ok-subcommand-3.field-0 (with_subcommand (with_subcommand bare_grammar check_grammar.top) hall_grammar.top) mail_grammar c.in_ok-subcommand-3.ensures c.in_ok-mail.ensures.local with_hall c.in_ok-mail.ensures.shape in
    adds_last c.in_ok-subcommand-3.field-0 c.in_ok-solve.solve c.subcommand-4.result (with_subcommand (with_subcommand (with_subcommand bare_grammar check_grammar.top) hall_grammar.top) mail_grammar.top) solve_grammar c.subcommand-4.ensures c.in_ok-solve.ensures.local with_mail c.in_ok-solve.ensures.shape
