-- The grammar of the command line, as the parser of words sees it.
use Rattle.std.specs.Prelude.{List, [], ◌∷◌, ℕ, Some, true, codes}
use Rattle.clap.specs.Words.{App, Rule, new_app, new_rule, with_rule, with_subcommand}
use Rattle.clap.specs.Simple.{on_top}
use Rattle.clap.specs.declared.builder.action.ArgAction.TheVariants.{Set}

abbrev pub file_rule : Rule
file_rule = record (new_rule (codes "file")) { required = true }

-- `--NAME VALUE` or `--NAME=VALUE`, at most once
abbrev pub option_rule : List ℕ → Rule
option_rule name = record (new_rule name) { long = Some name }

-- `--NAME`, at most once, which stands for the value `true`
abbrev pub flag_rule : List ℕ → Rule
flag_rule name = record (new_rule name) { long = Some name; action = Some Set; range = Some (record { start_inclusive = 0; end_inclusive = 0 }); missing = codes "true" ∷ [] }

-- `check FILE [CERT] [--objects M] [--large]`
abbrev pub check_grammar : App
check_grammar = with_rule (with_rule (with_rule (with_rule (on_top (λ s. record s { disable_help_flag = true }) (new_app (codes "check"))) file_rule) (new_rule (codes "cert"))) (option_rule (codes "objects"))) (flag_rule (codes "large"))

-- `hall [FILE] [--objects M] [--large]`
abbrev pub hall_grammar : App
hall_grammar = with_rule (with_rule (with_rule (on_top (λ s. record s { disable_help_flag = true }) (new_app (codes "hall"))) (new_rule (codes "file"))) (option_rule (codes "objects"))) (flag_rule (codes "large"))

-- `mail [SCRIPT]`
abbrev pub mail_grammar : App
mail_grammar = with_rule (on_top (λ s. record s { disable_help_flag = true }) (new_app (codes "mail"))) (new_rule (codes "script"))

-- `solve [FILE] [--workers K] [--bids N] [--audit ROOM] [--objects M] [--from CERT]`
abbrev pub optioned_grammar : App
optioned_grammar = with_rule (with_rule (with_rule (with_rule (with_rule (with_rule (on_top (λ s. record s { disable_help_flag = true }) (new_app (codes "solve"))) (new_rule (codes "file")))
    (option_rule (codes "workers"))) (option_rule (codes "bids"))) (option_rule (codes "audit"))) (option_rule (codes "objects"))) (option_rule (codes "from"))

-- the same with `[--seconds T] [--direct] [--progress] [--large]`
abbrev pub solve_grammar : App
solve_grammar = with_rule (with_rule (with_rule (with_rule optioned_grammar (option_rule (codes "seconds"))) (flag_rule (codes "direct"))) (flag_rule (codes "progress"))) (flag_rule (codes "large"))

-- no help, no version, and a command has to be named
abbrev pub bare_grammar : App
bare_grammar = on_top (λ s. record s {
  no_binary_name = true;
  disable_help_flag = true;
  disable_version_flag = true;
  disable_help_subcommand = true;
  subcommand_required = true;
}) (new_app (codes "auction"))

abbrev pub grammar : App
grammar =
    with_subcommand
    (with_subcommand (with_subcommand (with_subcommand bare_grammar check_grammar.top) hall_grammar.top) mail_grammar.top)
    solve_grammar.top
