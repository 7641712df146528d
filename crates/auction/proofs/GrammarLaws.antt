-- A subcommand more, in the words of the grammar; and what the parser's contract says of it.
use Rattle.std.proofs.Common.{◌≡◌, false, true, List, [], Result, Ok, Err, ap, refl, ◌∙◌}
use Rattle.std.specs.Prelude.{IfOk}
use Rattle.clap.specs.declared.builder.command.Command.{Command}
use Rattle.clap.specs.declared.builder.command.Command.TheViews.{out-Command as fields_of}
use Rattle.clap.specs.Words.{AddsSubcommand, App, HasMatchesOf, Text, app_of, fault_of, is_simple_and_free, subcommand_of, subcommand_rows_of, takes, with_subcommand}
use Rattle.clap.specs.declared.parser.matches.ArgMatches.{ArgMatches}
use Rattle.auction.specs.Grammar.{grammar}

-- one more subcommand of a known grammar
pub adds : (old sub new : Command) (a b : App) → AddsSubcommand old sub new → (fields_of sub).has_globals ≡ false → app_of old ≡ a → app_of sub ≡ b → app_of new ≡ with_subcommand a b.top
adds old sub new a b h local is of = h.shape local ∙ ap (λ (x : App). with_subcommand x (app_of sub).top) is ∙ ap (λ (x : App). with_subcommand a x.top) of

pub adds_last : {E : Type 0} (old sub : Command) (r : Result Command E) (a b : App) → IfOk r (AddsSubcommand old sub) → (fields_of sub).has_globals ≡ false → app_of old ≡ a → app_of sub ≡ b
    → IfOk r (λ c. app_of c ≡ with_subcommand a b.top)
adds_last old sub (Ok new) a b h local is of = adds old sub new a b h local is of
adds_last old sub (Err e) a b h local is of = tt

-- ---- what the parser's contract says of the grammar, which is simple

pub found_by : (a : App) (words : List Text) (m : ArgMatches) → a ≡ grammar → HasMatchesOf a words m → subcommand_rows_of m ≡ subcommand_of grammar words
found_by a words m is h = let k : HasMatchesOf grammar words m = rw is at h in (k refl).1

pub faultless_by : (a : App) (words : List Text) → a ≡ grammar → (is_simple_and_free a ≡ true → fault_of a words ≡ []) → fault_of grammar words ≡ []
faultless_by a words is h = let k : is_simple_and_free grammar ≡ true → fault_of grammar words ≡ [] = rw is at h in k refl

pub passed_by : {P : Type 0} (a : App) (words : List Text) → a ≡ grammar → (takes a words ≡ true → P) → takes grammar words ≡ true → P
passed_by a words is h taken = h (rw is taken)
