use Rattle.std.proofs.Common.{length, ap, sym, ◌∙◌, arith, ◌∷◌, ◌++◌}
use Rattle.auc_graph.specs.Numbers.{numbers}
use Rattle.auc_graph.specs.Tokens.{is_separator}
use Rattle.std.specs.List.{position_or_len}
use Rattle.auc_graph.proofs.PieceLaws.{whole_token_and, token_takes, cut_behind}
use Rattle.auc_graph.proofs.front.any_whole.Goals as goal

pub returns-then-len-token-clause-found : goal.returns-then-len-token-clause-found
returns-then-len-token-clause-found c = λ more.
    whole_token_and c.args.bytes.now c.from_place.result.now c.from_place-token.result.now c.separators_len-start.result c.number_at-number.result.1 c.separators_len-start.ensures.len c.from_place-token.ensures c.number_at-number.ensures.len (omega arith) c.from_place.ensures more
    ∙ ap (λ x. x ∷ numbers (c.from_place.result.now ++ more)) (sym c.number_at-number.ensures.number)

pub returns-then-len-token-clause-shorter : goal.returns-then-len-token-clause-shorter
returns-then-len-token-clause-shorter c =
    token_takes c.args.bytes.now c.from_place.result.now c.from_place-token.result.now c.separators_len-start.result c.number_at-number.result.1 c.from_place-token.ensures (omega arith) c.from_place.ensures

pub returns-else-len-token-clause-none : goal.returns-else-len-token-clause-none
returns-else-len-token-clause-none c =
    cut_behind c.args.bytes.now c.separators_len-start.result c.number_at-number.result.1 c.separators_len-start.ensures.len (c.number_at-number.ensures.len ∙ ap (position_or_len is_separator) c.from_place-token.ensures) (omega (arith, ap length c.from_place-token.ensures))
