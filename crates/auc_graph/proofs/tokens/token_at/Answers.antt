use Rattle.std.proofs.Common.{◌≡◌, ◌+◌, drop, ap, ◌∙◌, arith}
use Rattle.std.specs.List.{position_or_len, prefix_len}
use Rattle.std.proofs.lemmas.List.{length-drop}
use Rattle.auc_graph.specs.Tokens.{is_separator}
use Rattle.auc_graph.proofs.TokenLaws.{no_token, next_token_from, first_token_is}
use Rattle.auc_graph.proofs.tokens.token_at.Goals as goal

pub returns-then-from-bytes-clause-none : goal.returns-then-from-bytes-clause-none
returns-then-from-bytes-clause-none c = no_token (drop c.args.from c.args.bytes.now) (omega (arith, length-drop c.args.from c.args.bytes.now))

pub returns-then-start-bytes-clause-none : goal.returns-then-start-bytes-clause-none
returns-then-start-bytes-clause-none c =
    let e : c.separators_len.result ≡ prefix_len is_separator (drop c.args.from c.args.bytes.now) = c.separators_len.ensures.len ∙ ap (prefix_len is_separator) c.from_place.ensures in
    no_token (drop c.args.from c.args.bytes.now) (omega (arith, e, length-drop c.args.from c.args.bytes.now))

pub returns-clause-found : goal.returns-clause-found
returns-clause-found c =
    let es : c.separators_len.result ≡ prefix_len is_separator (drop c.args.from c.args.bytes.now) = c.separators_len.ensures.len ∙ ap (prefix_len is_separator) c.from_place.ensures in
    let en : c.token_len.result ≡ position_or_len is_separator (drop (c.args.from + c.separators_len.result) c.args.bytes.now) = c.token_len.ensures.len ∙ ap (position_or_len is_separator) c.from_place-2.ensures in
    let t = next_token_from c.args.bytes.now c.args.from c.separators_len.result c.token_len.result es en (omega arith) in
    first_token_is c.args.bytes.now c.args.from c.separators_len.result c.token_len.result es en (omega arith) t.0

pub returns-clause-tokens : goal.returns-clause-tokens
returns-clause-tokens c =
    let es : c.separators_len.result ≡ prefix_len is_separator (drop c.args.from c.args.bytes.now) = c.separators_len.ensures.len ∙ ap (prefix_len is_separator) c.from_place.ensures in
    let en : c.token_len.result ≡ position_or_len is_separator (drop (c.args.from + c.separators_len.result) c.args.bytes.now) = c.token_len.ensures.len ∙ ap (position_or_len is_separator) c.from_place-2.ensures in
    (next_token_from c.args.bytes.now c.args.from c.separators_len.result c.token_len.result es en (omega arith)).1
