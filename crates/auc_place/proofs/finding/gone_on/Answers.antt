use Rattle.std.proofs.Common.{◌≡◌, ◌++◌, ◌∷◌, [], sym, ◌∙◌, false}
use Rattle.auc_graph.specs.Tokens.{is_separator}
use Rattle.auc_place.proofs.PlaceLaws.{cut_stays, goes_on, place_behind}
use Rattle.auc_place.proofs.finding.gone_on.Goals as goal

pub returns-then-is_separator_byte : goal.returns-then-is_separator_byte
returns-then-is_separator_byte c = λ number seen found more. place_behind number seen c.args.place c.args.byte found.0 (sym c.is_separator_byte.ensures ∙ c.if-is_separator_byte.true) more

pub returns-then-longer : goal.returns-then-longer
returns-then-longer c = λ number seen found.
    let stays : is_separator c.args.byte ≡ false = sym c.is_separator_byte.ensures ∙ c.if-is_separator_byte.false in
    (goes_on number seen c.args.place c.with-longer.result c.args.byte found.0 stays c.with-longer.ensures.line c.with-longer.ensures.column c.with-longer.ensures.shows, c.if-longer.true)

pub returns-else-longer : goal.returns-else-longer
returns-else-longer c = λ number seen found more.
    let stays : is_separator c.args.byte ≡ false = sym c.is_separator_byte.ensures ∙ c.if-is_separator_byte.false in
    cut_stays number c.with-longer.result more (seen ++ c.args.byte ∷ []) (goes_on number seen c.args.place c.with-longer.result c.args.byte found.0 stays c.with-longer.ensures.line c.with-longer.ensures.column c.with-longer.ensures.shows) c.if-longer.false
