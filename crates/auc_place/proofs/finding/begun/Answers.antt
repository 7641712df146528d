use Rattle.std.proofs.Common.{◌≡◌, ◌<◌, ◌∷◌, [], refl, ◌∙◌, subst, arith, length}
use Rattle.auc_graph.specs.Tokens.{tokens}
use Rattle.auc_place.specs.Search.{EndsSo, IsApart}
use Rattle.auc_place.proofs.finding.begun.Goals as goal

pub returns-then-next-number : goal.returns-then-next-number
returns-then-next-number c = λ seen few found.
    let old = found.0 in
    let many : c.args.cursor.tokens ≡ length (tokens seen) = old.has.many in
    let grown : c.args.cursor.tokens < c.behind-next.result.tokens = omega (arith, many, found.1) in
    let begins = c.behind-next.ensures.begins grown in
    let apart : IsApart seen = subst (λ b. EndsSo b seen) begins.0 old.has.ends in (
      record {
        before = seen;
        token = c.args.byte ∷ [];
        parts = refl;
        apart = apart;
        numbered = omega (arith, many, found.1, begins.2);
        some = omega arith;
        plain = (begins.1, tt);
        line = c.begun.ensures.line ∙ old.line;
        column = c.begun.ensures.column ∙ old.column;
        shown = c.begun.ensures.shows;
      },
      c.begun.ensures.shows.whole,
    )

pub returns-else-next-number : goal.returns-else-next-number
returns-else-next-number c = λ seen few found.
    let is = c.behind-next.ensures.is seen few found.0 in
    let many = is.has.many in
    (is, omega (arith, many))
