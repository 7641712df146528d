use Rattle.std.proofs.Common.{sym, ◌∙◌, ap, subst, arith, ◌≡◌, false, true, length}
use Rattle.auc_graph.specs.Tokens.{is_separator}
use Rattle.auc_place.specs.Search.{EndsSo, IsApart, IsInside}
use Rattle.auc_place.proofs.TokenLaws.{same_behind, apart_behind, one_more, inside_begun, as_many, inside_more, few_tokens}
use Rattle.auc_place.proofs.cursor.tokens_behind.Goals as goal

pub returns-then-is_separator_byte-clause-has : goal.returns-then-is_separator_byte-clause-has
returns-then-is_separator_byte-clause-has c = λ seen few has.
    let parts : is_separator c.args.byte ≡ true = sym c.is_separator_byte.ensures ∙ c.if-is_separator_byte.true in
    record { many = has.many ∙ sym (ap length (same_behind seen c.args.byte parts)); ends = apart_behind seen c.args.byte parts }

pub returns-then-inside-clause-has : goal.returns-then-inside-clause-has
returns-then-inside-clause-has c = λ seen few has.
    let stays : is_separator c.args.byte ≡ false = sym c.is_separator_byte.ensures ∙ c.if-is_separator_byte.false in
    let inside : IsInside seen = subst (λ b. EndsSo b seen) c.if-inside.true has.ends in
    record { many = has.many ∙ sym (as_many seen c.args.byte inside stays); ends = inside_more seen c.args.byte inside stays }

pub returns-else-inside-clause-has : goal.returns-else-inside-clause-has
returns-else-inside-clause-has c = λ seen few has.
    let stays : is_separator c.args.byte ≡ false = sym c.is_separator_byte.ensures ∙ c.if-is_separator_byte.false in
    let apart : IsApart seen = subst (λ b. EndsSo b seen) c.if-inside.false has.ends in
    record { many = omega (arith, has.many, few, few_tokens seen, one_more seen c.args.byte apart stays, c.saturating_add.ensures); ends = inside_begun seen c.args.byte apart stays }
