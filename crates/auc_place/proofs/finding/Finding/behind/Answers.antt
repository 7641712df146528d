use Rattle.std.proofs.Common.{ℕ, ◌+◌, ◌<◌, List, [], ◌∷◌, ◌++◌, ◌≡◌, length, take, get_or, sym, ◌∙◌, ap, subst, arith, length-append, append_assoc}
use Rattle.std.proofs.lemmas.List.{length-take-le, take_more}
use Rattle.auc_place.specs.Search.{IsFinding}
use Rattle.auc_place.proofs.finding.Finding.behind.Goals as goal

pub loop-byte-preserved : goal.loop-byte-preserved
loop-byte-preserved c = λ seen few found.
    let i = c.loop-byte.byte-index in
    let piece = c.args.piece.now in
    let lt : c.loop-byte.byte-index < length c.args.piece.now = c.loop-byte-test.true in
    let len : length (seen ++ take c.loop-byte.byte-index c.args.piece.now) ≡ length seen + c.loop-byte.byte-index = length-append seen (take c.loop-byte.byte-index c.args.piece.now) ∙ ap (λ n. length seen + n) (length-take-le c.loop-byte.byte-index c.args.piece.now (omega arith)) in
    let here = c.next-finding.ensures (seen ++ take c.loop-byte.byte-index c.args.piece.now) (omega (arith, len, lt, few)) (c.loop-byte.invariant seen few found) in
    subst (λ (t : List ℕ). IsFinding c.args.number t c.next-finding.result) (append_assoc seen (take i piece) (get_or piece i 0 ∷ []) ∙ ap (λ (t : List ℕ). seen ++ t) (sym (take_more piece i 0 lt))) here
