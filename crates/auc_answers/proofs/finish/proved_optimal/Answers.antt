use Rattle.std.proofs.Common.{subst, sym, ◌∙◌}
use Rattle.std.proofs.lemmas.Bool.{false≢true}
use Rattle.auc_answers.specs.Answers.{IsCertified}
use Rattle.auc_answers.proofs.FoundLaws.{passed_claim}
use Rattle.auc_answers.proofs.finish.proved_optimal.Goals as goal

pub unreachable-requires-in_default-make_wide : goal.unreachable-requires-in_default-make_wide
unreachable-requires-in_default-make_wide c =
    let made = rw c.in-Some.is at c.in_ok-parts.ensures.some in
    let known = c.requires.passes in
    let sound = passed_claim c.args.problem.now c.args.gathered.holders.items c.args.gathered.prices.items c.in-Some.parts made known.0 known.1 known.2 in
    false≢true (c.in_default-make_wide.ensures.ok.1 sound.in_range)

pub returns : goal.returns
returns c =
    let made = rw c.in-Some.is at c.in_ok-parts.ensures.some in
    let known = c.requires.passes in
    let sound = passed_claim c.args.problem.now c.args.gathered.holders.items c.args.gathered.prices.items c.in-Some.parts made known.0 known.1 known.2 in
    let same = c.in-Ok.ensures.same in
    (made.choice, made.held, same ∙ made.claim_is, subst (IsCertified c.args.problem.now) (sym same) sound)
