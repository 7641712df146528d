use Rattle.std.proofs.Common.{subst, sym, ◌≡◌, List, Option}
use Rattle.std.proofs.lemmas.Bool.{false≢true}
use Rattle.auc_claim.specs.Claim.{chosen}
use Rattle.auc_graph.specs.Assignment.{IsAssignment}
use Rattle.auc_letters.specs.declared.state.Held.{Held}
use Rattle.auc_answers.specs.Answers.{IsCertified}
use Rattle.auc_answers.specs.Claims.{IsBracketBy, IsChoiceOf}
use Rattle.auc_answers.proofs.BracketLaws.{certified_bracket}
use Rattle.auc_answers.proofs.FoundLaws.{one_choice}
use Rattle.auc_answers.proofs.finish.proved_bracket.Goals as goal

pub unreachable-requires : goal.unreachable-requires
unreachable-requires c =
    let known = c.requires.choice in
    (rw c.in_default.is at c.in_ok-picks.ensures.none) known.0 (rw c.as_slice.ensures.value known.1)

pub bracket_parts-requires-clause-assignment : goal.bracket_parts-requires-clause-assignment
bracket_parts-requires-clause-assignment c =
    let known = c.requires.choice in
    let made = subst (λ (holders : List (Option Held)). IsChoiceOf c.args.problem.now holders (chosen 0 c.in-Some.picks.items)) c.as_slice.ensures.value (rw c.in-Some.is at c.in_ok-picks.ensures.some) in
    subst (IsAssignment c.args.problem.now) (one_choice c.args.problem.now c.args.gathered.holders.items known.0 (chosen 0 c.in-Some.picks.items) known.1 made) known.2

pub unreachable-requires-in_default-make_wide : goal.unreachable-requires-in_default-make_wide
unreachable-requires-in_default-make_wide c =
    let by = rw c.in-Some-2.is at c.in_ok-parts.ensures.some in
    let sound = certified_bracket c.args.problem.now c.args.reason c.args.gathered.prices.items c.picks_of_holders.ensures.problem c.requires.prices c.requires.within c.requires.fits c.in-Some-2.parts by in
    false≢true (c.in_default-make_wide.ensures.ok.1 sound.in_range)

pub returns : goal.returns
returns c =
    let p = c.args.problem.now in
    let prices = c.args.gathered.prices.items in
    let by = rw c.in-Some-2.is at c.in_ok-parts.ensures.some in
    let sound = certified_bracket p c.args.reason prices c.picks_of_holders.ensures.problem c.requires.prices c.requires.within c.requires.fits c.in-Some-2.parts by in
    let same = c.in-Ok.ensures.same in
    (subst (IsBracketBy p c.args.reason prices) (sym same) by, subst (IsCertified p) (sym same) sound)
