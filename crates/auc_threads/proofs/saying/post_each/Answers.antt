use Rattle.std.proofs.Common.{◌≡◌, ◌≢◌, ◌∙◌, ◌+◌, ◌∷◌, [], ◌++◌, rules, take, drop, sym}
use Rattle.std.proofs.lemmas.List.{take-append-drop, take_more}
use Rattle.auc_threads.specs.declared.calls.Step.{Step}
use Rattle.auc_threads.proofs.PostingLaws.{says_as, says_ended, says_then}
use Rattle.auc_threads.proofs.saying.post_each.Goals as goal

pub returns-then-ne-clause-says : goal.returns-then-ne-clause-says
returns-then-ne-clause-says g c =
    let ne : c.post_one-step.result ≢ Step.On = search rules in
    let xs = c.args.said.now in
    let i = c.loop-out.out-index in
    says_as _ _ _ (take (i + 1) xs ++ drop (i + 1) xs) xs _ (take-append-drop (i + 1) xs)
    (says_ended _ _ _ (take (i + 1) xs) (drop (i + 1) xs) _ ne
    (says_as _ _ _ (take i xs ++ _ ∷ []) (take (i + 1) xs) _ (sym (take_more xs i _ c.loop-out-test.true)) (says_then _ _ _ _ (take i xs) _ _ c.loop-out.invariant.says c.post_one-step.ensures.says)))

pub loop-out-preserved : goal.loop-out-preserved
loop-out-preserved g c =
    let on : c.post_one-step.result ≡ Step.On = search rules in
    let xs = c.args.said.now in
    let i = c.loop-out.out-index in
    record {
      objects = c.post_one-step.ensures.objects ∙ c.loop-out.invariant.objects;
      says = says_as _ _ _ (take i xs ++ _ ∷ []) (take (i + 1) xs) _ (sym (take_more xs i _ c.loop-out-test.true)) (says_then _ _ _ _ (take i xs) _ _ c.loop-out.invariant.says (rw on at c.post_one-step.ensures.says));
    }
