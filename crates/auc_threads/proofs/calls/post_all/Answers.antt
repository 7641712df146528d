use Rattle.std.proofs.Common.{◌≡◌, ◌≢◌, ◌+◌, ◌∷◌, [], ◌++◌, rules, take, drop, sym}
use Rattle.std.proofs.lemmas.List.{take-append-drop, take_more}
use Rattle.auc_threads.specs.declared.calls.Step.{Step}
use Rattle.auc_threads.proofs.PostingLaws.{at_as, at_ended, at_then}
use Rattle.auc_threads.proofs.calls.post_all.Goals as goal

pub returns-then-ne : goal.returns-then-ne
returns-then-ne g c =
    let ne : c.post-step.result ≢ Step.On = search rules in
    let xs = c.args.letters.now in
    let i = c.loop-out.out-index in
    at_as _ _ _ (take (i + 1) xs ++ drop (i + 1) xs) xs _ (take-append-drop (i + 1) xs)
    (at_ended _ _ _ (take (i + 1) xs) (drop (i + 1) xs) _ ne
    (at_as _ _ _ (take i xs ++ _ ∷ []) (take (i + 1) xs) _ (sym (take_more xs i _ c.loop-out-test.true)) (at_then _ _ _ _ (take i xs) _ _ c.loop-out.invariant c.post-step.ensures)))

pub loop-out-preserved : goal.loop-out-preserved
loop-out-preserved g c =
    let on : c.post-step.result ≡ Step.On = search rules in
    let xs = c.args.letters.now in
    let i = c.loop-out.out-index in
    at_as _ _ _ (take i xs ++ _ ∷ []) (take (i + 1) xs) _ (sym (take_more xs i _ c.loop-out-test.true)) (at_then _ _ _ _ (take i xs) _ _ c.loop-out.invariant (rw on at c.post-step.ensures))
