use Rattle.std.proofs.Common.{◌≡◌, ◌∙◌, false, All, take, sym, subst}
use Rattle.std.proofs.lemmas.List.{take_all, take_more}
use Rattle.std.proofs.lemmas.List.Elements.{All-push}
use Rattle.auc_threads.specs.Posting.{is_to_hub}
use Rattle.auc_threads.proofs.saying.has_first.Goals as goal

pub loop-out-preserved : goal.loop-out-preserved
loop-out-preserved c =
    let xs = c.args.said.now in
    let i = c.loop-out.out-index in
    subst (λ ws. All (λ o. is_to_hub o.to ≡ false) ws) (sym (take_more xs i _ c.loop-out-test.true))
    (All-push (λ o. is_to_hub o.to ≡ false) (take i xs) _ c.loop-out.invariant (sym c.is_to_hub.ensures ∙ c.if-is_to_hub.false))

pub returns : goal.returns
returns c same = subst (λ ws. All (λ o. is_to_hub o.to ≡ false) ws) (take_all c.loop-out.out-index c.args.said.now c.loop-out-test.false) c.loop-out.invariant
