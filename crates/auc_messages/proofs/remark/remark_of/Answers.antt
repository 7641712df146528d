use Rattle.std.proofs.Common.{◌≡◌, sym, ◌∙◌, subst}
use Rattle.auc_run.specs.Jobs.{is_large}
use Rattle.auc_messages.specs.Phrases.{phrase_for, phrase_of_end}
use Rattle.auc_messages.specs.Remarks.{IsRemarkOn, told_reason}
use Rattle.std.specs.Prelude.{IsTrue}
use Rattle.auc_messages.specs.Sentences.{is_phrase}
use Rattle.auc_messages.proofs.PhraseLaws.{end_is_phrase, refusal_is_phrase}
use Rattle.auc_messages.proofs.remark.remark_of.Goals as goal

pub returns-in-Some-clause-is : goal.returns-in-Some-clause-is
returns-in-Some-clause-is c = subst (λ r. IsRemarkOn c.args.job.now c.args.ending.status r c.remark_of_refusal.result) (sym c.in-Some.is ∙ c.told_refusal.ensures) (c.remark_of_refusal.ensures.is c.args.ending.status)

pub returns-in-None-clause-is : goal.returns-in-None-clause-is
returns-in-None-clause-is c = subst (λ r. IsRemarkOn c.args.job.now c.args.ending.status r c.remark_of_end.result) (sym c.in-None.is ∙ c.told_refusal.ensures) (c.remark_of_end.ensures.is c.args.job.now)

pub returns-in-Some-clause-words : goal.returns-in-Some-clause-words
returns-in-Some-clause-words c = subst (λ r. c.remark_of_refusal.result.phrase.now ≡ phrase_for (is_large c.args.job.now) c.args.ending.status (told_reason c.args.ending) r) (sym c.in-Some.is ∙ c.told_refusal.ensures) c.remark_of_refusal.ensures.words

pub returns-in-None-clause-words : goal.returns-in-None-clause-words
returns-in-None-clause-words c = subst (λ r. c.remark_of_end.result.phrase.now ≡ phrase_for (is_large c.args.job.now) c.args.ending.status (told_reason c.args.ending) r) (sym c.in-None.is ∙ c.told_refusal.ensures)
    (subst (λ r. c.remark_of_end.result.phrase.now ≡ phrase_of_end c.args.ending.status r) c.told_reason.ensures c.remark_of_end.ensures.words)

pub returns-in-Some-clause-phrase : goal.returns-in-Some-clause-phrase
returns-in-Some-clause-phrase c = subst (λ w. IsTrue (is_phrase w)) (sym c.remark_of_refusal.ensures.words) (refusal_is_phrase (is_large c.args.job.now) c.in-Some.refusal)

pub returns-in-None-clause-phrase : goal.returns-in-None-clause-phrase
returns-in-None-clause-phrase c = subst (λ w. IsTrue (is_phrase w)) (sym c.remark_of_end.ensures.words) (end_is_phrase c.args.ending.status c.told_reason.result)
