-- A sender posts the first letter of its outbox.
use Rattle.std.specs.Prelude.{ℕ, ◌≡◌, ◌≢◌, ◌⊎◌, true, false, [], ◌∷◌, drop, slice_set}
use Rattle.auc_mail.specs.Mail.{Mail}
use Rattle.auc_mail.specs.Step.{Step}
use Rattle.auc_mail.specs.declared.call.Call.{Call}
use Rattle.auc_mail.specs.declared.call.PostRefused.{PostRefused}
use Rattle.auc_mail.specs.declared.call.Reply.{Reply}
use Rattle.auc_letters.specs.declared.letter.Letter.{Letter}
use Rattle.auc_letters.specs.declared.letter.Why.{Why}
use Rattle.auc_letters.specs.declared.out.Out.{Out}
use Rattle.auc_model.specs.Mails.{box_of}
use Rattle.auc_model.specs.Posting.{is_price, reason}
use Rattle.auc_phases.specs.Boxes.{name_of}
use Rattle.auc_machine.specs.declared.post_office.posting.Posted.{Posted}
use Rattle.auc_machine.specs.Mails.{Letters, Mails, named, outbox_of, with_named}

-- the mail to which a letter goes
abbrev pub mail_for : Mails → Out → Mail Letter
mail_for s o = named s (name_of o.to)

-- the call by which sender x posts it
abbrev pub post_of : ℕ → Out → Call Letter
post_of x o = Call.Post x (box_of o.to) o.letter o.reserve

-- the mail to which the letter goes accepts it, and the other mails stay
pub record IsAccepted (s : Mails) (x : ℕ) (o : Out) (t : Mails) : Type 0 where
  pub number : ℕ
  pub step : Step (mail_for s o) (post_of x o) (Reply.Posted number) (mail_for t o)
  pub mails : t ≡ with_named s (name_of o.to) (mail_for t o)

-- its mail refuses the letter and can do without it, and all mails stay
pub record IsDropped (s : Mails) (x : ℕ) (o : Out) (t : Mails) : Type 0 where
  pub refused : PostRefused
  pub step : Step (mail_for s o) (post_of x o) (Reply.Refused refused) (mail_for s o)
  pub may : (refused ≡ PostRefused.Closed) ⊎ ((refused ≢ PostRefused.Closed) × (is_price o.letter ≡ true))
  pub same : t ≡ s

-- The letter leaves its outbox. Its mail accepts it, or refuses it and can do without it: the box is closed, or the
-- letter is a Price.
abbrev pub Leaves : Mails → ℕ → Out → Mails → Type 0
Leaves s x o t = IsAccepted s x o t ⊎ IsDropped s x o t

-- the letter is refused and stays in the outbox, and the phase ends for this reason
pub record Stays (s : Mails) (x : ℕ) (o : Out) (why : Why) : Type 0 where
  pub refused : PostRefused
  pub step : Step (mail_for s o) (post_of x o) (Reply.Refused refused) (mail_for s o)
  pub not_closed : refused ≢ PostRefused.Closed
  pub no_price : is_price o.letter ≡ false
  pub reason_is : why ≡ reason refused

-- the letter is the first in the outbox of x
abbrev pub StandsFirst : Letters → ℕ → Out → Type 0
StandsFirst p x o = outbox_of p x ≡ o ∷ drop 1 (outbox_of p x)

-- the first letter of the outbox of x leaves it, and n is left
pub record PostsFirst (p : Letters) (x : ℕ) (n : Letters) : Type 0 where
  pub out : Out
  pub first : StandsFirst p x out
  pub leaves : Leaves p.mails x out n.mails
  pub outboxes : n.outboxes ≡ slice_set p.outboxes x (drop 1 (outbox_of p x))

-- the first letter of the outbox of x stays there for this reason, and all else too
pub record KeepsFirst (p : Letters) (x : ℕ) (why : Why) (n : Letters) : Type 0 where
  pub out : Out
  pub first : StandsFirst p x out
  pub stays : Stays p.mails x out why
  pub same : n ≡ p

-- From p, sender x posts the first letter of its outbox, and n is left.
abbrev pub Posts : Letters → ℕ → Posted → Letters → Type 0
Posts p x Posted.Nothing n = (outbox_of p x ≡ []) × (n ≡ p)
Posts p x Posted.Left n = PostsFirst p x n
Posts p x (Posted.Stays why) n = KeepsFirst p x why n
