-- The three mails of a world, and the letters that wait in them and in the outboxes.
use Rattle.std.specs.Prelude.{ℕ, List, [], slice_index_or}
use Rattle.auc_mail.specs.Mail.{Mail}
use Rattle.auc_letters.specs.declared.letter.Letter.{Letter}
use Rattle.auc_letters.specs.declared.out.Out.{Out}
use Rattle.auc_model.specs.declared.turn.MailName.{MailName}
use Rattle.auc_model.specs.Mails.{Takes}

-- bids to the shards of the objects, answers to those of the persons, and letters to the hub
pub record Mails : Type 0 where
  pub objects : Mail Letter
  pub persons : Mail Letter
  pub hub : Mail Letter

-- the mail of this name
abbrev pub named : Mails → MailName → Mail Letter
named m MailName.Objects = m.objects
named m MailName.Persons = m.persons
named m MailName.Hub = m.hub

-- the mails, with this one in place of the mail of that name
abbrev pub with_named : Mails → MailName → Mail Letter → Mails
with_named m MailName.Objects x = record m { objects = x }
with_named m MailName.Persons x = record m { persons = x }
with_named m MailName.Hub x = record m { hub = x }

-- a take from box b gives the letter l of some sender, and leaves n
pub record TakesOne (m : Mail Letter) (b : ℕ) (l : Letter) (n : Mail Letter) : Type 0 where
  pub sender : ℕ
  pub number : ℕ
  pub takes : Takes m b sender number l n

-- the state of a post office: the outbox of each sender, the next letter first, and the three mails
pub record Letters : Type 0 where
  pub outboxes : List (List Out)
  pub mails : Mails

-- the letters that a sender has still to post
abbrev pub outbox_of : Letters → ℕ → List Out
outbox_of p x = slice_index_or p.outboxes x []
