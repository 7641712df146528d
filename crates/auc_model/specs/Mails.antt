-- The three mails of a world and its outboxes: the box to which a letter goes, and its sender.
use Rattle.std.specs.Prelude.{ℕ, ◌+◌, ◌⊎◌, List}
use Rattle.auc_mail.specs.Mail.{Mail}
use Rattle.auc_mail.specs.Step.{Step}
use Rattle.auc_mail.specs.declared.call.Taken.{Taken}
use Rattle.auc_mail.specs.declared.call.Call.{Call}
use Rattle.auc_mail.specs.declared.call.Reply.{Reply}
use Rattle.auc_letters.specs.declared.letter.Letter.{Letter}
use Rattle.auc_letters.specs.declared.out.To.{To}
use Rattle.auc_letters.specs.declared.out.Out.{Out}
use Rattle.auc_model.specs.declared.turn.MailName.{MailName}
use Rattle.auc_model.specs.Put.{put}
use Rattle.auc_model.specs.World.{Phase, World}

-- the mail to which a letter goes, and the box in it; the hub's mail has one box
abbrev pub mail_of : World → To → Mail Letter
mail_of w (To.Person s) = w.persons_mail
mail_of w (To.Object q) = w.objects_mail
mail_of w To.Hub = w.hub_mail

abbrev pub box_of : To → ℕ
box_of (To.Person s) = s
box_of (To.Object q) = q
box_of To.Hub = 0

abbrev pub with_mail : World → To → Mail Letter → World
with_mail w (To.Person s) m = record w { persons_mail = m }
with_mail w (To.Object q) m = record w { objects_mail = m }
with_mail w To.Hub m = record w { hub_mail = m }

-- the mails by their names
abbrev pub mail_named : World → MailName → Mail Letter
mail_named w MailName.Objects = w.objects_mail
mail_named w MailName.Persons = w.persons_mail
mail_named w MailName.Hub = w.hub_mail

abbrev pub with_mail_named : World → MailName → Mail Letter → World
with_mail_named w MailName.Objects m = record w { objects_mail = m }
with_mail_named w MailName.Persons m = record w { persons_mail = m }
with_mail_named w MailName.Hub m = record w { hub_mail = m }

-- a shard that sends: its number, its outbox, and which sender of each mail it is
pub data Shard : Type 0 where
  PersonShard : ℕ → Shard
  ObjectShard : ℕ → Shard

abbrev pub number : Shard → ℕ
number (PersonShard s) = s
number (ObjectShard q) = q

abbrev pub sender : Phase → Shard → ℕ
sender g (PersonShard s) = s
sender g (ObjectShard q) = g.shards + q

abbrev pub outbox : World → Shard → List Out
outbox w (PersonShard s) = w.person_out s
outbox w (ObjectShard q) = w.object_out q

abbrev pub with_outbox : World → Shard → List Out → World
with_outbox w (PersonShard s) out = record w { person_out = put w.person_out s out }
with_outbox w (ObjectShard q) out = record w { object_out = put w.object_out q out }

-- A take from box b gives the letter l of the sender x, with its number k in the lane, and leaves n. Any sender may be
-- x.
abbrev pub Takes : Mail Letter → ℕ → ℕ → ℕ → Letter → Mail Letter → Type 0
Takes m b x k l n = Step m (Call.Take b) (Reply.Took (Taken.Letter x k l)) n

-- a take from box b gives no letter
abbrev pub TakesNone : Mail Letter → ℕ → Type 0
TakesNone m b = Step m (Call.Take b) (Reply.Took Taken.Empty) m ⊎ Step m (Call.Take b) (Reply.Took Taken.Over) m
