-- The boxes of the three mails, and the box to which a letter goes.
use Rattle.std.specs.Prelude.{ℕ, ◌<◌}
use Rattle.auc_letters.specs.declared.out.Out.{Out}
use Rattle.auc_letters.specs.declared.out.To.{To}
use Rattle.auc_model.specs.declared.turn.MailName.{MailName}
use Rattle.auc_model.specs.Mails.{box_of}

-- the name of the mail to which a letter goes
abbrev pub name_of : To → MailName
name_of (To.Person s) = MailName.Persons
name_of (To.Object q) = MailName.Objects
name_of To.Hub = MailName.Hub

-- the number of boxes of a mail, for this number of shards of each kind
abbrev pub boxes_in : ℕ → MailName → ℕ
boxes_in shards MailName.Objects = shards
boxes_in shards MailName.Persons = shards
boxes_in shards MailName.Hub = 1

-- the letter goes to a box that exists
abbrev pub Reaches : ℕ → Out → Type 0
Reaches shards o = box_of o.to < boxes_in shards (name_of o.to)
