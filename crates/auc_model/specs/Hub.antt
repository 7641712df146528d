-- HubTake and HubClose: the hub counts First letters, ends the phase, and closes boxes once it has ended.
use Rattle.std.specs.Prelude.{ℕ, ◌+◌, ◌≡◌, ◌≢◌, ◌==◌, ◌⊎◌, nat_lt, if◌then◌else◌, true, None}
use Rattle.auc_mail.specs.Mail.{Mail, HasBox, IsClosed}
use Rattle.auc_mail.specs.Step.{Step}
use Rattle.auc_mail.specs.declared.call.Call.{Call}
use Rattle.auc_mail.specs.declared.call.Reply.{Reply}
use Rattle.auc_letters.specs.declared.letter.Letter.{Letter}
use Rattle.auc_letters.specs.declared.letter.Why.{Why}
use Rattle.auc_model.specs.declared.turn.End.{End}
use Rattle.auc_model.specs.declared.turn.MailName.{MailName}
use Rattle.auc_model.specs.declared.turn.TurnReply.{TurnReply}
use Rattle.auc_model.specs.World.{Phase, World, first_end, ended}
use Rattle.auc_model.specs.Mails.{Takes, TakesNone, mail_named, with_mail_named}

-- one more First letter is counted, up to the number of persons; the last one ends the phase
abbrev pub counted : Phase → World → World
counted g w =
    if nat_lt w.count g.persons then
    (record w { count = w.count + 1; end = if (w.count + 1) == g.persons then first_end w.end End.All else w.end })
    else w

-- the world after the hub has taken a letter
abbrev pub hub_after : Phase → Letter → World → World
hub_after g (Letter.First j) w = counted g w
hub_after g (Letter.Stop y) w = ended w y
hub_after g (Letter.Bid i a j p) w = ended w Why.Stray
hub_after g (Letter.Award i j p) w = ended w Why.Stray
hub_after g (Letter.Refused i j p) w = ended w Why.Stray
hub_after g (Letter.Outbid i j p) w = ended w Why.Stray
hub_after g (Letter.Price j p) w = ended w Why.Stray

-- the letter is of a kind that the hub expects
abbrev pub IsForHub : Letter → Type 0
IsForHub (Letter.First j) = Unit {0}
IsForHub (Letter.Stop y) = Unit {0}
IsForHub (Letter.Bid i a j p) = ⊥
IsForHub (Letter.Award i j p) = ⊥
IsForHub (Letter.Refused i j p) = ⊥
IsForHub (Letter.Outbid i j p) = ⊥
IsForHub (Letter.Price j p) = ⊥

-- HubTake
pub data HubTakeTurn (g : Phase) (w : World) (r : TurnReply) (v : World) : Type 0 where
  no_letter : TakesNone w.hub_mail 0 → r ≡ TurnReply.Nothing → v ≡ w → HubTakeTurn g w r v
  takes : (x k : ℕ) (l : Letter) (m : Mail Letter) → Takes w.hub_mail 0 x k l m
      → r ≡ TurnReply.Moved → v ≡ hub_after g l (record w { hub_mail = m }) → HubTakeTurn g w r v

-- HubClose(mail, box)
pub data HubCloseTurn (w : World) (name : MailName) (at : ℕ) (r : TurnReply) (v : World) : Type 0 where
  leaves : ((HasBox (mail_named w name) at → ⊥) ⊎ (w.end ≡ None) ⊎ IsClosed (mail_named w name) at)
      → r ≡ TurnReply.Nothing → v ≡ w → HubCloseTurn w name at r v
  closes : (m : Mail Letter) → HasBox (mail_named w name) at → w.end ≢ None
      → Step (mail_named w name) (Call.Close at) (Reply.WasOpen true) m
      → r ≡ TurnReply.Moved → v ≡ with_mail_named w name m → HubCloseTurn w name at r v
