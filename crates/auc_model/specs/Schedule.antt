-- The turns of the world (its transitions), and schedules of turns.
use Rattle.std.specs.Prelude.{ℕ, ◌≡◌, ◌≢◌, ◌⊎◌, List, [], ◌∷◌}
use Rattle.auc_mail.specs.Mail.{Mail}
use Rattle.auc_mail.specs.Step.{Step, AreOfTwoSenders}
use Rattle.auc_mail.specs.declared.call.Call.{Call}
use Rattle.auc_mail.specs.declared.call.Reply.{Reply}
use Rattle.auc_letters.specs.declared.letter.Letter.{Letter}
use Rattle.auc_model.specs.declared.turn.MailName.{MailName}
use Rattle.auc_model.specs.Start.{Lawful, Starts}
use Rattle.auc_model.specs.declared.turn.Turn.{Turn}
use Rattle.auc_model.specs.declared.turn.TurnReply.{TurnReply}
use Rattle.auc_model.specs.World.{Phase, World}
use Rattle.auc_model.specs.Mails.{Shard, mail_named}
use Rattle.auc_model.specs.Bidding.{BidTurn}
use Rattle.auc_model.specs.Posting.{PostTurn}
use Rattle.auc_model.specs.Hearing.{PersonTakeTurn}
use Rattle.auc_model.specs.Selling.{ObjectTakeTurn, TellTurn}
use Rattle.auc_model.specs.Hub.{HubTakeTurn, HubCloseTurn}

-- From w, the turn may return r and lead to v. The only free choice is the sender of a letter that is taken.
abbrev pub Turned : Phase → World → Turn → TurnReply → World → Type 0
Turned g w (Turn.Bid s) r v = BidTurn g w s r v
Turned g w (Turn.PersonPost s) r v = PostTurn g w (Shard.PersonShard s) r v
Turned g w (Turn.ObjectPost q) r v = PostTurn g w (Shard.ObjectShard q) r v
Turned g w (Turn.PersonTake s) r v = PersonTakeTurn g w s r v
Turned g w (Turn.ObjectTake q) r v = ObjectTakeTurn g w q r v
Turned g w (Turn.Tell q j s) r v = TellTurn g w q j s r v
Turned g w Turn.HubTake r v = HubTakeTurn g w r v
Turned g w (Turn.HubClose name at) r v = HubCloseTurn w name at r v

-- the turn t, with this reply, leads from w to mid, of which Rest is true
pub record BeginsByTurn (g : Phase) (w : World) (t : Turn) (Rest : World → Type 0) : Type 0 where
  pub mid : World
  pub reply : TurnReply
  pub turned : Turned g w t reply mid
  pub rest : Rest mid

-- the turns, one after another and with any returns, lead from w to v
abbrev pub Schedule : Phase → World → List Turn → World → Type 0
Schedule g w [] v = v ≡ w
Schedule g w (t ∷ ts) v = BeginsByTurn g w t (λ mid. Schedule g mid ts v)

-- some call of the mail leads from old to new
pub record StepsByCall (old new : Mail Letter) : Type 0 where
  pub call : Call Letter
  pub reply : Reply Letter
  pub step : Step old call reply new

-- only the mail of this name may have made a step
pub record StepsIn (w v : World) (name : MailName) : Type 0 where
  pub this : (mail_named v name ≡ mail_named w name)
      ⊎ StepsByCall (mail_named w name) (mail_named v name)
  pub others : (other : MailName) → other ≢ name → mail_named v other ≡ mail_named w other

-- Two worlds after w differ only by the sender of a letter: the same call of a mail took letters of two senders.
pub record TakesOfTwoSenders (w u v : World) : Type 0 where
  pub mail : MailName
  pub box : ℕ
  pub one : Reply Letter
  pub other : Reply Letter
  pub takes_one : Step (mail_named w mail) (Call.Take box) one (mail_named u mail)
  pub takes_other : Step (mail_named w mail) (Call.Take box) other (mail_named v mail)
  pub senders : AreOfTwoSenders one other

-- v is reachable: some schedule leads to it from a world with which the phase begins
pub record Reached (g : Phase) (v : World) : Type 0 where
  pub lawful : Lawful g
  pub start : World
  pub starts : Starts g start
  pub turns : List Turn
  pub leads : Schedule g start turns v
