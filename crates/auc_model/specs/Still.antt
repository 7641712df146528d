-- Worlds at rest, in which no turn changes anything.
use Rattle.std.specs.Prelude.{ℕ, ◌<◌, ◌≡◌, ◌⊎◌, true, []}
use Rattle.auc_mail.specs.Mail.{HasBox, NothingWaits}
use Rattle.auc_model.specs.declared.turn.MailName.{MailName}
use Rattle.auc_model.specs.declared.turn.Turn.{Turn}
use Rattle.auc_model.specs.declared.turn.TurnReply.{TurnReply}
use Rattle.auc_model.specs.World.{Phase, World}
use Rattle.auc_model.specs.Mails.{mail_named}
use Rattle.auc_model.specs.Schedule.{Turned}

-- All outboxes are empty, no letter waits in any box, and each shard of the persons has made a Stop or has no free
-- person.
pub record IsStill (g : Phase) (w : World) : Type 0 where
  pub no_person_out : (s : ℕ) → s < g.shards → w.person_out s ≡ []
  pub no_object_out : (q : ℕ) → q < g.shards → w.object_out q ≡ []
  pub nothing_waits : (name : MailName) (b : ℕ) → HasBox (mail_named w name) b → NothingWaits (mail_named w name) b
  pub nobody_free : (s : ℕ) → s < g.shards → (w.has_stopped s ≡ true) ⊎ (w.idle s ≡ [])

-- No turn of the shards and of the hub changes anything: no bid, no post and no take.
pub record Rests (g : Phase) (w : World) : Type 0 where
  pub bids : (s : ℕ) → s < g.shards → Turned g w (Turn.Bid s) TurnReply.Nothing w
  pub person_posts : (s : ℕ) → s < g.shards → Turned g w (Turn.PersonPost s) TurnReply.Nothing w
  pub object_takes : (q : ℕ) → q < g.shards → Turned g w (Turn.ObjectTake q) TurnReply.Nothing w
  pub object_posts : (q : ℕ) → q < g.shards → Turned g w (Turn.ObjectPost q) TurnReply.Nothing w
  pub person_takes : (s : ℕ) → s < g.shards → Turned g w (Turn.PersonTake s) TurnReply.Nothing w
  pub hub_takes : Turned g w Turn.HubTake TurnReply.Nothing w
