-- PersonPost and ObjectPost: a shard posts the first letter of its outbox.
use Rattle.std.specs.Prelude.{ℕ, ◌<◌, ◌≤◌, ◌≡◌, ◌≢◌, ◌⊎◌, Bool, true, false, List, [], ◌∷◌}
use Rattle.auc_mail.specs.Mail.{Mail}
use Rattle.auc_mail.specs.Step.{Step}
use Rattle.auc_mail.specs.declared.call.PostRefused.{PostRefused}
use Rattle.auc_mail.specs.declared.call.Call.{Call}
use Rattle.auc_mail.specs.declared.call.Reply.{Reply}
use Rattle.auc_letters.specs.declared.letter.Letter.{Letter}
use Rattle.auc_letters.specs.declared.letter.Why.{Why}
use Rattle.auc_letters.specs.declared.out.Out.{Out}
use Rattle.auc_model.specs.declared.turn.TurnReply.{TurnReply}
use Rattle.auc_model.specs.World.{Phase, World, ended}
use Rattle.auc_model.specs.Mails.{Shard, number, sender, outbox, with_outbox, mail_of, box_of, with_mail}

-- the letter is a Price, which may be dropped; no other letter may
abbrev pub is_price : Letter → Bool
is_price (Letter.Price j p) = true
is_price (Letter.Bid i a j p) = false
is_price (Letter.Award i j p) = false
is_price (Letter.Refused i j p) = false
is_price (Letter.Outbid i j p) = false
is_price (Letter.First j) = false
is_price (Letter.Stop y) = false

-- why the phase ends where a letter other than a Price was refused; a closed box ends nothing
abbrev pub reason : PostRefused → Why
reason PostRefused.Closed = Why.Posts
reason PostRefused.Spent = Why.Posts
reason PostRefused.Full = Why.Mail

-- the mail accepts a shard's letter, and becomes m
abbrev pub Posts : Phase → World → Shard → Out → ℕ → Mail Letter → Type 0
Posts g w h o k m = Step (mail_of w o.to) (Call.Post (sender g h) (box_of o.to) o.letter o.reserve) (Reply.Posted k) m

-- the mail refuses the letter and stays
abbrev pub Refuses : Phase → World → Shard → Out → PostRefused → Type 0
Refuses g w h o y = Step (mail_of w o.to) (Call.Post (sender g h) (box_of o.to) o.letter o.reserve) (Reply.Refused y) (mail_of w o.to)

-- the shard h exists, and o is the first letter of its outbox, before rest
pub record MayPost (g : Phase) (w : World) (h : Shard) (o : Out) (rest : List Out) : Type 0 where
  pub known : number h < g.shards
  pub first : outbox w h ≡ o ∷ rest

-- PersonPost(s), ObjectPost(q): no letter, one that is accepted, or one that is refused
pub data PostTurn (g : Phase) (w : World) (h : Shard) (r : TurnReply) (v : World) : Type 0 where
  no_letter : ((g.shards ≤ number h) ⊎ (outbox w h ≡ [])) → r ≡ TurnReply.Nothing → v ≡ w → PostTurn g w h r v
  posts : (o : Out) (rest : List Out) (k : ℕ) (m : Mail Letter) → MayPost g w h o rest → Posts g w h o k m
      → r ≡ TurnReply.Moved → v ≡ with_outbox (with_mail w o.to m) h rest → PostTurn g w h r v
  -- a closed box drops the letter
  meets_closed : (o : Out) (rest : List Out) → MayPost g w h o rest → Refuses g w h o PostRefused.Closed
      → r ≡ TurnReply.Moved → v ≡ with_outbox w h rest → PostTurn g w h r v
  drops_price : (o : Out) (rest : List Out) (y : PostRefused) → MayPost g w h o rest → Refuses g w h o y
      → y ≢ PostRefused.Closed → is_price o.letter ≡ true
      → r ≡ TurnReply.Moved → v ≡ with_outbox w h rest → PostTurn g w h r v
  -- the letter stays in the outbox
  keeps_letter : (o : Out) (rest : List Out) (y : PostRefused) → MayPost g w h o rest → Refuses g w h o y
      → y ≢ PostRefused.Closed → is_price o.letter ≡ false
      → r ≡ TurnReply.Moved → v ≡ ended w (reason y) → PostTurn g w h r v
