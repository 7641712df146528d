-- Turns of the hub.
use Rattle.std.proofs.Common.{ℕ, ◌≡◌, ◌≢◌, Bool, true, false, length, refl, ap, sym, subst, ◌∙◌}
use Rattle.std.specs.Prelude.{if◌then◌else◌, nat_lt, None}
use Rattle.auc_letters.specs.declared.letter.Letter.{Letter}
use Rattle.auc_mail.specs.Step.{Step}
use Rattle.auc_mail.specs.declared.call.Call.{Call}
use Rattle.auc_mail.specs.declared.call.Reply.{Reply}
use Rattle.auc_model.specs.Hub.{HubCloseTurn, HubTakeTurn, closes, counted, hub_after, takes}
use Rattle.auc_model.specs.declared.turn.MailName.{MailName}
use Rattle.auc_model.specs.declared.turn.TurnReply.{TurnReply}
use Rattle.auc_phases.specs.Hub.{Counting, counting, hearing}
use Rattle.auc_machine.specs.Mails.{Letters, TakesOne, named, with_named}
use Rattle.auc_machine.specs.Parts.{IsOpenBox, Parts, phase, world_of}
use Rattle.auc_machine.proofs.WorldOf.{letters_of, with_letters}

seen_if : (p : Parts) (b : Bool) (x y : Counting) → world_of (record p { hub = if b then x else y }) ≡ (if b then world_of (record p { hub = x }) else world_of (record p { hub = y }))
seen_if p true x y = refl
seen_if p false x y = refl

counted_seen : (p : Parts) → world_of (record p { hub = counting (length p.table.rows) p.hub }) ≡ counted (phase p) (world_of p)
counted_seen p = seen_if p (nat_lt p.hub.count (length p.table.rows)) _ p.hub

-- the hub counts as the model's hub does
heard_seen : (p : Parts) (l : Letter) → world_of (record p { hub = hearing (length p.table.rows) l p.hub }) ≡ hub_after (phase p) l (world_of p)
heard_seen p (Letter.First j) = counted_seen p
heard_seen p (Letter.Stop y) = refl
heard_seen p (Letter.Bid i a j q) = refl
heard_seen p (Letter.Award i j q) = refl
heard_seen p (Letter.Refused i j q) = refl
heard_seen p (Letter.Outbid i j q) = refl
heard_seen p (Letter.Price j q) = refl

pub hub_heard : (q p : Parts) → p ≡ q → (l : Letter) (s : Letters) (after : Counting) → TakesOne p.mails.hub 0 l s.mails.hub → s ≡ record (letters_of p) { mails = record p.mails { hub = s.mails.hub } } → after ≡ hearing (length p.table.rows) l p.hub
    → HubTakeTurn (phase q) (world_of q) TurnReply.Moved (world_of (record (with_letters p s) { hub = after }))
hub_heard q p same l s after took rest heard =
    subst (λ (z : Parts). HubTakeTurn (phase z) (world_of z) TurnReply.Moved (world_of (record (with_letters p s) { hub = after }))) same
    (takes took.sender took.number l s.mails.hub took.takes refl
    (ap (λ (h : Counting). world_of (record (with_letters p s) { hub = h })) heard
    ∙ (ap (λ (k : Letters). world_of (record (with_letters p k) { hub = hearing (length p.table.rows) l p.hub })) rest ∙ heard_seen (record p { mails = record p.mails { hub = s.mails.hub } }) l)))

closed_by_name : (p : Parts) (l : Letters) (name : MailName) (at : ℕ) → (world_of p).end ≢ None → IsOpenBox (named p.mails name) at → Step (named p.mails name) (Call.Close at) (Reply.WasOpen true) (named l.mails name)
    → l ≡ record (letters_of p) { mails = with_named p.mails name (named l.mails name) } → HubCloseTurn (world_of p) name at TurnReply.Moved (world_of (with_letters p l))
closed_by_name p l MailName.Objects at ends box step e = closes l.mails.objects box.known ends step refl (ap (λ (k : Letters). world_of (with_letters p k)) e)
closed_by_name p l MailName.Persons at ends box step e = closes l.mails.persons box.known ends step refl (ap (λ (k : Letters). world_of (with_letters p k)) e)
closed_by_name p l MailName.Hub at ends box step e = closes l.mails.hub box.known ends step refl (ap (λ (k : Letters). world_of (with_letters p k)) e)

pub box_closed : (q p : Parts) → p ≡ q → (l : Letters) (name : MailName) (at : ℕ) → (world_of q).end ≢ None → IsOpenBox (named q.mails name) at → Step (named p.mails name) (Call.Close at) (Reply.WasOpen true) (named l.mails name)
    → l ≡ record (letters_of p) { mails = with_named p.mails name (named l.mails name) } → HubCloseTurn (world_of q) name at TurnReply.Moved (world_of (with_letters p l))
box_closed q p same l name at ends box step e =
    subst (λ (z : Parts). HubCloseTurn (world_of z) name at TurnReply.Moved (world_of (with_letters p l))) same
    (closed_by_name p l name at (subst (λ (z : Parts). (world_of z).end ≢ None) (sym same) ends) (subst (λ (z : Parts). IsOpenBox (named z.mails name) at) (sym same) box) step e)
