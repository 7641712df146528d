-- Letters are put into an outbox and posted: what holds of each world holds still, and the posts are the model's turns.
use Rattle.std.proofs.Common.{ℕ, ◌*◌, ◌<◌, ◌≡◌, None, Some, List, ◌∷◌, drop, set, refl, sym, ap, subst, ◌∙◌, inl, inr, arith}
use Rattle.std.specs.Prelude.{All, IfNone, Option}
use Rattle.std.proofs.lemmas.List.Elements.{All-drop}
use Rattle.auc_letters.specs.declared.letter.Letter.{Letter}
use Rattle.auc_letters.specs.declared.letter.Why.{Why}
use Rattle.auc_letters.specs.declared.out.Out.{Out}
use Rattle.auc_letters.specs.declared.out.To.{To}
use Rattle.auc_mail.specs.Mail.{Mail}
use Rattle.auc_mail.specs.Step.{Fits, Step}
use Rattle.auc_mail.specs.declared.call.PostRefused.{PostRefused}
use Rattle.auc_mail.specs.declared.call.Reply.{Reply}
use Rattle.auc_model.specs.Mails.{ObjectShard, PersonShard, Shard, box_of, mail_of, number, outbox, sender, with_mail, with_outbox}
use Rattle.auc_model.specs.Posting.{MayPost, PostTurn, drops_price, keeps_letter, meets_closed, no_letter, posts}
use Rattle.auc_model.specs.World.{World, ended}
use Rattle.auc_model.specs.declared.turn.End.{End}
use Rattle.auc_model.specs.declared.turn.TurnReply.{TurnReply}
use Rattle.auc_phases.specs.Hub.{ending}
use Rattle.auc_phases.specs.Boxes.{Reaches, name_of}
use Rattle.auc_machine.specs.declared.post_office.posting.Posted.{Posted}
use Rattle.auc_machine.specs.Mails.{Letters, Mails, named, with_named}
use Rattle.auc_machine.specs.Parts.{AreParts, Parts, outbox_at, phase, world_of}
use Rattle.auc_machine.specs.Posting.{Leaves, Posts, mail_for, post_of}
use Rattle.auc_machine.proofs.Keeping.{keeps_mails, keeps_outboxes, mail_there}
use Rattle.auc_machine.proofs.WorldOf.{letters_of, outbox_seen, seen_outbox, with_letters}

-- what follows from what a clause says where there is no value
pub IfNone_then : {X P Q : Type 0} (r : Option X) → IfNone r P → (P → Q) → IfNone r Q
IfNone_then None h f = f h
IfNone_then (Some x) h f = tt

-- ---- letters that are put into the outbox of a shard

sender_known : (p : Parts) (h : Shard) → number h < p.shards → sender (phase p) h < 2 * p.shards
sender_known p (PersonShard s) known = omega (arith, known)
sender_known p (ObjectShard q) known = omega (arith, known)

-- p is n, field by field
module _ (n p : Parts) (same : p ≡ n) (are : AreParts p) (l : Letters) (h : Shard) (os : List Out) (known : number h < n.shards) (put : l ≡ record (letters_of p) { outboxes = set p.outboxes (sender (phase p) h) os }) where
  here : number h < p.shards
  here = subst (λ (z : Parts). number h < z.shards) (sym same) known

  pub put_keeps : All (Reaches n.shards) os → AreParts (with_letters p l)
  put_keeps reach =
      let reaches : All (Reaches p.shards) os = subst (λ (z : Parts). All (Reaches z.shards) os) (sym same) reach in
      subst (λ (k : Letters). AreParts (with_letters p k)) (sym put) (keeps_outboxes p are (sender (phase p) h) os (sender_known p h here) reaches)

  pub put_seen : world_of (with_letters p l) ≡ with_outbox (world_of n) h os
  put_seen = ap (λ (k : Letters). world_of (with_letters p k)) put ∙ (seen_outbox p os h here are.outboxes_are ∙ ap (λ (z : Parts). with_outbox (world_of z) h os) same)

-- ---- what a post keeps

module _ (p : Parts) (are : AreParts p) (x : ℕ) (known : x < 2 * p.shards) where
  -- the first letter of an outbox may be posted
  pub post_fits : (o : Out) → outbox_at p x ≡ o ∷ drop 1 (outbox_at p x) → Fits (mail_for p.mails o) (post_of x o)
  post_fits o first =
      let there = mail_there p are (name_of o.to) in
      let reach : Reaches p.shards o = subst (λ (os : List Out). All (Reaches p.shards) os) first (are.each_outbox x known) 0 o (omega arith) in
      (omega (arith, there.senders_are), subst (λ (n : ℕ). box_of o.to < n) (sym there.boxes_are) reach)

  leaves_keeps : (s : Mails) (o : Out) → Leaves p.mails x o s → AreParts (record p { mails = s })
  leaves_keeps s o (inl sent) = subst (λ (t : Mails). AreParts (record p { mails = t })) (sym sent.mails) (keeps_mails p are (name_of o.to) (mail_for s o) (post_of x o) (Reply.Posted sent.number) sent.step)
  leaves_keeps s o (inr missed) = subst (λ (t : Mails). AreParts (record p { mails = t })) (sym missed.same) are

  pub left_keeps : (l : Letters) → Posts (letters_of p) x Posted.Left l → AreParts (with_letters p l)
  left_keeps l left =
      let kept = keeps_outboxes (record p { mails = l.mails }) (leaves_keeps l.mails left.out left.leaves) x (drop 1 (outbox_at p x)) known (All-drop (Reaches p.shards) 1 (outbox_at p x) (are.each_outbox x known)) in
      subst (λ (xs : List (List Out)). AreParts (record p { outboxes = xs; mails = l.mails })) (sym left.outboxes) kept

-- ---- posts as the model's turns

seen_mail : (p : Parts) (t : To) (m : Mail Letter) → world_of (record p { mails = with_named p.mails (name_of t) m }) ≡ with_mail (world_of p) t m
seen_mail p (To.Person s) m = refl
seen_mail p (To.Object q) m = refl
seen_mail p To.Hub m = refl

mail_is : (p : Parts) (t : To) → named p.mails (name_of t) ≡ mail_of (world_of p) t
mail_is p (To.Person s) = refl
mail_is p (To.Object q) = refl
mail_is p To.Hub = refl

module _ (p : Parts) (x : ℕ) (h : Shard) (from : sender (phase p) h ≡ x) (known : number h < p.shards) where
  out_is : outbox (world_of p) h ≡ outbox_at p x
  out_is = outbox_seen p h known ∙ ap (λ (k : ℕ). outbox_at p k) from

  pub posts_nothing : (l : Letters) → Posts (letters_of p) x Posted.Nothing l → PostTurn (phase p) (world_of p) h TurnReply.Nothing (world_of (with_letters p l))
  posts_nothing l none = no_letter (inr (out_is ∙ none.0)) refl (ap (λ (k : Letters). world_of (with_letters p k)) none.1)

  module _ (o : Out) (first : outbox_at p x ≡ o ∷ drop 1 (outbox_at p x)) where
    abbrev rest : List Out
    rest = drop 1 (outbox_at p x)

    may_post : MayPost (phase p) (world_of p) h o rest
    may_post = record { known = known; first = out_is ∙ first }

    -- the step as the model has it
    as_seen : (r : Reply Letter) (m : Mail Letter) → Step (mail_for p.mails o) (post_of x o) r m → Step (mail_of (world_of p) o.to) (post_of (sender (phase p) h) o) r m
    as_seen r m step = subst (λ (b : Mail Letter). Step b (post_of (sender (phase p) h) o) r m) (mail_is p o.to) (subst (λ (k : ℕ). Step (mail_for p.mails o) (post_of k o) r m) (sym from) step)

    refused : (y : PostRefused) → Step (mail_for p.mails o) (post_of x o) (Reply.Refused y) (mail_for p.mails o) → Step (mail_of (world_of p) o.to) (post_of (sender (phase p) h) o) (Reply.Refused y) (mail_of (world_of p) o.to)
    refused y step = subst (λ (m : Mail Letter). Step (mail_of (world_of p) o.to) (post_of (sender (phase p) h) o) (Reply.Refused y) m) (mail_is p o.to) (as_seen (Reply.Refused y) (mail_for p.mails o) step)

    module _ (are : AreParts p) where
      -- the letter has left the outbox, whatever the mails are now
      rest_seen : (s : Mails) → world_of (record p { outboxes = set p.outboxes x rest; mails = s }) ≡ with_outbox (world_of (record p { mails = s })) h rest
      rest_seen s =
          ap (λ (k : ℕ). world_of (record p { outboxes = set p.outboxes k rest; mails = s })) (sym from) ∙ seen_outbox (record p { mails = s }) rest h known are.outboxes_are

      leaves_turn : (s : Mails) → Leaves p.mails x o s → PostTurn (phase p) (world_of p) h TurnReply.Moved (world_of (record p { outboxes = set p.outboxes x rest; mails = s }))
      leaves_turn s (inl sent) =
          posts o rest sent.number (mail_for s o) may_post (as_seen (Reply.Posted sent.number) (mail_for s o) sent.step) refl
          (rest_seen s ∙ ap (λ (w : World). with_outbox w h rest) (ap (λ (t : Mails). world_of (record p { mails = t })) sent.mails ∙ seen_mail p o.to (mail_for s o)))
      leaves_turn s (inr missed) =
          let same : world_of (record p { outboxes = set p.outboxes x rest; mails = s }) ≡ with_outbox (world_of p) h rest =
          rest_seen s ∙ ap (λ (t : Mails). with_outbox (world_of (record p { mails = t })) h rest) missed.same in
          elim missed.may [
            | inl closed ↦ meets_closed o rest may_post (refused PostRefused.Closed (subst (λ (y : PostRefused). Step (mail_for p.mails o) (post_of x o) (Reply.Refused y) (mail_for p.mails o)) closed missed.step)) refl same
            | inr price ↦ drops_price o rest missed.refused may_post (refused missed.refused missed.step) price.0 price.1 refl same
          ]

  pub posts_left : (l : Letters) → AreParts p → Posts (letters_of p) x Posted.Left l → PostTurn (phase p) (world_of p) h TurnReply.Moved (world_of (with_letters p l))
  posts_left l are left = subst (λ (xs : List (List Out)). PostTurn (phase p) (world_of p) h TurnReply.Moved (world_of (record p { outboxes = xs; mails = l.mails }))) (sym left.outboxes) (leaves_turn left.out left.first are l.mails left.leaves)

  pub posts_stays : (l : Letters) (v : Parts) (why : Why) → Posts (letters_of p) x (Posted.Stays why) l → v ≡ record (with_letters p l) { hub = ending p.hub (End.Stopped why) } → PostTurn (phase p) (world_of p) h TurnReply.Moved (world_of v)
  posts_stays l v why kept e =
      let o = kept.out in
      let stays = kept.stays in
      keeps_letter o (drop 1 (outbox_at p x)) stays.refused (may_post o kept.first) (refused o kept.first stays.refused stays.step) stays.not_closed stays.no_price refl
      (ap world_of (e ∙ ap (λ (k : Letters). record (with_letters p k) { hub = ending p.hub (End.Stopped why) }) kept.same) ∙ ap (λ (y : Why). ended (world_of p) y) stays.reason_is)
