-- The invariant of the parts still holds after a shard, an outbox or a mail has changed.
use Rattle.std.proofs.Common.{ℕ, ◌*◌, ◌<◌, ◌≡◌, List, [], length, get_or, set, inl, inr, ap, ◌∙◌, arith, length-set}
use Rattle.std.specs.Prelude.{ℤ, All, Result}
use Rattle.std.proofs.lemmas.Bool.{cases_eq}
use Rattle.std.proofs.lemmas.List.{get_or-set_same, get_or-set_other}
use Rattle.auc_letters.specs.declared.letter.Letter.{Letter}
use Rattle.auc_letters.specs.declared.out.Out.{Out}
use Rattle.auc_mail.specs.Mail.{Mail}
use Rattle.auc_mail.specs.Step.{Step}
use Rattle.auc_mail.specs.declared.call.Call.{Call}
use Rattle.auc_mail.specs.declared.call.Reply.{Reply}
use Rattle.auc_mail.proofs.StepLaws.{step_shape}
use Rattle.auc_letters.specs.declared.letter.Bid.{Bid}
use Rattle.auc_letters.specs.Award.{Sale, answers}
use Rattle.auc_objects.specs.Objects.{Objects, SameShape as SameObjects, sale_of}
use Rattle.auc_persons.specs.declared.bidding.Bidding.{Bidding}
use Rattle.auc_persons.specs.declared.bidding.PersonFault.{PersonFault}
use Rattle.auc_persons.specs.Persons.{Persons, SameShape as SamePersons, NextBid, OnLetter}
use Rattle.auc_model.specs.declared.turn.MailName.{MailName}
use Rattle.auc_phases.specs.Boxes.{Reaches, boxes_in}
use Rattle.auc_phases.specs.Shards.{IsObjectShard, IsPersonShard, no_objects, no_persons}
use Rattle.auc_phases.proofs.ShardLaws.{answers_reach, hears_own, next_bid_own, objects_shape, persons_shape}
use Rattle.auc_machine.specs.Mails.{Mails, named, with_named}
use Rattle.auc_machine.specs.Parts.{AreMails, AreParts, IsMail, Parts, objects_at, persons_at}

-- a fact about each element stays where it holds of the new one
pub each_set : {X : Type 0} (P : ℕ → X → Type 0) (xs : List X) (d : X) (n k : ℕ) (new : X) → length xs ≡ n → k < n → P k new → ((s : ℕ) → s < n → P s (get_or xs s d)) → (s : ℕ) → s < n → P s (get_or (set xs k new) s d)
each_set P xs d n k new e known here each s l =
    elim (cases_eq s k) [
      | inl h ↦ rw (h, get_or-set_same xs k new d (omega arith)) here
      | inr ne ↦ rw (get_or-set_other xs k s new d ne) (each s l)
    ]

pub mail_shape : (n : ℕ) (x y : Mail Letter) (c : Call Letter) (r : Reply Letter) (boxes : ℕ) → Step x c r y → IsMail n x boxes → IsMail n y boxes
mail_shape n x y c r boxes step is =
    let shape = step_shape x y c r step in
    record { boxes_are = shape.boxes ∙ is.boxes_are; senders_are = shape.senders ∙ is.senders_are }

mails_step : (n : ℕ) (x : Mails) (name : MailName) (m : Mail Letter) (c : Call Letter) (r : Reply Letter) → Step (named x name) c r m → AreMails n x → AreMails n (with_named x name m)
mails_step n x MailName.Objects m c r step are = record { objects = mail_shape n x.objects m c r n step are.objects; persons = are.persons; hub = are.hub }
mails_step n x MailName.Persons m c r step are = record { objects = are.objects; persons = mail_shape n x.persons m c r n step are.persons; hub = are.hub }
mails_step n x MailName.Hub m c r step are = record { objects = are.objects; persons = are.persons; hub = mail_shape n x.hub m c r 1 step are.hub }

-- the mail of each name
pub mail_there : (p : Parts) → AreParts p → (name : MailName) → IsMail p.shards (named p.mails name) (boxes_in p.shards name)
mail_there p are MailName.Objects = are.mails_are.objects
mail_there p are MailName.Persons = are.mails_are.persons
mail_there p are MailName.Hub = are.mails_are.hub

module _ (p : Parts) (are : AreParts p) where
  pub keeps_persons : (s : ℕ) (new : Persons) → s < p.shards → IsPersonShard p.table p.shards s new → AreParts (record p { persons = set p.persons s new })
  keeps_persons s new known is = record {
    some = are.some;
    few = are.few;
    eps_is = are.eps_is;
    table_is = are.table_is;
    persons_are = length-set p.persons s new ∙ are.persons_are;
    objects_are = are.objects_are;
    outboxes_are = are.outboxes_are;
    stopped_are = are.stopped_are;
    each_persons = each_set (IsPersonShard p.table p.shards) p.persons no_persons p.shards s new are.persons_are known is are.each_persons;
    each_objects = are.each_objects;
    each_outbox = are.each_outbox;
    mails_are = are.mails_are;
  }

  pub next_bid_keeps : (s : ℕ) (x new : Persons) (r : Bidding) → s < p.shards → x ≡ persons_at p s → NextBid p.table p.eps x r new → SamePersons x new → AreParts (record p { persons = set p.persons s new })
  next_bid_keeps s x new r known e next same =
      let is : IsPersonShard p.table p.shards s x = rw e (are.each_persons s known) in
      keeps_persons s new known (persons_shape p.table p.shards s x new same (next_bid_own p.table p.eps x new r next same is.idle_own) is)

  pub hearing_keeps : (s : ℕ) (x new : Persons) (l : Letter) (r : Result (Unit {0}) PersonFault) → s < p.shards → x ≡ persons_at p s → OnLetter x l r new → SamePersons x new → AreParts (record p { persons = set p.persons s new })
  hearing_keeps s x new l r known e hears same =
      let is : IsPersonShard p.table p.shards s x = rw e (are.each_persons s known) in
      keeps_persons s new known (persons_shape p.table p.shards s x new same (hears_own x new l r hears same is.idle_own) is)

  pub keeps_objects : (q : ℕ) (new : Objects) → q < p.shards → IsObjectShard p.table p.shards q new → AreParts (record p { objects = set p.objects q new })
  keeps_objects q new known is = record {
    some = are.some;
    few = are.few;
    eps_is = are.eps_is;
    table_is = are.table_is;
    persons_are = are.persons_are;
    objects_are = length-set p.objects q new ∙ are.objects_are;
    outboxes_are = are.outboxes_are;
    stopped_are = are.stopped_are;
    each_persons = are.each_persons;
    each_objects = each_set (IsObjectShard p.table p.shards) p.objects no_objects p.shards q new are.objects_are known is are.each_objects;
    each_outbox = are.each_outbox;
    mails_are = are.mails_are;
  }

  pub answer_keeps : (q : ℕ) (x new : Objects) → q < p.shards → x ≡ objects_at p q → SameObjects x new → AreParts (record p { objects = set p.objects q new })
  answer_keeps q x new known e same = keeps_objects q new known (objects_shape p.table p.shards q x new same (rw e (are.each_objects q known)))

  -- the number of person shards that the object shard has noted
  answers_to : (q : ℕ) (x : Objects) → q < p.shards → x ≡ objects_at p q → x.person_shards ≡ p.shards
  answers_to q x known e = let is : IsObjectShard p.table p.shards q x = rw e (are.each_objects q known) in is.person_shards

  -- the answers of a shard to a bid
  pub answers_here : (q : ℕ) (x : Objects) (os : List Out) (eps : ℤ) (bid : Bid) → q < p.shards → x ≡ objects_at p q → os ≡ answers x.person_shards eps (sale_of x bid.object) bid → os ≡ answers p.shards eps (sale_of (objects_at p q) bid.object) bid
  answers_here q x os eps bid known e answered = answered ∙ (ap (λ (n : ℕ). answers n eps (sale_of x bid.object) bid) (answers_to q x known e) ∙ ap (λ (y : Objects). answers p.shards eps (sale_of y bid.object) bid) e)

  pub reach_by : (os : List Out) (eps : ℤ) (sale : Sale) (bid : Bid) → os ≡ answers p.shards eps sale bid → All (Reaches p.shards) os
  reach_by os eps sale bid e = rw e (answers_reach p.shards eps sale bid are.some)

  pub keeps_outboxes : (x : ℕ) (new : List Out) → x < 2 * p.shards → All (Reaches p.shards) new → AreParts (record p { outboxes = set p.outboxes x new })
  keeps_outboxes x new known reach = record {
    some = are.some;
    few = are.few;
    eps_is = are.eps_is;
    table_is = are.table_is;
    persons_are = are.persons_are;
    objects_are = are.objects_are;
    outboxes_are = length-set p.outboxes x new ∙ are.outboxes_are;
    stopped_are = are.stopped_are;
    each_persons = are.each_persons;
    each_objects = are.each_objects;
    each_outbox = each_set (λ _ os. All (Reaches p.shards) os) p.outboxes [] (2 * p.shards) x new are.outboxes_are known reach are.each_outbox;
    mails_are = are.mails_are;
  }

  -- a mail has made a step
  pub keeps_mails : (name : MailName) (m : Mail Letter) (c : Call Letter) (r : Reply Letter) → Step (named p.mails name) c r m → AreParts (record p { mails = with_named p.mails name m })
  keeps_mails name m c r step = record {
    some = are.some;
    few = are.few;
    eps_is = are.eps_is;
    table_is = are.table_is;
    persons_are = are.persons_are;
    objects_are = are.objects_are;
    outboxes_are = are.outboxes_are;
    stopped_are = are.stopped_are;
    each_persons = are.each_persons;
    each_objects = are.each_objects;
    each_outbox = are.each_outbox;
    mails_are = mails_step p.shards p.mails name m c r step are.mails_are;
  }
