-- Open boxes, and channels after a box closes: letters are lost only at closed boxes, and a box never opens again.
use Rattle.std.proofs.Common.{ℕ, ◌*◌, ◌≡◌, refl, Bool, true, false, List, length, ap, sym, ◌∙◌, inl, inr}
use Rattle.std.specs.Prelude.{◌==◌, ◌&&◌}
use Rattle.std.proofs.lemmas.Bool.{cases_Bool}
use Rattle.auc_letters.specs.declared.letter.Letter.{Letter}
use Rattle.auc_letters.specs.declared.out.Out.{Out}
use Rattle.auc_letters.specs.declared.out.To.{To}
use Rattle.auc_mail.proofs.StepLaws.{step_shape}
use Rattle.auc_mail.specs.Mail.{IsWhole, Lane, Mail, is_open, with_closed, with_lane}
use Rattle.auc_mail.specs.Step.{Step}
use Rattle.auc_mail.specs.declared.call.Call.{Call}
use Rattle.auc_mail.specs.declared.call.Reply.{Reply}
use Rattle.auc_model.specs.Invariants.{Open, Shaped, Shapes}
use Rattle.auc_model.specs.Letters.{same_to}
use Rattle.auc_model.specs.Mails.{ObjectShard, PersonShard, Shard, box_of, mail_named, mail_of, with_mail, with_mail_named, with_outbox}
use Rattle.auc_model.specs.Channels.{Lost, set_channel, channels}
use Rattle.auc_model.specs.World.{Phase, World}
use Rattle.auc_model.specs.declared.turn.MailName.{MailName}
use Rattle.auc_model.proofs.Mails.{open-close}
use Rattle.auc_model.proofs.Channels.{both_from, same_channels, set_channel_off}

-- whether the box that a letter goes to accepts it
abbrev pub opens : World → To → Bool
opens w t = is_open (mail_of w t) (box_of t)

pub opens_same : (w v : World) → v.objects_mail ≡ w.objects_mail → v.persons_mail ≡ w.persons_mail → v.hub_mail ≡ w.hub_mail → (t : To) → opens v t ≡ opens w t
opens_same w v e1 e2 e3 (To.Person s) = rw e2
opens_same w v e1 e2 e3 (To.Object s) = rw e1
opens_same w v e1 e2 e3 To.Hub = rw e3

pub opens_set : (w : World) (t : To) (x : ℕ) (l : Lane Letter) (u : To) → opens (with_mail w t (with_lane (mail_of w t) (box_of t) x l)) u ≡ opens w u
opens_set w (To.Person s) x l (To.Person r) = refl
opens_set w (To.Person s) x l (To.Object r) = refl
opens_set w (To.Person s) x l To.Hub = refl
opens_set w (To.Object s) x l (To.Object r) = refl
opens_set w (To.Object s) x l (To.Person r) = refl
opens_set w (To.Object s) x l To.Hub = refl
opens_set w To.Hub x l To.Hub = refl
opens_set w To.Hub x l (To.Person r) = refl
opens_set w To.Hub x l (To.Object r) = refl

pub opens_outbox : (w : World) (h : Shard) (os : List Out) (t : To) → opens (with_outbox w h os) t ≡ opens w t
opens_outbox w (PersonShard s) os t = opens_same w (with_outbox w (PersonShard s) os) refl refl refl t
opens_outbox w (ObjectShard s) os t = opens_same w (with_outbox w (ObjectShard s) os) refl refl refl t

-- a box closes
pub opens_before : (w : World) (name : MailName) (b : ℕ) (u : To) → opens (with_mail_named w name (with_closed (mail_named w name) b)) u ≡ true → opens w u ≡ true
opens_before w MailName.Persons b (To.Person r) o = open-close w.persons_mail b r o
opens_before w MailName.Persons b (To.Object r) o = o
opens_before w MailName.Persons b To.Hub o = o
opens_before w MailName.Objects b (To.Object r) o = open-close w.objects_mail b r o
opens_before w MailName.Objects b (To.Person r) o = o
opens_before w MailName.Objects b To.Hub o = o
opens_before w MailName.Hub b To.Hub o = open-close w.hub_mail b 0 o
opens_before w MailName.Hub b (To.Person r) o = o
opens_before w MailName.Hub b (To.Object r) o = o

pub channels_close : (g : Phase) (w : World) (lost : Lost) (name : MailName) (b : ℕ) → channels g (with_mail_named w name (with_closed (mail_named w name) b)) lost ≡ channels g w lost
channels_close g w lost name b = same_channels (channels g (with_mail_named w name (with_closed (mail_named w name) b)) lost) (channels g w lost) (at name)
  where
    at : (n : MailName) (u : To) (x : ℕ) → channels g (with_mail_named w n (with_closed (mail_named w n) b)) lost u x ≡ channels g w lost u x
    at MailName.Persons (To.Person r) x = refl
    at MailName.Persons (To.Object r) x = refl
    at MailName.Persons To.Hub x = refl
    at MailName.Objects (To.Person r) x = refl
    at MailName.Objects (To.Object r) x = refl
    at MailName.Objects To.Hub x = refl
    at MailName.Hub (To.Person r) x = refl
    at MailName.Hub (To.Object r) x = refl
    at MailName.Hub To.Hub x = refl

-- letters are still lost only at closed boxes
pub open_by : (w v : World) (lost : Lost) → ((t : To) → opens v t ≡ true → opens w t ≡ true) → Open w lost → Open v lost
open_by w v lost h o t x e = o t x (h t e)

pub open_more : (w : World) (t : To) (x : ℕ) (ls : List Letter) (lost : Lost) → opens w t ≡ false → Open w lost → Open w (set_channel lost t x ls)
open_more w t x ls lost closed o u y e =
    elim (cases_Bool (same_to u t && (y == x))) [
      | inl h ↦ absurd (not_here u y h e)
      | inr h ↦ rw (set_channel_off lost t x ls u y h) (o u y e)
    ]
  where
    not_here : (u : To) (y : ℕ) → (same_to u t && (y == x)) ≡ true → opens w u ≡ true → ⊥
    not_here u y h e = let p = both_from u t y x h in let f : opens w t ≡ true = rw (← p.0) e in absurd (cc (f, closed))

-- the shapes of the mails stay
module _ (g : Phase) where
  pub shaped_step : (m n : Mail Letter) (boxes : ℕ) (c : Call Letter) (r : Reply Letter) → Step m c r n → Shaped g m boxes → Shaped g n boxes
  shaped_step m n boxes c r h s =
      let e = step_shape m n c r h in
      record {
        boxes_are = e.boxes ∙ s.boxes_are;
        senders_are = e.senders ∙ s.senders_are;
        whole = e.lanes ∙ (s.whole ∙ sym (ap (λ (k : ℕ). k * n.senders) e.boxes ∙ ap (λ (k : ℕ). length m.accepting * k) e.senders));
      }

  -- the number of boxes of a mail
  abbrev pub boxes_of : To → ℕ
  boxes_of (To.Person s) = g.shards
  boxes_of (To.Object q) = g.shards
  boxes_of To.Hub = 1

  module _ (w : World) (shapes : Shapes g w) where
    pub shape_of : (t : To) → Shaped g (mail_of w t) (boxes_of t)
    shape_of (To.Person s) = shapes.persons
    shape_of (To.Object q) = shapes.objects
    shape_of To.Hub = shapes.hub

    pub whole_of : (t : To) → IsWhole (mail_of w t)
    whole_of t = (shape_of t).whole

    pub shapes_with : (t : To) (m : Mail Letter) → Shaped g m (boxes_of t) → Shapes g (with_mail w t m)
    shapes_with (To.Person s) m h = record { objects = shapes.objects; persons = h; hub = shapes.hub }
    shapes_with (To.Object q) m h = record { objects = h; persons = shapes.persons; hub = shapes.hub }
    shapes_with To.Hub m h = record { objects = shapes.objects; persons = shapes.persons; hub = h }

    pub shapes_step : (t : To) (m : Mail Letter) (c : Call Letter) (r : Reply Letter) → Step (mail_of w t) c r m → Shapes g (with_mail w t m)
    shapes_step t m c r h = shapes_with t m (shaped_step (mail_of w t) m (boxes_of t) c r h (shape_of t))

    pub shapes_named : (name : MailName) (m : Mail Letter) (c : Call Letter) (r : Reply Letter) → Step (mail_named w name) c r m → Shapes g (with_mail_named w name m)
    shapes_named MailName.Objects m c r h = record { objects = shaped_step w.objects_mail m g.shards c r h shapes.objects; persons = shapes.persons; hub = shapes.hub }
    shapes_named MailName.Persons m c r h = record { objects = shapes.objects; persons = shaped_step w.persons_mail m g.shards c r h shapes.persons; hub = shapes.hub }
    shapes_named MailName.Hub m c r h = record { objects = shapes.objects; persons = shapes.persons; hub = shaped_step w.hub_mail m 1 c r h shapes.hub }

    pub shapes_same : (v : World) → v.objects_mail ≡ w.objects_mail → v.persons_mail ≡ w.persons_mail → v.hub_mail ≡ w.hub_mail → Shapes g v
    shapes_same v e1 e2 e3 = record { objects = rw e1 shapes.objects; persons = rw e2 shapes.persons; hub = rw e3 shapes.hub }

  pub shapes_outbox : (w : World) (h : Shard) (os : List Out) → Shapes g w → Shapes g (with_outbox w h os)
  shapes_outbox w (PersonShard s) os k = record { objects = k.objects; persons = k.persons; hub = k.hub }
  shapes_outbox w (ObjectShard q) os k = record { objects = k.objects; persons = k.persons; hub = k.hub }
