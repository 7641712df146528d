-- What the invariants say of every world that is reached.
use Rattle.std.proofs.Common.{ℕ, ℤ, ◌≤ℤ◌, ◌≡◌, ◌≢◌, refl, arith, true, false, Option, Some, None, sym, ◌∙◌, ap, subst, ◌≤◌, ◌<◌}
use Rattle.std.proofs.lemmas.Bool.{eqb-true}
use Rattle.auc_letters.specs.declared.letter.Why.{Why}
use Rattle.auc_letters.specs.declared.state.Held.{Held}
use Rattle.auc_model.specs.Bidding.{SomeoneStuck}
use Rattle.auc_model.specs.Chosen.{HoldsAnObject}
use Rattle.auc_model.specs.Counts.{held_objects}
use Rattle.auc_model.specs.Invariants.{Sound}
use Rattle.auc_model.specs.Places.{is_held_by}
use Rattle.auc_model.specs.Schedule.{Reached}
use Rattle.auc_model.specs.Slack.{SlackRight}
use Rattle.auc_model.specs.SlackBids.{HasSlackArc}
use Rattle.auc_model.specs.Start.{UsualNodes}
use Rattle.auc_model.specs.Channels.{person_of, places, prices, channels}
use Rattle.auc_model.specs.World.{Phase, World}
use Rattle.auc_model.specs.declared.turn.End.{End}
use Rattle.auc_model.proofs.Bounds.{firsts_le, held_le}
use Rattle.auc_model.proofs.Everyone.{holds_some}
use Rattle.auc_model.proofs.Example.{usual}
use Rattle.auc_model.proofs.Places.{held_once, put_self}
use Rattle.auc_model.proofs.Prices.{copy_low}
use Rattle.auc_model.proofs.Reached.{kept_reached, room_reached}

-- the end is that of no guard
pub record IsNoGuard (e : Option End) : Type 0 where
  pub fell : e ≢ Some (End.Stopped Why.Fell)
  pub stray : e ≢ Some (End.Stopped Why.Stray)
  pub trail : e ≢ Some (End.Stopped Why.Trail)

sound_no_guard : (g : Phase) (e : Option End) → Sound g e → IsNoGuard e
sound_no_guard g e s = record { fell = λ h. rw h at s; stray = λ h. rw h at s; trail = λ h. rw h at s }

-- No guard is hit, no copy is above the true price, and no person is held twice
pub record OfEverySchedule (v : World) : Type 0 where
  pub no_guard : IsNoGuard v.end
  pub copies_low : (s j : ℕ) → v.copy s j ≤ℤ v.price j
  pub held_once : (j k : ℕ) (a b : Held) → v.holder j ≡ Some a → v.holder k ≡ Some b → a.person ≡ b.person → j ≡ k

pub of_every_schedule : (g : Phase) (v : World) → Reached g v → OfEverySchedule v
of_every_schedule g v r =
    let k = kept_reached g v r in
    let c = channels g v k.lost in
    record {
      no_guard = sound_no_guard g v.end k.inv.sound;
      copies_low = λ s j. copy_low (prices g v c) s j k.inv.never_falls;
      held_once = λ j l a b e f same. held_once (places g v c) a.person j l (ap person_of e) (ap person_of f ∙ ap Some (sym same)) k.inv.in_place;
    }

-- every holder's arc is one of the person's to that object, and satisfies epsilon-complementary slackness at the true
-- prices
pub holders_slack : (g : Phase) (v : World) → Reached g v
    → (j : ℕ) (h : Held) → v.holder j ≡ Some h → HasSlackArc g v.price h j
holders_slack g v r j h e =
    let k = kept_reached g v r in
    let f = k.inv.slack_holders j h e in
    record {
      arc = f.arc;
      listed = f.listed;
      leads = f.leads;
      place = f.stands;
      slack = subst (λ (p : ℕ → ℤ). SlackRight g p h.person f.arc) (put_self v.price j) f.slack;
    }

-- the hub counts no more than there are persons, and no more objects are held
pub counted_le : (g : Phase) (v : World) → Reached g v → (v.count ≤ g.persons) × (held_objects g v ≤ g.persons)
counted_le g v r =
    let k = kept_reached g v r in
    let a = firsts_le g v (channels g v k.lost) k.inv.counts in
    (omega (arith, a), held_le g v (channels g v k.lost) k.inv.counts)

-- where the hub has counted every person, each of them holds an object
pub everyone_holds : (g : Phase) (v : World) → Reached g v → v.count ≡ g.persons
    → (i : ℕ) → i < g.persons → HoldsAnObject v i
everyone_holds g v r all i l =
    let k = kept_reached g v r in
    let p = holds_some g v (channels g v k.lost) r.lawful k.inv all i l in
    by_holder p.0 (v.holder p.0) refl p.1
  where
    by_holder : (j : ℕ) (o : Option Held) → v.holder j ≡ o → is_held_by (person_of (v.holder j)) i ≡ true → HoldsAnObject v i
    by_holder j None e t = absurd (let f : is_held_by (person_of (v.holder j)) i ≡ false = rw e in cc (t, f))
    by_holder j (Some h) e t = record { object = j; held = h; holds = e; person = eqb-true h.person i (rw e at t) }

-- with the usual nodes no letter but a Price meets Full
pub no_mail_stop : (g : Phase) (v : World) → Reached g v → UsualNodes g v → v.end ≢ Some (End.Stopped Why.Mail)
no_mail_stop g v r usual = (room_reached g v r usual).no_mail

-- the phase ends for want of an arc only if some person has none
pub stuck_only : (g : Phase) (v : World) → Reached g v → v.end ≡ Some (End.Stopped Why.Stuck) → SomeoneStuck g
stuck_only g v r e = rw e at ((kept_reached g v r).inv.sound)
