-- The world that a phase begins with keeps what every turn keeps.
use Rattle.std.proofs.Common.{ℕ, ◌-◌, ◌*◌, ◌<◌, ◌≡◌, refl, arith, true, false, List, [], length, sum_by, ap, sym, ◌∙◌, subst}
use Rattle.std.specs.Prelude.{nat_lt}
use Rattle.std.proofs.lemmas.Bool.{cond_both}
use Rattle.std.proofs.lemmas.List.{length-replicate, get_or-replicate}
use Rattle.std.proofs.lemmas.List.Folds.{sum_by-replicate}
use Rattle.auc_letters.specs.declared.letter.Letter.{Letter}
use Rattle.auc_letters.specs.declared.out.Out.{Out}
use Rattle.auc_letters.specs.declared.out.To.{To}
use Rattle.auc_mail.proofs.RunLaws.{empty_lane, empty_sound}
use Rattle.auc_mail.specs.Mail.{IsEmpty, IsOpen, Lane, Mail, blank_lane, empty_mail, is_open, lane_of}
use Rattle.auc_model.specs.Counts.{Counts, held_one, holds_one, waits_one}
use Rattle.auc_model.specs.Invariants.{Inv, Kept, Shaped}
use Rattle.auc_model.specs.Letters.{award_one, bid_one, first_one, outbid_one, price_one, refused_one, stop_one}
use Rattle.auc_model.specs.Mails.{box_of, mail_of}
use Rattle.auc_model.specs.Room.{Room, stops_out, weight}
use Rattle.auc_model.specs.Start.{IsNew, Starts, UsualNodes}
use Rattle.auc_model.specs.Channels.{Channels, out_of, waiting, channels}
use Rattle.auc_model.specs.World.{Phase, World, senders}
use Rattle.auc_model.proofs.Example.{usual}
use Rattle.auc_model.proofs.Sums.{total_zero}
use Rattle.auc_model.proofs.Totals.{everywhere_nothing}
use Rattle.auc_model.proofs.Channels.{same_channels}

-- a new mail
module _ (g : Phase) (m : Mail Letter) (boxes : ℕ) (new : IsNew g m boxes) where
  flags : length m.accepting ≡ boxes
  flags = ap (λ (z : Mail Letter). length z.accepting) new ∙ length-replicate boxes true

  size : m.senders ≡ senders g
  size = ap (λ (z : Mail Letter). z.senders) new

  empty : IsEmpty m
  empty = subst (λ (k : ℕ). m ≡ empty_mail (length m.accepting) k m.nodes m.most) (sym size) (subst (λ (k : ℕ). m ≡ empty_mail k (senders g) m.nodes m.most) (sym flags) new)

  pub new_shaped : Shaped g m boxes
  new_shaped = record { boxes_are = flags; senders_are = size; whole = (empty_sound m empty).whole }

  pub new_waits : (b x : ℕ) → waiting m b x ≡ []
  new_waits b x =
      cond_both (nat_lt x m.senders) (lane_of m b x).waiting [] (λ (ls : List Letter). ls ≡ [])
      (λ e. ap (λ (l : Lane Letter). l.waiting) (empty_lane m b x empty)) (λ e. refl)

  pub new_open : (b : ℕ) → b < boxes → IsOpen m b
  new_open b l = ap (λ (z : Mail Letter). is_open z b) new ∙ get_or-replicate boxes b true false l

  pub new_weight : (f : Letter → ℕ) → weight f m ≡ 0
  new_weight f =
      let a = sum_by-replicate (λ (l : Lane Letter). sum_by f l.waiting) (boxes * senders g) blank_lane in
      let e = ap (λ (z : Mail Letter). weight f z) new in
      omega (arith, a, e)

module _ (g : Phase) (w : World) (s : Starts g w) where
  pub no_letters : (t : To) (x : ℕ) → waiting (mail_of w t) (box_of t) x ≡ []
  no_letters (To.Person q) x = new_waits g w.persons_mail g.shards s.persons_mail q x
  no_letters (To.Object q) x = new_waits g w.objects_mail g.shards s.objects_mail q x
  no_letters To.Hub x = new_waits g w.hub_mail 1 s.hub_mail 0 x

  pub no_outs_start : (x : ℕ) → out_of g w x ≡ []
  no_outs_start x =
      cond_both (nat_lt x g.shards) (w.person_out x) _ (λ (os : List Out). os ≡ []) (λ e. s.no_person_out x)
      (λ e. cond_both (nat_lt x (2 * g.shards)) (w.object_out (x - g.shards)) [] (λ (os : List Out). os ≡ []) (λ f. s.no_object_out (x - g.shards)) (λ f. refl))

  starting_counts : Counts g w (λ t x. [])
  starting_counts =
      let e = λ (f : Letter → ℕ). everywhere_nothing g f (λ t x. []) (λ t x. refl) in
      let a = total_zero (λ i. waits_one (w.state i)) g.persons (λ i. rw (s.all_free i)) in
      let b = total_zero (λ i. holds_one (w.state i)) g.persons (λ i. rw (s.all_free i)) in
      let h = total_zero (λ j. held_one (w.holder j)) g.objects (λ j. rw (s.nobody_holds j)) in
      record {
        who_waits = omega (arith, e bid_one, e award_one, e refused_one, a);
        who_holds = omega (arith, e outbid_one, e award_one, b, h);
        who_told = omega (arith, e first_one, s.none_counted, h);
      }

  starting_inv : Inv g w (λ t x. [])
  starting_inv =
      record {
        routed = (λ t x. tt);
        never_falls = (λ r j. s.copies_low r j);
        in_place = (λ i j. rw (s.all_free i, s.nobody_holds j) (record { same = refl; right = (λ e. cc) }));
        price_range = s.price_range;
        copy_range = s.copies_above;
        idle_is = (λ r i. rw (s.all_free i) (s.idle_is r i));
        holder_range = (λ j h e. absurd (cc (s.nobody_holds j, e)));
        counts = starting_counts;
        slack_letters = (λ t x. tt);
        slack_holders = (λ j h e. absurd (cc (s.nobody_holds j, e)));
        sound = rw s.no_end tt;
      }

  pub kept_start : Kept g w
  kept_start = record {
    shapes = record {
      objects = new_shaped g w.objects_mail g.shards s.objects_mail;
      persons = new_shaped g w.persons_mail g.shards s.persons_mail;
      hub = new_shaped g w.hub_mail 1 s.hub_mail;
    };
    lost = (λ t x. []);
    only_closed = (λ t x e. refl);
    inv = subst (λ (c : Channels). Inv g w c) (sym (same_channels (channels g w (λ t x. [])) (λ t x. []) (λ t x. rw (no_letters t x, no_outs_start x)))) starting_inv;
  }

  pub room_start : UsualNodes g w → Room g w
  room_start usual =
      let a = new_weight g w.persons_mail g.shards s.persons_mail price_one in
      let b = new_weight g w.hub_mail 1 s.hub_mail stop_one in
      let d : stops_out g w ≡ 0 = total_zero (λ x. sum_by (λ o. stop_one o.letter) (w.person_out x)) g.shards (λ x. rw (s.no_person_out x)) in
      record {
        objects_nodes = usual.objects;
        persons_nodes = usual.persons;
        hub_nodes = usual.hub;
        few_prices = omega (arith, a);
        few_stops = omega (arith, b, d);
        person_reserves = (λ x. rw (s.no_person_out x) tt);
        object_reserves = (λ q. rw (s.no_object_out q) tt);
        no_mail = (λ e. cc (s.no_end, e));
      }
