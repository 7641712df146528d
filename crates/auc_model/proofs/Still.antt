-- Where nothing can move, the end is set.
use Rattle.std.proofs.Common.{ℕ, ◌*◌, ◌<◌, ◌≡◌, ◌≢◌, refl, arith, true, List, [], ◌∷◌, ◌++◌, None, inl, inr, sym, ◌∙◌}
use Rattle.std.specs.Prelude.{nat_lt, ◌-◌}
use Rattle.std.proofs.lemmas.Bool.{cond_both, ltb-true, ltb-false}
use Rattle.auc_letters.specs.declared.letter.Letter.{Letter}
use Rattle.auc_letters.specs.declared.letter.Why.{Why}
use Rattle.auc_letters.specs.declared.out.Out.{Out}
use Rattle.auc_letters.specs.declared.out.To.{To}
use Rattle.auc_model.specs.Counts.{everywhere}
use Rattle.auc_model.specs.Invariants.{Kept}
use Rattle.auc_model.specs.Letters.{letters_to, stop_one}
use Rattle.auc_model.specs.Mails.{box_of, mail_of}
use Rattle.auc_model.specs.Room.{one_if, stopped_shards}
use Rattle.auc_model.specs.Schedule.{Schedule}
use Rattle.auc_model.specs.Start.{Lawful, Starts}
use Rattle.auc_model.specs.Still.{IsStill}
use Rattle.auc_model.specs.Channels.{Routed, Channels, out_of, waiting, channels}
use Rattle.auc_model.specs.World.{Phase, World, senders}
use Rattle.auc_model.specs.declared.turn.MailName.{MailName}
use Rattle.auc_model.specs.declared.turn.Turn.{Turn}
use Rattle.auc_model.proofs.Closing.{opens}
use Rattle.auc_model.proofs.Ends.{ends_counted_schedule}
use Rattle.auc_model.proofs.Everyone.{all_counted}
use Rattle.auc_model.proofs.Mails.{waiting_there}
use Rattle.auc_model.proofs.Routes.{routed_first}
use Rattle.auc_model.proofs.Stall.{Going, going_schedule, its_box}
use Rattle.auc_model.proofs.Start.{kept_start, new_open, no_letters, no_outs_start}
use Rattle.auc_model.proofs.Sums.{total_zero, zero_at}
use Rattle.auc_model.proofs.Totals.{IsBox, everywhere_nothing}
use Rattle.auc_model.proofs.WorkedRun.{run}

both_empty : {X : Type 0} (xs ys : List X) → xs ++ ys ≡ [] → (xs ≡ []) × (ys ≡ [])
both_empty [] ys e = (refl, e)
both_empty (x ∷ xs) ys e = absurd cc

module _ (g : Phase) (w : World) (law : Lawful g) (going : Going g w) (still : IsStill g w) (none : w.end ≡ None) where
  abbrev k : Kept g w
  k = going.kept

  abbrev c : Channels
  c = channels g w k.lost

  its_sender : (t : To) (x : ℕ) (l : Letter) → Routed g t x l → x < senders g
  its_sender (To.Person s) x (Letter.Award i j p) r = let e = r.channel in omega (arith, e, law.some_shards)
  its_sender (To.Person s) x (Letter.Refused i j p) r = let e = r.channel in omega (arith, e, law.some_shards)
  its_sender (To.Person s) x (Letter.Outbid i j p) r = let e = r.channel in omega (arith, e, law.some_shards)
  its_sender (To.Person s) x (Letter.Price j p) r = let e = r.channel in omega (arith, e, law.some_shards)
  its_sender (To.Person s) x (Letter.Bid i a j p) r = absurd r
  its_sender (To.Person s) x (Letter.First j) r = absurd r
  its_sender (To.Person s) x (Letter.Stop y) r = absurd r
  its_sender (To.Object q) x (Letter.Bid i a j p) r = let e = r.channel in omega (arith, e, law.some_shards)
  its_sender (To.Object q) x (Letter.Award i j p) r = absurd r
  its_sender (To.Object q) x (Letter.Refused i j p) r = absurd r
  its_sender (To.Object q) x (Letter.Outbid i j p) r = absurd r
  its_sender (To.Object q) x (Letter.Price j p) r = absurd r
  its_sender (To.Object q) x (Letter.First j) r = absurd r
  its_sender (To.Object q) x (Letter.Stop y) r = absurd r
  its_sender To.Hub x (Letter.First j) r = let e = r.1 in omega (arith, e, law.some_shards)
  its_sender To.Hub x (Letter.Stop y) r = by y r
    where
      by : (y : Why) → Routed g To.Hub x (Letter.Stop y) → x < senders g
      by Why.Bids r = omega (arith, r)
      by Why.Stuck r = let l = r.0 in omega (arith, l)
      by Why.Ceiling r = omega (arith, r)
      by Why.Posts r = absurd r
      by Why.Trail r = absurd r
      by Why.Mail r = absurd r
      by Why.Fell r = absurd r
      by Why.Stray r = absurd r
  its_sender To.Hub x (Letter.Bid i a j p) r = absurd r
  its_sender To.Hub x (Letter.Award i j p) r = absurd r
  its_sender To.Hub x (Letter.Refused i j p) r = absurd r
  its_sender To.Hub x (Letter.Outbid i j p) r = absurd r
  its_sender To.Hub x (Letter.Price j p) r = absurd r

  none_waits : (t : To) (x : ℕ) → IsBox g t → x < senders g → waiting (mail_of w t) (box_of t) x ≡ []
  none_waits (To.Person s) x b l =
      let e = k.shapes.persons in
      let m : x < w.persons_mail.senders = rw e.senders_are l in
      waiting_there w.persons_mail s x m ∙ still.nothing_waits MailName.Persons s (rw e.boxes_are b) x m
  none_waits (To.Object q) x b l =
      let e = k.shapes.objects in
      let m : x < w.objects_mail.senders = rw e.senders_are l in
      waiting_there w.objects_mail q x m ∙ still.nothing_waits MailName.Objects q (rw e.boxes_are b) x m
  none_waits To.Hub x b l =
      let e = k.shapes.hub in
      let m : x < w.hub_mail.senders = rw e.senders_are l in
      waiting_there w.hub_mail 0 x m ∙ still.nothing_waits MailName.Hub 0 (rw e.boxes_are (omega arith)) x m

  no_outs : (x : ℕ) → out_of g w x ≡ []
  no_outs x =
      cond_both (nat_lt x g.shards) (w.person_out x) _ (λ (os : List Out). os ≡ [])
      (λ e. still.no_person_out x (ltb-true x g.shards e))
      (λ e. cond_both (nat_lt x (2 * g.shards)) (w.object_out (x - g.shards)) [] (λ (os : List Out). os ≡ [])
      (λ f. still.no_object_out (x - g.shards) (let a = ltb-true x (2 * g.shards) f in let b = ltb-false x g.shards e in omega (arith, a, b))) (λ f. refl))

  channel_empty : (t : To) (x : ℕ) → c t x ≡ []
  channel_empty t x = by (c t x) refl
    where
      there : IsBox g t → x < senders g → c t x ≡ []
      there b l = rw (none_waits t x b l, k.only_closed t x (going.yet none t b), no_outs x)

      by : (ls : List Letter) → c t x ≡ ls → c t x ≡ []
      by [] e = e
      by (l ∷ ls) e = let r = routed_first g c k.inv.routed t x l ls e in there (its_box g w law k going.yet going.told t x l r) (its_sender t x l r)

  kept_empty : (t : To) (x : ℕ) → channels g w (λ t x. []) t x ≡ []
  kept_empty t x =
      let a = both_empty (waiting (mail_of w t) (box_of t) x) (k.lost t x ++ letters_to t (out_of g w x)) (channel_empty t x) in
      let b = both_empty (k.lost t x) (letters_to t (out_of g w x)) a.1 in
      rw (a.0, b.1)

  -- no shard has made a Stop
  not_stopped : (s : ℕ) → s < g.shards → w.has_stopped s ≢ true
  not_stopped s l e =
      let sums = nothing_there_in (channels g w (λ t x. [])) kept_empty in
      let z = zero_at (λ r. one_if (w.has_stopped r)) g.shards s (sym (going.told none) ∙ sums) l in
      let one : one_if (w.has_stopped s) ≡ 1 = rw e in
      absurd (omega (arith, z, one))
    where
      nothing_there_in : (d : Channels) → ((t : To) (x : ℕ) → d t x ≡ []) → everywhere g stop_one d ≡ 0
      nothing_there_in d empty = everywhere_nothing g stop_one d empty

  nobody_idle : (s : ℕ) → s < g.shards → w.idle s ≡ []
  nobody_idle s l = elim (still.nobody_free s l) [ inl e ↦ absurd (not_stopped s l e) | inr e ↦ e ]

  pub counted_all : w.count ≡ g.persons
  counted_all = all_counted g w c law k.inv nobody_idle channel_empty

pub still_ended : (g : Phase) (w v : World) (ts : List Turn) → Lawful g → 0 < g.persons → Starts g w → Schedule g w ts v → IsStill g v → v.end ≢ None
still_ended g w v ts law some s run still none =
    let start : Going g w = record { kept = kept_start g w s; yet = (λ e t b. opens_start t b); told = (λ e. stops_start) } in
    let going = going_schedule g w ts v law run start in
    ends_counted_schedule g w ts v run (λ e. absurd (omega (arith, e, some, s.none_counted))) (counted_all g v law going still none) none
  where
    opens_start : (t : To) → IsBox g t → opens w t ≡ true
    opens_start (To.Person q) b = new_open g w.persons_mail g.shards s.persons_mail q b
    opens_start (To.Object q) b = new_open g w.objects_mail g.shards s.objects_mail q b
    opens_start To.Hub b = new_open g w.hub_mail 1 s.hub_mail 0 (omega arith)

    stops_start : everywhere g stop_one (channels g w (λ t x. [])) ≡ stopped_shards g w
    stops_start =
        everywhere_nothing g stop_one (channels g w (λ t x. [])) (λ t x. rw (no_letters g w s t x, no_outs_start g w s x))
        ∙ sym (total_zero (λ r. one_if (w.has_stopped r)) g.shards (λ r. rw (s.none_stopped r)))
