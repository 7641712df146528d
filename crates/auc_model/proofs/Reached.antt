-- What the invariants prove of a reachable world: its end, the letters that come next, and room for them.
use Rattle.std.proofs.Common.{ℕ, ◌≡◌, refl, true, List, [], ◌∷◌, ◌++◌, inl, inr, ap, sym, ◌∙◌}
use Rattle.std.proofs.lemmas.Bool.{cases_Bool}
use Rattle.auc_letters.specs.declared.letter.Letter.{Letter}
use Rattle.auc_letters.specs.declared.out.Out.{Out}
use Rattle.auc_letters.specs.declared.out.To.{To}
use Rattle.auc_mail.specs.Mail.{Mail}
use Rattle.auc_mail.specs.declared.call.PostRefused.{PostRefused}
use Rattle.auc_mail.proofs.StepLaws.{step_shape}
use Rattle.auc_model.specs.Hearing.{FitsLetter, Rises}
use Rattle.auc_model.specs.Hub.{IsForHub}
use Rattle.auc_model.specs.Invariants.{Kept}
use Rattle.auc_model.specs.Mails.{Shard, Takes, box_of, mail_named, mail_of}
use Rattle.auc_model.specs.Posting.{MayPost, Refuses, is_price}
use Rattle.auc_model.specs.Room.{Room}
use Rattle.auc_model.specs.Schedule.{Reached, Schedule, StepsIn, Turned}
use Rattle.auc_model.specs.Selling.{FitsBid}
use Rattle.auc_model.specs.Start.{Lawful, Starts, UsualNodes}
use Rattle.auc_model.specs.Channels.{Routed, Channels, channels}
use Rattle.auc_model.specs.World.{Phase, World}
use Rattle.auc_model.specs.declared.turn.MailName.{MailName}
use Rattle.auc_model.specs.declared.turn.Turn.{Turn}
use Rattle.auc_model.specs.declared.turn.TurnReply.{TurnReply}
use Rattle.auc_model.proofs.Closing.{whole_of}
use Rattle.auc_model.proofs.Room.{never_full, room_schedule}
use Rattle.auc_model.proofs.Routes.{routed_first}
use Rattle.auc_model.proofs.Schedule.{kept_schedule}
use Rattle.auc_model.proofs.Small.{one_more, schedules_join, turn_step}
use Rattle.auc_model.proofs.Start.{kept_start, room_start}
use Rattle.auc_model.proofs.Takes.{bid_letter_fits, letter_fits, letter_no_less}
use Rattle.auc_model.proofs.Channels.{left_behind, channel_taken}

pub reached_start : (g : Phase) (w : World) → Lawful g → Starts g w → Reached g w
reached_start g w law s = record { lawful = law; start = w; starts = s; turns = []; leads = refl }

pub reached_on : (g : Phase) (w v : World) (ts : List Turn) → Reached g w → Schedule g w ts v → Reached g v
reached_on g w v ts r run = record { lawful = r.lawful; start = r.start; starts = r.starts; turns = r.turns ++ ts; leads = schedules_join g r.start r.turns ts w v r.leads run }

pub reached_turn : (g : Phase) (w v : World) (t : Turn) (y : TurnReply) → Reached g w → Turned g w t y v → Reached g v
reached_turn g w v t y r h = reached_on g w v (t ∷ []) r (one_more g w v t y h)

pub kept_reached : (g : Phase) (v : World) → Reached g v → Kept g v
kept_reached g v r = kept_schedule g r.start r.turns v r.lawful r.leads (kept_start g r.start r.starts)

-- the number of nodes of a mail never changes
one_nodes : (w v : World) (name : MailName) → StepsIn w v name → (mail_named v name).nodes ≡ (mail_named w name).nodes
one_nodes w v name s = elim s.this [ inl e ↦ ap (λ (z : Mail Letter). z.nodes) e | inr h ↦ (step_shape (mail_named w name) (mail_named v name) h.call h.reply h.step).nodes ]

turn_nodes : (w v : World) (stepped : MailName) → StepsIn w v stepped → (name : MailName) → (mail_named v name).nodes ≡ (mail_named w name).nodes
turn_nodes w v MailName.Objects s MailName.Objects = one_nodes w v MailName.Objects s
turn_nodes w v MailName.Objects s MailName.Persons = ap (λ (z : Mail Letter). z.nodes) (s.others MailName.Persons (λ e. cc))
turn_nodes w v MailName.Objects s MailName.Hub = ap (λ (z : Mail Letter). z.nodes) (s.others MailName.Hub (λ e. cc))
turn_nodes w v MailName.Persons s MailName.Objects = ap (λ (z : Mail Letter). z.nodes) (s.others MailName.Objects (λ e. cc))
turn_nodes w v MailName.Persons s MailName.Persons = one_nodes w v MailName.Persons s
turn_nodes w v MailName.Persons s MailName.Hub = ap (λ (z : Mail Letter). z.nodes) (s.others MailName.Hub (λ e. cc))
turn_nodes w v MailName.Hub s MailName.Objects = ap (λ (z : Mail Letter). z.nodes) (s.others MailName.Objects (λ e. cc))
turn_nodes w v MailName.Hub s MailName.Persons = ap (λ (z : Mail Letter). z.nodes) (s.others MailName.Persons (λ e. cc))
turn_nodes w v MailName.Hub s MailName.Hub = one_nodes w v MailName.Hub s

pub schedule_nodes : (g : Phase) (w : World) (ts : List Turn) (v : World) → Schedule g w ts v → (name : MailName) → (mail_named v name).nodes ≡ (mail_named w name).nodes
schedule_nodes g w [] v e name = ap (λ (x : World). (mail_named x name).nodes) e
schedule_nodes g w (t ∷ ts) v run name =
    let s = turn_step g w t run.reply run.mid run.turned in
    schedule_nodes g run.mid ts v run.rest name ∙ turn_nodes w run.mid s.0 s.1 name

pub room_reached : (g : Phase) (v : World) → Reached g v → UsualNodes g v → Room g v
room_reached g v r usual =
    let before : UsualNodes g r.start = record {
      objects = sym (schedule_nodes g r.start r.turns v r.leads MailName.Objects) ∙ usual.objects;
      persons = sym (schedule_nodes g r.start r.turns v r.leads MailName.Persons) ∙ usual.persons;
      hub = sym (schedule_nodes g r.start r.turns v r.leads MailName.Hub) ∙ usual.hub;
    } in
    room_schedule g r.start r.turns v r.lawful (kept_start g r.start r.starts) (room_start g r.start r.starts before) r.leads

module _ (g : Phase) (v : World) (law : Lawful g) (k : Kept g v) where
  abbrev under_way : Channels
  under_way = channels g v k.lost

  head : (t : To) (x n : ℕ) (l : Letter) (m : Mail Letter) (p : Takes (mail_of v t) (box_of t) x n l m) → under_way t x ≡ l ∷ left_behind g v k.lost t x n l m (whole_of g v k.shapes t) p
  head t x n l m p = channel_taken g v k.lost t x n l m (whole_of g v k.shapes t) p

  rises : (s x : ℕ) (l : Letter) (ls : List Letter) → under_way (To.Person s) x ≡ l ∷ ls → Rises v s l
  rises s x (Letter.Award i j p) ls e = letter_no_less g v under_way law k.inv s x (Letter.Award i j p) ls j p e refl
  rises s x (Letter.Refused i j p) ls e = letter_no_less g v under_way law k.inv s x (Letter.Refused i j p) ls j p e refl
  rises s x (Letter.Outbid i j p) ls e = letter_no_less g v under_way law k.inv s x (Letter.Outbid i j p) ls j p e refl
  rises s x (Letter.Price j p) ls e = letter_no_less g v under_way law k.inv s x (Letter.Price j p) ls j p e refl
  rises s x (Letter.Bid i a j p) ls e = absurd (letter_fits g v under_way law k.inv s x (Letter.Bid i a j p) ls e)
  rises s x (Letter.First j) ls e = absurd (letter_fits g v under_way law k.inv s x (Letter.First j) ls e)
  rises s x (Letter.Stop y) ls e = absurd (letter_fits g v under_way law k.inv s x (Letter.Stop y) ls e)

  -- a letter that a person shard takes fits it, and has no price below its copy
  pub hears_well : (s x n : ℕ) (l : Letter) (m : Mail Letter) → Takes v.persons_mail s x n l m → FitsLetter g v s l × Rises v s l
  hears_well s x n l m p =
      let ls = left_behind g v k.lost (To.Person s) x n l m (whole_of g v k.shapes (To.Person s)) p in
      let e = head (To.Person s) x n l m p in
      (letter_fits g v under_way law k.inv s x l ls e, rises s x l ls e)

  -- what a shard of the objects takes is a bid that fits it
  pub sells_well : (q x n : ℕ) (l : Letter) (m : Mail Letter) → Takes v.objects_mail q x n l m → FitsBid g q l
  sells_well q x n l m p = bid_letter_fits g v under_way law k.inv q x l (left_behind g v k.lost (To.Object q) x n l m (whole_of g v k.shapes (To.Object q)) p) (head (To.Object q) x n l m p)

  for_hub : (x : ℕ) (l : Letter) → Routed g To.Hub x l → IsForHub l
  for_hub x (Letter.First j) r = tt
  for_hub x (Letter.Stop y) r = tt
  for_hub x (Letter.Bid i a j p) r = r
  for_hub x (Letter.Award i j p) r = r
  for_hub x (Letter.Refused i j p) r = r
  for_hub x (Letter.Outbid i j p) r = r
  for_hub x (Letter.Price j p) r = r

  -- the hub takes only First and Stop
  pub counts_well : (x n : ℕ) (l : Letter) (m : Mail Letter) → Takes v.hub_mail 0 x n l m → IsForHub l
  counts_well x n l m p = for_hub x l (routed_first g under_way k.inv.routed To.Hub x l (left_behind g v k.lost To.Hub x n l m (whole_of g v k.shapes To.Hub) p) (head To.Hub x n l m p))

  -- only a Price is refused for want of room
  pub only_prices_full : Room g v → (h : Shard) (o : Out) (rest : List Out) → MayPost g v h o rest → Refuses g v h o PostRefused.Full → is_price o.letter ≡ true
  only_prices_full room h o rest may p = elim (cases_Bool (is_price o.letter)) [ inl t ↦ t | inr f ↦ absurd (never_full g v law k room h o rest may.known may.first p f) ]
