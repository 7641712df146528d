-- Channels after each kind of turn: a take, a post, a letter that is dropped, and an outbox that is filled.
use Rattle.std.proofs.Common.{ℕ, ◌+◌, ◌<◌, ◌≡◌, ◌≢◌, refl, arith, true, false, ◌&&◌, List, [], ◌∷◌, ◌++◌, append_assoc, inl, inr, ap, sym, ◌∙◌}
use Rattle.std.specs.Prelude.{if◌then◌else◌, ◌==◌}
use Rattle.std.proofs.lemmas.Bool.{cases_eq, cases_Bool, eqb-true, eq-eqb, and_parts}
use Rattle.std.proofs.lemmas.Bool.Decides.{nat_tests}
use Rattle.std.proofs.lemmas.List.{append-nil}
use Rattle.auc_letters.specs.declared.letter.Letter.{Letter}
use Rattle.auc_letters.specs.declared.out.Out.{Out}
use Rattle.auc_letters.specs.declared.out.To.{To}
use Rattle.auc_mail.specs.Mail.{HasLane, IsWhole, Lane, Mail, lane_behind, lane_of, with_lane}
use Rattle.auc_model.specs.Letters.{letters_to, same_to}
use Rattle.auc_model.specs.Mails.{ObjectShard, PersonShard, Shard, Takes, box_of, mail_of, number, outbox, sender, with_mail, with_outbox}
use Rattle.auc_model.specs.Posting.{Posts}
use Rattle.auc_model.specs.Channels.{Lost, Channels, out_of, send, set_channel, waiting, channels}
use Rattle.auc_model.specs.World.{Phase, World}
use Rattle.auc_model.proofs.Mails.{waiting-set, waiting_there}

-- two families of channels are one where they agree on each channel
pub same_channels : (c d : Channels) → ((t : To) (x : ℕ) → c t x ≡ d t x) → c ≡ d
same_channels c d h = λ i t x. h t x i

pub same_to-true : (t u : To) → same_to t u ≡ true → t ≡ u
same_to-true (To.Person s) (To.Person r) e = ap To.Person (eqb-true s r e)
same_to-true (To.Person s) (To.Object r) e = cc
same_to-true (To.Person s) To.Hub e = cc
same_to-true (To.Object s) (To.Object r) e = ap To.Object (eqb-true s r e)
same_to-true (To.Object s) (To.Person r) e = cc
same_to-true (To.Object s) To.Hub e = cc
same_to-true To.Hub To.Hub e = refl
same_to-true To.Hub (To.Person r) e = cc
same_to-true To.Hub (To.Object r) e = cc

pub same_to_self : (t : To) → same_to t t ≡ true
same_to_self (To.Person s) = grind (arith, nat_tests)
same_to_self (To.Object s) = grind (arith, nat_tests)
same_to_self To.Hub = refl

-- the letters that wait in the mails, by channel
abbrev pub waits : World → Channels
waits w t x = waiting (mail_of w t) (box_of t) x

-- the letters that wait after a lane of one of the mails is set
pub waits-set : (w : World) (t : To) (x : ℕ) (l : Lane Letter) → IsWhole (mail_of w t) → HasLane (mail_of w t) (box_of t) x
    → (u : To) (y : ℕ) → waits (with_mail w t (with_lane (mail_of w t) (box_of t) x l)) u y ≡ set_channel (waits w) t x l.waiting u y
waits-set w (To.Person s) x l k h (To.Person r) y = waiting-set w.persons_mail s x l k h r y
waits-set w (To.Person s) x l k h (To.Object r) y = refl
waits-set w (To.Person s) x l k h To.Hub y = refl
waits-set w (To.Object s) x l k h (To.Object r) y = waiting-set w.objects_mail s x l k h r y
waits-set w (To.Object s) x l k h (To.Person r) y = refl
waits-set w (To.Object s) x l k h To.Hub y = refl
waits-set w To.Hub x l k h To.Hub y = waiting-set w.hub_mail 0 x l k h 0 y
waits-set w To.Hub x l k h (To.Person r) y = refl
waits-set w To.Hub x l k h (To.Object r) y = refl

-- the mails don't change the outboxes, and outboxes don't change the mails
out_of-with_mail : (g : Phase) (w : World) (t : To) (m : Mail Letter) (y : ℕ) → out_of g (with_mail w t m) y ≡ out_of g w y
out_of-with_mail g w (To.Person s) m y = refl
out_of-with_mail g w (To.Object s) m y = refl
out_of-with_mail g w To.Hub m y = refl

out_of_person : (g : Phase) (w : World) (s y : ℕ) (os : List Out) → s < g.shards → out_of g (with_outbox w (PersonShard s) os) y ≡ (if y == s then os else out_of g w y)
out_of_person g w s y os h = grind (arith, nat_tests)

out_of_object : (g : Phase) (w : World) (q y : ℕ) (os : List Out) → q < g.shards → out_of g (with_outbox w (ObjectShard q) os) y ≡ (if y == (g.shards + q) then os else out_of g w y)
out_of_object g w q y os h = grind (arith, nat_tests)

pub out_of_shard : (g : Phase) (w : World) (h : Shard) (y : ℕ) (os : List Out) → number h < g.shards → out_of g (with_outbox w h os) y ≡ (if y == sender g h then os else out_of g w y)
out_of_shard g w (PersonShard s) y os h = out_of_person g w s y os h
out_of_shard g w (ObjectShard q) y os h = out_of_object g w q y os h

pub out_of_itself : (g : Phase) (w : World) (h : Shard) → number h < g.shards → out_of g w (sender g h) ≡ outbox w h
out_of_itself g w (PersonShard s) h = grind (arith, nat_tests)
out_of_itself g w (ObjectShard q) h = grind (arith, nat_tests)

waits-with_outbox : (w : World) (h : Shard) (os : List Out) (t : To) (x : ℕ) → waits (with_outbox w h os) t x ≡ waits w t x
waits-with_outbox w (PersonShard s) os (To.Person r) x = refl
waits-with_outbox w (PersonShard s) os (To.Object r) x = refl
waits-with_outbox w (PersonShard s) os To.Hub x = refl
waits-with_outbox w (ObjectShard s) os (To.Person r) x = refl
waits-with_outbox w (ObjectShard s) os (To.Object r) x = refl
waits-with_outbox w (ObjectShard s) os To.Hub x = refl

-- An empty outbox is filled: its letters come last on their channels.
module _ (g : Phase) (w : World) (lost : Lost) (h : Shard) (os : List Out) (in_range : number h < g.shards) (empty : outbox w h ≡ []) where
  sent_here : (t : To) (x : ℕ) → x ≡ sender g h → channels g (with_outbox w h os) lost t x ≡ send (channels g w lost) (sender g h) os t x
  sent_here t x e =
      let outs : out_of g (with_outbox w h os) x ≡ os = out_of_shard g w h x os in_range ∙ grind (arith, nat_tests) in
      let before : out_of g w x ≡ [] = ap (out_of g w) e ∙ (out_of_itself g w h in_range ∙ empty) in
      let there : send (channels g w lost) (sender g h) os t x ≡ channels g w lost t x ++ letters_to t os = grind (arith, nat_tests) in
      rw (there, waits-with_outbox w h os t x, outs, before) (rw (append-nil (lost t x)) (sym (append_assoc (waits w t x) (lost t x) (letters_to t os))))

  sent_elsewhere : (t : To) (x : ℕ) → x ≢ sender g h → channels g (with_outbox w h os) lost t x ≡ send (channels g w lost) (sender g h) os t x
  sent_elsewhere t x e =
      let outs : out_of g (with_outbox w h os) x ≡ out_of g w x = out_of_shard g w h x os in_range ∙ grind (arith, nat_tests) in
      let there : send (channels g w lost) (sender g h) os t x ≡ channels g w lost t x = grind (arith, nat_tests) in
      rw (there, waits-with_outbox w h os t x, outs)

  pub channels_sent : channels g (with_outbox w h os) lost ≡ send (channels g w lost) (sender g h) os
  channels_sent = same_channels (channels g (with_outbox w h os) lost) (send (channels g w lost) (sender g h) os) (λ t x. elim (cases_eq x (sender g h)) [ inl e ↦ sent_here t x e | inr e ↦ sent_elsewhere t x e ])

pub both_from : (u t : To) (y x : ℕ) → (same_to u t && (y == x)) ≡ true → (u ≡ t) × (y ≡ x)
both_from u t y x e = let p = and_parts (same_to u t) (y == x) e in (same_to-true u t p.0, eqb-true y x p.1)

pub both_hold : (u t : To) (y x : ℕ) → u ≡ t → y ≡ x → (same_to u t && (y == x)) ≡ true
both_hold u t y x e f = rw (e, f, same_to_self t, eq-eqb x x refl)

-- what set_way gives there, and elsewhere
pub set_channel_here : (c : Channels) (t : To) (x : ℕ) (ls : List Letter) (u : To) (y : ℕ) → (same_to u t && (y == x)) ≡ true → set_channel c t x ls u y ≡ ls
set_channel_here c t x ls u y e = rw e

pub set_channel_off : (c : Channels) (t : To) (x : ℕ) (ls : List Letter) (u : To) (y : ℕ) → (same_to u t && (y == x)) ≡ false → set_channel c t x ls u y ≡ c u y
set_channel_off c t x ls u y e = rw e

-- The first letter that waits is taken
module _ (g : Phase) (w : World) (lost : Lost) (t : To) (x n : ℕ) (l : Letter) (m : Mail Letter) (whole : IsWhole (mail_of w t)) (takes : Takes (mail_of w t) (box_of t) x n l m) where
  abbrev pub rest_waits : List Letter
  rest_waits = takes.rest

  abbrev pub left_behind : List Letter
  left_behind = rest_waits ++ (lost t x ++ letters_to t (out_of g w x))

  first_waits : waits w t x ≡ l ∷ rest_waits
  first_waits = waiting_there (mail_of w t) (box_of t) x takes.sender ∙ takes.first

  pub channel_taken : channels g w lost t x ≡ l ∷ left_behind
  channel_taken = rw first_waits

  taken_at : (u : To) (y : ℕ) → waits (with_mail w t m) u y ≡ set_channel (waits w) t x rest_waits u y
  taken_at u y = ap (λ (z : Mail Letter). waits (with_mail w t z) u y) takes.next ∙ waits-set w t x (record { taken = n; waiting = rest_waits }) whole (takes.sender, takes.box) u y

  taken_here : (u : To) (y : ℕ) → (same_to u t && (y == x)) ≡ true → channels g (with_mail w t m) lost u y ≡ set_channel (channels g w lost) t x left_behind u y
  taken_here u y e =
      let p = both_from u t y x e in
      rw (set_channel_here (channels g w lost) t x left_behind u y e, taken_at u y, set_channel_here (waits w) t x rest_waits u y e, out_of-with_mail g w t m y, p.0, p.1)

  taken_elsewhere : (u : To) (y : ℕ) → (same_to u t && (y == x)) ≡ false → channels g (with_mail w t m) lost u y ≡ set_channel (channels g w lost) t x left_behind u y
  taken_elsewhere u y e =
      rw (set_channel_off (channels g w lost) t x left_behind u y e, taken_at u y, set_channel_off (waits w) t x rest_waits u y e, out_of-with_mail g w t m y)

  pub channels_taken : channels g (with_mail w t m) lost ≡ set_channel (channels g w lost) t x left_behind
  channels_taken =
      same_channels (channels g (with_mail w t m) lost) (set_channel (channels g w lost) t x left_behind)
      (λ u y. elim (cases_Bool (same_to u t && (y == x))) [ inl e ↦ taken_here u y e | inr e ↦ taken_elsewhere u y e ])

-- The first letter of an outbox leaves it
module _ (g : Phase) (w : World) (h : Shard) (o : Out) (rest : List Out) (in_range : number h < g.shards) (full : outbox w h ≡ o ∷ rest) where
  pub first_out : (y : ℕ) → y ≡ sender g h → out_of g w y ≡ o ∷ rest
  first_out y e = ap (out_of g w) e ∙ (out_of_itself g w h in_range ∙ full)

  rest_out : (y : ℕ) → y ≡ sender g h → out_of g (with_outbox w h rest) y ≡ rest
  rest_out y e = out_of_shard g w h y rest in_range ∙ grind (arith, nat_tests)

  same_out : (y : ℕ) → y ≢ sender g h → out_of g (with_outbox w h rest) y ≡ out_of g w y
  same_out y e = out_of_shard g w h y rest in_range ∙ grind (arith, nat_tests)

  -- dropped
  abbrev pub ahead : Lost → List Letter
  ahead lost = waits w o.to (sender g h) ++ lost o.to (sender g h)

  pub channel_full : (lost : Lost) → channels g w lost o.to (sender g h) ≡ ahead lost ++ o.letter ∷ letters_to o.to rest
  channel_full lost =
      rw (first_out (sender g h) refl, same_to_self o.to) (sym (append_assoc (waits w o.to (sender g h)) (lost o.to (sender g h)) (o.letter ∷ letters_to o.to rest)))

  letters_here : (u : To) → same_to u o.to ≡ true → letters_to u (o ∷ rest) ≡ o.letter ∷ letters_to u rest
  letters_here u e = rw e

  letters_off : (u : To) → same_to u o.to ≡ false → letters_to u (o ∷ rest) ≡ letters_to u rest
  letters_off u e = rw e

  -- on every other channel nothing changes
  kept_apart : (lost : Lost) (u : To) (y : ℕ) → (same_to u o.to && (y == sender g h)) ≡ false → letters_to u (out_of g (with_outbox w h rest) y) ≡ letters_to u (out_of g w y)
  kept_apart lost u y e =
      elim (cases_eq y (sender g h)) [
        | inl f ↦ (rw (rest_out y f, first_out y f) (sym (letters_off u (apart_here u y e f))))
        | inr f ↦ ap (letters_to u) (same_out y f)
      ]
    where
      apart_here : (u : To) (y : ℕ) → (same_to u o.to && (y == sender g h)) ≡ false → y ≡ sender g h → same_to u o.to ≡ false
      apart_here u y e f = grind (arith, nat_tests)

  pub channels_dropped : (lost : Lost) → channels g (with_outbox w h rest) lost ≡ set_channel (channels g w lost) o.to (sender g h) (ahead lost ++ letters_to o.to rest)
  channels_dropped lost =
      same_channels (channels g (with_outbox w h rest) lost) (set_channel (channels g w lost) o.to (sender g h) (ahead lost ++ letters_to o.to rest))
      (λ u y. elim (cases_Bool (same_to u o.to && (y == sender g h))) [ inl e ↦ here u y e | inr e ↦ off u y e ])
    where
      here : (u : To) (y : ℕ) → (same_to u o.to && (y == sender g h)) ≡ true → channels g (with_outbox w h rest) lost u y ≡ set_channel (channels g w lost) o.to (sender g h) (ahead lost ++ letters_to o.to rest) u y
      here u y e =
          let p = both_from u o.to y (sender g h) e in
          rw (set_channel_here (channels g w lost) o.to (sender g h) (ahead lost ++ letters_to o.to rest) u y e, waits-with_outbox w h rest u y, rest_out y p.1, p.0, p.1)
          (sym (append_assoc (waits w o.to (sender g h)) (lost o.to (sender g h)) (letters_to o.to rest)))

      off : (u : To) (y : ℕ) → (same_to u o.to && (y == sender g h)) ≡ false → channels g (with_outbox w h rest) lost u y ≡ set_channel (channels g w lost) o.to (sender g h) (ahead lost ++ letters_to o.to rest) u y
      off u y e =
          rw (set_channel_off (channels g w lost) o.to (sender g h) (ahead lost ++ letters_to o.to rest) u y e, waits-with_outbox w h rest u y, kept_apart lost u y e)

  -- met a closed box
  abbrev pub lost_more : Lost → Lost
  lost_more lost = set_channel lost o.to (sender g h) (lost o.to (sender g h) ++ o.letter ∷ [])

  pub channels_closed : (lost : Lost) → channels g (with_outbox w h rest) (lost_more lost) ≡ channels g w lost
  channels_closed lost =
      same_channels (channels g (with_outbox w h rest) (lost_more lost)) (channels g w lost)
      (λ u y. elim (cases_Bool (same_to u o.to && (y == sender g h))) [ inl e ↦ here u y e | inr e ↦ off u y e ])
    where
      spot : channels g (with_outbox w h rest) (lost_more lost) o.to (sender g h) ≡ channels g w lost o.to (sender g h)
      spot =
          rw (set_channel_here lost o.to (sender g h) (lost o.to (sender g h) ++ o.letter ∷ []) o.to (sender g h) (both_hold o.to o.to (sender g h) (sender g h) refl refl), waits-with_outbox w h rest o.to (sender g h), rest_out (sender g h) refl, first_out (sender g h) refl, same_to_self o.to)
          (ap (λ (ls : List Letter). waits w o.to (sender g h) ++ ls) (append_assoc (lost o.to (sender g h)) (o.letter ∷ []) (letters_to o.to rest)))

      here : (u : To) (y : ℕ) → (same_to u o.to && (y == sender g h)) ≡ true → channels g (with_outbox w h rest) (lost_more lost) u y ≡ channels g w lost u y
      here u y e = let p = both_from u o.to y (sender g h) e in rw (p.0, p.1) spot

      off : (u : To) (y : ℕ) → (same_to u o.to && (y == sender g h)) ≡ false → channels g (with_outbox w h rest) (lost_more lost) u y ≡ channels g w lost u y
      off u y e =
          rw (set_channel_off lost o.to (sender g h) (lost o.to (sender g h) ++ o.letter ∷ []) u y e, waits-with_outbox w h rest u y, kept_apart lost u y e)

  -- posted: the letter goes from the outbox to the lane
  outbox-with_mail : (m : Mail Letter) (t : To) (k : Shard) → outbox (with_mail w t m) k ≡ outbox w k
  outbox-with_mail m (To.Person r) (PersonShard s) = refl
  outbox-with_mail m (To.Object r) (PersonShard s) = refl
  outbox-with_mail m To.Hub (PersonShard s) = refl
  outbox-with_mail m (To.Person r) (ObjectShard s) = refl
  outbox-with_mail m (To.Object r) (ObjectShard s) = refl
  outbox-with_mail m To.Hub (ObjectShard s) = refl

-- A letter is posted: it goes from the outbox to the lane, and each channel stays as it is
module _ (g : Phase) (w : World) (h : Shard) (o : Out) (rest : List Out) (in_range : number h < g.shards) (full : outbox w h ≡ o ∷ rest)
    (n : ℕ) (m : Mail Letter) (whole : IsWhole (mail_of w o.to)) (posts : Posts g w h o n m) (lost : Lost) (none_lost : lost o.to (sender g h) ≡ []) where
  abbrev between : World
  between = with_mail w o.to m

  behind : (lane_of (mail_of w o.to) (box_of o.to) (sender g h)).waiting ≡ waits w o.to (sender g h)
  behind = sym (waiting_there (mail_of w o.to) (box_of o.to) (sender g h) posts.lane.0)

  posted_lane : (u : To) (y : ℕ) → waits between u y ≡ set_channel (waits w) o.to (sender g h) ((lane_of (mail_of w o.to) (box_of o.to) (sender g h)).waiting ++ o.letter ∷ []) u y
  posted_lane u y = ap (λ (z : Mail Letter). waits (with_mail w o.to z) u y) posts.next ∙ (waits-set w o.to (sender g h) (lane_behind (lane_of (mail_of w o.to) (box_of o.to) (sender g h)) o.letter) whole posts.lane u y)

  posted_at : (u : To) (y : ℕ) → waits between u y ≡ set_channel (waits w) o.to (sender g h) (waits w o.to (sender g h) ++ o.letter ∷ []) u y
  posted_at u y = posted_lane u y ∙ ap (λ (ls : List Letter). set_channel (waits w) o.to (sender g h) (ls ++ o.letter ∷ []) u y) behind

  posted_full : outbox between h ≡ o ∷ rest
  posted_full = outbox-with_mail g w h o rest in_range full m o.to h ∙ full

  posted_spot : channels g (with_outbox between h rest) lost o.to (sender g h) ≡ channels g w lost o.to (sender g h)
  posted_spot =
      rw (
        waits-with_outbox between h rest o.to (sender g h),
        posted_at o.to (sender g h),
        set_channel_here (waits w) o.to (sender g h) (waits w o.to (sender g h) ++ o.letter ∷ []) o.to (sender g h) (both_hold o.to o.to (sender g h) (sender g h) refl refl),
        rest_out g between h o rest in_range posted_full (sender g h) refl,
        first_out g w h o rest in_range full (sender g h) refl,
        same_to_self o.to,
        none_lost,
      )
      (append_assoc (waits w o.to (sender g h)) (o.letter ∷ []) (letters_to o.to rest))

  posted_here : (u : To) (y : ℕ) → (same_to u o.to && (y == sender g h)) ≡ true → channels g (with_outbox between h rest) lost u y ≡ channels g w lost u y
  posted_here u y e = let p = both_from u o.to y (sender g h) e in rw (p.0, p.1) posted_spot

  posted_off : (u : To) (y : ℕ) → (same_to u o.to && (y == sender g h)) ≡ false → channels g (with_outbox between h rest) lost u y ≡ channels g w lost u y
  posted_off u y e =
      rw (
        waits-with_outbox between h rest u y,
        posted_at u y,
        set_channel_off (waits w) o.to (sender g h) (waits w o.to (sender g h) ++ o.letter ∷ []) u y e,
        kept_apart g between h o rest in_range posted_full lost u y e,
        out_of-with_mail g w o.to m y,
      )

  pub channels_posted : channels g (with_outbox between h rest) lost ≡ channels g w lost
  channels_posted =
      same_channels (channels g (with_outbox between h rest) lost) (channels g w lost)
      (λ u y. elim (cases_Bool (same_to u o.to && (y == sender g h))) [ inl e ↦ posted_here u y e | inr e ↦ posted_off u y e ])
