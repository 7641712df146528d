-- The mails of a phase with one shard of each kind: the steps of one box with three senders, and what waits there.
use Rattle.std.proofs.Common.{ℕ, zero, suc, ◌+◌, ◌*◌, ◌<◌, ◌≡◌, refl, arith, false, List, [], ◌∷◌, ◌++◌, length, inl, sym, subst, ap, ◌∙◌}
use Rattle.auc_letters.specs.declared.letter.Letter.{Letter}
use Rattle.auc_letters.specs.declared.out.Out.{Out}
use Rattle.auc_letters.specs.declared.out.To.{To}
use Rattle.auc_letters.specs.Routing.{to_hub}
use Rattle.auc_mail.specs.Mail.{Lane, Mail, NothingWaits, blank_lane, free_of}
use Rattle.auc_mail.specs.Step.{Step}
use Rattle.auc_mail.specs.declared.call.Call.{Call}
use Rattle.auc_mail.specs.declared.call.Reply.{Reply}
use Rattle.auc_mail.specs.declared.call.Taken.{Taken}
use Rattle.auc_model.specs.Put.{put}
use Rattle.auc_model.specs.Mails.{ObjectShard, Shard, TakesNone, box_of, mail_of, number, outbox, sender, with_mail, with_outbox}
use Rattle.auc_model.specs.Posting.{PostTurn, is_price}
use Rattle.auc_model.specs.Schedule.{Reached}
use Rattle.auc_model.specs.Start.{UsualNodes}
use Rattle.auc_model.specs.World.{Phase, World}
use Rattle.auc_model.specs.declared.turn.TurnReply.{TurnReply}
use Rattle.auc_model.proofs.FindsRoom.{finds_room}
use Rattle.auc_model.proofs.Reached.{kept_reached, room_reached}
use Rattle.auc_world.specs.declared.single_shard.notice.Notice.{Notice}
use Rattle.auc_world.specs.SingleState.{AreFirsts, AreNoticesOf, IsNoticeOf, lane, one_box}

-- ---- steps

module _ (nodes most : ℕ) where
  -- the shard of the persons posts
  pub post_first : (n : ℕ) (ls : List Letter) (b : Lane Letter) (l : Letter) → n + length ls < most → 0 < free_of (one_box nodes most (lane n ls) b)
      → Step (one_box nodes most (lane n ls) b) (Call.Post 0 0 l 0) (Reply.Posted (n + length ls + 1)) (one_box nodes most (lane n (ls ++ l ∷ [])) b)
  post_first n ls b l few room = record { lane = (omega arith, omega arith); accepts = refl; left = few; free = room; number = refl; next = refl }

  -- the shard of the objects posts
  pub post_second : (n : ℕ) (ls : List Letter) (a : Lane Letter) (l : Letter) → n + length ls < most → 0 < free_of (one_box nodes most a (lane n ls))
      → Step (one_box nodes most a (lane n ls)) (Call.Post 1 0 l 0) (Reply.Posted (n + length ls + 1)) (one_box nodes most a (lane n (ls ++ l ∷ [])))
  post_second n ls a l few room = record { lane = (omega arith, omega arith); accepts = refl; left = few; free = room; number = refl; next = refl }

  pub take_first : (n : ℕ) (ls : List Letter) (b : Lane Letter) (l : Letter)
      → Step (one_box nodes most (lane n (l ∷ ls)) b) (Call.Take 0) (Reply.Took (Taken.Letter 0 (n + 1) l)) (one_box nodes most (lane (n + 1) ls) b)
  take_first n ls b l = record { box = omega arith; sender = omega arith; number = refl; rest = ls; first = refl; next = refl }

  pub take_second : (n : ℕ) (ls : List Letter) (a : Lane Letter) (l : Letter)
      → Step (one_box nodes most a (lane n (l ∷ ls))) (Call.Take 0) (Reply.Took (Taken.Letter 1 (n + 1) l)) (one_box nodes most a (lane (n + 1) ls))
  take_second n ls a l = record { box = omega arith; sender = omega arith; number = refl; rest = ls; first = refl; next = refl }

  none_waits : (n k : ℕ) → NothingWaits (one_box nodes most (lane n []) (lane k [])) 0
  none_waits n k zero l = refl
  none_waits n k (suc zero) l = refl
  none_waits n k (suc (suc zero)) l = refl
  none_waits n k (suc (suc (suc s))) l = absurd (omega (arith, l))

  pub gives_nothing : (n k : ℕ) → TakesNone (one_box nodes most (lane n []) (lane k [])) 0
  gives_nothing n k = inl (record { accepts = refl; nothing = none_waits n k; same = refl; box = omega arith })

pub step_at : (x y : Mail Letter) (c : Call Letter) (r : Reply Letter) (m : Mail Letter) → x ≡ y → Step y c r m → Step x c r m
step_at x y c r m e step = subst (λ (z : Mail Letter). Step z c r m) (sym e) step

-- ---- posts

pub post_turn : (g : Phase) (v : World) (h : Shard) (o : Out) (rest : List Out) (k : ℕ) (m : Mail Letter) → number h < g.shards → outbox v h ≡ o ∷ rest
    → Step (mail_of v o.to) (Call.Post (sender g h) (box_of o.to) o.letter o.reserve) (Reply.Posted k) m → PostTurn g v h TurnReply.Moved (with_outbox (with_mail v o.to m) h rest)
post_turn g v h o rest k m known first step = PostTurn.posts o rest k m (record { known = known; first = first }) step refl refl

-- a letter that is no price finds room
pub room_for : (g : Phase) (v : World) → Reached g v → UsualNodes g v → (h : Shard) (o : Out) (rest : List Out) → number h < g.shards → outbox v h ≡ o ∷ rest → is_price o.letter ≡ false → 0 < free_of (mail_of v o.to)
room_for g v reached usual h o rest known first other =
    let k = kept_reached g v reached in
    finds_room g v k.lost reached.lawful k.inv k.shapes (room_reached g v reached usual) h o rest known first other

-- ---- notices

pub notices_one : (ts : List Notice) (ls : List Letter) (t : Notice) (l : Letter) → AreNoticesOf ts ls → IsNoticeOf t l → AreNoticesOf (ts ++ t ∷ []) (ls ++ l ∷ [])
notices_one [] [] t l all here = (here, tt)
notices_one [] (m ∷ ls) t l all here = absurd all
notices_one (u ∷ ts) [] t l all here = absurd all
notices_one (u ∷ ts) (m ∷ ls) t l all here = (all.0, notices_one ts ls t l all.1 here)

pub notices_many : (ts : List Notice) (ls : List Letter) → AreNoticesOf ts ls → length ts ≡ length ls
notices_many [] [] all = refl
notices_many [] (m ∷ ls) all = absurd all
notices_many (u ∷ ts) [] all = absurd all
notices_many (u ∷ ts) (m ∷ ls) all = ap suc (notices_many ts ls all.1)

-- ---- a letter to the only shard of the persons

-- The object shard posts a letter of its outbox, which finds room. The world has this mail of the persons, of which
-- this number of letters was taken.
module _ (g : Phase) (one : g.shards ≡ 1) (most : ℕ) (v : World) (reached : Reached g v) (usual : UsualNodes g v) (l : Letter) (more rest : List Out) (other : is_price l ≡ false) (k : ℕ) (ls : List Letter)
    (mail : v.persons_mail ≡ one_box (4 * g.persons) most blank_lane (lane k ls)) (few : k + length ls < most) (first : v.object_out 0 ≡ more) (is : more ≡ record { letter = l; to = To.Person 0; reserve = 0 } ∷ rest) where
  abbrev out : Out
  out = record { letter = l; to = To.Person 0; reserve = 0 }

  known : 0 < g.shards
  known = omega (arith, one)

  stands : outbox v (ObjectShard 0) ≡ out ∷ rest
  stands = first ∙ is

  abbrev after : Mail Letter
  after = one_box (4 * g.persons) most blank_lane (lane k (ls ++ l ∷ []))

  abbrev box : Mail Letter
  box = one_box (4 * g.persons) most blank_lane (lane k ls)

  room : 0 < free_of box
  room = subst (λ (m : Mail Letter). 0 < free_of m) mail (room_for g v reached usual (ObjectShard 0) out rest known stands other)

  pub answer_fits : length ls < 4 * g.persons
  answer_fits = omega (arith, room)

  step : Step v.persons_mail (Call.Post (g.shards + 0) 0 l 0) (Reply.Posted (k + length ls + 1)) after
  step =
      let sender : g.shards + 0 ≡ 1 = omega (arith, one) in
      step_at v.persons_mail box (Call.Post (g.shards + 0) 0 l 0) (Reply.Posted (k + length ls + 1)) after mail
      (subst (λ (x : ℕ). Step box (Call.Post x 0 l 0) (Reply.Posted (k + length ls + 1)) after) (sym sender) (post_second (4 * g.persons) most k ls blank_lane l few room))

  pub answer_turn : PostTurn g v (ObjectShard 0) TurnReply.Moved (record v { persons_mail = after; object_out = put v.object_out 0 rest })
  answer_turn = post_turn g v (ObjectShard 0) out rest (k + length ls + 1) after known stands step

-- The object shard posts a First letter, the last of its outbox, which finds room. The world has this mail of the hub.
module _ (g : Phase) (one : g.shards ≡ 1) (most : ℕ) (v : World) (reached : Reached g v) (usual : UsualNodes g v) (j k : ℕ) (ls : List Letter)
    (mail : v.hub_mail ≡ one_box (g.persons + 2) most blank_lane (lane k ls)) (few : k + length ls < most) (first : v.object_out 0 ≡ to_hub (Letter.First j) ∷ []) where
  hub_known : 0 < g.shards
  hub_known = omega (arith, one)

  abbrev hub_after : Mail Letter
  hub_after = one_box (g.persons + 2) most blank_lane (lane k (ls ++ Letter.First j ∷ []))

  abbrev hub_box : Mail Letter
  hub_box = one_box (g.persons + 2) most blank_lane (lane k ls)

  hub_room : 0 < free_of hub_box
  hub_room = subst (λ (m : Mail Letter). 0 < free_of m) mail (room_for g v reached usual (ObjectShard 0) (to_hub (Letter.First j)) [] hub_known first refl)

  hub_step : Step v.hub_mail (Call.Post (g.shards + 0) 0 (Letter.First j) 0) (Reply.Posted (k + length ls + 1)) hub_after
  hub_step =
      let sender : g.shards + 0 ≡ 1 = omega (arith, one) in
      step_at v.hub_mail hub_box (Call.Post (g.shards + 0) 0 (Letter.First j) 0) (Reply.Posted (k + length ls + 1)) hub_after mail
      (subst (λ (x : ℕ). Step hub_box (Call.Post x 0 (Letter.First j) 0) (Reply.Posted (k + length ls + 1)) hub_after) (sym sender) (post_second (g.persons + 2) most k ls blank_lane (Letter.First j) few hub_room))

  pub first_turn : PostTurn g v (ObjectShard 0) TurnReply.Moved (record v { hub_mail = hub_after; object_out = put v.object_out 0 [] })
  first_turn = post_turn g v (ObjectShard 0) (to_hub (Letter.First j)) [] (k + length ls + 1) hub_after hub_known first hub_step

pub one_first : (ls : List Letter) (j : ℕ) → AreFirsts ls → AreFirsts (ls ++ Letter.First j ∷ [])
one_first [] j all = tt
one_first (Letter.First k ∷ ls) j all = one_first ls j all
one_first (Letter.Award i k p ∷ ls) j all = absurd all
one_first (Letter.Refused i k p ∷ ls) j all = absurd all
one_first (Letter.Outbid i k p ∷ ls) j all = absurd all
one_first (Letter.Price k p ∷ ls) j all = absurd all
one_first (Letter.Bid i a k p ∷ ls) j all = absurd all
one_first (Letter.Stop y ∷ ls) j all = absurd all
