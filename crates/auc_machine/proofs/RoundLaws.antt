-- Rounds: what their turns lead to, that nothing has moved where they say so, and that they use up work.
use Rattle.std.proofs.Common.{ℕ, zero, suc, ◌+◌, ◌<◌, ◌≤◌, ◌≡◌, ◌≢◌, ◌⊎◌, Bool, true, false, List, [], ◌∷◌, ◌++◌, Option, Some, None, refl, sym, ap, subst, ◌∙◌, inl, inr, arith}
use Rattle.std.specs.Prelude.{◌||◌}
use Rattle.std.proofs.Math.Bool.{or_assoc, or-false}
use Rattle.std.proofs.lemmas.Bool.{cases_lt}
use Rattle.auc_model.specs.Schedule.{Schedule, Turned}
use Rattle.auc_model.specs.Still.{Rests}
use Rattle.auc_model.specs.Work.{IsOfRound, work}
use Rattle.auc_model.specs.World.{Phase, World}
use Rattle.auc_model.specs.declared.turn.End.{End}
use Rattle.auc_model.specs.declared.turn.Turn.{Turn}
use Rattle.auc_model.specs.declared.turn.TurnReply.{TurnReply}
use Rattle.auc_model.proofs.Ends.{end_schedule}
use Rattle.auc_model.proofs.Small.{nothing_changes, schedules_join}
use Rattle.auc_model.proofs.Work.{moves_less, turns_never_more}
use Rattle.auc_machine.specs.Parts.{Parts, phase, world_of}
use Rattle.auc_machine.specs.Rounds.{Plays, Rounds, answers_of, bids_of, has_moved, hearings_of, round_of}

-- ---- turns, one after another

pub one_play : (g : Phase) (w v : World) (t : Turn) (r : TurnReply) → Turned g w t r v → Plays g w (t ∷ []) (has_moved r) v
one_play g w v t r turned = record { mid = v; reply = r; later = false; turned = turned; rest = (refl, refl); moved_is = sym (or-false (has_moved r)) }

pub plays_join : (g : Phase) (w : World) (ts us : List Turn) (u v : World) (a b : Bool) → Plays g w ts a u → Plays g u us b v → Plays g w (ts ++ us) (a || b) v
plays_join g w [] us u v a b (same, none) later = subst (λ (c : Bool). Plays g w us (c || b) v) (sym none) (subst (λ (x : World). Plays g x us b v) same later)
plays_join g w (t ∷ ts) us u v a b first later = record {
  mid = first.mid;
  reply = first.reply;
  later = first.later || b;
  turned = first.turned;
  rest = plays_join g first.mid ts us u v first.later b first.rest later;
  moved_is = ap (λ (c : Bool). c || b) first.moved_is ∙ or_assoc (has_moved first.reply) first.later b;
}

pub plays_schedule : (g : Phase) (w : World) (ts : List Turn) (moved : Bool) (v : World) → Plays g w ts moved v → Schedule g w ts v
plays_schedule g w [] moved v (same, none) = same
plays_schedule g w (t ∷ ts) moved v h = record { mid = h.mid; reply = h.reply; turned = h.turned; rest = plays_schedule g h.mid ts h.later v h.rest }

-- ---- turns more at the end of those of a stage

pub as_moved : (g : Phase) (w : World) (ts : List Turn) (a b : Bool) (v : World) → a ≡ b → Plays g w ts a v → Plays g w ts b v
as_moved g w ts a b v e h = subst (λ (c : Bool). Plays g w ts c v) e h

pub two_plays : (g : Phase) (w m v : World) (t u : Turn) (r s : TurnReply) → Turned g w t r m → Turned g m u s v → Plays g w (t ∷ u ∷ []) (has_moved r || has_moved s) v
two_plays g w m v t u r s first second = plays_join g w (t ∷ []) (u ∷ []) m v (has_moved r) (has_moved s) (one_play g w m t r first) (one_play g m v u s second)

pub three_plays : (g : Phase) (w m n v : World) (t u x : Turn) (r s o : TurnReply) → Turned g w t r m → Turned g m u s n → Turned g n x o v → Plays g w (t ∷ u ∷ x ∷ []) (has_moved r || (has_moved s || has_moved o)) v
three_plays g w m n v t u x r s o first second third = plays_join g w (t ∷ []) (u ∷ x ∷ []) m v (has_moved r) (has_moved s || has_moved o) (one_play g w m t r first) (two_plays g m n v u x s o second third)

pub five_plays : (g : Phase) (w a b c d v : World) (t u x y z : Turn) (r s o p q : TurnReply) → Turned g w t r a → Turned g a u s b → Turned g b x o c → Turned g c y p d → Turned g d z q v
    → Plays g w (t ∷ u ∷ x ∷ y ∷ z ∷ []) ((has_moved r || has_moved s) || (has_moved o || (has_moved p || has_moved q))) v
five_plays g w a b c d v t u x y z r s o p q first second third fourth fifth =
    plays_join g w (t ∷ u ∷ []) (x ∷ y ∷ z ∷ []) b v (has_moved r || has_moved s) (has_moved o || (has_moved p || has_moved q)) (two_plays g w a b t u r s first second) (three_plays g b c d v x y z o p q third fourth fifth)

pub hear_more : (g : Phase) (w u v : World) (s : ℕ) (moved : Bool) (r : TurnReply) → Plays g w (hearings_of s) moved u → Turned g u (Turn.PersonTake s) r v → Plays g w (hearings_of (suc s)) (moved || has_moved r) v
hear_more g w u v s moved r before take = plays_join g w (hearings_of s) (Turn.PersonTake s ∷ []) u v moved (has_moved r) before (one_play g u v (Turn.PersonTake s) r take)

next : (s : ℕ) → suc s ≡ s + 1
next s = omega arith

-- the same of the parts of a world, and of the flags that the code keeps
pub bids_more : (p u v : Parts) (s : ℕ) (moved here o : Bool) → Plays (phase p) (world_of p) (bids_of s) moved (world_of u) → phase u ≡ phase p → Plays (phase u) (world_of u) (Turn.Bid s ∷ Turn.PersonPost s ∷ []) here (world_of v) → o ≡ (moved || here) → Plays (phase p) (world_of p) (bids_of (s + 1)) o (world_of v)
bids_more p u v s moved here o before same after e =
    let after' = subst (λ (g : Phase). Plays g (world_of u) (Turn.Bid s ∷ Turn.PersonPost s ∷ []) here (world_of v)) same after in
    subst (λ (n : ℕ). Plays (phase p) (world_of p) (bids_of n) o (world_of v)) (next s) (as_moved (phase p) (world_of p) (bids_of (suc s)) (moved || here) o (world_of v) (sym e) (plays_join (phase p) (world_of p) (bids_of s) (Turn.Bid s ∷ Turn.PersonPost s ∷ []) (world_of u) (world_of v) moved here before after'))

pub answers_more : (p u v : Parts) (q : ℕ) (moved here o : Bool) → Plays (phase p) (world_of p) (answers_of q) moved (world_of u) → phase u ≡ phase p → Plays (phase u) (world_of u) (Turn.ObjectTake q ∷ Turn.ObjectPost q ∷ Turn.ObjectPost q ∷ []) here (world_of v) → o ≡ (moved || here) → Plays (phase p) (world_of p) (answers_of (q + 1)) o (world_of v)
answers_more p u v q moved here o before same after e =
    let after' = subst (λ (g : Phase). Plays g (world_of u) (Turn.ObjectTake q ∷ Turn.ObjectPost q ∷ Turn.ObjectPost q ∷ []) here (world_of v)) same after in
    subst (λ (n : ℕ). Plays (phase p) (world_of p) (answers_of n) o (world_of v)) (next q) (as_moved (phase p) (world_of p) (answers_of (suc q)) (moved || here) o (world_of v) (sym e) (plays_join (phase p) (world_of p) (answers_of q) (Turn.ObjectTake q ∷ Turn.ObjectPost q ∷ Turn.ObjectPost q ∷ []) (world_of u) (world_of v) moved here before after'))

pub hear_played : (p u v : Parts) (s : ℕ) (moved : Bool) (r : TurnReply) (i o : Bool) → Plays (phase p) (world_of p) (hearings_of s) moved (world_of u) → phase u ≡ phase p
    → Turned (phase u) (world_of u) (Turn.PersonTake s) r (world_of v) → i ≡ has_moved r → o ≡ (moved || i) → Plays (phase p) (world_of p) (hearings_of (s + 1)) o (world_of v)
hear_played p u v s moved r i o before same take a b =
    let take' = subst (λ (g : Phase). Turned g (world_of u) (Turn.PersonTake s) r (world_of v)) same take in
    let is : (moved || has_moved r) ≡ o = cc in
    subst (λ (n : ℕ). Plays (phase p) (world_of p) (hearings_of n) o (world_of v)) (next s) (as_moved (phase p) (world_of p) (hearings_of (suc s)) (moved || has_moved r) o (world_of v) is (hear_more (phase p) (world_of p) (world_of u) (world_of v) s moved r before take'))

-- the four stages of a round, one after another
pub round_played : (g : Phase) (w a b c v : World) (n : ℕ) (i j k : Bool) (r : TurnReply) → Plays g w (bids_of n) i a → Plays g a (answers_of n) j b → Plays g b (hearings_of n) k c → Turned g c Turn.HubTake r v
    → Plays g w (round_of n) (i || j || k || has_moved r) v
round_played g w a b c v n i j k r bids answers hearings count =
    let one = plays_join g w (bids_of n) (answers_of n) a b i j bids answers in
    let two = plays_join g w (bids_of n ++ answers_of n) (hearings_of n) b c (i || j) k one hearings in
    plays_join g w ((bids_of n ++ answers_of n) ++ hearings_of n) (Turn.HubTake ∷ []) c v (i || j || k) (has_moved r) two (one_play g c v Turn.HubTake r count)

-- ---- where nothing has moved

-- each of the turns is answered by Nothing
abbrev AllNothing : Phase → World → List Turn → Type 0
AllNothing g w [] = Unit {0}
AllNothing g w (t ∷ ts) = Turned g w t TurnReply.Nothing w × AllNothing g w ts

or_false : (a b : Bool) → (a || b) ≡ false → (a ≡ false) × (b ≡ false)
or_false false b e = (refl, e)
or_false true b e = absurd cc

is_nothing : (r : TurnReply) → has_moved r ≡ false → r ≡ TurnReply.Nothing
is_nothing TurnReply.Nothing e = refl
is_nothing TurnReply.Moved e = absurd cc

plays_nothing : (g : Phase) (w : World) (ts : List Turn) (moved : Bool) (v : World) → Plays g w ts moved v → moved ≡ false → (v ≡ w) × AllNothing g w ts
plays_nothing g w [] moved v (same, none) e = (same, tt)
plays_nothing g w (t ∷ ts) moved v h e =
    let both = or_false (has_moved h.reply) h.later (sym h.moved_is ∙ e) in
    let nothing = is_nothing h.reply both.0 in
    let unmoved : h.mid ≡ w = nothing_changes g w t h.reply h.mid h.turned nothing in
    let later = plays_nothing g h.mid ts h.later v h.rest both.1 in
    (later.0 ∙ unmoved, (subst (λ (x : World). Turned g w t TurnReply.Nothing x) unmoved (subst (λ (a : TurnReply). Turned g w t a h.mid) nothing h.turned), subst (λ (x : World). AllNothing g x ts) unmoved later.1))

nothing_split : (g : Phase) (w : World) (ts us : List Turn) → AllNothing g w (ts ++ us) → AllNothing g w ts × AllNothing g w us
nothing_split g w [] us h = (tt, h)
nothing_split g w (t ∷ ts) us (here, h) = let both = nothing_split g w ts us h in ((here, both.0), both.1)

last_or : (n s : ℕ) → s < suc n → (s < n) ⊎ (s ≡ n)
last_or n s l = elim (cases_lt s n) [ inl below ↦ inl below | inr above ↦ inr (omega arith) ]

bids_nothing : (g : Phase) (w : World) (n s : ℕ) → AllNothing g w (bids_of n) → s < n → Turned g w (Turn.Bid s) TurnReply.Nothing w × Turned g w (Turn.PersonPost s) TurnReply.Nothing w
bids_nothing g w zero s h l = absurd (omega arith)
bids_nothing g w (suc n) s h l =
    let both = nothing_split g w (bids_of n) (Turn.Bid n ∷ Turn.PersonPost n ∷ []) h in
    elim (last_or n s l) [ inl below ↦ bids_nothing g w n s both.0 below | inr here ↦ rw here (both.1.0, both.1.1.0) ]

answers_nothing : (g : Phase) (w : World) (n q : ℕ) → AllNothing g w (answers_of n) → q < n → Turned g w (Turn.ObjectTake q) TurnReply.Nothing w × Turned g w (Turn.ObjectPost q) TurnReply.Nothing w
answers_nothing g w zero q h l = absurd (omega arith)
answers_nothing g w (suc n) q h l =
    let both = nothing_split g w (answers_of n) (Turn.ObjectTake n ∷ Turn.ObjectPost n ∷ Turn.ObjectPost n ∷ []) h in
    elim (last_or n q l) [ inl below ↦ answers_nothing g w n q both.0 below | inr here ↦ rw here (both.1.0, both.1.1.0) ]

hearings_nothing : (g : Phase) (w : World) (n s : ℕ) → AllNothing g w (hearings_of n) → s < n → Turned g w (Turn.PersonTake s) TurnReply.Nothing w
hearings_nothing g w zero s h l = absurd (omega arith)
hearings_nothing g w (suc n) s h l =
    let both = nothing_split g w (hearings_of n) (Turn.PersonTake n ∷ []) h in
    elim (last_or n s l) [ inl below ↦ hearings_nothing g w n s both.0 below | inr here ↦ rw here both.1.0 ]

round_nothing : (g : Phase) (w : World) → AllNothing g w (round_of g.shards) → Rests g w
round_nothing g w h =
    let n = g.shards in
    let last = nothing_split g w ((bids_of n ++ answers_of n) ++ hearings_of n) (Turn.HubTake ∷ []) h in
    let third = nothing_split g w (bids_of n ++ answers_of n) (hearings_of n) last.0 in
    let first = nothing_split g w (bids_of n) (answers_of n) third.0 in
    record {
      bids = λ s l. (bids_nothing g w n s first.0 l).0;
      person_posts = λ s l. (bids_nothing g w n s first.0 l).1;
      object_takes = λ q l. (answers_nothing g w n q first.1 l).0;
      object_posts = λ q l. (answers_nothing g w n q first.1 l).1;
      person_takes = λ s l. hearings_nothing g w n s third.1 l;
      hub_takes = last.1.0;
    }

pub round_rests : (g : Phase) (w v : World) (moved : Bool) → Plays g w (round_of g.shards) moved v → moved ≡ false → Rests g v
round_rests g w v moved played e =
    let still = plays_nothing g w (round_of g.shards) moved v played e in
    subst (λ (x : World). Rests g x) (sym still.0) (round_nothing g w still.1)

-- ---- work

abbrev AreOfRound : List Turn → Type 0
AreOfRound [] = Unit {0}
AreOfRound (t ∷ ts) = IsOfRound t × AreOfRound ts

join_of_round : (ts us : List Turn) → AreOfRound ts → AreOfRound us → AreOfRound (ts ++ us)
join_of_round [] us a b = b
join_of_round (t ∷ ts) us (here, a) b = (here, join_of_round ts us a b)

bids_of_round : (n : ℕ) → AreOfRound (bids_of n)
bids_of_round zero = tt
bids_of_round (suc n) = join_of_round (bids_of n) (Turn.Bid n ∷ Turn.PersonPost n ∷ []) (bids_of_round n) (tt, (tt, tt))

answers_of_round : (n : ℕ) → AreOfRound (answers_of n)
answers_of_round zero = tt
answers_of_round (suc n) = join_of_round (answers_of n) (Turn.ObjectTake n ∷ Turn.ObjectPost n ∷ Turn.ObjectPost n ∷ []) (answers_of_round n) (tt, (tt, (tt, tt)))

hearings_of_round : (n : ℕ) → AreOfRound (hearings_of n)
hearings_of_round zero = tt
hearings_of_round (suc n) = join_of_round (hearings_of n) (Turn.PersonTake n ∷ []) (hearings_of_round n) (tt, tt)

round_of_round : (n : ℕ) → AreOfRound (round_of n)
round_of_round n =
    join_of_round ((bids_of n ++ answers_of n) ++ hearings_of n) (Turn.HubTake ∷ []) (join_of_round (bids_of n ++ answers_of n) (hearings_of n) (join_of_round (bids_of n) (answers_of n) (bids_of_round n) (answers_of_round n)) (hearings_of_round n)) (tt, tt)

plays_never_more : (g : Phase) (w : World) (ts : List Turn) (moved : Bool) (v : World) → AreOfRound ts → Plays g w ts moved v → work g v ≤ work g w
plays_never_more g w [] moved v all (same, none) = rw same (omega arith)
plays_never_more g w (t ∷ ts) moved v (here, all) h =
    let first = turns_never_more g w h.mid t h.reply here h.turned in
    let later = plays_never_more g h.mid ts h.later v all h.rest in
    omega (arith, first, later)

some_end : (e : Option End) → e ≢ None → (d : End) × (e ≡ Some d)
some_end None h = absurd (h refl)
some_end (Some d) h = (d, refl)

end_stays : (g : Phase) (m v : World) (ts : List Turn) → Schedule g m ts v → m.end ≢ None → v.end ≢ None
end_stays g m v ts run set = let d = some_end m.end set in λ none. absurd (cc (end_schedule g m ts v d.0 run d.1, none))

-- the end is set, or there is less work
abbrev Gains : Phase → World → World → Type 0
Gains g w v = (v.end ≢ None) ⊎ (work g v < work g w)

gains_at : (g : Phase) (w m v : World) (t : Turn) (ts : List Turn) (r : TurnReply) → IsOfRound t → AreOfRound ts → Turned g w t r m → (rest : Bool) → Plays g m ts rest v → r ≡ TurnReply.Moved → Gains g w v
gains_at g w m v t ts r here all turned rest played is =
    let less = moves_less g w m t here (subst (λ (a : TurnReply). Turned g w t a m) is turned) in
    let later = plays_never_more g m ts rest v all played in
    elim less [ inl set ↦ inl (end_stays g m v ts (plays_schedule g m ts rest v played) set) | inr fewer ↦ inr (omega (arith, fewer, later)) ]

moved_or : (r : TurnReply) (rest : Bool) → (has_moved r || rest) ≡ true → (r ≡ TurnReply.Moved) ⊎ (rest ≡ true)
moved_or TurnReply.Moved rest e = inl refl
moved_or TurnReply.Nothing rest e = inr e

plays_gain : (g : Phase) (w : World) (ts : List Turn) (moved : Bool) (v : World) → AreOfRound ts → Plays g w ts moved v → moved ≡ true → Gains g w v
plays_gain g w [] moved v all (same, none) e = absurd (cc (none, e))
plays_gain g w (t ∷ ts) moved v (here, all) h e =
    elim (moved_or h.reply h.later (sym h.moved_is ∙ e)) [
      | inl now ↦ gains_at g w h.mid v t ts h.reply here all h.turned h.later h.rest now
      | inr then ↦ elim (plays_gain g h.mid ts h.later v all h.rest then) [
        | inl set ↦ inl set
        | inr fewer ↦ (let first = turns_never_more g w h.mid t h.reply here h.turned in inr (omega (arith, fewer, first)))
      ]
    ]

-- a bound on the rounds up to the end: 0 once the end is set
abbrev pub left_of : Option End → ℕ → ℕ
left_of None n = suc n
left_of (Some e) n = 0

abbrev pub left : Phase → World → ℕ
left g w = left_of w.end (work g w)

left_none : (e : Option End) (n : ℕ) → e ≡ None → left_of e n ≡ suc n
left_none None n e = refl
left_none (Some d) n e = absurd cc

left_some : (e : Option End) (n : ℕ) → e ≢ None → left_of e n ≡ 0
left_some None n h = absurd (h refl)
left_some (Some d) n h = refl

left_most : (e : Option End) (n : ℕ) → left_of e n ≤ suc n
left_most None n = omega arith
left_most (Some d) n = omega arith

pub round_less : (g : Phase) (w v : World) (moved : Bool) → Plays g w (round_of g.shards) moved v → moved ≡ true → w.end ≡ None → left g v < left g w
round_less g w v moved played e none =
    let before = left_none w.end (work g w) none in
    elim (plays_gain g w (round_of g.shards) moved v (round_of_round g.shards) played e) [
      | inl set ↦ (let after = left_some v.end (work g v) set in omega (arith, before, after))
      | inr fewer ↦ (let after = left_most v.end (work g v) in omega (arith, before, after, fewer))
    ]

-- ---- whole rounds

pub one_round : (g : Phase) (w m v : World) (n : ℕ) (moved : Bool) → Rounds g w n m → m.end ≡ None → Plays g m (round_of g.shards) moved v → Rounds g w (suc n) v
one_round g w m v n moved before none played = record { mid = m; moved = moved; before = before; unended = none; played = played }

pub rounds_schedule : (g : Phase) (w : World) (n : ℕ) (v : World) → Rounds g w n v → (ts : List Turn) × Schedule g w ts v
rounds_schedule g w zero v same = ([], same)
rounds_schedule g w (suc n) v h =
    let first = rounds_schedule g w n h.mid h.before in
    (first.0 ++ round_of g.shards, schedules_join g w first.0 (round_of g.shards) h.mid v first.1 (plays_schedule g h.mid (round_of g.shards) h.moved v h.played))

-- ---- the same of the parts of a world

same_shards : (p u : Parts) → phase u ≡ phase p → u.shards ≡ p.shards
same_shards p u e = ap (λ (g : Phase). g.shards) e

pub round_in_parts : (p a b c v : Parts) (i j k h x y o : Bool) (r : TurnReply) → Plays (phase p) (world_of p) (bids_of p.shards) i (world_of a) → phase a ≡ phase p → Plays (phase a) (world_of a) (answers_of a.shards) j (world_of b) → phase b ≡ phase a
    → Plays (phase b) (world_of b) (hearings_of b.shards) k (world_of c) → phase c ≡ phase b → Turned (phase c) (world_of c) Turn.HubTake r (world_of v)
    → h ≡ has_moved r → x ≡ (i || j) → y ≡ (x || k) → o ≡ (y || h) → Plays (phase p) (world_of p) (round_of p.shards) o (world_of v)
round_in_parts p a b c v i j k h x y o r bids ea answers eb hearings ec count e1 e2 e3 e4 =
    let eb' : phase b ≡ phase p = eb ∙ ea in
    let answers' = subst (λ (n : ℕ). Plays (phase p) (world_of a) (answers_of n) j (world_of b)) (same_shards p a ea) (subst (λ (g : Phase). Plays g (world_of a) (answers_of a.shards) j (world_of b)) ea answers) in
    let hearings' = subst (λ (n : ℕ). Plays (phase p) (world_of b) (hearings_of n) k (world_of c)) (same_shards p b eb') (subst (λ (g : Phase). Plays g (world_of b) (hearings_of b.shards) k (world_of c)) eb' hearings) in
    let count' = subst (λ (g : Phase). Turned g (world_of c) Turn.HubTake r (world_of v)) (ec ∙ eb') count in
    let is : (i || j || k || has_moved r) ≡ o = cc in
    as_moved (phase p) (world_of p) (round_of p.shards) (i || j || k || has_moved r) o (world_of v) is (round_played (phase p) (world_of p) (world_of a) (world_of b) (world_of c) (world_of v) p.shards i j k r bids answers' hearings' count')

pub run_more : (p l v : Parts) (moved : Bool) → ((n : ℕ) × Rounds (phase p) (world_of p) n (world_of l)) → phase l ≡ phase p → (world_of l).end ≡ None → Plays (phase l) (world_of l) (round_of l.shards) moved (world_of v) → (n : ℕ) × Rounds (phase p) (world_of p) n (world_of v)
run_more p l v moved before same none played =
    let played' = subst (λ (n : ℕ). Plays (phase p) (world_of l) (round_of n) moved (world_of v)) (same_shards p l same) (subst (λ (g : Phase). Plays g (world_of l) (round_of l.shards) moved (world_of v)) same played) in
    (suc before.0, one_round (phase p) (world_of p) (world_of l) (world_of v) before.0 moved before.1 none played')

pub run_still_ends : (l v : Parts) (moved : Bool) → (world_of l).end ≡ None → Plays (phase l) (world_of l) (round_of l.shards) moved (world_of v) → moved ≡ false → None ≡ (world_of v).end
run_still_ends l v moved none played e = sym (ap (λ (w : World). w.end) (plays_nothing (phase l) (world_of l) (round_of l.shards) moved (world_of v) played e).0 ∙ none)

pub run_rests : (l v : Parts) (moved : Bool) → phase v ≡ phase l → Plays (phase l) (world_of l) (round_of l.shards) moved (world_of v) → moved ≡ false → Rests (phase v) (world_of v)
run_rests l v moved same played e = subst (λ (g : Phase). Rests g (world_of v)) (sym same) (round_rests (phase l) (world_of l) (world_of v) moved played e)

pub run_less : (l v : Parts) (moved : Bool) → phase v ≡ phase l → (world_of l).end ≡ None → Plays (phase l) (world_of l) (round_of l.shards) moved (world_of v) → moved ≡ true → left (phase v) (world_of v) < left (phase l) (world_of l)
run_less l v moved same none played e = subst (λ (g : Phase). left g (world_of v) < left (phase l) (world_of l)) (sym same) (round_less (phase l) (world_of l) (world_of v) moved played e none)

-- ---- turns of the parts of a world, and the flags that the code keeps

pub two_turns : (p n v : Parts) (t u : Turn) (r s : TurnReply) (i j o : Bool) → Turned (phase p) (world_of p) t r (world_of n) → phase n ≡ phase p → Turned (phase n) (world_of n) u s (world_of v) → i ≡ has_moved r → j ≡ has_moved s → o ≡ (i || j) → Plays (phase p) (world_of p) (t ∷ u ∷ []) o (world_of v)
two_turns p n v t u r s i j o first same second a b e =
    let second' = subst (λ (g : Phase). Turned g (world_of n) u s (world_of v)) same second in
    let flat : (has_moved r || has_moved s) ≡ o = cc in
    as_moved (phase p) (world_of p) (t ∷ u ∷ []) (has_moved r || has_moved s) o (world_of v) flat (two_plays (phase p) (world_of p) (world_of n) (world_of v) t u r s first second')

pub three_turns : (p n m v : Parts) (t u x : Turn) (r s y : TurnReply) (i j k l o : Bool) → Turned (phase p) (world_of p) t r (world_of n) → phase n ≡ phase p → Turned (phase n) (world_of n) u s (world_of m) → phase m ≡ phase p → Turned (phase m) (world_of m) x y (world_of v)
    → i ≡ has_moved r → j ≡ has_moved s → k ≡ has_moved y → l ≡ (j || k) → o ≡ (i || l) → Plays (phase p) (world_of p) (t ∷ u ∷ x ∷ []) o (world_of v)
three_turns p n m v t u x r s y i j k l o first same second same2 third a b c d e =
    let second' = subst (λ (g : Phase). Turned g (world_of n) u s (world_of m)) same second in
    let third' = subst (λ (g : Phase). Turned g (world_of m) x y (world_of v)) same2 third in
    let flat : (has_moved r || (has_moved s || has_moved y)) ≡ o = cc in
    as_moved (phase p) (world_of p) (t ∷ u ∷ x ∷ []) (has_moved r || (has_moved s || has_moved y)) o (world_of v) flat (three_plays (phase p) (world_of p) (world_of n) (world_of m) (world_of v) t u x r s y first second' third')
