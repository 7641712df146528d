-- The counts of letters under way, of persons and of objects, over each kind of change.
use Rattle.std.proofs.Common.{ℕ, ℤ, ◌+◌, ◌<◌, ◌≡◌, arith, List, [], ◌∷◌, ◌++◌, Option, Some, None, sum_by, ap, sym}
use Rattle.std.proofs.lemmas.List.Sums.{sum_by-append, sum_by-cons}
use Rattle.auc_letters.specs.declared.letter.Letter.{Letter}
use Rattle.auc_letters.specs.declared.letter.Why.{Why}
use Rattle.auc_letters.specs.declared.out.Out.{Out}
use Rattle.auc_letters.specs.declared.out.To.{To}
use Rattle.auc_letters.specs.declared.state.Held.{Held}
use Rattle.auc_letters.specs.declared.state.PersonState.{PersonState}
use Rattle.auc_letters.specs.declared.state.PersonState.TheVariants.{Waits}
use Rattle.auc_model.specs.Counts.{Counts, everywhere, held_objects, held_one, holding_persons, holds_one, total, waiting_persons, waits_one}
use Rattle.auc_model.specs.Letters.{told_answer, award_one, bid_one, first_one, outbid_one, refused_one}
use Rattle.auc_model.specs.Places.{Allows, Answer, Award, Outbid, Refused, heard}
use Rattle.auc_model.specs.Put.{put}
use Rattle.auc_model.specs.Channels.{Channels, send, set_channel}
use Rattle.auc_model.specs.World.{Phase, World, senders}
use Rattle.auc_model.proofs.SameAnswers.{same_answer}
use Rattle.auc_model.proofs.Sums.{total_put}
use Rattle.auc_model.proofs.Totals.{IsBox, everywhere_sent, everywhere_set}

-- the sums after one letter more, or one less
pub record Plus (g : Phase) (l : Letter) (c d : Channels) : Type 0 where
  pub bids : everywhere g bid_one d ≡ everywhere g bid_one c + bid_one l
  pub awards : everywhere g award_one d ≡ everywhere g award_one c + award_one l
  pub refused : everywhere g refused_one d ≡ everywhere g refused_one c + refused_one l
  pub outbids : everywhere g outbid_one d ≡ everywhere g outbid_one c + outbid_one l
  pub firsts : everywhere g first_one d ≡ everywhere g first_one c + first_one l

pub plus_sent : (g : Phase) (c : Channels) (x : ℕ) (o : Out) → x < senders g → IsBox g o.to → Plus g o.letter c (send c x (o ∷ []))
plus_sent g c x o h b =
    record {
      bids = everywhere_sent g bid_one c x o h b;
      awards = everywhere_sent g award_one c x o h b;
      refused = everywhere_sent g refused_one c x o h b;
      outbids = everywhere_sent g outbid_one c x o h b;
      firsts = everywhere_sent g first_one c x o h b;
    }

pub less : (g : Phase) (f : Letter → ℕ) (c : Channels) (t : To) (x : ℕ) (hs : List Letter) (l : Letter) (ls : List Letter) → c t x ≡ hs ++ l ∷ ls → x < senders g → IsBox g t
    → everywhere g f c ≡ everywhere g f (set_channel c t x (hs ++ ls)) + f l
less g f c t x hs l ls e h b =
    let a = everywhere_set g f c x (hs ++ ls) h t b in
    let s : sum_by f (c t x) ≡ sum_by f (hs ++ l ∷ ls) = ap (λ (xs : List Letter). sum_by f xs) e in
    let p = sum_by-append f hs (l ∷ ls) in
    let q = sum_by-append f hs ls in
    let r = sum_by-cons f l ls in
    omega (arith, a, s, p, q, r)

-- read backwards: the old channels have one more letter
pub plus_gone : (g : Phase) (c : Channels) (t : To) (x : ℕ) (hs : List Letter) (l : Letter) (ls : List Letter) → c t x ≡ hs ++ l ∷ ls → x < senders g → IsBox g t → Plus g l (set_channel c t x (hs ++ ls)) c
plus_gone g c t x hs l ls e h b =
    record {
      bids = less g bid_one c t x hs l ls e h b;
      awards = less g award_one c t x hs l ls e h b;
      refused = less g refused_one c t x hs l ls e h b;
      outbids = less g outbid_one c t x hs l ls e h b;
      firsts = less g first_one c t x hs l ls e h b;
    }

module _ (g : Phase) (w v : World) (c d : Channels) (counts : Counts g w c) where
  module _ (same_state : v.state ≡ w.state) (same_holder : v.holder ≡ w.holder) where
    same_waiting : waiting_persons g v ≡ waiting_persons g w
    same_waiting = ap (λ (f : ℕ → PersonState). total (λ i. waits_one (f i)) g.persons) same_state

    same_holding : holding_persons g v ≡ holding_persons g w
    same_holding = ap (λ (f : ℕ → PersonState). total (λ i. holds_one (f i)) g.persons) same_state

    same_held : held_objects g v ≡ held_objects g w
    same_held = ap (λ (f : ℕ → Option Held). total (λ j. held_one (f j)) g.objects) same_holder

    pub counts_price : v.count ≡ w.count → (j : ℕ) (p : ℤ) → Plus g (Letter.Price j p) c d → Counts g v d
    counts_price n j p e =
        let a = same_waiting in let b = same_holding in let h = same_held in
        record { who_waits = omega (arith, counts.who_waits, e, a); who_holds = omega (arith, counts.who_holds, e, b, h); who_told = omega (arith, counts.who_told, e, n, h) }

    pub counts_stop : v.count ≡ w.count → (y : Why) → Plus g (Letter.Stop y) c d → Counts g v d
    counts_stop n y e =
        let a = same_waiting in let b = same_holding in let h = same_held in
        record { who_waits = omega (arith, counts.who_waits, e, a); who_holds = omega (arith, counts.who_holds, e, b, h); who_told = omega (arith, counts.who_told, e, n, h) }

    pub counts_same : v.count ≡ w.count → d ≡ c → Counts g v d
    counts_same n e =
        let a = same_waiting in let b = same_holding in let h = same_held in
        rw e (record { who_waits = omega (arith, counts.who_waits, a); who_holds = omega (arith, counts.who_holds, b, h); who_told = omega (arith, counts.who_told, n, h) })

    -- a letter that counts nowhere is gone
    pub counts_price_gone : v.count ≡ w.count → (j : ℕ) (p : ℤ) → Plus g (Letter.Price j p) d c → Counts g v d
    counts_price_gone n j p e =
        let a = same_waiting in let b = same_holding in let h = same_held in
        record { who_waits = omega (arith, counts.who_waits, e, a); who_holds = omega (arith, counts.who_holds, e, b, h); who_told = omega (arith, counts.who_told, e, n, h) }

    pub counts_stop_gone : v.count ≡ w.count → (y : Why) → Plus g (Letter.Stop y) d c → Counts g v d
    counts_stop_gone n y e =
        let a = same_waiting in let b = same_holding in let h = same_held in
        record { who_waits = omega (arith, counts.who_waits, e, a); who_holds = omega (arith, counts.who_holds, e, b, h); who_told = omega (arith, counts.who_told, e, n, h) }

    pub counts_first_gone : v.count ≡ w.count + 1 → (j : ℕ) → Plus g (Letter.First j) d c → Counts g v d
    counts_first_gone n j e =
        let a = same_waiting in let b = same_holding in let h = same_held in
        record { who_waits = omega (arith, counts.who_waits, e, a); who_holds = omega (arith, counts.who_holds, e, b, h); who_told = omega (arith, counts.who_told, e, n, h) }

    pub counts_refuse : v.count ≡ w.count → (m : Channels) (i a j k l : ℕ) (p q : ℤ) → Plus g (Letter.Bid i a j p) m c → Plus g (Letter.Refused k l q) m d → Counts g v d
    counts_refuse n m i a j k l p q e f =
        let s = same_waiting in let b = same_holding in let h = same_held in
        record { who_waits = omega (arith, counts.who_waits, e, f, s); who_holds = omega (arith, counts.who_holds, e, f, b, h); who_told = omega (arith, counts.who_told, e, f, n, h) }

  -- a bid is made
  pub counts_bid : v.count ≡ w.count → v.holder ≡ w.holder → (i a j : ℕ) (p : ℤ) → i < g.persons → w.state i ≡ PersonState.Free → v.state ≡ put w.state i (Waits j) → Plus g (Letter.Bid i a j p) c d → Counts g v d
  counts_bid n h i a j p l free s e =
      let x = total_put waits_one w.state i (Waits j) g.persons l in
      let y = total_put holds_one w.state i (Waits j) g.persons l in
      let fx : waits_one (w.state i) ≡ 0 = rw free in
      let fy : holds_one (w.state i) ≡ 0 = rw free in
      let sx : waiting_persons g v ≡ total (λ k. waits_one (put w.state i (Waits j) k)) g.persons = ap (λ (f : ℕ → PersonState). total (λ k. waits_one (f k)) g.persons) s in
      let sy : holding_persons g v ≡ total (λ k. holds_one (put w.state i (Waits j) k)) g.persons = ap (λ (f : ℕ → PersonState). total (λ k. holds_one (f k)) g.persons) s in
      let sh : held_objects g v ≡ held_objects g w = ap (λ (f : ℕ → Option Held). total (λ k. held_one (f k)) g.objects) h in
      record { who_waits = omega (arith, counts.who_waits, e, x, fx, sx); who_holds = omega (arith, counts.who_holds, e, y, fy, sy, sh); who_told = omega (arith, counts.who_told, e, n, sh) }

  -- an answer is taken
  pub counts_hear : v.count ≡ w.count → v.holder ≡ w.holder → (l : Letter) (a : Answer) (i j : ℕ) (p : ℤ) → told_answer l ≡ Some (a, i, j, p) → i < g.persons → Allows (w.state i) a j → v.state ≡ put w.state i (heard a j)
      → Plus g l d c → Counts g v d
  counts_hear n h l a i j p is low fits s e = by_letter l is e
    where
      x : total (λ k. waits_one (put w.state i (heard a j) k)) g.persons + waits_one (w.state i) ≡ waiting_persons g w + waits_one (heard a j)
      x = total_put waits_one w.state i (heard a j) g.persons low

      y : total (λ k. holds_one (put w.state i (heard a j) k)) g.persons + holds_one (w.state i) ≡ holding_persons g w + holds_one (heard a j)
      y = total_put holds_one w.state i (heard a j) g.persons low

      sx : waiting_persons g v ≡ total (λ k. waits_one (put w.state i (heard a j) k)) g.persons
      sx = ap (λ (f : ℕ → PersonState). total (λ k. waits_one (f k)) g.persons) s

      sy : holding_persons g v ≡ total (λ k. holds_one (put w.state i (heard a j) k)) g.persons
      sy = ap (λ (f : ℕ → PersonState). total (λ k. holds_one (f k)) g.persons) s

      sh : held_objects g v ≡ held_objects g w
      sh = ap (λ (f : ℕ → Option Held). total (λ k. held_one (f k)) g.objects) h

      by_award : (k m : ℕ) (q : ℤ) → a ≡ Award → Plus g (Letter.Award k m q) d c → Counts g v d
      by_award k m q r e =
          let f : Allows (w.state i) Award j = rw r at fits in
          let wx : waits_one (w.state i) ≡ 1 = rw f in
          let wy : holds_one (w.state i) ≡ 0 = rw f in
          let ox : waits_one (heard a j) ≡ 0 = rw r in
          let oy : holds_one (heard a j) ≡ 1 = rw r in
          record { who_waits = omega (arith, counts.who_waits, e, x, wx, ox, sx); who_holds = omega (arith, counts.who_holds, e, y, wy, oy, sy, sh); who_told = omega (arith, counts.who_told, e, n, sh) }

      by_refused : (k m : ℕ) (q : ℤ) → a ≡ Refused → Plus g (Letter.Refused k m q) d c → Counts g v d
      by_refused k m q r e =
          let f : Allows (w.state i) Refused j = rw r at fits in
          let wx : waits_one (w.state i) ≡ 1 = rw f in
          let wy : holds_one (w.state i) ≡ 0 = rw f in
          let ox : waits_one (heard a j) ≡ 0 = rw r in
          let oy : holds_one (heard a j) ≡ 0 = rw r in
          record { who_waits = omega (arith, counts.who_waits, e, x, wx, ox, sx); who_holds = omega (arith, counts.who_holds, e, y, wy, oy, sy, sh); who_told = omega (arith, counts.who_told, e, n, sh) }

      by_outbid : (k m : ℕ) (q : ℤ) → a ≡ Outbid → Plus g (Letter.Outbid k m q) d c → Counts g v d
      by_outbid k m q r e =
          let f : Allows (w.state i) Outbid j = rw r at fits in
          let wx : waits_one (w.state i) ≡ 0 = rw f in
          let wy : holds_one (w.state i) ≡ 1 = rw f in
          let ox : waits_one (heard a j) ≡ 0 = rw r in
          let oy : holds_one (heard a j) ≡ 0 = rw r in
          record { who_waits = omega (arith, counts.who_waits, e, x, wx, ox, sx); who_holds = omega (arith, counts.who_holds, e, y, wy, oy, sy, sh); who_told = omega (arith, counts.who_told, e, n, sh) }

      by_letter : (l : Letter) → told_answer l ≡ Some (a, i, j, p) → Plus g l d c → Counts g v d
      by_letter (Letter.Award k m q) is e = by_award k m q (sym ((same_answer Award a k m i j q p is).kind)) e
      by_letter (Letter.Refused k m q) is e = by_refused k m q (sym ((same_answer Refused a k m i j q p is).kind)) e
      by_letter (Letter.Outbid k m q) is e = by_outbid k m q (sym ((same_answer Outbid a k m i j q p is).kind)) e
      by_letter (Letter.Price k q) is e = absurd cc
      by_letter (Letter.Bid k b m q) is e = absurd cc
      by_letter (Letter.First k) is e = absurd cc
      by_letter (Letter.Stop u) is e = absurd cc

  -- a bid is accepted
  module _ (same_count : v.count ≡ w.count) (same_state : v.state ≡ w.state) (i a j : ℕ) (p : ℤ) (new : Held) (known : j < g.objects) (holds : v.holder ≡ put w.holder j (Some new)) (m e : Channels) (bid : Plus g (Letter.Bid i a j p) m c) where
    new_held : held_objects g v + held_one (w.holder j) ≡ held_objects g w + 1
    new_held =
        let x = total_put held_one w.holder j (Some new) g.objects known in
        let s : held_objects g v ≡ total (λ k. held_one (put w.holder j (Some new) k)) g.objects = ap (λ (f : ℕ → Option Held). total (λ k. held_one (f k)) g.objects) holds in
        omega (arith, x, s)

    accept_waiting : waiting_persons g v ≡ waiting_persons g w
    accept_waiting = ap (λ (f : ℕ → PersonState). total (λ i. waits_one (f i)) g.persons) same_state

    accept_holding : holding_persons g v ≡ holding_persons g w
    accept_holding = ap (λ (f : ℕ → PersonState). total (λ i. holds_one (f i)) g.persons) same_state

    pub counts_first : (x y z : ℕ) (q : ℤ) → w.holder j ≡ None → Plus g (Letter.Award x y q) m e → Plus g (Letter.First z) e d → Counts g v d
    counts_first x y z q none f h =
        let o : held_one (w.holder j) ≡ 0 = rw none in
        let k = new_held in let s = accept_waiting in let t = accept_holding in
        record { who_waits = omega (arith, counts.who_waits, bid, f, h, s); who_holds = omega (arith, counts.who_holds, bid, f, h, o, k, t); who_told = omega (arith, counts.who_told, bid, f, h, o, k, same_count) }

    pub counts_pass : (old : Held) (x y z u : ℕ) (q r : ℤ) → w.holder j ≡ Some old → Plus g (Letter.Outbid x y q) m e → Plus g (Letter.Award z u r) e d → Counts g v d
    counts_pass old x y z u q r held f h =
        let o : held_one (w.holder j) ≡ 1 = rw held in
        let k = new_held in let s = accept_waiting in let t = accept_holding in
        record { who_waits = omega (arith, counts.who_waits, bid, f, h, s); who_holds = omega (arith, counts.who_holds, bid, f, h, o, k, t); who_told = omega (arith, counts.who_told, bid, f, h, o, k, same_count) }
