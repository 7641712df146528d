-- Calls at one mail, one after another.
use Rattle.std.proofs.Common.{◌≡◌, ◌⊎◌, ℕ, ◌==◌, ◌+◌, ◌≤◌, false, cond, List, [], ◌∷◌, ◌++◌, length, length-append, Some, None, refl, ap, sym, ◌∙◌, subst, inl, inr, arith, append_assoc}
use Rattle.std.specs.Prelude.{Option}
use Rattle.std.proofs.lemmas.Bool.{ne_eqb}
use Rattle.std.proofs.lemmas.List.{append-nil}
use Rattle.auc_letters.specs.declared.letter.Letter.{Letter}
use Rattle.auc_mail.specs.declared.call.Call.{Call}
use Rattle.auc_mail.specs.declared.call.Reply.{Reply}
use Rattle.auc_book.specs.declared.line.TrailLine.{TrailLine}
use Rattle.auc_book.specs.Seat.{Account, SeatCalls, one_more}
use Rattle.auc_threads.specs.Calling.{Called, IsMore, Makes, lines_by, lines_made, turned_by, turned_in}

-- ---- counts of calls that were turned away

more_none : (x : ℕ) → IsMore x 0 x
more_none x = inl (omega arith)

more_one : (x y : ℕ) → y ≡ one_more x → IsMore x 1 y
more_one x y e = by (least x) e
  where
    least : (x : ℕ) → (one_more x ≡ x + 1) ⊎ ((one_more x ≡ 18446744073709551615) × (18446744073709551615 ≤ x + 1))
    least x = grind arith

    by : (one_more x ≡ x + 1) ⊎ ((one_more x ≡ 18446744073709551615) × (18446744073709551615 ≤ x + 1)) → y ≡ one_more x → IsMore x 1 y
    by (inl is) e = inl (e ∙ is)
    by (inr last) e = inr (let l = last.0 in omega (arith, e, l), last.1)

more_then : (x y z m n : ℕ) → IsMore x m y → IsMore y n z → IsMore x (m + n) z
more_then x y z m n (inl e) (inl f) = inl (omega (arith, e, f))
more_then x y z m n (inl e) (inr f) = inr (f.0, let l = f.1 in omega (arith, e, l))
more_then x y z m n (inr e) (inl f) = inr (let l = e.0 in omega (arith, f, l), let l = e.1 in omega (arith, l))
more_then x y z m n (inr e) (inr f) = inr (f.0, let l = e.1 in omega (arith, l))

-- ---- lists of calls

pub made_append : (k : ℕ) (cs ds : List Called) → lines_made k (cs ++ ds) ≡ lines_made k cs ++ lines_made k ds
made_append k [] ds = refl
made_append k (c ∷ cs) ds = ap (λ w. lines_by k c.call c.reply ++ w) (made_append k cs ds) ∙ sym (append_assoc (lines_by k c.call c.reply) (lines_made k cs) (lines_made k ds))

turned_append : (cs ds : List Called) → turned_in (cs ++ ds) ≡ turned_in cs + turned_in ds
turned_append [] ds = omega arith
turned_append (c ∷ cs) ds = omega (arith, turned_append cs ds)

-- ---- the account of a seat

pub makes_none : (room : ℕ) (a : Account Letter) → Makes room a [] a
makes_none room a = record { worker = refl; counted = omega arith; turned = more_none a.turned_away; told = λ some. sym (append-nil a.lines) }

pub makes_call : (room : ℕ) (a b : Account Letter) (c : Call Letter) (r : Option (Reply Letter)) → SeatCalls room a c r b → Makes room a (record { call = c; reply = r } ∷ []) b
makes_call room a b c None h = record {
  worker = ap (λ (x : Account Letter). x.worker) h;
  counted = omega (arith, ap (λ (x : Account Letter). x.count) h);
  turned = more_one a.turned_away b.turned_away (ap (λ (x : Account Letter). x.turned_away) h);
  told = λ some. ap (λ (x : Account Letter). x.lines) h ∙ sym (append-nil a.lines);
}
makes_call room a b c (Some r) h =
    let line : TrailLine Letter = record { worker = a.worker; call = c; reply = r } in
    let count = h.1 in
    record {
      worker = h.0;
      counted = omega (arith, count);
      turned = subst (λ (n : ℕ). IsMore a.turned_away 0 n) (sym h.2) (more_none a.turned_away);
      told = λ some.
          let test : (room == 0) ≡ false = ne_eqb room 0 (λ e. absurd (omega (arith, e, some))) in
          h.3 ∙ ap (λ q. cond q a.lines (a.lines ++ line ∷ [])) test;
    }

-- one after another
pub makes_then : (room : ℕ) (a b c : Account Letter) (xs ys : List Called) → Makes room a xs b → Makes room b ys c → Makes room a (xs ++ ys) c
makes_then room a b c xs ys f g =
    let lines : lines_made a.worker (xs ++ ys) ≡ lines_made a.worker xs ++ lines_made b.worker ys =
    made_append a.worker xs ys ∙ ap (λ (k : ℕ). lines_made a.worker xs ++ lines_made k ys) (sym f.worker) in
    record {
      worker = g.worker ∙ f.worker;
      counted = omega (arith, f.counted, g.counted, ap length lines, length-append (lines_made a.worker xs) (lines_made b.worker ys));
      turned = subst (λ (n : ℕ). IsMore a.turned_away n c.turned_away) (sym (turned_append xs ys)) (more_then a.turned_away b.turned_away c.turned_away (turned_in xs) (turned_in ys) f.turned g.turned);
      told = λ some. g.told some ∙ (ap (λ w. w ++ lines_made b.worker ys) (f.told some) ∙ (append_assoc a.lines (lines_made a.worker xs) (lines_made b.worker ys) ∙ ap (λ w. a.lines ++ w) (sym lines)));
    }

pub makes_as : (room : ℕ) (a b : Account Letter) (xs ys : List Called) → xs ≡ ys → Makes room a xs b → Makes room a ys b
makes_as room a b xs ys e f = subst (λ cs. Makes room a cs b) e f

-- ---- a call shows

-- A worker whose account hasn't changed made no call, unless the number of calls turned away is at its last value. So
-- no body can claim calls that it doesn't make.
pub calls_show : (room : ℕ) (a : Account Letter) (calls : List Called) → Makes room a calls a → (calls ≡ []) ⊎ (18446744073709551615 ≤ a.turned_away)
calls_show room a [] f = inl refl
calls_show room a (c ∷ cs) f = inr (by c.reply f.counted f.turned)
  where
    by : (r : Option (Reply Letter)) → a.count ≡ a.count + length (lines_by a.worker c.call r ++ lines_made a.worker cs) → IsMore a.turned_away (turned_by r + turned_in cs) a.turned_away → 18446744073709551615 ≤ a.turned_away
    by None counted (inl e) = absurd (omega (arith, e))
    by None counted (inr e) = e.0
    by (Some r) counted turned = absurd (omega (arith, counted))
