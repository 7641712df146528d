-- The letters that the hub counts, and how it closes all boxes.
use Rattle.std.proofs.Common.{◌≡◌, ◌≢◌, ℕ, ◌+◌, ◌<◌, Bool, List, [], ◌∷◌, ◌++◌, length, length-append, true, false, cond, Some, refl, ap, sym, ◌∙◌, inl, inr, arith}
use Rattle.std.specs.Prelude.{None, Option, Result, Ok, Err, ◌⊎◌}
use Rattle.std.proofs.lemmas.List.{append-nil}
use Rattle.std.proofs.lemmas.List.Elements.{All-nil, All-push}
use Rattle.std.proofs.lemmas.List.Sums.{sum_by-append}
use Rattle.auc_letters.specs.declared.letter.Letter.{Letter}
use Rattle.auc_letters.specs.declared.letter.Why.{Why}
use Rattle.auc_mail.specs.declared.call.Call.{Call}
use Rattle.auc_mail.specs.declared.call.Taken.{Taken}
use Rattle.auc_book.specs.declared.error.TrailFull.{TrailFull}
use Rattle.auc_book.specs.Replies.{close_reply, take_reply}
use Rattle.auc_book.specs.Seat.{Account, SeatCalls}
use Rattle.auc_phases.specs.Hub.{Counting}
use Rattle.auc_threads.specs.declared.hub.Heard.{Heard}
use Rattle.auc_threads.specs.Calling.{Makes, lines_by, lines_made}
use Rattle.auc_threads.specs.Taking.{Answer, calls_taken, letter_of, letters_in, letters_taken}
use Rattle.auc_threads.specs.Counting.{Closes, Counted, Counts, CountsOn, EndsBy, GaveFirst, calls_closed, firsts_in, is_first}
use Rattle.auc_threads.proofs.CallingLaws.{makes_as, makes_call, makes_none, makes_then}
use Rattle.auc_threads.proofs.TakingLaws.{letters_append, taken_append, takes_append}
use Rattle.auc_book.proofs.Settled.{one_if}
use Rattle.auc_book.proofs.Lines.{not_true}

firsts_append : (xs ys : List Letter) → firsts_in (xs ++ ys) ≡ firsts_in xs + firsts_in ys
firsts_append xs ys = sum_by-append (λ x. cond (is_first x) 1 0) xs ys

-- ---- closing

closed_more : (b : ℕ) (rs : List (Result Bool TrailFull)) (r : Result Bool TrailFull) → calls_closed b (rs ++ r ∷ []) ≡ calls_closed b rs ++ record { call = Call.Close (b + length rs); reply = close_reply r } ∷ []
closed_more b [] r = ap (λ (n : ℕ). record { call = Call.Close n; reply = close_reply r } ∷ []) (omega arith)
closed_more b (q ∷ rs) r =
    ap (λ w. record { call = Call.Close b; reply = close_reply q } ∷ w) (closed_more (b + 1) rs r)
    ∙ ap (λ (n : ℕ). (record { call = Call.Close b; reply = close_reply q } ∷ calls_closed (b + 1) rs) ++ record { call = Call.Close n; reply = close_reply r } ∷ []) (omega arith)

pub closes_none : (room : ℕ) (a : Account Letter) → Closes room 0 a a
closes_none room a = record { answers = []; each = refl; makes = makes_none room a }

pub closes_more : (room n m : ℕ) (a b c : Account Letter) (r : Result Bool TrailFull) → Closes room n a b → SeatCalls room b (Call.Close n) (close_reply r) c → n + 1 ≡ m → Closes room m a c
closes_more room n m a b c r f h e =
    let calls : calls_closed 0 f.answers ++ record { call = Call.Close n; reply = close_reply r } ∷ [] ≡ calls_closed 0 (f.answers ++ r ∷ []) =
    sym (closed_more 0 f.answers r ∙ ap (λ (k : ℕ). calls_closed 0 f.answers ++ record { call = Call.Close k; reply = close_reply r } ∷ []) (omega (arith, f.each))) in
    record {
      answers = f.answers ++ r ∷ [];
      each = omega (arith, length-append f.answers (r ∷ []), f.each, e);
      makes = makes_as room a c _ _ calls (makes_then room a b c _ _ f.makes (makes_call room b c (Call.Close n) (close_reply r) h));
    }

-- closes take no letters
no_letters : (k b : ℕ) (rs : List (Result Bool TrailFull)) → letters_in (lines_made k (calls_closed b rs)) ≡ []
no_letters k b [] = refl
no_letters k b (r ∷ rs) = letters_append (lines_by k (Call.Close b) (close_reply r)) (lines_made k (calls_closed (b + 1) rs)) ∙ (ap (λ w. w ++ letters_in (lines_made k (calls_closed (b + 1) rs))) (one (close_reply r)) ∙ no_letters k (b + 1) rs)
  where
    one : (r : Option _) → letters_in (lines_by {T = Letter} k (Call.Close b) r) ≡ []
    one None = refl
    one (Some x) = refl

pub closed_told : (room n : ℕ) (a b : Account Letter) → Closes room n a b → 0 < room → letters_in b.lines ≡ letters_in a.lines
closed_told room n a b f some =
    ap letters_in (f.makes.told some)
    ∙ (letters_append a.lines (lines_made a.worker (calls_closed 0 f.answers)) ∙ (ap (λ w. letters_in a.lines ++ w) (no_letters a.worker 0 f.answers) ∙ append-nil (letters_in a.lines)))

-- ---- counting

-- nothing was taken yet
pub counts_none : (room persons : ℕ) (h : Counting) (a : Account Letter) → h ≡ record { count = 0; end = None } → 0 < persons → CountsOn room persons h a a
counts_none room persons h a e some = record {
  heard = [];
  firsts = All-nil GaveFirst;
  takes = makes_none room a;
  counted = sym (ap (λ (x : Counting). x.count) e);
  fewer = omega (arith, some, ap (λ (x : Counting). x.count) e);
  going = ap (λ (x : Counting). x.end) e;
}

-- a First counts, and no other letter does
first_counts : (r : Answer) → GaveFirst r → firsts_in (letter_of r ++ []) ≡ 1
first_counts (Ok (Taken.Letter s n x)) first = let one : 0 + one_if (is_first x) ≡ 1 = omega (arith, ap one_if first) in one
first_counts (Ok Taken.Empty) first = absurd first
first_counts (Ok Taken.Over) first = absurd first
first_counts (Err e) first = absurd first

other_counts : (r : Answer) (why : Option Why) → EndsBy r why → firsts_in (letter_of r ++ []) ≡ 0
other_counts (Ok (Taken.Letter s n x)) why ends = let none : 0 + one_if (is_first x) ≡ 0 = omega (arith, ap one_if ends.0) in none
other_counts (Ok Taken.Empty) why ends = absurd ends
other_counts (Ok Taken.Over) why ends = refl
other_counts (Err e) why ends = refl

-- one more answer, after which the boxes may be closed
module _ (room persons : ℕ) (h n : Counting) (a b c : Account Letter) (r : Answer) (k : CountsOn room persons h a b) (call : SeatCalls room b (Call.Take 0) (take_reply r) c) where
  firsts_are : firsts_in (letters_taken (k.heard ++ r ∷ [])) ≡ h.count + firsts_in (letter_of r ++ [])
  firsts_are = ap firsts_in (taken_append k.heard (r ∷ [])) ∙ (firsts_append (letters_taken k.heard) (letter_of r ++ []) ∙ ap (λ (m : ℕ). m + firsts_in (letter_of r ++ [])) k.counted)

  takes_are : Makes room a (calls_taken 0 (k.heard ++ r ∷ [])) c
  takes_are = makes_as room a c _ _ (sym (takes_append 0 k.heard (r ∷ []))) (makes_then room a b c _ _ k.takes (makes_call room b c (Call.Take 0) (take_reply r) call))

  pub counts_more : Counted persons h r Heard.On n → CountsOn room persons n a c
  counts_more heard = record {
    heard = k.heard ++ r ∷ [];
    firsts = All-push GaveFirst k.heard r k.firsts heard.first;
    takes = takes_are;
    counted = let more = heard.more in omega (arith, more, firsts_are, first_counts r heard.first);
    fewer = heard.fewer;
    going = heard.going;
  }

  pub counts_all : (d : Account Letter) → Counted persons h r Heard.All n → Closes room 1 c d → Counts room persons a true None d
  counts_all d heard last = record {
    heard = k.heard;
    last = r;
    firsts = k.firsts;
    before = c;
    takes = takes_are;
    closes = last;
    all = ((λ e. let all = heard.1 in omega (arith, all, firsts_are, first_counts r heard.0)), (λ e. refl));
    done = λ e. (heard.0, refl);
    ends = λ e. absurd (not_true (sym e));
  }

  pub counts_end : (d : Account Letter) (why : Option Why) → Counted persons h r (Heard.End why) n → Closes room 1 c d → Counts room persons a false why d
  counts_end d why heard last = record {
    heard = k.heard;
    last = r;
    firsts = k.firsts;
    before = c;
    takes = takes_are;
    closes = last;
    all = ((λ e. absurd (not_true e)), (λ e. absurd (omega (arith, e, k.fewer, firsts_are, other_counts r why heard))));
    done = λ e. absurd (not_true e);
    ends = λ e. heard;
  }

-- the hub has no reason of a shard
ends_free : (r : Answer) (why : Option Why) (y : Why) → EndsBy r why → why ≡ Some y → (y ≡ Why.Trail) ⊎ (y ≡ Why.Stray)
ends_free (Ok (Taken.Letter s n x)) why y ends e = elim ends.1 [ inl stop ↦ absurd (let f = sym stop.1 ∙ e in cc) | inr stray ↦ inr (let f = sym stray.1 ∙ e in cc) ]
ends_free (Ok Taken.Empty) why y ends e = absurd ends
ends_free (Ok Taken.Over) why y ends e = absurd (let f = sym ends ∙ e in cc)
ends_free (Err t) why y ends e = inl (let f = sym ends ∙ e in cc)

pub hub_free : (room persons : ℕ) (a : Account Letter) (is_all : Bool) (why : Option Why) (b : Account Letter) (y : Why) → Counts room persons a is_all why b → why ≡ Some y → (y ≡ Why.Trail) ⊎ (y ≡ Why.Stray)
hub_free room persons a true why b y c e = absurd (let f = sym ((c.done refl).1) ∙ e in cc)
hub_free room persons a false why b y c e = ends_free c.last why y (c.ends refl) e

pub hub_guard : (room persons : ℕ) (a : Account Letter) (is_all : Bool) (why : Option Why) (b : Account Letter) → Counts room persons a is_all why b → (why ≢ Some Why.Stuck) × (why ≢ Some Why.Fell)
hub_guard room persons a is_all why b c = (
  (λ e. elim (hub_free room persons a is_all why b Why.Stuck c e) [ inl f ↦ cc | inr f ↦ cc ]),
  (λ e. elim (hub_free room persons a is_all why b Why.Fell c e) [ inl f ↦ cc | inr f ↦ cc ]),
)

pub hub_bids : (room persons : ℕ) (a : Account Letter) (is_all : Bool) (why : Option Why) (b : Account Letter) → Counts room persons a is_all why b → why ≢ Some Why.Bids
hub_bids room persons a is_all why b c e = elim (hub_free room persons a is_all why b Why.Bids c e) [ inl f ↦ cc | inr f ↦ cc ]
