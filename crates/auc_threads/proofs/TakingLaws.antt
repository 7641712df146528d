-- The letters that a worker takes, one after another.
use Rattle.std.proofs.Common.{◌≡◌, ℕ, ◌<◌, List, [], ◌∷◌, ◌++◌, refl, ap, sym, ◌∙◌, subst, inl, inr, append_assoc}
use Rattle.std.specs.Prelude.{Ok, Err}
use Rattle.std.proofs.lemmas.List.{append-nil}
use Rattle.auc_letters.specs.declared.letter.Letter.{Letter}
use Rattle.auc_mail.specs.declared.call.Taken.{Taken}
use Rattle.auc_mail.specs.declared.call.Call.TheVariants.{Take}
use Rattle.auc_book.specs.declared.line.TrailLine.{TrailLine}
use Rattle.auc_book.specs.Replies.{take_reply}
use Rattle.auc_book.specs.Seat.{Account, SeatCalls}
use Rattle.auc_threads.specs.declared.calls.Step.{Step}
use Rattle.auc_threads.specs.Calling.{lines_by, lines_made}
use Rattle.auc_threads.specs.Taking.{AfterTake, AfterTakes, Answer, Takes, calls_taken, letter_by, letter_of, letters_in, letters_taken}
use Rattle.auc_threads.proofs.CallingLaws.{makes_as, makes_call, makes_none, makes_then}

-- ---- answers

pub letters_append : {T : Type 0} (xs ys : List (TrailLine T)) → letters_in (xs ++ ys) ≡ letters_in xs ++ letters_in ys
letters_append [] ys = refl
letters_append (l ∷ xs) ys = ap (λ w. letter_by l.call l.reply ++ w) (letters_append xs ys) ∙ sym (append_assoc (letter_by l.call l.reply) (letters_in xs) (letters_in ys))

pub taken_append : (rs qs : List Answer) → letters_taken (rs ++ qs) ≡ letters_taken rs ++ letters_taken qs
taken_append [] qs = refl
taken_append (r ∷ rs) qs = ap (λ w. letter_of r ++ w) (taken_append rs qs) ∙ sym (append_assoc (letter_of r) (letters_taken rs) (letters_taken qs))

pub takes_append : (at : ℕ) (rs qs : List Answer) → calls_taken at (rs ++ qs) ≡ calls_taken at rs ++ calls_taken at qs
takes_append at [] qs = refl
takes_append at (r ∷ rs) qs = ap (λ w. record { call = Take at; reply = take_reply r } ∷ w) (takes_append at rs qs)

-- the takes that the lines show
line_tells : (k at : ℕ) (r : Answer) → letters_in (lines_by {T = Letter} k (Take at) (take_reply r)) ≡ letter_of r
line_tells k at (Ok (Taken.Letter s n x)) = refl
line_tells k at (Ok Taken.Empty) = refl
line_tells k at (Ok Taken.Over) = refl
line_tells k at (Err e) = refl

pub lines_tell : (k at : ℕ) (rs : List Answer) → letters_in (lines_made k (calls_taken at rs)) ≡ letters_taken rs
lines_tell k at [] = refl
lines_tell k at (r ∷ rs) =
    letters_append (lines_by k (Take at) (take_reply r)) (lines_made k (calls_taken at rs))
    ∙ (ap (λ w. w ++ letters_in (lines_made k (calls_taken at rs))) (line_tells k at r) ∙ ap (λ w. letter_of r ++ w) (lines_tell k at rs))

-- ---- takes

abbrev pub took_nil : (room at : ℕ) (a : Account Letter) → Takes room at a [] a
took_nil room at a = record { answers = []; letters_are = refl; makes = makes_none room a }

abbrev pub took_take : (room at : ℕ) (a b : Account Letter) (r : Answer) → SeatCalls room a (Take at) (take_reply r) b → Takes room at a (letter_of r) b
took_take room at a b r h = record { answers = r ∷ []; letters_are = sym (append-nil (letter_of r)); makes = makes_call room a b (Take at) (take_reply r) h }

-- one after another
abbrev pub took_then : (room at : ℕ) (a b c : Account Letter) (xs ys : List Letter) → Takes room at a xs b → Takes room at b ys c → Takes room at a (xs ++ ys) c
took_then room at a b c xs ys f g = record {
  answers = f.answers ++ g.answers;
  letters_are = ap (λ w. w ++ ys) f.letters_are ∙ (ap (λ w. letters_taken f.answers ++ w) g.letters_are ∙ sym (taken_append f.answers g.answers));
  makes = makes_as room a c _ _ (sym (takes_append at f.answers g.answers)) (makes_then room a b c (calls_taken at f.answers) (calls_taken at g.answers) f.makes g.makes);
}

abbrev pub took_as : (room at : ℕ) (a b : Account Letter) (xs ys : List Letter) → xs ≡ ys → Takes room at a xs b → Takes room at a ys b
took_as room at a b xs ys e f = record { answers = f.answers; letters_are = sym e ∙ f.letters_are; makes = f.makes }

pub took_empty : (room at : ℕ) (a b : Account Letter) (r : Answer) → SeatCalls room a (Take at) (take_reply r) b → r ≡ Ok Taken.Empty → Takes room at a [] b
took_empty room at a b r h e = took_as room at a b (letter_of r) [] (ap letter_of e) (took_take room at a b r h)

-- the letters that the seat's lines show
pub took_told : (room at : ℕ) (a b : Account Letter) (xs : List Letter) → Takes room at a xs b → 0 < room → letters_in b.lines ≡ letters_in a.lines ++ xs
took_told room at a b xs f some =
    ap letters_in (f.makes.told some)
    ∙ (letters_append a.lines (lines_made a.worker (calls_taken at f.answers)) ∙ ap (λ w. letters_in a.lines ++ w) (lines_tell a.worker at f.answers ∙ sym f.letters_are))

-- ---- the step of the worker

pub after_one : (r : Answer) (step : Step) → AfterTake r step → AfterTakes (r ∷ []) step
after_one r step h = inl (refl, h)

pub after_then : (rs qs : List Answer) (step : Step) → AfterTakes rs Step.On → AfterTakes qs step → AfterTakes (rs ++ qs) step
after_then [] qs step f g = g
after_then (r ∷ rs) qs step f g =
    elim f [
      | inl last ↦ inr (last.1, subst (λ ts. AfterTakes (ts ++ qs) step) (sym last.0) g)
      | inr more ↦ inr (more.0, after_then rs qs step more.1 g)
    ]
