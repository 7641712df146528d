-- A worker made the calls that it has to make. If its account hasn't changed it made none, or the number turned away is
-- at its last value.
use Rattle.std.proofs.Common.{◌≡◌, ◌⊎◌, ℕ, ◌<◌, ◌≤◌, Bool, List, [], ◌∷◌, ◌++◌, length, All, refl, sym, ◌∙◌, inl, inr, arith}
use Rattle.std.specs.Prelude.{Result, Ok, Err}
use Rattle.std.proofs.lemmas.List.Elements.{All-cons, All-nil}
use Rattle.auc_letters.specs.declared.letter.Letter.{Letter}
use Rattle.auc_letters.specs.declared.letter.Why.{Why}
use Rattle.auc_letters.specs.declared.out.Out.{Out}
use Rattle.auc_mail.specs.declared.call.Call.{Call}
use Rattle.auc_book.specs.declared.error.CallRefused.{CallRefused}
use Rattle.auc_book.specs.declared.error.TrailFull.{TrailFull}
use Rattle.auc_book.specs.declared.line.TrailLine.{TrailLine}
use Rattle.auc_book.specs.Seat.{Account}
use Rattle.auc_threads.specs.declared.calls.Step.{Step}
use Rattle.auc_threads.specs.Calling.{Called, lines_made}
use Rattle.auc_threads.specs.Taking.{Answer, Takes, calls_taken}
use Rattle.auc_threads.specs.Counting.{Closes, calls_closed}
use Rattle.auc_threads.specs.Posting.{AreLast, Ends, Posts, PostsAt, Sent, calls_sent, calls_stopped}
use Rattle.auc_threads.proofs.CallingLaws.{calls_show}

abbrev IsSpent : Account Letter → Type 0
IsSpent a = 18446744073709551615 ≤ a.turned_away

stopped_some : (k : ℕ) (why : Why) (posted : Result ℕ CallRefused) (closed : Result Bool TrailFull) → calls_stopped k why posted closed ≡ [] → ⊥
stopped_some k why (Ok n) closed e = cc
stopped_some k why (Err x) closed e = cc

-- A worker that stops has called at the hub's mail.
pub stop_shows : (room : ℕ) (a : Account Letter) (why : Why) → Ends room a (Step.Stop why) a → 18446744073709551615 ≤ a.turned_away
stop_shows room a why f = by f.are (calls_show room a f.calls f.makes)
  where
    by : AreLast a.worker (Step.Stop why) f.calls → (f.calls ≡ []) ⊎ IsSpent a → IsSpent a
    by (posted, closed, is) (inl none) = absurd (stopped_some a.worker why posted closed (sym is ∙ none))
    by (posted, closed, is) (inr spent) = spent

-- So has the hub, at each mail with a box to close.
pub close_shows : (room n : ℕ) (a : Account Letter) → 0 < n → Closes room n a a → 18446744073709551615 ≤ a.turned_away
close_shows room n a some f = by f.answers f.each (calls_show room a (calls_closed 0 f.answers) f.makes)
  where
    by : (rs : List (Result Bool TrailFull)) → length rs ≡ n → (calls_closed 0 rs ≡ []) ⊎ IsSpent a → IsSpent a
    by [] each told = absurd (omega (arith, each, some))
    by (r ∷ rs) each (inl none) = absurd cc
    by (r ∷ rs) each (inr spent) = spent

-- And so has a worker with a letter to post.
pub post_shows : (room : ℕ) (a : Account Letter) (o : Out) (os : List Out) (step : Step) → PostsAt room a (o ∷ os) a step → 18446744073709551615 ≤ a.turned_away
post_shows room a o os step f = by f.posts f.posted (calls_show room a (calls_sent a.worker f.posts) f.makes)
  where
    by : (xs : List Sent) → Posts (o ∷ os) xs step → (calls_sent a.worker xs ≡ []) ⊎ IsSpent a → IsSpent a
    by [] posted told = absurd posted
    by (x ∷ xs) posted (inl none) = absurd cc
    by (x ∷ xs) posted (inr spent) = spent

-- ---- takes

abbrev pub TakesAt : ℕ → TrailLine Letter → Type 0
TakesAt at line = line.call ≡ Call.Take at

taken_alone : (k at : ℕ) (rs : List Answer) → All (TakesAt at) (lines_made k (calls_taken at rs))
taken_alone k at [] = All-nil (TakesAt at)
taken_alone k at (Ok t ∷ rs) = All-cons (TakesAt at) _ _ refl (taken_alone k at rs)
taken_alone k at (Err e ∷ rs) = taken_alone k at rs

-- Where there are trails, a worker that took letters from a box did nothing else at its mail: all its new lines are
-- takes from that box.
pub takes_alone : (room at : ℕ) (a b : Account Letter) (letters : List Letter) → 0 < room → Takes room at a letters b → (more : List (TrailLine Letter)) × (b.lines ≡ a.lines ++ more) × All (TakesAt at) more
takes_alone room at a b letters some f = (lines_made a.worker (calls_taken at f.answers), f.makes.told some, taken_alone a.worker at f.answers)
