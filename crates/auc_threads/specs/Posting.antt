-- The posts of a worker, their answers, and its next step.
use Rattle.std.specs.Prelude.{◌≡◌, ◌≢◌, ◌⊎◌, ℕ, Bool, true, false, not, List, [], ◌∷◌, filter, Option, Some, None, Result, Ok, Err, if◌then◌else◌}
use Rattle.auc_letters.specs.declared.letter.Letter.{Letter}
use Rattle.auc_letters.specs.declared.letter.Why.{Why}
use Rattle.auc_letters.specs.declared.out.Out.{Out}
use Rattle.auc_letters.specs.declared.out.To.{To}
use Rattle.auc_letters.specs.Routing.{to_hub}
use Rattle.auc_mail.specs.declared.call.Call.{Call}
use Rattle.auc_mail.specs.declared.call.PostRefused.{PostRefused}
use Rattle.auc_book.specs.declared.error.CallRefused.{CallRefused}
use Rattle.auc_book.specs.declared.error.CallRefused.TheVariants as refused
use Rattle.auc_book.specs.declared.error.TrailFull.{TrailFull}
use Rattle.auc_book.specs.Replies.{close_reply, post_reply}
use Rattle.auc_book.specs.Seat.{Account}
use Rattle.auc_model.specs.Mails.{box_of}
use Rattle.auc_model.specs.Posting.{is_price, reason}
use Rattle.auc_threads.specs.declared.calls.Step.{Step}
use Rattle.auc_threads.specs.Calling.{Called, Makes}
use Rattle.auc_threads.specs.Worker.{Accounts, Rooms}

-- The step after an open box has refused a letter. A Price may be dropped; for any other letter the worker stops, for
-- the same reason as the world.
abbrev pub step_without : Letter → PostRefused → Step
step_without x r = if is_price x then Step.On else Step.Stop (reason r)

-- The step after the answer to a post; a closed box means that the phase is over.
abbrev pub step_after : Letter → Result ℕ CallRefused → Step
step_after x (Ok n) = Step.On
step_after x (Err refused.TrailFull) = Step.Stop Why.Trail
step_after x (Err refused.Closed) = Step.Over
step_after x (Err refused.Spent) = step_without x PostRefused.Spent
step_after x (Err refused.Full) = step_without x PostRefused.Full

-- a post, and its answer
pub record Sent : Type 0 where
  pub out : Out
  pub answer : Result ℕ CallRefused

abbrev pub step_of : Sent → Step
step_of x = step_after x.out.letter x.answer

-- no post was made after this one, which ends the worker with this step
pub record IsLastPost (x : Sent) (xs : List Sent) (step : Step) : Type 0 where
  pub ends : step_of x ≢ Step.On
  pub last : xs ≡ []
  pub step_is : step ≡ step_of x

-- The posts of these letters, in order. Either all were posted, and the worker goes on; or the last post made is the
-- first that ends it.
abbrev pub Posts : List Out → List Sent → Step → Type 0
Posts [] [] step = step ≡ Step.On
Posts [] (x ∷ xs) step = ⊥
Posts (o ∷ os) [] step = ⊥
Posts (o ∷ os) (x ∷ xs) step = (x.out ≡ o) × (((step_of x ≡ Step.On) × Posts os xs step) ⊎ IsLastPost x xs step)

-- the post of a letter, as a call
abbrev pub post_of : ℕ → Out → Call Letter
post_of k o = Call.Post k (box_of o.to) o.letter o.reserve

-- a worker's posts, as calls
abbrev pub calls_sent : ℕ → List Sent → List Called
calls_sent k [] = []
calls_sent k (x ∷ xs) = record { call = post_of k x.out; reply = post_reply x.answer } ∷ calls_sent k xs

-- The worker posted these letters to one mail, up to a post that ends it, with this step.
pub record PostsAt (room : ℕ) (a : Account Letter) (wanted : List Out) (b : Account Letter) (step : Step) : Type 0 where
  pub posts : List Sent
  pub posted : Posts wanted posts step
  pub makes : Makes room a (calls_sent a.worker posts) b

abbrev pub is_to_hub : To → Bool
is_to_hub To.Hub = true
is_to_hub (To.Person s) = false
is_to_hub (To.Object q) = false

-- the posts that go to the hub, and all others
abbrev pub to_the_hub : List Sent → List Sent
to_the_hub posts = filter (λ x. is_to_hub x.out.to) posts

abbrev pub to_shards : List Sent → List Sent
to_shards posts = filter (λ x. not (is_to_hub x.out.to)) posts

-- The same to two mails, the persons' and the hub's, one letter after another.
pub record Says (r : Rooms) (old : Accounts) (wanted : List Out) (new : Accounts) (step : Step) : Type 0 where
  pub posts : List Sent
  pub posted : Posts wanted posts step
  pub persons : Makes r.persons old.persons (calls_sent old.persons.worker (to_shards posts)) new.persons
  pub hub : Makes r.hub old.hub (calls_sent old.hub.worker (to_the_hub posts)) new.hub

-- the first of two steps that ends the worker, if one does
abbrev pub first_step : Step → Step → Step
first_step Step.On later = later
first_step Step.Over later = Step.Over
first_step (Step.Stop why) later = Step.Stop why

-- the reason of a worker that ends with this step, if it has one
abbrev pub why_of : Step → Option Why
why_of Step.On = None
why_of Step.Over = None
why_of (Step.Stop why) = Some why

-- A worker that stops posts its reason to the hub. If that is refused, for any reason, it closes the hub's box.
abbrev pub calls_stopped : ℕ → Why → Result ℕ CallRefused → Result Bool TrailFull → List Called
calls_stopped k why (Ok n) closed = record { call = post_of k (to_hub (Letter.Stop why)); reply = post_reply (Ok n) } ∷ []
calls_stopped k why (Err e) closed =
    record { call = post_of k (to_hub (Letter.Stop why)); reply = post_reply (Err e) }
    ∷ record { call = Call.Close 0; reply = close_reply closed } ∷ []

-- the calls at the hub's mail of a worker that ends with this step
abbrev pub AreLast : ℕ → Step → List Called → Type 0
AreLast k Step.On calls = calls ≡ []
AreLast k Step.Over calls = calls ≡ []
AreLast k (Step.Stop why) calls = (posted : Result ℕ CallRefused) × (closed : Result Bool TrailFull)
    × (calls ≡ calls_stopped k why posted closed)

-- the calls at the hub's mail with which a worker ends
pub record Ends (room : ℕ) (a : Account Letter) (step : Step) (b : Account Letter) : Type 0 where
  pub calls : List Called
  pub makes : Makes room a calls b
  pub are : AreLast a.worker step calls
