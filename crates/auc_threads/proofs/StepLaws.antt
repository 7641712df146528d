-- The step of a worker, and its reason.
use Rattle.std.proofs.Common.{◌≡◌, ◌≢◌, ℕ, Bool, true, false, cond, List, [], ◌∷◌, Some, refl, sym, ◌∙◌, subst, inl, inr}
use Rattle.std.specs.Prelude.{Option, Result, Ok, Err}
use Rattle.auc_letters.specs.declared.letter.Letter.{Letter}
use Rattle.auc_letters.specs.declared.letter.Why.{Why}
use Rattle.auc_letters.specs.declared.out.Out.{Out}
use Rattle.auc_mail.specs.declared.call.PostRefused.{PostRefused}
use Rattle.auc_model.specs.Posting.{is_price, reason}
use Rattle.auc_book.specs.declared.error.CallRefused.{CallRefused}
use Rattle.auc_book.specs.declared.error.CallRefused.TheVariants as refused
use Rattle.auc_book.specs.Seat.{Account}
use Rattle.auc_threads.specs.declared.calls.Step.{Step}
use Rattle.auc_threads.specs.Posting.{Posts, PostsAt, Sent, first_step, step_after, step_without, why_of}

-- ---- a refused post is no reason of a shard of the persons
abbrev pub GuardFree : Step → Type 0
GuardFree Step.On = Unit {0}
GuardFree Step.Over = Unit {0}
GuardFree (Step.Stop Why.Bids) = ⊥
GuardFree (Step.Stop Why.Ceiling) = Unit {0}
GuardFree (Step.Stop Why.Stuck) = ⊥
GuardFree (Step.Stop Why.Posts) = Unit {0}
GuardFree (Step.Stop Why.Trail) = Unit {0}
GuardFree (Step.Stop Why.Mail) = Unit {0}
GuardFree (Step.Stop Why.Fell) = ⊥
GuardFree (Step.Stop Why.Stray) = Unit {0}

free_without : (x : Letter) (r : PostRefused) → GuardFree (Step.Stop (reason r)) → GuardFree (step_without x r)
free_without x r h = by (is_price x)
  where
    by : (b : Bool) → GuardFree (cond b Step.On (Step.Stop (reason r)))
    by true = tt
    by false = h

free_after : (x : Letter) (r : Result ℕ CallRefused) → GuardFree (step_after x r)
free_after x (Ok n) = tt
free_after x (Err refused.TrailFull) = tt
free_after x (Err refused.Closed) = tt
free_after x (Err refused.Spent) = free_without x PostRefused.Spent tt
free_after x (Err refused.Full) = free_without x PostRefused.Full tt

pub free_posts : (os : List Out) (xs : List Sent) (step : Step) → Posts os xs step → GuardFree step
free_posts [] [] step f = subst GuardFree (sym f) tt
free_posts [] (x ∷ xs) step f = absurd f
free_posts (o ∷ os) [] step f = absurd f
free_posts (o ∷ os) (x ∷ xs) step f = elim f.1 [
  | inl on ↦ free_posts os xs step on.1
  | inr end ↦ subst GuardFree (sym end.step_is) (free_after x.out.letter x.answer)
]

pub free_first : (x y : Step) → GuardFree x → GuardFree y → GuardFree (first_step x y)
free_first Step.On y f g = g
free_first Step.Over y f g = tt
free_first (Step.Stop why) y f g = f

pub free_why : (step : Step) (why : Option Why) → GuardFree step → why ≡ why_of step → (why ≢ Some Why.Stuck) × (why ≢ Some Why.Fell)
free_why Step.On why h e = ((λ f. (let g = sym e ∙ f in cc)), (λ f. (let g = sym e ∙ f in cc)))
free_why Step.Over why h e = ((λ f. (let g = sym e ∙ f in cc)), (λ f. (let g = sym e ∙ f in cc)))
free_why (Step.Stop Why.Bids) why h e = absurd h
free_why (Step.Stop Why.Ceiling) why h e = ((λ f. (let g = sym e ∙ f in cc)), (λ f. (let g = sym e ∙ f in cc)))
free_why (Step.Stop Why.Stuck) why h e = absurd h
free_why (Step.Stop Why.Posts) why h e = ((λ f. (let g = sym e ∙ f in cc)), (λ f. (let g = sym e ∙ f in cc)))
free_why (Step.Stop Why.Trail) why h e = ((λ f. (let g = sym e ∙ f in cc)), (λ f. (let g = sym e ∙ f in cc)))
free_why (Step.Stop Why.Mail) why h e = ((λ f. (let g = sym e ∙ f in cc)), (λ f. (let g = sym e ∙ f in cc)))
free_why (Step.Stop Why.Fell) why h e = absurd h
free_why (Step.Stop Why.Stray) why h e = ((λ f. (let g = sym e ∙ f in cc)), (λ f. (let g = sym e ∙ f in cc)))

not_guard : (step : Step) → GuardFree step → (step ≢ Step.Stop Why.Stuck) × (step ≢ Step.Stop Why.Fell)
not_guard step free = ((λ e. subst GuardFree e free), (λ e. subst GuardFree e free))

pub posts_bids : (os : List Out) (xs : List Sent) (step : Step) → Posts os xs step → step ≢ Step.Stop Why.Bids
posts_bids os xs step f e = subst GuardFree e (free_posts os xs step f)

pub at_guard : (room : ℕ) (a b : Account Letter) (os : List Out) (step : Step) → PostsAt room a os b step → (step ≢ Step.Stop Why.Stuck) × (step ≢ Step.Stop Why.Fell)
at_guard room a b os step f = not_guard step (free_posts os f.posts step f.posted)

-- ---- steps and reasons

pub why_stop : (step : Step) (why : Option Why) (y : Why) → why ≡ why_of step → why ≡ Some y → step ≡ Step.Stop y
why_stop Step.On why y e is = absurd (let g = sym e ∙ is in cc)
why_stop Step.Over why y e is = absurd (let g = sym e ∙ is in cc)
why_stop (Step.Stop w) why y e is = let g = sym e ∙ is in cc

pub free_bids : (step : Step) (why : Option Why) → GuardFree step → why ≡ why_of step → why ≢ Some Why.Bids
free_bids step why free e is = subst GuardFree (why_stop step why Why.Bids e is) free

pub first_ended : (x y : Step) → x ≢ Step.On → x ≡ first_step x y
first_ended Step.On y ne = absurd (ne refl)
first_ended Step.Over y ne = refl
first_ended (Step.Stop why) y ne = refl
