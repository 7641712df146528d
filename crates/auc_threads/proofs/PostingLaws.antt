-- The posts of a worker, one letter after another.
use Rattle.std.proofs.Common.{◌≡◌, ◌≢◌, ◌⊎◌, ℕ, ◌<◌, not, Bool, true, false, cond, List, [], ◌∷◌, ◌++◌, length, length-append, ◌≤◌, Some, None, refl, ap, sym, ◌∙◌, subst, inl, inr, arith, All, get_or}
use Rattle.std.specs.Prelude.{Option, Result, Ok, Err, is_err}
use Rattle.std.proofs.lemmas.List.Elements.{All-head, All-tail, filter-append}
use Rattle.auc_letters.specs.declared.letter.Letter.{Letter}
use Rattle.auc_letters.specs.declared.letter.Why.{Why}
use Rattle.auc_letters.specs.declared.out.Out.{Out}
use Rattle.auc_letters.specs.declared.out.To.{To}
use Rattle.auc_letters.specs.Routing.{to_hub}
use Rattle.auc_mail.specs.declared.call.Call.{Call}
use Rattle.auc_mail.specs.declared.call.Reply.{Reply}
use Rattle.auc_book.specs.declared.error.CallRefused.{CallRefused}
use Rattle.auc_book.specs.declared.error.CallRefused.TheVariants as refused
use Rattle.auc_book.specs.declared.error.TrailFull.{TrailFull}
use Rattle.auc_book.specs.Replies.{close_reply, post_reply}
use Rattle.auc_book.specs.Seat.{Account, SeatCalls}
use Rattle.auc_model.specs.Mails.{box_of}
use Rattle.auc_phases.specs.Boxes.{Reaches, boxes_in, name_of}
use Rattle.auc_threads.specs.declared.calls.Step.{Step}
use Rattle.auc_threads.specs.Taking.{GoesWithin}
use Rattle.auc_threads.proofs.CallingLaws.{makes_as, makes_call, makes_none, makes_then}
use Rattle.auc_threads.specs.Calling.{Makes, lines_by, lines_made}
use Rattle.auc_threads.specs.Worker.{Accounts, Rooms}
use Rattle.auc_threads.specs.Posting.{Ends, IsLastPost, Posts, PostsAt, Says, Sent, calls_sent, calls_stopped, is_to_hub, post_of, step_after, step_of, to_shards, to_the_hub}

pub sent_append : (k : ℕ) (xs ys : List Sent) → calls_sent k (xs ++ ys) ≡ calls_sent k xs ++ calls_sent k ys
sent_append k [] ys = refl
sent_append k (x ∷ xs) ys = ap (λ w. record { call = post_of k x.out; reply = post_reply x.answer } ∷ w) (sent_append k xs ys)

-- posts of the same worker, one after another
pub makes_sent : (room : ℕ) (a b c : Account Letter) (xs ys : List Sent) → Makes room a (calls_sent a.worker xs) b → Makes room b (calls_sent b.worker ys) c → Makes room a (calls_sent a.worker (xs ++ ys)) c
makes_sent room a b c xs ys f g =
    let more : Makes room b (calls_sent a.worker ys) c = subst (λ (k : ℕ). Makes room b (calls_sent k ys) c) f.worker g in
    makes_as room a c _ _ (sym (sent_append a.worker xs ys)) (makes_then room a b c (calls_sent a.worker xs) (calls_sent a.worker ys) f more)

-- ---- posts

-- whether one post ends the worker
abbrev no_posts : List Sent
no_posts = []

abbrev OneEnd : Sent → Step → Type 0
OneEnd x step = ((step_of x ≡ Step.On) × (step ≡ Step.On)) ⊎ IsLastPost x no_posts step

on_or_not : (x : Sent) (step s : Step) → step ≡ step_of x → step_of x ≡ s → OneEnd x step
on_or_not x step Step.On is h = inl (h, is ∙ h)
on_or_not x step Step.Over is h = inr (record { ends = λ on. (let e : Step.Over ≡ Step.On = sym h ∙ on in cc); last = refl; step_is = is })
on_or_not x step (Step.Stop why) is h = inr (record { ends = λ on. (let e : Step.Stop why ≡ Step.On = sym h ∙ on in cc); last = refl; step_is = is })

pub posts_one : (o : Out) (x : Sent) (step : Step) → x.out ≡ o → step ≡ step_of x → Posts (o ∷ []) (x ∷ []) step
posts_one o x step e is = (e, on_or_not x step (step_of x) is refl)

pub posts_then : (os ps : List Out) (xs ys : List Sent) (step : Step) → Posts os xs Step.On → Posts ps ys step → Posts (os ++ ps) (xs ++ ys) step
posts_then [] ps [] ys step f g = g
posts_then [] ps (x ∷ xs) ys step f g = absurd f
posts_then (o ∷ os) ps [] ys step f g = absurd f
posts_then (o ∷ os) ps (x ∷ xs) ys step f g = (
  f.0,
  elim f.1 [
    | inl on ↦ inl (on.0, posts_then os ps xs ys step on.1 g)
    | inr end ↦ absurd (end.ends (sym end.step_is))
  ],
)

pub posts_ended : (os ps : List Out) (xs : List Sent) (step : Step) → step ≢ Step.On → Posts os xs step → Posts (os ++ ps) xs step
posts_ended [] ps [] step ne f = absurd (ne f)
posts_ended [] ps (x ∷ xs) step ne f = absurd f
posts_ended (o ∷ os) ps [] step ne f = absurd f
posts_ended (o ∷ os) ps (x ∷ xs) step ne f = (
  f.0,
  elim f.1 [
    | inl on ↦ inl (on.0, posts_ended os ps xs step ne on.1)
    | inr end ↦ inr end
  ],
)

-- ---- how many

pub posts_long : (os : List Out) (xs : List Sent) (step : Step) → Posts os xs step → length xs ≤ length os
posts_long [] [] step f = omega arith
posts_long [] (x ∷ xs) step f = absurd f
posts_long (o ∷ os) [] step f = absurd f
posts_long (o ∷ os) (x ∷ xs) step f = elim f.1 [
  | inl on ↦ (let h = posts_long os xs step on.1 in omega (arith, h))
  | inr end ↦ omega (arith, ap length end.last)
]

line_few : (k : ℕ) (c : Call Letter) (r : Option (Reply Letter)) → length (lines_by k c r) ≤ 1
line_few k c None = omega arith
line_few k c (Some r) = omega arith

pub sent_long : (k : ℕ) (xs : List Sent) → length (lines_made k (calls_sent k xs)) ≤ length xs
sent_long k [] = omega arith
sent_long k (x ∷ xs) =
    let h = sent_long k xs in
    omega (arith, h, line_few k (post_of k x.out) (post_reply x.answer), length-append (lines_by k (post_of k x.out) (post_reply x.answer)) (lines_made k (calls_sent k xs)))

one_line : (k : ℕ) (c : Call Letter) (x : Letter) (r : Result ℕ CallRefused) → step_after x r ≡ Step.On → length (lines_by k c (post_reply r)) ≡ 1
one_line k c x (Ok n) e = refl
one_line k c x (Err refused.TrailFull) e = absurd cc
one_line k c x (Err refused.Closed) e = refl
one_line k c x (Err refused.Spent) e = refl
one_line k c x (Err refused.Full) e = refl

-- where the worker goes on, each post has its line
pub sent_full : (k : ℕ) (os : List Out) (xs : List Sent) → Posts os xs Step.On → length (lines_made k (calls_sent k xs)) ≡ length os
sent_full k [] [] f = refl
sent_full k [] (x ∷ xs) f = absurd f
sent_full k (o ∷ os) [] f = absurd f
sent_full k (o ∷ os) (x ∷ xs) f = elim f.1 [
  | inl on ↦ (
      let h = sent_full k os xs on.1 in
      omega (arith, h, one_line k (post_of k x.out) x.out.letter x.answer on.0, length-append (lines_by k (post_of k x.out) (post_reply x.answer)) (lines_made k (calls_sent k xs))))
  | inr end ↦ absurd (end.ends (sym end.step_is))
]

-- ---- at one mail

pub at_none : (room : ℕ) (a : Account Letter) → PostsAt room a [] a Step.On
at_none room a = record { posts = []; posted = refl; makes = makes_none room a }

pub at_one : (room : ℕ) (a b : Account Letter) (o : Out) (answer : Result ℕ CallRefused) (step : Step) → SeatCalls room a (post_of a.worker o) (post_reply answer) b → step ≡ step_after o.letter answer → PostsAt room a (o ∷ []) b step
at_one room a b o answer step h is =
    let x : Sent = record { out = o; answer = answer } in
    record {
      posts = x ∷ [];
      posted = posts_one o x step refl is;
      makes = makes_call room a b (post_of a.worker o) (post_reply answer) h;
    }

pub at_then : (room : ℕ) (a b c : Account Letter) (os ps : List Out) (step : Step) → PostsAt room a os b Step.On → PostsAt room b ps c step → PostsAt room a (os ++ ps) c step
at_then room a b c os ps step f g = record {
  posts = f.posts ++ g.posts;
  posted = posts_then os ps f.posts g.posts step f.posted g.posted;
  makes = makes_sent room a b c f.posts g.posts f.makes g.makes;
}

pub at_ended : (room : ℕ) (a b : Account Letter) (os ps : List Out) (step : Step) → step ≢ Step.On → PostsAt room a os b step → PostsAt room a (os ++ ps) b step
at_ended room a b os ps step ne f = record { posts = f.posts; posted = posts_ended os ps f.posts step ne f.posted; makes = f.makes }

pub at_as : (room : ℕ) (a b : Account Letter) (os ps : List Out) (step : Step) → os ≡ ps → PostsAt room a os b step → PostsAt room a ps b step
at_as room a b os ps step e f = subst (λ ws. PostsAt room a ws b step) e f

-- ---- at the persons' mail and the hub's

pub says_none : (r : Rooms) (a : Accounts) → Says r a [] a Step.On
says_none r a = record { posts = []; posted = refl; persons = makes_none r.persons a.persons; hub = makes_none r.hub a.hub }

-- with this seat at the persons' mail, and at the objects' one any
abbrev with_persons : Accounts → Account Letter → Account Letter → Accounts
with_persons a p o = record { objects = o; persons = p; hub = a.hub }

-- letters of which none goes to the hub
shards_only : (os : List Out) (xs : List Sent) (step : Step) → All (λ o. is_to_hub o.to ≡ false) os → Posts os xs step → (to_shards xs ≡ xs) × (to_the_hub xs ≡ [])
shards_only [] [] step others f = (refl, refl)
shards_only [] (x ∷ xs) step others f = absurd f
shards_only (o ∷ os) [] step others f = absurd f
shards_only (o ∷ os) (x ∷ xs) step others f =
    let test : is_to_hub x.out.to ≡ false = ap (λ (u : Out). is_to_hub u.to) f.0 ∙ All-head (λ (u : Out). is_to_hub u.to ≡ false) o os others in
    let rest : (to_shards xs ≡ xs) × (to_the_hub xs ≡ []) =
    elim f.1 [
      | inl on ↦ shards_only os xs step (All-tail (λ (u : Out). is_to_hub u.to ≡ false) o os others) on.1
      | inr end ↦ (ap to_shards end.last ∙ sym end.last, ap to_the_hub end.last)
    ] in (
      ap (λ b. cond (not b) (x ∷ to_shards xs) (to_shards xs)) test ∙ ap (λ w. x ∷ w) rest.0,
      ap (λ b. cond b (x ∷ to_the_hub xs) (to_the_hub xs)) test ∙ rest.1,
    )

pub says_shards : (r : Rooms) (a : Accounts) (p' q : Account Letter) (os : List Out) (step : Step) → All (λ o. is_to_hub o.to ≡ false) os → PostsAt r.persons a.persons os p' step → Says r a os (with_persons a p' q) step
says_shards r a p' q os step others f =
    let p = a.persons in
    let h = a.hub in
    let rp = r.persons in
    let rh = r.hub in
    let only = shards_only os f.posts step others f.posted in
    record {
      posts = f.posts;
      posted = f.posted;
      persons = makes_as rp p p' (calls_sent p.worker f.posts) (calls_sent p.worker (to_shards f.posts)) (ap (calls_sent p.worker) (sym only.0)) f.makes;
      hub = makes_as rh h h [] (calls_sent h.worker (to_the_hub f.posts)) (ap (calls_sent h.worker) (sym only.1)) (makes_none rh h);
    }

within_to : (shards : ℕ) (to : To) → is_to_hub to ≡ false → box_of to < boxes_in shards (name_of to) → box_of to < shards
within_to shards To.Hub e l = absurd cc
within_to shards (To.Person s) e l = l
within_to shards (To.Object q) e l = l

pub within_shards : (boxes shards : ℕ) (os : List Out) → boxes ≡ shards → All (Reaches shards) os → All (λ o. is_to_hub o.to ≡ false) os → All (GoesWithin boxes) os
within_shards boxes shards os e reach others k d l = subst (λ (n : ℕ). box_of (get_or os k d).to < n) (sym e) (within_to shards (get_or os k d).to (others k d l) (reach k d l))

pub says_then : (r : Rooms) (a b c : Accounts) (os ps : List Out) (step : Step) → Says r a os b Step.On → Says r b ps c step → Says r a (os ++ ps) c step
says_then r a b c os ps step f g =
    let p = a.persons in
    let h = a.hub in
    let shards : to_shards (f.posts ++ g.posts) ≡ to_shards f.posts ++ to_shards g.posts = filter-append (λ x. not (is_to_hub x.out.to)) f.posts g.posts in
    let hubs : to_the_hub (f.posts ++ g.posts) ≡ to_the_hub f.posts ++ to_the_hub g.posts = filter-append (λ x. is_to_hub x.out.to) f.posts g.posts in
    record {
      posts = f.posts ++ g.posts;
      posted = posts_then os ps f.posts g.posts step f.posted g.posted;
      persons = makes_as r.persons p c.persons (calls_sent p.worker (to_shards f.posts ++ to_shards g.posts)) (calls_sent p.worker (to_shards (f.posts ++ g.posts))) (ap (calls_sent p.worker) (sym shards)) (makes_sent r.persons p b.persons c.persons (to_shards f.posts) (to_shards g.posts) f.persons g.persons);
      hub = makes_as r.hub h c.hub (calls_sent h.worker (to_the_hub f.posts ++ to_the_hub g.posts)) (calls_sent h.worker (to_the_hub (f.posts ++ g.posts))) (ap (calls_sent h.worker) (sym hubs)) (makes_sent r.hub h b.hub c.hub (to_the_hub f.posts) (to_the_hub g.posts) f.hub g.hub);
    }

pub says_ended : (r : Rooms) (a b : Accounts) (os ps : List Out) (step : Step) → step ≢ Step.On → Says r a os b step → Says r a (os ++ ps) b step
says_ended r a b os ps step ne f = record { posts = f.posts; posted = posts_ended os ps f.posts step ne f.posted; persons = f.persons; hub = f.hub }

pub says_as : (r : Rooms) (a b : Accounts) (os ps : List Out) (step : Step) → os ≡ ps → Says r a os b step → Says r a ps b step
says_as r a b os ps step e f = subst (λ ws. Says r a ws b step) e f

-- ---- the end

pub ends_told : (room : ℕ) (a b : Account Letter) (why : Why) (n : ℕ) → SeatCalls room a (post_of a.worker (to_hub (Letter.Stop why))) (post_reply (Ok n)) b → Ends room a (Step.Stop why) b
ends_told room a b why n h = record {
  calls = calls_stopped a.worker why (Ok n) (Ok false);
  makes = makes_call room a b (post_of a.worker (to_hub (Letter.Stop why))) (post_reply (Ok n)) h;
  are = (Ok n, Ok false, refl);
}

pub ends_closed : (room : ℕ) (a b c : Account Letter) (why : Why) (e : CallRefused) (closed : Result Bool TrailFull) → SeatCalls room a (post_of a.worker (to_hub (Letter.Stop why))) (post_reply (Err e)) b → SeatCalls room b (Call.Close 0) (close_reply closed) c → Ends room a (Step.Stop why) c
ends_closed room a b c why e closed f g =
    let posted = makes_call room a b (post_of a.worker (to_hub (Letter.Stop why))) (post_reply (Err e)) f in
    let shut = makes_call room b c (Call.Close 0) (close_reply closed) g in
    record {
      calls = calls_stopped a.worker why (Err e) closed;
      makes = makes_then room a b c _ _ posted shut;
      are = (Err e, closed, refl);
    }

-- ---- whether the post of a Stop was refused

pub ends_ok : (room : ℕ) (a b : Account Letter) (why : Why) (r : Result ℕ CallRefused) → is_err r ≡ false → SeatCalls room a (post_of a.worker (to_hub (Letter.Stop why))) (post_reply r) b → Ends room a (Step.Stop why) b
ends_ok room a b why (Ok n) e h = ends_told room a b why n h
ends_ok room a b why (Err x) e h = absurd cc

pub ends_err : (room : ℕ) (a b c : Account Letter) (why : Why) (r : Result ℕ CallRefused) (closed : Result Bool TrailFull) → is_err r ≡ true → SeatCalls room a (post_of a.worker (to_hub (Letter.Stop why))) (post_reply r) b → SeatCalls room b (Call.Close 0) (close_reply closed) c → Ends room a (Step.Stop why) c
ends_err room a b c why (Ok n) closed e f g = absurd cc
ends_err room a b c why (Err x) closed e f g = ends_closed room a b c why x closed f g
