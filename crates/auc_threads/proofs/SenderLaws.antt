-- Who posted the bids that a trail holds.
use Rattle.std.proofs.Common.{◌≡◌, ℕ, ◌+◌, ◌-◌, ◌*◌, ◌<◌, ◌≤◌, Bool, cond, List, [], ◌∷◌, Some, None, refl, ap, sym, ◌∙◌, subst, inl, inr, arith, All, get_or}
use Rattle.std.specs.Prelude.{Option, Result}
use Rattle.std.proofs.lemmas.Bool.{cases_eq, cases_lt, eq-eqb, ne_eqb}
use Rattle.std.proofs.lemmas.List.Elements.{All-append, All-cons, All-head, All-nil, All-tail}
use Rattle.auc_letters.specs.declared.letter.Letter.{Letter}
use Rattle.auc_mail.specs.declared.call.Call.{Call}
use Rattle.auc_mail.specs.declared.call.Reply.{Reply}
use Rattle.auc_book.specs.declared.error.TrailFull.{TrailFull}
use Rattle.auc_book.specs.declared.line.TrailLine.{TrailLine}
use Rattle.auc_book.specs.Replies.{close_reply, take_reply}
use Rattle.auc_book.specs.Trail.{IsOwn, lines_of}
use Rattle.auc_model.specs.declared.turn.End.{End}
use Rattle.auc_threads.specs.declared.settling.Trails.{Trails}
use Rattle.auc_threads.specs.Calling.{lines_by, lines_made}
use Rattle.auc_threads.specs.Taking.{Answer, calls_taken}
use Rattle.auc_threads.specs.Counting.{calls_closed}
use Rattle.auc_threads.specs.Phase.{IsPost}
use Rattle.auc_threads.specs.Worked.{AreWorked}
use Rattle.auc_threads.specs.Worker.{Setting}

abbrev NoPost : TrailLine Letter → Type 0
NoPost l = IsPost l.call → ⊥

-- takes and closes post nothing
none_by : (k : ℕ) (c : Call Letter) (r : Option (Reply Letter)) → (IsPost c → ⊥) → All NoPost (lines_by k c r)
none_by k c None never = All-nil NoPost
none_by k c (Some r) never = All-cons NoPost (record { worker = k; call = c; reply = r }) [] never (All-nil NoPost)

none_taken : (k at : ℕ) (rs : List Answer) → All NoPost (lines_made k (calls_taken at rs))
none_taken k at [] = All-nil NoPost
none_taken k at (r ∷ rs) = All-append NoPost (lines_by k (Call.Take at) (take_reply r)) (lines_made k (calls_taken at rs)) (none_by k (Call.Take at) (take_reply r) (λ p. p)) (none_taken k at rs)

none_closed : (k b : ℕ) (rs : List (Result Bool TrailFull)) → All NoPost (lines_made k (calls_closed b rs))
none_closed k b [] = All-nil NoPost
none_closed k b (r ∷ rs) =
    All-append NoPost (lines_by k (Call.Close b) (close_reply r)) (lines_made k (calls_closed (b + 1) rs)) (none_by k (Call.Close b) (close_reply r) (λ p. p)) (none_closed k (b + 1) rs)

-- what holds of a worker's lines holds of each line of the trail that is its own
module _ (w : ℕ) where
  abbrev IsTheirs : TrailLine Letter → Type 0
  IsTheirs l = l.worker ≡ w → NoPost l

  of_lines : (trail : List (TrailLine Letter)) → All NoPost (lines_of w trail) → All IsTheirs trail
  of_lines [] all = All-nil IsTheirs
  of_lines (l ∷ ls) all =
      elim (cases_eq l.worker w) [
        | inl here ↦ (
            let kept : All NoPost (l ∷ lines_of w ls) = subst (λ (b : Bool). All NoPost (cond b (l ∷ lines_of w ls) (lines_of w ls))) (eq-eqb l.worker w here) all in
            All-cons IsTheirs l ls (λ e. All-head NoPost l (lines_of w ls) kept) (of_lines ls (All-tail NoPost l (lines_of w ls) kept)))
        | inr there ↦ (
            let kept : All NoPost (lines_of w ls) = subst (λ (b : Bool). All NoPost (cond b (l ∷ lines_of w ls) (lines_of w ls))) (ne_eqb l.worker w there) all in
            All-cons IsTheirs l ls (λ e. absurd (there e)) (of_lines ls kept))
      ]

-- only the person workers post at the objects' mail
module _ (g : Setting) (trails : Trails) (bids : List ℕ) (end : Option End) (some : 0 < g.limits.audit) (worked : AreWorked g trails bids end) where
  none_of_others : (w : ℕ) → g.limits.shards ≤ w → w < 2 * g.limits.shards + 1 → All NoPost (lines_of w trails.objects)
  none_of_others w from below =
      elim (cases_lt w (2 * g.limits.shards)) [
        | inl shard ↦ (
            let k = w - g.limits.shards in
            let seller = worked.sellers k (omega (arith, from, shard)) in
            let noted = seller.noted.at_objects in
            let took = seller.work.serves.deals.took in
            let whose : g.limits.shards + k ≡ w = omega (arith, from) in
            let lines : lines_of w trails.objects ≡ lines_made (g.limits.shards + k) (calls_taken k took.answers) =
            ap (λ (m : ℕ). lines_of m trails.objects) (sym (noted.worker ∙ whose)) ∙ (noted.lines ∙ took.makes.told some) in
            subst (λ ls. All NoPost ls) (sym lines) (none_taken (g.limits.shards + k) k took.answers))
        | inr last ↦ (
            let closes = worked.hub.objects_closed in
            let noted = worked.hub.noted.at_objects in
            let whose : 2 * g.limits.shards ≡ w = omega (arith, last, below) in
            let lines : lines_of w trails.objects ≡ lines_made (2 * g.limits.shards) (calls_closed 0 closes.answers) =
            ap (λ (m : ℕ). lines_of m trails.objects) (sym (noted.worker ∙ whose)) ∙ (noted.lines ∙ closes.makes.told some) in
            subst (λ ls. All NoPost ls) (sym lines) (none_closed (2 * g.limits.shards) 0 closes.answers))
      ]

  pub persons_post : All (λ l. (l.worker < 2 * g.limits.shards + 1) × IsOwn l.worker l.call) trails.objects → All (λ l. IsPost l.call → l.worker < g.limits.shards) trails.objects
  persons_post own k d low = λ post.
      elim (cases_lt (get_or trails.objects k d).worker g.limits.shards) [
        | inl person ↦ person
        | inr other ↦ absurd (of_lines _ trails.objects (none_of_others _ (omega (arith, other)) ((own k d low).0)) k d low refl post)
      ]
