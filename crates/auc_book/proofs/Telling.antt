-- What the lines of a seat show of what was sent and handed out.
use Rattle.std.proofs.Common.{◌≡◌, ◌≢◌, ⊎_elim, ℕ, ◌<◌, ◌==◌, ◌&&◌, Bool, true, false, cond, List, [], ◌∷◌, ◌++◌, All, ◌∙◌, refl, sym, ap}
use Rattle.std.proofs.lemmas.List.Elements.{All-weaker, All-head, All-tail}
use Rattle.std.proofs.lemmas.Bool.{cases_eq}
use Rattle.auc_mail.specs.declared.call.Taken.TheVariants.{Letter, Empty, Over}
use Rattle.auc_mail.specs.declared.call.Call.{Call}
use Rattle.auc_mail.specs.declared.call.Call.TheVariants.{Post, Take, Close}
use Rattle.auc_mail.specs.declared.call.Reply.{Reply}
use Rattle.auc_mail.specs.declared.call.Reply.TheVariants.{Posted, Refused, Took, WasOpen}
use Rattle.auc_mail.specs.Letters.{sent_by, sent, handed_by, handed}
use Rattle.auc_book.specs.declared.line.TrailLine.{TrailLine}
use Rattle.auc_book.specs.Trail.{lines_of, events_of, IsOwn, IsTakeAt}
use Rattle.auc_book.specs.Seat.{Account}
use Rattle.auc_book.specs.Settling.{Agrees, TellsSent, TellsHanded}
use Rattle.auc_book.proofs.Lines.{is_same, is_other}

and_false : (p : Bool) → (p && false) ≡ false
and_false true = refl
and_false false = refl

-- a call sends nothing in the name of another than its worker
sent_by_other : {T : Type 0} (b k w : ℕ) (c : Call T) (r : Reply T) → IsOwn w c → w ≢ k → sent_by b k c r ≡ []
sent_by_other {T} b k w (Post s b' x n) (Posted m) own ne =
    let other : s ≢ k = λ e. ne (sym own ∙ e) in
    ap (λ q. cond ((b' == b) && q) (x ∷ []) []) (is_other s k other) ∙ ap (λ q. cond q (x ∷ []) []) (and_false (b' == b))
sent_by_other b k w (Post s b' x n) (Refused e) own ne = refl
sent_by_other b k w (Post s b' x n) (Took t) own ne = refl
sent_by_other b k w (Post s b' x n) (WasOpen o) own ne = refl
sent_by_other b k w (Take b') r own ne = refl
sent_by_other b k w (Close b') r own ne = refl

-- and hands nothing out of another box than it takes from
handed_by_other : {T : Type 0} (b k : ℕ) (c : Call T) (r : Reply T) → (IsTakeAt b c → ⊥) → handed_by b k c r ≡ []
handed_by_other b k (Post s b' x n) r other = refl
handed_by_other {T} b k (Take b') (Took (Letter s n x)) other = ap (λ q. cond (q && (s == k)) (x ∷ []) []) (is_other b' b other)
handed_by_other b k (Take b') (Took Empty) other = refl
handed_by_other b k (Take b') (Took Over) other = refl
handed_by_other b k (Take b') (Posted n) other = refl
handed_by_other b k (Take b') (Refused e) other = refl
handed_by_other b k (Take b') (WasOpen o) other = refl
handed_by_other b k (Close b') r other = refl

-- what is gathered from the lines one by one is gathered from one worker's lines, where the others give nothing
gathered : {T : Type 0} (one : TrailLine T → List T) (all_of : List (TrailLine T) → List T) → ((l : TrailLine T) (ls : List (TrailLine T)) → all_of (l ∷ ls) ≡ one l ++ all_of ls)
    → (w : ℕ) (trail : List (TrailLine T)) → All (λ l. l.worker ≢ w → one l ≡ []) trail → all_of trail ≡ all_of (lines_of w trail)
gathered one all_of step w [] none = refl
gathered {T} one all_of step w (l ∷ ls) none =
    let pass : Bool → List (TrailLine T) = λ b. cond b (l ∷ lines_of w ls) (lines_of w ls) in
    let rest = gathered one all_of step w ls (All-tail (λ (l : TrailLine T). l.worker ≢ w → one l ≡ []) l ls none) in
    ⊎_elim
    (λ (e : l.worker ≡ w).
    let here : l ∷ lines_of w ls ≡ lines_of w (l ∷ ls) = sym (ap pass (is_same l.worker w e)) in
    step l ls ∙ (ap (λ x. one l ++ x) rest ∙ (sym (step l (lines_of w ls)) ∙ ap all_of here)))
    (λ (ne : l.worker ≢ w).
    let gone : lines_of w ls ≡ lines_of w (l ∷ ls) = sym (ap pass (is_other l.worker w ne)) in
    step l ls ∙ (ap (λ x. x ++ all_of ls) (All-head (λ (l : TrailLine T). l.worker ≢ w → one l ≡ []) l ls none ne) ∙ (rest ∙ ap all_of gone)))
    (cases_eq l.worker w)

-- so each seat that agrees shows what its worker sent, and what was handed to the worker
pub tells_sent : {T : Type 0} (workers : ℕ) (trail : List (TrailLine T)) → All (λ l. (l.worker < workers) × IsOwn l.worker l.call) trail
    → (a : Account T) → Agrees trail a → TellsSent trail a
tells_sent {T} workers trail own a agrees b =
    let none : All (λ l. l.worker ≢ a.worker → sent_by b a.worker l.call l.reply ≡ []) trail =
    All-weaker (λ (l : TrailLine T). (l.worker < workers) × IsOwn l.worker l.call) (λ l. l.worker ≢ a.worker → sent_by b a.worker l.call l.reply ≡ [])
    (λ l p ne. sent_by_other b a.worker l.worker l.call l.reply p.1 ne) trail own in
    gathered (λ l. sent_by b a.worker l.call l.reply) (λ ls. sent b a.worker (events_of ls)) (λ l ls. refl) a.worker trail none
    ∙ ap (λ ls. sent b a.worker (events_of ls)) agrees

pub tells_handed : {T : Type 0} (trail : List (TrailLine T)) (a : Account T) → Agrees trail a → TellsHanded trail a
tells_handed {T} trail a agrees b k alone =
    let none : All (λ l. l.worker ≢ a.worker → handed_by b k l.call l.reply ≡ []) trail =
    All-weaker (λ (l : TrailLine T). IsTakeAt b l.call → l.worker ≡ a.worker) (λ l. l.worker ≢ a.worker → handed_by b k l.call l.reply ≡ [])
    (λ l p ne. handed_by_other b k l.call l.reply (λ take. ne (p take))) trail alone in
    gathered (λ l. handed_by b k l.call l.reply) (λ ls. handed b k (events_of ls)) (λ l ls. refl) a.worker trail none
    ∙ ap (λ ls. handed b k (events_of ls)) agrees
