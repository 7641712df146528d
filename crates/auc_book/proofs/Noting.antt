-- What is kept by a call that is counted and noted.
use Rattle.std.proofs.Common.{◌≡◌, ℕ, ◌+◌, ◌<◌, List, [], ◌∷◌, ◌++◌, length, true, refl, ap, sym, ◌∙◌, subst, arith, All, length-append}
use Rattle.std.proofs.lemmas.List.{map_push, length-replicate}
use Rattle.std.proofs.lemmas.List.Elements.{All-push, All-weaker, All-nil}
use Rattle.auc_mail.specs.declared.call.Call.{Call}
use Rattle.auc_mail.specs.declared.call.Reply.{Reply}
use Rattle.auc_mail.specs.Mail.{Mail, IsEmpty, empty_mail}
use Rattle.auc_mail.specs.Step.{Step}
use Rattle.auc_mail.specs.Run.{Run}
use Rattle.auc_mail.proofs.StepLaws.{SameShape, step_shape}
use Rattle.auc_mail.proofs.RunLaws.{run_more}
use Rattle.auc_book.specs.declared.line.TrailLine.{TrailLine}
use Rattle.auc_book.specs.Trail.{events_of, IsOwn}
use Rattle.auc_book.specs.State.{IsNoted, start_of}

-- an empty mail is one of its own numbers
pub empty_is : {T : Type 0} (boxes senders nodes most : ℕ) → IsEmpty (empty_mail {T = T} boxes senders nodes most)
empty_is {T} boxes senders nodes most = ap (λ (b : ℕ). empty_mail {T = T} b senders nodes most) (sym (length-replicate boxes true))

-- a step keeps the numbers, so the start stays
pub start_same : {T : Type 0} (x y : Mail T) → SameShape x y → start_of y ≡ start_of x
start_same {T} x y s =
    ap (λ (b : ℕ). empty_mail b y.senders y.nodes y.most) s.boxes
    ∙ (ap (λ (n : ℕ). empty_mail (length x.accepting) n y.nodes y.most) s.senders
    ∙ (ap (λ (n : ℕ). empty_mail (length x.accepting) x.senders n y.most) s.nodes
    ∙ ap (λ (n : ℕ). empty_mail (length x.accepting) x.senders x.nodes n) s.most))

own_same : {T : Type 0} (x y : Mail T) (trail : List (TrailLine T)) → SameShape x y
    → All (λ l. (l.worker < x.senders) × IsOwn l.worker l.call) trail → All (λ l. (l.worker < y.senders) × IsOwn l.worker l.call) trail
own_same {T} x y trail s own =
    All-weaker (λ (l : TrailLine T). (l.worker < x.senders) × IsOwn l.worker l.call) (λ l. (l.worker < y.senders) × IsOwn l.worker l.call)
    (λ l p. (omega (arith, p.0, s.senders), p.1)) trail own

-- where there is room, the trail has one line more
pub noted_keeps : {T : Type 0} (x y : Mail T) (c : Call T) (r : Reply T) (k count room : ℕ) (trail : List (TrailLine T))
    → IsNoted (record { mail = x; count = count; room = room; trail = trail }) → Step x c r y → k < x.senders → IsOwn k c → length trail < room
    → IsNoted (record { mail = y; count = count + 1; room = room; trail = trail ++ record { worker = k; call = c; reply = r } ∷ [] })
noted_keeps {T} x y c r k count room trail kept step hk own free =
    let shape = step_shape x y c r step in
    let line : TrailLine T = record { worker = k; call = c; reply = r } in
    record {
      run = λ some.
          let es : events_of (trail ++ line ∷ []) ≡ events_of trail ++ (c, r) ∷ [] = map_push (λ (l : TrailLine T). (l.call, l.reply)) trail line in
          let more = run_more (start_of x) (events_of trail) x y c r (kept.run some) step in
          subst (λ (m : Mail T). Run m (events_of (trail ++ line ∷ [])) y) (sym (start_same x y shape))
          (subst (λ (w : List (Call T × Reply T)). Run (start_of x) w y) (sym es) more);
      counted = λ some. omega (arith, kept.counted some, length-append trail (line ∷ []));
      fits = omega (arith, length-append trail (line ∷ []));
      own = All-push (λ (l : TrailLine T). (l.worker < y.senders) × IsOwn l.worker l.call) trail line (own_same x y trail shape kept.own) (omega (arith, shape.senders), own);
    }

-- nothing is noted yet
pub new_keeps : {T : Type 0} (mail : Mail T) (room : ℕ) (trail : List (TrailLine T)) → IsEmpty mail → trail ≡ []
    → IsNoted (record { mail = mail; count = 0; room = room; trail = trail })
new_keeps {T} mail room trail empty none =
    rw none (record {
      run = λ some. empty;
      counted = λ some. refl;
      fits = omega arith;
      own = All-nil (λ (l : TrailLine T). (l.worker < mail.senders) × IsOwn l.worker l.call);
    })
