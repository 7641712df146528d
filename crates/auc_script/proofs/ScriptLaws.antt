-- The calls of a text, one by one.
use Rattle.std.proofs.Common.{◌≡◌, ℕ, zero, suc, ◌-◌, ◌<◌, ◌≤◌, List, [], ◌∷◌, ◌++◌, length, Result, Ok, Err, refl, sym, ap, ◌∙◌, arith, append_assoc}
use Rattle.std.specs.Prelude.{ℤ}
use Rattle.std.proofs.lemmas.List.{append-nil, length-append}
use Rattle.auc_mail.specs.declared.call.Call.{Call}
use Rattle.auc_script.specs.declared.script_error.ScriptError.{ScriptError}
use Rattle.auc_script.specs.declared.script_error.ScriptError.TheVariants.{TooManyCalls}
use Rattle.auc_script.specs.Script.{◌>>=◌, ReadCall, call_at, calls_from}

abbrev ok : List (Call ℤ) → Result (List (Call ℤ)) ScriptError
ok calls = Ok calls

-- calls that come before those that are read
abbrev pub in_front : List (Call ℤ) → Result (List (Call ℤ)) ScriptError → Result (List (Call ℤ)) ScriptError
in_front front read = read >>= λ others. Ok (front ++ others)

abbrev behind : ℕ → ℕ → ℕ → ReadCall → Result (List (Call ℤ)) ScriptError
behind left boxes senders call = calls_from left boxes senders call.0.1 call.1 >>= λ others. Ok (call.0.0 ∷ others)

step : (left boxes senders k : ℕ) (word : List ℕ) (more : List (List ℕ)) → calls_from (suc left) boxes senders k (word ∷ more) ≡ (call_at boxes senders k word more >>= behind left boxes senders)
unfolding calls_from
step left boxes senders k word more = refl

regroup : (front : List (Call ℤ)) (call : Call ℤ) (r : Result (List (Call ℤ)) ScriptError) → in_front front (r >>= λ others. Ok (call ∷ others)) ≡ in_front (front ++ call ∷ []) r
regroup front call (Ok others) = ap (λ (xs : List (Call ℤ)). ok xs) (sym (append_assoc front (call ∷ []) others))
regroup front call (Err e) = refl

one_step : (limit left boxes senders k : ℕ) (xs : List (List ℕ)) (word : List ℕ) (more : List (List ℕ)) → xs ≡ word ∷ more → limit ≡ suc left → calls_from limit boxes senders k xs ≡ (call_at boxes senders k word more >>= behind left boxes senders)
one_step limit left boxes senders k xs word more is some =
    ap (calls_from limit boxes senders k) is ∙ ap (λ (n : ℕ). calls_from n boxes senders k (word ∷ more)) some ∙ step left boxes senders k word more

pub goes_on : (limit boxes senders k : ℕ) (front : List (Call ℤ)) (xs : List (List ℕ)) (word : List ℕ) (more : List (List ℕ)) (call : Call ℤ) (next : ℕ) (rest : List (List ℕ)) (total : Result (List (Call ℤ)) ScriptError)
    → xs ≡ word ∷ more → length front < limit → call_at boxes senders k word more ≡ Ok ((call, next), rest) → in_front front (calls_from (limit - length front) boxes senders k xs) ≡ total
    → in_front (front ++ call ∷ []) (calls_from (limit - length (front ++ call ∷ [])) boxes senders next rest) ≡ total
goes_on limit boxes senders k front xs word more call next rest total is lt here told =
    let left : ℕ = limit - length (front ++ call ∷ []) in
    let some : limit - length front ≡ suc (limit - length (front ++ call ∷ [])) = omega (arith, length-append front (call ∷ [])) in
    let e : calls_from (limit - length front) boxes senders k xs ≡ behind (limit - length (front ++ call ∷ [])) boxes senders ((call, next), rest) =
    one_step (limit - length front) (limit - length (front ++ call ∷ [])) boxes senders k xs word more is some ∙ rw here refl in
    sym (regroup front call (calls_from (limit - length (front ++ call ∷ [])) boxes senders next rest)) ∙ ap (in_front front) (sym e) ∙ told

pub is_full : (limit boxes senders k : ℕ) (front : List (Call ℤ)) (xs : List (List ℕ)) (word : List ℕ) (more : List (List ℕ)) (total : Result (List (Call ℤ)) ScriptError)
    → xs ≡ word ∷ more → limit ≤ length front → in_front front (calls_from (limit - length front) boxes senders k xs) ≡ total → total ≡ Err TooManyCalls
unfolding calls_from
is_full limit boxes senders k front xs word more total is le told =
    let none : limit - length front ≡ zero = omega arith in
    let e : calls_from (limit - length front) boxes senders k xs ≡ Err TooManyCalls = ap (calls_from (limit - length front) boxes senders k) is ∙ ap (λ (n : ℕ). calls_from n boxes senders k (word ∷ more)) none in
    sym told ∙ ap (in_front front) e

pub fails : (limit boxes senders k : ℕ) (front : List (Call ℤ)) (xs : List (List ℕ)) (word : List ℕ) (more : List (List ℕ)) (e : ScriptError) (total : Result (List (Call ℤ)) ScriptError)
    → xs ≡ word ∷ more → length front < limit → call_at boxes senders k word more ≡ Err e → in_front front (calls_from (limit - length front) boxes senders k xs) ≡ total → total ≡ Err e
fails limit boxes senders k front xs word more e total is lt here told =
    let some : limit - length front ≡ suc (limit - length front - 1) = omega arith in
    let f : calls_from (limit - length front) boxes senders k xs ≡ Err e = one_step (limit - length front) (limit - length front - 1) boxes senders k xs word more is some ∙ rw here refl in
    sym told ∙ ap (in_front front) f

pub is_done : (limit boxes senders k : ℕ) (front : List (Call ℤ)) (xs : List (List ℕ)) (total : Result (List (Call ℤ)) ScriptError) → xs ≡ [] → in_front front (calls_from (limit - length front) boxes senders k xs) ≡ total → total ≡ Ok front
unfolding calls_from
is_done limit boxes senders k front xs total is told =
    let e : calls_from (limit - length front) boxes senders k xs ≡ ok [] = ap (calls_from (limit - length front) boxes senders k) is in
    sym told ∙ ap (in_front front) e ∙ ap (λ (ys : List (Call ℤ)). ok ys) (append-nil front)
