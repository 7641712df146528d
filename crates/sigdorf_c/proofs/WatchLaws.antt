-- What a C program is told of its watch.
use Rattle.std.proofs.Common.{Bool, true, false, ◌≡◌, ◌≢◌, ◌⊎◌, inl, inr, ℕ, zero, suc, ◌==◌, ap, ◌∙◌, arith}
use Rattle.std.proofs.lemmas.Bool.{false≢true}
use Rattle.std.specs.Prelude.{if◌then◌else◌, not}
use Rattle.auc_call.specs.Limited.{UnlessStopped}

abbrev flag : Bool → ℕ
flag has_stopped = if has_stopped then 1 else 0

-- 1 stands for a no
pub stop_told : {Stop Holds : Type 0} (has_stopped : Bool) (stopped : ℕ) → stopped ≡ flag has_stopped → UnlessStopped has_stopped Stop Holds → ((stopped ≡ 1) × Stop) ⊎ Holds
stop_told has_stopped stopped is (inl told) = inl (is ∙ ap flag told.0, told.1)
stop_told has_stopped stopped is (inr holds) = inr holds

-- and 0 for none
pub is_flag : (has_stopped : Bool) (stopped : ℕ) → stopped ≡ flag has_stopped → (stopped ≡ 0) ⊎ (stopped ≡ 1)
is_flag true stopped is = inr is
is_flag false stopped is = inl is

-- the number of questions is handed out
pub asked_told : (asked told : ℕ) → told ≡ asked → not (asked == 0) ≡ true → told ≢ 0
asked_told zero told is h = absurd (false≢true h)
asked_told (suc asked) told is h = λ none. absurd (omega (arith, is, none))
