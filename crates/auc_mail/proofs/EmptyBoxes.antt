-- Boxes in which no letter waits.
use Rattle.std.proofs.Common.{ℕ, ◌<◌, ◌≡◌, length, arith}
use Rattle.std.specs.List.{range_with_len}
use Rattle.std.proofs.lemmas.List.{nil_from_length}
use Rattle.std.proofs.lemmas.List.Sums.{sum-map, get_or-le-sum_by}
use Rattle.auc_mail.specs.Mail.{Mail, NothingWaits, lane_of, waiting_at}
use Rattle.auc_mail.proofs.Tables.{table, length-table, get_or-table}

-- in a box that has no letter, none waits of any sender
pub none_waits_at : {T : Type 0} (m : Mail T) (b : ℕ) → waiting_at m b ≡ 0 → NothingWaits m b
none_waits_at {T} m b none s hs =
    let f : ℕ → ℕ = λ s. length (lane_of m b s).waiting in
    let lt : s < length (table f m.senders) = omega (arith, hs, length-table f m.senders) in
    nil_from_length (lane_of m b s).waiting (omega (arith, get_or-le-sum_by (λ (n : ℕ). n) (table f m.senders) s 0 lt, get_or-table f m.senders s 0 hs, sum-map f (range_with_len 0 m.senders), none))
