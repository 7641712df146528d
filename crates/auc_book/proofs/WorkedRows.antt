-- Worked examples of the definitions, by computation: one box and two workers, a trail with three places, and the seats
-- that settle with it.
use Rattle.std.proofs.Common.{◌≡◌, ◌≢◌, ℕ, ⊎_elim, inl, true, List, [], ◌∷◌, Some, None, Err, refl, arith}
use Rattle.std.specs.List.{sum_by}
use Rattle.std.proofs.lemmas.List.Elements.{All-cons, All-nil}
use Rattle.auc_mail.specs.declared.call.PostRefused.TheVariants.{Full}
use Rattle.auc_mail.specs.declared.call.Taken.TheVariants.{Letter}
use Rattle.auc_mail.specs.declared.call.Call.TheVariants.{Post, Take}
use Rattle.auc_mail.specs.declared.call.Reply.TheVariants.{Posted, Refused, Took}
use Rattle.auc_mail.specs.Mail.{Lane, Mail, empty_mail}
use Rattle.auc_mail.specs.Run.{Run}
use Rattle.auc_mail.specs.Letters.{sent, handed}
use Rattle.auc_book.specs.declared.error.CallRefused.TheVariants as refused
use Rattle.auc_book.specs.declared.line.TrailLine.{TrailLine}
use Rattle.auc_book.specs.Trail.{events_of}
use Rattle.auc_book.specs.Replies.{post_reply}
use Rattle.auc_book.specs.State.{State, Calls, new_state}
use Rattle.auc_book.specs.Seat.{Account, SeatCalls}
use Rattle.auc_book.specs.Settling.{Agrees, IsUnsettled}
use Rattle.auc_book.specs.declared.error.SettleError.TheVariants.{Missing}

abbrev lane : ℕ → List ℕ → Lane ℕ
lane taken waiting = record { taken = taken; waiting = waiting }

-- the mail with one box and two workers, by its two lanes
abbrev two_lanes : Lane ℕ → Lane ℕ → Mail ℕ
two_lanes l k = record { senders = 2; nodes = 4; most = 9; accepting = true ∷ []; lanes = l ∷ k ∷ [] }

abbrev post_line : ℕ → ℕ → TrailLine ℕ
post_line k x = record { worker = k; call = Post k 0 x 0; reply = Posted 1 }

abbrev take_line : TrailLine ℕ
take_line = record { worker = 0; call = Take 0; reply = Took (Letter 0 1 5) }

-- both workers post, and the first one takes
abbrev three_lines : List (TrailLine ℕ)
three_lines = post_line 0 5 ∷ post_line 1 6 ∷ take_line ∷ []

abbrev state_after : Mail ℕ → ℕ → List (TrailLine ℕ) → State ℕ
state_after mail count lines = record { mail = mail; count = count; room = 3; trail = lines }

abbrev first : Account ℕ
first = record { worker = 0; count = 2; turned_away = 0; lines = post_line 0 5 ∷ take_line ∷ [] }

abbrev second : Account ℕ
second = record { worker = 1; count = 1; turned_away = 0; lines = post_line 1 6 ∷ [] }

-- each call is a call of its worker
pub posts : Calls (new_state 1 2 4 9 3) 0 (Post 0 0 5 0) (Some (Posted 1)) (state_after (two_lanes (lane 0 (5 ∷ [])) (lane 0 [])) 1 (post_line 0 5 ∷ []))
posts = (λ full. absurd (⊎_elim (λ f. omega (arith, f.1)) (λ f. omega (arith, f)) full), record { lane = (omega arith, omega arith); accepts = refl; left = omega arith; free = omega arith; number = refl; next = refl }, refl, refl, refl)

-- at the fourth call no place is left, and nothing changes
pub no_place : Calls (state_after (two_lanes (lane 1 []) (lane 0 (6 ∷ []))) 3 three_lines) 1 (Take 0) None (state_after (two_lanes (lane 1 []) (lane 0 (6 ∷ []))) 3 three_lines)
no_place = (inl (omega arith, omega arith), refl)

-- the trail is a run
pub trail_runs : Run (empty_mail 1 2 4 9) (events_of three_lines) (two_lanes (lane 1 []) (lane 0 (6 ∷ [])))
trail_runs = record {
  mid = two_lanes (lane 0 (5 ∷ [])) (lane 0 []);
  step = record { lane = (omega arith, omega arith); accepts = refl; left = omega arith; free = omega arith; number = refl; next = refl };
  rest = record {
    mid = two_lanes (lane 0 (5 ∷ [])) (lane 0 (6 ∷ []));
    step = record { lane = (omega arith, omega arith); accepts = refl; left = omega arith; free = omega arith; number = refl; next = refl };
    rest = record {
      mid = two_lanes (lane 1 []) (lane 0 (6 ∷ []));
      step = record { box = omega arith; sender = omega arith; number = refl; rest = []; first = refl; next = refl };
      rest = refl;
    };
  };
}

-- each seat's lines are the trail's lines of its worker
pub seats_agree : Agrees three_lines first × Agrees three_lines second
seats_agree = (refl, refl)

-- what was sent and handed out, by the trail and by the seats
pub letters_told : (sent 0 0 (events_of three_lines) ≡ 5 ∷ []) × (sent 0 1 (events_of three_lines) ≡ 6 ∷ []) × (handed 0 0 (events_of three_lines) ≡ 5 ∷ []) × (handed 0 1 (events_of three_lines) ≡ [])
letters_told = (refl, refl, refl, refl)

pub letters_told_by_seats : (sent 0 0 (events_of first.lines) ≡ 5 ∷ []) × (sent 0 1 (events_of second.lines) ≡ 6 ∷ []) × (handed 0 0 (events_of first.lines) ≡ 5 ∷ [])
letters_told_by_seats = (refl, refl, refl)

-- the seats counted the trail's lines together
pub counted_together : sum_by (λ (a : Account ℕ). a.count) (second ∷ first ∷ []) ≡ 3
counted_together = refl

-- without the second seat, its worker's is missing
pub one_missing : IsUnsettled 2 3 (first ∷ []) Missing
one_missing = (omega arith, (1, omega arith, All-cons (λ (a : Account ℕ). a.worker ≢ 1) first [] (λ e. absurd (omega (arith, e))) (All-nil (λ (a : Account ℕ). a.worker ≢ 1))))

-- a refused post is noted in the seat with its refusal; where no place is left, it is counted separately
pub refusals_noted : SeatCalls 3 second (Post 1 0 7 4) (post_reply (Err refused.Full)) (record { worker = 1; count = 2; turned_away = 0; lines = post_line 1 6 ∷ (record { worker = 1; call = Post 1 0 7 4; reply = Refused Full }) ∷ [] })
refusals_noted = (refl, refl, refl, refl)

pub no_place_not_noted : SeatCalls 3 second (Post 1 0 7 0) (post_reply (Err refused.TrailFull)) (record { worker = 1; count = 1; turned_away = 1; lines = post_line 1 6 ∷ [] })
no_place_not_noted = refl
