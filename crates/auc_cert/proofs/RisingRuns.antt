-- Lines of rising numbers: how a run of them grows, and where it breaks off.
use Rattle.std.proofs.Common.{◌≡◌, ℕ, ◌+◌, ◌-◌, ◌<◌, ◌≤◌, List, [], ◌∷◌, ◌++◌, Some, None, refl, sym, ap, subst, ◌∙◌, arith}
use Rattle.auc_graph.specs.declared.limits.TheConstants.{MOST_OBJECTS}
use Rattle.auc_cert.specs.Text.{number_line}
use Rattle.auc_cert.specs.Fields.{number_at}
use Rattle.auc_claim.specs.Spelled.{least_behind}
use Rattle.auc_cert.specs.Runs.{IsRisingRun, BreaksRising}
use Rattle.auc_claim.specs.Spelled.{IsBelow}
use Rattle.auc_cert.proofs.LineLaws.{number_again, number_takes}
use Rattle.auc_cert.proofs.RunLaws.{none_some, run_begins, run_more}
use Rattle.auc_claim.proofs.RisingLaws.{rises_push, behind_push}

-- what the reader of such lines keeps: the numbers that were read rise, those to come have room below `most`, and the
-- last one is `last` or above
pub record HasRead (front : List ℕ) (most last n done : ℕ) (bytes numbers rest : List ℕ) (least : ℕ) : Type 0 where
  pub run : IsRisingRun front most done bytes numbers rest
  pub is : least ≡ least_behind 0 numbers
  pub room : least + (n - done) ≤ most
  pub high : done ≡ n → 0 < n → last < least

pub nothing_read : (front : List ℕ) (most last n : ℕ) (bytes : List ℕ) → n ≤ most → HasRead front most last n 0 bytes [] bytes 0
nothing_read front most last n bytes le = record { run = record { run = run_begins (number_line front) (IsBelow most) bytes; rises = tt }; is = refl; room = omega arith; high = λ all some. absurd (omega arith) }

pub one_more_read : (front : List ℕ) (most last n done : ℕ) (bytes numbers rest : List ℕ) (least here k : ℕ) (more : List ℕ) (end : ℕ) → HasRead front most last n done bytes numbers rest least → done < n → end ≡ most - (n - (done + 1))
    → least ≤ here → (done + 1 ≡ n → last ≤ here) → number_at front here end rest ≡ Some (k, more) → HasRead front most last n (done + 1) bytes (numbers ++ k ∷ []) more (k + 1)
one_more_read front most last n done bytes numbers rest least here k more end h lt at above_least above_last e =
    let t = number_takes front here end rest k more e in
    let from_here : here ≤ k = t.low in
    let low : least ≤ k = omega arith in
    let high : k < end = t.high in
    let room : least + (n - done) ≤ most = h.room in
    let above : least_behind 0 numbers ≤ k = omega (arith, h.is) in
    let below : k < most = omega arith in
    record {
      run = record { run = run_more (number_line front) (IsBelow most) done bytes numbers rest k more h.run.run (t.text done) below; rises = rises_push most numbers k h.run.rises above below };
      is = sym (behind_push 0 numbers k);
      room = omega arith;
      high = λ all some. let reached = above_last all in omega arith;
    }

pub rising_breaks : (front : List ℕ) (most last n done : ℕ) (bytes numbers rest : List ℕ) (least here end : ℕ) → most ≤ MOST_OBJECTS → HasRead front most last n done bytes numbers rest least → done < n → end ≡ most - (n - (done + 1))
    → ((k : ℕ) → least ≤ k → (done + 1 ≡ n → last ≤ k) → here ≤ k) → None ≡ number_at front here end rest → BreaksRising front most last n bytes done
rising_breaks front most last n done bytes numbers rest least here end few h lt at tight e = record {
  numbers = numbers;
  rest = rest;
  run = h.run;
  few = lt;
  room = subst (λ (m : ℕ). m + (n - done) ≤ most) h.is h.room;
  none = λ k more above le reached is.
      let same : least ≡ least_behind 0 numbers = h.is in
      let low : least ≤ k = omega arith in
      let from_here : here ≤ k = tight k low reached in
      let high : k < end = omega arith in
      none_some (k, more) (e ∙ ap (number_at front here end) is ∙ number_again front done here end k more from_here high (omega arith));
}
