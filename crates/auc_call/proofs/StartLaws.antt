-- Prices from which a run can start.
use Rattle.std.proofs.Common.{◌≡◌, List, Bool, true, false, not, ◌||◌, None, All, T, get_or, refl, sym, subst}
use Rattle.std.specs.Prelude.{ℤ, pos, int_lt}
use Rattle.std.specs.Int.Signed.{lt_z_no}
use Rattle.auc_claim.specs.Start.{IsStartPrice, highest_start}
use Rattle.auc_claim.proofs.ClaimLaws.{all_fail}
use Rattle.auc_call.specs.Start.{is_outside, outside}

both_false : (a b : Bool) → (a || b) ≡ false → (a ≡ false) × (b ≡ false)
both_false true b e = absurd cc
both_false false b e = (refl, e)

pub none_outside : (prices : List ℤ) → None ≡ outside prices → All IsStartPrice prices
none_outside prices none k d lt =
    let fails = all_fail is_outside prices (sym none) k d lt in
    let both = both_false (int_lt (get_or prices k d) (pos 0)) (int_lt highest_start (get_or prices k d)) fails in
    record {
      low = lt_z_no (subst (λ (b : Bool). T (not b)) (sym both.0) tt);
      high = lt_z_no (subst (λ (b : Bool). T (not b)) (sym both.1) tt);
    }
