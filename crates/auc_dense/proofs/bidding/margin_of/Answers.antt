use Rattle.std.proofs.Common.{rules, arith, inl, inr, ap, w64, of_z}
use Rattle.std.specs.Prelude.{FitsSigned, ◌-ℤ◌}
use Rattle.std.proofs.lemmas.Int.{ints, to_z-of_z}
use Rattle.auc_dense.proofs.bidding.margin_of.Goals as goal

pub overflow_sub-result : goal.overflow_sub-result
overflow_sub-result c =
    let least = c.requires.least in
    let least_low = least.low in
    let least_high = least.high in
    elim c.requires.second [
      | inl none ↦ absurd (c.if-found-eq9223372036854775807.false (ap (of_z w64) none))
      | inr worth ↦ (let low = worth.low in let high = worth.high in omega (arith, ints, low, high, least_low, least_high))
    ]

pub returns-else-found-eq9223372036854775807 : goal.returns-else-found-eq9223372036854775807
returns-else-found-eq9223372036854775807 c =
    let second_fits : FitsSigned w64 c.args.found.second = search rules in
    let least_fits : FitsSigned w64 c.args.found.least = search rules in
    let fits : FitsSigned w64 (c.args.found.second -ℤ c.args.found.least) = simp to_z-of_z at (overflow_sub-result c) in
    record {
      none = λ e. absurd (c.if-found-eq9223372036854775807.false (ap (of_z w64) e));
      some = λ ne. omega (arith, ints, second_fits, least_fits, fits);
    }
