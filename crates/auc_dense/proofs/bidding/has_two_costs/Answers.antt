use Rattle.std.proofs.Common.{rules, true, ◌≡◌, Option, Some, None, sym, w64, ℕ, List, ◌∙◌}
use Rattle.std.specs.Prelude.{FitsSigned, ℤ, IfSome}
use Rattle.std.specs.Option.{is_some}
use Rattle.std.proofs.lemmas.Bool.{false≢true}
use Rattle.std.proofs.lemmas.Int.{to_z-of_z}
use Rattle.auc_dense.specs.Bidding.{AreTwoCosts, IsOther}
use Rattle.auc_dense.proofs.bidding.has_two_costs.Goals as goal

two : (persons objects : ℕ) (costs : List ℤ) (stride : ℕ) (gap one : ℤ) (o : Option ℤ) → IsOther persons objects costs stride gap gap one → IfSome o (IsOther persons objects costs stride gap one) → is_some o ≡ true → AreTwoCosts persons objects costs stride gap
two persons objects costs stride gap one None first h e = absurd (false≢true e)
two persons objects costs stride gap one (Some other) first h e = record { one = one; other = other; first = first; second = h }

pub returns-in-Some : goal.returns-in-Some
returns-in-Some c = λ t.
    let gap_fits : FitsSigned w64 c.args.gap = c.ranges.gap in
    let one_fits : FitsSigned w64 c.in-Some.one = search rules in
    let told = rw c.in-Some.is at c.other_cost.ensures in
    let first = simp to_z-of_z at told in
    let second = simp to_z-of_z at c.other_cost-in-Some.ensures in
    two c.args.table.now.persons c.args.table.now.objects c.args.table.now.costs.now c.args.table.now.stride c.args.gap c.in-Some.one c.other_cost-in-Some.result first second (sym c.is_some.ensures ∙ t)
