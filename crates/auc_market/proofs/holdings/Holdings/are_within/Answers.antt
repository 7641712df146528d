use Rattle.std.proofs.Common.{ℕ, inl, inr, ap, arith, get_or, refl, subst, sym, w64, ◌∙◌}
use Rattle.std.specs.Prelude.{FitsSigned}
use Rattle.std.proofs.lemmas.Bool.{cases_eq}
use Rattle.std.proofs.lemmas.Int.{to_z-of_z}
use Rattle.std.proofs.lemmas.List.{get_or_default}
use Rattle.auc_market.specs.declared.search.Rise.{Rise}
use Rattle.auc_market.specs.Market.{holder_at}
use Rattle.auc_market.specs.Path.{IsWithin}
use Rattle.auc_market.proofs.holdings.Holdings.are_within.Goals as goal

pub loop-rise-preserved : goal.loop-rise-preserved
loop-rise-preserved c = λ m d lt. (
    let f : FitsSigned w64 c.args.eps = c.ranges.eps in
    let inv = simp to_z-of_z at c.loop-rise.invariant in
    let here = simp to_z-of_z at (c.if-not-is_within.ensures.yes refl) in
    let who = c.holder_of.ensures in
    simp to_z-of_z (elim (cases_eq m c.loop-rise.rise-index) [
      | inl same ↦ (
          let at = ap (λ (i : ℕ). get_or c.args.rises.now i d) same ∙ get_or_default c.args.rises.now c.loop-rise.rise-index d _ c.loop-rise-test.true in
          subst (IsWithin c.args.rows.now c.args.eps c.args.self.now.prices.items c.args.self.now.owns.items) (who ∙ ap (λ (x : Rise). holder_at c.args.self.now.holders.items x.object) (sym at)) here
          )
      | inr ne ↦ inv m d (omega (arith, lt, ne))
    ])
    )
