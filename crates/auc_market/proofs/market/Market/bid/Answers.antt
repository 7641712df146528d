use Rattle.std.proofs.Common.{Bool, ℕ, ℤ, ◌≡◌, refl, rules, w64, List, Option, Some, None}
use Rattle.std.specs.Prelude.{FitsSigned, IfNone, IfSome}
use Rattle.std.proofs.lemmas.Int.{to_z-of_z}
use Rattle.auc_rows.specs.declared.arc.ShortArc.{ShortArc}
use Rattle.auc_rows.specs.Rows.{FlatTable}
use Rattle.auc_market.specs.Bids.{IsBidMade, state}
use Rattle.auc_market.specs.Market.{IsAbove, IsAwarded, IsTooHigh, Stands}
use Rattle.auc_market.specs.Position.{IsBid, position}
use Rattle.auc_market.proofs.Moving.{eps_fits}
use Rattle.auc_market.proofs.market.Market.bid.Goals as goal

module _ (r : FlatTable) (eps : ℤ) (person : ℕ) (prices new : List ℤ) (holders sold : List ℕ) (owns left : List ShortArc) (has : Bool) (once : List ShortArc) where
  stands_by : (o : Option ℕ) → Stands r eps prices holders owns → IfSome o (IsAwarded r eps person prices new sold owns left) → IfNone o (IsTooHigh r eps prices new holders sold owns left) → Stands r eps new sold left
  stands_by (Some d) stands a h = a.stands
  stands_by None stands a h = rw (h.prices_are, h.holders_are, h.owns_are) stands

  bid_by : (o : Option ℕ) → IfSome o (IsAwarded r eps person prices new sold owns left) → IfSome o (λ d. IsBidMade r eps (state prices holders owns) (state new sold left)) → IfSome o (IsBid person (position r eps prices holders owns has once) (position r eps new sold left has once))
  bid_by (Some d) a m = record { table = refl; eps = refl; awarded = a; made = m }
  bid_by None a m = tt

  above_by : (o : Option ℕ) → IfNone o (IsTooHigh r eps prices new holders sold owns left) → IfNone o ((position r eps new sold left has once ≡ position r eps prices holders owns has once) × IsAbove r eps prices owns)
  above_by (Some d) h = tt
  above_by None h = rw (h.prices_are, h.holders_are, h.owns_are) (refl, h.above)

pub step-requires-clause-eps : goal.step-requires-clause-eps
step-requires-clause-eps c =
    let f : FitsSigned w64 c.self.inside.eps = search rules in
    let law = c.self.invariant.law in
    simp to_z-of_z (eps_fits c.self.inside.rows.now c.self.inside.eps law.sound law.eps)

pub invariant_of-self : goal.invariant_of-self
invariant_of-self c =
    let f : FitsSigned w64 c.self.inside.eps = search rules in
    let law = c.self.invariant.law in
    let step = simp to_z-of_z at c.step.ensures in
    let old = c.self.inside.holdings in
    let new = c.step.new.self in
    record {
      law = record {
        sound = law.sound;
        arcs = law.arcs;
        eps = law.eps;
        stands = stands_by c.self.inside.rows.now c.self.inside.eps c.args.person old.prices.items new.prices.items old.holders.items new.holders.items old.owns.items new.owns.items c.self.inside.incumbent.is_whole c.self.inside.incumbent.owns.items c.step.result law.stands step.awarded step.high;
      };
      kept = step.kept;
      incumbent_is = c.self.invariant.incumbent_is;
    }

pub returns-clause-bid : goal.returns-clause-bid
returns-clause-bid c =
    let f : FitsSigned w64 c.self.inside.eps = search rules in
    let step = simp to_z-of_z at c.step.ensures in
    let old = c.self.inside.holdings in
    let new = c.step.new.self in
    rw (← c.self.view_is) (bid_by c.self.inside.rows.now c.self.inside.eps c.args.person old.prices.items new.prices.items old.holders.items new.holders.items old.owns.items new.owns.items c.self.inside.incumbent.is_whole c.self.inside.incumbent.owns.items c.step.result step.awarded step.made)

pub returns-clause-above : goal.returns-clause-above
returns-clause-above c =
    let f : FitsSigned w64 c.self.inside.eps = search rules in
    let step = simp to_z-of_z at c.step.ensures in
    let old = c.self.inside.holdings in
    let new = c.step.new.self in
    rw (← c.self.view_is) (above_by c.self.inside.rows.now c.self.inside.eps c.args.person old.prices.items new.prices.items old.holders.items new.holders.items old.owns.items new.owns.items c.self.inside.incumbent.is_whole c.self.inside.incumbent.owns.items c.step.result step.high)
