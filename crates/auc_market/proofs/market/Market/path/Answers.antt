use Rattle.std.proofs.Common.{Bool, ℕ, ℤ, refl, rules, w64, List, Result, Ok, Err}
use Rattle.std.specs.Prelude.{FitsSigned, IfOk}
use Rattle.std.proofs.lemmas.Int.{to_z-of_z}
use Rattle.auc_rows.specs.declared.arc.ShortArc.{ShortArc}
use Rattle.auc_rows.specs.Rows.{FlatTable}
use Rattle.auc_market.specs.declared.augmented.Augmented.{Augmented}
use Rattle.auc_market.specs.Position.{IsMove, position}
use Rattle.auc_market.specs.Augmented.{IsAugmented}
use Rattle.auc_market.proofs.Moving.{eps_fits}
use Rattle.auc_market.proofs.Shortlists.{kept_rises}
use Rattle.auc_market.proofs.market.Market.path.Goals as goal

module _ {Y : Type 0} (r : FlatTable) (eps : ℤ) (person : ℕ) (prices new : List ℤ) (holders sold : List ℕ) (owns left : List ShortArc) (has : Bool) (once : List ShortArc) where
  move_by : (o : Result Augmented Y) → IfOk o (λ w. IsAugmented r eps person prices new holders sold owns left w.free) → IfOk o (λ w. IsMove person (position r eps prices holders owns has once) (position r eps new sold left has once) w.free)
  move_by (Ok w) augmented = record { table = refl; eps = refl; augmented = augmented }
  move_by (Err x) augmented = tt

pub find_path-requires-clause-eps : goal.find_path-requires-clause-eps
find_path-requires-clause-eps c =
    let f : FitsSigned w64 c.self.inside.eps = search rules in
    let law = c.self.invariant.law in
    simp to_z-of_z (eps_fits c.self.inside.rows.now c.self.inside.eps law.sound law.eps)

pub invariant_of-self : goal.invariant_of-self
invariant_of-self c =
    let f : FitsSigned w64 c.self.inside.eps = search rules in
    let law = c.self.invariant.law in
    let augmented = simp to_z-of_z at c.find_path.ensures in
    record {
      law = record { sound = law.sound; arcs = law.arcs; eps = law.eps; stands = augmented.stands };
      kept = kept_rises c.self.inside.rows.now c.self.inside.holdings.prices.items c.find_path.new.self.prices.items c.self.inside.lists.lists.items augmented.higher c.self.invariant.kept;
      incumbent_is = c.self.invariant.incumbent_is;
    }

pub returns-clause-augmented : goal.returns-clause-augmented
returns-clause-augmented c =
    let f : FitsSigned w64 c.self.inside.eps = search rules in
    let augmented = simp to_z-of_z at c.find_path.ensures.augmented in
    let old = c.self.inside.holdings in
    let new = c.find_path.new.self in
    rw (← c.self.view_is) (move_by c.self.inside.rows.now c.self.inside.eps c.args.person old.prices.items new.prices.items old.holders.items new.holders.items old.owns.items new.owns.items c.self.inside.incumbent.is_whole c.self.inside.incumbent.owns.items c.find_path.result augmented)
