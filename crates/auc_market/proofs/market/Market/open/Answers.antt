use Rattle.std.proofs.Common.{inl, length, refl, w64}
use Rattle.std.specs.Prelude.{FitsSigned}
use Rattle.std.proofs.lemmas.Int.{to_z-of_z}
use Rattle.auc_market.specs.Bids.{state}
use Rattle.auc_market.proofs.Incumbents.{aside_is, aside_owns}
use Rattle.auc_market.proofs.Opening.{stands_opened}
use Rattle.auc_market.proofs.PhasesLaws.{opened_is}
use Rattle.auc_market.proofs.market.Market.open.Goals as goal

pub invariant_of-self : goal.invariant_of-self
invariant_of-self c =
    let f : FitsSigned w64 c.args.eps = c.ranges.eps in
    let law = c.self.invariant.law in
    let square = rw (← c.self.view_is) at c.requires.square in
    let eps = rw (← c.self.view_is) at c.requires.eps in
    let rows = c.self.inside.rows.now in
    let old = c.self.inside.holdings in
    let aside = c.set_aside.ensures.aside in
    let mid = c.set_aside.new.self in
    let same = rw c.set_aside.ensures.aside.prices at c.open.ensures.prices in
    let is = c.self.invariant.incumbent_is in
    simp to_z-of_z (record {
      law = record {
        sound = law.sound;
        arcs = law.arcs;
        eps = eps;
        stands = rw same (stands_opened rows c.args.eps c.args.eps old.prices.items c.open.new.self.holders.items c.open.new.self.owns.items (length mid.holders.items) (length mid.owns.items) (record { each = law.stands.prices_are; within = law.stands.within; spare = inl square }) (rw c.set_aside.ensures.aside.holders law.stands.holders_are) (aside_owns rows c.self.inside.eps old.prices.items old c.self.inside.incumbent mid c.set_aside.new.incumbent square law.sound law.stands is aside) c.open.ensures.holders c.open.ensures.owns);
      };
      kept = rw same c.self.invariant.kept;
      incumbent_is = aside_is rows c.self.inside.eps old.prices.items old c.self.inside.incumbent mid c.set_aside.new.incumbent square law.sound law.stands is aside;
    })

pub returns : goal.returns
returns c =
    let f : FitsSigned w64 c.args.eps = c.ranges.eps in
    let old = c.self.inside.holdings in
    let mid = c.set_aside.new.self in
    let new = c.open.new.self in
    let same = rw c.set_aside.ensures.aside.prices at c.open.ensures.prices in
    let opened = opened_is (state old.prices.items old.holders.items old.owns.items) (state new.prices.items new.holders.items new.owns.items) (length mid.owns.items) same c.open.ensures.owns in
    rw (← c.self.view_is) (simp to_z-of_z (record { table = refl; eps_is = refl; prices = opened.prices; none = opened.none; incumbent = c.set_aside.ensures.whole }))
