use Rattle.std.proofs.Common.{◌≡◌, ◌<◌, ℕ, List, get_or, inr, length, arith, w64}
use Rattle.std.specs.Prelude.{All, FitsSigned, ℤ}
use Rattle.std.proofs.lemmas.Int.{ints, to_z-of_z}
use Rattle.auc_rows.specs.Rows.{FlatTable, IsFlatTable, IsShort, flat_row_of, scale_in}
use Rattle.auc_market.specs.declared.shortlist.Shortlist.{Shortlist}
use Rattle.auc_market.specs.Scan.{short_value}
use Rattle.auc_market.specs.Shortlist.{Kept}
use Rattle.auc_market.proofs.Shortlists.{arcs_short, kept_set, says_at}
use Rattle.auc_market.proofs.lists.Lists.best.Goals as goal

short_at : (r : FlatTable) (prices : List ℤ) (lists : List Shortlist) (i : ℕ) (l : Shortlist) → i < length lists → l ≡ get_or lists i l → IsFlatTable r → length prices ≡ r.objects → Kept r prices lists → All (IsShort (length prices)) l.arcs.items
short_at r prices lists i l lt is sound many kept = arcs_short (short_value (scale_in r) prices) (length prices) (flat_row_of r i) l (rw many (sound.each i)) (says_at r prices lists i l lt is kept)

pub listed_best-requires : goal.listed_best-requires
listed_best-requires c =
    let lt : c.args.person < length c.args.self.now.lists.items = (let p = c.if-place-len.false in let l = c.len.ensures in omega (arith, p, l)) in
    let e = c.requires.scale in
    let m = c.row-row.ensures.sound.most in
    record {
      scale_is = record { low = omega (arith, ints, e); high = omega (arith, ints, e, m) };
      within = c.requires.prices;
      arcs = short_at c.args.rows.now c.args.prices.now c.args.self.now.lists.items c.args.person c.index.result.now lt c.index.ensures c.row-row.ensures.sound c.requires.many c.requires.kept;
    }

pub returns-in-Some-clause-best : goal.returns-in-Some-clause-best
returns-in-Some-clause-best c =
    let f1 : FitsSigned w64 c.args.scale = c.ranges.scale in
    let lt : c.args.person < length c.args.self.now.lists.items = (let p = c.if-place-len.false in let l = c.len.ensures in omega (arith, p, l)) in
    let listed_best = rw c.requires.scale at (simp to_z-of_z at c.in-Some.ensures) in
    rw c.requires.scale (listed_best (flat_row_of c.args.rows.now c.args.person) (says_at c.args.rows.now c.args.prices.now c.args.self.now.lists.items c.args.person c.index.result.now lt c.index.ensures c.requires.kept))

pub best_anew-requires-clause-arcs : goal.best_anew-requires-clause-arcs
best_anew-requires-clause-arcs c =
    let lt : c.args.person < length c.args.self.now.lists.items = (let p = c.if-place-len.false in let l = c.len.ensures in omega (arith, p, l)) in
    short_at c.args.rows.now c.args.prices.now c.args.self.now.lists.items c.args.person c.index_mut.result.now lt c.index_mut.ensures.value c.row-row.ensures.sound c.requires.many c.requires.kept

pub returns-clause-kept : goal.returns-clause-kept
returns-clause-kept c =
    let f1 : FitsSigned w64 c.args.scale = c.ranges.scale in
    let lt : c.args.person < length c.args.self.now.lists.items = (let p = c.if-place-len.false in let l = c.len.ensures in omega (arith, p, l)) in
    let made = rw (c.requires.scale, c.row-row.ensures.row) at (simp to_z-of_z at c.best_anew.ensures.gathered) in
    kept_set c.args.rows.now c.args.prices.now c.args.self.now.lists.items c.args.person c.best_anew.new.self lt (inr made) c.requires.kept
