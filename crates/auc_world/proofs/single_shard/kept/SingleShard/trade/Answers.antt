use Rattle.std.proofs.Common.{ℕ, ◌≡◌, ◌<◌, ◌^◌, Bool, true, false, inl, inr, [], List, length, pos, subst, sym, ap, ◌∙◌, arith, w64, to_z, of_z, rules}
use Rattle.std.specs.Prelude.{All, FitsSigned, ℤ, ◌≤ℤ◌, ◌<ℤ◌}
use Rattle.std.specs.Int.Signed.{lt_z}
use Rattle.std.proofs.lemmas.Bool.{cases_lt}
use Rattle.std.proofs.lemmas.Int.{ints, to_z-of_z}
use Rattle.auc_graph.specs.Table.{Table, row_of}
use Rattle.auc_graph.specs.Price.{IsPrice}
use Rattle.auc_letters.specs.Price.{IsEps}
use Rattle.auc_persons.specs.Candidates.{Kept}
use Rattle.auc_world.specs.SingleState.{SingleState}
use Rattle.auc_world.specs.SinglePhase.{Given, answered}
use Rattle.auc_world.proofs.SinglePhase.{answer_waits, at_ceiling, copies_fit, none_leaves, out_of_bids, person_known, price_fit, rested, notices_have_room, trade_less, traded_by, waits_still}
use Rattle.auc_world.proofs.single_shard.kept.SingleShard.trade.Goals as goal

no_more : (n : ℕ) → (0 < n → ⊥) → n ≡ 0
no_more n none = elim (cases_lt 0 n) [ inl l ↦ absurd (none l) | inr l ↦ omega arith ]

false_not_true : ◌≡◌ {A = Bool} false true → ⊥
false_not_true e = cc

not_above : (amount : ℤ) → lt_z (pos (2 ^ 61)) amount ≡ false → amount ≤ℤ pos (2 ^ 61)
not_above amount e = grind (arith, ints)

above : (amount : ℤ) → lt_z (pos (2 ^ 61)) amount ≡ true → pos (2 ^ 61) <ℤ amount
above amount e = grind (arith, ints)

pub returns-in_default-clause-halfway : goal.returns-in_default-clause-halfway
returns-in_default-clause-halfway c =
    let h = c.requires.going in
    let same : c.next_free.new.self ≡ c.args.self.now = c.in_default.ensures.leaves ∙ none_leaves c.args.self.now c.in_default.ensures.none in
    rw same (rested c.args.task.now h.given c.args.self.now h c.requires.more c.in_default.ensures.none)

pub returns-in_default-clause-waits : goal.returns-in_default-clause-waits
returns-in_default-clause-waits c = waits_still c.args.task.now c.args.self.now c.requires.going c.requires.more c.next_free.new.self c.in_default.ensures.leaves c.in_default.ensures.none

pub returns-in_default-clause-kept : goal.returns-in_default-clause-kept
returns-in_default-clause-kept c =
    let leaves = c.in_default.ensures.leaves in
    rw leaves c.requires.kept

pub returns-then-not-has_bids-clause-stopped : goal.returns-then-not-has_bids-clause-stopped
returns-then-not-has_bids-clause-stopped c =
    let none : c.next_free.new.self.bids ≡ 0 = no_more c.next_free.new.self.bids (λ l. false_not_true (sym c.if-not-has_bids.true ∙ c.has_bids.ensures.1 l)) in
    out_of_bids c.args.task.now c.args.self.now c.requires.going c.requires.more c.next_free.new.self c.in-Some.ensures.leaves c.in-Some.person c.in-Some.ensures.some none

pub returns-in_default-bid-clause-stopped : goal.returns-in_default-bid-clause-stopped
returns-in_default-bid-clause-stopped c =
    let h = c.requires.going in
    let table : c.task.inside.rows.now ≡ c.args.task.now.table = ap (λ (x : Given). x.table) c.task.view_is in
    let stuck : row_of c.args.task.now.table c.in-Some.person ≡ [] = subst (λ (t : Table). row_of t c.in-Some.person ≡ []) table c.in_default-bid.ensures.none in
    absurd (h.given.arcs c.in-Some.person (person_known c.args.task.now h.given c.args.self.now h c.in-Some.person c.in-Some.ensures.some) stuck)

pub returns-then-bid-gt-MOST_PRICE-clause-stopped : goal.returns-then-bid-gt-MOST_PRICE-clause-stopped
returns-then-bid-gt-MOST_PRICE-clause-stopped c =
    let f1 : FitsSigned w64 c.task.inside.eps = search rules in
    let f2 : FitsSigned w64 c.in-Some-bid.bid.amount = search rules in
    let table : c.task.inside.rows.now ≡ c.args.task.now.table = ap (λ (x : Given). x.table) c.task.view_is in
    let eps : to_z w64 (of_z w64 c.task.inside.eps) ≡ c.args.task.now.eps = to_z-of_z w64 c.task.inside.eps f1 ∙ ap (λ (x : Given). x.eps) c.task.view_is in
    let left : 0 < c.next_free.new.self.bids = c.has_bids.ensures.0 c.if-not-has_bids.false in
    let high : pos (2 ^ 61) <ℤ c.in-Some-bid.bid.amount = above c.in-Some-bid.bid.amount (simp to_z-of_z at c.if-bid-gt-MOST_PRICE.true) in
    at_ceiling c.args.task.now c.args.self.now c.requires.going c.requires.more c.next_free.new.self c.task.inside.rows.now (to_z w64 (of_z w64 c.task.inside.eps)) c.copies.result.now c.in-Some.ensures.leaves table eps c.copies.ensures c.in-Some.person
    c.in-Some.ensures.some left c.in-Some-bid.bid c.in-Some-bid.ensures.some high

pub bid-requires-clause-person : goal.bid-requires-clause-person
bid-requires-clause-person c =
    let h = c.requires.going in
    let table : c.task.inside.rows.now ≡ c.args.task.now.table = ap (λ (x : Given). x.table) c.task.view_is in
    subst (λ (t : Table). c.in-Some.person < length t.rows) (sym table) (person_known c.args.task.now h.given c.args.self.now h c.in-Some.person c.in-Some.ensures.some)

pub bid-requires-clause-objects : goal.bid-requires-clause-objects
bid-requires-clause-objects c =
    let h = c.requires.going in
    let table : c.task.inside.rows.now ≡ c.args.task.now.table = ap (λ (x : Given). x.table) c.task.view_is in
    let copies : c.copies.result.now ≡ c.args.self.now.copies = c.copies.ensures ∙ ap (λ (s : SingleState). s.copies) c.in-Some.ensures.leaves in
    ap (λ (t : Table). t.objects) table ∙ sym h.going.shows.copies_are ∙ ap (λ (xs : List ℤ). length xs) (sym copies)

pub bid-requires-clause-copies : goal.bid-requires-clause-copies
bid-requires-clause-copies c =
    let h = c.requires.going in
    let copies : c.copies.result.now ≡ c.args.self.now.copies = c.copies.ensures ∙ ap (λ (s : SingleState). s.copies) c.in-Some.ensures.leaves in
    subst (All IsPrice) (sym copies) (copies_fit c.args.task.now h.given c.args.self.now h)

pub bid-requires-clause-eps : goal.bid-requires-clause-eps
bid-requires-clause-eps c =
    let fits : FitsSigned w64 c.task.inside.eps = search rules in
    let eps : c.args.task.now.eps ≡ c.task.inside.eps = ap (λ (x : Given). x.eps) (sym c.task.view_is) in
    let is : IsEps c.task.inside.eps = subst IsEps eps c.requires.going.given.eps in
    simp to_z-of_z is

pub bid-requires-clause-kept : goal.bid-requires-clause-kept
bid-requires-clause-kept c =
    let table : c.task.inside.rows.now ≡ c.args.task.now.table = ap (λ (x : Given). x.table) c.task.view_is in
    let copies : c.copies.result.now ≡ c.args.self.now.copies = c.copies.ensures ∙ ap (λ (s : SingleState). s.copies) c.in-Some.ensures.leaves in
    subst (λ (t : Table). Kept t c.copies.result.now c.args.bidder.now) (sym table) (subst (λ (cs : List ℤ). Kept c.args.task.now.table cs c.args.bidder.now) (sym copies) c.requires.kept)

pub answer-requires-clause-price : goal.answer-requires-clause-price
answer-requires-clause-price c =
    let h = c.requires.going in
    let leaves = c.in-Some.ensures.leaves in
    rw leaves (price_fit c.args.task.now h.given c.args.self.now h c.in-Some-bid.bid.object)

pub answer-requires-clause-room : goal.answer-requires-clause-room
answer-requires-clause-room c =
    let h = c.requires.going in
    let f1 : FitsSigned w64 c.task.inside.eps = search rules in
    let f2 : FitsSigned w64 c.in-Some-bid.bid.amount = search rules in
    let table : c.task.inside.rows.now ≡ c.args.task.now.table = ap (λ (x : Given). x.table) c.task.view_is in
    let eps : to_z w64 (of_z w64 c.task.inside.eps) ≡ c.args.task.now.eps = to_z-of_z w64 c.task.inside.eps f1 ∙ ap (λ (x : Given). x.eps) c.task.view_is in
    let left : 0 < c.next_free.new.self.bids = c.has_bids.ensures.0 c.if-not-has_bids.false in
    let high : c.in-Some-bid.bid.amount ≤ℤ pos (2 ^ 61) = not_above c.in-Some-bid.bid.amount (simp to_z-of_z at c.if-bid-gt-MOST_PRICE.false) in
    let half = traded_by c.args.task.now c.args.self.now h c.next_free.new.self c.task.inside.rows.now (to_z w64 (of_z w64 c.task.inside.eps)) c.copies.result.now c.in-Some.ensures.leaves table eps c.copies.ensures c.requires.more c.in-Some.person c.in-Some.ensures.some
    c.in-Some-bid.bid left c.in-Some-bid.ensures.some high in
    notices_have_room c.args.task.now h.given (answered (to_z w64 (of_z w64 c.task.inside.eps)) c.next_free.new.self c.in-Some-bid.bid) half

pub returns-clause-halfway : goal.returns-clause-halfway
returns-clause-halfway c =
    let h = c.requires.going in
    let f1 : FitsSigned w64 c.task.inside.eps = search rules in
    let f2 : FitsSigned w64 c.in-Some-bid.bid.amount = search rules in
    let table : c.task.inside.rows.now ≡ c.args.task.now.table = ap (λ (x : Given). x.table) c.task.view_is in
    let eps : to_z w64 (of_z w64 c.task.inside.eps) ≡ c.args.task.now.eps = to_z-of_z w64 c.task.inside.eps f1 ∙ ap (λ (x : Given). x.eps) c.task.view_is in
    let left : 0 < c.next_free.new.self.bids = c.has_bids.ensures.0 c.if-not-has_bids.false in
    let high : c.in-Some-bid.bid.amount ≤ℤ pos (2 ^ 61) = not_above c.in-Some-bid.bid.amount (simp to_z-of_z at c.if-bid-gt-MOST_PRICE.false) in
    let half = traded_by c.args.task.now c.args.self.now h c.next_free.new.self c.task.inside.rows.now (to_z w64 (of_z w64 c.task.inside.eps)) c.copies.result.now c.in-Some.ensures.leaves table eps c.copies.ensures c.requires.more c.in-Some.person c.in-Some.ensures.some
    c.in-Some-bid.bid left c.in-Some-bid.ensures.some high in
    rw c.answer.ensures half

pub returns-clause-less : goal.returns-clause-less
returns-clause-less c =
    let h = c.requires.going in
    let f1 : FitsSigned w64 c.task.inside.eps = search rules in
    let f2 : FitsSigned w64 c.in-Some-bid.bid.amount = search rules in
    let table : c.task.inside.rows.now ≡ c.args.task.now.table = ap (λ (x : Given). x.table) c.task.view_is in
    let eps : to_z w64 (of_z w64 c.task.inside.eps) ≡ c.args.task.now.eps = to_z-of_z w64 c.task.inside.eps f1 ∙ ap (λ (x : Given). x.eps) c.task.view_is in
    let left : 0 < c.next_free.new.self.bids = c.has_bids.ensures.0 c.if-not-has_bids.false in
    rw c.answer.ensures (trade_less c.args.task.now c.args.self.now h c.next_free.new.self c.task.inside.rows.now (to_z w64 (of_z w64 c.task.inside.eps)) c.copies.result.now c.in-Some.ensures.leaves table eps c.copies.ensures c.in-Some-bid.bid left)

pub returns-clause-waits : goal.returns-clause-waits
returns-clause-waits c = λ e. answer_waits (to_z w64 (of_z w64 c.task.inside.eps)) c.args.self.now c.in-Some-bid.bid (ap (λ (s : SingleState). s.notices) (sym (c.answer.ensures ∙ ap (λ (s : SingleState). answered (to_z w64 (of_z w64 c.task.inside.eps)) s c.in-Some-bid.bid) c.in-Some.ensures.leaves)) ∙ e)

pub returns-clause-kept : goal.returns-clause-kept
returns-clause-kept c =
    let table : c.task.inside.rows.now ≡ c.args.task.now.table = ap (λ (x : Given). x.table) c.task.view_is in
    let copies : c.copies.result.now ≡ c.answer.new.self.copies = c.copies.ensures ∙ ap (λ (s : SingleState). s.copies) (sym c.answer.ensures) in
    subst (λ (u : Table). Kept u c.answer.new.self.copies c.bid.new.self) table (subst (λ (cs : List ℤ). Kept c.task.inside.rows.now cs c.bid.new.self) copies c.in-Some-bid.ensures.kept)
