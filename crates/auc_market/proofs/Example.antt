-- Two persons bid in turn for one object: the offers and the result of two bids, computed.
use Rattle.std.proofs.Common.{◌≡◌, ◌⊎◌, zero, suc, inl, inr, refl, arith, [], ◌∷◌}
use Rattle.std.specs.Prelude.{pos, ◌+ℤ◌, ◌≤ℤ◌, All}
use Rattle.std.proofs.lemmas.Int.{ints}
use Rattle.std.proofs.lemmas.List.Elements.{Contains-get_or}
use Rattle.auc_rows.specs.declared.arc.ShortArc.{ShortArc}
use Rattle.auc_rows.specs.Rows.{FlatTable}
use Rattle.auc_letters.specs.declared.limits.TheConstants.{NOBODY}
use Rattle.auc_market.specs.Bid.{IsOffer}
use Rattle.auc_market.specs.Bids.{AreMade, IsBidMade, State, state}
use Rattle.auc_market.specs.Bids.AreMade.{bids, opens}
use Rattle.auc_market.specs.Market.{no_own}
use Rattle.auc_market.specs.Scan.{no_arc, short_value}

abbrev pub near : ShortArc
near = record { object = 0; cost = pos 1 }

abbrev pub far : ShortArc
far = record { object = 1; cost = pos 4 }

abbrev pub alone : ShortArc
alone = record { object = 0; cost = pos 2 }

-- costs are scaled by 3, and their spread is 3
abbrev pub rows : FlatTable
rows = record { objects = 2; spread = pos 3; rows = (near ∷ far ∷ []) ∷ (alone ∷ []) ∷ [] }

abbrev pub first : State
first = state (pos 0 ∷ pos 0 ∷ []) (NOBODY ∷ NOBODY ∷ []) (no_own ∷ no_own ∷ [])

-- the value of the first person's second arc is 9 more than that of the best one, and eps is 2
abbrev pub between : State
between = state (pos 11 ∷ pos 0 ∷ []) (0 ∷ NOBODY ∷ []) (near ∷ no_own ∷ [])

-- a person with one arc offers the scaled spread, and eps
abbrev pub last : State
last = state (pos 22 ∷ pos 0 ∷ []) (1 ∷ NOBODY ∷ []) (no_own ∷ alone ∷ [])

others : All (λ b. (b ≡ near) ⊎ ((short_value (pos 3) (pos 0 ∷ pos 0 ∷ []) near +ℤ pos 9) ≤ℤ short_value (pos 3) (pos 0 ∷ pos 0 ∷ []) b)) (near ∷ far ∷ [])
others zero d lt = inl refl
others (suc zero) d lt = inr (omega (arith, ints))
others (suc (suc k)) d lt = absurd (omega (arith, lt))

none : All (λ b. (b ≡ alone) ⊎ ((short_value (pos 3) (pos 11 ∷ pos 0 ∷ []) alone +ℤ pos 9) ≤ℤ short_value (pos 3) (pos 11 ∷ pos 0 ∷ []) b)) (alone ∷ [])
none zero d lt = inl refl
none (suc k) d lt = absurd (omega (arith, lt))

offered : IsOffer (pos 3) (pos 3) (pos 2) (pos 0 ∷ pos 0 ∷ []) (near ∷ far ∷ []) near (pos 11)
offered = record { listed = Contains-get_or (near ∷ far ∷ []) 0 no_arc (omega arith); margin = pos 9; low = omega (arith, ints); others = others; only = λ all. omega (arith, ints); is = refl }

offered_alone : IsOffer (pos 3) (pos 3) (pos 2) (pos 11 ∷ pos 0 ∷ []) (alone ∷ []) alone (pos 22)
offered_alone = record { listed = Contains-get_or (alone ∷ []) 0 no_arc (omega arith); margin = pos 9; low = omega (arith, ints); others = none; only = λ all. omega (arith, ints); is = refl }

one : IsBidMade rows (pos 2) first between
one = record { person = 0; known = omega arith; free = refl; arc = near; amount = pos 11; offer = offered; prices = refl; holders = refl; owns = refl }

other : IsBidMade rows (pos 2) between last
other = record { person = 1; known = omega arith; free = refl; arc = alone; amount = pos 22; offer = offered_alone; prices = refl; holders = refl; owns = refl }

pub two : AreMade rows (pos 2) first 2 last
two = bids 1 2 between last (bids 0 1 first between (opens 0 first refl refl) one refl) other refl
