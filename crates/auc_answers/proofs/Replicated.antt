-- A list of one element: what is read anywhere is that element, if it is read past the end as well.
use Rattle.std.proofs.Common.{ℕ, ◌≡◌, get_or, replicate, inl, inr}
use Rattle.std.proofs.lemmas.Bool.{cases_lt}
use Rattle.std.proofs.lemmas.List.{get_or-replicate, get_or_past, length-replicate}

pub replicate_default : {X : Type 0} (n i : ℕ) (a : X) → get_or (replicate n a) i a ≡ a
replicate_default n i a = elim (cases_lt i n) [ inl l ↦ get_or-replicate n i a a l | inr past ↦ get_or_past (replicate n a) i a (rw length-replicate past) ]
