-- Epsilon scaling: the eps of each phase, in scaled costs.
use Rattle.std.specs.Prelude.{◌+◌, ℤ, pos, ◌*ℤ◌, int_div, int_le, nat_lt, if◌then◌else◌, Option, Some, None, length}
use Rattle.std.specs.Int.{int_max}
use Rattle.auc_graph.specs.Table.{Table}

-- the spread of all costs, scaled
abbrev pub scaled_spread : Table → ℤ
scaled_spread t = pos (length t.rows + 1) *ℤ t.spread

-- An eighth of the scaled spread, rounded down, and at least 1. Where there are more objects than persons it is 1, and
-- there is one phase: a later one would leave prices to objects without a holder.
abbrev pub first_eps : Table → ℤ
first_eps t = if nat_lt (length t.rows) t.objects then pos 1 else int_max (pos 1) (int_div (scaled_spread t) (pos 8))

-- a fifth of the last eps, rounded down, and at least 1; none after 1
abbrev pub next_eps : ℤ → Option ℤ
next_eps eps = if int_le eps (pos 1) then None else Some (int_max (pos 1) (int_div eps (pos 5)))
