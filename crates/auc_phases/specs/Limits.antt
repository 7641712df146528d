-- The limits of a phase.
use Rattle.std.specs.Prelude.{ℕ, ◌≤◌, ◌==◌, if◌then◌else◌}
use Rattle.auc_phases.specs.declared.limits.Limits.{Limits}

-- the number of letters that may wait, where 0 means the usual number
abbrev pub nodes_or : ℕ → ℕ → ℕ
nodes_or nodes usual = if nodes == 0 then usual else nodes

-- limits in range
pub record AreLimits (limits : Limits) : Type 0 where
  pub some : 1 ≤ limits.shards
  pub few : limits.shards ≤ 16
  pub nodes : limits.nodes ≤ 16777216
