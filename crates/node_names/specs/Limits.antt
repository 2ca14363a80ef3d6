-- The numbers that bound a node's views, random walks, shuffles and stored payloads, and Plumtree's threshold.
use Rattle.std.specs.Prelude.{ℕ, ◌≤◌, ◌+◌}

-- The limits of a node, named as in the papers on HyParView and Plumtree; and keep, the minimum number of messages,
-- those delivered last, whose payloads it keeps, where 0 stands for all.
pub record Limits : Type 0 where
  pub active : ℕ
  pub passive : ℕ
  pub arwl : ℕ
  pub prwl : ℕ
  pub ka : ℕ
  pub kp : ℕ
  pub threshold : ℕ
  pub keep : ℕ

-- The limits that a node may have: an active view of 1 to 16 peers and a passive one of 1 to 64, random walks of
-- at most 32 steps, prwl no greater than arwl, and at most 7 names from the views in a shuffle.
pub record IsAllowed (limits : Limits) : Type 0 where
  pub active_from : 1 ≤ limits.active
  pub active_to : limits.active ≤ 16
  pub passive_from : 1 ≤ limits.passive
  pub passive_to : limits.passive ≤ 64
  pub prwl_to : limits.prwl ≤ limits.arwl
  pub arwl_to : limits.arwl ≤ 32
  pub shuffle_to : limits.ka + limits.kp ≤ 7
