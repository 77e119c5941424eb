-- How large an engine is.
use Rattle.std.specs.Prelude.{ℕ}

-- how many shards and how many workers the engine has
pub record Sizes : Type 0 where
  pub shards : ℕ
  pub workers : ℕ
