-- What is known of a reader and of a writer.
use Rattle.std.specs.Prelude.{ℕ, List, Bool, Option}

-- the bytes that reads will give from here on, where they are known, and whether a read failed
pub record SourceState : Type 0 where
  pub remaining : Option (List ℕ)
  pub failed : Bool

-- the bytes that the writer holds, where they are known; whether a write failed, or took no byte of some, or passing the bytes
-- on failed; and whether no byte that it took waits to be passed on
pub record SinkState : Type 0 where
  pub contents : Option (List ℕ)
  pub failed : Bool
  pub passed_on : Bool
