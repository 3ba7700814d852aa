-- A store and a sink at one moment.
use Rattle.std.specs.Prelude.{ℕ, List, Option}
use Rattle.or_host.specs.Files.{Files}

pub record StoreState : Type 0 where
  -- the files, where the store tells them
  pub files : Option Files
  -- how often a call failed: the count never falls, and stands still at 2^64 - 1
  pub faults : ℕ
  -- the name in the last call that failed, where the store tells it
  pub failed : Option (List ℕ)

pub record SinkState : Type 0 where
  -- the text so far, where the sink tells it
  pub text : Option (List ℕ)
  -- how often a call failed: the count never falls, and stands still at 2^64 - 1
  pub faults : ℕ
  -- how many calls were made: the count stands still at 2^64 - 1
  pub puts : ℕ
