-- The outside of the program at one moment.
use Rattle.std.specs.Prelude.{Option, Some, None}
use Rattle.or_host.specs.Files.{Files}
use Rattle.or_host.specs.State.{StoreState, SinkState}

pub record Outside : Type 0 where
  pub store : StoreState
  pub sink : SinkState

abbrev pub outside_at : StoreState → SinkState → Outside
outside_at store sink = record { store = store; sink = sink }

-- of the files, where they are told
abbrev pub IfTold : Option Files → (Files → Type 0) → Type 0
IfTold None fact = Unit {0}
IfTold (Some files) fact = fact files
