-- What the bits of a memory are.
use Rattle.std.specs.Prelude.{ℕ, List}
use Rattle.port_lists.specs.declared.contents.Contents as declared
use Rattle.port_lists.specs.declared.contents.Contents.TheVariants as contents

-- stored, and written; or fixed, those of these words in the order of their addresses
pub data Held : Type 0 where
  Stored : Held
  Fixed : List ℕ → Held

abbrev pub held_of : declared.Contents → Held
held_of contents.Stored = Stored
held_of (contents.Fixed words) = Fixed words.now
