-- What is known of every deck that is read.
use Rattle.std.specs.Prelude.{◌≡◌, ◌≢◌, ◌<◌, ℕ, List, [], length, map, Ok}
use Rattle.std.specs.List.{AllByRecursion}
use Rattle.netlist.specs.declared.deck.Deck.{Deck}
use Rattle.netlist.specs.declared.deck.Instance.{Instance}
use Rattle.netlist.specs.declared.deck.Subckt.{Subckt}
use Rattle.spice_text.specs.Deck.{deck}
use Rattle.spice_text.specs.Writable.{lowered_subckt, AreWritable}

-- a CR that doesn't end a line is part of a word, and no name with one can be written
abbrev pub HasNoReturn : List ℕ → Type 0
HasNoReturn name = AllByRecursion (λ b. b ≢ 13) name

pub record IsInstanceWithoutReturns (i : Instance) : Type 0 where
  pub name : HasNoReturn i.name
  pub nodes : AllByRecursion HasNoReturn i.nodes
  pub refers : HasNoReturn i.of

-- it has names without CR, and no lines that are kept as they stand
pub record IsOfNames (s : Subckt) : Type 0 where
  pub name : HasNoReturn s.name
  pub ports : AllByRecursion HasNoReturn s.ports
  pub instances : AllByRecursion IsInstanceWithoutReturns s.instances
  pub no_raw : s.raw ≡ []

-- but for such lines and such names what is read can be written
abbrev pub DecksAreWritable : Type 0
DecksAreWritable = (bytes : List ℕ) (d : Deck) → deck bytes ≡ Ok d → AllByRecursion IsOfNames d.subckts → AreWritable d.subckts

-- a name that isn't empty and holds no `=`
pub record IsReadableName (name : List ℕ) : Type 0 where
  pub some : 0 < length name
  pub other : AllByRecursion (λ b. b ≢ 61) name

-- so are the names of the subcircuits that are read
abbrev pub SubcktNamesAreReadable : Type 0
SubcktNamesAreReadable = (bytes : List ℕ) (d : Deck) → deck bytes ≡ Ok d → AllByRecursion (λ s. IsReadableName s.name) d.subckts

-- what is read has its names in lower case, so where it can be written it is read back as the same
abbrev pub DecksAreLowered : Type 0
DecksAreLowered = (bytes : List ℕ) (d : Deck) → deck bytes ≡ Ok d → map lowered_subckt d.subckts ≡ d.subckts
