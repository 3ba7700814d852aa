-- What is written is read.
use Rattle.std.specs.Prelude.{◌≡◌, ℕ, List, length, map, Ok}
use Rattle.netlist.specs.declared.deck.Subckt.{Subckt}
use Rattle.spice_text.specs.Deck.{deck}
use Rattle.spice_text.specs.Writable.{lowered_subckt}

-- the text is the deck of these subcircuits with names in lower case
abbrev pub IsReadAs : List Subckt → List ℕ → Type 0
IsReadAs subckts text = deck text ≡ Ok (record { subckts = map lowered_subckt subckts; used = length text })
