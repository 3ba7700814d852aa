-- What a part of a memory adds to the subcircuits.
use Rattle.std.specs.Prelude.{[], ◌∷◌, ◌++◌}
use Rattle.netlist.specs.declared.deck.Deck.{Deck}
use Rattle.netlist.specs.declared.deck.Subckt.{Subckt}

-- it stands behind those that were there, and nothing else is changed
abbrev pub with_subckt : Subckt → Deck → Deck
with_subckt subckt deck = record { subckts = deck.subckts ++ subckt ∷ []; used = deck.used }
