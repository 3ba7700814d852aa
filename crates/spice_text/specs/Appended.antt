-- Subcircuits written after a text.
use Rattle.std.specs.Prelude.{◌≡◌, ℕ, List, [], ◌∷◌, ◌++◌, length, take, map, false, if◌then◌else◌, Ok}
use Rattle.std.specs.List.{AllByRecursion}
use Rattle.netlist.specs.declared.deck.Deck.{Deck}
use Rattle.netlist.specs.declared.deck.Subckt.{Subckt}
use Rattle.spice_text.specs.Lines.{is_lf}
use Rattle.spice_text.specs.Words.{is_among}
use Rattle.spice_text.specs.Subcircuits.{name_of}
use Rattle.spice_text.specs.Deck.{deck}
use Rattle.spice_text.specs.WrittenText.{deck_text}
use Rattle.spice_text.specs.Writable.{AreWritable, subckt_name, lowered_subckt}

-- with one LF at the end, unless it is empty or ends by one
abbrev pub with_lf : List ℕ → List ℕ
with_lf [] = []
with_lf (b ∷ []) = if is_lf b then b ∷ [] else b ∷ 10 ∷ []
with_lf (b ∷ c ∷ bytes) = b ∷ with_lf (c ∷ bytes)

-- no name of these is one of those, without regard to case
abbrev pub AreNew : List Subckt → List Subckt → Type 0
AreNew before subckts = AllByRecursion (λ name. is_among name (map name_of before) ≡ false) (map subckt_name subckts)

-- the bytes that were read, and subcircuits after them
abbrev pub appended : Deck → List ℕ → List Subckt → List ℕ
appended d bytes subckts = with_lf (take d.used bytes) ++ deck_text subckts

-- subcircuits that are written after a deck's bytes are read after the deck's own
abbrev pub AppendedIsRead : Type 0
AppendedIsRead = (bytes : List ℕ) (d : Deck) (subckts : List Subckt) → deck bytes ≡ Ok d → AreWritable subckts → AreNew d.subckts subckts
    → deck (appended d bytes subckts) ≡ Ok (record { subckts = d.subckts ++ map lowered_subckt subckts; used = length (appended d bytes subckts) })
