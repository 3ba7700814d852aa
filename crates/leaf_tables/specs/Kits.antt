-- What a kit is.
use Rattle.std.specs.Prelude.{◌≡◌, ℕ, List, Some, Ok}
use Rattle.gds_library.specs.Grammar.{Spells}
use Rattle.gds_library.specs.Writable.{IsWritable}
use Rattle.spice_text.specs.Deck.{deck}
use Rattle.tech_rules.specs.declared.tech.Tech.{Tech}
use Rattle.tech_rules.specs.declared.tech.Wire.{Wire}
use Rattle.tech_rules.specs.Facts.{IsTech}
use Rattle.role_tables.specs.Table.{HasTables}
use Rattle.leaf_tables.specs.declared.kit.Kit.{Kit}
use Rattle.leaf_tables.specs.Leaves.{LeafSource, AreLeaves}
use Rattle.leaf_tables.specs.Alignment.{AreAligned}

-- what the kit's leaf cells were read from
abbrev pub source_of : Kit → Wire → LeafSource
source_of kit wire = record { tech = kit.tech; wire = wire; structs = kit.lib.structs; subckts = kit.deck.subckts }

-- A kit: the technology says what wires are drawn with and has each role's table; the library can be written, and the deck
-- is that of the text; each role has its leaf; and the leaves fit each other.
pub record IsKit (kit : Kit) : Type 0 where
  pub tech : IsTech kit.tech
  pub wire : Wire
  pub wired : kit.tech.wire ≡ Some wire
  pub tables : HasTables kit.tech
  pub library : IsWritable kit.lib
  pub text : deck kit.text ≡ Ok kit.deck
  pub leaves : AreLeaves (source_of kit wire) kit.leaves
  pub aligned : AreAligned kit.leaves

-- the kit of a technology and of these files
pub record IsKitOf (tech : Tech) (gds sp : List ℕ) (kit : Kit) : Type 0 where
  pub of : kit.tech ≡ tech
  pub spelled : Spells gds kit.lib
  pub text : kit.text ≡ sp
  pub is : IsKit kit
