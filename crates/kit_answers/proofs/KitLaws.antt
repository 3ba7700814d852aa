-- Files are a kit, or have a fault.
use Rattle.std.proofs.Common.{◌≡◌, inl, inr, ℕ, List, Option, Some, None, Result, Ok, Err, refl}
use Rattle.gds_records.specs.Bytes.{AreBytes}
use Rattle.gds_library.specs.declared.library.Library.{Library}
use Rattle.gds_library.proofs.WritableLaws.{libraries_are_writable}
use Rattle.netlist.specs.declared.deck.Deck.{Deck}
use Rattle.spice_text.specs.declared.fault.SpiceFault.{SpiceFault}
use Rattle.spice_text.specs.declared.fault.SpiceFault.TheVariants as spice_fault
use Rattle.spice_text.specs.Deck.{deck}
use Rattle.tech_rules.specs.declared.tech.Tech.{Tech}
use Rattle.tech_rules.specs.declared.tech.Wire.{Wire}
use Rattle.tech_rules.specs.Facts.{IsTech}
use Rattle.role_tables.specs.Table.{HasTables}
use Rattle.leaf_tables.specs.declared.fault.KitFault.{KitFault}
use Rattle.leaf_tables.specs.declared.fault.KitFault.TheVariants as kit_fault
use Rattle.leaf_tables.specs.declared.kit.Leaf.{Leaf}
use Rattle.leaf_tables.specs.Alignment.{IsMisaligned}
use Rattle.leaf_tables.specs.Faults.{IsKitFault, IsSource, IsSpelled}
use Rattle.leaf_tables.specs.Leaves.{AreLeaves, IsFirstLeafFault, LeafSource}
use Rattle.leaf_tables.specs.Steps.{source_in}
use Rattle.kit_answers.proofs.CellAnswers.{CellsHaveFlatLists, cells_have_flat_lists}
use Rattle.kit_answers.specs.KitAnswers.{KitOrFault, KitsAnswer}
use Rattle.kit_answers.proofs.AlignAnswers.{aligned_or_fault}
use Rattle.kit_answers.proofs.LeafAnswers.{leaves_or_fault}
use Rattle.kit_answers.proofs.TableAnswers.{tables_or_fault}
use Rattle.kit_answers.proofs.TextAnswers.{deck_lasts}

-- the fault of a text's answer is that of a kit
text_fault : (tech : Tech) (gds sp : List ℕ) (fault : SpiceFault) → IsSpelled gds → deck sp ≡ Err fault → KitOrFault tech gds sp
text_fault tech gds sp spice_fault.Memory spelled e = absurd (deck_lasts sp e)
text_fault tech gds sp (spice_fault.NotAscii at) spelled e =
    inr (kit_fault.Spice (spice_fault.NotAscii at), λ f. absurd (cc), (λ f. absurd (cc), spelled, e))
text_fault tech gds sp (spice_fault.OutsideSubckt line) spelled e =
    inr (kit_fault.Spice (spice_fault.OutsideSubckt line), λ f. absurd (cc), (λ f. absurd (cc), spelled, e))
text_fault tech gds sp (spice_fault.Unclosed line) spelled e =
    inr (kit_fault.Spice (spice_fault.Unclosed line), λ f. absurd (cc), (λ f. absurd (cc), spelled, e))
text_fault tech gds sp (spice_fault.Duplicate line) spelled e =
    inr (kit_fault.Spice (spice_fault.Duplicate line), λ f. absurd (cc), (λ f. absurd (cc), spelled, e))
text_fault tech gds sp (spice_fault.Refused line) spelled e =
    inr (kit_fault.Spice (spice_fault.Refused line), λ f. absurd (cc), (λ f. absurd (cc), spelled, e))
text_fault tech gds sp (spice_fault.BadLine line) spelled e =
    inr (kit_fault.Spice (spice_fault.BadLine line), λ f. absurd (cc), (λ f. absurd (cc), spelled, e))

-- the fault of a first leaf, and one between leaves, are those of a kit
leaf_fault : (tech : Tech) (gds sp : List ℕ) (source : LeafSource) (fault : KitFault) → IsSource tech gds sp source → IsFirstLeafFault source fault
    → IsKitFault tech gds sp fault
leaf_fault tech gds sp source (kit_fault.Gds f) of first = absurd first.is
leaf_fault tech gds sp source (kit_fault.Spice f) of first = absurd first.is
leaf_fault tech gds sp source kit_fault.NoWire of first = absurd first.is
leaf_fault tech gds sp source (kit_fault.Table f) of first = absurd first.is
leaf_fault tech gds sp source (kit_fault.Flatten f) of first = record { source = source; of = of; is = first }
leaf_fault tech gds sp source (kit_fault.Outline role) of first = record { source = source; of = of; is = first }
leaf_fault tech gds sp source (kit_fault.UnknownSubckt name) of first = record { source = source; of = of; is = first }
leaf_fault tech gds sp source (kit_fault.PortsDiffer role) of first = record { source = source; of = of; is = first }
leaf_fault tech gds sp source (kit_fault.PinMissing role pin) of first = record { source = source; of = of; is = first }
leaf_fault tech gds sp source (kit_fault.PinLayer role pin) of first = record { source = source; of = of; is = first }
leaf_fault tech gds sp source (kit_fault.EdgePin role pin) of first = inl (record { source = source; of = of; is = first })
leaf_fault tech gds sp source (kit_fault.HeightDiffers role) of first = absurd first.is
leaf_fault tech gds sp source (kit_fault.WidthDiffers role) of first = absurd first.is
leaf_fault tech gds sp source kit_fault.Memory of first = tt

between_fault : (tech : Tech) (gds sp : List ℕ) (source : LeafSource) (leaves : List Leaf) (fault : KitFault) → IsSource tech gds sp source
    → AreLeaves source leaves → IsMisaligned leaves fault
    → IsKitFault tech gds sp fault
between_fault tech gds sp source leaves (kit_fault.Gds f) of are is = absurd is
between_fault tech gds sp source leaves (kit_fault.Spice f) of are is = absurd is
between_fault tech gds sp source leaves kit_fault.NoWire of are is = absurd is
between_fault tech gds sp source leaves (kit_fault.Table f) of are is = absurd is
between_fault tech gds sp source leaves (kit_fault.Flatten f) of are is = absurd is
between_fault tech gds sp source leaves (kit_fault.Outline role) of are is = absurd is
between_fault tech gds sp source leaves (kit_fault.UnknownSubckt name) of are is = absurd is
between_fault tech gds sp source leaves (kit_fault.PortsDiffer role) of are is = absurd is
between_fault tech gds sp source leaves (kit_fault.PinMissing role pin) of are is = absurd is
between_fault tech gds sp source leaves (kit_fault.PinLayer role pin) of are is = absurd is
between_fault tech gds sp source leaves (kit_fault.EdgePin role pin) of are is =
    inr (record { source = source; of = of; leaves = leaves; are = are; is = is })
between_fault tech gds sp source leaves (kit_fault.HeightDiffers role) of are is =
    record { source = source; of = of; leaves = leaves; are = are; is = is }
between_fault tech gds sp source leaves (kit_fault.WidthDiffers role) of are is =
    record { source = source; of = of; leaves = leaves; are = are; is = is }
between_fault tech gds sp source leaves kit_fault.Memory of are is = tt

module _ (flat : CellsHaveFlatLists) (tech : Tech) (gds sp : List ℕ) (good : IsTech tech) (bytes : AreBytes gds) (spelled : IsSpelled gds) where
  abbrev Lib : Library
  Lib = spelled.0

  by_leaves : (read : Deck) (wire : Wire) → deck sp ≡ Ok read → tech.wire ≡ Some wire → HasTables tech → KitOrFault tech gds sp
  by_leaves read wire text wired tables =
      let source = source_in tech wire Lib read in
      let library = libraries_are_writable gds Lib bytes spelled.1 in
      let of : IsSource tech gds sp source = record {
        of = refl;
        wire = wired;
        lib = Lib;
        spelled = spelled.1;
        structs = refl;
        read = read;
        text = text;
        subckts = refl;
        tables = tables;
      } in
      elim (leaves_or_fault source (λ top. flat tech Lib top good library) (λ role. (tables role).cell)) [
        | inr fault ↦ inr (fault.0, fault.1, leaf_fault tech gds sp source fault.0 of fault.2)
        | inl leaves ↦ elim (aligned_or_fault leaves.0) [
          | inr fault ↦ inr (fault.0, fault.1, between_fault tech gds sp source leaves.0 fault.0 of leaves.1 fault.2)
          | inl aligned ↦ inl (
            record { tech = tech; lib = Lib; deck = read; text = sp; leaves = leaves.0 },
            record {
              of = refl;
              spelled = spelled.1;
              text = refl;
              is =
                  record {
                    tech = good;
                    wire = wire;
                    wired = wired;
                    tables = tables;
                    library = library;
                    text = text;
                    leaves = leaves.1;
                    aligned = aligned;
                  };
            },
          )
        ]
      ]

  by_tables : (read : Deck) (wire : Wire) → deck sp ≡ Ok read → tech.wire ≡ Some wire → KitOrFault tech gds sp
  by_tables read wire text wired = elim (tables_or_fault tech) [
    | inl tables ↦ by_leaves read wire text wired tables
    | inr fault ↦ inr (kit_fault.Table fault.0, λ e. absurd (cc), (fault.1, (spelled, (read, text)), (wire, wired), fault.2))
  ]

  by_wire : (read : Deck) → deck sp ≡ Ok read → (wire : Option Wire) → tech.wire ≡ wire → KitOrFault tech gds sp
  by_wire read text None none = inr (kit_fault.NoWire, λ e. absurd (cc), ((spelled, (read, text)), none))
  by_wire read text (Some wire) wired = by_tables read wire text wired

  by_text : (answer : Result Deck SpiceFault) → deck sp ≡ answer → KitOrFault tech gds sp
  by_text (Ok read) text = by_wire read text tech.wire refl
  by_text (Err fault) e = text_fault tech gds sp fault spelled e

  kit_or_fault : KitOrFault tech gds sp
  kit_or_fault = by_text (deck sp) refl

pub kits_answer : KitsAnswer
kits_answer = kit_or_fault cells_have_flat_lists
