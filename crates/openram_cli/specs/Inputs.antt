-- What a command reads: its files in the order of its words, each decoded before the next is read.
use Rattle.std.specs.Prelude.{◌≡◌, ◌≢◌, ℕ, List, [], ◌++◌, Result, Ok, Err, codes}
use Rattle.or_host.specs.Files.{Files}
use Rattle.gds_library.specs.declared.library.Library.{Library}
use Rattle.gds_library.specs.FirstFault.{IsFaultOf}
use Rattle.gds_library.specs.Grammar.{Spells}
use Rattle.gds_library.specs.Writable.{IsWritable}
use Rattle.tech_rules.specs.Facts.{IsTech}
use Rattle.tech_rules.specs.declared.tech.Tech.{Tech}
use Rattle.netlist.specs.declared.deck.Deck.{Deck}
use Rattle.spice_text.specs.Deck.{deck}
use Rattle.leaf_tables.specs.Kits.{IsKit}
use Rattle.reply_lines.specs.declared.refusal.Refusal.{Refusal}
use Rattle.reply_lines.specs.declared.refusal.Refusal.TheVariants as refusal_of
use Rattle.openram_cli.specs.declared.inputs.Inputs.{Inputs}
use Rattle.openram_cli.specs.declared.inputs.Inputs.TheVariants as inputs
use Rattle.openram_cli.specs.declared.inputs.LayoutInput.{LayoutInput}
use Rattle.openram_cli.specs.declared.inputs.LeafCells.{LeafCells}
use Rattle.openram_cli.specs.Inspection.{Inspection, LayoutWords}
use Rattle.openram_cli.specs.Inspection.Inspection.{check, nets, compare, devices, kit}
use Rattle.build_command.specs.Design.{IsKitUnder}
use Rattle.command_steps.specs.File.{IsFile, IsTechnologyFile}
use Rattle.command_steps.specs.Outcome.{WithoutRefusal, ValueOrFault, Then}

-- the library that bytes spell, or their first fault
abbrev pub IsLibrary : List ℕ → Result Library Refusal → Type 0
IsLibrary bytes = ValueOrFault (Spells bytes) (λ fault. IsFaultOf fault bytes) refusal_of.Gds

-- the deck that bytes are, or their first fault
abbrev pub IsDeck : List ℕ → Result Deck Refusal → Type 0
IsDeck bytes = ValueOrFault (λ d. deck bytes ≡ Ok d) (λ fault. deck bytes ≡ Err fault) refusal_of.Spice

-- files, read and decoded
abbrev pub IsLibraryFile : Files → List ℕ → Result Library Refusal → Type 0
IsLibraryFile files name = Then (IsFile files name) IsLibrary

abbrev pub IsDeckFile : Files → List ℕ → Result Deck Refusal → Type 0
IsDeckFile files name = Then (IsFile files name) IsDeck

-- the layout after the technology
abbrev pub IsLayoutWith : Files → LayoutWords → Tech → Result LayoutInput Refusal → Type 0
IsLayoutWith files words tech =
    Then (IsLibraryFile files words.gds) (λ lib. WithoutRefusal (λ layout. layout ≡ record { tech = tech; lib = lib; top = words.top }))

-- the technology first, and then the layout
abbrev pub IsLayout : Files → LayoutWords → Result LayoutInput Refusal → Type 0
IsLayout files words = Then (IsTechnologyFile files words.tech) (IsLayoutWith files words)

-- the netlist after the layout
abbrev pub AreCompared : Files → List ℕ → LayoutInput → Result Inputs Refusal → Type 0
AreCompared files netlist layout = Then (IsDeckFile files netlist) (λ d. WithoutRefusal (λ read. read ≡ inputs.Compare layout d))

-- a technology that has kinds of transistors, or that it has none
abbrev pub HasDevices : Tech → Result Tech Refusal → Type 0
HasDevices tech (Ok same) = (same ≡ tech) × (tech.devices ≢ [])
HasDevices tech (Err refusal) = (refusal ≡ refusal_of.NoDevices) × (tech.devices ≡ [])

-- the technology of this name, before anything else is read
abbrev pub IsDeviceTechnology : Files → List ℕ → Result Tech Refusal → Type 0
IsDeviceTechnology files name = Then (IsTechnologyFile files (name ++ codes ".toml")) HasDevices

-- the subcircuits after the layout
abbrev pub AreCellsOver : Files → List ℕ → Tech → Library → Result LeafCells Refusal → Type 0
AreCellsOver files name tech lib =
    Then (IsDeckFile files (name ++ codes ".sp")) (λ d. WithoutRefusal (λ cells. cells ≡ record { tech = tech; lib = lib; deck = d }))

-- the layout after the technology
abbrev pub AreCellsWith : Files → List ℕ → Tech → Result LeafCells Refusal → Type 0
AreCellsWith files name tech = Then (IsLibraryFile files (name ++ codes ".gds")) (AreCellsOver files name tech)

-- the leaf cells of the technology of this name
abbrev pub AreLeafCells : Files → List ℕ → Result LeafCells Refusal → Type 0
AreLeafCells files name = Then (IsDeviceTechnology files name) (AreCellsWith files name)

-- what the files of a command hold; a comparison reads the netlist last
abbrev pub AreInputs : Files → Inspection → Result Inputs Refusal → Type 0
AreInputs files (check words) = Then (IsLayout files words) (λ layout. WithoutRefusal (λ read. read ≡ inputs.Check layout))
AreInputs files (nets words) = Then (IsLayout files words) (λ layout. WithoutRefusal (λ read. read ≡ inputs.Nets layout))
AreInputs files (compare words netlist) = Then (IsLayout files words) (AreCompared files netlist)
AreInputs files (devices name) = Then (AreLeafCells files name) (λ cells. WithoutRefusal (λ read. read ≡ inputs.Devices cells))
AreInputs files (kit name) = Then (IsKitUnder files name) (λ made. WithoutRefusal (λ read. read ≡ inputs.Kit made))

-- what is known of every technology and every library that is read
pub record IsReadLayout (layout : LayoutInput) : Type 0 where
  pub tech : IsTech layout.tech
  pub writable : IsWritable layout.lib

pub record AreSoundCells (cells : LeafCells) : Type 0 where
  pub tech : IsTech cells.tech
  pub writable : IsWritable cells.lib

abbrev pub AreSound : Inputs → Type 0
AreSound (inputs.Check layout) = IsReadLayout layout
AreSound (inputs.Nets layout) = IsReadLayout layout
AreSound (inputs.Compare layout d) = IsReadLayout layout
AreSound (inputs.Devices cells) = AreSoundCells cells
AreSound (inputs.Kit made) = IsKit made
