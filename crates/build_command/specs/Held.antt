-- The memory that files hold once it is built.
use Rattle.std.specs.Prelude.{◌≡◌, ℕ, List, [], ◌++◌, Some, Ok, codes}
use Rattle.or_host.specs.FileList.{files_of}
use Rattle.or_host.specs.Files.{Files}
use Rattle.or_host.specs.declared.file.MemFile.{MemFile}
use Rattle.macro_build.specs.Built.{IsBuilt}
use Rattle.macro_build.specs.declared.built.Built.{Built}
use Rattle.build_command.specs.declared.design.Design.{Design}
use Rattle.build_command.specs.declared.rom_design.RomDesign.{RomDesign}
use Rattle.build_command.specs.Demonstration.{demo_files}
use Rattle.build_command.specs.Design.{IsDesign}
use Rattle.build_command.specs.RomDesign.{IsRomDesign}
use Rattle.build_command.specs.Made.{view_name, Ordered, order_of, order_of_rom}
use Rattle.build_command.specs.Words.{Making}
use Rattle.build_command.specs.Words.Making.{build, demo, rom}

-- the files that are written before the work: those of a demonstration
abbrev pub first_files : Making → List MemFile
first_files (build config) = []
first_files (demo n) = demo_files n
first_files (rom config content) = []

-- the files that the work looks at: the store's, or those of the demonstration themselves
abbrev pub files_seen : Making → Files → Files
files_seen (build config) files = files
files_seen (demo n) files = files_of (demo_files n)
files_seen (rom config content) files = files

-- the file of the configuration
abbrev pub config_name : Making → List ℕ
config_name (build config) = config
config_name (demo n) = codes "demo.toml"
config_name (rom config content) = config

-- the files ask for this
abbrev pub IsOrdered : Making → Files → Ordered → Type 0
IsOrdered (rom config content) files order = (rom : RomDesign) × IsRomDesign files config content (Ok rom) × (order ≡ order_of_rom rom)
IsOrdered m files order = (design : Design) × IsDesign (files_seen m files) (config_name m) (Ok design) × (order ≡ order_of design)

-- each of the four views stands under its name
pub record HoldViews (name : List ℕ) (built : Built) (files : Files) : Type 0 where
  pub netlist : files (name ++ codes ".sp") ≡ Some built.spice.items
  pub layout : files (name ++ codes ".gds") ≡ Some built.gds.items
  pub abstract : files (name ++ codes ".lef") ≡ Some built.lef.items
  pub behaviour : files (name ++ codes ".v") ≡ Some built.verilog.items

-- The files at the end hold the memory that those at the start ask for: the views of what was built. Its layout is the stated one, breaks
-- no rule and is joined exactly as its netlist says, and that netlist answers every list of reads and writes as an array of words; a
-- read-only memory's answers every list of reads with the words of the data file. Whichever module the Verilog spells answers so too, and,
-- begun with the same words, as the netlist.
pub record IsMemoryHeld (m : Making) (before now : Files) : Type 0 where
  pub order : Ordered
  pub is_ordered : IsOrdered m before order
  pub built : Built
  pub is_built : IsBuilt order.kit order.plan order.held order.config.output_name built
  pub held : HoldViews (view_name order.config) built now
