-- The exit status of each refusal.
use Rattle.std.specs.Prelude.{ℕ, Bool, true, false, if◌then◌else◌}
use Rattle.gds_library.specs.declared.fault.GdsFault.TheVariants as gds
use Rattle.tech_rules.specs.declared.fault.TechFault.TheVariants as tech
use Rattle.spice_text.specs.declared.fault.SpiceFault.TheVariants as spice
use Rattle.spice_netlist.specs.declared.fault.FlatFault.TheVariants as rows
use Rattle.cell_hierarchy.specs.declared.fault.FlattenFault.TheVariants as flatten
use Rattle.sram_plan.specs.declared.fault.ConfigFault.TheVariants as config
use Rattle.role_tables.specs.declared.fault.TableFault.TheVariants as table
use Rattle.leaf_tables.specs.declared.fault.KitFault.TheVariants as kit
use Rattle.leaf_tables.specs.declared.part.PartFault.TheVariants as part
use Rattle.rom_data.specs.declared.fault.RomFault.TheVariants as rom
use Rattle.reply_lines.specs.declared.refusal.Refusal.{Refusal}
use Rattle.reply_lines.specs.declared.refusal.Refusal.TheVariants.{Usage, ReadFailed, Tech, Gds, Spice, Flatten, Rows, Config, Kit, Part, Rom, Memory}

-- out of memory, here or in a layer below
abbrev pub is_memory : Refusal → Bool
is_memory Memory = true
is_memory (Tech tech.Memory) = true
is_memory (Gds gds.Memory) = true
is_memory (Spice spice.Memory) = true
is_memory (Flatten flatten.Memory) = true
is_memory (Rows rows.Memory) = true
is_memory (Config config.Memory) = true
is_memory (Kit (kit.Gds gds.Memory)) = true
is_memory (Kit (kit.Spice spice.Memory)) = true
is_memory (Kit (kit.Table table.Memory)) = true
is_memory (Kit (kit.Flatten flatten.Memory)) = true
is_memory (Kit kit.Memory) = true
is_memory (Part part.Memory) = true
is_memory (Rom rom.Memory) = true
is_memory other = false

-- a file couldn't be read
abbrev pub is_read_failure : Refusal → Bool
is_read_failure (ReadFailed name) = true
is_read_failure other = false

-- the words are no form
abbrev pub is_usage : Refusal → Bool
is_usage Usage = true
is_usage other = false

-- 2: the words are no form; 3: an input is refused; 4: a file couldn't be read; 5: out of memory
abbrev pub refusal_status : Refusal → ℕ
refusal_status r = if is_memory r then 5 else (if is_read_failure r then 4 else (if is_usage r then 2 else 3))
