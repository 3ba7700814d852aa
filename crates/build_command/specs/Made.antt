-- What is made of what is asked for: views under their names, and a line.
use Rattle.std.specs.Prelude.{◌≡◌, ℕ, List, [], ◌∷◌, ◌++◌, Option, Some, None, Result, codes}
use Rattle.std.specs.Fmt.{decimal, signed_decimal}
use Rattle.or_host.specs.Files.{Files}
use Rattle.or_host.specs.declared.file.MemFile.{MemFile}
use Rattle.sram_plan.specs.declared.config.Config.{Config}
use Rattle.sram_plan.specs.declared.numbers.Plan.{Plan}
use Rattle.tech_rules.specs.declared.tech.Layer.{Layer}
use Rattle.macro_build.specs.Built.{IsBuilt, IsBuildFault}
use Rattle.macro_build.specs.declared.built.Built.{Built}
use Rattle.macro_build.specs.declared.built.BuildFault.{BuildFault}
use Rattle.macro_build.specs.declared.built.BuildFault.TheVariants as fault
use Rattle.reply_lines.specs.Lines.{reply_line}
use Rattle.reply_lines.specs.declared.refusal.Refusal.{Refusal}
use Rattle.reply_lines.specs.declared.refusal.Refusal.TheVariants as refusal_of
use Rattle.reply_lines.specs.declared.reply.Reply.{Reply}
use Rattle.command_steps.specs.Outcome.{ValueOrFault, Then}
use Rattle.leaf_tables.specs.declared.kit.Kit.{Kit}
use Rattle.port_lists.specs.Held.{Held}
use Rattle.port_lists.specs.Held.Held.{Stored, Fixed}
use Rattle.sram_plan.specs.PlanNumbers.{read_only_plan}
use Rattle.build_command.specs.declared.design.Design.{Design}
use Rattle.build_command.specs.declared.rom_design.RomDesign.{RomDesign}
use Rattle.build_command.specs.declared.made.Made.{Made}
use Rattle.build_command.specs.Design.{IsDesign}
use Rattle.build_command.specs.RomDesign.{IsRomDesign}

-- the views' names without their endings: in the folder, if there is one
abbrev pub in_folder : Option (List ℕ) → List ℕ → List ℕ
in_folder None name = name
in_folder (Some folder) name = folder ++ 47 ∷ name

abbrev pub view_name : Config → List ℕ
view_name config = in_folder config.output_path config.output_name

-- the four views, in the order in which they are written
abbrev pub views : Config → Built → List MemFile
views config built =
    record { name = view_name config ++ codes ".sp"; bytes = built.spice.items }
    ∷ record { name = view_name config ++ codes ".gds"; bytes = built.gds.items }
    ∷ record { name = view_name config ++ codes ".lef"; bytes = built.lef.items }
    ∷ record { name = view_name config ++ codes ".v"; bytes = built.verilog.items }
    ∷ []

-- rows and columns are those of a bank
abbrev pub count_words : Plan → List (List ℕ)
count_words plan = codes "rows" ∷ decimal plan.rows ∷ codes "columns" ∷ decimal plan.columns ∷ []

-- the main channel's tracks, and the leaf instances
abbrev pub use_words : Built → List (List ℕ)
use_words built = codes "tracks" ∷ decimal built.tracks ∷ codes "leaves" ∷ decimal built.leaves ∷ []

-- the macro's sides
abbrev pub size_words : Built → List (List ℕ)
size_words built = codes "size" ∷ signed_decimal built.width ∷ signed_decimal built.height ∷ []

abbrev pub success_words : List ℕ → Plan → Built → List (List ℕ)
success_words name plan built = name ∷ (count_words plan ++ (use_words built ++ size_words built))

-- the answer to a build that is done: status 0 and its line
abbrev pub success_reply : List ℕ → Plan → Built → Reply
success_reply name plan built = record { status = 0; lines = reply_line (success_words name plan built) ∷ [] }

-- what is made of a design that was built
abbrev pub made_of : Config → Plan → Built → Made
made_of config plan built = record { views = views config built; reply = success_reply config.output_name plan built }

-- What is asked for: a configuration, the kit that it names, a plan, and what the bits are.
pub record Ordered : Type 0 where
  pub config : Config
  pub kit : Kit
  pub plan : Plan
  pub held : Held

abbrev pub ordered : Config → Kit → Plan → Held → Ordered
ordered config kit plan held = record { config = config; kit = kit; plan = plan; held = held }

-- the memory of a design is written and read
abbrev pub order_of : Design → Ordered
order_of design = ordered design.config design.kit design.plan Stored

-- the read-only memory of a design and words has a plan in which nothing is written
abbrev pub order_of_rom : RomDesign → Ordered
order_of_rom rom = ordered rom.design.config rom.design.kit (read_only_plan rom.design.plan) (Fixed rom.words)

-- views and the line of a build of it
pub record IsMadeOf (order : Ordered) (made : Made) : Type 0 where
  pub built : Built
  pub is_built : IsBuilt order.kit order.plan order.held order.config.output_name built
  pub is : made ≡ made_of order.config order.plan built

-- why nothing is built, as it is printed: a shape's layer has its name
abbrev pub refusal_in : List Layer → BuildFault → Refusal
refusal_in layers (fault.Part part) = refusal_of.Part part
refusal_in layers (fault.Flatten flatten) = refusal_of.Flatten flatten
refusal_in layers (fault.RuleBroken violation) = refusal_of.RuleBroken layers violation
refusal_in layers (fault.NetsDiffer difference) = refusal_of.NetsDiffer difference
refusal_in layers fault.Memory = refusal_of.Memory

-- what is made of it, or the first reason why nothing is
abbrev pub IsOrderMade : Ordered → Result Made Refusal → Type 0
IsOrderMade order = ValueOrFault (IsMadeOf order) (IsBuildFault order.kit order.plan order.held order.config.output_name) (refusal_in order.kit.tech.layers)

-- all the work on a configuration's file: the design is read, and the memory is made
abbrev pub IsWork : Files → List ℕ → Result Made Refusal → Type 0
IsWork files name = Then (IsDesign files name) (λ design. IsOrderMade (order_of design))

-- all the work on a configuration's file and a data file
abbrev pub IsRomWork : Files → List ℕ → List ℕ → Result Made Refusal → Type 0
IsRomWork files name content = Then (IsRomDesign files name content) (λ rom. IsOrderMade (order_of_rom rom))
