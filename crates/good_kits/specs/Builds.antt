-- What a kit of which nothing is said promises of each build.
use Rattle.std.specs.Prelude.{◌⊎◌, ◌↔◌, ℕ, List, [], Ok, Err}
use Rattle.cell_roles.specs.declared.role.Role.TheVariants.{Sense, Write}
use Rattle.cell_hierarchy.specs.declared.fault.FlattenFault.{FlattenFault}
use Rattle.cell_hierarchy.specs.declared.fault.FlattenFault.TheVariants as flatten_fault
use Rattle.leaf_tables.specs.declared.kit.Kit.{Kit}
use Rattle.leaf_tables.specs.declared.part.PartFault.{PartFault}
use Rattle.leaf_tables.specs.declared.part.PartFault.TheVariants as part_fault
use Rattle.reply_lines.specs.declared.refusal.Refusal.{Refusal}
use Rattle.reply_lines.specs.declared.refusal.Refusal.TheVariants as refusal_of
use Rattle.or_host.specs.Files.{Files}
use Rattle.command_steps.specs.Once.{IsLow}
use Rattle.command_steps.specs.Outside.{Outside, IfTold}
use Rattle.kit_command.specs.WeakLines.{IsKitReplied}
use Rattle.kit_routes.specs.Routes.{IsWiderThanBit}
use Rattle.build_command.specs.declared.design.Design.{Design}
use Rattle.build_command.specs.Design.{IsKitUnder, IsDesign}
use Rattle.build_command.specs.Made.{IsWork}
use Rattle.build_command.specs.OneDesign.{HoldBytes}
use Rattle.build_command.specs.Words.{build}
use Rattle.build_command.specs.Run.{IsMakingRefused}

-- the files have a kit of this name, of which `kit` answers no line
pub record IsKitPassed (files : Files) (tech : List ℕ) : Type 0 where
  pub kit : Kit
  pub is : IsKitUnder files tech (Ok kit)
  pub silent : IsKitReplied kit (record { status = 0; lines = [] })

-- a fault of a part that such a kit leaves: a name that the macro needs is taken, or a cell is too wide
abbrev pub MayPartStillCome : PartFault → Type 0
MayPartStillCome (part_fault.NameTaken name) = Unit {0}
MayPartStillCome (part_fault.SliceTooNarrow role) = Unit {0}
MayPartStillCome fault = ⊥

-- a fault of the flat layout that such a kit leaves: its chains are too long, it has too many shapes or labels, or one lies beyond 32 bits
abbrev pub MayFlattenStillCome : FlattenFault → Type 0
MayFlattenStillCome (flatten_fault.TooDeep depth) = Unit {0}
MayFlattenStillCome (flatten_fault.TooMany shapes labels) = Unit {0}
MayFlattenStillCome (flatten_fault.Far x y) = Unit {0}
MayFlattenStillCome fault = ⊥

-- The refusals that such a kit leaves to a build: these, and no others. Pins or taps that are too close, a broken rule and nets that differ
-- are not among them.
abbrev pub MayStillCome : Refusal → Type 0
MayStillCome (refusal_of.Part fault) = MayPartStillCome fault
MayStillCome (refusal_of.Flatten fault) = MayFlattenStillCome fault
MayStillCome refusal = ⊥

-- The work on a configuration's file is refused with none but these, failed reads and want of memory aside; and where no name of the macro is taken, a cell is too wide exactly
-- where the sense cell or the write cell is wider than the columns of a bit.
pub record AreBuildsSpared (files : Files) (config_file : List ℕ) (design : Design) : Type 0 where
  pub refused : (refusal : Refusal) → IsLow refusal → IsWork files config_file (Err refusal) → MayStillCome refusal
  pub narrow : ((taken : List ℕ) → IsWork files config_file (Err (refusal_of.Part (part_fault.NameTaken taken))) → ⊥)
      → ((role : List ℕ) × IsWork files config_file (Err (refusal_of.Part (part_fault.SliceTooNarrow role)))) ↔ (IsWiderThanBit design.kit design.plan Sense ⊎ IsWiderThanBit design.kit design.plan Write)

-- So it is of each configuration that names a kit of which `kit` answers no line, over files of bytes.
abbrev pub GoodKitsSpareBuilds : Type 0
GoodKitsSpareBuilds = (files : Files) (config_file : List ℕ) (design : Design) → HoldBytes files → IsDesign files config_file (Ok design) → IsKitPassed files design.config.tech_name → AreBuildsSpared files config_file design

-- and each run over them that ends with a refusal ends with one of these
abbrev pub GoodKitsSpareRuns : Type 0
GoodKitsSpareRuns = (config_file : List ℕ) (before now : Outside) → (refused : IsMakingRefused (build config_file) before now)
    → IfTold before.store.files (λ files. (design : Design) → HoldBytes files → IsDesign files config_file (Ok design) → IsKitPassed files design.config.tech_name → MayStillCome refused.refusal)
