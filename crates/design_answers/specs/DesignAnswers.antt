-- Files ask for a kit, a design or a read-only memory, or are refused, and nothing is left open.
use Rattle.std.specs.Prelude.{ℕ, List, Result}
use Rattle.or_host.specs.Files.{Files}
use Rattle.reply_lines.specs.declared.refusal.Refusal.{Refusal}
use Rattle.command_steps.specs.Once.{IsDecided}
use Rattle.build_command.specs.Design.{IsDesign, IsKitUnder}
use Rattle.build_command.specs.OneDesign.{HoldBytes}
use Rattle.build_command.specs.RomDesign.{IsRomDesign}

-- some outcome that leaves nothing open has P
abbrev pub HasOutcome : {X : Type 0} → (Result X Refusal → Type 0) → Type 0
HasOutcome {X} P = (result : Result X Refusal) × IsDecided result × P result

-- over files of bytes each name has a kit, or a refusal
abbrev pub KitNamesAnswer : Type 0
KitNamesAnswer = (files : Files) (name : List ℕ) → HoldBytes files → HasOutcome (IsKitUnder files name)

-- and a design, or a refusal
abbrev pub DesignsAnswer : Type 0
DesignsAnswer = (files : Files) (name : List ℕ) → HoldBytes files → HasOutcome (IsDesign files name)

-- and each two names have a read-only memory, or a refusal
abbrev pub RomDesignsAnswer : Type 0
RomDesignsAnswer = (files : Files) (name content : List ℕ) → HoldBytes files → HasOutcome (IsRomDesign files name content)
