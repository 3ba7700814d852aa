-- The forms of the words that ask a question of files.
use Rattle.std.specs.Prelude.{ℕ, List, [], ◌∷◌, ◌&&◌, Option, Some, None, if◌then◌else◌, codes}
use Rattle.std.specs.Str.{bytes_eq}
use Rattle.command_steps.specs.Workers.{is_workers}
use Rattle.sram_plan.specs.Config.{is_file_text}

-- the files of a technology and of a layout, and the name of a structure
pub record LayoutWords : Type 0 where
  pub tech : List ℕ
  pub gds : List ℕ
  pub top : List ℕ

-- the report of a structure, its nets, or its first difference from the netlist in the file of this name; or the first difference of
-- transistors in the leaf cells of the technology of this name, or the first weakness of the kit of this name
pub data Inspection : Type 0 where
  check : LayoutWords → Inspection
  nets : LayoutWords → Inspection
  compare : LayoutWords → List ℕ → Inspection
  devices : List ℕ → Inspection
  kit : List ℕ → Inspection

-- check TECH GDS TOP WORKERS
abbrev pub check_form : List (List ℕ) → Option Inspection
check_form (command ∷ tech ∷ gds ∷ top ∷ workers ∷ []) =
    if bytes_eq command (codes "check") && is_workers workers then Some (check (record { tech = tech; gds = gds; top = top })) else None
check_form words = None

-- nets TECH GDS TOP
abbrev pub nets_form : List (List ℕ) → Option Inspection
nets_form (command ∷ tech ∷ gds ∷ top ∷ []) =
    if bytes_eq command (codes "nets") then Some (nets (record { tech = tech; gds = gds; top = top })) else None
nets_form words = None

-- compare TECH GDS SP TOP
abbrev pub compare_form : List (List ℕ) → Option Inspection
compare_form (command ∷ tech ∷ gds ∷ netlist ∷ top ∷ []) =
    if bytes_eq command (codes "compare") then Some (compare (record { tech = tech; gds = gds; top = top }) netlist) else None
compare_form words = None

-- devices TECH, a name that a configuration may give its technology
abbrev pub devices_form : List (List ℕ) → Option Inspection
devices_form (command ∷ tech ∷ []) = if bytes_eq command (codes "devices") && is_file_text tech then Some (devices tech) else None
devices_form words = None

-- kit TECH WORKERS
abbrev pub kit_form : List (List ℕ) → Option Inspection
kit_form (command ∷ tech ∷ workers ∷ []) = if bytes_eq command (codes "kit") && is_file_text tech && is_workers workers then Some (kit tech) else None
kit_form words = None

abbrev pub or_else : Option Inspection → Option Inspection → Option Inspection
or_else None other = other
or_else (Some command) other = Some command

-- what the words ask of files, if they do
abbrev pub inspection_of : List (List ℕ) → Option Inspection
inspection_of words = or_else (check_form words) (or_else (nets_form words) (or_else (compare_form words) (or_else (devices_form words) (kit_form words))))
