-- The quick check of a kit: all windows are made and flattened, and no loose shape touches another outside, but rules and nets are looked at in windows of few bits alone.
-- For macros as a build assembles them it suffices (quick_checks).
use Rattle.std.specs.Prelude.{◌≡◌, ◌⊎◌, ◌<◌, ◌≤◌, ℕ, Bool, true, List, [], Some, Result, Ok, Err, slice_get}
use Rattle.or_geom.specs.declared.memory.Memory.{Memory}
use Rattle.gds_library.specs.declared.library.Library.{Library}
use Rattle.netlist.specs.declared.deck.Deck.{Deck}
use Rattle.cell_hierarchy.specs.FlatLists.{AreFlatLists}
use Rattle.cell_hierarchy.specs.Plain.{FlatLists}
use Rattle.tile_checker.specs.RuleReport.{IsReport}
use Rattle.sram_netlist.specs.Organization.{Organization}
use Rattle.sram_plan.specs.PlanNumbers.{organization}
use Rattle.leaf_tables.specs.declared.kit.Kit.{Kit}
use Rattle.leaf_tables.specs.declared.part.PartFault.{PartFault}
use Rattle.leaf_tables.specs.declared.part.PartFault.TheVariants as part_fault
use Rattle.leaf_nets.specs.Leaves.{HaveRightPins}
use Rattle.kit_rules.specs.First.{EachHas}
use Rattle.kit_check.specs.declared.window.Window.{Window}
use Rattle.kit_check.specs.Windows.{all_windows, plan_of}
use Rattle.kit_check.specs.FreeName.{IsWindowName}
use Rattle.kit_check.specs.Judged.{MatchIn, TouchesOutside}
use Rattle.kit_check.specs.Good.{Answers, AreWiresGood}

-- nets are looked at in memories of at most four bits
abbrev pub AreNetsLookedAt : Organization → Type 0
AreNetsLookedAt memory = memory.word_size ≤ 4

-- and rules in those of them whose bits are all written at once, or that have three
pub record AreRulesLookedAt (memory : Organization) : Type 0 where
  pub few : memory.word_size ≤ 4
  pub written : (memory.masks ≡ 0) ⊎ (memory.word_size ≡ 3)

-- The made macro of a memory is flat, its rules and nets are in order if they are looked at, and no loose shape touches another outside.
pub record IsPassingMacro (kit : Kit) (name : List ℕ) (memory : Organization) (lib : Library) (deck : Deck) : Type 0 where
  pub lists : FlatLists
  pub flat : AreFlatLists kit.tech.layers lib.structs name lists
  pub clean : AreRulesLookedAt memory → IsReport kit.tech.rules lists.shapes []
  pub matching : AreNetsLookedAt memory → MatchIn kit name deck lists
  pub apart : TouchesOutside kit name lib.structs → ⊥

-- an answer is such a macro, or cells that are too wide for the columns of a bit
abbrev pub IsPassingAnswer : Kit → List ℕ → Organization → Result (Library × Deck) PartFault → Type 0
IsPassingAnswer kit name memory (Ok made) = IsPassingMacro kit name memory made.0 made.1
IsPassingAnswer kit name memory (Err (part_fault.SliceTooNarrow role)) = Unit {0}
IsPassingAnswer kit name memory (Err fault) = ⊥

-- the maker's answer for the window is
pub record IsPassingWindow (answers : Answers) (kit : Kit) (name : List ℕ) (w : Window) : Type 0 where
  pub answer : Result (Library × Deck) PartFault
  pub is : answers kit (plan_of w) name answer
  pub sound : IsPassingAnswer kit name (organization (plan_of w)) answer

-- each window that is made under the windows' name passes
pub record ArePassingWindows (answers : Answers) (kit : Kit) : Type 0 where
  pub name : List ℕ
  pub named : IsWindowName kit name
  pub each : EachHas (IsPassingWindow answers kit name) all_windows

-- A kit that passes the quick check: as a good one, but for the windows.
pub record PassesQuickCheck (answers : Answers) (kit : Kit) : Type 0 where
  pub wires : AreWiresGood kit
  pub pins : HaveRightPins kit
  pub windows : ArePassingWindows answers kit

-- the window at the index passes
abbrev pub PassesAt : Answers → Kit → List ℕ → ℕ → Type 0
PassesAt answers kit name index = (w : Window) → slice_get all_windows index ≡ Some w → IsPassingWindow answers kit name w

-- the windows with these indices pass
abbrev pub PassAmong : (ℕ → Type 0) → Answers → Kit → List ℕ → Type 0
PassAmong Mine answers kit name = (index : ℕ) → Mine index → PassesAt answers kit name index

-- each worker found that its windows pass
abbrev pub AllFoundTrue : List (Result Bool Memory) → ℕ → Type 0
AllFoundTrue found count = (worker : ℕ) (one : Result Bool Memory) → worker < count → slice_get found worker ≡ Some one → one ≡ Ok true
