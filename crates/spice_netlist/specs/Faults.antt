-- Which refusal comes first, and what the rows are where none does.
use Rattle.std.specs.Prelude.{◌≡◌, ◌⊎◌, ℕ, ◌+◌, ◌<◌, ◌≤◌, List, length, Option, None, Some}
use Rattle.or_geom.specs.Least.{IsLeast}
use Rattle.netlist.specs.declared.deck.Subckt.{Subckt}
use Rattle.netlist.specs.declared.rows.RowPin.{RowPin}
use Rattle.reference_graph.specs.Reaches.{Reaches, ReachesItself, IsAcyclic}
use Rattle.spice_netlist.specs.declared.resolved.ResolvedSubckt.{ResolvedSubckt}
use Rattle.spice_netlist.specs.declared.fault.FlatFault.{FlatFault}
use Rattle.spice_netlist.specs.declared.fault.FlatFault.TheVariants.{UnknownSubckt, Cycle, PortCount, TooMany, Memory}
use Rattle.spice_netlist.specs.Limits.{most_leaves, most_pins}
use Rattle.spice_netlist.specs.Least.{IsMissingIn}
use Rattle.spice_text.specs.Words.{lower}
use Rattle.spice_netlist.specs.Names.{index_of}
use Rattle.spice_netlist.specs.Resolved.{names_of, resolved_subckts, subckt_name_at, instances_at, graph}
use Rattle.spice_netlist.specs.Walk.{walk_at, first_bad, leaf_count}
use Rattle.spice_netlist.specs.Pins.{named_rows}
use Rattle.spice_netlist.specs.Numbers.{AreNumberedRows}

-- a subcircuit that the top reaches refers to the name, and it isn't there
pub record IsUnknownSubckt (subckts : List ResolvedSubckt) (top : ℕ) (name : List ℕ) : Type 0 where
  pub index : ℕ
  pub reached : Reaches (graph subckts) top index
  pub missing : IsMissingIn (instances_at subckts index) name

-- the name is that of a subcircuit that the top reaches and that reaches itself
pub record IsCyclicSubckt (subckts : List ResolvedSubckt) (top : ℕ) (name : List ℕ) : Type 0 where
  pub index : ℕ
  pub reached : Reaches (graph subckts) top index
  pub itself : ReachesItself (graph subckts) index
  pub is : subckt_name_at subckts index ≡ name

-- each name that is referred to is there
abbrev pub AreAllThere : List ResolvedSubckt → ℕ → Type 0
AreAllThere subckts top = (name : List ℕ) → IsUnknownSubckt subckts top name → ⊥

-- the walk from the top has an end, and so a first instance of which something holds
pub record IsHierarchy (subckts : List ResolvedSubckt) (top : ℕ) : Type 0 where
  pub there : AreAllThere subckts top
  pub acyclic : IsAcyclic (graph subckts) top

-- above 2^20 leaf instances, or else above 2^24 pins: the number after the one that was passed
pub record IsTooMany (subckts : List ResolvedSubckt) (top count : ℕ) : Type 0 where
  pub either : ((most_leaves < leaf_count subckts (walk_at subckts top)) × (count ≡ most_leaves + 1))
      ⊎ ((leaf_count subckts (walk_at subckts top) ≤ most_leaves) × (most_pins < length (named_rows subckts top))
      × (count ≡ most_pins + 1))

-- the fault is the first, for a top at this index
abbrev pub IsFaultAt : List ResolvedSubckt → ℕ → FlatFault → Type 0
IsFaultAt subckts top (UnknownSubckt name) = IsLeast (IsUnknownSubckt subckts top) name
IsFaultAt subckts top (Cycle name) = AreAllThere subckts top × IsLeast (IsCyclicSubckt subckts top) name
IsFaultAt subckts top (PortCount path) = IsHierarchy subckts top × (first_bad subckts (walk_at subckts top) ≡ Some path)
IsFaultAt subckts top (TooMany count) =
    IsHierarchy subckts top × (first_bad subckts (walk_at subckts top) ≡ None) × IsTooMany subckts top count
IsFaultAt subckts top Memory = Unit {0}

-- the fault is that the top isn't there
abbrev pub IsTopUnknown : List ℕ → FlatFault → Type 0
IsTopUnknown top (UnknownSubckt name) = name ≡ top
IsTopUnknown top (Cycle name) = ⊥
IsTopUnknown top (PortCount path) = ⊥
IsTopUnknown top (TooMany count) = ⊥
IsTopUnknown top Memory = Unit {0}

-- the fault is the first, for a top of this name
abbrev pub IsFaultOfTop : List ResolvedSubckt → List ℕ → Option ℕ → FlatFault → Type 0
IsFaultOfTop subckts top None fault = IsTopUnknown top fault
IsFaultOfTop subckts top (Some index) fault = IsFaultAt subckts index fault

-- neither too many leaf instances nor too many pins
pub record IsSmall (subckts : List ResolvedSubckt) (top : ℕ) : Type 0 where
  pub leaves : leaf_count subckts (walk_at subckts top) ≤ most_leaves
  pub pins : length (named_rows subckts top) ≤ most_pins

-- no refusal, and these rows
pub record AreRowsAt (subckts : List ResolvedSubckt) (top : ℕ) (rows : List RowPin) : Type 0 where
  pub hierarchy : IsHierarchy subckts top
  pub good : first_bad subckts (walk_at subckts top) ≡ None
  pub small : IsSmall subckts top
  pub numbered : AreNumberedRows (named_rows subckts top) rows

abbrev pub AreRows : List ResolvedSubckt → Option ℕ → List RowPin → Type 0
AreRows subckts None rows = ⊥
AreRows subckts (Some index) rows = AreRowsAt subckts index rows

-- no refusal, and these rows of the top, for these leaves
abbrev pub AreFlatRows : List Subckt → List ℕ → List (List ℕ) → List RowPin → Type 0
AreFlatRows subckts top leaves rows =
    AreRows (resolved_subckts subckts (lower top) leaves) (index_of (names_of subckts) (lower top)) rows

-- the first refusal of the top, for these leaves
abbrev pub IsFlatFault : List Subckt → List ℕ → List (List ℕ) → FlatFault → Type 0
IsFlatFault subckts top leaves fault =
    IsFaultOfTop (resolved_subckts subckts (lower top) leaves) (lower top) (index_of (names_of subckts) (lower top)) fault
