-- What is proved of walks that flatten, and of case.
use Rattle.std.specs.Prelude.{◌≡◌, ℕ, List, ◌++◌, length, map, None, Some, false}
use Rattle.std.specs.List.{AllByRecursion}
use Rattle.netlist.specs.declared.deck.Subckt.{Subckt}
use Rattle.netlist.specs.declared.rows.RowPin.{RowPin}
use Rattle.spice_text.specs.Appended.{AreNew}
use Rattle.spice_text.specs.Writable.{lowered_subckt}
use Rattle.spice_netlist.specs.Names.{index_of}
use Rattle.spice_netlist.specs.declared.resolved.ResolvedSubckt.{ResolvedSubckt}
use Rattle.spice_netlist.specs.declared.resolved.ResolvedInstance.{ResolvedInstance}
use Rattle.spice_netlist.specs.Resolved.{names_of, resolved_subckts, ports_at, leaf_at}
use Rattle.spice_netlist.specs.Walk.{FlatNet, FlatInstance, visits_in, visits_by}
use Rattle.spice_netlist.specs.Numbers.{AreNumberedRows}
use Rattle.spice_netlist.specs.Pins.{NamedPin, named_rows}
use Rattle.row_laws.specs.Flattens.{Flattens, path_in, see_in}

-- the rows of the leaf instances of a walk, instance by instance
abbrev pub AreGroups : List ResolvedSubckt → List ℕ → (FlatNet → List ℕ) → List FlatInstance → List (List NamedPin) → Type 0
AreGroups subckts above see vs groups = Flattens (λ (rows : List NamedPin). rows) subckts above see vs groups

-- an instance of a subcircuit has the rows of the subcircuit, seen from further up
abbrev pub InstancesOfSubcktsFlatten : Type 0
InstancesOfSubcktsFlatten = (subckts : List ResolvedSubckt) (above : List ℕ) (see : FlatNet → List ℕ) (f : ℕ → List FlatInstance) (p : ResolvedInstance) (k : ℕ) (groups : List (List NamedPin))
    → p.index ≡ Some k → leaf_at subckts k ≡ false → length p.nodes ≡ length (ports_at subckts k)
    → AreGroups subckts (path_in above p) (see_in subckts see p k) (f k) groups → AreGroups subckts above see (visits_in subckts f p p.index) groups

-- instances have the rows of the first ones and then of the others
abbrev pub InstancesFlatten : Type 0
InstancesFlatten = (subckts : List ResolvedSubckt) (above : List ℕ) (see : FlatNet → List ℕ) (f : ℕ → List FlatInstance) (ps qs : List ResolvedInstance) (before after : List (List NamedPin))
    → AreGroups subckts above see (visits_by subckts f ps) before → AreGroups subckts above see (visits_by subckts f qs) after → AreGroups subckts above see (visits_by subckts f (ps ++ qs)) (before ++ after)

-- what counts of a deck is the same where some of its subcircuits are put in lower case
pub record AreResolvedAlike (deck deck' : List Subckt) (top : List ℕ) (leaves : List (List ℕ)) : Type 0 where
  pub subckts : resolved_subckts deck top leaves ≡ resolved_subckts deck' top leaves
  pub names : names_of deck ≡ names_of deck'

abbrev pub CaseIsForgotten : Type 0
CaseIsForgotten = (before after : List Subckt) (top : List ℕ) (leaves : List (List ℕ)) → AreResolvedAlike (before ++ map lowered_subckt after) (before ++ after) top leaves

-- the named rows of a deck can be numbered
abbrev pub RowsAreNumbered : Type 0
RowsAreNumbered = (subckts : List Subckt) (top : List ℕ) (leaves : List (List ℕ)) (index : ℕ)
    → (rows : List RowPin) × AreNumberedRows (named_rows (resolved_subckts subckts top leaves) index) rows

-- where names are in lower case, names that are not found among them are new to them
abbrev pub NamesAreNew : Type 0
NamesAreNew = (before after : List Subckt) → map lowered_subckt before ≡ before → AllByRecursion (λ name. index_of (names_of before) name ≡ None) (names_of after) → AreNew before after
