-- The windows as workers share them.
use Rattle.std.specs.Prelude.{◌≡◌, ◌⊎◌, ℕ, ◌<◌, ◌≤◌, ◌%◌, List, Option, None, Some, Result, Ok, Err, slice_get, MatchOption}
use Rattle.or_geom.specs.declared.memory.Memory.{Memory}
use Rattle.leaf_tables.specs.declared.kit.Kit.{Kit}
use Rattle.leaf_tables.specs.Kits.{IsKit}
use Rattle.leaf_nets.specs.declared.leaves.LooseLeaf.{LooseLeaf}
use Rattle.leaf_nets.specs.Leaves.{AreLooseLeaves}
use Rattle.kit_check.specs.declared.share.Found.{Found}
use Rattle.kit_check.specs.declared.window.Window.{Window}
use Rattle.kit_check.specs.Windows.{all_windows}
use Rattle.kit_check.specs.FreeName.{IsFreeName}
use Rattle.kit_check.specs.Makers.{IsGoodMaker}
use Rattle.kit_check.specs.Good.{Answers, IsWindowGood, HasWindowFault}

-- What windows are made of and judged by: a kit with the loose shapes of its leaf cells, a maker whose answers are good ones, and a free name.
pub record IsTrial (answers : Answers) (kit : Kit) (leaves : List LooseLeaf) (name : List ℕ) : Type 0 where
  pub kit_is : IsKit kit
  pub leaves_are : AreLooseLeaves kit leaves
  pub free : IsFreeName kit name
  pub maker : IsGoodMaker answers kit

-- the window at the index is good
abbrev pub IsGoodAt : Answers → Kit → List ℕ → ℕ → Type 0
IsGoodAt answers kit name index = (w : Window) → slice_get all_windows index ≡ Some w → IsWindowGood answers kit name w

-- it is there, and something is wrong with it
pub record HasFaultAt (answers : Answers) (kit : Kit) (name : List ℕ) (index number : ℕ) : Type 0 where
  pub w : Window
  pub here : slice_get all_windows index ≡ Some w
  pub faulty : HasWindowFault answers kit name w number

-- the windows with these indices are good
abbrev pub AreGoodAmong : (ℕ → Type 0) → Answers → Kit → List ℕ → Type 0
AreGoodAmong Mine answers kit name = (index : ℕ) → Mine index → IsGoodAt answers kit name index

-- the first of the windows with these indices with which something is wrong
pub record IsFirstAmong (Mine : ℕ → Type 0) (answers : Answers) (kit : Kit) (name : List ℕ) (found : Found) : Type 0 where
  pub mine : Mine found.index
  pub faulty : HasFaultAt answers kit name found.index found.fault
  pub before : (earlier : ℕ) → Mine earlier → earlier < found.index → IsGoodAt answers kit name earlier

-- it, or none where all are good
abbrev pub FindsAmong : (ℕ → Type 0) → Answers → Kit → List ℕ → Option Found → Type 0
FindsAmong Mine answers kit name found = MatchOption found (AreGoodAmong Mine answers kit name) (IsFirstAmong Mine answers kit name)

-- the index is that of a window of this worker, of so many
abbrev pub IsDealtTo : ℕ → ℕ → ℕ → Type 0
IsDealtTo workers worker index = index % workers ≡ worker

abbrev pub IsAny : ℕ → Type 0
IsAny index = Unit {0}

-- what the worker finds of the window at the index: its fault, if the window is the worker's and has one
abbrev pub IsDealtFault : ℕ → ℕ → Answers → Kit → List ℕ → ℕ → Option ℕ → Type 0
IsDealtFault workers worker answers kit name index found =
    MatchOption found (IsDealtTo workers worker index → IsGoodAt answers kit name index) (λ number. IsDealtTo workers worker index × HasFaultAt answers kit name index number)

-- the other, if it is one, doesn't come before this one
abbrev pub IsNotBefore : Found → Option Found → Type 0
IsNotBefore f None = Unit {0}
IsNotBefore f (Some g) = f.index ≤ g.index

-- the one of the two that comes first
abbrev pub IsEarlier : Option Found → Option Found → Option Found → Type 0
IsEarlier a b None = (a ≡ None) × (b ≡ None)
IsEarlier a b (Some f) = ((a ≡ Some f) ⊎ (b ≡ Some f)) × IsNotBefore f a × IsNotBefore f b

abbrev pub IsNoneBefore : Found → Result (Option Found) Memory → Type 0
IsNoneBefore f (Ok one) = IsNotBefore f one
IsNoneBefore f (Err memory) = ⊥

-- one of the first so many workers found this one, and none of them one that comes before it
pub record IsFirstFound (found : List (Result (Option Found) Memory)) (count : ℕ) (f : Found) : Type 0 where
  pub worker : ℕ
  pub below : worker < count
  pub there : slice_get found worker ≡ Some (Ok (Some f))
  pub each : (other : ℕ) (one : Result (Option Found) Memory) → other < count → slice_get found other ≡ Some one → IsNoneBefore f one

-- that one, or none where none of them found one
abbrev pub FindsFirst : List (Result (Option Found) Memory) → ℕ → Option Found → Type 0
FindsFirst found count first =
    MatchOption first ((other : ℕ) (one : Result (Option Found) Memory) → other < count → slice_get found other ≡ Some one → one ≡ Ok None) (IsFirstFound found count)
