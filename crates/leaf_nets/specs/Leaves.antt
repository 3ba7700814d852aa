-- The labels and the loose shapes of all leaf cells of a kit.
use Rattle.std.specs.Prelude.{◌≡◌, ℕ, ◌<◌, List, length, Some, slice_get}
use Rattle.cell_roles.specs.declared.role.Role.{Role}
use Rattle.cell_roles.specs.Roles.{all_roles, role_ports}
use Rattle.cell_hierarchy.specs.Plain.{FlatLists}
use Rattle.leaf_tables.specs.declared.kit.Kit.{Kit}
use Rattle.kit_rules.specs.Layout.{IsFlatLeaf}
use Rattle.leaf_nets.specs.declared.leaves.LooseLeaf.{LooseLeaf}
use Rattle.leaf_nets.specs.declared.leaves.KitNets.{KitNets}
use Rattle.leaf_nets.specs.declared.leaves.KitNets.TheVariants as kit_nets
use Rattle.leaf_nets.specs.declared.leaf.LeafNets.{LeafNets}
use Rattle.leaf_nets.specs.declared.leaf.LeafNets.TheVariants as leaf_nets
use Rattle.leaf_nets.specs.RightPins.{AreRightPins, IsFirstWrongPin}
use Rattle.leaf_nets.specs.Loose.{AreLoose}

-- in the role's cell by itself the labels of all pins are right
pub record HasRightPins (kit : Kit) (role : Role) : Type 0 where
  pub cell : List ℕ
  pub lists : FlatLists
  pub flat : IsFlatLeaf kit role cell lists
  pub right : AreRightPins kit.tech.connects lists (role_ports role)

-- they aren't, and this is the first pin whose labels aren't right
pub record HasWrongPin (kit : Kit) (role : Role) (pin : List ℕ) : Type 0 where
  pub cell : List ℕ
  pub lists : FlatLists
  pub flat : IsFlatLeaf kit role cell lists
  pub wrong : IsFirstWrongPin kit.tech.connects lists (role_ports role) pin

-- in each leaf cell by itself the labels of all pins are right
abbrev pub HaveRightPins : Kit → Type 0
HaveRightPins kit = (place : ℕ) (role : Role) → slice_get all_roles place ≡ Some role → HasRightPins kit role

-- the first role, and its first pin, whose labels aren't right
pub record HasFirstWrongPin (kit : Kit) (role : Role) (pin : List ℕ) : Type 0 where
  pub place : ℕ
  pub there : slice_get all_roles place ≡ Some role
  pub wrong : HasWrongPin kit role pin
  pub before : (earlier : ℕ) (other : Role) → earlier < place → slice_get all_roles earlier ≡ Some other → HasRightPins kit other

-- the role's cell with its loose shapes
pub record IsLooseLeaf (kit : Kit) (role : Role) (leaf : LooseLeaf) : Type 0 where
  pub lists : FlatLists
  pub flat : IsFlatLeaf kit role leaf.cell lists
  pub loose : AreLoose kit.tech.connects lists (role_ports role) leaf.shapes

-- for each role, in order, its cell with its loose shapes
pub record AreLooseLeaves (kit : Kit) (leaves : List LooseLeaf) : Type 0 where
  pub sized : length leaves ≡ length all_roles
  pub each : (place : ℕ) (role : Role) (leaf : LooseLeaf) → slice_get all_roles place ≡ Some role → slice_get leaves place ≡ Some leaf → IsLooseLeaf kit role leaf

-- what is found in the role's cell by itself
abbrev pub IsLeafNets : Kit → Role → LeafNets → Type 0
IsLeafNets kit role (leaf_nets.Wrong pin) = (name : List ℕ) × (slice_get (role_ports role) pin ≡ Some name) × HasWrongPin kit role name
IsLeafNets kit role (leaf_nets.Loose leaf) = HasRightPins kit role × IsLooseLeaf kit role leaf

-- what is found in all leaf cells
abbrev pub AreKitNets : Kit → KitNets → Type 0
AreKitNets kit (kit_nets.Wrong role pin) = (name : List ℕ) × (slice_get (role_ports role) pin ≡ Some name) × HasFirstWrongPin kit role name
AreKitNets kit (kit_nets.Loose leaves) = HaveRightPins kit × AreLooseLeaves kit leaves.items
