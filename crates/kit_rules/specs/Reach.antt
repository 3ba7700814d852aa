-- How far a leaf cell can be felt: by a rule, or by a shape beyond its outline.
use Rattle.std.specs.Prelude.{◌≡◌, ◌⊎◌, ◌^◌, ℕ, ℤ, pos, ◌≤ℤ◌, ◌+ℤ◌, ◌-ℤ◌, List, [], ◌∷◌, Some, Contains}
use Rattle.std.specs.Int.{int_max}
use Rattle.or_geom.specs.declared.shape.Rect.{Rect}
use Rattle.or_geom.specs.declared.shape.Shape.{Shape}
use Rattle.cell_roles.specs.declared.role.Role.{Role}
use Rattle.cell_roles.specs.declared.role.Role.TheVariants.{Bitcell, Dff, Inv, Nand2, Nand3}
use Rattle.tech_rules.specs.declared.tech.Rule.{Rule}
use Rattle.tech_rules.specs.declared.tech.Rule.TheVariants.{Width, Space, Enclose}
use Rattle.tech_rules.specs.declared.tech.Wire.{Wire}
use Rattle.cell_hierarchy.specs.Plain.{FlatLists}
use Rattle.leaf_tables.specs.declared.kit.Leaf.{Leaf}
use Rattle.leaf_tables.specs.declared.kit.Kit.{Kit}
use Rattle.leaf_tables.specs.Alignment.{leaf_in}
use Rattle.kit_rules.specs.Layout.{IsFlatLeaf}

-- how far the rectangle passes the outline 0 0 width height, on the side where it passes it most; 0 where it lies inside
abbrev pub passed_by : ℤ → ℤ → Rect → ℤ
passed_by width height r = int_max (pos 0) (int_max (int_max (pos 0 -ℤ r.x1) (pos 0 -ℤ r.y1)) (int_max (r.x2 -ℤ width) (r.y2 -ℤ height)))

-- a shape of the role's leaf cell passes its outline by just so much
pub record PassesBy (kit : Kit) (role : Role) (distance : ℤ) : Type 0 where
  pub leaf : Leaf
  pub there : leaf_in kit.leaves role ≡ Some leaf
  pub cell : List ℕ
  pub lists : FlatLists
  pub flat : IsFlatLeaf kit role cell lists
  pub shape : Shape
  pub listed : Contains lists.shapes shape
  pub by : passed_by leaf.width leaf.height shape.rect ≡ distance

-- a shape of some leaf cell does
pub record PassesOutline (kit : Kit) (distance : ℤ) : Type 0 where
  pub role : Role
  pub by : PassesBy kit role distance

-- the greatest distance by which a shape of a leaf cell passes its outline; 0 where none does
pub record IsOverhang (kit : Kit) (overhang : ℤ) : Type 0 where
  pub most : (distance : ℤ) → PassesOutline kit distance → distance ≤ℤ overhang
  pub reached : (overhang ≡ pos 0) ⊎ PassesOutline kit overhang

-- a length of at most 2^42
pub record IsNearLength (z : ℤ) : Type 0 where
  pub above : pos 0 ≤ℤ z
  pub below : z ≤ℤ pos (2 ^ 42)

-- a length of at most 2^44
pub record IsNearReach (z : ℤ) : Type 0 where
  pub above : pos 0 ≤ℤ z
  pub below : z ≤ℤ pos (2 ^ 44)

-- the greatest of a length and of those by which the shapes pass the outline
pub record IsGreatest (width height : ℤ) (shapes : List Shape) (least greatest : ℤ) : Type 0 where
  pub least_of : least ≤ℤ greatest
  pub most : (shape : Shape) → Contains shapes shape → passed_by width height shape.rect ≤ℤ greatest
  pub reached : (greatest ≡ least) ⊎ ((shape : Shape) × Contains shapes shape × (passed_by width height shape.rect ≡ greatest))

-- the greatest of a length and of those by which shapes of the role's leaf cell pass its outline
pub record IsOverhangWith (kit : Kit) (role : Role) (least greatest : ℤ) : Type 0 where
  pub least_of : least ≤ℤ greatest
  pub most : (distance : ℤ) → PassesBy kit role distance → distance ≤ℤ greatest
  pub reached : (greatest ≡ least) ⊎ PassesBy kit role greatest

abbrev pub minimum_of : Rule → ℤ
minimum_of (Width layer min) = min
minimum_of (Space layer other min) = min
minimum_of (Enclose layer by min) = min

-- the greatest minimum of a rule, 1 where there is no rule; no minimum is less than 1
abbrev pub greatest_minimum : List Rule → ℤ
greatest_minimum [] = pos 1
greatest_minimum (rule ∷ rules) = int_max (minimum_of rule) (greatest_minimum rules)

-- the greatest minimum, and the overhang on both sides
abbrev pub reach_with : Kit → ℤ → ℤ
reach_with kit overhang = greatest_minimum kit.tech.rules +ℤ (overhang +ℤ overhang)

-- the width of a role's leaf cell is at least so much
abbrev pub IsAsWideAs : Kit → Role → ℤ → Type 0
IsAsWideAs kit role least = (leaf : Leaf) → leaf_in kit.leaves role ≡ Some leaf → least ≤ℤ leaf.width

-- Only neighbours feel each other: no shape passes its outline by more than the wires' space, and the reach is at most the width of
-- the bitcell, that of the flip-flop, the space and the pitch of wires, and the widths of the inverter and of each gate together.
pub record IsShortReach (kit : Kit) (wire : Wire) (overhang : ℤ) : Type 0 where
  pub inside : overhang ≤ℤ wire.space
  pub bitcell : IsAsWideAs kit Bitcell (reach_with kit overhang)
  pub dff : IsAsWideAs kit Dff (reach_with kit overhang)
  pub wires : reach_with kit overhang ≤ℤ (wire.space +ℤ (wire.width +ℤ wire.space))
  pub nand2 : (inv : Leaf) → leaf_in kit.leaves Inv ≡ Some inv → IsAsWideAs kit Nand2 (reach_with kit overhang -ℤ inv.width)
  pub nand3 : (inv : Leaf) → leaf_in kit.leaves Inv ≡ Some inv → IsAsWideAs kit Nand3 (reach_with kit overhang -ℤ inv.width)
