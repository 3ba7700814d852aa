-- How the leaf cells of a kit have to fit each other.
use Rattle.std.specs.Prelude.{◌≡◌, ℕ, ◌<◌, ℤ, List, [], ◌∷◌, slice_get, Option, Some, option_map, option_and_then, codes}
use Rattle.std.specs.Str.{bytes_eq}
use Rattle.std.specs.List.{AllByRecursion, find}
use Rattle.cell_roles.specs.declared.role.Role.{Role}
use Rattle.cell_roles.specs.declared.role.Role.TheVariants.{Bitcell, Precharge, Mux, Tie, Sense, Write, RowNand2, RowNand3, Driver, Nand2, Nand3, Inv, Dff, Delay}
use Rattle.cell_roles.specs.Roles.{role_name}
use Rattle.leaf_shapes.specs.declared.pins.LeafPin.{LeafPin}
use Rattle.leaf_tables.specs.declared.alignment.Facing.{Facing}
use Rattle.leaf_tables.specs.declared.alignment.PinEdge.{PinEdge}
use Rattle.leaf_tables.specs.declared.alignment.PinEdge.TheVariants.{Left, Low}
use Rattle.leaf_tables.specs.declared.fault.KitFault.{KitFault}
use Rattle.leaf_tables.specs.declared.fault.KitFault.TheVariants as kit_fault
use Rattle.leaf_tables.specs.declared.kit.Leaf.{Leaf}

-- the number of a role's leaf, in the order of roles
abbrev pub role_number : Role → ℕ
role_number Bitcell = 0
role_number Precharge = 1
role_number Mux = 2
role_number Tie = 3
role_number Sense = 4
role_number Write = 5
role_number RowNand2 = 6
role_number RowNand3 = 7
role_number Driver = 8
role_number Nand2 = 9
role_number Nand3 = 10
role_number Inv = 11
role_number Dff = 12
role_number Delay = 13

abbrev pub leaf_in : List Leaf → Role → Option Leaf
leaf_in leaves role = slice_get leaves (role_number role)

-- the first of the pins that has this name
abbrev pub first_pin : List LeafPin → List ℕ → Option LeafPin
first_pin pins name = find (λ (pin : LeafPin). bytes_eq pin.pin name) pins

-- each role whose cell has to be as high, or as wide, as that of the other
abbrev pub heights_equal : List (Role × Role)
heights_equal = (RowNand2, Bitcell) ∷ (RowNand3, Bitcell) ∷ (Driver, Bitcell) ∷ (Nand3, Nand2) ∷ (Inv, Nand2) ∷ (Dff, Nand2) ∷ (Delay, Nand2) ∷ []

abbrev pub widths_equal : List (Role × Role)
widths_equal = (Precharge, Bitcell) ∷ (Mux, Bitcell) ∷ (Tie, Bitcell) ∷ []

-- a role's pin, and the pin of another that it has to face: with its left end, or with its lower end
pub record PinPair : Type 0 where
  pub role : Role
  pub pin : List ℕ
  pub other : Role
  pub other_pin : List ℕ
  pub edge : PinEdge

abbrev pub plain_facing : Facing → PinPair
plain_facing f = record { role = f.0; pin = f.1.now; other = f.2; other_pin = f.3.now; edge = f.4 }

abbrev pub face : Role → List ℕ → Role → List ℕ → PinEdge → PinPair
face role pin other other_pin edge = record { role = role; pin = pin; other = other; other_pin = other_pin; edge = edge }

abbrev pub pins_face : List PinPair
pins_face =
    face Precharge (codes "bl") Bitcell (codes "bl") Left ∷ face Precharge (codes "br") Bitcell (codes "br") Left
    ∷ face Mux (codes "bl") Bitcell (codes "bl") Left ∷ face Mux (codes "br") Bitcell (codes "br") Left
    ∷ face Tie (codes "bl") Bitcell (codes "bl") Left ∷ face Tie (codes "br") Bitcell (codes "br") Left
    ∷ face Write (codes "bl") Sense (codes "bl") Left ∷ face Write (codes "br") Sense (codes "br") Left
    ∷ face RowNand2 (codes "z") Driver (codes "a") Low ∷ face RowNand3 (codes "z") Driver (codes "a") Low
    ∷ face Driver (codes "z") Bitcell (codes "wl") Low ∷ []

abbrev pub end_of : PinEdge → LeafPin → ℤ
end_of Left pin = pin.rect.x1
end_of Low pin = pin.rect.y1

-- the end of the first shape of a leaf's pin
abbrev pub end_of_pin : PinEdge → List ℕ → Leaf → Option ℤ
end_of_pin edge name leaf = option_map (end_of edge) (first_pin leaf.pins name)

-- the same of a role (of the tie's shapes for bl and br the first reaches its upper edge)
abbrev pub end_in : List Leaf → Role → List ℕ → PinEdge → Option ℤ
end_in leaves role name edge = option_and_then (end_of_pin edge name) (leaf_in leaves role)

abbrev pub height_in : List Leaf → Role → Option ℤ
height_in leaves role = option_map (λ (leaf : Leaf). leaf.height) (leaf_in leaves role)

abbrev pub width_in : List Leaf → Role → Option ℤ
width_in leaves role = option_map (λ (leaf : Leaf). leaf.width) (leaf_in leaves role)

abbrev pub SameHeight : List Leaf → Role × Role → Type 0
SameHeight leaves pair = height_in leaves pair.0 ≡ height_in leaves pair.1

abbrev pub SameWidth : List Leaf → Role × Role → Type 0
SameWidth leaves pair = width_in leaves pair.0 ≡ width_in leaves pair.1

abbrev pub Face : List Leaf → PinPair → Type 0
Face leaves p = end_in leaves p.role p.pin p.edge ≡ end_in leaves p.other p.other_pin p.edge

-- heights and widths are equal, and pins face each other
pub record AreAligned (leaves : List Leaf) : Type 0 where
  pub heights : AllByRecursion (SameHeight leaves) heights_equal
  pub widths : AllByRecursion (SameWidth leaves) widths_equal
  pub facing : AllByRecursion (Face leaves) pins_face

-- the first of the items that doesn't have P
pub record IsFirstOdd {X : Type 0} (P : X → Type 0) (items : List X) (x : X) : Type 0 where
  pub place : ℕ
  pub there : slice_get items place ≡ Some x
  pub odd : P x → ⊥
  pub before : (earlier : ℕ) (other : X) → earlier < place → slice_get items earlier ≡ Some other → P other

pub record HeightIsOdd (leaves : List Leaf) (name : List ℕ) : Type 0 where
  pub pair : Role × Role
  pub first : IsFirstOdd (SameHeight leaves) heights_equal pair
  pub named : name ≡ role_name pair.0

pub record WidthIsOdd (leaves : List Leaf) (name : List ℕ) : Type 0 where
  pub heights : AllByRecursion (SameHeight leaves) heights_equal
  pub pair : Role × Role
  pub first : IsFirstOdd (SameWidth leaves) widths_equal pair
  pub named : name ≡ role_name pair.0

pub record PinIsOdd (leaves : List Leaf) (name pin : List ℕ) : Type 0 where
  pub heights : AllByRecursion (SameHeight leaves) heights_equal
  pub widths : AllByRecursion (SameWidth leaves) widths_equal
  pub pair : PinPair
  pub first : IsFirstOdd (Face leaves) pins_face pair
  pub named : name ≡ role_name pair.role
  pub of : pin ≡ pair.pin

-- what doesn't fit: the first height; or else the first width; or else the first pin
abbrev pub IsMisaligned : List Leaf → KitFault → Type 0
IsMisaligned leaves (kit_fault.HeightDiffers name) = HeightIsOdd leaves name
IsMisaligned leaves (kit_fault.WidthDiffers name) = WidthIsOdd leaves name
IsMisaligned leaves (kit_fault.EdgePin name pin) = PinIsOdd leaves name pin
IsMisaligned leaves kit_fault.Memory = Unit {0}
IsMisaligned leaves (kit_fault.Gds fault) = ⊥
IsMisaligned leaves (kit_fault.Spice fault) = ⊥
IsMisaligned leaves kit_fault.NoWire = ⊥
IsMisaligned leaves (kit_fault.Table fault) = ⊥
IsMisaligned leaves (kit_fault.Flatten fault) = ⊥
IsMisaligned leaves (kit_fault.Outline name) = ⊥
IsMisaligned leaves (kit_fault.UnknownSubckt name) = ⊥
IsMisaligned leaves (kit_fault.PortsDiffer name) = ⊥
IsMisaligned leaves (kit_fault.PinMissing name pin) = ⊥
IsMisaligned leaves (kit_fault.PinLayer name pin) = ⊥

-- the fault of a pin that doesn't face the other, or memory ran out
abbrev pub IsOfFacing : PinPair → KitFault → Type 0
IsOfFacing pair (kit_fault.EdgePin name pin) = (name ≡ role_name pair.role) × (pin ≡ pair.pin)
IsOfFacing pair kit_fault.Memory = Unit {0}
IsOfFacing pair fault = ⊥
