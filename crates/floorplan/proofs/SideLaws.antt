-- The sides of leaf cells.
use Rattle.std.proofs.Common.{◌≡◌, ℕ, ◌<◌, ◌≤◌, ℤ, pos, negsuc, ◌<ℤ◌, ◌≤ℤ◌, Option, Some, option_map, refl, ap, subst, sym, arith, nat_abs, to_z, of_z, w64}
use Rattle.std.proofs.lemmas.Int.{ints}
use Rattle.cell_roles.specs.declared.role.Role.{Role}
use Rattle.cell_roles.specs.declared.leaf_role.LeafRole.TheVariants.{Common}
use Rattle.leaf_tables.specs.declared.kit.Kit.{Kit}
use Rattle.leaf_tables.specs.declared.kit.Leaf.{Leaf}
use Rattle.leaf_tables.specs.Leaves.{LeafSource, IsLeaf}
use Rattle.leaf_tables.specs.Kits.{IsKit, source_of}
use Rattle.leaf_tables.specs.Alignment.{leaf_in}
use Rattle.leaf_tables.proofs.RoleLaws.{in_kit}
use Rattle.floorplan.specs.LeafSides.{side_of, leaf_width, leaf_height}

-- a side between 1 and 65,536
pub record IsLeafSize (z : ℤ) (n : ℕ) : Type 0 where
  pub is : z ≡ pos n
  pub some : 0 < n
  pub few : n ≤ 65536

side_is : (z : ℤ) → pos 0 <ℤ z → z ≤ℤ pos 65536 → IsLeafSize z (side_of (Some z))
side_is (pos n) some few = record { is = refl; some = omega (arith, ints, some); few = omega (arith, ints, few) }
side_is (negsuc n) some few = absurd (omega (arith, ints, some))

wide_leaf : (source : LeafSource) (role : Role) (leaf : Leaf) → IsLeaf source (Common role) leaf → IsLeafSize leaf.width (side_of (Some leaf.width))
wide_leaf source role leaf is =
    let outline = is.sized.outline in
    let wide = outline.shape.rect.wide in
    let left = outline.is.left in
    let right = outline.is.right in
    side_is leaf.width (omega (arith, ints, wide, left, right)) outline.narrow

tall_leaf : (source : LeafSource) (role : Role) (leaf : Leaf) → IsLeaf source (Common role) leaf → IsLeafSize leaf.height (side_of (Some leaf.height))
tall_leaf source role leaf is =
    let outline = is.sized.outline in
    let tall = outline.shape.rect.tall in
    let low = outline.is.low in
    let high = outline.is.high in
    side_is leaf.height (omega (arith, ints, tall, low, high)) outline.low

pub width_is : (kit : Kit) → IsKit kit → (role : Role) (leaf : Leaf) → leaf_in kit.leaves role ≡ Some leaf → IsLeafSize leaf.width (leaf_width kit role)
width_is kit is role leaf there =
    subst (IsLeafSize leaf.width) (ap (λ (found : Option Leaf). side_of (option_map (λ (l : Leaf). l.width) found)) (sym there)) (wide_leaf (source_of kit is.wire) role leaf (in_kit kit role leaf is there))

pub height_is : (kit : Kit) → IsKit kit → (role : Role) (leaf : Leaf) → leaf_in kit.leaves role ≡ Some leaf → IsLeafSize leaf.height (leaf_height kit role)
height_is kit is role leaf there =
    subst (IsLeafSize leaf.height) (ap (λ (found : Option Leaf). side_of (option_map (λ (l : Leaf). l.height) found)) (sym there)) (tall_leaf (source_of kit is.wire) role leaf (in_kit kit role leaf is there))

-- as it is read
pub side_read : (z : ℤ) (n : ℕ) → IsLeafSize z n → to_z w64 (of_z w64 z) ≡ pos n
side_read z n side = let is = side.is in let few = side.few in omega (arith, ints, is, few)

pub side_size : (z : ℤ) (n : ℕ) → IsLeafSize z n → nat_abs (to_z w64 (of_z w64 z)) ≡ n
side_size z n side = ap nat_abs (side_read z n side)

pub side_few : (z : ℤ) (n : ℕ) → IsLeafSize z n → nat_abs (to_z w64 (of_z w64 z)) ≤ 65536
side_few z n side = subst (λ (m : ℕ). m ≤ 65536) (sym (side_size z n side)) side.few

pub side_some : (z : ℤ) (n : ℕ) → IsLeafSize z n → 0 < nat_abs (to_z w64 (of_z w64 z))
side_some z n side = subst (λ (m : ℕ). 0 < m) (sym (side_size z n side)) side.some
