-- In the memories of a kit whose reach is short, rules reach no further than the neighbours of a leaf cell.
use Rattle.std.proofs.Common.{◌≡◌, ◌⊎◌, inl, inr, ℕ, ℤ, pos, ◌+ℤ◌, ◌-ℤ◌, ◌≤ℤ◌, List, [], ◌∷◌, get_or, Some, refl, sym, subst, arith}
use Rattle.std.specs.Prelude.{Contains}
use Rattle.std.specs.Int.{int_max}
use Rattle.std.proofs.lemmas.Int.{ints, clamps}
use Rattle.std.proofs.lemmas.Option.{slice_get-get_or}
use Rattle.or_geom.specs.declared.shape.Rect.{Rect}
use Rattle.or_geom.proofs.ListLaws.{contains_none, contains_cases}
use Rattle.cell_roles.specs.declared.role.Role.{Role}
use Rattle.cell_roles.specs.declared.role.Role.TheVariants.{Bitcell, Dff, Inv, Nand2, Nand3}
use Rattle.tech_rules.specs.declared.tech.Rule.{Rule}
use Rattle.leaf_tables.specs.declared.kit.Kit.{Kit}
use Rattle.leaf_tables.specs.declared.kit.Leaf.{Leaf}
use Rattle.leaf_tables.specs.Kits.{IsKit}
use Rattle.leaf_tables.specs.Alignment.{role_number, leaf_in}
use Rattle.leaf_tables.proofs.RoleLaws.{role_below}
use Rattle.floorplan.specs.LeafSides.{leaf_width}
use Rattle.floorplan.proofs.SideLaws.{width_is}
use Rattle.kit_rules.specs.Reach.{IsOverhang, PassesOutline, minimum_of, greatest_minimum, passed_by, reach_with}
use Rattle.good_windows.specs.Short.{GoodKitsAreShort}

no_leaf : Leaf
no_leaf = record { width = pos 0; height = pos 0; pins = [] }

-- each role has a leaf cell of its width
pub record HasWidth (kit : Kit) (role : Role) : Type 0 where
  pub leaf : Leaf
  pub there : leaf_in kit.leaves role ≡ Some leaf
  pub is : leaf.width ≡ pos (leaf_width kit role)

has_width : (kit : Kit) → IsKit kit → (role : Role) → HasWidth kit role
has_width kit is role =
    let there : leaf_in kit.leaves role ≡ Some (get_or kit.leaves (role_number role) no_leaf) = slice_get-get_or kit.leaves (role_number role) no_leaf (role_below kit is (role_number role) role refl) in
    record { leaf = get_or kit.leaves (role_number role) no_leaf; there = there; is = (width_is kit is role (get_or kit.leaves (role_number role) no_leaf) there).is }

at_least_one : (rules : List Rule) → pos 1 ≤ℤ greatest_minimum rules
at_least_one [] = omega (arith, ints)
at_least_one (rule ∷ rules) = let r = at_least_one rules in go (minimum_of rule) (greatest_minimum rules) r where
  go : (a b : ℤ) → pos 1 ≤ℤ b → pos 1 ≤ℤ int_max a b
  go a b le = omega (arith, ints, clamps, le)

under : (rules : List Rule) (rule : Rule) → Contains rules rule → minimum_of rule ≤ℤ greatest_minimum rules
under [] rule has = absurd (contains_none rule has)
under (first ∷ rules) rule has = elim (contains_cases first rules rule has) [
  | inl e ↦ subst (λ (r : Rule). minimum_of r ≤ℤ greatest_minimum (first ∷ rules)) (sym e) (left (minimum_of first) (greatest_minimum rules))
  | inr later ↦ right (minimum_of first) (greatest_minimum rules) (minimum_of rule) (under rules rule later)
] where
  left : (a b : ℤ) → a ≤ℤ int_max a b
  left a b = omega (arith, ints, clamps)

  right : (a b c : ℤ) → c ≤ℤ b → c ≤ℤ int_max a b
  right a b c le = omega (arith, ints, clamps, le)

positive : (kit : Kit) (overhang : ℤ) → IsOverhang kit overhang → pos 0 ≤ℤ overhang
positive kit overhang is = by is.reached where
  by : (overhang ≡ pos 0) ⊎ PassesOutline kit overhang → pos 0 ≤ℤ overhang
  by (inl e) = omega (arith, ints, e)
  by (inr passes) = subst (λ (z : ℤ). pos 0 ≤ℤ z) passes.by.by (go passes.by.leaf.width passes.by.leaf.height passes.by.shape.rect) where
    most : (a b : ℤ) → a ≤ℤ int_max a b
    most a b = omega (arith, ints, clamps)

    go : (w h : ℤ) (r : Rect) → pos 0 ≤ℤ passed_by w h r
    go w h r = most (pos 0) (int_max (int_max (pos 0 -ℤ r.x1) (pos 0 -ℤ r.y1)) (int_max (r.x2 -ℤ w) (r.y2 -ℤ h)))

pub good_kits_are_short : GoodKitsAreShort
good_kits_are_short kit wire overhang is over s = record {
  from = positive kit overhang over;
  short = record {
    some = some (greatest_minimum kit.tech.rules) overhang (at_least_one kit.tech.rules) (positive kit overhang over);
    bitcell = let b = has_width kit is Bitcell in subst (λ (z : ℤ). reach_with kit overhang ≤ℤ z) b.is (s.bitcell b.leaf b.there);
    dff = let d = has_width kit is Dff in subst (λ (z : ℤ). reach_with kit overhang ≤ℤ z) d.is (s.dff d.leaf d.there);
    wires = s.wires;
    nand2 = let i = has_width kit is Inv in let n = has_width kit is Nand2 in pair (reach_with kit overhang) i.leaf.width n.leaf.width (leaf_width kit Inv) (leaf_width kit Nand2) i.is n.is (s.nand2 i.leaf i.there n.leaf n.there);
    nand3 = let i = has_width kit is Inv in let n = has_width kit is Nand3 in pair (reach_with kit overhang) i.leaf.width n.leaf.width (leaf_width kit Inv) (leaf_width kit Nand3) i.is n.is (s.nand3 i.leaf i.there n.leaf n.there);
  };
  each = λ rule has. more (minimum_of rule) (greatest_minimum kit.tech.rules) overhang (under kit.tech.rules rule has);
} where
  some : (g o : ℤ) → pos 1 ≤ℤ g → pos 0 ≤ℤ o → pos 1 ≤ℤ (g +ℤ (o +ℤ o))
  some g o a b = omega (arith, ints, a, b)

  pair : (r i n : ℤ) (a b : ℕ) → i ≡ pos a → n ≡ pos b → (r -ℤ i) ≤ℤ n → r ≤ℤ (pos a +ℤ pos b)
  pair r i n a b p q le = omega (arith, ints, p, q, le)

  more : (m g o : ℤ) → m ≤ℤ g → (m +ℤ (o +ℤ o)) ≤ℤ (g +ℤ (o +ℤ o))
  more m g o le = omega (arith, ints, le)
