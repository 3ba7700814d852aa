-- What is found in a leaf cell, told of its role.
use Rattle.std.proofs.Common.{◌≡◌, ℕ, List, sym, subst}
use Rattle.std.specs.List.Sorted.{IsStrictlySortedBy}
use Rattle.or_geom.specs.ShapeOrder.{shape_order}
use Rattle.cell_roles.specs.declared.role.Role.{Role}
use Rattle.cell_roles.specs.Roles.{role_ports}
use Rattle.tech_rules.specs.declared.tech.Connect.{Connect}
use Rattle.cell_hierarchy.specs.Plain.{FlatLists}
use Rattle.net_extractor.specs.ShapeNets.{AreShapeNets}
use Rattle.leaf_tables.specs.declared.kit.Kit.{Kit}
use Rattle.kit_rules.specs.Layout.{IsFlatLeaf}
use Rattle.leaf_nets.specs.declared.leaf.LeafNets.TheVariants as leaf_nets
use Rattle.leaf_nets.specs.declared.leaves.LooseLeaf.{LooseLeaf}
use Rattle.leaf_nets.specs.Numbers.{AreFreeShapes, AreRightNets, IsPinWrongAt}
use Rattle.leaf_nets.specs.Leaves.{IsLeafNets}
use Rattle.leaf_nets.specs.RightPins.{AreRightPins}
use Rattle.leaf_nets.specs.Loose.{AreLoose}
use Rattle.leaf_nets.proofs.FreeLaws.{free_are_loose}

-- the flat lists of a leaf cell, in order, with the numbers of its shapes' nets and the names of its ports
pub record IsNumberedLeaf (kit : Kit) (role : Role) (cell : List ℕ) (connections : List Connect) (lists : FlatLists) (nets : List ℕ) (pins : List (List ℕ)) : Type 0 where
  pub flat : IsFlatLeaf kit role cell lists
  pub by : connections ≡ kit.tech.connects
  pub rises : IsStrictlySortedBy shape_order lists.shapes
  pub numbers : AreShapeNets connections lists.shapes nets
  pub ports : pins ≡ role_ports role

pub wrong_leaf : (kit : Kit) (role : Role) (cell : List ℕ) (connections : List Connect) (lists : FlatLists) (nets : List ℕ) (pins : List (List ℕ)) (place : ℕ) → IsNumberedLeaf kit role cell connections lists nets pins → IsPinWrongAt connections lists pins place
    → IsLeafNets kit role (leaf_nets.Wrong place)
wrong_leaf kit role cell connections lists nets pins place is wrong =
    let w = subst (λ (p : List (List ℕ)). IsPinWrongAt kit.tech.connects lists p place) is.ports (subst (λ (l : List Connect). IsPinWrongAt l lists pins place) is.by wrong) in
    (w.pin, w.here, record { cell = cell; lists = lists; flat = is.flat; wrong = record { place = place; here = w.here; wrong = w.wrong; before = w.before } })

pub loose_leaf : (kit : Kit) (role : Role) (cell : List ℕ) (connections : List Connect) (lists : FlatLists) (nets : List ℕ) (pins : List (List ℕ)) (numbers : List ℕ) (leaf : LooseLeaf) → IsNumberedLeaf kit role cell connections lists nets pins
    → AreRightNets connections lists nets pins numbers → AreFreeShapes connections lists.shapes nets numbers leaf.shapes → leaf.cell ≡ cell → IsLeafNets kit role (leaf_nets.Loose leaf)
loose_leaf kit role cell connections lists nets pins numbers leaf is right free named =
    let r = subst (λ (p : List (List ℕ)). AreRightPins kit.tech.connects lists p) is.ports (subst (λ (l : List Connect). AreRightPins l lists pins) is.by right.right) in
    let loose = free_are_loose connections lists nets pins numbers leaf.shapes (record { rises = is.rises; are = is.numbers }) right.numbered free in
    let l = subst (λ (p : List (List ℕ)). AreLoose kit.tech.connects lists p leaf.shapes) is.ports (subst (λ (k : List Connect). AreLoose k lists pins leaf.shapes) is.by loose) in (
      record { cell = cell; lists = lists; flat = is.flat; right = r },
      record { lists = lists; flat = subst (λ (n : List ℕ). IsFlatLeaf kit role n lists) (sym named) is.flat; loose = l },
    )
