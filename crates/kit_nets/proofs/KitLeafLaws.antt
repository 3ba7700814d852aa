-- A kit whose pins are right knows the leaf cell of each role.
use Rattle.std.proofs.Common.{◌≡◌, ◌<◌, ℕ, List, sym, ap, subst, ◌∙◌}
use Rattle.cell_roles.specs.declared.role.Role.{Role}
use Rattle.cell_roles.specs.declared.leaf_role.LeafRole.TheVariants.{Common}
use Rattle.cell_roles.specs.Roles.{all_roles}
use Rattle.cell_hierarchy.specs.Plain.{FlatLists}
use Rattle.cell_hierarchy.proofs.OneListsLaws.{one_pair}
use Rattle.cell_hierarchy.specs.FlatLists.{AreFlatLists}
use Rattle.leaf_tables.specs.declared.kit.Kit.{Kit}
use Rattle.leaf_tables.specs.Alignment.{role_number}
use Rattle.leaf_tables.specs.Kits.{IsKit, source_of}
use Rattle.leaf_tables.specs.Leaves.{IsLeaf, drawing_in, size_of}
use Rattle.leaf_nets.specs.Leaves.{HaveRightPins}
use Rattle.joined_nets.specs.Joints.{JoinsWires}
use Rattle.joined_nets.proofs.WireNetLaws.{item_there, place_below}
use Rattle.kit_nets.specs.KitLeaf.{KnownLeaf}
use Rattle.kit_nets.proofs.DemandLaws.{port_conducts}
use Rattle.leaf_tables.proofs.RoleLaws.{role_there}
use Rattle.std.proofs.lemmas.Option.{same_Some}

-- Each role's leaf cell is known.
pub known_leaf : (kit : Kit) (is : IsKit kit) → JoinsWires kit.tech.connects is.wire → HaveRightPins kit → (role : Role) → KnownLeaf kit role
known_leaf kit is joins pins role =
    let right = pins (role_number role) role (role_there role) in
    let lt = place_below all_roles (role_number role) role (role_there role) in
    let leaf = item_there kit.leaves (role_number role) (subst (λ (n : ℕ). role_number role < n) (sym is.leaves.sized) lt) in
    let l : IsLeaf (source_of kit is.wire) (Common role) leaf.0 = is.leaves.each (role_number role) role leaf.0 (role_there role) leaf.1 in
    let same_cell = same_Some l.cell right.cell (sym l.sized.flat.plays ∙ right.flat.plays) in
    let flat : AreFlatLists kit.tech.layers kit.lib.structs right.cell l.lists = subst (λ (c : List ℕ). AreFlatLists kit.tech.layers kit.lib.structs c l.lists) same_cell l.sized.flat.flat in
    let same : l.lists ≡ right.lists = one_pair kit.tech.layers kit.lib.structs right.cell l.lists right.lists flat right.flat.flat in
    record {
      cell = right.cell;
      plays = right.flat.plays;
      lists = right.lists;
      flat = right.flat.flat;
      right = right.right;
      conductors = λ port name named. port_conducts kit.tech.connects (drawing_in (source_of kit is.wire) (size_of leaf.0) l.lists) right.lists role leaf.0.pins joins (ap (λ (x : FlatLists). x.shapes) same) (ap (λ (x : FlatLists). x.labels) same) l.pins port name named;
    }
