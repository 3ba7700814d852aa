-- Each role of a kit has a cell with a flat layout.
use Rattle.std.proofs.Common.{◌≡◌, ℕ, List, Some, None, Option, refl, sym, subst, ◌∙◌}
use Rattle.std.proofs.lemmas.Option.{same_Some}
use Rattle.cell_roles.specs.declared.role.Role.{Role}
use Rattle.cell_roles.specs.declared.leaf_role.LeafRole.TheVariants.{Common}
use Rattle.cell_hierarchy.specs.FlatLists.{AreFlatLists}
use Rattle.cell_hierarchy.specs.Plain.{FlatLists}
use Rattle.leaf_shapes.proofs.PinLaws.{exists_at}
use Rattle.leaf_tables.specs.declared.kit.Kit.{Kit}
use Rattle.leaf_tables.specs.Alignment.{role_number}
use Rattle.leaf_tables.specs.Kits.{IsKit}
use Rattle.leaf_tables.specs.Leaves.{cell_named_for}
use Rattle.leaf_tables.proofs.RoleLaws.{in_kit, role_below}

pub record HasFlatCell (kit : Kit) (role : Role) : Type 0 where
  pub cell : List ℕ
  pub plays : cell_named_for kit.tech.roles (Common role) ≡ Some cell
  pub lists : FlatLists
  pub flat : AreFlatLists kit.tech.layers kit.lib.structs cell lists

pub has_flat_cell : (kit : Kit) (role : Role) → IsKit kit → HasFlatCell kit role
has_flat_cell kit role is =
    let there = exists_at kit.leaves (role_number role) (role_below kit is (role_number role) role refl) in
    let leaf = in_kit kit role there.0 is there.1 in
    record { cell = leaf.cell; plays = leaf.sized.flat.plays; lists = leaf.lists; flat = leaf.sized.flat.flat }

pub flat_of_cell : (kit : Kit) (role : Role) (cell : List ℕ) → IsKit kit → cell_named_for kit.tech.roles (Common role) ≡ Some cell → (lists : FlatLists) × AreFlatLists kit.tech.layers kit.lib.structs cell lists
flat_of_cell kit role cell is plays =
    let h = has_flat_cell kit role is in
    let e = sym h.plays ∙ plays in
    (h.lists, subst (λ (n : List ℕ). AreFlatLists kit.tech.layers kit.lib.structs n h.lists) (same_Some h.cell cell e) h.flat)

pub no_cell : (kit : Kit) (role : Role) (o : Option (List ℕ)) → IsKit kit → o ≡ cell_named_for kit.tech.roles (Common role) → o ≡ None → ⊥
no_cell kit role o is same none = let h = has_flat_cell kit role is in let e : ◌≡◌ {A = Option (List ℕ)} None (Some h.cell) = sym none ∙ (same ∙ h.plays) in absurd cc
