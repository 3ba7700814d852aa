-- The leaves of roles, one after another.
use Rattle.std.proofs.Common.{◌≡◌, inl, inr, ℕ, ◌+◌, List, [], ◌∷◌, ◌++◌, length, Option, Some, None, Bool, true, false, cond, refl, sym, ap, subst, ◌∙◌, arith}
use Rattle.std.specs.Prelude.{slice_get, option_map}
use Rattle.std.specs.List.{find}
use Rattle.std.specs.Str.{bytes_eq}
use Rattle.std.proofs.lemmas.List.{length_push}
use Rattle.or_geom.specs.Gathering.{SomeHas}
use Rattle.or_geom.proofs.ListLaws.{one_at}
use Rattle.cell_roles.specs.declared.role.Role.{Role}
use Rattle.cell_roles.specs.declared.leaf_role.LeafRole.{LeafRole}
use Rattle.cell_roles.specs.declared.leaf_role.LeafRole.TheVariants.{Common}
use Rattle.cell_roles.specs.Roles.{all_roles}
use Rattle.cell_roles.specs.LeafRoles.{leaf_role_name}
use Rattle.tech_rules.specs.declared.tech.RoleName.{RoleName}
use Rattle.tech_rules.specs.declared.tech.Tech.{Tech}
use Rattle.role_tables.specs.Table.{NamesCell}
use Rattle.leaf_shapes.proofs.PinLaws.{exists_at, push_cases}
use Rattle.leaf_tables.specs.declared.fault.KitFault.{KitFault}
use Rattle.leaf_tables.specs.declared.kit.Leaf.{Leaf}
use Rattle.leaf_tables.specs.Leaves.{LeafSource, cell_named_for, IsLeaf, IsLeafFault, AreLeaves, IsFirstLeafFault}
use Rattle.leaf_tables.proofs.FindLaws.{texts_same}

none_left : {X : Type 0} (b : Bool) (x : X) (rest : Option X) → cond b (Some x) rest ≡ None → rest ≡ None
none_left true x rest e = absurd cc
none_left false x rest e = e

none_mapped : {X Y : Type 0} (f : X → Y) (o : Option X) → option_map f o ≡ None → o ≡ None
none_mapped f None e = refl
none_mapped f (Some x) e = absurd cc

named : (entries : List RoleName) (name : List ℕ) → SomeHas (λ (entry : RoleName). entry.role ≡ name) entries → find (λ (entry : RoleName). bytes_eq entry.role name) entries ≡ None → ⊥
named [] name h e = h
named (x ∷ xs) name (inl is) e =
    let rest = find (λ (entry : RoleName). bytes_eq entry.role name) xs in
    let f : ◌≡◌ {A = Option RoleName} (Some x) None = sym (ap (λ (b : Bool). cond b (Some x) rest) (texts_same x.role name is)) ∙ e in
    cc
named (x ∷ xs) name (inr h) e = named xs name h (none_left (bytes_eq x.role name) x (find (λ (entry : RoleName). bytes_eq entry.role name) xs) e)

-- a role that has a cell has its name
pub has_cell : (tech : Tech) (role : LeafRole) → NamesCell tech role → cell_named_for tech.roles role ≡ None → ⊥
has_cell tech role cell e = named tech.roles (leaf_role_name role) cell (none_mapped (λ (entry : RoleName). entry.cell) (find (λ (entry : RoleName). bytes_eq entry.role (leaf_role_name role)) tech.roles) e)

-- the leaves of the roles before a place
pub record AreLeavesBefore (source : LeafSource) (leaves : List Leaf) (i : ℕ) : Type 0 where
  pub sized : length leaves ≡ i
  pub each : (k : ℕ) (role : Role) (leaf : Leaf) → slice_get all_roles k ≡ Some role → slice_get leaves k ≡ Some leaf → IsLeaf source (Common role) leaf

pub leaves_more : (source : LeafSource) (leaves new : List Leaf) (i : ℕ) (role : Role) (leaf : Leaf) → slice_get all_roles i ≡ Some role → IsLeaf source (Common role) leaf → new ≡ leaves ++ leaf ∷ []
    → AreLeavesBefore source leaves i → AreLeavesBefore source new (i + 1)
leaves_more source leaves new i role leaf here is grown b = record {
  sized = let longer = length_push leaves leaf in let size = ap length grown in let s = b.sized in omega (arith, longer, size, s);
  each = λ k r l at_r at_l. elim (push_cases leaves new leaf k l grown at_l) [
    | inl old ↦ b.each k r l at_r old
    | inr fresh ↦
        let at_i : slice_get all_roles i ≡ Some r = subst (λ (j : ℕ). slice_get all_roles j ≡ Some r) (sym fresh.0 ∙ b.sized) at_r in
        subst (IsLeaf source (Common r)) fresh.1 (subst (λ (q : Role). IsLeaf source (Common q) leaf) (one_at all_roles i role r here at_i) is)
  ];
}

-- those of all roles
pub leaves_all : (source : LeafSource) (leaves : List Leaf) (i : ℕ) → i ≡ length all_roles → AreLeavesBefore source leaves i → AreLeaves source leaves
leaves_all source leaves i e b = record { sized = b.sized ∙ e; each = b.each }

-- the first without one
pub leaves_lack : (source : LeafSource) (leaves : List Leaf) (i : ℕ) (role : Role) (fault : KitFault) → slice_get all_roles i ≡ Some role → IsLeafFault source (Common role) fault → AreLeavesBefore source leaves i → IsFirstLeafFault source fault
leaves_lack source leaves i role fault here is b = record {
  place = i;
  role = role;
  there = here;
  is = is;
  before = λ k other lt at_k.
      let l = exists_at leaves k (let s = b.sized in omega (arith, s, lt)) in
      (l.0, b.each k other l.0 at_k l.1);
}
