-- A loose shape of a leaf instance that touches a shape outside of it is a loose contact of the library.
use Rattle.std.proofs.Common.{◌≡◌, inl, inr, ℕ, ◌<◌, List, [], ◌∷◌, ◌++◌, Contains, refl, sym, ap, subst}
use Rattle.or_geom.specs.declared.shape.Shape.{Shape}
use Rattle.or_geom.specs.Place.{placed}
use Rattle.or_geom.specs.Gathering.{SomeHas}
use Rattle.or_geom.proofs.ListLaws.{contained_at}
use Rattle.gds_library.specs.declared.library.Structure.{Structure}
use Rattle.cell_roles.specs.declared.role.Role.{Role}
use Rattle.cell_roles.specs.Roles.{all_roles, role_ports}
use Rattle.tech_rules.specs.declared.tech.Connect.{Connect}
use Rattle.tech_rules.specs.Net.{AreOnOneNet}
use Rattle.tech_rules.specs.Touch.{IsConductor, IsCutTo, Touch}
use Rattle.cell_hierarchy.specs.Plain.{FlatLists}
use Rattle.sram_netlist.specs.Netlist.{role}
use Rattle.leaf_tables.specs.declared.kit.Kit.{Kit}
use Rattle.leaf_tables.specs.Alignment.{role_number}
use Rattle.kit_rules.specs.Layout.{IsFlatLeaf}
use Rattle.leaf_nets.specs.declared.leaves.LooseLeaf.{LooseLeaf}
use Rattle.leaf_nets.specs.Leaves.{AreLooseLeaves, IsLooseLeaf}
use Rattle.leaf_nets.specs.Loose.{IsJoint, IsLoose}
use Rattle.leaf_nets.specs.RightPins.{BindsForPin}
use Rattle.leaf_contacts.specs.Chains.{Reference, StandsAtEnd, IsInstance, point_along}
use Rattle.leaf_contacts.specs.Contact.{leaf_cell_names, StandsOutside, HasLooseContact}
use Rattle.leaf_contacts.specs.Stands.{MissesAll}
use Rattle.leaf_contacts.proofs.ItemLaws.{image_as}
use Rattle.good_nets.specs.Parts.{IsShapeOf, IsFree, IsOutside}
use Rattle.good_nets.proofs.NetLaws.{net_back}
use Rattle.joined_nets.proofs.WireNetLaws.{item_there, place_below}
use Rattle.kit_nets.specs.StatedParts.{Source, Standing, leaf_lists, stated_parts}
use Rattle.contact_nets.specs.Chained.{HasChains}
use Rattle.leaf_tables.proofs.RoleLaws.{role_there}
use Rattle.row_nets.proofs.KindLaws.{listed_at}

-- Chains

head_or : Reference → List Reference → Reference
head_or r [] = r
head_or r (q ∷ qs) = q

tail_of : List Reference → List Reference
tail_of [] = []
tail_of (q ∷ qs) = qs

-- no chain that leads through none of the cells goes on from an instance of one
missed : (cells : List (List ℕ)) (structs : List Structure) (from to : List ℕ) (chain rest : List Reference) → MissesAll cells from (chain ++ rest) → IsInstance cells structs from chain to → ⊥
missed cells structs from to [] [] misses is = misses is.1
missed cells structs from to [] (r ∷ rest) misses is = misses.0 is.1
missed cells structs from to (r ∷ chain) rest misses is = missed cells structs r.cell to chain rest misses.1 is.2

-- of two instances on one chain neither stands below the other
one_instance : (cells : List (List ℕ)) (structs : List Structure) (from a b : List ℕ) (c d x y : List Reference) → IsInstance cells structs from c a → IsInstance cells structs from d b → c ++ x ≡ d ++ y → c ≡ d
unfolding head_or tail_of
one_instance cells structs from a b [] [] x y is at e = refl
one_instance cells structs from a b [] (q ∷ d) x y is at e = absurd (at.0 is.1)
one_instance cells structs from a b (r ∷ c) [] x y is at e = absurd (is.0 at.1)
one_instance cells structs from a b (r ∷ c) (q ∷ d) x y is at e =
    let head : r ≡ q = ap (head_or r) e in
    let rest = one_instance cells structs r.cell a b c d x y is.2 (subst (λ (z : Reference). IsInstance cells structs z.cell d b) (sym head) at.2) (ap tail_of e) in
    λ i. head i ∷ rest i

-- what touches is on a conductor or a cut

some_joint : (connections : List Connect) (layer : ℕ) → IsConductor connections layer → SomeHas (IsJoint layer) connections
some_joint [] layer none = absurd none
some_joint (c ∷ cs) layer (inl to) = inl (inr to)
some_joint (c ∷ cs) layer (inr later) = inr (some_joint cs layer later)

cut_joint : (connections : List Connect) (cut other : ℕ) → IsCutTo connections cut other → SomeHas (IsJoint cut) connections
cut_joint [] cut other none = absurd none
cut_joint (c ∷ cs) cut other (inl j) = inl (inl j.by)
cut_joint (c ∷ cs) cut other (inr later) = inr (cut_joint cs cut other later)

other_joint : (connections : List Connect) (cut other : ℕ) → IsCutTo connections cut other → SomeHas (IsJoint other) connections
other_joint [] cut other none = absurd none
other_joint (c ∷ cs) cut other (inl j) = inl (inr j.to)
other_joint (c ∷ cs) cut other (inr later) = inr (other_joint cs cut other later)

touching_joint : (connections : List Connect) (s t : Shape) → Touch connections s t → SomeHas (IsJoint s.layer) connections
touching_joint connections s t (inl touch) = some_joint connections s.layer touch.conductor
touching_joint connections s t (inr (inl touch)) = cut_joint connections s.layer t.layer touch.connects
touching_joint connections s t (inr (inr touch)) = other_joint connections t.layer s.layer touch.connects

module _ (kit : Kit) (s : Source) (structs : List Structure) (top : List ℕ) (leaves : List LooseLeaf) (are : AreLooseLeaves kit leaves) (layers : s.layers ≡ kit.tech.layers) (chains : HasChains kit.tech.connects s structs top (leaf_cell_names leaves))
    (known : (r : Role) (cell : List ℕ) (lists : FlatLists) → IsFlatLeaf kit r cell lists → (cell ≡ s.kit.cell r) × (lists ≡ s.lists r)) where
  abbrev connections : List Connect
  connections = kit.tech.connects

  -- the loose shapes of a role's cell
  pub record HasLoose (r : Role) : Type 0 where
    pub leaf : LooseLeaf
    pub listed : Contains leaves leaf
    pub is : IsLooseLeaf kit r leaf

  loose_of : (r : Role) → HasLoose r
  loose_of r =
      let lt = place_below all_roles (role_number r) r (role_there r) in
      let found = item_there leaves (role_number r) (subst (λ (n : ℕ). role_number r < n) (sym are.sized) lt) in
      record { leaf = found.0; listed = contained_at leaves (role_number r) found.0 found.1; is = are.each (role_number r) r found.0 (role_there r) found.1 }

  -- a free shape on a conductor or a cut is loose
  free_is_loose : (i : Standing s) (inner : Shape) → Contains (leaf_lists s i.leaf).shapes inner → IsFree connections (stated_parts s) i inner → SomeHas (IsJoint inner.layer) connections → IsLoose connections (leaf_lists s i.leaf) (role_ports (role s.plan i.leaf)) inner
  free_is_loose i inner listed free on = record {
    listed = listed;
    on = on;
    free = λ (pin : List ℕ) (bound : Shape) (among : Contains (role_ports (role s.plan i.leaf)) pin) (binds : BindsForPin (leaf_lists s i.leaf) pin bound) (net : AreOnOneNet connections (leaf_lists s i.leaf).shapes inner bound).
        let place = listed_at (role_ports (role s.plan i.leaf)) pin among in
        free place.0 (record { bound = bound; is = record { pin = pin; there = place.1; binds = binds }; net = net_back connections (leaf_lists s i.leaf).shapes inner bound listed net });
  }

  outside_chain : (i : Standing s) (t : Shape) → IsOutside connections (stated_parts s) i t → StandsOutside kit.tech structs top (chains.chain i) t
  outside_chain i t (inl other) =
      let below = chains.inside other.other other.inner t other.is in
      record {
        other = chains.chain other.other ++ below.rest;
        stands = subst (λ (l : List _). StandsAtEnd l structs top (chains.chain other.other ++ below.rest) t) layers below.stands;
        outside = λ (rest : List Reference) (e : chains.chain other.other ++ below.rest ≡ chains.chain i ++ rest).
            other.differ (chains.tells i other.other (sym (one_instance (leaf_cell_names leaves) structs top _ _ (chains.chain other.other) (chains.chain i) below.rest rest (chains.instance other.other) (chains.instance i) e)));
      }
  outside_chain i t (inr (n, wire)) =
      let apart = chains.wires n t wire in
      record {
        other = apart.chain;
        stands = subst (λ (l : List _). StandsAtEnd l structs top apart.chain t) layers apart.stands;
        outside = λ (rest : List Reference) (e : apart.chain ≡ chains.chain i ++ rest). missed (leaf_cell_names leaves) structs top _ (chains.chain i) rest (subst (MissesAll (leaf_cell_names leaves) top) e apart.misses) (chains.instance i);
      }

  -- Where the library has no loose contact, no free shape of an instance touches one outside of it.
  pub no_contact : (HasLooseContact kit.tech structs top leaves → ⊥) → (i : Standing s) (inner shape t : Shape) → IsShapeOf connections (stated_parts s) i inner shape → IsFree connections (stated_parts s) i inner → IsOutside connections (stated_parts s) i t → Touch connections shape t → ⊥
  no_contact none i inner shape t is free outside touch =
      let r = role s.plan i.leaf in
      let l = loose_of r in
      let same = known r l.leaf.cell l.is.lists l.is.flat in
      let on : SomeHas (IsJoint inner.layer) connections = subst (λ (k : ℕ). SomeHas (IsJoint k) connections) is.moved.layer (touching_joint connections shape t touch) in
      let loose : IsLoose connections l.is.lists (role_ports r) inner = subst (λ (x : FlatLists). IsLoose connections x (role_ports r) inner) (sym same.1) (free_is_loose i inner is.listed free on) in
      none (record {
        chain = chains.chain i;
        shape = shape;
        loose = record {
          leaf = l.leaf;
          listed = l.listed;
          instance = subst (λ (c : List ℕ). IsInstance (leaf_cell_names leaves) structs top (chains.chain i) c) (sym same.0) (chains.instance i);
          inner = inner;
          loose = (l.is.loose inner).1 loose;
          moved = record { layer = is.moved.layer; image = image_as (point_along (chains.chain i)) (placed i.place) inner.rect shape.rect (chains.point i) is.moved.image };
        };
        other = t;
        outside = outside_chain i t outside;
        touch = inl touch;
      })
