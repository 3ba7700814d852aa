-- The cell of a role is one leaf, or has one fault.
use Rattle.std.proofs.Common.{◌≡◌, ◌≢◌, inl, inr, ℕ, List, Option, Some, None, refl, sym, ap, subst, ◌∙◌, arith}
use Rattle.std.specs.List.{AllByRecursion}
use Rattle.std.specs.Prelude.{slice_get}
use Rattle.std.proofs.lemmas.Option.{same_Some, slice_get_within}
use Rattle.or_geom.proofs.ListLaws.{one_at}
use Rattle.cell_roles.specs.declared.role.Role.{Role}
use Rattle.cell_roles.specs.declared.leaf_role.LeafRole.{LeafRole}
use Rattle.cell_roles.specs.declared.leaf_role.LeafRole.TheVariants.{Common}
use Rattle.cell_roles.specs.Roles.{all_roles}
use Rattle.cell_roles.specs.LeafRoles.{pin_role, leaf_role_name}
use Rattle.netlist.specs.declared.deck.Subckt.{Subckt}
use Rattle.spice_text.specs.Words.{lower}
use Rattle.gds_library.specs.Writable.{IsWritableCell}
use Rattle.cell_hierarchy.specs.declared.fault.FlattenFault.{FlattenFault}
use Rattle.cell_hierarchy.specs.FlatLists.{AreFlatLists, IsFault}
use Rattle.cell_hierarchy.specs.Plain.{FlatLists}
use Rattle.cell_hierarchy.proofs.OneListsLaws.{one_pair}
use Rattle.cell_hierarchy.proofs.OneFaultLaws.{one_fault, fault_or_lists}
use Rattle.cell_hierarchy.proofs.TotalLaws.{one_total}
use Rattle.leaf_shapes.specs.declared.fault.PinFault.{PinFault}
use Rattle.leaf_shapes.specs.declared.fault.PinFault.TheVariants as pin_fault
use Rattle.leaf_shapes.specs.declared.fit.CellSize.{CellSize}
use Rattle.leaf_shapes.specs.Demands.{role_demands}
use Rattle.leaf_shapes.specs.Outline.{IsCellOutline}
use Rattle.leaf_shapes.specs.Pins.{CellDrawing, AreLeafPins, IsPinFault}
use Rattle.kit_laws.proofs.EachLaws.{one_first, one_list}
use Rattle.kit_laws.proofs.OneCellLaws.{one_outline, one_list_of_pins, one_pin_fault, no_pins_beside}
use Rattle.leaf_shapes.proofs.PinLaws.{exists_at}
use Rattle.leaf_tables.specs.declared.fault.KitFault.{KitFault}
use Rattle.leaf_tables.specs.declared.fault.KitFault.TheVariants as kit_fault
use Rattle.leaf_tables.specs.declared.kit.Leaf.{Leaf}
use Rattle.leaf_tables.specs.Leaves.{LeafSource, subckt_named, size_of, drawing_in, IsFlatCell, IsSizedCell, HasPorts, IsLeaf, HasLeaf, AreLeaves, IsUnflat, LacksOutline, LacksSubckt, LacksPorts, LacksPin, IsLeafFault, IsFirstLeafFault}
use Rattle.kit_laws.proofs.StageLaws.{AtMostOne, NeverBeside, Staged, ToldOf, one_staged, none_staged}

-- the role's cell is flat, sized, wired
record HasFlat (source : LeafSource) (role : LeafRole) : Type 0 where
  pub cell : List ℕ
  pub lists : FlatLists
  pub is : IsFlatCell source role cell lists

record HasSize (source : LeafSource) (role : LeafRole) : Type 0 where
  pub cell : List ℕ
  pub lists : FlatLists
  pub size : CellSize
  pub is : IsSizedCell source role cell lists size

record HasSubckt (source : LeafSource) (role : LeafRole) : Type 0 where
  pub sized : HasSize source role
  pub subckt : Subckt
  pub there : subckt_named source.subckts (lower sized.cell) ≡ Some subckt

record IsWired (source : LeafSource) (role : LeafRole) : Type 0 where
  pub sized : HasSize source role
  pub ports : HasPorts source.subckts role sized.cell

-- the fault of a pin, with the role's name
abbrev of_pin : LeafRole → PinFault → KitFault
of_pin role (pin_fault.PinMissing pin) = kit_fault.PinMissing (leaf_role_name role) pin
of_pin role (pin_fault.PinLayer pin) = kit_fault.PinLayer (leaf_role_name role) pin
of_pin role (pin_fault.EdgePin pin) = kit_fault.EdgePin (leaf_role_name role) pin
of_pin role pin_fault.Memory = kit_fault.Memory

record LacksSomePin (source : LeafSource) (role : LeafRole) (fault : PinFault) : Type 0 where
  pub some : fault ≢ pin_fault.Memory
  pub is : LacksPin source role fault

-- the stages of a leaf
abbrev Unflat : LeafSource → LeafRole → KitFault → Type 0
Unflat source role = ToldOf (IsUnflat source role) (λ x. kit_fault.Flatten x)

abbrev Unlined : LeafSource → LeafRole → KitFault → Type 0
Unlined source role f = LacksOutline source role × (f ≡ kit_fault.Outline (leaf_role_name role))

abbrev Unnamed : LeafSource → LeafRole → KitFault → Type 0
Unnamed source role = ToldOf (LacksSubckt source role) (λ name. kit_fault.UnknownSubckt name)

abbrev Unported : LeafSource → LeafRole → KitFault → Type 0
Unported source role f = LacksPorts source role × (f ≡ kit_fault.PortsDiffer (leaf_role_name role))

abbrev Unpinned : LeafSource → LeafRole → KitFault → Type 0
Unpinned source role = ToldOf (LacksSomePin source role) (of_pin role)

abbrev AfterSubckt : LeafSource → LeafRole → KitFault → Type 0
AfterSubckt source role = Staged (Unported source role) (IsWired source role) (Unpinned source role)

abbrev AfterOutline : LeafSource → LeafRole → KitFault → Type 0
AfterOutline source role = Staged (Unnamed source role) (HasSubckt source role) (AfterSubckt source role)

abbrev AfterLayout : LeafSource → LeafRole → KitFault → Type 0
AfterLayout source role = Staged (Unlined source role) (HasSize source role) (AfterOutline source role)

abbrev LeafStages : LeafSource → LeafRole → KitFault → Type 0
LeafStages source role = Staged (Unflat source role) (HasFlat source role) (AfterLayout source role)

-- the structures of the source can be written
abbrev pub AreWritable : LeafSource → Type 0
AreWritable source = AllByRecursion IsWritableCell source.structs

module _ (source : LeafSource) (role : LeafRole) where
  one_flat : (a b : HasFlat source role) → (a.cell ≡ b.cell) × (a.lists ≡ b.lists)
  one_flat a b =
      let cell : a.cell ≡ b.cell = same_Some a.cell b.cell (sym a.is.plays ∙ b.is.plays) in
      let flat = subst (λ (c : List ℕ). AreFlatLists source.tech.layers source.structs c a.lists) cell a.is.flat in
      (cell, one_pair source.tech.layers source.structs b.cell a.lists b.lists flat b.is.flat)

  abbrev flat_in : HasSize source role → HasFlat source role
  flat_in a = record { cell = a.cell; lists = a.lists; is = a.is.flat }

  -- two sizes of the role's cell are one
  one_size : (a b : HasSize source role) → (a.cell ≡ b.cell) × (a.lists ≡ b.lists) × (a.size ≡ b.size)
  one_size a b =
      let flat = one_flat (flat_in a) (flat_in b) in
      let outline = subst (λ (l : FlatLists). IsCellOutline source.wire source.tech.outline l.shapes a.size) flat.1 a.is.outline in
      (flat.0, flat.1, one_outline source.wire source.tech.outline b.lists.shapes a.size b.size outline b.is.outline)

  same_unflat : AreWritable source → AtMostOne (Unflat source role)
  same_unflat w f g a b =
      let cell = same_Some a.1.cell b.1.cell (sym a.1.plays ∙ b.1.plays) in
      let is = subst (λ (c : List ℕ). IsFault source.tech.layers source.structs c a.0) cell a.1.is in
      let fault : a.0 ≡ b.0 = one_fault one_total source.tech.layers source.structs b.1.cell a.0 b.0 w a.1.some b.1.some is b.1.is in
      a.2 ∙ ap (λ (x : FlattenFault). kit_fault.Flatten x) fault ∙ sym b.2

  unflat_or_flat : AreWritable source → NeverBeside (Unflat source role) (HasFlat source role)
  unflat_or_flat w f a b =
      let cell = same_Some a.1.cell b.cell (sym a.1.plays ∙ b.is.plays) in
      let is = subst (λ (c : List ℕ). IsFault source.tech.layers source.structs c a.0) cell a.1.is in
      fault_or_lists one_total source.tech.layers source.structs b.cell b.lists a.0 w a.1.some is b.is.flat

  same_unlined : AtMostOne (Unlined source role)
  same_unlined f g a b = a.1 ∙ sym b.1

  unlined_or_sized : NeverBeside (Unlined source role) (HasSize source role)
  unlined_or_sized f a b =
      let flat = one_flat (record { cell = a.0.cell; lists = a.0.lists; is = a.0.flat }) (flat_in b) in
      a.0.none b.size (subst (λ (l : FlatLists). IsCellOutline source.wire source.tech.outline l.shapes b.size) (sym flat.1) b.is.outline)

  -- the sizes of cells that lack something else
  abbrev size_of_unnamed : (name : List ℕ) → LacksSubckt source role name → HasSize source role
  size_of_unnamed name a = record { cell = a.cell; lists = a.lists; size = a.size; is = a.sized }

  abbrev size_of_unported : LacksPorts source role → HasSize source role
  size_of_unported a = record { cell = a.cell; lists = a.lists; size = a.size; is = a.sized }

  abbrev size_of_unpinned : (x : PinFault) → LacksPin source role x → HasSize source role
  size_of_unpinned x a = record { cell = a.cell; lists = a.lists; size = a.size; is = a.sized }

  same_unnamed : AtMostOne (Unnamed source role)
  same_unnamed f g a b =
      let size = one_size (size_of_unnamed a.0 a.1) (size_of_unnamed b.0 b.1) in
      let name : a.0 ≡ b.0 = a.1.is.is ∙ ap lower size.0 ∙ sym b.1.is.is in
      a.2 ∙ ap (λ (n : List ℕ). kit_fault.UnknownSubckt n) name ∙ sym b.2

  unnamed_or_named : NeverBeside (Unnamed source role) (HasSubckt source role)
  unnamed_or_named f a b =
      let size = one_size (size_of_unnamed a.0 a.1) b.sized in
      let none : subckt_named source.subckts (lower b.sized.cell) ≡ None = ap (subckt_named source.subckts) (sym (a.1.is.is ∙ ap lower size.0)) ∙ a.1.is.none in
      let both : ◌≡◌ {A = Option Subckt} None (Some b.subckt) = sym none ∙ b.there in
      cc

  same_unported : AtMostOne (Unported source role)
  same_unported f g a b = a.1 ∙ sym b.1

  unported_or_wired : NeverBeside (Unported source role) (IsWired source role)
  unported_or_wired f a b =
      let size = one_size (size_of_unported a.0) b.sized in
      let there = subst (λ (c : List ℕ). subckt_named source.subckts (lower c) ≡ Some a.0.is.subckt) size.0 a.0.is.there in
      let subckt : a.0.is.subckt ≡ b.ports.subckt = same_Some a.0.is.subckt b.ports.subckt (sym there ∙ b.ports.there) in
      a.0.is.differ (ap (λ (s : Subckt). s.ports) subckt ∙ b.ports.ports)

  same_drawn : (a b : HasSize source role) → drawing_in source a.size a.lists ≡ drawing_in source b.size b.lists
  same_drawn a b =
      let size = one_size a b in
      λ i. drawing_in source (size.2 i) (size.1 i)

  same_unpinned : AtMostOne (Unpinned source role)
  same_unpinned f g a b =
      let p = a.1.is in
      let q = b.1.is in
      let same = same_drawn (size_of_unpinned a.0 p) (size_of_unpinned b.0 q) in
      let is = subst (λ (d : CellDrawing). IsPinFault d (role_demands (pin_role role)) a.0) same p.is in
      let fault : a.0 ≡ b.0 = one_pin_fault (drawing_in source q.size q.lists) (role_demands (pin_role role)) a.0 b.0 a.1.some b.1.some is q.is in
      a.2 ∙ ap (of_pin role) fault ∙ sym b.2

  one_leaf_fault : AreWritable source → AtMostOne (LeafStages source role)
  one_leaf_fault w =
      one_staged (Unflat source role) (HasFlat source role) (AfterLayout source role) (same_unflat w) (unflat_or_flat w)
      (one_staged (Unlined source role) (HasSize source role) (AfterOutline source role) same_unlined unlined_or_sized
      (one_staged (Unnamed source role) (HasSubckt source role) (AfterSubckt source role) same_unnamed unnamed_or_named
      (one_staged (Unported source role) (IsWired source role) (Unpinned source role) same_unported unported_or_wired same_unpinned)))

  abbrev size_of_leaf : (leaf : Leaf) → IsLeaf source role leaf → HasSize source role
  size_of_leaf leaf is = record { cell = is.cell; lists = is.lists; size = size_of leaf; is = is.sized }

  -- the role has one leaf
  one_leaf : (a b : Leaf) → IsLeaf source role a → IsLeaf source role b → a ≡ b
  one_leaf a b p q =
      let size = one_size (size_of_leaf a p) (size_of_leaf b q) in
      let are = subst (λ (d : CellDrawing). AreLeafPins d (role_demands (pin_role role)) a.pins) (same_drawn (size_of_leaf a p) (size_of_leaf b q)) p.pins in
      let pins : a.pins ≡ b.pins = one_list_of_pins (drawing_in source (size_of b) q.lists) (role_demands (pin_role role)) a.pins b.pins q.sized.flat.flat.shapes_rise are q.pins in
      λ i. record { width = (size.2 i).width; height = (size.2 i).height; pins = pins i }

  -- a role that has a leaf has none of the faults
  unpinned_or_leaf : NeverBeside (Unpinned source role) (HasLeaf source role)
  unpinned_or_leaf f a h =
      let p = a.1.is in
      let same = same_drawn (size_of_unpinned a.0 p) (size_of_leaf h.0 h.1) in
      let is = subst (λ (d : CellDrawing). IsPinFault d (role_demands (pin_role role)) a.0) same p.is in
      no_pins_beside (drawing_in source (size_of h.0) h.1.lists) (role_demands (pin_role role)) h.0.pins a.0 a.1.some is h.1.pins

  abbrev wired_leaf : HasLeaf source role → IsWired source role
  wired_leaf h = record { sized = size_of_leaf h.0 h.1; ports = h.1.ports }

  fault_or_leaf : AreWritable source → NeverBeside (LeafStages source role) (HasLeaf source role)
  fault_or_leaf w =
      none_staged (Unflat source role) (HasFlat source role) (AfterLayout source role) (HasLeaf source role) (λ f a h. unflat_or_flat w f a (flat_in (size_of_leaf h.0 h.1)))
      (none_staged (Unlined source role) (HasSize source role) (AfterOutline source role) (HasLeaf source role) (λ f a h. unlined_or_sized f a (size_of_leaf h.0 h.1))
      (none_staged (Unnamed source role) (HasSubckt source role) (AfterSubckt source role) (HasLeaf source role)
      (λ f a h. unnamed_or_named f a (record { sized = size_of_leaf h.0 h.1; subckt = h.1.ports.subckt; there = h.1.ports.there }))
      (none_staged (Unported source role) (IsWired source role) (Unpinned source role) (HasLeaf source role) (λ f a h. unported_or_wired f a (wired_leaf h)) unpinned_or_leaf)))

  -- what a cell passes that lacks something else
  past_outline : (f : KitFault) → HasSize source role → AfterOutline source role f → LeafStages source role f
  past_outline f size after = inr (flat_in size, inr (size, after))

  past_subckt : (f : KitFault) (size : HasSize source role) (subckt : Subckt) → subckt_named source.subckts (lower size.cell) ≡ Some subckt → AfterSubckt source role f → LeafStages source role f
  past_subckt f size subckt there after = past_outline f size (inr (record { sized = size; subckt = subckt; there = there }, after))

  past_ports : (f : KitFault) (x : PinFault) → x ≢ pin_fault.Memory → LacksPin source role x → f ≡ of_pin role x → LeafStages source role f
  past_ports f x some a told =
      let size = size_of_unpinned x a in
      past_subckt f size a.ports.subckt a.ports.there (inr (record { sized = size; ports = a.ports }, (x, record { some = some; is = a }, told)))

  -- each fault of a leaf is that of a stage
  leaf_stages : (f : KitFault) → f ≢ kit_fault.Memory → IsLeafFault source role f → LeafStages source role f
  leaf_stages (kit_fault.Flatten x) some is = inl (x, is, refl)
  leaf_stages (kit_fault.Outline name) some is =
      inr (record { cell = is.1.cell; lists = is.1.lists; is = is.1.flat }, inl (is.1, ap (λ (n : List ℕ). kit_fault.Outline n) is.0))
  leaf_stages (kit_fault.UnknownSubckt name) some is = past_outline (kit_fault.UnknownSubckt name) (size_of_unnamed name is) (inl (name, is, refl))
  leaf_stages (kit_fault.PortsDiffer name) some is =
      past_subckt (kit_fault.PortsDiffer name) (size_of_unported is.1) is.1.is.subckt is.1.is.there (inl (is.1, ap (λ (n : List ℕ). kit_fault.PortsDiffer n) is.0))
  leaf_stages (kit_fault.PinMissing name pin) some is =
      past_ports (kit_fault.PinMissing name pin) (pin_fault.PinMissing pin) (λ e. cc) is.1 (ap (λ (n : List ℕ). kit_fault.PinMissing n pin) is.0)
  leaf_stages (kit_fault.PinLayer name pin) some is =
      past_ports (kit_fault.PinLayer name pin) (pin_fault.PinLayer pin) (λ e. cc) is.1 (ap (λ (n : List ℕ). kit_fault.PinLayer n pin) is.0)
  leaf_stages (kit_fault.EdgePin name pin) some is =
      past_ports (kit_fault.EdgePin name pin) (pin_fault.EdgePin pin) (λ e. cc) is.1 (ap (λ (n : List ℕ). kit_fault.EdgePin n pin) is.0)
  leaf_stages kit_fault.Memory some is = absurd (some refl)
  leaf_stages (kit_fault.Gds fault) some is = absurd is
  leaf_stages (kit_fault.Spice fault) some is = absurd is
  leaf_stages kit_fault.NoWire some is = absurd is
  leaf_stages (kit_fault.Table fault) some is = absurd is
  leaf_stages (kit_fault.HeightDiffers name) some is = absurd is
  leaf_stages (kit_fault.WidthDiffers name) some is = absurd is

  no_leaf : AreWritable source → (f : KitFault) → f ≢ kit_fault.Memory → IsLeafFault source role f → HasLeaf source role → ⊥
  no_leaf w f some is h = fault_or_leaf w f (leaf_stages f some is) h

-- a role has one leaf, or one fault
pub one_leaf_of_role : (source : LeafSource) (role : LeafRole) (a b : Leaf) → IsLeaf source role a → IsLeaf source role b → a ≡ b
one_leaf_of_role = one_leaf

pub one_fault_of_role : (source : LeafSource) (role : LeafRole) → AreWritable source → (f g : KitFault) → f ≢ kit_fault.Memory → g ≢ kit_fault.Memory → IsLeafFault source role f → IsLeafFault source role g → f ≡ g
one_fault_of_role source role w f g some also a b = one_leaf_fault source role w f g (leaf_stages source role f some a) (leaf_stages source role g also b)

pub no_fault_of_role : (source : LeafSource) (role : LeafRole) → AreWritable source → (f : KitFault) → f ≢ kit_fault.Memory → IsLeafFault source role f → HasLeaf source role → ⊥
no_fault_of_role = no_leaf

-- roles have one list of leaves
pub one_list_of_leaves : (source : LeafSource) (a b : List Leaf) → AreLeaves source a → AreLeaves source b → a ≡ b
one_list_of_leaves source a b p q = one_list (λ (r : Role). IsLeaf source (Common r)) all_roles a b (λ (r : Role). one_leaf_of_role source (Common r)) p.sized q.sized p.each q.each

-- the first fault of a leaf is one
pub one_first_fault : (source : LeafSource) → AreWritable source → (f g : KitFault) → f ≢ kit_fault.Memory → g ≢ kit_fault.Memory → IsFirstLeafFault source f → IsFirstLeafFault source g → f ≡ g
one_first_fault source w f g some also a b =
    let Lacks : ℕ → Type 0 = λ k. (r : Role) × (slice_get all_roles k ≡ Some r) × (HasLeaf source (Common r) → ⊥) in
    let place : a.place ≡ b.place = one_first Lacks a.place b.place (a.role, a.there, no_fault_of_role source (Common a.role) w f some a.is) (b.role, b.there, no_fault_of_role source (Common b.role) w g also b.is)
    (λ k lt l. l.2 (a.before k l.0 lt l.1)) (λ k lt l. l.2 (b.before k l.0 lt l.1)) in
    let role : a.role ≡ b.role = one_at all_roles b.place a.role b.role (subst (λ (k : ℕ). slice_get all_roles k ≡ Some a.role) place a.there) b.there in
    one_fault_of_role source (Common b.role) w f g some also (subst (λ (r : Role). IsLeafFault source (Common r) f) role a.is) b.is

-- and there is none where each role has its leaf
pub no_first_fault : (source : LeafSource) → AreWritable source → (f : KitFault) (leaves : List Leaf) → f ≢ kit_fault.Memory → IsFirstLeafFault source f → AreLeaves source leaves → ⊥
no_first_fault source w f leaves some a are =
    let within = slice_get_within all_roles a.place a.role a.there in
    let sized = are.sized in
    let leaf = exists_at leaves a.place (omega (arith, within, sized)) in
    no_fault_of_role source (Common a.role) w f some a.is (leaf.0, are.each a.place a.role leaf.0 a.there leaf.1)
