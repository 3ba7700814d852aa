-- In an aligned kit the pins of the array face each other.
use Rattle.std.proofs.Common.{◌≡◌, ◌⊎◌, inl, inr, ℕ, zero, suc, ◌+◌, ◌<◌, ℤ, Bool, cond, not, List, [], ◌∷◌, length, Option, Some, refl, sym, ap, subst, ◌∙◌, arith}
use Rattle.std.specs.Prelude.{slice_get, option_map, option_and_then, codes}
use Rattle.std.specs.List.{position_or_len}
use Rattle.std.specs.Str.{bytes_eq}
use Rattle.std.proofs.lemmas.List.Folds.{find_at}
use Rattle.or_geom.specs.declared.shape.Rect.{Rect}
use Rattle.cell_roles.specs.declared.role.Role.{Role}
use Rattle.cell_roles.specs.declared.role.Role.TheVariants.{Bitcell, Precharge, Mux, Tie, Sense, Write, RowNand2, RowNand3, Driver}
use Rattle.cell_roles.specs.declared.leaf_role.LeafRole.TheVariants.{Common}
use Rattle.cell_roles.specs.Roles.{all_roles}
use Rattle.leaf_shapes.specs.declared.demand.Metal.{Metal}
use Rattle.leaf_shapes.specs.declared.demand.Metal.TheVariants.{M1, M2}
use Rattle.leaf_shapes.specs.declared.fit.Fit.{Fit}
use Rattle.leaf_shapes.specs.declared.fit.Fit.TheVariants.{Top, Bottom, TopAndBottom, Left, Right, LeftAndRight}
use Rattle.leaf_shapes.specs.declared.pins.LeafPin.{LeafPin}
use Rattle.leaf_shapes.specs.Demands.{PinDemand, draw, role_demands}
use Rattle.leaf_tables.specs.declared.alignment.PinEdge.{PinEdge}
use Rattle.leaf_tables.specs.declared.alignment.PinEdge.TheVariants as edge
use Rattle.leaf_tables.specs.declared.kit.Kit.{Kit}
use Rattle.leaf_tables.specs.Alignment.{role_number, first_pin, end_of, end_of_pin, end_in}
use Rattle.leaf_tables.specs.Kits.{IsKit, source_of}
use Rattle.leaf_tables.specs.Leaves.{IsLeaf}
use Rattle.leaf_tables.proofs.RoleLaws.{role_there}
use Rattle.sram_netlist.specs.Organization.{Organization}
use Rattle.sram_netlist.specs.BitCells.{BitCells}
use Rattle.sram_netlist.specs.Netlist.{row_gate}
use Rattle.macro_layout.specs.LayoutKit.{LayoutKit}
use Rattle.macro_layout.specs.Places.{Floorplan}
use Rattle.macro_layout.specs.Floorplan.{Tracks, column_role}
use Rattle.joined_nets.proofs.WireNetLaws.{item_there, place_below}
use Rattle.kit_nets.specs.LaidKit.{IsLaidBy}
use Rattle.kit_nets.specs.RolePins.{metal_place, IsDemand, ArePinsFacing, AreRolePins}
use Rattle.kit_nets.specs.KitLeaf.{KnownLeaf}
use Rattle.kit_nets.proofs.KnownLaws.{known_source}
use Rattle.kit_nets.proofs.KitPinLaws.{kit_pin_drawn}

-- the first that has p of one list stands where the first that has q of the other does (as in `floorplan`)
same_place : {A B : Type 0} (p : A → Bool) (q : B → Bool) (xs : List A) (ys : List B) → length xs ≡ length ys → ((k : ℕ) (x : A) (y : B) → slice_get xs k ≡ Some x → slice_get ys k ≡ Some y → p x ≡ q y) → position_or_len p xs ≡ position_or_len q ys
same_place p q [] [] sized same = refl
same_place p q [] (y ∷ ys) sized same = absurd (omega (arith, sized))
same_place p q (x ∷ xs) [] sized same = absurd (omega (arith, sized))
same_place p q (x ∷ xs) (y ∷ ys) sized same =
    let later = same_place p q xs ys (omega (arith, sized)) (λ k. same (suc k)) in
    step (p x) (q y) (same 0 x y refl refl) later
  where
    step : (a b : Bool) → a ≡ b → position_or_len p xs ≡ position_or_len q ys → cond (not a) (1 + position_or_len p xs) 0 ≡ cond (not b) (1 + position_or_len q ys) 0
    step a b e later = (λ i. cond (not (e i)) (1 + later i) 0)

abbrev edge_of : PinEdge → Rect → ℤ
edge_of edge.Left r = r.x1
edge_of edge.Low r = r.y1

edge_is : (e : PinEdge) (pin : LeafPin) → end_of e pin ≡ edge_of e pin.rect
edge_is edge.Left pin = refl
edge_is edge.Low pin = refl

one_end : (a b : Option ℤ) (x y : ℤ) → a ≡ Some x → b ≡ Some y → a ≡ b → x ≡ y
one_end a b x y at_a at_b same = some_same x y (sym at_a ∙ (same ∙ at_b)) where
  some_same : (x y : ℤ) → ◌≡◌ {A = Option ℤ} (Some x) (Some y) → x ≡ y
  some_same x y e = cc

module _ (kit : Kit) (is : IsKit kit) (lk : LayoutKit) (laid : IsLaidBy kit lk) where
  -- the end of the first shape of a role's pin, where it is the demanded one
  end_there : (role : Role) (port : ℕ) (on : Metal) (fit : Fit) (e : PinEdge) (d : IsDemand role port on fit) → position_or_len (λ (x : PinDemand). bytes_eq x.pin d.name) (role_demands role) ≡ d.place → end_in kit.leaves role d.name e ≡ Some (edge_of e (lk.pin role port (metal_place on)))
  end_there role port on fit e d first =
      let lt = place_below all_roles (role_number role) role (role_there role) in
      let leaf = item_there kit.leaves (role_number role) (subst (λ (n : ℕ). role_number role < n) (sym is.leaves.sized) lt) in
      let l : IsLeaf (source_of kit is.wire) (Common role) leaf.0 = is.leaves.each (role_number role) role leaf.0 (role_there role) leaf.1 in
      let few = place_below (role_demands role) d.place (draw d.name on fit) d.there in
      let pin = item_there leaf.0.pins d.place (subst (λ (n : ℕ). d.place < n) (sym l.pins.sized) few) in
      let found : first_pin leaf.0.pins d.name ≡ Some pin.0 =
      find_at (λ (p : LeafPin). bytes_eq p.pin d.name) leaf.0.pins
      ∙ (ap (slice_get leaf.0.pins) (same_place (λ (p : LeafPin). bytes_eq p.pin d.name) (λ (x : PinDemand). bytes_eq x.pin d.name) leaf.0.pins (role_demands role) l.pins.sized (λ k p x at_p at_x. ap (λ (n : List ℕ). bytes_eq n d.name) (l.pins.each k x p at_x at_p).named) ∙ first) ∙ pin.1) in
      ap (option_and_then (end_of_pin e d.name)) leaf.1
      ∙ (ap (option_map (end_of e)) found ∙ ap (λ (z : ℤ). Some z) (edge_is e pin.0 ∙ ap (edge_of e) (laid.pin role leaf.0 leaf.1 port on fit d pin.0 pin.1)))

  -- two roles' pins
  faces : (role other : Role) (port other_port : ℕ) (on other_on : Metal) (fit other_fit : Fit) (e : PinEdge) (d : IsDemand role port on fit) (o : IsDemand other other_port other_on other_fit) → position_or_len (λ (x : PinDemand). bytes_eq x.pin d.name) (role_demands role) ≡ d.place → position_or_len (λ (x : PinDemand). bytes_eq x.pin o.name) (role_demands other) ≡ o.place
      → end_in kit.leaves role d.name e ≡ end_in kit.leaves other o.name e → edge_of e (lk.pin role port (metal_place on)) ≡ edge_of e (lk.pin other other_port (metal_place other_on))
  faces role other port other_port on other_on fit other_fit e d o first other_first same =
      one_end (end_in kit.leaves role d.name e) (end_in kit.leaves other o.name e) (edge_of e (lk.pin role port (metal_place on))) (edge_of e (lk.pin other other_port (metal_place other_on))) (end_there role port on fit e d first) (end_there other other_port other_on other_fit e o other_first) same

  precharge_bl : (lk.pin Precharge 0 1).x1 ≡ (lk.pin Bitcell 0 1).x1
  precharge_bl = faces Precharge Bitcell 0 0 M2 M2 Bottom TopAndBottom edge.Left (record { place = 0; name = codes "bl"; there = refl; named = refl }) (record { place = 0; name = codes "bl"; there = refl; named = refl }) refl refl is.aligned.facing.0

  precharge_br : (lk.pin Precharge 1 1).x1 ≡ (lk.pin Bitcell 1 1).x1
  precharge_br = faces Precharge Bitcell 1 1 M2 M2 Bottom TopAndBottom edge.Left (record { place = 1; name = codes "br"; there = refl; named = refl }) (record { place = 1; name = codes "br"; there = refl; named = refl }) refl refl is.aligned.facing.1.0

  mux_bl : (lk.pin Mux 0 1).x1 ≡ (lk.pin Bitcell 0 1).x1
  mux_bl = faces Mux Bitcell 0 0 M2 M2 Top TopAndBottom edge.Left (record { place = 0; name = codes "bl"; there = refl; named = refl }) (record { place = 0; name = codes "bl"; there = refl; named = refl }) refl refl is.aligned.facing.1.1.0

  mux_br : (lk.pin Mux 1 1).x1 ≡ (lk.pin Bitcell 1 1).x1
  mux_br = faces Mux Bitcell 1 1 M2 M2 Top TopAndBottom edge.Left (record { place = 1; name = codes "br"; there = refl; named = refl }) (record { place = 1; name = codes "br"; there = refl; named = refl }) refl refl is.aligned.facing.1.1.1.0

  tie_bl : (lk.pin Tie 0 1).x1 ≡ (lk.pin Bitcell 0 1).x1
  tie_bl = faces Tie Bitcell 0 0 M2 M2 Top TopAndBottom edge.Left (record { place = 0; name = codes "bl"; there = refl; named = refl }) (record { place = 0; name = codes "bl"; there = refl; named = refl }) refl refl is.aligned.facing.1.1.1.1.0

  tie_br : (lk.pin Tie 1 1).x1 ≡ (lk.pin Bitcell 1 1).x1
  tie_br = faces Tie Bitcell 1 1 M2 M2 Top TopAndBottom edge.Left (record { place = 2; name = codes "br"; there = refl; named = refl }) (record { place = 1; name = codes "br"; there = refl; named = refl }) refl refl is.aligned.facing.1.1.1.1.1.0

  write_bl : (lk.pin Write 1 1).x1 ≡ (lk.pin Sense 0 1).x1
  write_bl = faces Write Sense 1 0 M2 M2 Top TopAndBottom edge.Left (record { place = 1; name = codes "bl"; there = refl; named = refl }) (record { place = 0; name = codes "bl"; there = refl; named = refl }) refl refl is.aligned.facing.1.1.1.1.1.1.0

  write_br : (lk.pin Write 2 1).x1 ≡ (lk.pin Sense 1 1).x1
  write_br = faces Write Sense 2 1 M2 M2 Top TopAndBottom edge.Left (record { place = 2; name = codes "br"; there = refl; named = refl }) (record { place = 1; name = codes "br"; there = refl; named = refl }) refl refl is.aligned.facing.1.1.1.1.1.1.1.0

  two_z : (lk.pin RowNand2 2 0).y1 ≡ (lk.pin Driver 0 0).y1
  two_z = faces RowNand2 Driver 2 0 M1 M1 Right Left edge.Low (record { place = 2; name = codes "z"; there = refl; named = refl }) (record { place = 0; name = codes "a"; there = refl; named = refl }) refl refl is.aligned.facing.1.1.1.1.1.1.1.1.0

  three_z : (lk.pin RowNand3 3 0).y1 ≡ (lk.pin Driver 0 0).y1
  three_z = faces RowNand3 Driver 3 0 M1 M1 Right Left edge.Low (record { place = 3; name = codes "z"; there = refl; named = refl }) (record { place = 0; name = codes "a"; there = refl; named = refl }) refl refl is.aligned.facing.1.1.1.1.1.1.1.1.1.0

  driver_z : (lk.pin Driver 2 0).y1 ≡ (lk.pin Bitcell 2 0).y1
  driver_z = faces Driver Bitcell 2 2 M1 M1 Right LeftAndRight edge.Low (record { place = 2; name = codes "z"; there = refl; named = refl }) (record { place = 2; name = codes "wl"; there = refl; named = refl }) refl refl is.aligned.facing.1.1.1.1.1.1.1.1.1.1.0

  facing_column : (n port : ℕ) → port < 2 → (lk.pin (column_role n) port 1).x1 ≡ (lk.pin Bitcell port 1).x1
  facing_column zero zero lt = tie_bl
  facing_column zero (suc zero) lt = tie_br
  facing_column zero (suc (suc port)) lt = absurd (omega (arith, lt))
  facing_column (suc n) zero lt = mux_bl
  facing_column (suc n) (suc zero) lt = mux_br
  facing_column (suc n) (suc (suc port)) lt = absurd (omega (arith, lt))

  facing_precharge : (port : ℕ) → port < 2 → (lk.pin Precharge port 1).x1 ≡ (lk.pin Bitcell port 1).x1
  facing_precharge zero lt = precharge_bl
  facing_precharge (suc zero) lt = precharge_br
  facing_precharge (suc (suc port)) lt = absurd (omega (arith, lt))

  facing_write : (port : ℕ) → port < 2 → (lk.pin Write (suc port) 1).x1 ≡ (lk.pin Sense port 1).x1
  facing_write zero lt = write_bl
  facing_write (suc zero) lt = write_br
  facing_write (suc (suc port)) lt = absurd (omega (arith, lt))

  facing_gate : (groups : List ℕ) → (length groups ≡ 2) ⊎ (length groups ≡ 3) → (lk.pin (row_gate groups) (length groups) 0).y1 ≡ (lk.pin Driver 0 0).y1
  facing_gate [] (inl e) = absurd (omega (arith, e))
  facing_gate [] (inr e) = absurd (omega (arith, e))
  facing_gate (a ∷ []) (inl e) = absurd (omega (arith, e))
  facing_gate (a ∷ []) (inr e) = absurd (omega (arith, e))
  facing_gate (a ∷ b ∷ []) e = two_z
  facing_gate (a ∷ b ∷ c ∷ []) e = three_z
  facing_gate (a ∷ b ∷ c ∷ d ∷ gs) (inl e) = absurd (omega (arith, e))
  facing_gate (a ∷ b ∷ c ∷ d ∷ gs) (inr e) = absurd (omega (arith, e))

  -- The pins that have to face each other do in the layout.
  pub kit_pins_face : ArePinsFacing lk
  kit_pins_face = record { column = facing_column; precharge = facing_precharge; write = facing_write; gate = facing_gate; driver = driver_z }

-- A kit's pins in its layout are as the macro's nets need them.
pub kit_role_pins : (kit : Kit) (is : IsKit kit) (known : (r : Role) → KnownLeaf kit r) (plan : Organization) (lk : LayoutKit) (bits : BitCells) (tracks : Tracks) (fl : Floorplan) → IsLaidBy kit lk → AreRolePins (known_source kit known plan lk bits is.wire tracks fl)
kit_role_pins kit is known plan lk bits tracks fl laid = record { drawn = kit_pin_drawn kit is known plan lk bits tracks fl laid; facing = kit_pins_face kit is lk laid }
