-- In an aligned kit the cells of the logic row are equally high.
use Rattle.std.proofs.Common.{◌≡◌, ℕ, ◌<◌, ℤ, pos, Option, Some, refl, sym, ap, subst, ◌∙◌, arith}
use Rattle.std.specs.Prelude.{option_map}
use Rattle.std.proofs.lemmas.Int.{ints}
use Rattle.cell_roles.specs.declared.role.Role.{Role}
use Rattle.cell_roles.specs.declared.role.Role.TheVariants.{Bitcell, Precharge, Mux, Tie, Sense, Write, RowNand2, RowNand3, Driver, Nand2, Nand3, Inv, Dff, Delay}
use Rattle.cell_roles.specs.Roles.{all_roles}
use Rattle.leaf_tables.specs.declared.kit.Kit.{Kit}
use Rattle.leaf_tables.specs.declared.kit.Leaf.{Leaf}
use Rattle.leaf_tables.specs.Alignment.{role_number, height_in}
use Rattle.leaf_tables.specs.Kits.{IsKit}
use Rattle.leaf_tables.proofs.RoleLaws.{role_there}
use Rattle.sram_netlist.specs.Organization.{Organization}
use Rattle.sram_netlist.specs.Instances.{LogicCell, LogicAt}
use Rattle.sram_netlist.specs.Netlist.{role, logic_role}
use Rattle.macro_layout.specs.LayoutKit.{LayoutKit}
use Rattle.joined_nets.proofs.WireNetLaws.{item_there, place_below}
use Rattle.kit_nets.specs.LaidKit.{IsLaidBy}
use Rattle.kit_nets.proofs.MainHubLaws.{IsLogicRole, is_logic_role}

some_side : (m n : ℕ) → ◌≡◌ {A = Option ℤ} (Some (pos m)) (Some (pos n)) → m ≡ n
some_side m n e = let same = inner (pos m) (pos n) e in omega (arith, ints, same) where
  inner : (x y : ℤ) → ◌≡◌ {A = Option ℤ} (Some x) (Some y) → x ≡ y
  inner x y h = cc

module _ (kit : Kit) (is : IsKit kit) (lk : LayoutKit) (laid : IsLaidBy kit lk) where
  height_there : (r : Role) → height_in kit.leaves r ≡ Some (pos (lk.height r))
  height_there r =
      let lt = place_below all_roles (role_number r) r (role_there r) in
      let leaf = item_there kit.leaves (role_number r) (subst (λ (n : ℕ). role_number r < n) (sym is.leaves.sized) lt) in
      ap (option_map (λ (l : Leaf). l.height)) leaf.1 ∙ ap (λ (z : ℤ). Some z) (laid.height r leaf.0 leaf.1)

  equally : (r other : Role) → height_in kit.leaves r ≡ height_in kit.leaves other → lk.height r ≡ lk.height other
  equally r other same = some_side (lk.height r) (lk.height other) (sym (height_there r) ∙ (same ∙ height_there other))

  inverter : lk.height Inv ≡ lk.height Nand2
  inverter = equally Inv Nand2 is.aligned.heights.1.1.1.1.0

  as_inverter : (r : Role) → IsLogicRole r → lk.height r ≡ lk.height Inv
  as_inverter Nand2 logic = sym inverter
  as_inverter Nand3 logic = equally Nand3 Nand2 is.aligned.heights.1.1.1.0 ∙ sym inverter
  as_inverter Inv logic = refl
  as_inverter Dff logic = equally Dff Nand2 is.aligned.heights.1.1.1.1.1.0 ∙ sym inverter
  as_inverter Delay logic = equally Delay Nand2 is.aligned.heights.1.1.1.1.1.1.0 ∙ sym inverter
  as_inverter Bitcell logic = absurd logic
  as_inverter Precharge logic = absurd logic
  as_inverter Mux logic = absurd logic
  as_inverter Tie logic = absurd logic
  as_inverter Sense logic = absurd logic
  as_inverter Write logic = absurd logic
  as_inverter RowNand2 logic = absurd logic
  as_inverter RowNand3 logic = absurd logic
  as_inverter Driver logic = absurd logic

  -- The cells of the logic row are as high as its inverters.
  pub logic_tall : (plan : Organization) (cell : LogicCell) → lk.height (role plan (LogicAt cell)) ≡ lk.height Inv
  logic_tall plan cell = as_inverter (logic_role plan cell) (is_logic_role plan cell)
