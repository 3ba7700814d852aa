-- The leaf cells of a kit lie near.
use Rattle.std.proofs.Common.{◌≡◌, ℕ, zero, suc, ◌≤◌, Some, subst, arith}
use Rattle.std.proofs.lemmas.Option.{slice_get_within}
use Rattle.cell_roles.specs.declared.role.Role.{Role}
use Rattle.cell_roles.specs.declared.role.Role.TheVariants.{Bitcell, Mux, Tie, Sense, Write, Driver}
use Rattle.cell_roles.specs.Roles.{all_roles}
use Rattle.or_geom.specs.declared.shape.Rect.{Rect}
use Rattle.tech_rules.specs.declared.tech.Wire.{Wire}
use Rattle.tech_rules.specs.Facts.{AreSizes}
use Rattle.leaf_shapes.proofs.PinLaws.{exists_at}
use Rattle.leaf_tables.specs.declared.kit.Kit.{Kit}
use Rattle.leaf_tables.specs.declared.kit.Leaf.{Leaf}
use Rattle.leaf_tables.specs.Alignment.{role_number, leaf_in}
use Rattle.leaf_tables.specs.Kits.{IsKit}
use Rattle.sram_netlist.specs.Netlist.{row_gate}
use Rattle.sram_netlist.proofs.Bounds.{written_most}
use Rattle.sram_netlist.specs.Numbers.{ArePlanNumbers}
use Rattle.sram_plan.specs.declared.numbers.Plan.{Plan}
use Rattle.sram_plan.specs.PlanNumbers.{numbers_of, organization}
use Rattle.floorplan.specs.LeafSides.{leaf_width, leaf_height}
use Rattle.floorplan.specs.LayoutOfKit.{layout_kit}
use Rattle.leaf_tables.proofs.RoleLaws.{role_there, pins_in_kit}
use Rattle.leaf_tables.specs.NearLeaf.{IsLeafLength}
use Rattle.port_data.specs.Pins.{AreNearEnds, column_ends}
use Rattle.floorplan.specs.Demanded.{IsDemandOf}
use Rattle.floorplan.proofs.SideLaws.{width_is, height_is}
use Rattle.floorplan.proofs.DemandLaws.{left_in_kit, pin_is, seven_in_kit}
use Rattle.port_data.proofs.PortLaws.{mux_blo, mux_bro, mux_sel, tie_bl, tie_br, sense_bl, sense_br}
use Rattle.port_data.proofs.ChannelLaws.{AreNear}

-- each role has a leaf
pub leaf_exists : (kit : Kit) → IsKit kit → (role : Role) → (leaf : Leaf) × (leaf_in kit.leaves role ≡ Some leaf)
leaf_exists kit is role =
    let below = slice_get_within all_roles (role_number role) role (role_there role) in
    let sized = is.leaves.sized in
    exists_at kit.leaves (role_number role) (omega (arith, below, sized))

few_wide : (kit : Kit) → IsKit kit → (role : Role) → leaf_width kit role ≤ 65536
few_wide kit is role = let leaf = leaf_exists kit is role in (width_is kit is role leaf.0 leaf.1).few

few_high : (kit : Kit) → IsKit kit → (role : Role) → leaf_height kit role ≤ 65536
few_high kit is role = let leaf = leaf_exists kit is role in (height_is kit is role leaf.0 leaf.1).few

pub near_pin : (kit : Kit) → IsKit kit → (role : Role) (port metal k : ℕ) → IsDemandOf role port metal k → IsLeafLength ((layout_kit kit).pin role port metal).x1
near_pin kit is role port metal k d =
    let leaf = leaf_exists kit is role in
    let sized = pins_in_kit kit role leaf.0 is leaf.1 in
    let below = d.there in
    let pin = exists_at leaf.0.pins k (omega (arith, sized, below)) in
    subst (λ (r : Rect). IsLeafLength r.x1) (pin_is kit is (seven_in_kit kit is) role leaf.0 leaf.1 k pin.0 pin.1 port metal d) (left_in_kit kit role leaf.0 is leaf.1 k pin.0 pin.1)

near_ends : (kit : Kit) → IsKit kit → (bits : ℕ) → AreNearEnds (column_ends bits (layout_kit kit))
near_ends kit is zero = record { lo = near_pin kit is Tie 0 3 1 tie_bl; ro = near_pin kit is Tie 1 3 3 tie_br }
near_ends kit is (suc n) = record { lo = near_pin kit is Mux 2 3 2 mux_blo; ro = near_pin kit is Mux 3 3 3 mux_bro }

pub near_kit : (kit : Kit) (plan : Plan) (wire : Wire) → IsKit kit → ArePlanNumbers (numbers_of plan) → AreSizes wire → AreNear (organization plan) (layout_kit kit) wire
near_kit kit plan wire is numbers sizes = record {
  buildable = numbers.plan;
  bit = few_wide kit is Bitcell;
  write = let high = few_high kit is Write in let most = written_most plan.write_size (leaf_height kit Write) in omega (arith, high, most);
  sense = few_high kit is Sense;
  drive = let gate = few_wide kit is (row_gate (organization plan).groups) in let driver = few_wide kit is Driver in omega (arith, gate, driver);
  column_ends = near_ends kit is plan.col_bits;
  choice = near_pin kit is Mux 4 3 4 mux_sel;
  sense_ends = record { lo = near_pin kit is Sense 0 1 0 sense_bl; ro = near_pin kit is Sense 1 1 1 sense_br };
  sizes = sizes;
}
