-- A kit with the leaf cells of a read-only memory has each of them.
use Rattle.std.proofs.Common.{◌≡◌, inr, Bool, true, false, Some, Result, Ok, Err, sym, subst, ◌∙◌}
use Rattle.std.specs.Prelude.{IfErr, OnOk}
use Rattle.std.proofs.lemmas.Option.{same_Some}
use Rattle.cell_roles.specs.declared.role.Role.TheVariants.{Bitcell}
use Rattle.cell_roles.specs.declared.leaf_role.LeafRole.TheVariants.{Fixed}
use Rattle.tech_rules.specs.declared.tech.Wire.{Wire}
use Rattle.leaf_tables.specs.declared.fault.KitFault.{KitFault}
use Rattle.leaf_tables.specs.declared.kit.Kit.{Kit}
use Rattle.leaf_tables.specs.declared.kit.Leaf.{Leaf}
use Rattle.leaf_tables.specs.Alignment.{leaf_in}
use Rattle.leaf_tables.specs.Kits.{source_of}
use Rattle.leaf_tables.specs.Leaves.{IsLeaf, LeafSource}
use Rattle.rom_leaves.specs.declared.side.SharedSide.TheVariants.{Height, Width, LeftOfBl, LeftOfBr, LowOfWl}
use Rattle.rom_leaves.specs.RomLeaves.{AreFixedLeaves, HasRomLeaves, IsFixedLeaf, IsRomLeafFault}
use Rattle.rom_leaves.specs.Shared.{AreAllShared, IsFirstSideFault, cell_with}
use Rattle.rom_leaves.specs.Laws.{RomLeavesAreLeaves, RomLeavesStandAsBitcells}

pub leaves_are_leaves : RomLeavesAreLeaves
leaves_are_leaves kit has wire wired bit =
    let same = same_Some has.are.wire wire (sym has.are.wired ∙ wired) in
    subst (λ (w : Wire). IsLeaf (source_of kit w) (Fixed bit) (has.leaf bit)) same (has.are.each bit).is

pub stand_as_bitcells : RomLeavesStandAsBitcells
stand_as_bitcells kit has false Height = has.shared.0
stand_as_bitcells kit has true Height = has.shared.1.0
stand_as_bitcells kit has false Width = has.shared.1.1.0
stand_as_bitcells kit has true Width = has.shared.1.1.1.0
stand_as_bitcells kit has false LeftOfBl = has.shared.1.1.1.1.0
stand_as_bitcells kit has false LeftOfBr = has.shared.1.1.1.1.1.0
stand_as_bitcells kit has false LowOfWl = has.shared.1.1.1.1.1.1.0
stand_as_bitcells kit has true LeftOfBl = has.shared.1.1.1.1.1.1.1.0
stand_as_bitcells kit has true LeftOfBr = has.shared.1.1.1.1.1.1.1.1.0
stand_as_bitcells kit has true LowOfWl = has.shared.1.1.1.1.1.1.1.1.1.0

-- the cells for 0 and for 1 are cells for each bit
each_bit : (source : LeafSource) (zero one : Leaf) → IsFixedLeaf source false zero → IsFixedLeaf source true one → (bit : Bool) → IsFixedLeaf source bit (cell_with zero one bit)
each_bit source zero one first second false = first
each_bit source zero one first second true = second

-- what is known of a kit once both of its cells are read
pub record HasBoth (kit : Kit) (bitcell zero one : Leaf) : Type 0 where
  pub wire : Wire
  pub wired : kit.tech.wire ≡ Some wire
  pub there : leaf_in kit.leaves Bitcell ≡ Some bitcell
  pub first : IsFixedLeaf (source_of kit wire) false zero
  pub second : IsFixedLeaf (source_of kit wire) true one

abbrev both : (kit : Kit) (bitcell zero one : Leaf) → HasBoth kit bitcell zero one → AreFixedLeaves kit (cell_with zero one)
both kit bitcell zero one h = record { wire = h.wire; wired = h.wired; each = each_bit (source_of kit h.wire) zero one h.first h.second }

-- then what is said of their sides is said of the kit
pub has_leaves : {X : Type 0} (kit : Kit) (bitcell zero one : Leaf) (r : Result X KitFault) → HasBoth kit bitcell zero one → OnOk r (AreAllShared bitcell (cell_with zero one)) → OnOk r (HasRomLeaves kit)
has_leaves kit bitcell zero one (Ok x) h shared = record { leaf = cell_with zero one; are = both kit bitcell zero one h; bitcell = bitcell; there = h.there; shared = shared }
has_leaves kit bitcell zero one (Err f) h shared = tt

pub lacks_side : {X : Type 0} (kit : Kit) (bitcell zero one : Leaf) (r : Result X KitFault) → HasBoth kit bitcell zero one → IfErr r (IsFirstSideFault bitcell (cell_with zero one)) → IfErr r (IsRomLeafFault kit)
lacks_side kit bitcell zero one (Ok x) h is = tt
lacks_side kit bitcell zero one (Err f) h is = inr (record { leaf = cell_with zero one; are = both kit bitcell zero one h; bitcell = bitcell; there = h.there; is = is })
