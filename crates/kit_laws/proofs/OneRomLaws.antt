-- A kit has the leaf cells of a read-only memory, or one fault of them.
use Rattle.std.proofs.Common.{◌≡◌, ◌≢◌, inl, inr, Bool, true, false, Some, refl, sym, ap, subst, ◌∙◌}
use Rattle.std.specs.Prelude.{IsTrue}
use Rattle.std.proofs.lemmas.Option.{same_Some}
use Rattle.cell_roles.specs.declared.leaf_role.LeafRole.TheVariants.{Fixed}
use Rattle.tech_rules.specs.declared.tech.Wire.{Wire}
use Rattle.role_tables.specs.declared.fault.TableFault.TheVariants as table_fault
use Rattle.role_tables.proofs.FaultLaws.{role_one, role_excludes}
use Rattle.leaf_tables.specs.declared.kit.Kit.{Kit}
use Rattle.leaf_tables.specs.declared.kit.Leaf.{Leaf}
use Rattle.leaf_tables.specs.declared.fault.KitFault.{KitFault}
use Rattle.leaf_tables.specs.declared.fault.KitFault.TheVariants as kit_fault
use Rattle.leaf_tables.specs.Faults.{of_table}
use Rattle.leaf_tables.specs.Kits.{IsKit, source_of}
use Rattle.leaf_tables.specs.Leaves.{LeafSource}
use Rattle.rom_leaves.specs.declared.side.SharedSide.{SharedSide}
use Rattle.rom_leaves.specs.RomLeaves.{AreFixedLeaves, IsFixedFault, IsFixedLeaf, LacksFixedLeaf, LacksSharedSide, LacksTable}
use Rattle.rom_leaves.specs.Shared.{IsFirstSideFault, IsShared, IsSideFault, fault_of_side, shared_sides}
use Rattle.kit_laws.specs.OneRom.{RomLeafFaultsAreUnique, RomLeafFaultsExcludeRomLeaves}
use Rattle.kit_laws.proofs.OneAlignmentLaws.{one_odd, odd_or_all}
use Rattle.kit_laws.proofs.OneLeafLaws.{AreWritable, no_fault_of_role, one_fault_of_role, one_leaf_of_role}

abbrev HasFixedLeaf : LeafSource → Bool → Type 0
HasFixedLeaf source bit = (leaf : Leaf) × IsFixedLeaf source bit leaf

-- a table has a fault other than want of memory
told_some : (source : LeafSource) (bit : Bool) (f : KitFault) → f ≢ kit_fault.Memory → (lacks : LacksTable source bit f) → lacks.table ≢ table_fault.Memory
told_some source bit f some lacks e = some (lacks.told ∙ ap of_table e)

-- a cell with a fixed bit has one fault
one_fixed_fault : (source : LeafSource) (bit : Bool) (f g : KitFault) → AreWritable source → f ≢ kit_fault.Memory → g ≢ kit_fault.Memory → IsFixedFault source bit f → IsFixedFault source bit g → f ≡ g
one_fixed_fault source bit f g w some also (inl a) (inl b) =
    a.told ∙ ap of_table (role_one source.tech (Fixed bit) a.table b.table (told_some source bit f some a) (told_some source bit g also b) a.is b.is) ∙ sym b.told
one_fixed_fault source bit f g w some also (inl a) (inr b) = absurd (role_excludes source.tech (Fixed bit) a.table (told_some source bit f some a) a.is b.0)
one_fixed_fault source bit f g w some also (inr a) (inl b) = absurd (role_excludes source.tech (Fixed bit) b.table (told_some source bit g also b) b.is a.0)
one_fixed_fault source bit f g w some also (inr a) (inr b) = one_fault_of_role source (Fixed bit) w f g some also a.1 b.1

-- and none where it is as it has to be
no_fixed_fault : (source : LeafSource) (bit : Bool) (f : KitFault) → AreWritable source → f ≢ kit_fault.Memory → IsFixedFault source bit f → HasFixedLeaf source bit → ⊥
no_fixed_fault source bit f w some (inl a) has = role_excludes source.tech (Fixed bit) a.table (told_some source bit f some a) a.is has.1.table
no_fixed_fault source bit f w some (inr a) has = no_fault_of_role source (Fixed bit) w f some a.1 (has.0, has.1.is)

-- the first of the two cells that has a fault is one
one_first_fixed : (source : LeafSource) (p q : Bool) (f g : KitFault) → AreWritable source → f ≢ kit_fault.Memory → g ≢ kit_fault.Memory → IsFixedFault source p f → IsFixedFault source q g
    → (IsTrue p → HasFixedLeaf source false) → (IsTrue q → HasFixedLeaf source false) → f ≡ g
one_first_fixed source false false f g w some also a b before earlier = one_fixed_fault source false f g w some also a b
one_first_fixed source true true f g w some also a b before earlier = one_fixed_fault source true f g w some also a b
one_first_fixed source false true f g w some also a b before earlier = absurd (no_fixed_fault source false f w some a (earlier refl))
one_first_fixed source true false f g w some also a b before earlier = absurd (no_fixed_fault source false g w also b (before refl))

-- the first side that isn't the bitcell's has one fault
one_side_fault : (bitcell : Leaf) (leaf : Bool → Leaf) (f g : KitFault) → f ≢ kit_fault.Memory → g ≢ kit_fault.Memory → IsFirstSideFault bitcell leaf f → IsFirstSideFault bitcell leaf g → f ≡ g
one_side_fault bitcell leaf f g some also a b = by (one_odd (IsShared bitcell leaf) shared_sides a.pair b.pair a.first b.first) a.is b.is where
  by : a.pair ≡ b.pair → IsSideFault a.pair f → IsSideFault b.pair g → f ≡ g
  by same (inl e) told = absurd (some e)
  by same (inr e) (inl also_none) = absurd (also also_none)
  by same (inr e) (inr told) = e ∙ ap (λ (p : Bool × SharedSide). fault_of_side p.0 p.1) same ∙ sym told

-- of one kit
module _ (kit : Kit) (is : IsKit kit) where
  abbrev Source : LeafSource
  Source = source_of kit is.wire

  writable : AreWritable Source
  writable = is.library.cells

  wire_is : (wire : Wire) → kit.tech.wire ≡ Some wire → wire ≡ is.wire
  wire_is wire wired = same_Some wire is.wire (sym wired ∙ is.wired)

  fault_here : (f : KitFault) (a : LacksFixedLeaf kit f) → IsFixedFault Source a.bit f
  fault_here f a = subst (λ (w : Wire). IsFixedFault (source_of kit w) a.bit f) (wire_is a.wire a.wired) a.is

  before_here : (f : KitFault) (a : LacksFixedLeaf kit f) → IsTrue a.bit → HasFixedLeaf Source false
  before_here f a one = subst (λ (w : Wire). HasFixedLeaf (source_of kit w) false) (wire_is a.wire a.wired) (a.before one)

  leaf_here : (leaf : Bool → Leaf) → AreFixedLeaves kit leaf → (bit : Bool) → IsFixedLeaf Source bit (leaf bit)
  leaf_here leaf are bit = subst (λ (w : Wire). IsFixedLeaf (source_of kit w) bit (leaf bit)) (wire_is are.wire are.wired) (are.each bit)

  same_leaves : (a b : Bool → Leaf) → AreFixedLeaves kit a → AreFixedLeaves kit b → a ≡ b
  same_leaves a b p q = λ i bit. one_leaf_of_role Source (Fixed bit) (a bit) (b bit) (leaf_here a p bit).is (leaf_here b q bit).is i

  lack_or_leaves : (f : KitFault) (leaf : Bool → Leaf) → f ≢ kit_fault.Memory → LacksFixedLeaf kit f → AreFixedLeaves kit leaf → ⊥
  lack_or_leaves f leaf some a are = no_fixed_fault Source a.bit f writable some (fault_here f a) (leaf a.bit, leaf_here leaf are a.bit)

  -- what doesn't stand as in the bitcell, of the bitcell and of the cells that are there
  side_here : (f : KitFault) (bitcell : Leaf) (leaf : Bool → Leaf) (a : LacksSharedSide kit f) → a.bitcell ≡ bitcell → AreFixedLeaves kit leaf → IsFirstSideFault bitcell leaf f
  side_here f bitcell leaf a same are =
      subst (λ (l : Bool → Leaf). IsFirstSideFault bitcell l f) (same_leaves a.leaf leaf a.are are) (subst (λ (c : Leaf). IsFirstSideFault c a.leaf f) same a.is)

pub one_rom_fault : RomLeafFaultsAreUnique
one_rom_fault kit f g is some also (inl a) (inl b) =
    one_first_fixed (source_of kit is.wire) a.bit b.bit f g (writable kit is) some also (fault_here kit is f a) (fault_here kit is g b) (before_here kit is f a) (before_here kit is g b)
one_rom_fault kit f g is some also (inl a) (inr b) = absurd (lack_or_leaves kit is f b.leaf some a b.are)
one_rom_fault kit f g is some also (inr a) (inl b) = absurd (lack_or_leaves kit is g a.leaf also b a.are)
one_rom_fault kit f g is some also (inr a) (inr b) =
    one_side_fault b.bitcell b.leaf f g some also (side_here kit is f b.bitcell b.leaf a (same_Some a.bitcell b.bitcell (sym a.there ∙ b.there)) b.are) b.is

pub no_rom_fault : RomLeafFaultsExcludeRomLeaves
no_rom_fault kit f is some (inl a) has = lack_or_leaves kit is f has.leaf some a has.are
no_rom_fault kit f is some (inr a) has =
    let at = side_here kit is f has.bitcell has.leaf a (same_Some a.bitcell has.bitcell (sym a.there ∙ has.there)) has.are in
    odd_or_all (IsShared has.bitcell has.leaf) shared_sides at.pair at.first has.shared
