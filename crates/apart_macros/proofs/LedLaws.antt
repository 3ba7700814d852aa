-- To each leaf instance of a drawn macro a chain of references leads, whose elements tell it.
use Rattle.std.proofs.Common.{◌≡◌, ◌∙◌, ℕ, zero, suc, ◌+◌, ◌<◌, List, [], ◌∷◌, ◌++◌, length, Contains, Some, refl, sym, ap, subst, arith}
use Rattle.std.specs.Prelude.{slice_get, map}
use Rattle.or_geom.specs.declared.place.Place.{Place}
use Rattle.gds_library.specs.declared.library.Structure.{Structure}
use Rattle.cell_roles.specs.declared.role.Role.{Role}
use Rattle.cell_roles.specs.declared.role.Role.TheVariants.{Bitcell, Driver, Precharge, Write, Sense, Mux, Tie}
use Rattle.tech_rules.specs.declared.tech.Layer.{Layer}
use Rattle.cell_builder.specs.Flat.{IsDrawn}
use Rattle.sram_netlist.specs.Organization.{Organization, inputs_of, columns_of}
use Rattle.sram_netlist.specs.Instances.{LogicCell, LeafInstance, BitAt, NandAt, DriverAt, PrechargeAt, WriteAt, SenseAt, MuxAt, TieAt, LogicAt}
use Rattle.sram_netlist.specs.Netlist.{role}
use Rattle.sram_netlist.specs.Membership.{HasLeafInstance}
use Rattle.sram_netlist.specs.BitCells.{row_name, bit_cell}
use Rattle.macro_layout.specs.LayoutKit.{LayoutKit}
use Rattle.macro_layout.specs.Places.{IsPlaceOf}
use Rattle.macro_layout.specs.Cells.{column_leaf, array_cell, pre_cell, data_cell, bank_cell, logic_row_cell}
use Rattle.macro_layout.specs.Layout.{Drawing, DrawsMacro}
use Rattle.macro_layout.proofs.Parts.{each_row}
use Rattle.contact_nets.proofs.ReferenceLaws.{made_at, left_at, right_at}
use Rattle.contact_nets.proofs.ChainLaws.{IsLedTo, precharge_led, write_led, sense_led, mux_led, tie_led}
use Rattle.contact_nets.proofs.RowChainLaws.{logic_led, gate_led, driver_led, bit_led}
use Rattle.contact_nets.proofs.ChainLaws as chains
use Rattle.contact_nets.proofs.RowChainLaws as row_chains
use Rattle.apart_macros.specs.Told.{elements_along, leaves_of_data, leaf_told}

-- none of a macro's own cells is one of these
pub record AreOtherCells (cells : List (List ℕ)) (plan : Organization) (kit : LayoutKit) (n : List ℕ) (d : Drawing) : Type 0 where
  pub macro : Contains cells n → ⊥
  pub bank : Contains cells (bank_cell plan kit d.floorplan n d.bank_wires).name → ⊥
  pub pre : Contains cells (pre_cell plan kit n).name → ⊥
  pub data_ : Contains cells (data_cell plan kit d.floorplan n).name → ⊥
  pub logic : Contains cells (logic_row_cell plan kit n).name → ⊥
  pub array : Contains cells (array_cell plan kit d.bits n).name → ⊥
  pub row : (r : ℕ) → Contains cells (row_name d.bits n r) → ⊥

-- a chain to the leaf instance that tells it
pub record IsTold (cells : List (List ℕ)) (structs : List Structure) (plan : Organization) (kit : LayoutKit) (n : List ℕ) (leaf : LeafInstance) (place : Place) : Type 0 where
  pub led : IsLedTo cells structs plan kit n leaf place
  pub told : leaf_told plan (elements_along led.chain) ≡ Some leaf

-- the cell behind those before it
behind : (before after : List LogicCell) (cell : LogicCell) → slice_get (map LogicAt (before ++ (cell ∷ after))) (length before) ≡ Some (LogicAt cell)
behind [] after cell = refl
behind (c ∷ before) after cell = behind before after cell

mux_leaf : (m b c : ℕ) → 0 < m → column_leaf m b c ≡ MuxAt b c
mux_leaf zero b c lt = absurd (omega (arith, lt))
mux_leaf (suc m) b c lt = refl

tie_leaf : (m b c : ℕ) → m ≡ 0 → column_leaf m b c ≡ TieAt b c
tie_leaf zero b c e = refl
tie_leaf (suc m) b c e = absurd (omega (arith, e))

write_told : (plan : Organization) (b i : ℕ) → i < inputs_of plan → slice_get (leaves_of_data plan b) i ≡ Some (WriteAt b i)
write_told plan b i lt = left_at _ _ i (WriteAt b i) (made_at (WriteAt b) (inputs_of plan) i lt)

sense_told : (plan : Organization) (b i : ℕ) → i < plan.word_size → slice_get (leaves_of_data plan b) (inputs_of plan + i) ≡ Some (SenseAt b i)
sense_told plan b i lt = right_at (WriteAt b) (inputs_of plan) _ i (SenseAt b i) (left_at _ _ i (SenseAt b i) (made_at (SenseAt b) plan.word_size i lt))

end_told : (plan : Organization) (b c : ℕ) → c < columns_of plan → slice_get (leaves_of_data plan b) (inputs_of plan + (plan.word_size + c)) ≡ Some (column_leaf plan.col_bits b c)
end_told plan b c lt = right_at (WriteAt b) (inputs_of plan) _ (plan.word_size + c) (column_leaf plan.col_bits b c) (right_at (SenseAt b) plan.word_size _ c (column_leaf plan.col_bits b c) (made_at (column_leaf plan.col_bits b) (columns_of plan) c lt))

module _ (cells : List (List ℕ)) (layers : List Layer) (structs : List Structure) (plan : Organization) (kit : LayoutKit) (n : List ℕ) (d : Drawing) (draws : DrawsMacro layers structs plan kit n d) (others : AreOtherCells cells plan kit n d)
    (listed : (r : Role) → Contains cells (kit.cell r)) (bitcell : (r c : ℕ) → bit_cell d.bits r c ≡ kit.cell Bitcell) where
  pub told : (leaf : LeafInstance) (place : Place) → HasLeafInstance plan leaf → IsPlaceOf plan kit d.floorplan leaf place → IsTold cells structs plan kit n leaf place
  unfolding bit_led row_chains.row_led gate_led driver_led precharge_led write_led sense_led mux_led chains.end_led tie_led logic_led
  told (BitAt b r c) place has at = record {
    led = bit_led cells layers structs plan kit n d draws (each_row (IsDrawn layers structs) plan kit d.bits n draws.row) others.macro others.bank others.array others.row b r c place (bitcell r c) (listed Bitcell) has at;
    told = refl;
  }
  told (NandAt b r) place has at = record {
    led = gate_led cells layers structs plan kit n d draws (each_row (IsDrawn layers structs) plan kit d.bits n draws.row) others.macro others.bank others.array others.row b r place (listed (role plan (NandAt b r))) has at;
    told = refl;
  }
  told (DriverAt b r) place has at = record {
    led = driver_led cells layers structs plan kit n d draws (each_row (IsDrawn layers structs) plan kit d.bits n draws.row) others.macro others.bank others.array others.row b r place (listed Driver) has at;
    told = refl;
  }
  told (PrechargeAt b c) place has at = record {
    led = precharge_led cells layers structs plan kit n d draws others.macro others.bank others.pre others.data_ b c place (listed Precharge) has at;
    told = refl;
  }
  told (WriteAt b i) place has at = record {
    led = write_led cells layers structs plan kit n d draws others.macro others.bank others.pre others.data_ b i place (listed Write) has at;
    told = write_told plan b i has.1;
  }
  told (SenseAt b i) place has at = record {
    led = sense_led cells layers structs plan kit n d draws others.macro others.bank others.pre others.data_ b i place (listed Sense) has at;
    told = sense_told plan b i has.1;
  }
  told (MuxAt b c) place has at = record {
    led = mux_led cells layers structs plan kit n d draws others.macro others.bank others.pre others.data_ b c place (listed Mux) has at;
    told = end_told plan b c has.1.0 ∙ ap (λ (l : LeafInstance). Some l) (mux_leaf plan.col_bits b c has.1.1);
  }
  told (TieAt b c) place has at = record {
    led = tie_led cells layers structs plan kit n d draws others.macro others.bank others.pre others.data_ b c place (listed Tie) has at;
    told = end_told plan b c has.1.0 ∙ ap (λ (l : LeafInstance). Some l) (tie_leaf plan.col_bits b c has.1.1);
  }
  told (LogicAt cell) place has at = record {
    led = logic_led cells layers structs plan kit n d draws others.macro others.bank others.data_ others.logic cell place (listed (role plan (LogicAt cell))) at;
    told = subst (λ (cs : List LogicCell). slice_get (map LogicAt cs) (length at.before) ≡ Some (LogicAt cell)) (sym at.row) (behind at.before at.after cell);
  }
