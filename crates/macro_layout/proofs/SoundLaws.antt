-- Chains from a macro go down through its cells, and then on in the cell of a leaf.
use Rattle.std.proofs.Common.{◌≡◌, ◌⊎◌, inl, inr, ℕ, zero, suc, ◌+◌, ◌<◌, ◌≤◌, List, [], ◌∷◌, ◌++◌, length, refl, sym, ap, subst, ◌∙◌, arith}
use Rattle.std.specs.Prelude.{Contains}
use Rattle.std.proofs.lemmas.List.Elements.{Contains-append_right}
use Rattle.std.proofs.lemmas.List.{length-append}
use Rattle.or_geom.proofs.ListLaws.{contains_none, contains_cases}
use Rattle.gds_library.specs.declared.library.Element.{Element}
use Rattle.gds_library.specs.declared.library.Structure.{Structure}
use Rattle.tech_rules.specs.declared.tech.Layer.{Layer}
use Rattle.cell_chains.specs.Instances.{Item}
use Rattle.cell_chains.specs.Chains.{elements_of, IsThere, IsItemFrom, IsItemOf, IsChain, Reaches, ReachesItself}
use Rattle.cell_builder.specs.declared.cell.DrawnCell.{DrawnCell}
use Rattle.cell_builder.specs.Flat.{IsTakenOver, IsDrawn}
use Rattle.cell_builder.proofs.FlatLaws.{item_of_cell}
use Rattle.cell_builder.proofs.LibraryLaws.{has_drawn, there_or_not, kept_elements, finished_cells_are_drawn}
use Rattle.sram_netlist.specs.Organization.{Organization, bank_rows, columns_of, banks_of, total_bits}
use Rattle.sram_netlist.specs.Instances.{LeafInstance, BitAt, NandAt, DriverAt, PrechargeAt, WriteAt, SenseAt, LogicAt}
use Rattle.sram_netlist.specs.InstanceList.{tabulate, logic_cells}
use Rattle.sram_netlist.specs.Membership.{HasLeafInstance}
use Rattle.sram_netlist.specs.BitCells.{row_name}
use Rattle.sram_netlist.proofs.Bounds.{twice_above}
use Rattle.macro_layout.specs.LayoutKit.{LayoutKit}
use Rattle.macro_layout.specs.Places.{leaf_cell}
use Rattle.macro_layout.specs.Cells.{row_cell, row_at, array_cell, array_cell_name, pre_cell, pre_cell_name, precharge_at, data_cell, data_cell_name, column_leaf, bank_cell, bank_cell_name, array_at, pre_at, data_at, logic_row_cell, logic_cell_name, logic_at, bank_at, macro_cell}
use Rattle.macro_layout.specs.Layout.{Drawing, IsMacroOf}
use Rattle.macro_layout.specs.Sound.{IsSoundWithin, MacrosAreSound}
use Rattle.macro_layout.proofs.TakenLaws.{taken_none, taken_cases, numbered_taken}
use Rattle.macro_layout.proofs.Parts.{each_row, Slot, BitSlot, GateSlot, DriverSlot, IsSlot, slot_item}
use Rattle.macro_layout.proofs.BankLaws.{slots_of_row, data_leaf}
use Rattle.macro_layout.proofs.RowLaws.{seats_of_row, has_seat}
use Rattle.macro_layout.proofs.MacroLaws.{same_column, column_has}

-- a macro over a kit whose leaves are sound
record Setting : Type 0 where
  layers : List Layer
  kit_structs : List Structure
  cells : List DrawnCell
  structs : List Structure
  plan : Organization
  kit : LayoutKit
  n : List ℕ
  d : Drawing
  depth : ℕ
  is : IsMacroOf layers kit_structs cells structs plan kit n d
  sound : (leaf : LeafInstance) → HasLeafInstance plan leaf → IsSoundWithin depth kit_structs (leaf_cell plan kit d.bits leaf)

-- chains

chain_joined : (structs : List Structure) (from middle to : List ℕ) (first second : List Item) → IsChain structs from first middle → IsChain structs middle second to → IsChain structs from (first ++ second) to
chain_joined structs from middle to [] second e h = subst (λ (name : List ℕ). IsChain structs name second to) e h
chain_joined structs from middle to (item ∷ items) second h g = (h.0, chain_joined structs item.cell middle to items second h.1 g)

-- the cell of a leaf leads there, in the kit
record InKit (s : Setting) (name : List ℕ) : Type 0 where
  leaf : LeafInstance
  has : HasLeafInstance s.plan leaf
  reached : Reaches s.kit_structs (leaf_cell s.plan s.kit s.d.bits leaf) name

-- The name is of a cell on this level: a leaf's cell or one below it; one whose instances are leaves; the array; the bank; the
-- macro.
abbrev IsOnLevel : Setting → ℕ → List ℕ → Type 0
IsOnLevel s zero name = InKit s name
IsOnLevel s (suc zero) name = ((r : ℕ) × (r < bank_rows s.plan) × (name ≡ row_name s.d.bits s.n r)) ⊎ ((name ≡ pre_cell_name s.n) ⊎ ((name ≡ data_cell_name s.n) ⊎ (name ≡ logic_cell_name s.n)))
IsOnLevel s (suc (suc zero)) name = name ≡ array_cell_name s.n
IsOnLevel s (suc (suc (suc zero))) name = name ≡ bank_cell_name s.n
IsOnLevel s (suc (suc (suc (suc zero)))) name = name ≡ s.n
IsOnLevel s (suc (suc (suc (suc (suc k))))) name = ⊥

record IsBelowLevel (s : Setting) (k : ℕ) (name : List ℕ) : Type 0 where
  level : ℕ
  below : level < k
  on : IsOnLevel s level name

-- To what the instances of a cell refer: what they take over where an instance takes its cell's name.
abbrev Refers : Item → (List ℕ → Type 0) → List ℕ → Type 0
Refers item P name = P name

abbrev IsName : List ℕ → List ℕ → Type 0
IsName cell name = cell ≡ name

referred : (layers : List Layer) (structs : List Structure) (cell : DrawnCell) (item : Item) → IsDrawn layers structs cell → IsItemOf structs cell.name item → IsTakenOver Refers IsName cell.instances item.cell
referred layers structs cell item drawn h =
    let r = item_of_cell layers structs cell item drawn h in
    record { instance = r.instance; among = r.among; taken = ap (λ (i : Item). i.cell) (sym r.same) }

drawn_in : (s : Setting) (cell : DrawnCell) → Contains s.cells cell → IsDrawn s.layers s.structs cell
drawn_in s cell among = finished_cells_are_drawn s.layers s.kit_structs s.cells s.structs s.is.made s.is.differ cell among

item_in : (s : Setting) (cell : DrawnCell) (name : List ℕ) (item : Item) → Contains s.cells cell → name ≡ cell.name → IsItemOf s.structs name item → IsTakenOver Refers IsName cell.instances item.cell
item_in s cell name item among e h = referred s.layers s.structs cell item (drawn_in s cell among) (subst (λ (x : List ℕ). IsItemOf s.structs x item) e h)

-- a row's cell
row_among : (s : Setting) (r : ℕ) → r < bank_rows s.plan → Contains s.cells (row_cell s.plan s.kit s.d.bits s.n r)
row_among s r lt = each_row (Contains s.cells) s.plan s.kit s.d.bits s.n s.is.has.row r lt

-- leaves

leaf_in_kit : (s : Setting) (leaf : LeafInstance) (k : ℕ) (name : List ℕ) → HasLeafInstance s.plan leaf → leaf_cell s.plan s.kit s.d.bits leaf ≡ name → 0 < k → IsBelowLevel s k name
leaf_in_kit s leaf k name has e some = record { level = 0; below = some; on = record { leaf = leaf; has = has; reached = record { chain = []; leads = sym e } } }

some_bank : (plan : Organization) → 0 < banks_of plan
some_bank plan = let t = twice_above plan.bank_bits in omega (arith, t)

some_row : (plan : Organization) → 0 < bank_rows plan
some_row plan = let t = twice_above (total_bits plan.groups) in omega (arith, t)

slot_in_kit : (s : Setting) (r : ℕ) (slot : Slot) (name : List ℕ) → r < bank_rows s.plan → IsSlot s.plan slot → (slot_item s.plan s.kit s.d.bits r slot).cell ≡ name → IsBelowLevel s 1 name
slot_in_kit s r (BitSlot c) name lt is e = leaf_in_kit s (BitAt 0 r c) 1 name (some_bank s.plan, (lt, is)) e (omega arith)
slot_in_kit s r GateSlot name lt is e = leaf_in_kit s (NandAt 0 0) 1 name (some_bank s.plan, some_row s.plan) e (omega arith)
slot_in_kit s r DriverSlot name lt is e = leaf_in_kit s (DriverAt 0 0) 1 name (some_bank s.plan, some_row s.plan) e (omega arith)

below_row : (s : Setting) (r : ℕ) (name : List ℕ) → r < bank_rows s.plan → IsTakenOver Refers IsName (row_cell s.plan s.kit s.d.bits s.n r).instances name → IsBelowLevel s 1 name
below_row s r name lt t = let l = slots_of_row Refers IsName s.plan s.kit s.d.bits s.n r name t in slot_in_kit s r l.index name lt l.is l.taken

below_pre : (s : Setting) (name : List ℕ) → IsTakenOver Refers IsName (pre_cell s.plan s.kit s.n).instances name → IsBelowLevel s 1 name
below_pre s name t =
    let m = numbered_taken Refers IsName (precharge_at s.plan s.kit) (columns_of s.plan) name t in
    leaf_in_kit s (PrechargeAt 0 m.number) 1 name (some_bank s.plan, m.below) m.taken (omega arith)

below_data : (s : Setting) (name : List ℕ) → IsTakenOver Refers IsName (data_cell s.plan s.kit s.d.floorplan s.n).instances name → IsBelowLevel s 1 name
below_data s name t = elim (data_leaf Refers IsName s.plan s.kit s.d.floorplan s.n name t) [
  | inl w ↦ leaf_in_kit s (WriteAt 0 w.index) 1 name (some_bank s.plan, w.is) w.taken (omega arith)
  | inr (inl r) ↦ leaf_in_kit s (SenseAt 0 r.index) 1 name (some_bank s.plan, r.is) r.taken (omega arith)
  | inr (inr c) ↦ leaf_in_kit s (column_leaf s.plan.col_bits 0 c.index) 1 name (column_has s.plan s.plan.col_bits 0 c.index refl (some_bank s.plan) c.is) (same_column s.plan s.kit s.d.bits s.plan.col_bits 0 c.index ∙ c.taken) (omega arith)
]

below_logic : (s : Setting) (name : List ℕ) → IsTakenOver Refers IsName (logic_row_cell s.plan s.kit s.n).instances name → IsBelowLevel s 1 name
below_logic s name t =
    let l = seats_of_row Refers IsName s.plan s.kit 0 (logic_cells s.plan) name t in
    leaf_in_kit s (LogicAt l.index.cell) 1 name (has_seat s.plan l.index l.is) l.taken (omega arith)

below_array : (s : Setting) (name : List ℕ) → IsTakenOver Refers IsName (array_cell s.plan s.kit s.d.bits s.n).instances name → IsBelowLevel s 2 name
below_array s name t =
    let m = numbered_taken Refers IsName (row_at s.kit s.d.bits s.n) (bank_rows s.plan) name t in
    record { level = 1; below = omega arith; on = inl (m.number, m.below, sym m.taken) }

below_bank : (s : Setting) (name : List ℕ) → IsTakenOver Refers IsName (bank_cell s.plan s.kit s.d.floorplan s.n s.d.bank_wires).instances name → IsBelowLevel s 3 name
below_bank s name t = elim (taken_cases Refers IsName (array_at s.d.floorplan s.n) (pre_at s.plan s.kit s.d.floorplan s.n ∷ data_at s.plan s.kit s.d.floorplan s.n ∷ []) name t) [
  | inl array ↦ record { level = 2; below = omega arith; on = sym array }
  | inr others ↦ elim (taken_cases Refers IsName (pre_at s.plan s.kit s.d.floorplan s.n) (data_at s.plan s.kit s.d.floorplan s.n ∷ []) name others) [
    | inl pre ↦ record { level = 1; below = omega arith; on = inr (inl (sym pre)) }
    | inr last ↦ elim (taken_cases Refers IsName (data_at s.plan s.kit s.d.floorplan s.n) [] name last) [
      | inl data_ ↦ record { level = 1; below = omega arith; on = inr (inr (inl (sym data_))) }
      | inr none ↦ absurd (taken_none Refers IsName name none)
    ]
  ]
]

below_macro : (s : Setting) (name : List ℕ) → IsTakenOver Refers IsName (macro_cell s.plan s.d.floorplan s.n s.d.wires s.d.labels).instances name → IsBelowLevel s 4 name
below_macro s name t = elim (taken_cases Refers IsName (logic_at s.d.floorplan s.n) (tabulate (banks_of s.plan) (bank_at s.plan s.d.floorplan s.n)) name t) [
  | inl logic ↦ record { level = 1; below = omega arith; on = inr (inr (inr (sym logic))) }
  | inr banks ↦ (let m = numbered_taken Refers IsName (bank_at s.plan s.d.floorplan s.n) (banks_of s.plan) name banks in record { level = 3; below = omega arith; on = sym m.taken })
]

-- an instance of a cell of the macro is on a lower level
step_down : (s : Setting) (k : ℕ) (name : List ℕ) (item : Item) → IsOnLevel s (suc k) name → IsItemOf s.structs name item → IsBelowLevel s (suc k) item.cell
step_down s zero name item (inl o) h = below_row s o.0 item.cell o.1 (item_in s (row_cell s.plan s.kit s.d.bits s.n o.0) name item (row_among s o.0 o.1) o.2 h)
step_down s zero name item (inr (inl e)) h = below_pre s item.cell (item_in s (pre_cell s.plan s.kit s.n) name item s.is.has.pre e h)
step_down s zero name item (inr (inr (inl e))) h = below_data s item.cell (item_in s (data_cell s.plan s.kit s.d.floorplan s.n) name item s.is.has.data_ e h)
step_down s zero name item (inr (inr (inr e))) h = below_logic s item.cell (item_in s (logic_row_cell s.plan s.kit s.n) name item s.is.has.logic e h)
step_down s (suc zero) name item e h = below_array s item.cell (item_in s (array_cell s.plan s.kit s.d.bits s.n) name item s.is.has.array e h)
step_down s (suc (suc zero)) name item e h = below_bank s item.cell (item_in s (bank_cell s.plan s.kit s.d.floorplan s.n s.d.bank_wires) name item s.is.has.bank e h)
step_down s (suc (suc (suc zero))) name item e h = below_macro s item.cell (item_in s (macro_cell s.plan s.d.floorplan s.n s.d.wires s.d.labels) name item s.is.has.macro e h)
step_down s (suc (suc (suc (suc k)))) name item none h = absurd none

-- in the kit

there_in_kit : (s : Setting) (name : List ℕ) → InKit s name → IsThere s.kit_structs name
there_in_kit s name k = elim (there_or_not s.kit_structs name) [ inl there ↦ there | inr missing ↦ absurd ((s.sound k.leaf k.has).there name (record { reached = k.reached; missing = missing })) ]

same_elements : (s : Setting) (name : List ℕ) → InKit s name → elements_of s.structs name ≡ elements_of s.kit_structs name
same_elements s name k = ap (λ (structs : List Structure). elements_of structs name) s.is.made.parts ∙ kept_elements s.kit_structs s.is.made.made name (there_in_kit s name k)

item_in_kit : (s : Setting) (name : List ℕ) (item : Item) → InKit s name → IsItemOf s.structs name item → IsItemOf s.kit_structs name item
item_in_kit s name item k h = subst (λ (es : List Element). IsItemFrom 0 es item) (same_elements s name k) h

next_in_kit : (s : Setting) (name : List ℕ) (item : Item) → InKit s name → IsItemOf s.kit_structs name item → InKit s item.cell
next_in_kit s name item k h = record {
  leaf = k.leaf;
  has = k.has;
  reached = record { chain = k.reached.chain ++ item ∷ []; leads = chain_joined s.kit_structs (leaf_cell s.plan s.kit s.d.bits k.leaf) name item.cell k.reached.chain (item ∷ []) k.reached.leads (h, refl) };
}

chain_in_kit : (s : Setting) (name to : List ℕ) (chain : List Item) → InKit s name → IsChain s.structs name chain to → IsChain s.kit_structs name chain to
chain_in_kit s name to [] k h = h
chain_in_kit s name to (item ∷ items) k h =
    let first = item_in_kit s name item k h.0 in
    (first, chain_in_kit s item.cell to items (next_in_kit s name item k first) h.1)

-- the end of a chain is no higher than its beginning
record IsNotAbove (s : Setting) (k : ℕ) (name : List ℕ) : Type 0 where
  level : ℕ
  at_most : level ≤ k
  on : IsOnLevel s level name

end_level : (s : Setting) (k : ℕ) (name to : List ℕ) (chain : List Item) → IsOnLevel s k name → IsChain s.structs name chain to → IsNotAbove s k to
end_level s k name to [] on e = record { level = k; at_most = omega arith; on = subst (IsOnLevel s k) (sym e) on }
end_level s zero name to (item ∷ items) on h = end_level s 0 item.cell to items (next_in_kit s name item on (item_in_kit s name item on h.0)) h.1
end_level s (suc k) name to (item ∷ items) on h =
    let b = step_down s k name item on h.0 in
    let r = end_level s b.level item.cell to items b.on h.1 in
    let lt = b.below in
    let le = r.at_most in
    record { level = r.level; at_most = omega (arith, lt, le); on = r.on }

short_from : (s : Setting) (k : ℕ) (name to : List ℕ) (chain : List Item) → IsOnLevel s k name → IsChain s.structs name chain to → length chain ≤ s.depth + k
short_from s k name to [] on h = omega arith
short_from s zero name to (item ∷ items) on h =
    let whole = chain_joined s.kit_structs (leaf_cell s.plan s.kit s.d.bits on.leaf) name to on.reached.chain (item ∷ items) on.reached.leads (chain_in_kit s name to (item ∷ items) on h) in
    let le = (s.sound on.leaf on.has).short (on.reached.chain ++ (item ∷ items)) to whole in
    let e = length-append on.reached.chain (item ∷ items) in
    omega (arith, le, e)
short_from s (suc k) name to (item ∷ items) on h =
    let b = step_down s k name item on h.0 in
    let r = short_from s b.level item.cell to items b.on h.1 in
    let lt = b.below in
    omega (arith, lt, r)

-- nothing leads back
no_way_back : (s : Setting) (bound k : ℕ) (name : List ℕ) → k < bound → IsOnLevel s k name → ReachesItself s.structs name → ⊥
no_way_back s zero k name lt on back = omega (arith, lt)
no_way_back s (suc bound) zero name lt on back =
    let first = item_in_kit s name back.item on back.leads.0 in
    let rest = chain_in_kit s back.item.cell name back.rest (next_in_kit s name back.item on first) back.leads.1 in
    (s.sound on.leaf on.has).acyclic name (record { reached = on.reached; itself = record { item = back.item; rest = back.rest; leads = (first, rest) } })
no_way_back s (suc bound) (suc k) name lt on back =
    let b = step_down s k name back.item on back.leads.0 in
    let r = end_level s b.level back.item.cell name back.rest b.on back.leads.1 in
    let below = b.below in
    let le = r.at_most in
    no_way_back s bound r.level name (omega (arith, lt, below, le)) r.on back

-- all cells are there

there_among : (structs : List Structure) (t : Structure) → Contains structs t → IsThere structs t.name
there_among [] t c = absurd (contains_none t c)
there_among (u ∷ us) t c = elim (contains_cases u us t c) [ inl e ↦ inl (ap (λ (v : Structure). v.name) (sym e)) | inr later ↦ inr (there_among us t later) ]

there_cell : (s : Setting) (cell : DrawnCell) (name : List ℕ) → Contains s.cells cell → name ≡ cell.name → IsThere s.structs name
there_cell s cell name among e =
    let h = has_drawn s.layers s.cells s.is.made.made cell s.is.made.each among in
    let found = there_among (s.kit_structs ++ s.is.made.made) h.made (Contains-append_right s.kit_structs s.is.made.made h.made h.among) in
    let named : h.made.name ≡ cell.name = ap (λ (t : Structure). t.name) h.is.is ∙ h.is.order.name in
    subst (λ (structs : List Structure). IsThere structs name) (sym s.is.made.parts) (subst (IsThere (s.kit_structs ++ s.is.made.made)) (named ∙ sym e) found)

there_kept : (structs more : List Structure) (name : List ℕ) → IsThere structs name → IsThere (structs ++ more) name
there_kept [] more name there = absurd there
there_kept (u ∷ us) more name (inl e) = inl e
there_kept (u ∷ us) more name (inr there) = inr (there_kept us more name there)

there_on : (s : Setting) (k : ℕ) (name : List ℕ) → IsOnLevel s k name → IsThere s.structs name
there_on s zero name on = subst (λ (structs : List Structure). IsThere structs name) (sym s.is.made.parts) (there_kept s.kit_structs s.is.made.made name (there_in_kit s name on))
there_on s (suc zero) name (inl o) = there_cell s (row_cell s.plan s.kit s.d.bits s.n o.0) name (row_among s o.0 o.1) o.2
there_on s (suc zero) name (inr (inl e)) = there_cell s (pre_cell s.plan s.kit s.n) name s.is.has.pre e
there_on s (suc zero) name (inr (inr (inl e))) = there_cell s (data_cell s.plan s.kit s.d.floorplan s.n) name s.is.has.data_ e
there_on s (suc zero) name (inr (inr (inr e))) = there_cell s (logic_row_cell s.plan s.kit s.n) name s.is.has.logic e
there_on s (suc (suc zero)) name e = there_cell s (array_cell s.plan s.kit s.d.bits s.n) name s.is.has.array e
there_on s (suc (suc (suc zero))) name e = there_cell s (bank_cell s.plan s.kit s.d.floorplan s.n s.d.bank_wires) name s.is.has.bank e
there_on s (suc (suc (suc (suc zero)))) name e = there_cell s (macro_cell s.plan s.d.floorplan s.n s.d.wires s.d.labels) name s.is.has.macro e
there_on s (suc (suc (suc (suc (suc k))))) name none = absurd none

sound_macro : (s : Setting) → IsSoundWithin (s.depth + 4) s.structs s.n
sound_macro s = record {
  there = λ name missing. (let r = end_level s 4 s.n name missing.reached.chain refl missing.reached.leads in missing.missing (there_on s r.level name r.on));
  acyclic = λ name cyclic. (let r = end_level s 4 s.n name cyclic.reached.chain refl cyclic.reached.leads in no_way_back s (suc r.level) r.level name (omega arith) r.on cyclic.itself);
  short = λ chain to leads. short_from s 4 s.n to chain refl leads;
}

pub macros_are_sound : MacrosAreSound
macros_are_sound layers kit_structs cells structs plan kit n d m depth sound =
    sound_macro (record { layers = layers; kit_structs = kit_structs; cells = cells; structs = structs; plan = plan; kit = kit; n = n; d = d; depth = depth; is = m; sound = sound })
