-- Lists of taps, step by step.
use Rattle.std.proofs.Common.{◌≡◌, ◌⊎◌, inl, inr, ℕ, ◌+◌, ◌/◌, ◌%◌, ◌<◌, ◌≤◌, ℤ, ◌+ℤ◌, List, [], ◌∷◌, ◌++◌, length, get_or, drop, ap, sym, subst, ◌∙◌, append_assoc, arith}
use Rattle.or_geom.specs.declared.shape.Point.{Point}
use Rattle.or_geom.specs.declared.place.Place.{Place}
use Rattle.or_geom.proofs.ListLaws.{rest_at}
use Rattle.wire_drawing.specs.declared.route.Tap.{Tap}
use Rattle.sram_netlist.specs.Organization.{power_of_two, IsGroupSize}
use Rattle.sram_netlist.specs.Netlist.{low_bits, high_bits, row_gate}
use Rattle.sram_netlist.specs.InstanceList.{tabulate_lists}
use Rattle.port_lists.proofs.TabulateLaws.{grown_by_list}
use Rattle.leaf_shapes.specs.Demands.{role_demands}
use Rattle.memory_laws.proofs.Decode.{addresses_split}
use Rattle.leaf_shapes.specs.declared.pins.LeafPin.{LeafPin}
use Rattle.leaf_tables.specs.declared.kit.Leaf.{Leaf}
use Rattle.macro_layout.specs.Floorplan.{line_count}
use Rattle.row_decoder.specs.RowTaps.{RowLeaves, row_leaves_of, corner_at, row_place, pin_tap, input_taps, row_taps}

-- the tap of one input more
pub input_more : (place : Place) (now new all : List Tap) (pins : List LeafPin) (pin : LeafPin) (input : ℕ) (rest others : List ℕ) (bits rail lines left : ℕ) → input < length pins → pin ≡ get_or pins input pin
    → rest ≡ bits ∷ others → lines ≡ power_of_two bits → new ≡ now ++ pin_tap (rail + left % lines) place pin ∷ [] → now ++ input_taps place (drop input pins) rest rail left ≡ all
    → new ++ input_taps place (drop (input + 1) pins) others (rail + lines) (left / lines) ≡ all
input_more place now new all pins pin input rest others bits rail lines left within is front count added before =
    let high : left / lines ≡ high_bits bits left = ap (λ (n : ℕ). left / n) count ∙ sym (addresses_split bits left).0 in
    let low : left % lines ≡ low_bits bits left = ap (λ (n : ℕ). left % n) count ∙ sym (addresses_split bits left).1 in
    let later = drop (input + 1) pins in
    ap (λ (l : List Tap). l ++ input_taps place later others (rail + lines) (left / lines)) added
    ∙ append_assoc now (pin_tap (rail + left % lines) place pin ∷ []) (input_taps place later others (rail + lines) (left / lines))
    ∙ ap (λ (n : ℕ). now ++ pin_tap (rail + n) place pin ∷ input_taps place later others (rail + lines) (left / lines)) low
    ∙ ap (λ (n : ℕ). now ++ pin_tap (rail + low_bits bits left) place pin ∷ input_taps place later others (rail + n) (left / lines)) count
    ∙ ap (λ (n : ℕ). now ++ pin_tap (rail + low_bits bits left) place pin ∷ input_taps place later others (rail + power_of_two bits) n) high
    ∙ ap (λ (ps : List LeafPin). now ++ input_taps place ps (bits ∷ others) rail left) (sym (rest_at pins input pin within is))
    ∙ ap (λ (gs : List ℕ). now ++ input_taps place (drop input pins) gs rail left) (sym front)
    ∙ before

-- a group has at most eight lines
pub few_in_group : (b : ℕ) → IsGroupSize b → power_of_two b ≤ 8
few_in_group b (inl e) = subst (λ (n : ℕ). power_of_two n ≤ 8) (sym e) (omega arith)
few_in_group b (inr e) = subst (λ (n : ℕ). power_of_two n ≤ 8) (sym e) (omega arith)

-- the lines of a group more
pub count_more : (count all lines bits : ℕ) (rest others : List ℕ) → rest ≡ bits ∷ others → lines ≡ power_of_two bits → count + line_count rest ≡ all → (count + lines) + line_count others ≡ all
count_more count all lines bits rest others front size before =
    let whole : line_count rest ≡ power_of_two bits + line_count others = ap line_count front in
    omega (arith, whole, size, before)

-- the taps of a row
pub row_done : (groups : List ℕ) (leaves : RowLeaves) (corner front behind : Point) (row rail : ℕ) (old now new : List Tap) (tap : Tap) (pins : List LeafPin) (gate driver : Place) (h : ℤ)
    → new ≡ now ++ tap ∷ [] → now ≡ old ++ input_taps gate pins groups 0 row → tap ≡ pin_tap rail driver leaves.enable → pins ≡ leaves.inputs → rail ≡ line_count groups
    → gate ≡ row_place h front row → driver ≡ row_place h behind row → h ≡ leaves.height → front ≡ corner → behind ≡ corner_at (corner.x +ℤ leaves.gate_width) corner.y
    → new ≡ old ++ row_taps groups leaves corner row
row_done groups leaves corner front behind row rail old now new tap pins gate driver h added inputs is same count gate_at driver_at high at next =
    let gate_is : gate ≡ row_place leaves.height corner row = gate_at ∙ (ap (λ (z : ℤ). row_place z front row) high ∙ ap (λ (p : Point). row_place leaves.height p row) at) in
    let beside : Point = corner_at (corner.x +ℤ leaves.gate_width) corner.y in
    let driver_is : driver ≡ row_place leaves.height beside row = driver_at ∙ (ap (λ (z : ℤ). row_place z behind row) high ∙ ap (λ (p : Point). row_place leaves.height p row) next) in
    added
    ∙ (ap (λ (l : List Tap). l ++ tap ∷ []) inputs
    ∙ (append_assoc old (input_taps gate pins groups 0 row) (tap ∷ [])
    ∙ (ap (λ (p : Place). old ++ (input_taps p pins groups 0 row ++ tap ∷ [])) gate_is
    ∙ (ap (λ (l : List LeafPin). old ++ (input_taps (row_place leaves.height corner row) l groups 0 row ++ tap ∷ [])) same
    ∙ ap (λ (t : Tap). old ++ (input_taps (row_place leaves.height corner row) leaves.inputs groups 0 row ++ t ∷ []))
    (is ∙ (ap (λ (n : ℕ). pin_tap n driver leaves.enable) count ∙ ap (λ (p : Place). pin_tap (line_count groups) p leaves.enable) driver_is))))))

-- the taps of one row more
pub rows_more : (now new : List Tap) (n : ℕ) (groups gs : List ℕ) (gate : Leaf) (enable : LeafPin) (height h : ℤ) (corner c : Point) → now ≡ tabulate_lists n (row_taps groups (row_leaves_of gate enable height) corner)
    → new ≡ now ++ row_taps gs (row_leaves_of gate enable h) c n → gs ≡ groups → h ≡ height → c ≡ corner → new ≡ tabulate_lists (n + 1) (row_taps groups (row_leaves_of gate enable height) corner)
rows_more now new n groups gs gate enable height h corner c before more same_groups same_height same_corner =
    let ls = row_leaves_of gate enable h in
    let leaves = row_leaves_of gate enable height in
    let same_leaves : ls ≡ leaves = ap (row_leaves_of gate enable) same_height in
    grown_by_list [] now new n (row_taps groups leaves corner) before
    (more ∙ (ap (λ (l : List ℕ). now ++ row_taps l ls c n) same_groups ∙ (ap (λ (l : RowLeaves). now ++ row_taps groups l c n) same_leaves ∙ ap (λ (p : Point). now ++ row_taps groups leaves p n) same_corner)))

-- those of all rows
pub all_rows : (taps : List Tap) (n m : ℕ) (groups gs : List ℕ) (gate : Leaf) (enable : LeafPin) (height h : ℤ) (corner c : Point) → taps ≡ tabulate_lists n (row_taps gs (row_leaves_of gate enable h) c)
    → n ≡ m → gs ≡ groups → h ≡ height → c ≡ corner → taps ≡ tabulate_lists m (row_taps groups (row_leaves_of gate enable height) corner)
all_rows taps n m groups gs gate enable height h corner c are count same_groups same_height same_corner =
    let ls = row_leaves_of gate enable h in
    let leaves = row_leaves_of gate enable height in
    let same_leaves : ls ≡ leaves = ap (row_leaves_of gate enable) same_height in
    are ∙ (ap (λ (k : ℕ). tabulate_lists k (row_taps gs ls c)) count ∙ (ap (λ (l : List ℕ). tabulate_lists m (row_taps l ls c)) same_groups
    ∙ (ap (λ (l : RowLeaves). tabulate_lists m (row_taps groups l c)) same_leaves ∙ ap (λ (p : Point). tabulate_lists m (row_taps groups leaves p)) same_corner)))

-- a row's gate has an input for each group
pub enough_inputs : (groups : List ℕ) → (length groups ≡ 2) ⊎ (length groups ≡ 3) → length groups ≤ length (role_demands (row_gate groups))
enough_inputs [] e = omega arith
enough_inputs (a ∷ []) e = omega arith
enough_inputs (a ∷ b ∷ []) e = omega arith
enough_inputs (a ∷ b ∷ c ∷ bs) (inl e) = omega (arith, e)
enough_inputs (a ∷ b ∷ c ∷ bs) (inr e) = omega (arith, e)
