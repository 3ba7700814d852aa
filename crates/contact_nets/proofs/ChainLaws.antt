-- Chains of references lead to leaf instances of a drawn macro: those of the precharge cells, the write cells and the sense cells.
use Rattle.std.proofs.Common.{◌≡◌, ◌∙◌, ℕ, zero, suc, ◌+◌, ◌*◌, ◌<◌, ℤ, pos, ◌+ℤ◌, ◌-ℤ◌, ◌*ℤ◌, List, [], ◌∷◌, Contains, Some, refl, sym, ap, subst, arith}
use Rattle.std.specs.Prelude.{slice_get}
use Rattle.std.proofs.lemmas.Int.{ints}
use Rattle.or_geom.specs.declared.shape.Point.{Point}
use Rattle.or_geom.specs.declared.place.Place.{Place}
use Rattle.or_geom.specs.Place.{placed}
use Rattle.gds_library.specs.declared.library.Structure.{Structure}
use Rattle.cell_roles.specs.declared.role.Role.{Role}
use Rattle.cell_roles.specs.declared.role.Role.TheVariants.{Precharge, Write, Sense, Mux, Tie}
use Rattle.tech_rules.specs.declared.tech.Layer.{Layer}
use Rattle.sram_netlist.specs.Organization.{Organization, banks_of, columns_of, inputs_of, words_per_row}
use Rattle.sram_netlist.specs.Instances.{LeafInstance, PrechargeAt, WriteAt, SenseAt, MuxAt, TieAt}
use Rattle.sram_netlist.specs.Netlist.{role}
use Rattle.sram_netlist.specs.Membership.{HasLeafInstance}
use Rattle.macro_layout.specs.LayoutKit.{LayoutKit}
use Rattle.macro_layout.specs.Places.{Floorplan, upright, bank_x, column_x, columns_x, bit_width, IsPlaceOf}
use Rattle.macro_layout.specs.Cells.{column_leaf, column_at, pre_cell, data_cell, bank_cell, macro_cell, bank_at, pre_at, data_at, precharge_at, write_at, sense_at}
use Rattle.macro_layout.specs.Layout.{Drawing, DrawsMacro}
use Rattle.leaf_contacts.specs.Chains.{Reference, IsInstance, point_along}
use Rattle.contact_nets.proofs.ReferenceLaws.{reference_to, refers_to, made_at, left_at, right_at}

-- three upright places, one in another, are one
pub places_in : (a b c d e f x y : ℤ) (p : Point) → x ≡ a +ℤ (c +ℤ e) → y ≡ b +ℤ (d +ℤ f) → placed (upright a b) (placed (upright c d) (placed (upright e f) p)) ≡ placed (upright x y) p
places_in a b c d e f x y p h v = let h' : ((p.x +ℤ e) +ℤ c) +ℤ a ≡ p.x +ℤ x = omega (arith, ints, h) in let v' : ((p.y +ℤ f) +ℤ d) +ℤ b ≡ p.y +ℤ y = omega (arith, ints, v) in λ i. record { x = h' i; y = v' i }

-- a chain that leads to the leaf instance, which stands at this place
pub record IsLedTo (cells : List (List ℕ)) (structs : List Structure) (plan : Organization) (kit : LayoutKit) (n : List ℕ) (leaf : LeafInstance) (place : Place) : Type 0 where
  pub chain : List Reference
  pub instance : IsInstance cells structs n chain (kit.cell (role plan leaf))
  pub point : (p : Point) → point_along chain p ≡ placed place p

-- the role at a column's end
pub mux_role : (plan : Organization) (m c : ℕ) → 0 < m → role plan (column_leaf m 0 c) ≡ Mux
mux_role plan zero c lt = absurd (omega (arith, lt))
mux_role plan (suc m) c lt = refl

pub tie_role : (plan : Organization) (m c : ℕ) → m ≡ 0 → role plan (column_leaf m 0 c) ≡ Tie
tie_role plan zero c e = refl
tie_role plan (suc m) c e = absurd (omega (arith, e))

module _ (cells : List (List ℕ)) (layers : List Layer) (structs : List Structure) (plan : Organization) (kit : LayoutKit) (n : List ℕ) (d : Drawing) (draws : DrawsMacro layers structs plan kit n d) (no_macro : Contains cells n → ⊥)
    (no_bank : Contains cells (bank_cell plan kit d.floorplan n d.bank_wires).name → ⊥) (no_pre : Contains cells (pre_cell plan kit n).name → ⊥) (no_data : Contains cells (data_cell plan kit d.floorplan n).name → ⊥) where
  abbrev f : Floorplan
  f = d.floorplan

  abbrev bank_reference : ℕ → Reference
  bank_reference b = reference_to (suc b) (bank_at plan f n b)

  -- below a bank
  pub in_bank : (b : ℕ) (chain : List Reference) (to : List ℕ) → b < banks_of plan → IsInstance cells structs (bank_cell plan kit f n d.bank_wires).name chain to → IsInstance cells structs n (bank_reference b ∷ chain) to
  in_bank b chain to lt below = (no_macro, refers_to layers structs (macro_cell plan f n d.wires d.labels) draws.macro (suc b) (bank_at plan f n b) (made_at (bank_at plan f n) (banks_of plan) b lt), below)

  unfoldable pub precharge_led : (b c : ℕ) (place : Place) → Contains cells (kit.cell Precharge) → HasLeafInstance plan (PrechargeAt b c) → IsPlaceOf plan kit f (PrechargeAt b c) place → IsLedTo cells structs plan kit n (PrechargeAt b c) place
  precharge_led b c place listed has at = record {
    chain = bank_reference b ∷ reference_to 1 (pre_at plan kit f n) ∷ reference_to c (precharge_at plan kit c) ∷ [];
    instance = in_bank b (reference_to 1 (pre_at plan kit f n) ∷ reference_to c (precharge_at plan kit c) ∷ []) (kit.cell Precharge) has.0 (
      no_bank,
      refers_to layers structs (bank_cell plan kit f n d.bank_wires) draws.bank 1 (pre_at plan kit f n) refl,
      (no_pre, refers_to layers structs (pre_cell plan kit n) draws.pre c (precharge_at plan kit c) (made_at (precharge_at plan kit) (columns_of plan) c has.1), (refl, listed)),
    );
    point = λ p. places_in (pos b *ℤ f.bank_width) f.write_y (columns_x plan kit f) (f.precharge_y -ℤ f.write_y) (pos (c * bit_width kit)) (pos 0) (bank_x f b (column_x plan kit f c)) f.precharge_y p
        (go (columns_x plan kit f) (pos b *ℤ f.bank_width) (pos (c * bit_width kit))) (up f.precharge_y f.write_y) ∙ ap (λ (q : Place). placed q p) (sym at);
  } where
    go : (x q c : ℤ) → (x +ℤ c) +ℤ q ≡ q +ℤ (x +ℤ c)
    go x q c = omega (arith, ints)

    up : (y w : ℤ) → y ≡ w +ℤ ((y -ℤ w) +ℤ pos 0)
    up y w = omega (arith, ints)

  -- below the data of a bank
  pub in_data : (b k : ℕ) (i : _) (to : List ℕ) → b < banks_of plan → slice_get (data_cell plan kit f n).instances k ≡ Some i → to ≡ i.of → Contains cells i.of → IsInstance cells structs n (bank_reference b ∷ reference_to 2 (data_at plan kit f n) ∷ reference_to k i ∷ []) to
  in_data b k i to lt at is listed = in_bank b (reference_to 2 (data_at plan kit f n) ∷ reference_to k i ∷ []) to lt (
    no_bank,
    refers_to layers structs (bank_cell plan kit f n d.bank_wires) draws.bank 2 (data_at plan kit f n) refl,
    (no_data, refers_to layers structs (data_cell plan kit f n) draws.data_ k i at, (is, listed)),
  )

  unfoldable pub write_led : (b i : ℕ) (place : Place) → Contains cells (kit.cell Write) → HasLeafInstance plan (WriteAt b i) → IsPlaceOf plan kit f (WriteAt b i) place → IsLedTo cells structs plan kit n (WriteAt b i) place
  write_led b i place listed has at = record {
    chain = bank_reference b ∷ reference_to 2 (data_at plan kit f n) ∷ reference_to i (write_at plan kit i) ∷ [];
    instance = in_data b i (write_at plan kit i) (kit.cell Write) has.0 (left_at _ _ i (write_at plan kit i) (made_at (write_at plan kit) (inputs_of plan) i has.1)) refl listed;
    point = λ p. places_in (pos b *ℤ f.bank_width) f.write_y (columns_x plan kit f) (pos 0) (pos ((i * words_per_row plan) * bit_width kit)) (pos 0) (bank_x f b (column_x plan kit f (i * words_per_row plan))) f.write_y p
        (go (columns_x plan kit f) (pos b *ℤ f.bank_width) (pos ((i * words_per_row plan) * bit_width kit))) (up f.write_y) ∙ ap (λ (q : Place). placed q p) (sym at);
  } where
    go : (x q c : ℤ) → (x +ℤ c) +ℤ q ≡ q +ℤ (x +ℤ c)
    go x q c = omega (arith, ints)

    up : (y : ℤ) → y ≡ y +ℤ (pos 0 +ℤ pos 0)
    up y = omega (arith, ints)

  unfoldable pub sense_led : (b i : ℕ) (place : Place) → Contains cells (kit.cell Sense) → HasLeafInstance plan (SenseAt b i) → IsPlaceOf plan kit f (SenseAt b i) place → IsLedTo cells structs plan kit n (SenseAt b i) place
  sense_led b i place listed has at = record {
    chain = bank_reference b ∷ reference_to 2 (data_at plan kit f n) ∷ reference_to (inputs_of plan + i) (sense_at plan kit f i) ∷ [];
    instance = in_data b (inputs_of plan + i) (sense_at plan kit f i) (kit.cell Sense) has.0 (right_at (write_at plan kit) (inputs_of plan) _ i (sense_at plan kit f i) (left_at _ _ i (sense_at plan kit f i) (made_at (sense_at plan kit f) plan.word_size i has.1))) refl listed;
    point = λ p. places_in (pos b *ℤ f.bank_width) f.write_y (columns_x plan kit f) (pos 0) (pos ((i * words_per_row plan) * bit_width kit)) (f.sense_y -ℤ f.write_y) (bank_x f b (column_x plan kit f (i * words_per_row plan))) f.sense_y p
        (go (columns_x plan kit f) (pos b *ℤ f.bank_width) (pos ((i * words_per_row plan) * bit_width kit))) (up f.sense_y f.write_y) ∙ ap (λ (q : Place). placed q p) (sym at);
  } where
    go : (x q c : ℤ) → (x +ℤ c) +ℤ q ≡ q +ℤ (x +ℤ c)
    go x q c = omega (arith, ints)

    up : (y w : ℤ) → y ≡ w +ℤ (pos 0 +ℤ (y -ℤ w))
    up y w = omega (arith, ints)

  -- the multiplexer or the tie at a column's end
  unfoldable pub end_led : (b c : ℕ) (leaf : LeafInstance) (place : Place) → b < banks_of plan → c < columns_of plan → role plan (column_leaf plan.col_bits 0 c) ≡ role plan leaf → Contains cells (kit.cell (role plan leaf)) → place ≡ upright (bank_x f b (column_x plan kit f c)) f.column_y → IsLedTo cells structs plan kit n leaf place
  end_led b c leaf place lt few same listed at = record {
    chain = bank_reference b ∷ reference_to 2 (data_at plan kit f n) ∷ reference_to (inputs_of plan + (plan.word_size + c)) (column_at plan kit f c) ∷ [];
    instance = in_data b (inputs_of plan + (plan.word_size + c)) (column_at plan kit f c) (kit.cell (role plan leaf)) lt
        (right_at (write_at plan kit) (inputs_of plan) _ (plan.word_size + c) (column_at plan kit f c) (right_at (sense_at plan kit f) plan.word_size _ c (column_at plan kit f c) (made_at (column_at plan kit f) (columns_of plan) c few)))
        (ap kit.cell (sym same)) (subst (λ (r : Role). Contains cells (kit.cell r)) (sym same) listed);
    point = λ p. places_in (pos b *ℤ f.bank_width) f.write_y (columns_x plan kit f) (pos 0) (pos (c * bit_width kit)) (f.column_y -ℤ f.write_y) (bank_x f b (column_x plan kit f c)) f.column_y p
        (go (columns_x plan kit f) (pos b *ℤ f.bank_width) (pos (c * bit_width kit))) (up f.column_y f.write_y) ∙ ap (λ (q : Place). placed q p) (sym at);
  } where
    go : (x q c : ℤ) → (x +ℤ c) +ℤ q ≡ q +ℤ (x +ℤ c)
    go x q c = omega (arith, ints)

    up : (y w : ℤ) → y ≡ w +ℤ (pos 0 +ℤ (y -ℤ w))
    up y w = omega (arith, ints)

  unfoldable pub mux_led : (b c : ℕ) (place : Place) → Contains cells (kit.cell Mux) → HasLeafInstance plan (MuxAt b c) → IsPlaceOf plan kit f (MuxAt b c) place → IsLedTo cells structs plan kit n (MuxAt b c) place
  mux_led b c place listed has at = end_led b c (MuxAt b c) place has.0 has.1.0 (mux_role plan plan.col_bits c has.1.1) listed at

  unfoldable pub tie_led : (b c : ℕ) (place : Place) → Contains cells (kit.cell Tie) → HasLeafInstance plan (TieAt b c) → IsPlaceOf plan kit f (TieAt b c) place → IsLedTo cells structs plan kit n (TieAt b c) place
  tie_led b c place listed has at = end_led b c (TieAt b c) place has.0 has.1.0 (tie_role plan plan.col_bits c has.1.1) listed at
