-- Where pins of slices and columns stand.
use Rattle.std.proofs.Common.{◌≡◌, ◌⊎◌, ◌∙◌, ℕ, zero, suc, ◌+◌, ◌*◌, ◌<◌, ◌≤◌, ℤ, pos, ◌+ℤ◌, ◌*ℤ◌, ◌≤ℤ◌, subst, arith}
use Rattle.std.specs.Prelude.{length}
use Rattle.std.proofs.Math.Nat.{mul_assoc}
use Rattle.std.proofs.lemmas.Int.{ints, clamps}
use Rattle.or_geom.specs.declared.shape.Rect.{Rect}
use Rattle.or_geom.specs.declared.place.Place.{Place}
use Rattle.or_geom.specs.Place.{placed, IsImage}
use Rattle.cell_roles.specs.declared.role.Role.{Role}
use Rattle.cell_roles.specs.declared.role.Role.TheVariants.{Mux, Tie, Sense, Write}
use Rattle.tech_rules.specs.declared.tech.Wire.{Wire}
use Rattle.sram_netlist.specs.Organization.{Organization, words_per_row, columns_of}
use Rattle.sram_netlist.specs.Instances.{LogicCell, Clki, Pn, Gn, SenseAt, WriteAt, MuxAt, TieAt}
use Rattle.sram_netlist.specs.Netlist.{logic_role, gate_of, enable_inputs}
use Rattle.sram_netlist.specs.Nets.{Net}
use Rattle.macro_layout.specs.LayoutKit.{LayoutKit}
use Rattle.macro_layout.specs.Places.{Floorplan, bank_x, columns_x, bit_width, upright}
use Rattle.macro_layout.specs.Cells.{column_leaf}
use Rattle.macro_layout.specs.Channels.{IsPinFrom}
use Rattle.good_places.specs.Zones.{IsLaid}
use Rattle.good_places.proofs.NumberLaws.{all_of}
use Rattle.good_wires.specs.Drawn.{PinsFit, HasUprightPins}
use Rattle.good_wires.proofs.LevelLaws.{Sides}

pub upright_left : (x y : ℤ) (r s : Rect) → IsImage (placed (upright x y)) r s → s.x1 ≡ r.x1 +ℤ x
upright_left x y r s image = let wide = r.wide in let x1 = image.x1 in x1 ∙ omega (arith, ints, clamps, wide)

-- cells of the logic row have such pins
gate_upright : (n : ℕ) → HasUprightPins (gate_of n)
gate_upright zero = tt
gate_upright (suc zero) = tt
gate_upright (suc (suc zero)) = tt
gate_upright (suc (suc (suc n))) = tt

pub logic_upright : (plan : Organization) (cell : LogicCell) → HasUprightPins (logic_role plan cell)
logic_upright plan (Pn o b k) = gate_upright b
logic_upright plan (Gn b m) = gate_upright (length (enable_inputs plan b m))
logic_upright plan Clki = tt
logic_upright plan _ = tt

-- a wire that begins at the pin lies behind the bank's columns' beginning, and before the bank's end
pub record IsInColumns (plan : Organization) (kit : LayoutKit) (wire : Wire) (f : Floorplan) (b : ℕ) (x : ℤ) : Type 0 where
  pub from : bank_x f b (columns_x plan kit f) ≤ℤ x
  pub to : (x +ℤ wire.width) ≤ℤ bank_x f b f.bank_width

module _ (plan : Organization) (kit : LayoutKit) (wire : Wire) (f : Floorplan) (laid : IsLaid plan kit wire f) (pins : PinsFit kit wire) (s : Sides plan kit wire f) where
  pin_in : (b column : ℕ) (role : Role) (port metal w : ℕ) (y x : ℤ) (rect : Rect) (place : Place) → HasUprightPins role → (metal ≡ 1) ⊎ (metal ≡ 3) → place ≡ upright (bank_x f b (columns_x plan kit f +ℤ pos column)) y → IsImage (placed place) (kit.pin role port metal) rect → x ≡ rect.x1 → kit.width role ≤ w → column + w ≤ columns_of plan * bit_width kit
      → IsInColumns plan kit wire f b x
  pin_in b column role port metal w y x rect place upright_pins which at image begins narrow fits =
      let left = begins ∙ upright_left (bank_x f b (columns_x plan kit f +ℤ pos column)) y (kit.pin role port metal) rect (subst (λ (p : Place). IsImage (placed p) (kit.pin role port metal) rect) at image) in
      record {
        from = low (columns_x plan kit f) (pos b *ℤ f.bank_width) column x (kit.pin role port metal).x1 left (pins.left role port metal);
        to = high (columns_x plan kit f) f.bank_width (pos b *ℤ f.bank_width) column (kit.width role) w (columns_of plan * bit_width kit) x (kit.pin role port metal).x1 wire.width left (pins.right role port metal upright_pins which) narrow fits s.bank;
      }
    where
      low : (c q : ℤ) (n : ℕ) (x p : ℤ) → x ≡ p +ℤ ((c +ℤ pos n) +ℤ q) → pos 0 ≤ℤ p → (c +ℤ q) ≤ℤ x
      low c q n x p e le = omega (arith, ints, e, le)

      high : (c bank q : ℤ) (n v w all : ℕ) (x p wide : ℤ) → x ≡ p +ℤ ((c +ℤ pos n) +ℤ q) → (p +ℤ wide) ≤ℤ pos v → v ≤ w → n + w ≤ all → bank ≡ c +ℤ pos all → (x +ℤ wide) ≤ℤ (bank +ℤ q)
      high c bank q n v w all x p wide e le narrow fits is = omega (arith, ints, e, le, narrow, fits, is)

  slice_end : (i w v : ℕ) → i < plan.word_size → (i * w) * v + w * v ≤ (plan.word_size * w) * v
  slice_end i w v lt =
      let le = all_of i plan.word_size (w * v) lt in
      let a = mul_assoc i w v in
      let c = mul_assoc plan.word_size w v in
      omega (arith, le, a, c)

  pub sense_in : (b i port metal : ℕ) (net : Net) (x : ℤ) → (metal ≡ 1) ⊎ (metal ≡ 3) → IsPinFrom plan kit f (SenseAt b i) port metal net x → IsInColumns plan kit wire f b x
  sense_in b i port metal net x which p =
      pin_in b ((i * words_per_row plan) * bit_width kit) Sense port metal (words_per_row plan * bit_width kit) f.sense_y x p.rect p.is.place tt which p.is.stands p.is.image p.begins laid.fits.sense (slice_end i (words_per_row plan) (bit_width kit) p.is.has.1)

  pub write_in : (b i port metal : ℕ) (net : Net) (x : ℤ) → i < plan.word_size → (metal ≡ 1) ⊎ (metal ≡ 3) → IsPinFrom plan kit f (WriteAt b i) port metal net x → IsInColumns plan kit wire f b x
  write_in b i port metal net x lt which p =
      pin_in b ((i * words_per_row plan) * bit_width kit) Write port metal (words_per_row plan * bit_width kit) f.write_y x p.rect p.is.place tt which p.is.stands p.is.image p.begins laid.fits.write (slice_end i (words_per_row plan) (bit_width kit) lt)

  mux_in : (b c port metal : ℕ) (net : Net) (x : ℤ) → (metal ≡ 1) ⊎ (metal ≡ 3) → IsPinFrom plan kit f (MuxAt b c) port metal net x → IsInColumns plan kit wire f b x
  mux_in b c port metal net x which p = pin_in b (c * bit_width kit) Mux port metal (bit_width kit) f.column_y x p.rect p.is.place tt which p.is.stands p.is.image p.begins (let e = laid.fits.mux in omega (arith, e)) (all_of c (columns_of plan) (bit_width kit) p.is.has.1.0)

  tie_in : (b c port metal : ℕ) (net : Net) (x : ℤ) → (metal ≡ 1) ⊎ (metal ≡ 3) → IsPinFrom plan kit f (TieAt b c) port metal net x → IsInColumns plan kit wire f b x
  tie_in b c port metal net x which p = pin_in b (c * bit_width kit) Tie port metal (bit_width kit) f.column_y x p.rect p.is.place tt which p.is.stands p.is.image p.begins (let e = laid.fits.tie in omega (arith, e)) (all_of c (columns_of plan) (bit_width kit) p.is.has.1.0)

  pub column_in : (n b c port metal : ℕ) (net : Net) (x : ℤ) → (metal ≡ 1) ⊎ (metal ≡ 3) → IsPinFrom plan kit f (column_leaf n b c) port metal net x → IsInColumns plan kit wire f b x
  column_in zero b c port metal net x which p = tie_in b c port metal net x which p
  column_in (suc n) b c port metal net x which p = mux_in b c port metal net x which p
