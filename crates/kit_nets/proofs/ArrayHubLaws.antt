-- The nets of the array: word lines, bit lines, and what lies between a row's gate and its driver. Each port's shapes are joined with the net's hub.
use Rattle.std.proofs.Common.{◌≡◌, ◌⊎◌, inl, inr, ℕ, zero, suc, ◌<◌, List, [], ◌∷◌, length, refl, sym, arith}
use Rattle.std.proofs.lemmas.Int.{ints}
use Rattle.cell_roles.specs.declared.role.Role.TheVariants.{Bitcell, Precharge, Driver}
use Rattle.leaf_shapes.specs.declared.demand.Metal.TheVariants.{M1, M2}
use Rattle.leaf_shapes.specs.declared.fit.Fit.TheVariants.{Top, Bottom, TopAndBottom, Left, Right, LeftAndRight}
use Rattle.sram_netlist.specs.Netlist.{row_gate}
use Rattle.macro_layout.specs.Floorplan.{column_role}
use Rattle.joined_nets.specs.Lines.{IsAcrossCell, IsUpThroughCell}
use Rattle.joined_nets.specs.Facing.{FaceAcross, FaceUp}
use Rattle.kit_nets.specs.StatedParts.{Source}
use Rattle.kit_nets.specs.RolePins.{IsDemand, IsDrawnPin, AreRolePins}

-- Which pins the kit draws

row_gate_demand : (groups : List ℕ) → (length groups ≡ 2) ⊎ (length groups ≡ 3) → IsDemand (row_gate groups) (length groups) M1 Right
row_gate_demand [] (inl e) = absurd (omega (arith, e))
row_gate_demand [] (inr e) = absurd (omega (arith, e))
row_gate_demand (a ∷ []) (inl e) = absurd (omega (arith, e))
row_gate_demand (a ∷ []) (inr e) = absurd (omega (arith, e))
row_gate_demand (a ∷ b ∷ []) e = record { place = 2; name = _; there = refl; named = refl }
row_gate_demand (a ∷ b ∷ c ∷ []) e = record { place = 3; name = _; there = refl; named = refl }
row_gate_demand (a ∷ b ∷ c ∷ d ∷ gs) (inl e) = absurd (omega (arith, e))
row_gate_demand (a ∷ b ∷ c ∷ d ∷ gs) (inr e) = absurd (omega (arith, e))

column_demand : (n port : ℕ) → port < 2 → IsDemand (column_role n) port M2 Top
column_demand zero zero lt = record { place = 0; name = _; there = refl; named = refl }
column_demand zero (suc zero) lt = record { place = 2; name = _; there = refl; named = refl }
column_demand zero (suc (suc port)) lt = absurd (omega (arith, lt))
column_demand (suc n) zero lt = record { place = 0; name = _; there = refl; named = refl }
column_demand (suc n) (suc zero) lt = record { place = 1; name = _; there = refl; named = refl }
column_demand (suc n) (suc (suc port)) lt = absurd (omega (arith, lt))

bit_demand : (port : ℕ) → port < 2 → IsDemand Bitcell port M2 TopAndBottom
bit_demand zero lt = record { place = 0; name = _; there = refl; named = refl }
bit_demand (suc zero) lt = record { place = 1; name = _; there = refl; named = refl }
bit_demand (suc (suc port)) lt = absurd (omega (arith, lt))

precharge_demand : (port : ℕ) → port < 2 → IsDemand Precharge port M2 Bottom
precharge_demand zero lt = record { place = 0; name = _; there = refl; named = refl }
precharge_demand (suc zero) lt = record { place = 1; name = _; there = refl; named = refl }
precharge_demand (suc (suc port)) lt = absurd (omega (arith, lt))

module _ (s : Source) (pins : AreRolePins s) where
  pub word_drawn : IsDrawnPin s Bitcell 2 M1 LeftAndRight
  word_drawn = pins.drawn Bitcell 2 M1 LeftAndRight (record { place = 2; name = _; there = refl; named = refl })

  pub driver_in_drawn : IsDrawnPin s Driver 0 M1 Left
  driver_in_drawn = pins.drawn Driver 0 M1 Left (record { place = 0; name = _; there = refl; named = refl })

  pub driver_out_drawn : IsDrawnPin s Driver 2 M1 Right
  driver_out_drawn = pins.drawn Driver 2 M1 Right (record { place = 2; name = _; there = refl; named = refl })

  pub gate_drawn : (length s.plan.groups ≡ 2) ⊎ (length s.plan.groups ≡ 3) → IsDrawnPin s (row_gate s.plan.groups) (length s.plan.groups) M1 Right
  gate_drawn sized = pins.drawn (row_gate s.plan.groups) (length s.plan.groups) M1 Right (row_gate_demand s.plan.groups sized)

  pub bit_drawn : (port : ℕ) → port < 2 → IsDrawnPin s Bitcell port M2 TopAndBottom
  bit_drawn port lt = pins.drawn Bitcell port M2 TopAndBottom (bit_demand port lt)

  pub column_drawn : (n port : ℕ) → port < 2 → IsDrawnPin s (column_role n) port M2 Top
  column_drawn n port lt = pins.drawn (column_role n) port M2 Top (column_demand n port lt)

  pub precharge_drawn : (port : ℕ) → port < 2 → IsDrawnPin s Precharge port M2 Bottom
  precharge_drawn port lt = pins.drawn Precharge port M2 Bottom (precharge_demand port lt)

  -- How they lie

  pub across_cell : IsAcrossCell s.kit
  across_cell = record { left = word_drawn.fits.0.0; right = word_drawn.fits.0.1 }

  pub up_through : (port : ℕ) → port < 2 → IsUpThroughCell s.kit port
  up_through port lt = record { low = (bit_drawn port lt).fits.1; high = (bit_drawn port lt).fits.0 }

  pub gate_faces : (sized : (length s.plan.groups ≡ 2) ⊎ (length s.plan.groups ≡ 3)) → FaceAcross (s.kit.pin (row_gate s.plan.groups) (length s.plan.groups) 0) (s.kit.pin Driver 0 0) (s.kit.width (row_gate s.plan.groups))
  gate_faces sized =
      let a = (gate_drawn sized).fits in
      let b = driver_in_drawn.fits in
      let low = pins.facing.gate s.plan.groups sized in
      let up_a = a.1 in
      let up_b = b.1 in
      record { ends = a.0; begins = b.0; low = low; high = omega (arith, ints, low, up_a, up_b) }

  pub driver_faces : FaceAcross (s.kit.pin Driver 2 0) (s.kit.pin Bitcell 2 0) (s.kit.width Driver)
  driver_faces =
      let low = pins.facing.driver in
      let up_a = driver_out_drawn.fits.1 in
      let up_b = word_drawn.fits.1 in
      record { ends = driver_out_drawn.fits.0; begins = word_drawn.fits.0.0; low = low; high = omega (arith, ints, low, up_a, up_b) }

  pub column_faces : (n port : ℕ) → port < 2 → FaceUp (s.kit.pin (column_role n) port 1) (s.kit.pin Bitcell port 1) (s.kit.height (column_role n))
  column_faces n port lt =
      let left = pins.facing.column n port lt in
      let across_a = (column_drawn n port lt).fits.1 in
      let across_b = (bit_drawn port lt).fits.2 in
      record { ends = (column_drawn n port lt).fits.0; begins = (bit_drawn port lt).fits.1; left = left; right = omega (arith, ints, left, across_a, across_b) }

  pub precharge_faces : (port : ℕ) → port < 2 → FaceUp (s.kit.pin Bitcell port 1) (s.kit.pin Precharge port 1) (s.kit.height Bitcell)
  precharge_faces port lt =
      let left = sym (pins.facing.precharge port lt) in
      let across_a = (bit_drawn port lt).fits.2 in
      let across_b = (precharge_drawn port lt).fits.1 in
      record { ends = (bit_drawn port lt).fits.0; begins = (precharge_drawn port lt).fits.0; left = left; right = omega (arith, ints, left, across_a, across_b) }
