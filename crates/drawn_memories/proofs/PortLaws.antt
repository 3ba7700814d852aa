-- The pins at the ports that meet channels, and what else has such ports.
use Rattle.std.proofs.Common.{◌≡◌, ◌⊎◌, inl, inr, ℕ, zero, suc, ◌+◌, ◌<◌, ℤ, pos, ◌+ℤ◌, ◌-ℤ◌, List, length, Some, refl, sym, subst, arith}
use Rattle.std.specs.Prelude.{slice_get}
use Rattle.std.specs.List.{AllByRecursion}
use Rattle.std.proofs.lemmas.Int.{ints}
use Rattle.or_geom.proofs.ListLaws.{all_contained, contained_at}
use Rattle.cell_roles.specs.declared.role.Role.{Role}
use Rattle.cell_roles.specs.declared.role.Role.TheVariants.{Bitcell, Precharge, Mux, Tie, Sense, Write, RowNand2, RowNand3, Driver, Nand2, Nand3, Inv, Dff, Delay}
use Rattle.cell_roles.specs.Roles.{role_ports}
use Rattle.tech_rules.specs.declared.tech.Wire.{Wire}
use Rattle.leaf_shapes.specs.declared.demand.Metal.TheVariants.{M2, M3, M4}
use Rattle.leaf_shapes.specs.declared.fit.Fit.TheVariants.{Top, Bottom, TopAndBottom, Anywhere}
use Rattle.leaf_shapes.specs.Demands.{draw, role_demands}
use Rattle.leaf_tables.specs.declared.kit.Kit.{Kit}
use Rattle.leaf_tables.specs.Kits.{IsKit}
use Rattle.macro_layout.specs.LayoutKit.{LayoutKit}
use Rattle.floorplan.specs.LayoutOfKit.{layout_kit}
use Rattle.floorplan.specs.Demanded.{IsDemandOf}
use Rattle.good_wires.specs.Kept.{IsAmong}
use Rattle.drawn_memories.specs.Ports.{ports_below, ports_above, ports_over}
use Rattle.drawn_memories.proofs.FitLaws.{pin_fits}

-- as wide as a wire, up to the cell's upper end on the second metal, or from its lower end on the fourth
pub record IsUpperPin (kit : LayoutKit) (wire : Wire) (role : Role) (port : ℕ) : Type 0 where
  pub wide : (kit.pin role port 1).x2 ≡ (kit.pin role port 1).x1 +ℤ wire.width
  pub high : (kit.pin role port 1).y2 ≡ pos (kit.height role)

pub record IsLowerPin (kit : LayoutKit) (wire : Wire) (role : Role) (port : ℕ) : Type 0 where
  pub wide : (kit.pin role port 3).x2 ≡ (kit.pin role port 3).x1 +ℤ wire.width
  pub low : (kit.pin role port 3).y1 ≡ pos 0

across : (a b w : ℤ) → b -ℤ a ≡ w → b ≡ a +ℤ w
across a b w e = omega (arith, ints, e)

module _ (kit : Kit) (is : IsKit kit) where
  top : (role : Role) (port k : ℕ) (name : List ℕ) → slice_get (role_demands role) k ≡ Some (draw name M2 Top) → IsDemandOf role port 1 k → IsUpperPin (layout_kit kit) is.wire role port
  top role port k name at of = let fits = pin_fits kit is role port 1 k (draw name M2 Top) at of in record { wide = across _ _ _ fits.1; high = fits.0 }

  through : (role : Role) (port k : ℕ) (name : List ℕ) → slice_get (role_demands role) k ≡ Some (draw name M2 TopAndBottom) → IsDemandOf role port 1 k → IsUpperPin (layout_kit kit) is.wire role port
  through role port k name at of = let fits = pin_fits kit is role port 1 k (draw name M2 TopAndBottom) at of in record { wide = across _ _ _ fits.2; high = fits.0 }

  bottom : (role : Role) (port k : ℕ) (name : List ℕ) → slice_get (role_demands role) k ≡ Some (draw name M4 Bottom) → IsDemandOf role port 3 k → IsLowerPin (layout_kit kit) is.wire role port
  bottom role port k name at of = let fits = pin_fits kit is role port 3 k (draw name M4 Bottom) at of in record { wide = across _ _ _ fits.1; low = fits.0 }

  all_upper : AllByRecursion (λ p. IsUpperPin (layout_kit kit) is.wire p.0 p.1) ports_below
  all_upper = (
    through Sense 0 0 _ refl (record { name = _; named = refl; on = M2; number = refl; first = refl; there = omega arith }),
    (
      through Sense 1 1 _ refl (record { name = _; named = refl; on = M2; number = refl; first = refl; there = omega arith }),
      (
        top Nand2 0 0 _ refl (record { name = _; named = refl; on = M2; number = refl; first = refl; there = omega arith }),
        (
          top Nand2 1 1 _ refl (record { name = _; named = refl; on = M2; number = refl; first = refl; there = omega arith }),
          (
            top Nand2 2 2 _ refl (record { name = _; named = refl; on = M2; number = refl; first = refl; there = omega arith }),
            (
              top Nand3 0 0 _ refl (record { name = _; named = refl; on = M2; number = refl; first = refl; there = omega arith }),
              (
                top Nand3 1 1 _ refl (record { name = _; named = refl; on = M2; number = refl; first = refl; there = omega arith }),
                (
                  top Nand3 2 2 _ refl (record { name = _; named = refl; on = M2; number = refl; first = refl; there = omega arith }),
                  (
                    top Nand3 3 3 _ refl (record { name = _; named = refl; on = M2; number = refl; first = refl; there = omega arith }),
                    (
                      top Inv 0 0 _ refl (record { name = _; named = refl; on = M2; number = refl; first = refl; there = omega arith }),
                      (
                        top Inv 1 1 _ refl (record { name = _; named = refl; on = M2; number = refl; first = refl; there = omega arith }),
                        (
                          top Dff 0 0 _ refl (record { name = _; named = refl; on = M2; number = refl; first = refl; there = omega arith }),
                          (
                            top Dff 1 1 _ refl (record { name = _; named = refl; on = M2; number = refl; first = refl; there = omega arith }),
                            (
                              top Dff 2 2 _ refl (record { name = _; named = refl; on = M2; number = refl; first = refl; there = omega arith }),
                              (
                                top Delay 0 0 _ refl (record { name = _; named = refl; on = M2; number = refl; first = refl; there = omega arith }),
                                (top Delay 1 1 _ refl (record { name = _; named = refl; on = M2; number = refl; first = refl; there = omega arith }), tt),
                              ),
                            ),
                          ),
                        ),
                      ),
                    ),
                  ),
                ),
              ),
            ),
          ),
        ),
      ),
    ),
  )

  all_lower : AllByRecursion (λ p. IsLowerPin (layout_kit kit) is.wire p.0 p.1) ports_above
  all_lower = (
    bottom Write 0 0 _ refl (record { name = _; named = refl; on = M4; number = refl; first = refl; there = omega arith }),
    (
      bottom Write 3 3 _ refl (record { name = _; named = refl; on = M4; number = refl; first = refl; there = omega arith }),
      (
        bottom Sense 2 2 _ refl (record { name = _; named = refl; on = M4; number = refl; first = refl; there = omega arith }),
        (
          bottom Mux 2 2 _ refl (record { name = _; named = refl; on = M4; number = refl; first = refl; there = omega arith }),
          (
            bottom Mux 3 3 _ refl (record { name = _; named = refl; on = M4; number = refl; first = refl; there = omega arith }),
            (
              bottom Mux 4 4 _ refl (record { name = _; named = refl; on = M4; number = refl; first = refl; there = omega arith }),
              (
                bottom Tie 0 1 _ refl (record { name = _; named = refl; on = M4; number = refl; first = refl; there = omega arith }),
                (bottom Tie 1 3 _ refl (record { name = _; named = refl; on = M4; number = refl; first = refl; there = omega arith }), tt),
              ),
            ),
          ),
        ),
      ),
    ),
  )

  pub upper_pin : (role : Role) (port : ℕ) → IsAmong ports_below role port → IsUpperPin (layout_kit kit) is.wire role port
  upper_pin role port met = all_contained (λ p. IsUpperPin (layout_kit kit) is.wire p.0 p.1) ports_below (role, port) all_upper met

  pub lower_pin : (role : Role) (port : ℕ) → IsAmong ports_above role port → IsLowerPin (layout_kit kit) is.wire role port
  lower_pin role port met = all_contained (λ p. IsLowerPin (layout_kit kit) is.wire p.0 p.1) ports_above (role, port) all_lower met

  -- the enable of a sense cell
  pub sense_enable_high : ((layout_kit kit).pin Sense 3 2).y2 ≡ ((layout_kit kit).pin Sense 3 2).y1 +ℤ is.wire.width
  sense_enable_high = across _ _ _ (pin_fits kit is Sense 3 2 3 (draw _ M3 Anywhere) refl (record { name = _; named = refl; on = M3; number = refl; first = refl; there = omega arith }))

-- Which ports these are

abbrev pub IsSignal : Role → ℕ → Type 0
IsSignal role port = port + 2 < length (role_ports role)

abbrev pub IsBelow : Role → ℕ → Type 0
IsBelow Sense port = port < 2
IsBelow Nand2 port = IsSignal Nand2 port
IsBelow Nand3 port = IsSignal Nand3 port
IsBelow Inv port = IsSignal Inv port
IsBelow Dff port = IsSignal Dff port
IsBelow Delay port = IsSignal Delay port
IsBelow role port = ⊥

all_below : AllByRecursion (λ p. IsBelow p.0 p.1) ports_below
all_below = (omega arith, (omega arith, (omega arith, (omega arith, (omega arith, (omega arith, (omega arith, (omega arith, (omega arith, (omega arith, (omega arith, (omega arith, (omega arith, (omega arith, (omega arith, (omega arith, tt))))))))))))))))

pub is_below : (role : Role) (port : ℕ) → IsAmong ports_below role port → IsBelow role port
is_below role port met = all_contained (λ p. IsBelow p.0 p.1) ports_below (role, port) all_below met

pub below_listed : (role : Role) (port : ℕ) → IsBelow role port → IsAmong ports_below role port
below_listed Sense zero lt = contained_at ports_below 0 (Sense, 0) refl
below_listed Sense (suc zero) lt = contained_at ports_below 1 (Sense, 1) refl
below_listed Sense (suc (suc n)) lt = absurd (omega (arith, lt))
below_listed Nand2 zero lt = contained_at ports_below 2 (Nand2, 0) refl
below_listed Nand2 (suc zero) lt = contained_at ports_below 3 (Nand2, 1) refl
below_listed Nand2 (suc (suc zero)) lt = contained_at ports_below 4 (Nand2, 2) refl
below_listed Nand2 (suc (suc (suc n))) lt = absurd (omega (arith, lt))
below_listed Nand3 zero lt = contained_at ports_below 5 (Nand3, 0) refl
below_listed Nand3 (suc zero) lt = contained_at ports_below 6 (Nand3, 1) refl
below_listed Nand3 (suc (suc zero)) lt = contained_at ports_below 7 (Nand3, 2) refl
below_listed Nand3 (suc (suc (suc zero))) lt = contained_at ports_below 8 (Nand3, 3) refl
below_listed Nand3 (suc (suc (suc (suc n)))) lt = absurd (omega (arith, lt))
below_listed Inv zero lt = contained_at ports_below 9 (Inv, 0) refl
below_listed Inv (suc zero) lt = contained_at ports_below 10 (Inv, 1) refl
below_listed Inv (suc (suc n)) lt = absurd (omega (arith, lt))
below_listed Dff zero lt = contained_at ports_below 11 (Dff, 0) refl
below_listed Dff (suc zero) lt = contained_at ports_below 12 (Dff, 1) refl
below_listed Dff (suc (suc zero)) lt = contained_at ports_below 13 (Dff, 2) refl
below_listed Dff (suc (suc (suc n))) lt = absurd (omega (arith, lt))
below_listed Delay zero lt = contained_at ports_below 14 (Delay, 0) refl
below_listed Delay (suc zero) lt = contained_at ports_below 15 (Delay, 1) refl
below_listed Delay (suc (suc n)) lt = absurd (omega (arith, lt))
below_listed Bitcell port lt = absurd lt
below_listed Precharge port lt = absurd lt
below_listed Mux port lt = absurd lt
below_listed Tie port lt = absurd lt
below_listed Write port lt = absurd lt
below_listed RowNand2 port lt = absurd lt
below_listed RowNand3 port lt = absurd lt
below_listed Driver port lt = absurd lt

abbrev pub IsAbove : Role → ℕ → Type 0
IsAbove Write port = (port ≡ 0) ⊎ (port ≡ 3)
IsAbove Sense port = port ≡ 2
IsAbove Mux port = (1 < port) × (port < 5)
IsAbove Tie port = port < 2
IsAbove role port = ⊥

all_above : AllByRecursion (λ p. IsAbove p.0 p.1) ports_above
all_above = (inl refl, (inr refl, (refl, ((omega arith, omega arith), ((omega arith, omega arith), ((omega arith, omega arith), (omega arith, (omega arith, tt))))))))

pub is_above : (role : Role) (port : ℕ) → IsAmong ports_above role port → IsAbove role port
is_above role port met = all_contained (λ p. IsAbove p.0 p.1) ports_above (role, port) all_above met

pub write_listed : (port : ℕ) → (port ≡ 0) ⊎ (port ≡ 3) → IsAmong ports_above Write port
write_listed port (inl e) = subst (IsAmong ports_above Write) (sym e) (contained_at ports_above 0 (Write, 0) refl)
write_listed port (inr e) = subst (IsAmong ports_above Write) (sym e) (contained_at ports_above 1 (Write, 3) refl)

pub sense_listed : IsAmong ports_above Sense 2
sense_listed = contained_at ports_above 2 (Sense, 2) refl

pub mux_listed : (port : ℕ) → 1 < port → port < 5 → IsAmong ports_above Mux port
mux_listed zero a b = absurd (omega (arith, a))
mux_listed (suc zero) a b = absurd (omega (arith, a))
mux_listed (suc (suc zero)) a b = contained_at ports_above 3 (Mux, 2) refl
mux_listed (suc (suc (suc zero))) a b = contained_at ports_above 4 (Mux, 3) refl
mux_listed (suc (suc (suc (suc zero)))) a b = contained_at ports_above 5 (Mux, 4) refl
mux_listed (suc (suc (suc (suc (suc n))))) a b = absurd (omega (arith, b))

pub tie_listed : (port : ℕ) → port < 2 → IsAmong ports_above Tie port
tie_listed zero lt = contained_at ports_above 6 (Tie, 0) refl
tie_listed (suc zero) lt = contained_at ports_above 7 (Tie, 1) refl
tie_listed (suc (suc n)) lt = absurd (omega (arith, lt))

abbrev pub IsOver : Role → ℕ → Type 0
IsOver Sense port = port ≡ 2
IsOver role port = ⊥

all_over : AllByRecursion (λ p. IsOver p.0 p.1) ports_over
all_over = (refl, tt)

pub is_over : (role : Role) (port : ℕ) → IsAmong ports_over role port → IsOver role port
is_over role port met = all_contained (λ p. IsOver p.0 p.1) ports_over (role, port) all_over met

pub over_listed : IsAmong ports_over Sense 2
over_listed = contained_at ports_over 0 (Sense, 2) refl

pub over_above : (role : Role) (port : ℕ) → IsAmong ports_over role port → IsAmong ports_above role port
over_above Sense port met = subst (IsAmong ports_above Sense) (sym (is_over Sense port met)) sense_listed
over_above Bitcell port met = absurd (is_over Bitcell port met)
over_above Precharge port met = absurd (is_over Precharge port met)
over_above Mux port met = absurd (is_over Mux port met)
over_above Tie port met = absurd (is_over Tie port met)
over_above Write port met = absurd (is_over Write port met)
over_above RowNand2 port met = absurd (is_over RowNand2 port met)
over_above RowNand3 port met = absurd (is_over RowNand3 port met)
over_above Driver port met = absurd (is_over Driver port met)
over_above Nand2 port met = absurd (is_over Nand2 port met)
over_above Nand3 port met = absurd (is_over Nand3 port met)
over_above Inv port met = absurd (is_over Inv port met)
over_above Dff port met = absurd (is_over Dff port met)
over_above Delay port met = absurd (is_over Delay port met)
