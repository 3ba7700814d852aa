-- What lies between bounds is covered by the boxes of a view.
use Rattle.std.proofs.Common.{◌≡◌, ◌≢◌, ◌⊎◌, inl, inr, ℕ, zero, suc, ℤ, pos, ◌+ℤ◌, ◌-ℤ◌, ◌≤ℤ◌, ◌<ℤ◌, refl, arith}
use Rattle.std.specs.Prelude.{Contains}
use Rattle.std.proofs.lemmas.Int.{ints, by_lt_z}
use Rattle.or_geom.specs.declared.shape.Rect.{Rect}
use Rattle.or_geom.specs.Covered.{HasCell}
use Rattle.sram_plan.specs.declared.view.Abstract.{Abstract}
use Rattle.sram_plan.specs.declared.view.SignalPin.{SignalPin}
use Rattle.macro_views.specs.Lef.{signal_box, supply_box, whole_box, before_supplies, behind_signals, blocked_box}
use Rattle.macro_views.specs.Boxes.{BoxHasCell, IsCoveredOn}
use Rattle.view_cover.specs.Bits.{LiesWithin}

-- the unit cell lies between these sides
record IsCellAt (x1 y1 x2 y2 x y : ℤ) : Type 0 where
  left : x1 ≤ℤ x
  right : x <ℤ x2
  low : y1 ≤ℤ y
  high : y <ℤ y2

cell_at : (left low right high x1 y1 x2 y2 x y : ℤ) (r : Rect) → LiesWithin left low right high r → x1 ≤ℤ left → y1 ≤ℤ low → right ≤ℤ x2 → high ≤ℤ y2 → HasCell r x y → IsCellAt x1 y1 x2 y2 x y
cell_at left low right high x1 y1 x2 y2 x y r is a b c d cell =
    let from = is.from in
    let above = is.above in
    let to = is.to in
    let below = is.below in
    let l = cell.left in
    let e = cell.right in
    let m = cell.low in
    let h = cell.high in
    record { left = omega (arith, ints, from, l, a); right = omega (arith, ints, to, e, c); low = omega (arith, ints, above, m, b); high = omega (arith, ints, below, h, d) }

in_whole : (view : Abstract) (x y : ℤ) → IsCellAt (pos 0) (pos 0) view.width view.height x y → BoxHasCell (whole_box view) x y
in_whole view x y c = record { left = c.left; right = c.right; low = c.low; high = c.high }

in_before : (view : Abstract) (x y : ℤ) → IsCellAt (pos 0) (pos 0) (view.supply_x -ℤ view.space) view.height x y → BoxHasCell (before_supplies view) x y
in_before view x y c = record { left = c.left; right = c.right; low = c.low; high = c.high }

in_behind : (view : Abstract) (x y : ℤ) → IsCellAt view.pitch (pos 0) view.width view.height x y → BoxHasCell (behind_signals view) x y
in_behind view x y c = record { left = c.left; right = c.right; low = c.low; high = c.high }

in_supply : (view : Abstract) (x1 x y : ℤ) → IsCellAt x1 (pos 0) (x1 +ℤ view.wire) view.height x y → BoxHasCell (supply_box view x1) x y
in_supply view x1 x y c = record { left = c.left; right = c.right; low = c.low; high = c.high }

in_signal : (view : Abstract) (pin : SignalPin) (x y : ℤ) → IsCellAt (pos 0) pin.y view.pitch (pin.y +ℤ view.wire) x y → BoxHasCell (signal_box view pin) x y
in_signal view pin x y c = record { left = c.left; right = c.right; low = c.low; high = c.high }

-- the numbers of a view: the pitch is a width and a space, and the trunks stand between the contents and the right side
pub record IsSpread (view : Abstract) (end : ℤ) : Type 0 where
  pub wire : pos 1 ≤ℤ view.wire
  pub space : pos 1 ≤ℤ view.space
  pub pitch_is : view.pitch ≡ view.wire +ℤ view.space
  pub supply : view.supply_x ≡ end +ℤ view.space
  pub width : view.width ≡ view.supply_x +ℤ (view.pitch +ℤ view.pitch)

same : (z : ℤ) → z ≤ℤ z
same z = omega (arith, ints)

pitch_low : (view : Abstract) (end : ℤ) → IsSpread view end → pos 0 ≤ℤ view.pitch
pitch_low view end s = let a = s.wire in let b = s.space in let p = s.pitch_is in omega (arith, ints, a, b, p)

in_wide : (view : Abstract) (end later x y : ℤ) (metal : ℕ) (r : Rect) → IsSpread view end → metal ≢ 1 → later ≤ℤ view.width → LiesWithin view.pitch (pos 0) later view.height r → HasCell r x y → BoxHasCell (blocked_box view metal) x y
in_wide view end later x y zero r s differs right is cell = in_whole view x y (cell_at view.pitch (pos 0) later view.height (pos 0) (pos 0) view.width view.height x y r is (pitch_low view end s) (same (pos 0)) right (same view.height) cell)
in_wide view end later x y (suc zero) r s differs right is cell = absurd (differs refl)
in_wide view end later x y (suc (suc zero)) r s differs right is cell = in_behind view x y (cell_at view.pitch (pos 0) later view.height view.pitch (pos 0) view.width view.height x y r is (same view.pitch) (same (pos 0)) right (same view.height) cell)
in_wide view end later x y (suc (suc (suc n))) r s differs right is cell = in_whole view x y (cell_at view.pitch (pos 0) later view.height (pos 0) (pos 0) view.width view.height x y r is (pitch_low view end s) (same (pos 0)) right (same view.height) cell)

-- on a metal other than the second
pub wide_covered : (view : Abstract) (end later : ℤ) (metal : ℕ) (r : Rect) → IsSpread view end → metal ≢ 1 → later ≤ℤ view.width → LiesWithin view.pitch (pos 0) later view.height r → IsCoveredOn view metal r
wide_covered view end later metal r s differs right is x y cell = (blocked_box view metal, inr refl, in_wide view end later x y metal r s differs right is cell)

end_in : (view : Abstract) (end : ℤ) → IsSpread view end → end ≤ℤ view.width
end_in view end s = let a = s.wire in let b = s.space in let p = s.pitch_is in let q = s.supply in let w = s.width in omega (arith, ints, a, b, p, q, w)

not_zero : ◌≢◌ {A = ℕ} 0 1
not_zero e = absurd (omega (arith, e))

not_more : (n : ℕ) → ◌≢◌ {A = ℕ} (suc (suc n)) 1
not_more n e = absurd (omega (arith, e))

in_inner : (view : Abstract) (end x y : ℤ) (metal : ℕ) (r : Rect) → IsSpread view end → LiesWithin view.pitch (pos 0) end view.height r → HasCell r x y → BoxHasCell (blocked_box view metal) x y
in_inner view end x y zero r s is cell = in_wide view end end x y 0 r s not_zero (end_in view end s) is cell
in_inner view end x y (suc zero) r s is cell =
    in_before view x y (cell_at view.pitch (pos 0) end view.height (pos 0) (pos 0) (view.supply_x -ℤ view.space) view.height x y r is (pitch_low view end s) (same (pos 0)) (let q = s.supply in omega (arith, ints, q)) (same view.height) cell)
in_inner view end x y (suc (suc n)) r s is cell = in_wide view end end x y (suc (suc n)) r s (not_more n) (end_in view end s) is cell

-- between the pitch at the left side and the end of the contents, on each metal
pub inner_covered : (view : Abstract) (end : ℤ) (metal : ℕ) (r : Rect) → IsSpread view end → LiesWithin view.pitch (pos 0) end view.height r → IsCoveredOn view metal r
inner_covered view end metal r s is x y cell = (blocked_box view metal, inr refl, in_inner view end x y metal r s is cell)

-- a supply's trunk
trunk_at : (view : Abstract) (x1 x2 x y : ℤ) (r : Rect) → x1 ≡ x2 → LiesWithin x1 (pos 0) (x1 +ℤ view.wire) view.height r → HasCell r x y → BoxHasCell (supply_box view x2) x y
trunk_at view x1 x2 x y r e is cell = in_supply view x2 x y (cell_at x1 (pos 0) (x1 +ℤ view.wire) view.height x2 (pos 0) (x2 +ℤ view.wire) view.height x y r is (omega (arith, ints, e)) (same (pos 0)) (omega (arith, ints, e)) (same view.height) cell)

pub trunk_covered : (view : Abstract) (x1 : ℤ) (r : Rect) → (x1 ≡ view.supply_x) ⊎ (x1 ≡ view.supply_x +ℤ view.pitch) → LiesWithin x1 (pos 0) (x1 +ℤ view.wire) view.height r → IsCoveredOn view 1 r
trunk_covered view x1 r (inl e) is x y cell = (supply_box view view.supply_x, inl (inl refl), trunk_at view x1 view.supply_x x y r e is cell)
trunk_covered view x1 r (inr e) is x y cell = (supply_box view (view.supply_x +ℤ view.pitch), inl (inr refl), trunk_at view x1 (view.supply_x +ℤ view.pitch) x y r e is cell)

-- a signal's trunk: its first pitch is in the pin's box, and the rest is blocked
begins_at : (view : Abstract) (later x y : ℤ) (pin : SignalPin) (r : Rect) → r.y1 ≡ pin.y → r.y2 ≡ pin.y +ℤ view.wire → LiesWithin (pos 0) (pos 0) later view.height r → HasCell r x y → x <ℤ view.pitch → BoxHasCell (signal_box view pin) x y
begins_at view later x y pin r low high is cell lt =
    let l = cell.left in
    let m = cell.low in
    let h = cell.high in
    let from = is.from in
    in_signal view pin x y (record { left = omega (arith, ints, l, from); right = lt; low = omega (arith, ints, m, low); high = omega (arith, ints, h, high) })

goes_on : (view : Abstract) (later x y : ℤ) (r : Rect) → later ≤ℤ view.width → LiesWithin (pos 0) (pos 0) later view.height r → HasCell r x y → view.pitch ≤ℤ x → BoxHasCell (behind_signals view) x y
goes_on view later x y r right is cell ge =
    let e = cell.right in
    let m = cell.low in
    let h = cell.high in
    let to = is.to in
    let above = is.above in
    let below = is.below in
    in_behind view x y (record { left = ge; right = omega (arith, ints, e, to, right); low = omega (arith, ints, m, above); high = omega (arith, ints, h, below) })

pub port_covered : (view : Abstract) (later : ℤ) (pin : SignalPin) (r : Rect) → Contains view.signals pin → r.y1 ≡ pin.y → r.y2 ≡ pin.y +ℤ view.wire → later ≤ℤ view.width → LiesWithin (pos 0) (pos 0) later view.height r → IsCoveredOn view 2 r
port_covered view later pin r there low high right is x y cell = by_lt_z x view.pitch (λ lt. (signal_box view pin, inl (pin, there, refl), begins_at view later x y pin r low high is cell lt)) (λ ge. (behind_signals view, inr refl, goes_on view later x y r right is cell ge))
