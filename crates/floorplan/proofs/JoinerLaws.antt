-- Boxes further down, and the columns of a plan.
use Rattle.std.proofs.Common.{◌≡◌, ◌⊎◌, inl, inr, ℕ, ◌+◌, ◌<◌, ℤ, pos, ◌+ℤ◌, ◌-ℤ◌, ◌<ℤ◌, ◌≤ℤ◌, ◌≤◌, w64, to_z, of_z, FitsSigned, List, refl, sym, ◌∙◌, arith}
use Rattle.std.proofs.lemmas.Int.{ints, to_z-of_z}
use Rattle.or_geom.specs.declared.shape.Shape.{Shape}
use Rattle.or_geom.specs.Adds.{Adds}
use Rattle.or_geom.proofs.AddsLaws.{adds_both, adds_as, adds_none}
use Rattle.wire_drawing.specs.Drawing.{IsBox}
use Rattle.sram_netlist.specs.Numbers.{PlanNumbers, ArePlanNumbers}
use Rattle.port_lists.proofs.NumberLaws.{words_are}
use Rattle.port_lists.proofs.TabulateLaws.{some_lines}
use Rattle.floorplan.proofs.CountLaws.{some_product}
use Rattle.toml_keys.specs.Keys.{IsInRange}
use Rattle.floorplan.specs.FloorplanNumbers.{IsUpTo, IsFloorplanLength}
use Rattle.floorplan.specs.Lowered.{IsLowered}

lower : (z y by : ℤ) (a : ℤ) → a ≡ y -ℤ by → z ≡ a → z ≡ y +ℤ (pos 0 -ℤ by)
lower z y by a is at = omega (arith, ints, is, at)

lower_back : (z w y by a : ℤ) → a ≡ y -ℤ by → w ≡ y → z ≡ w +ℤ (pos 0 -ℤ by) → z ≡ a
lower_back z w y by a is at moved = omega (arith, ints, is, at, moved)

level : (z x : ℤ) → z ≡ x → z ≡ x +ℤ pos 0
level z x at = omega (arith, ints, at)

level_back : (z w x : ℤ) → w ≡ x → z ≡ w +ℤ pos 0 → z ≡ x
level_back z w x at moved = omega (arith, ints, at, moved)

ordered : (a b x y : ℤ) → a <ℤ b → a ≡ x → b ≡ y → x <ℤ y
ordered a b x y less first second = omega (arith, ints, less, first, second)

ordered_up : (a b x y by : ℤ) → a ≡ x -ℤ by → b ≡ y -ℤ by → a <ℤ b → x <ℤ y
ordered_up a b x y by first second less = omega (arith, ints, less, first, second)

pub lower_box : (by : ℤ) (layer : ℕ) (x1 y1 x2 y2 a b c d : ℤ) (old now : List Shape) → Adds old now (IsBox layer a b c d) → a ≡ x1 → b ≡ y1 -ℤ by → c ≡ x2 → d ≡ y2 -ℤ by → Adds old now (IsLowered by (IsBox layer x1 y1 x2 y2))
lower_box by layer x1 y1 x2 y2 a b c d old now adds left low right high =
    adds_as old now (IsBox layer a b c d) (IsLowered by (IsBox layer x1 y1 x2 y2))
    (λ s is. record {
      inner = record { layer = layer; rect = record { x1 = x1; y1 = y1; x2 = x2; y2 = y2; wide = ordered _ _ _ _ s.rect.wide (is.left ∙ left) (is.right ∙ right); tall = ordered_up _ _ _ _ by (is.low ∙ low) (is.high ∙ high) s.rect.tall } };
      is = record { on = refl; left = refl; low = refl; right = refl; high = refl };
      shifted = record { layer = is.on; x1 = level _ _ (is.left ∙ left); y1 = lower _ _ by b low is.low; x2 = level _ _ (is.right ∙ right); y2 = lower _ _ by d high is.high };
    })
    (λ s l. record {
      on = l.shifted.layer ∙ l.is.on;
      left = level_back _ _ _ l.is.left l.shifted.x1 ∙ sym left;
      low = lower_back _ _ _ by b low l.is.low l.shifted.y1;
      right = level_back _ _ _ l.is.right l.shifted.x2 ∙ sym right;
      high = lower_back _ _ _ by d high l.is.high l.shifted.y2;
    })
    adds

swapped : (a b w : ℤ) → (a -ℤ b) -ℤ w ≡ (a -ℤ w) -ℤ b
swapped a b w = omega (arith, ints)

-- edges as they are computed
pub sunk : (a b w : ℤ) → IsFloorplanLength a → IsFloorplanLength b → IsInRange (pos 1) (pos 65536) w → to_z w64 (of_z w64 (to_z w64 (of_z w64 (to_z w64 (of_z w64 a) -ℤ to_z w64 (of_z w64 b))) -ℤ to_z w64 (of_z w64 w))) ≡ (a -ℤ w) -ℤ b
sunk a b w at by wide =
    let fits_a : FitsSigned w64 a = omega (arith, ints, at.above, at.below) in
    let fits_b : FitsSigned w64 b = omega (arith, ints, by.above, by.below) in
    let fits_w : FitsSigned w64 w = omega (arith, ints, wide.from, wide.to) in
    let fits_d : FitsSigned w64 (a -ℤ b) = omega (arith, ints, at.above, at.below, by.above, by.below) in
    let fits_e : FitsSigned w64 ((a -ℤ b) -ℤ w) = omega (arith, ints, at.above, at.below, by.above, by.below, wide.from, wide.to) in
    rw (to_z-of_z w64 a fits_a, to_z-of_z w64 b fits_b, to_z-of_z w64 (a -ℤ b) fits_d, to_z-of_z w64 w fits_w, to_z-of_z w64 ((a -ℤ b) -ℤ w) fits_e) (swapped a b w)

pub apart : (a b : ℤ) → IsFloorplanLength a → IsFloorplanLength b → to_z w64 (of_z w64 (to_z w64 (of_z w64 a) -ℤ to_z w64 (of_z w64 b))) ≡ a -ℤ b
apart a b at by =
    let fits_a : FitsSigned w64 a = omega (arith, ints, at.above, at.below) in
    let fits_b : FitsSigned w64 b = omega (arith, ints, by.above, by.below) in
    let fits_d : FitsSigned w64 (a -ℤ b) = omega (arith, ints, at.above, at.below, by.above, by.below) in
    rw (to_z-of_z w64 a fits_a, to_z-of_z w64 b fits_b, to_z-of_z w64 (a -ℤ b) fits_d) refl

pub apart_fits : (a b : ℤ) → IsFloorplanLength a → IsFloorplanLength b → FitsSigned w64 (to_z w64 (of_z w64 a) -ℤ to_z w64 (of_z w64 b))
apart_fits a b at by = omega (arith, ints, at.above, at.below, by.above, by.below)

pub sunk_fits : (a b w : ℤ) → IsFloorplanLength a → IsFloorplanLength b → IsInRange (pos 1) (pos 65536) w → FitsSigned w64 (to_z w64 (of_z w64 (to_z w64 (of_z w64 a) -ℤ to_z w64 (of_z w64 b))) -ℤ to_z w64 (of_z w64 w))
sunk_fits a b w at by wide = rw (apart a b at by) (omega (arith, ints, at.above, at.below, by.above, by.below, wide.from, wide.to))

below_by : (a b w : ℤ) → pos 1 ≤ℤ w → ((a -ℤ w) -ℤ b) <ℤ (a -ℤ b)
below_by a b w some = omega (arith, ints, some)

pub sunk_less : (a b w : ℤ) → IsFloorplanLength a → IsFloorplanLength b → IsInRange (pos 1) (pos 65536) w → to_z w64 (of_z w64 (to_z w64 (of_z w64 (to_z w64 (of_z w64 a) -ℤ to_z w64 (of_z w64 b))) -ℤ to_z w64 (of_z w64 w))) <ℤ to_z w64 (of_z w64 (to_z w64 (of_z w64 a) -ℤ to_z w64 (of_z w64 b)))
sunk_less a b w at by wide = rw (sunk a b w at by wide, apart a b at by) (below_by a b w wide.from)

-- the columns end behind the left end
pub wide_from : (row left x : ℤ) (far e : ℕ) → IsUpTo 8388608 row → left ≡ row +ℤ pos far → far ≤ 131072 → 0 < e → e ≤ 16777216 → x ≡ left → to_z w64 (of_z w64 x) <ℤ to_z w64 (of_z w64 (to_z w64 (of_z w64 left) +ℤ to_z w64 e))
wide_from row left x far e placed is near some few at = omega (arith, ints, placed.above, placed.below, is, near, some, few, at)

pub wide_rows : (row left : ℤ) (far e : ℕ) → IsUpTo 8388608 row → left ≡ row +ℤ pos far → far ≤ 131072 → 0 < e → e ≤ 16777216 → to_z w64 (of_z w64 row) <ℤ to_z w64 (of_z w64 (to_z w64 (of_z w64 left) +ℤ to_z w64 e))
wide_rows row left far e placed is near some few = omega (arith, ints, placed.above, placed.below, is, near, some, few)

pub lower_both : (by : ℤ) (A B : Shape → Type 0) (old now new : List Shape) → Adds old now (IsLowered by A) → Adds now new (IsLowered by B) → Adds old new (IsLowered by (λ s. A s ⊎ B s))
lower_both by A B old now new first second =
    adds_as old new (λ s. IsLowered by A s ⊎ IsLowered by B s) (IsLowered by (λ s. A s ⊎ B s))
    (λ s is. elim is [ inl l ↦ record { inner = l.inner; is = inl l.is; shifted = l.shifted } | inr r ↦ record { inner = r.inner; is = inr r.is; shifted = r.shifted } ])
    (λ s is. elim is.is [ inl l ↦ inl (record { inner = is.inner; is = l; shifted = is.shifted }) | inr r ↦ inr (record { inner = is.inner; is = r; shifted = is.shifted }) ])
    (adds_both old now new (IsLowered by A) (IsLowered by B) first second)

-- where the columns begin and end
pub begins_at : (row left : ℤ) (g d kg kd : ℕ) → IsUpTo 8388608 row → left ≡ row +ℤ pos (g + d) → g + d ≤ 131072 → g ≡ kg → d ≡ kd → to_z w64 (of_z w64 left) ≡ row +ℤ pos (kg + kd)
begins_at row left g d kg kd placed is near gate drive = omega (arith, ints, placed.above, placed.below, is, near, gate, drive)

pub ends_at : (row left : ℤ) (g d e kg kd n : ℕ) → IsUpTo 8388608 row → left ≡ row +ℤ pos (g + d) → g + d ≤ 131072 → e ≤ 16777216 → g ≡ kg → d ≡ kd → e ≡ n → to_z w64 (of_z w64 (to_z w64 (of_z w64 left) +ℤ to_z w64 e)) ≡ (row +ℤ pos (kg + kd)) +ℤ pos n
ends_at row left g d e kg kd n placed is near few gate drive columns = omega (arith, ints, placed.above, placed.below, is, near, few, gate, drive, columns)

-- what is drawn where P holds
pub lower_where : (by : ℤ) (P : Type 0) (Q : Shape → Type 0) (old now : List Shape) → P → Adds old now (IsLowered by Q) → Adds old now (IsLowered by (λ s. P × Q s))
lower_where by P Q old now holds adds =
    adds_as old now (IsLowered by Q) (IsLowered by (λ s. P × Q s))
    (λ s is. record { inner = is.inner; is = (holds, is.is); shifted = is.shifted })
    (λ s is. record { inner = is.inner; is = is.is.1; shifted = is.shifted })
    adds

pub lower_nowhere : (by : ℤ) (P : Type 0) (Q : Shape → Type 0) (old : List Shape) → (P → ⊥) → Adds old old (IsLowered by (λ s. P × Q s))
lower_nowhere by P Q old other = adds_none old (IsLowered by (λ s. P × Q s)) (λ s is. other is.is.0)

pub some_columns : (n : PlanNumbers) → ArePlanNumbers n → 0 < n.columns
some_columns n are =
    let words = words_are n are in
    let lines = some_lines n.col_bits in
    let some : 0 < n.wpr = omega (arith, words, lines) in
    let word = are.plan.words in
    let product = some_product n.word_size n.wpr word some in
    let is = are.columns in
    omega (arith, is, product)
