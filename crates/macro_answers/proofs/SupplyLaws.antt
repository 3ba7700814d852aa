-- The wires of a macro that aren't in its banks, each once and in order.
use Rattle.std.proofs.Common.{◌≡◌, ◌⊎◌, inl, inr, ℕ, ◌+◌, ◌%◌, ◌<◌, ◌≤◌, ℤ, pos, ◌+ℤ◌, ◌-ℤ◌, List, length, refl, subst, arith}
use Rattle.std.specs.Prelude.{Contains, slice_index}
use Rattle.std.proofs.lemmas.Bool.{cases_eq}
use Rattle.or_geom.specs.ShapeOrder.{shape_order}
use Rattle.or_geom.specs.declared.shape.Shape.{Shape}
use Rattle.cell_roles.specs.declared.role.Role.TheVariants.{Inv}
use Rattle.tech_rules.specs.declared.tech.Wire.{Wire}
use Rattle.wire_drawing.specs.Drawing.{IsBox, IsVia}
use Rattle.sram_netlist.specs.Organization.{IsWritten, Organization, bank_rows}
use Rattle.macro_layout.specs.LayoutKit.{LayoutKit}
use Rattle.macro_layout.specs.Places.{Floorplan, columns_x}
use Rattle.macro_layout.specs.Floorplan.{column_channel_y, upper_y}
use Rattle.macro_layout.specs.Wires.{IsBar, IsGroundBarAt, IsGroundWire, IsPowerBarAt, IsPowerWire, IsSupplyTrunk, ground_x, row_y, trunk_x}
use Rattle.channel_answers.proofs.ListedLaws.{Listed, ListedInOrder, listed_as, listed_below, listed_or, listed_where, listed_within, times, times_is}
use Rattle.channel_answers.proofs.ShapeLaws.{listed_box, listed_via, shapes_in_order}
use Rattle.macro_answers.proofs.BankLaws.{decide_written}

-- Bars that begin at some places

abbrev AreBars : Wire → ℤ → (ℤ → ℤ → Type 0) → Shape → Type 0
AreBars wire trunk At s = (x : ℤ) × (y : ℤ) × At x y × IsBar wire trunk x y s

listed_bar : (wire : Wire) (trunk x y : ℤ) → Listed (1 + 1) (IsBar wire trunk x y)
listed_bar wire trunk x y = listed_or 1 1 (IsBox (slice_index wire.metals 0) x y (trunk +ℤ wire.width) (y +ℤ wire.width)) (IsVia wire 0 trunk y) (listed_box _ _ _ _ _) (listed_via wire 0 trunk y)

bar_moved : (wire : Wire) (trunk x y a b : ℤ) (s : Shape) → x ≡ a → y ≡ b → IsBar wire trunk x y s → IsBar wire trunk a b s
bar_moved wire trunk x y a b s e f bar = subst (λ (z : ℤ). IsBar wire trunk z b s) e (subst (λ (z : ℤ). IsBar wire trunk x z s) f bar)

bars_at : (wire : Wire) (trunk a b : ℤ) → Listed (1 + 1) (AreBars wire trunk (λ x y. (x ≡ a) × (y ≡ b)))
bars_at wire trunk a b =
    listed_as (1 + 1) (IsBar wire trunk a b) (AreBars wire trunk (λ x y. (x ≡ a) × (y ≡ b))) (λ s bar. (a, b, (refl, refl), bar)) (λ s h. bar_moved wire trunk h.0 h.1 a b s h.2.0 h.2.1 h.3) (listed_bar wire trunk a b)

bars_or : (m n : ℕ) (wire : Wire) (trunk : ℤ) (At To : ℤ → ℤ → Type 0) → Listed m (AreBars wire trunk At) → Listed n (AreBars wire trunk To)
    → Listed (m + n) (AreBars wire trunk (λ x y. At x y ⊎ To x y))
bars_or m n wire trunk At To a b =
    listed_as (m + n) (λ s. AreBars wire trunk At s ⊎ AreBars wire trunk To s) (AreBars wire trunk (λ x y. At x y ⊎ To x y))
    (λ s h. elim h [ inl p ↦ (p.0, p.1, inl p.2, p.3) | inr q ↦ (q.0, q.1, inr q.2, q.3) ])
    (λ s h. elim h.2 [ inl p ↦ inl (h.0, h.1, p, h.3) | inr q ↦ inr (h.0, h.1, q, h.3) ])
    (listed_or m n (AreBars wire trunk At) (AreBars wire trunk To) a b)

bars_where : (wire : Wire) (trunk a b : ℤ) (D : Type 0) → D ⊎ (D → ⊥) → Listed (1 + 1) (AreBars wire trunk (λ x y. D × (x ≡ a) × (y ≡ b)))
bars_where wire trunk a b D decided =
    listed_as (1 + 1) (λ s. D × IsBar wire trunk a b s) (AreBars wire trunk (λ x y. D × (x ≡ a) × (y ≡ b))) (λ s h. (a, b, (h.0, refl, refl), h.1))
    (λ s h. (h.2.0, bar_moved wire trunk h.0 h.1 a b s h.2.1 h.2.2 h.3)) (listed_where (1 + 1) D (IsBar wire trunk a b) decided (λ d. listed_bar wire trunk a b))

bars_of_rows : (wire : Wire) (trunk a : ℤ) (rows odd : ℕ) (high : ℕ → ℤ)
    → Listed (times rows (1 + 1)) (AreBars wire trunk (λ x y. (r : ℕ) × (r < rows) × (r % 2 ≡ odd) × (x ≡ a) × (y ≡ high r)))
bars_of_rows wire trunk a rows odd high =
    listed_as (times rows (1 + 1)) (λ s. (r : ℕ) × (r < rows) × ((r % 2 ≡ odd) × IsBar wire trunk a (high r) s)) (AreBars wire trunk (λ x y. (r : ℕ) × (r < rows) × (r % 2 ≡ odd) × (x ≡ a) × (y ≡ high r)))
    (λ s h. (a, high h.0, (h.0, h.1, h.2.0, refl, refl), h.2.1))
    (λ s h. (h.2.0, h.2.1, (h.2.2, bar_moved wire trunk h.0 h.1 a (high h.2.0) s h.2.3 h.2.4 h.3)))
    (listed_below rows (1 + 1) (λ r s. (r % 2 ≡ odd) × IsBar wire trunk a (high r) s) (λ r lt. listed_where (1 + 1) (r % 2 ≡ odd) (IsBar wire trunk a (high r)) (cases_eq (r % 2) odd) (λ e. listed_bar wire trunk a (high r))))

-- The supplies

abbrev few_bars : ℕ → ℕ
few_bars rows = 1 + (1 + 1 + (1 + 1 + (1 + 1 + (1 + 1 + (times rows (1 + 1) + (1 + 1))))))

power_wires : (plan : Organization) (kit : LayoutKit) (wire : Wire) (f : Floorplan) → Listed (few_bars (bank_rows plan)) (IsPowerWire plan kit wire f)
power_wires plan kit wire f =
    listed_or 1 (1 + 1 + (1 + 1 + (1 + 1 + (1 + 1 + (times (bank_rows plan) (1 + 1) + (1 + 1)))))) (IsSupplyTrunk kit wire f t) (AreBars wire t (IsPowerBarAt plan kit wire f)) (listed_box _ _ _ _ _)
    (bars_or (1 + 1) _ wire t _ _ (bars_at wire t f.logic_x (pos (kit.height Inv) -ℤ wire.width))
    (bars_or (1 + 1) _ wire t _ _ (bars_where wire t c f.write_y (IsWritten plan) (decide_written plan))
    (bars_or (1 + 1) _ wire t _ _ (bars_at wire t c (column_channel_y kit f -ℤ wire.width))
    (bars_or (1 + 1) _ wire t _ _ (bars_at wire t c f.column_y)
    (bars_or (times (bank_rows plan) (1 + 1)) (1 + 1) wire t _ _ (bars_of_rows wire t f.row_x (bank_rows plan) 1 (row_y kit f)) (bars_at wire t c (upper_y kit f -ℤ wire.width)))))))
  where
    t : ℤ
    t = trunk_x plan kit wire f

    c : ℤ
    c = columns_x plan kit f

abbrev few_grounds : ℕ → ℕ
few_grounds rows = 1 + (1 + 1 + (1 + 1 + (times rows (1 + 1) + (1 + 1))))

ground_wires : (plan : Organization) (kit : LayoutKit) (wire : Wire) (f : Floorplan)
    → Listed (few_grounds (bank_rows plan)) (IsGroundWire plan kit wire f)
ground_wires plan kit wire f =
    listed_or 1 (1 + 1 + (1 + 1 + (times (bank_rows plan) (1 + 1) + (1 + 1)))) (IsSupplyTrunk kit wire f g) (AreBars wire g (IsGroundBarAt plan kit f)) (listed_box _ _ _ _ _)
    (bars_or (1 + 1) _ wire g _ _ (bars_at wire g f.logic_x (pos 0))
    (bars_or (1 + 1) _ wire g _ _ (bars_at wire g (columns_x plan kit f) f.sense_y)
    (bars_or (times (bank_rows plan) (1 + 1)) (1 + 1) wire g _ _ (bars_of_rows wire g f.row_x (bank_rows plan) 0 (row_y kit f)) (bars_at wire g f.row_x f.precharge_y))))
  where
    g : ℤ
    g = ground_x plan kit wire f

-- the main channel's wires and the supplies
abbrev pub IsTopWire : Organization → LayoutKit → Wire → Floorplan → List Shape → Shape → Type 0
IsTopWire plan kit wire f main s = Contains main s ⊎ (IsPowerWire plan kit wire f s ⊎ IsGroundWire plan kit wire f s)

pub top_there : (plan : Organization) (kit : LayoutKit) (wire : Wire) (f : Floorplan) (main : List Shape) → bank_rows plan ≤ 256
    → ListedInOrder shape_order (length main + 4096) (IsTopWire plan kit wire f main)
top_there plan kit wire f main rows =
    let power = power_wires plan kit wire f in
    let ground = ground_wires plan kit wire f in
    let most = times_is (bank_rows plan) (1 + 1) in
    shapes_in_order (length main + 4096) (IsTopWire plan kit wire f main)
    (listed_within (length main + (few_bars (bank_rows plan) + few_grounds (bank_rows plan))) (length main + 4096) (IsTopWire plan kit wire f main) (omega (arith, most, rows))
    (listed_or (length main) (few_bars (bank_rows plan) + few_grounds (bank_rows plan)) (Contains main) (λ s. IsPowerWire plan kit wire f s ⊎ IsGroundWire plan kit wire f s) (record { list = main; few = omega arith; has = λ s. (λ h. h, λ h. h) })
    (listed_or (few_bars (bank_rows plan)) (few_grounds (bank_rows plan)) (IsPowerWire plan kit wire f) (IsGroundWire plan kit wire f) power ground)))
