-- Lists of wires that are drawn as stated are the stated wires, wherever the cells put them.
use Rattle.std.proofs.Common.{◌≡◌, inl, inr, ◌↔◌, ℕ, ℤ, pos, ◌+ℤ◌, ◌-ℤ◌, ◌*ℤ◌, ◌<ℤ◌, List, slice_get, refl, sym, ap, ◌∙◌, arith}
use Rattle.std.proofs.lemmas.Int.{ints}
use Rattle.std.specs.Prelude.{Contains}
use Rattle.or_geom.specs.declared.shape.Shape.{Shape}
use Rattle.tech_rules.specs.declared.tech.Layer.{Layer}
use Rattle.tech_rules.specs.declared.tech.Wire.{Wire}
use Rattle.element_drawing.specs.PlainLabel.{PlainLabel}
use Rattle.cell_builder.specs.declared.cell.PlacedLabel.{PlacedLabel}
use Rattle.cell_builder.specs.Flat.{IsOwnWire, IsOwnLabel}
use Rattle.sram_netlist.specs.Organization.{Organization}
use Rattle.macro_layout.specs.LayoutKit.{LayoutKit}
use Rattle.macro_layout.specs.Floorplan.{Tracks}
use Rattle.macro_layout.specs.Layout.{Drawing, IsWireOfBanks, InLayout, IsLayoutLabel}
use Rattle.macro_layout.specs.Wires.{IsWireInMacro, IsLabelInMacro}
use Rattle.macro_layout.specs.Stated.{IsShifted, IsOnFirstLayer, IsOnFirstTextLayer, IsWireInBanks, IsInMacro, IsMacroLabel, IsWireOfCell, IsDrawnAs, FlatListsAreStated}
use Rattle.macro_layout.proofs.LayoutLaws.{flat_lists_are_layout}

own_as_stated : (layers : List Layer) (wires : List Shape) (P : Shape → Type 0) (s : Shape) → ((w : Shape) → Contains wires w ↔ P w) → IsOwnWire layers wires s ↔ IsOnFirstLayer layers P s
own_as_stated layers wires P s same = (
  λ w. record { wire = w.wire; drawn = (same w.wire).0 w.among; layer = w.layer; on = w.on; first = w.first; rect = w.rect },
  λ w. record { wire = w.wire; among = (same w.wire).1 w.drawn; layer = w.layer; on = w.on; first = w.first; rect = w.rect },
)

label_as_stated : (layers : List Layer) (labels : List PlacedLabel) (P : PlacedLabel → Type 0) (label : PlainLabel) → ((l : PlacedLabel) → Contains labels l ↔ P l) → IsOwnLabel layers labels label ↔ IsOnFirstTextLayer layers P label
label_as_stated layers labels P label same = (
  λ o. record { text = o.text; written = (same o.text).0 o.among; layer = o.layer; on = o.on; first = o.first; path = o.path; name = o.name; at = o.at },
  λ o. record { text = o.text; among = (same o.text).1 o.written; layer = o.layer; on = o.on; first = o.first; path = o.path; name = o.name; at = o.at },
)

-- a shape so much further right and up
pub record HasShifted (dx dy : ℤ) (s : Shape) : Type 0 where
  pub shape : Shape
  pub is : IsShifted dx dy s shape

still_less : (a b d : ℤ) → a <ℤ b → (a +ℤ d) <ℤ (b +ℤ d)
still_less a b d lt = omega (arith, ints, lt)

shifted : (dx dy : ℤ) (s : Shape) → HasShifted dx dy s
shifted dx dy s = record {
  shape = record {
    layer = s.layer;
    rect = record {
      x1 = s.rect.x1 +ℤ dx;
      y1 = s.rect.y1 +ℤ dy;
      x2 = s.rect.x2 +ℤ dx;
      y2 = s.rect.y2 +ℤ dy;
      wide = still_less s.rect.x1 s.rect.x2 dx s.rect.wide;
      tall = still_less s.rect.y1 s.rect.y2 dy s.rect.tall;
    };
  };
  is = record { layer = refl; x1 = refl; y1 = refl; x2 = refl; y2 = refl };
}

-- from the bank's corner and back
right_alone : (s a w x : ℤ) → a ≡ w +ℤ pos 0 → s ≡ a +ℤ x → s ≡ w +ℤ x
right_alone s a w x e f = omega (arith, ints, e, f)

up_and_down : (s a w y : ℤ) → a ≡ w +ℤ (pos 0 -ℤ y) → s ≡ a +ℤ y → s ≡ w +ℤ pos 0
up_and_down s a w y e f = omega (arith, ints, e, f)

right_back : (s a b w x : ℤ) → s ≡ b → b ≡ w +ℤ x → a ≡ w +ℤ pos 0 → s ≡ a +ℤ x
right_back s a b w x e f g = omega (arith, ints, e, f, g)

up_back : (s a b w y : ℤ) → s ≡ b → b ≡ w +ℤ pos 0 → a ≡ w +ℤ (pos 0 -ℤ y) → s ≡ a +ℤ y
up_back s a b w y e f g = omega (arith, ints, e, f, g)

banks_as_stated : (layers : List Layer) (plan : Organization) (kit : LayoutKit) (wire : Wire) (tracks : Tracks) (d : Drawing) (s : Shape) → ((w : Shape) → Contains d.bank_wires w ↔ IsWireOfCell plan kit wire tracks d.floorplan w)
    → IsWireOfBanks layers plan d s ↔ IsOnFirstLayer layers (IsWireInBanks plan kit wire tracks d.floorplan) s
banks_as_stated layers plan kit wire tracks d s same = (
  λ b.
      let c = (same b.wire.wire).0 b.wire.among in
      let x = pos b.bank *ℤ d.floorplan.bank_width in
      let y = d.floorplan.write_y in
      let m = c.shifted in
      let box = b.wire.box in
      record {
        wire = record { layer = b.wire.wire.layer; rect = s.rect };
        drawn = record {
          bank = b.bank;
          below = b.below;
          inner = c.inner;
          is = c.is;
          shifted = record {
            layer = m.layer;
            x1 = right_alone s.rect.x1 b.wire.wire.rect.x1 c.inner.rect.x1 x m.x1 box.x1;
            y1 = up_and_down s.rect.y1 b.wire.wire.rect.y1 c.inner.rect.y1 y m.y1 box.y1;
            x2 = right_alone s.rect.x2 b.wire.wire.rect.x2 c.inner.rect.x2 x m.x2 box.x2;
            y2 = up_and_down s.rect.y2 b.wire.wire.rect.y2 c.inner.rect.y2 y m.y2 box.y2;
          };
        };
        layer = b.wire.layer;
        on = b.wire.on;
        first = b.wire.first;
        rect = refl;
      },
  λ f.
      let w = f.drawn in
      let x = pos w.bank *ℤ d.floorplan.bank_width in
      let y = d.floorplan.write_y in
      let c = shifted (pos 0) (pos 0 -ℤ y) w.inner in
      let m = c.is in
      let r : s.rect ≡ f.wire.rect = f.rect in
      record {
        bank = w.bank;
        below = w.below;
        wire = record {
          wire = c.shape;
          among = (same c.shape).1 (record { inner = w.inner; is = w.is; shifted = m });
          layer = f.layer;
          on = ap (slice_get layers) (m.layer ∙ sym w.shifted.layer) ∙ f.on;
          first = f.first;
          box = record {
            x1 = right_back s.rect.x1 c.shape.rect.x1 f.wire.rect.x1 w.inner.rect.x1 x (λ i. (r i).x1) w.shifted.x1 m.x1;
            y1 = up_back s.rect.y1 c.shape.rect.y1 f.wire.rect.y1 w.inner.rect.y1 y (λ i. (r i).y1) w.shifted.y1 m.y1;
            x2 = right_back s.rect.x2 c.shape.rect.x2 f.wire.rect.x2 w.inner.rect.x2 x (λ i. (r i).x2) w.shifted.x2 m.x2;
            y2 = up_back s.rect.y2 c.shape.rect.y2 f.wire.rect.y2 w.inner.rect.y2 y (λ i. (r i).y2) w.shifted.y2 m.y2;
          };
        };
      },
)

shapes_as_stated : (layers : List Layer) (Flat : List ℕ → Shape → Type 0) (plan : Organization) (kit : LayoutKit) (wire : Wire) (tracks : Tracks) (d : Drawing) (s : Shape) → IsDrawnAs plan kit wire tracks d
    → InLayout layers Flat plan kit d s ↔ IsInMacro layers Flat plan kit d.bits wire tracks d.floorplan s
shapes_as_stated layers Flat plan kit wire tracks d s drawn =
    let own = own_as_stated layers d.wires (IsWireInMacro plan kit wire tracks d.floorplan) s drawn.wires in
    let banks = banks_as_stated layers plan kit wire tracks d s drawn.bank_wires in (
      λ l. elim l [ inl w ↦ inl (own.0 w) | inr (inl b) ↦ inr (inl (banks.0 b)) | inr (inr leaf) ↦ inr (inr leaf) ],
      λ l. elim l [ inl w ↦ inl (own.1 w) | inr (inl b) ↦ inr (inl (banks.1 b)) | inr (inr leaf) ↦ inr (inr leaf) ],
    )

labels_as_stated : (layers : List Layer) (Flat : List ℕ → PlainLabel → Type 0) (plan : Organization) (kit : LayoutKit) (wire : Wire) (tracks : Tracks) (d : Drawing) (label : PlainLabel) → IsDrawnAs plan kit wire tracks d
    → IsLayoutLabel layers Flat plan kit d label ↔ IsMacroLabel layers Flat plan kit d.bits wire tracks d.floorplan label
labels_as_stated layers Flat plan kit wire tracks d label drawn =
    let own = label_as_stated layers d.labels (IsLabelInMacro plan kit wire tracks d.floorplan) label drawn.labels in (
      λ l. elim l [ inl o ↦ inl (own.0 o) | inr leaf ↦ inr leaf ],
      λ l. elim l [ inl o ↦ inl (own.1 o) | inr leaf ↦ inr leaf ],
    )

pub flat_lists_are_stated : FlatListsAreStated
flat_lists_are_stated layers kit_structs cells structs plan kit n d wire tracks m drawn lists are =
    let layout = flat_lists_are_layout layers kit_structs cells structs plan kit n d m lists are in
    record {
      shapes = λ s.
          let same = shapes_as_stated layers _ plan kit wire tracks d s drawn in
          (λ c. same.0 ((layout.shapes s).0 c), λ i. (layout.shapes s).1 (same.1 i));
      labels = λ label.
          let same = labels_as_stated layers _ plan kit wire tracks d label drawn in
          (λ c. same.0 ((layout.labels label).0 c), λ i. (layout.labels label).1 (same.1 i));
    }
