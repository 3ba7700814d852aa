-- Each wire of a drawn macro stands at the end of a chain that leads through no leaf cell: the macro's own wires in its cell, those of banks in theirs.
use Rattle.std.proofs.Common.{◌≡◌, inl, inr, ◌↔◌, ℕ, suc, ℤ, pos, ◌+ℤ◌, ◌-ℤ◌, ◌*ℤ◌, ◌<ℤ◌, List, [], ◌∷◌, Contains, Some, refl, sym, ap, subst, ◌∙◌, arith}
use Rattle.std.specs.Prelude.{slice_get}
use Rattle.std.proofs.lemmas.Int.{ints, clamps}
use Rattle.or_geom.specs.declared.shape.Rect.{Rect}
use Rattle.or_geom.specs.declared.shape.Shape.{Shape}
use Rattle.or_geom.specs.Place.{placed, IsImage}
use Rattle.gds_library.specs.declared.library.Element.{Element}
use Rattle.gds_library.specs.declared.library.Structure.{Structure}
use Rattle.tech_rules.specs.declared.tech.Layer.{Layer}
use Rattle.tech_rules.specs.declared.tech.Wire.{Wire}
use Rattle.cell_chains.specs.Chains.{elements_of}
use Rattle.cell_hierarchy.specs.FlatSet.{IsOwnShape}
use Rattle.cell_builder.specs.declared.cell.DrawnCell.{DrawnCell}
use Rattle.cell_builder.specs.Flat.{IsOwnWire, IsDrawn}
use Rattle.cell_builder.proofs.FlatLaws.{wire_is_own, wire_as}
use Rattle.sram_netlist.specs.Organization.{Organization, banks_of}
use Rattle.sram_netlist.specs.Nets.{Net}
use Rattle.macro_layout.specs.LayoutKit.{LayoutKit}
use Rattle.macro_layout.specs.Places.{Floorplan, upright}
use Rattle.macro_layout.specs.Floorplan.{Tracks}
use Rattle.macro_layout.specs.Cells.{bank_cell, macro_cell, bank_at}
use Rattle.macro_layout.specs.Layout.{Drawing, DrawsMacro}
use Rattle.macro_layout.specs.Wires.{IsWireInMacro}
use Rattle.macro_layout.specs.Stated.{IsOnFirstLayer, IsWireInBanks, IsWireOfCell}
use Rattle.joined_nets.specs.WireNets.{IsWireOfNet}
use Rattle.joined_nets.proofs.WireNetLaws.{net_of_wire}
use Rattle.contact_nets.specs.Chained.{StandsApart}
use Rattle.contact_nets.proofs.ReferenceLaws.{reference_to, refers_to, made_at}

-- A drawn cell's structure draws its wires.
own_wire : (layers : List Layer) (structs : List Structure) (cell : DrawnCell) → IsDrawn layers structs cell → (s : Shape) → IsOwnWire layers cell.wires s → IsOwnShape layers (elements_of structs cell.name) s
own_wire layers structs cell drawn s is = subst (λ (es : List Element). IsOwnShape layers es s) (sym drawn.is) (wire_is_own layers drawn.sorted s (wire_as layers cell.wires drawn.sorted.wires s drawn.order.wires_same is))

-- a rectangle moved, and left where it is
moved_image : (u v : ℤ) (r s : Rect) → s.x1 ≡ r.x1 +ℤ u → s.y1 ≡ r.y1 +ℤ v → s.x2 ≡ r.x2 +ℤ u → s.y2 ≡ r.y2 +ℤ v → IsImage (placed (upright u v)) r s
moved_image u v r s x1 y1 x2 y2 =
    let wide = r.wide in
    let tall = r.tall in
    record { x1 = x1 ∙ omega (arith, ints, clamps, wide); y1 = y1 ∙ omega (arith, ints, clamps, tall); x2 = x2 ∙ omega (arith, ints, clamps, wide); y2 = y2 ∙ omega (arith, ints, clamps, tall) }

still_image : (r : Rect) → IsImage (λ p. p) r r
still_image r =
    let wide = r.wide in
    let tall = r.tall in
    record { x1 = omega (arith, ints, clamps, wide); y1 = omega (arith, ints, clamps, tall); x2 = omega (arith, ints, clamps, wide); y2 = omega (arith, ints, clamps, tall) }

-- a wire of bank 0 as the bank's cell has it
lowered_wide : (a b d : ℤ) → a <ℤ b → (a +ℤ d) <ℤ (b +ℤ d)
lowered_wide a b d lt = omega (arith, ints, lt)

abbrev lowered : ℤ → Shape → Shape
lowered y s = record {
  layer = s.layer;
  rect = record {
    x1 = s.rect.x1 +ℤ pos 0;
    y1 = s.rect.y1 +ℤ (pos 0 -ℤ y);
    x2 = s.rect.x2 +ℤ pos 0;
    y2 = s.rect.y2 +ℤ (pos 0 -ℤ y);
    wide = lowered_wide s.rect.x1 s.rect.x2 (pos 0) s.rect.wide;
    tall = lowered_wide s.rect.y1 s.rect.y2 (pos 0 -ℤ y) s.rect.tall;
  };
}

right_again : (s a b x : ℤ) → s ≡ a → a ≡ b +ℤ x → s ≡ (b +ℤ pos 0) +ℤ x
right_again s a b x e f = omega (arith, ints, e, f)

up_again : (s a b y : ℤ) → s ≡ a → a ≡ b +ℤ pos 0 → s ≡ (b +ℤ (pos 0 -ℤ y)) +ℤ y
up_again s a b y e f = omega (arith, ints, e, f)

module _ (cells : List (List ℕ)) (layers : List Layer) (structs : List Structure) (plan : Organization) (kit : LayoutKit) (n : List ℕ) (d : Drawing) (draws : DrawsMacro layers structs plan kit n d) (no_macro : Contains cells n → ⊥)
    (no_bank : Contains cells (bank_cell plan kit d.floorplan n d.bank_wires).name → ⊥) (wire : Wire) (tracks : Tracks) (wires : (s : Shape) → Contains d.wires s ↔ IsWireInMacro plan kit wire tracks d.floorplan s)
    (bank_wires : (s : Shape) → Contains d.bank_wires s ↔ IsWireOfCell plan kit wire tracks d.floorplan s) where
  abbrev f : Floorplan
  f = d.floorplan

  own_of_macro : (s : Shape) → IsOnFirstLayer layers (IsWireInMacro plan kit wire tracks f) s → StandsApart layers structs n cells s
  own_of_macro s h = record {
    chain = [];
    stands = record {
      end = n;
      leads = refl;
      inner = s;
      own = own_wire layers structs (macro_cell plan f n d.wires d.labels) draws.macro s (record { wire = h.wire; among = (wires h.wire).1 h.drawn; layer = h.layer; on = h.on; first = h.first; rect = h.rect });
      moved = record { layer = refl; image = still_image s.rect };
    };
    misses = no_macro;
  }

  own_of_bank : (s : Shape) → IsOnFirstLayer layers (IsWireInBanks plan kit wire tracks f) s → StandsApart layers structs n cells s
  own_of_bank s h =
      let w = h.drawn in
      let low = lowered f.write_y w.inner in
      let at : s.rect ≡ h.wire.rect = h.rect in
      record {
        chain = reference_to (suc w.bank) (bank_at plan f n w.bank) ∷ [];
        stands = record {
          end = (bank_cell plan kit f n d.bank_wires).name;
          leads = (refers_to layers structs (macro_cell plan f n d.wires d.labels) draws.macro (suc w.bank) (bank_at plan f n w.bank) (made_at (bank_at plan f n) (banks_of plan) w.bank w.below), refl);
          inner = record { layer = s.layer; rect = low.rect };
          own = own_wire layers structs (bank_cell plan kit f n d.bank_wires) draws.bank (record { layer = s.layer; rect = low.rect }) (record {
            wire = low;
            among = (bank_wires low).1 (record { inner = w.inner; is = w.is; shifted = record { layer = refl; x1 = refl; y1 = refl; x2 = refl; y2 = refl } });
            layer = h.layer;
            on = subst (λ (k : ℕ). slice_get layers k ≡ Some h.layer) w.shifted.layer h.on;
            first = h.first;
            rect = refl;
          });
          moved = record {
            layer = refl;
            image = moved_image (pos w.bank *ℤ f.bank_width) f.write_y low.rect s.rect
                (right_again s.rect.x1 h.wire.rect.x1 w.inner.rect.x1 (pos w.bank *ℤ f.bank_width) (ap (λ (q : Rect). q.x1) at) w.shifted.x1)
                (up_again s.rect.y1 h.wire.rect.y1 w.inner.rect.y1 f.write_y (ap (λ (q : Rect). q.y1) at) w.shifted.y1)
                (right_again s.rect.x2 h.wire.rect.x2 w.inner.rect.x2 (pos w.bank *ℤ f.bank_width) (ap (λ (q : Rect). q.x2) at) w.shifted.x2)
                (up_again s.rect.y2 h.wire.rect.y2 w.inner.rect.y2 f.write_y (ap (λ (q : Rect). q.y2) at) w.shifted.y2);
          };
        };
        misses = (no_macro, no_bank);
      }

  on_first : (P Q : Shape → Type 0) (s : Shape) → (h : IsOnFirstLayer layers P s) → Q h.wire → IsOnFirstLayer layers Q s
  on_first P Q s h q = record { wire = h.wire; drawn = q; layer = h.layer; on = h.on; first = h.first; rect = h.rect }

  -- Each wire of a net stands at the end of such a chain.
  pub wires_stand : (net : Net) (s : Shape) → IsOnFirstLayer layers (IsWireOfNet plan kit wire tracks f net) s → StandsApart layers structs n cells s
  wires_stand net s h = elim (net_of_wire plan kit wire tracks f net h.wire h.drawn) [
    | inl macro ↦ own_of_macro s (on_first (IsWireOfNet plan kit wire tracks f net) (IsWireInMacro plan kit wire tracks f) s h macro)
    | inr bank ↦ own_of_bank s (on_first (IsWireOfNet plan kit wire tracks f net) (IsWireInBanks plan kit wire tracks f) s h bank)
  ]
