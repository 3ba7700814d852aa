-- The library and the subcircuits of the demonstration kit can be written.
use Rattle.std.proofs.Common.{◌≡◌, ℕ, ◌+◌, ◌≤◌, List, [], ◌∷◌, map, true, refl, sym, ap, subst, arith}
use Rattle.gds_library.specs.declared.library.Structure.{Structure}
use Rattle.gds_library.specs.Writable.{IsWritableElement, IsWritableCell, IsWritable}
use Rattle.spice_text.specs.Writable.{Differ, AreWritable}
use Rattle.spice_text.proofs.TestLaws.{writables_decided, differ_decided}
use Rattle.cell_roles.specs.declared.role.Role.{Role}
use Rattle.cell_roles.specs.Roles.{all_roles}
use Rattle.demo_kit.specs.declared.drawing.CellBox.{CellBox}
use Rattle.demo_kit.specs.CellNames.{demo_cell_name}
use Rattle.demo_kit.specs.Drawing.{DrawnPin}
use Rattle.demo_kit.specs.Layout.{box_boundary, pin_label, cell_structure, demo_library}
use Rattle.demo_kit.specs.Subcircuits.{demo_subckts}
use Rattle.demo_kit.proofs.RingLaws.{ring_writable}
use Rattle.demo_kit.proofs.NameLaws.{is_short_name, both_true, short_name_text, pairs_apart}
use Rattle.demo_kit.proofs.BoxLaws.{is_proper, is_proper_pin, proper_is, scaled_rect, scaled_short, all_mapped, all_elements}

boundary_writable : (scale : ℕ) → 1 ≤ scale → scale ≤ 4 → (b : CellBox) → is_proper b ≡ true
    → IsWritableElement (box_boundary scale b)
boundary_writable scale some few b e =
    let h = proper_is b e in
    let wide = h.wide in
    let tall = h.tall in
    let right = h.right in
    let high = h.high in
    let low_corner = scaled_short scale b.x1 b.y1 few (omega arith) (omega arith) in
    let high_corner = scaled_short scale b.x2 b.y2 few (omega arith) (omega arith) in
    record { body = ring_writable (scaled_rect scale some b h) low_corner high_corner; props = tt }

label_writable : (scale : ℕ) → scale ≤ 4 → (p : DrawnPin) → is_proper_pin p ≡ true → IsWritableElement (pin_label scale p)
label_writable scale few p e =
    let parts = both_true (is_proper p.shape) (is_short_name p.name) e in
    let h = proper_is p.shape parts.0 in
    let wide = h.wide in
    let tall = h.tall in
    let right = h.right in
    let high = h.high in
    let corner = scaled_short scale (p.shape.x1 + 2) (p.shape.y1 + 2) few (omega arith) (omega arith) in
    record { body = record { text = short_name_text p.name parts.1; short = corner }; props = tt }

cell_writable : (scale : ℕ) → 1 ≤ scale → scale ≤ 4 → (role : Role) → is_short_name (demo_cell_name role) ≡ true
    → IsWritableCell (cell_structure scale role)
unfolding cell_structure
cell_writable scale some few role e = record {
  name = short_name_text (demo_cell_name role) e;
  elements = all_elements IsWritableElement scale (boundary_writable scale some few) (label_writable scale few) role;
}

names_differ : Differ (map demo_cell_name all_roles)
names_differ = (differ_decided (map demo_cell_name all_roles)).0 refl

structure_names : (scale : ℕ) (roles : List Role)
    → map (λ (s : Structure). s.name) (map (cell_structure scale) roles) ≡ map demo_cell_name roles
unfolding cell_structure
structure_names scale [] = refl
structure_names scale (role ∷ roles) =
    ap (λ (names : List (List ℕ)). demo_cell_name role ∷ names) (structure_names scale roles)

pub library_writable : (scale : ℕ) → 1 ≤ scale → scale ≤ 4 → IsWritable (demo_library scale)
unfolding demo_library
library_writable scale some few = record {
  name = short_name_text (demo_library scale).name refl;
  names =
      pairs_apart (λ (s : Structure). s.name) (map (cell_structure scale) all_roles)
      (subst Differ (sym (structure_names scale all_roles)) names_differ);
  cells =
      all_mapped (λ role. is_short_name (demo_cell_name role)) IsWritableCell (cell_structure scale)
      (cell_writable scale some few) all_roles refl;
}

pub subckts_writable : AreWritable demo_subckts
unfolding demo_subckts
subckts_writable = (writables_decided demo_subckts).0 refl
