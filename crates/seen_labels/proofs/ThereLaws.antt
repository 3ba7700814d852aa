-- What lies under a label of an instance's stand-in in the small memory.
use Rattle.std.proofs.Common.{◌≡◌, ℕ, ℤ, ◌+ℤ◌, ◌≤ℤ◌, List, Contains, sym, subst, ◌∙◌, arith}
use Rattle.std.proofs.lemmas.Int.{by_lt_z, ints}
use Rattle.or_geom.specs.declared.shape.Point.{Point}
use Rattle.or_geom.specs.declared.shape.Rect.{Rect}
use Rattle.or_geom.specs.declared.shape.Shape.{Shape}
use Rattle.or_geom.specs.declared.place.Place.{Place}
use Rattle.or_geom.specs.Joined.{IsIn}
use Rattle.or_geom.specs.Place.{placed}
use Rattle.cell_roles.specs.Roles.{role_ports}
use Rattle.tech_rules.specs.declared.tech.Connect.{Connect}
use Rattle.tech_rules.specs.Net.{AreOnOneNet}
use Rattle.tech_rules.specs.Touch.{IsConductor}
use Rattle.tech_rules.proofs.LinkedLaws.{linked_next}
use Rattle.tech_rules.specs.Touch.{Touch}
use Rattle.element_drawing.specs.PlainLabel.{PlainLabel}
use Rattle.cell_hierarchy.specs.Plain.{FlatLists}
use Rattle.cell_hierarchy.specs.FlatSet.{IsMoved}
use Rattle.label_binding.specs.declared.anchor.Anchor.{Anchor}
use Rattle.label_binding.specs.Binding.{Binds}
use Rattle.label_binding.specs.BoundPlaces.{label_anchor}
use Rattle.label_binding.proofs.OneBindingLaws.{binds_some}
use Rattle.leaf_shapes.specs.Candidates.{IsLabelOfPin}
use Rattle.local_report.specs.Moved as moved
use Rattle.good_places.specs.Beside.{moved_place}
use Rattle.good_places.proofs.MoveLaws.{moved_taken}
use Rattle.good_nets.specs.Parts.{IsShapeOf, StandsIn}
use Rattle.good_nets.proofs.NetLaws.{net_back, net_further}
use Rattle.sram_netlist.specs.Nets.{Net}
use Rattle.sram_netlist.specs.Netlist.{role}
use Rattle.kit_nets.specs.StatedParts.{Source, Standing, leaf_lists, stated_parts, DoLabelsStay}
use Rattle.seen_labels.proofs.PointLaws.{begins_first, touch_west, touch_east}

-- a point, so much further right and up
abbrev pub further : ℤ → ℤ → Point → Point
further dx dy p = record { x = p.x +ℤ dx; y = p.y +ℤ dy }

pub held_further : (dx dy : ℤ) (r m : Rect) (p : Point) → moved.IsMovedBy dx dy r m → IsIn r p → IsIn m (further dx dy p)
held_further dx dy r m p at is = record {
  left = let x = at.x1 in let y = is.left in omega (arith, ints, x, y);
  right = let x = at.x2 in let y = is.right in omega (arith, ints, x, y);
  low = let x = at.y1 in let y = is.low in omega (arith, ints, x, y);
  high = let x = at.y2 in let y = is.high in omega (arith, ints, x, y);
}

-- an instance's shape, moved, is one of its stand-in
pub shape_there : (connections : List Connect) (s w : Source) (f : Net → Net) (dx dy : ℤ) (i : Standing s) (one : Standing w) → StandsIn (stated_parts s) (stated_parts w) f dx dy i one → one.place ≡ moved_place dx dy i.place
    → (x a m : Shape) → IsShapeOf connections (stated_parts s) i x a → m.layer ≡ a.layer → moved.IsMovedBy dx dy a.rect m.rect → IsShapeOf connections (stated_parts w) one x m
shape_there connections s w f dx dy i one is at x a m of layer shifted = record {
  listed = subst (λ (xs : List Shape). Contains xs x) (sym is.cell) of.listed;
  moved = subst (λ (p : Place). IsMoved p x m) (sym at) (moved_taken dx dy i.place x a m of.moved layer shifted);
}

-- A label of a pin, which binds a shape on a conductor, that begins at the label's point as the instance stands: then whatever lies under it on the
-- layer is on one net with the shape, where labels stay.
pub under_label : (connections : List Connect) (w : Source) (flat : FlatLists) → DoLabelsStay connections w flat → (j : Standing w) (pin : List ℕ) (label : PlainLabel) (inner shape v : Shape) (p : Point)
    → Contains (role_ports (role w.plan j.leaf)) pin → Contains (leaf_lists w j.leaf).labels label → IsLabelOfPin pin label → Binds (leaf_lists w j.leaf).shapes (label_anchor label) inner → IsMoved j.place inner shape
    → placed j.place label.at ≡ p → IsConductor connections shape.layer → Contains flat.shapes shape → IsIn shape.rect p → p.x ≤ℤ shape.rect.x1 → Contains flat.shapes v → v.layer ≡ shape.layer → IsIn v.rect p → AreOnOneNet connections flat.shapes shape v
under_label connections w flat stays j pin label inner shape v p has listed of binds moved at conductor there holds begins among same held =
    by_lt_z v.rect.x1 p.x
    (λ west.
    let first = begins_first flat.shapes anchor some.0 v some.1 among (record { on = same ∙ on; holds = held }) in
    let touch = touch_west connections some.0 v p (some.1.under.on ∙ sym (same ∙ on)) (subst (IsConductor connections) (on ∙ sym some.1.under.on) conductor) some.1.under.holds held (omega (arith, ints, first, west)) west in
    net_further connections flat.shapes shape some.0 v (net_back connections flat.shapes some.0 shape some.1.listed stay) among touch)
    (λ from. linked_next (Contains flat.shapes) (Touch connections) shape v among (touch_east connections shape v p (sym same) conductor holds held begins from))
  where
    anchor : Anchor
    anchor = record { layer = label.layer; at = p }

    on : shape.layer ≡ label.layer
    on = moved.layer ∙ binds.under.on

    some : (u : Shape) × Binds flat.shapes anchor u
    some = binds_some flat.shapes anchor (λ none. none shape there (record { on = on; holds = holds }))

    stay : AreOnOneNet connections flat.shapes some.0 shape
    stay = stays j pin label inner shape some.0 has listed of binds moved there (subst (λ (q : Point). Binds flat.shapes (record { layer = label.layer; at = q }) some.0) (sym at) some.1)
