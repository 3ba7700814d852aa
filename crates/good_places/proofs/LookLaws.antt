-- Layers of leaf shapes look alike where the instances that a rule reaches stand alike.
use Rattle.std.proofs.Common.{◌≡◌, inl, inr, ◌∙◌, ℕ, ℤ, pos, ◌+ℤ◌, List, sym, subst}
use Rattle.std.specs.Prelude.{Contains}
use Rattle.or_geom.specs.declared.shape.Rect.{Rect}
use Rattle.or_geom.specs.declared.shape.Shape.{Shape}
use Rattle.or_geom.specs.declared.place.Place.{Place}
use Rattle.shape_bins.specs.Meets.{Overlap}
use Rattle.cell_hierarchy.specs.FlatSet.{IsMoved}
use Rattle.cell_builder.specs.Flat.{IsShapeTaken}
use Rattle.sram_netlist.specs.Organization.{Organization}
use Rattle.sram_netlist.specs.Instances.{LeafInstance}
use Rattle.sram_netlist.specs.Membership.{HasLeafInstance}
use Rattle.cell_roles.specs.declared.role.Role.{Role}
use Rattle.sram_netlist.specs.Netlist.{role}
use Rattle.sram_netlist.specs.BitCells.{BitCells}
use Rattle.macro_layout.specs.LayoutKit.{LayoutKit}
use Rattle.macro_layout.specs.Places.{Floorplan, IsPlaceOf, leaf_cell}
use Rattle.macro_layout.specs.Layout.{IsOfLeaf}
use Rattle.local_report.specs.Moved as local
use Rattle.local_report.specs.Moved.{OverlapsMoved}
use Rattle.local_report.specs.Seen.{HasPartner}
use Rattle.local_report.specs.Alike.{LookAlike, HasImage}
use Rattle.good_places.specs.Beside.{StandsMoved, moved_place}
use Rattle.good_places.specs.Leaves.{HasLeavesOn, HasLeavesAndWires}
use Rattle.good_places.proofs.MoveLaws.{moved_shape, moved_taken, moved_alike, back_alike}

-- an instance's shape stands, moved, among those of the other memory
pub record HasMovedShape (Flat : List ℕ → Shape → Type 0) (plan : Organization) (kit : LayoutKit) (bits : BitCells) (f : Floorplan) (dx dy : ℤ) (s : Shape) : Type 0 where
  pub moved : (m : Shape) × (m.layer ≡ s.layer) × local.IsMovedBy dx dy s.rect m.rect
  pub of : IsOfLeaf plan kit bits f IsShapeTaken Flat moved.0

pub shape_moves : (Flat : List ℕ → Shape → Type 0) (plan : Organization) (kit : LayoutKit) (bits : BitCells) (f : Floorplan) (dx dy : ℤ) (plays : Role) (cell : List ℕ) (place : Place) (inner s : Shape) → StandsMoved plan kit bits f dx dy plays cell place → Flat cell inner → IsMoved place inner s
    → HasMovedShape Flat plan kit bits f dx dy s
shape_moves Flat plan kit bits f dx dy plays cell place inner s stands flat at =
    let m = moved_shape dx dy s in
    record {
      moved = m;
      of = record {
        leaf = stands.leaf;
        has = stands.has;
        place = moved_place dx dy place;
        stands = stands.stands;
        taken = record { inner = inner; has = subst (λ (c : List ℕ). Flat c inner) (sym stands.alike) flat; moved = moved_taken dx dy place inner s m.0 at m.1 m.2 };
      };
    }

-- which instances of a memory a rule reaches: each of which a shape overlaps the frame
abbrev pub AreFelt : (List ℕ → Shape → Type 0) → Organization → LayoutKit → BitCells → Floorplan → (Rect → Type 0) → (LeafInstance → Place → Type 0) → Type 0
AreFelt Flat plan kit bits f Over Felt = (leaf : LeafInstance) (place : Place) (inner s : Shape) → HasLeafInstance plan leaf → IsPlaceOf plan kit f leaf place → Flat (leaf_cell plan kit bits leaf) inner → IsMoved place inner s → Over s.rect → Felt leaf place

-- and each of these stands, so much further right and up, in the other memory
abbrev pub AllMove : Organization → Floorplan → Organization → Floorplan → LayoutKit → BitCells → ℤ → ℤ → (LeafInstance → Place → Type 0) → Type 0
AllMove other g plan f kit bits dx dy Felt = (leaf : LeafInstance) (place : Place) → HasLeafInstance other leaf → IsPlaceOf other kit g leaf place → Felt leaf place → StandsMoved plan kit bits f dx dy (role other leaf) (leaf_cell other kit bits leaf) place

pub look_alike : (Flat : List ℕ → Shape → Type 0) (plan other : Organization) (kit : LayoutKit) (bits : BitCells) (f g : Floorplan) (layer : ℕ) (frame : Rect) (dx dy ex ey : ℤ) (from to : List Shape) (There Here : LeafInstance → Place → Type 0)
    → dx +ℤ ex ≡ pos 0 → dy +ℤ ey ≡ pos 0 → HasLeavesOn layer Flat other kit bits g from → HasLeavesOn layer Flat plan kit bits f to
    → AreFelt Flat other kit bits g (OverlapsMoved frame dx dy) There → AreFelt Flat plan kit bits f (λ r. Overlap r frame) Here
    → AllMove other g plan f kit bits dx dy There → AllMove plan f other g kit bits ex ey Here → LookAlike layer frame dx dy from to
look_alike Flat plan other kit bits f g layer frame dx dy ex ey from to There Here zx zy has_from has_to felt_there felt_here move_there move_here = record {
  there = λ b listed on over.
      let o = (has_from b on).0 listed in
      let stands = move_there o.leaf o.place o.has o.stands (felt_there o.leaf o.place o.taken.inner b o.has o.stands o.taken.has o.taken.moved over) in
      let m = shape_moves Flat plan kit bits f dx dy (role other o.leaf) (leaf_cell other kit bits o.leaf) o.place o.taken.inner b stands o.taken.has o.taken.moved in
      record { image = m.moved.0; there = (has_to m.moved.0 (m.moved.1 ∙ on)).1 m.of; layer = m.moved.1; alike = moved_alike frame dx dy b.rect m.moved.0.rect m.moved.2 };
  back = λ b listed on over.
      let o = (has_to b on).0 listed in
      let stands = move_here o.leaf o.place o.has o.stands (felt_here o.leaf o.place o.taken.inner b o.has o.stands o.taken.has o.taken.moved over) in
      let m = shape_moves Flat other kit bits g ex ey (role plan o.leaf) (leaf_cell plan kit bits o.leaf) o.place o.taken.inner b stands o.taken.has o.taken.moved in
      record { partner = m.moved.0; there = (has_from m.moved.0 (m.moved.1 ∙ on)).1 m.of; layer = m.moved.1; alike = back_alike frame dx dy ex ey b.rect m.moved.0.rect zx zy m.moved.2 };
}

-- the same where wires stand on the layer too, if those that reach into the frame have images

pub look_alike_with : (Flat : List ℕ → Shape → Type 0) (plan other : Organization) (kit : LayoutKit) (bits : BitCells) (f g : Floorplan) (layer : ℕ) (frame : Rect) (dx dy ex ey : ℤ) (from to : List Shape) (There Here : LeafInstance → Place → Type 0) (WireThere WireHere : Shape → Type 0)
    → dx +ℤ ex ≡ pos 0 → dy +ℤ ey ≡ pos 0 → HasLeavesAndWires layer Flat other kit bits g WireThere from → HasLeavesAndWires layer Flat plan kit bits f WireHere to
    → ((b : Shape) → WireThere b → b.layer ≡ layer → OverlapsMoved frame dx dy b.rect → HasImage frame dx dy to b) → ((b : Shape) → WireHere b → b.layer ≡ layer → Overlap b.rect frame → HasPartner frame dx dy from b)
    → AreFelt Flat other kit bits g (OverlapsMoved frame dx dy) There → AreFelt Flat plan kit bits f (λ r. Overlap r frame) Here
    → AllMove other g plan f kit bits dx dy There → AllMove plan f other g kit bits ex ey Here → LookAlike layer frame dx dy from to
look_alike_with Flat plan other kit bits f g layer frame dx dy ex ey from to There Here WireThere WireHere zx zy has_from has_to wires_there wires_here felt_there felt_here move_there move_here = record { there = there; back = back } where
  there : (b : Shape) → Contains from b → b.layer ≡ layer → OverlapsMoved frame dx dy b.rect → HasImage frame dx dy to b
  there b listed on over = elim ((has_from b on).0 listed) [
    | inl wire ↦ wires_there b wire on over
    | inr o ↦
        let stands = move_there o.leaf o.place o.has o.stands (felt_there o.leaf o.place o.taken.inner b o.has o.stands o.taken.has o.taken.moved over) in
        let m = shape_moves Flat plan kit bits f dx dy (role other o.leaf) (leaf_cell other kit bits o.leaf) o.place o.taken.inner b stands o.taken.has o.taken.moved in
        record { image = m.moved.0; there = (has_to m.moved.0 (m.moved.1 ∙ on)).1 (inr m.of); layer = m.moved.1; alike = moved_alike frame dx dy b.rect m.moved.0.rect m.moved.2 }
  ]

  back : (b : Shape) → Contains to b → b.layer ≡ layer → Overlap b.rect frame → HasPartner frame dx dy from b
  back b listed on over = elim ((has_to b on).0 listed) [
    | inl wire ↦ wires_here b wire on over
    | inr o ↦
        let stands = move_here o.leaf o.place o.has o.stands (felt_here o.leaf o.place o.taken.inner b o.has o.stands o.taken.has o.taken.moved over) in
        let m = shape_moves Flat other kit bits g ex ey (role plan o.leaf) (leaf_cell plan kit bits o.leaf) o.place o.taken.inner b stands o.taken.has o.taken.moved in
        record { partner = m.moved.0; there = (has_from m.moved.0 (m.moved.1 ∙ on)).1 (inr m.of); layer = m.moved.1; alike = back_alike frame dx dy ex ey b.rect m.moved.0.rect zx zy m.moved.2 }
  ]
