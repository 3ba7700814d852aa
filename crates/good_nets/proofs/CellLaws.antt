-- A cell's shapes, as they stand at a place, are on one net where they are in the cell.
use Rattle.std.proofs.Common.{List, [], ◌∷◌, Contains, refl, subst}
use Rattle.or_geom.specs.declared.shape.Shape.{Shape}
use Rattle.or_geom.specs.declared.place.Place.{Place}
use Rattle.or_geom.specs.Place.{placed, low_corner, high_corner}
use Rattle.or_geom.proofs.PlaceLaws.{corners_differ}
use Rattle.tech_rules.specs.declared.tech.Connect.{Connect}
use Rattle.tech_rules.specs.Touch.{Touch}
use Rattle.tech_rules.specs.Net.{AreOnOneNet}
use Rattle.tech_rules.specs.Linked.{LeadsBy}
use Rattle.tech_rules.proofs.LinkedLaws.{linked_on, linked_next}
use Rattle.cell_hierarchy.specs.FlatSet.{IsMoved}
use Rattle.cell_hierarchy.proofs.ComposeLaws.{has_between}
use Rattle.good_nets.specs.Ports.{IsPlain}
pub use Rattle.cell_hierarchy.proofs.MovedLaws.{moved_once}
use Rattle.good_nets.proofs.MovedLaws.{touch_moved}
use Rattle.good_nets.proofs.NetLaws.{net_of_itself}

-- a shape has an image at a place
pub has_image : (place : Place) (inner : Shape) → (s : Shape) × IsMoved place inner s
has_image place inner =
    let differ = corners_differ place inner.rect in
    let box = has_between (placed place (low_corner inner.rect)) (placed place (high_corner inner.rect)) differ.0 differ.1 in
    (record { layer = inner.layer; rect = box.rect }, record { layer = refl; image = box.is })

-- the images of a cell's shapes are among the shapes
abbrev pub StandsAt : List Shape → Place → List Shape → Type 0
StandsAt inner place shapes = (x s : Shape) → Contains inner x → IsMoved place x s → Contains shapes s

leads_moved : (connections : List Connect) (inner shapes : List Shape) (place : Place) → IsPlain place → StandsAt inner place shapes → (a b c d : Shape) (path : List Shape) → IsMoved place a c → IsMoved place b d → LeadsBy (Contains inner) (Touch connections) a path b
    → AreOnOneNet connections shapes c d
leads_moved connections inner shapes place plain stands a b c d [] at_c at_d leads =
    let same = moved_once place b c d (subst (λ (x : Shape). IsMoved place x c) leads at_c) at_d in
    subst (AreOnOneNet connections shapes c) same (net_of_itself connections shapes c)
leads_moved connections inner shapes place plain stands a b c d (next ∷ rest) at_c at_d leads =
    let image = has_image place next in
    linked_on (Contains shapes) (Touch connections) c image.0 d
    (linked_next (Contains shapes) (Touch connections) c image.0 (stands next image.0 leads.0 image.1) ((touch_moved connections place a next c image.0 plain at_c image.1).0 leads.1))
    (leads_moved connections inner shapes place plain stands next b image.0 d rest image.1 at_d leads.2)

-- What is on one net in the cell is so where the cell stands.
pub net_moved : (connections : List Connect) (inner shapes : List Shape) (place : Place) → IsPlain place → StandsAt inner place shapes → (a b c d : Shape) → IsMoved place a c → IsMoved place b d → AreOnOneNet connections inner a b → AreOnOneNet connections shapes c d
net_moved connections inner shapes place plain stands a b c d at_c at_d net = leads_moved connections inner shapes place plain stands a b c d net.path at_c at_d net.leads
