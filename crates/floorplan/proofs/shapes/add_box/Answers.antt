-- A layer and four corners are one shape's.
use Rattle.std.proofs.Common.{refl}
use Rattle.or_geom.proofs.AddsLaws.{adds_one}
use Rattle.wire_drawing.proofs.DrawingLaws.{same_box}
use Rattle.floorplan.proofs.shapes.add_box.Goals as goal

pub returns : goal.returns
returns c = adds_one _ _ _ _ c.in_ok-push.ensures.items (record { on = refl; left = refl; low = refl; right = refl; high = refl }) (λ s is. same_box _ _ _ _ _ s _ is (record { on = refl; left = refl; low = refl; right = refl; high = refl }))
