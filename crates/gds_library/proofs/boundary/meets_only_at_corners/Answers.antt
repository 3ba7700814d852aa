use Rattle.std.proofs.Common.{Ok, Err, IfOk, Result, Bool, ◌≡◌, ◌↔◌, IsTrue, List}
use Rattle.or_geom.specs.declared.shape.Point.{Point}
use Rattle.or_geom.specs.declared.memory.Memory.{Memory}
use Rattle.rectilinear.specs.Simple.{IsSimple}
use Rattle.rectilinear.proofs.SimpleTest.{simple_test, same_simple_test}
use Rattle.gds_library.proofs.boundary.meets_only_at_corners.Goals as goal

tested : (corners : List Point) (r : Result Bool Memory) → IfOk r (λ simple. IsTrue simple ↔ IsSimple corners)
    → IfOk r (λ simple. simple ≡ simple_test corners)
tested corners (Ok b) h = same_simple_test corners b h.0 h.1
tested corners (Err m) h = h

pub returns : goal.returns
returns c = tested c.args.corners.now c.is_simple.result c.is_simple.ensures
