-- When two shapes are on one net.
use Rattle.std.specs.Prelude.{List, Contains}
use Rattle.or_geom.specs.declared.shape.Shape.{Shape}
use Rattle.tech_rules.specs.declared.tech.Connect.{Connect}
use Rattle.tech_rules.specs.Linked.{AreLinked}
use Rattle.tech_rules.specs.Touch.{Touch}

-- under these connections, some finite list of the shapes leads from one to the other, each touching the next
abbrev pub AreOnOneNet : List Connect → List Shape → Shape → Shape → Type 0
AreOnOneNet connections shapes a b = AreLinked (Contains shapes) (Touch connections) a b
