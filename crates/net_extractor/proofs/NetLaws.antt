-- To be on one net is an equivalence of shapes.
use Rattle.std.proofs.Common.{List}
use Rattle.std.specs.Prelude.{Contains}
use Rattle.or_geom.specs.declared.shape.Shape.{Shape}
use Rattle.tech_rules.specs.declared.tech.Connect.{Connect}
use Rattle.tech_rules.specs.Touch.{Touch}
use Rattle.tech_rules.specs.Net.{AreOnOneNet}
use Rattle.tech_rules.proofs.LinkedLaws.{linked_itself, linked_on, linked_further, linked_back}
use Rattle.net_extractor.proofs.ExtractLaws.{touch_turned}

pub net_of_itself : (connections : List Connect) (shapes : List Shape) (s : Shape) → AreOnOneNet connections shapes s s
net_of_itself connections shapes s = linked_itself (Contains shapes) (Touch connections) s

pub nets_on : (connections : List Connect) (shapes : List Shape) (a b c : Shape) → AreOnOneNet connections shapes a b → AreOnOneNet connections shapes b c → AreOnOneNet connections shapes a c
nets_on connections shapes a b c one two = linked_on (Contains shapes) (Touch connections) a b c one two

-- one more shape that touches the last
pub net_further : (connections : List Connect) (shapes : List Shape) (a b c : Shape) → AreOnOneNet connections shapes a b → Contains shapes c → Touch connections b c → AreOnOneNet connections shapes a c
net_further connections shapes a b c net listed touch = linked_further (Contains shapes) (Touch connections) a b c net listed touch

pub net_back : (connections : List Connect) (shapes : List Shape) (a b : Shape) → Contains shapes a → AreOnOneNet connections shapes a b → AreOnOneNet connections shapes b a
net_back connections shapes a b listed net = linked_back (Contains shapes) (Touch connections) (touch_turned connections) a b listed net
