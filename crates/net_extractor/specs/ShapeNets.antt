-- The nets of shapes as numbers.
use Rattle.std.specs.Prelude.{◌≡◌, ◌↔◌, ℕ, List, length, map, slice_get, Some}
use Rattle.or_geom.specs.declared.shape.Shape.{Shape}
use Rattle.tech_rules.specs.declared.tech.Connect.{Connect}
use Rattle.tech_rules.specs.Net.{AreOnOneNet}
use Rattle.net_extractor.specs.FirstAppearance.{AreNumberedInOrder}

-- Under these connections: a number for each shape, in order. Two are equal exactly where the shapes are on one net, and
-- they run from 0 by first appearance.
pub record AreShapeNets (connections : List Connect) (shapes : List Shape) (nets : List ℕ) : Type 0 where
  pub sized : length nets ≡ length shapes
  pub one : (i j m n : ℕ) (s t : Shape) → slice_get shapes i ≡ Some s → slice_get shapes j ≡ Some t → slice_get nets i ≡ Some m → slice_get nets j ≡ Some n → (m ≡ n) ↔ AreOnOneNet connections shapes s t
  pub numbered : AreNumberedInOrder (map (λ (net : ℕ). Some net) nets)
