-- The cut shapes of a cell with the numbers of their nets.
use Rattle.std.specs.Prelude.{ℕ, List}
use Rattle.or_geom.specs.declared.shape.Shape.{Shape}
use Rattle.tech_rules.specs.declared.tech.Connect.{Connect}
use Rattle.tech_rules.specs.declared.tech.Tech.{Tech}
use Rattle.net_extractor.specs.ShapeNets.{AreShapeNets}
use Rattle.drawn_devices.specs.declared.cut_cell.CutCell.{CutCell}
use Rattle.drawn_devices.specs.CutShapes.{AreCutShapes, AreCutConnections}

-- the cut shapes, and the numbers of their nets under connections that stand for the technology's
pub record AreCutAndNumbered (tech : Tech) (shapes cut : List Shape) (nets : List ℕ) : Type 0 where
  pub are : AreCutShapes tech.devices shapes cut
  pub connections : List Connect
  pub by : AreCutConnections tech connections
  pub numbered : AreShapeNets connections cut nets

abbrev pub IsCutCell : CutCell → Type 0
IsCutCell cell = AreCutAndNumbered cell.tech.now cell.shapes.now cell.bins cell.nets
