-- To be on one net is an equivalence of shapes; boxes that overlap share area.
use Rattle.or_geom.specs.declared.shape.Rect.{Rect}
use Rattle.shape_bins.specs.Meets.{Overlap}
use Rattle.tech_rules.specs.Touch.{ShareArea}
use Rattle.net_extractor.proofs.AreaLaws as area
pub use Rattle.net_extractor.proofs.AreaLaws.{shares_overlap}
pub use Rattle.net_extractor.proofs.NetLaws.{net_of_itself, nets_on, net_further, net_back}

pub overlap_shares : (a b : Rect) → Overlap a b → ShareArea a b
overlap_shares a b o = area.overlap_shares a b o.right o.left o.high o.low
