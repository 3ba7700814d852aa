-- The first shape under a label is the one that it binds.
use Rattle.std.proofs.Common.{ℕ, List, Some, None, Option, arith}
use Rattle.std.specs.Prelude.{MatchOption}
use Rattle.or_geom.specs.declared.shape.Shape.{Shape}
use Rattle.shape_bins.specs.declared.query.Query.TheVariants.{At}
use Rattle.shape_bins.specs.Hits.{NoHitFrom, IsFirstHit}
use Rattle.label_binding.specs.declared.anchor.Anchor.{Anchor}
use Rattle.label_binding.specs.Binding.{BindsNone}
use Rattle.label_binding.specs.Bound.{IsBoundAt}
use Rattle.label_binding.proofs.PlaceLaws.{at_contained}

pub bound : (shapes : List Shape) (label : Anchor) (found : Option ℕ) → MatchOption found (NoHitFrom shapes label.layer (At label.at) 0) (IsFirstHit shapes label.layer (At label.at) 0)
    → MatchOption found (BindsNone shapes label) (IsBoundAt shapes label)
bound shapes label None none = λ shape h under. none h.0 (omega arith) (record { shape = shape; there = at_contained shapes shape h; on = under.on; fits = under.holds })
bound shapes label (Some place) f = record {
  shape = f.hit.shape;
  there = f.hit.there;
  under = record { on = f.hit.on; holds = f.hit.fits };
  before = λ earlier other lt there under.
      let le = f.first earlier (omega arith) (record { shape = other; there = there; on = under.on; fits = under.holds }) in
      omega (arith, lt, le);
}
