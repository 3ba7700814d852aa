use Rattle.std.specs.Prelude.{ℕ}
use Rattle.or_geom.proofs.GatheringLaws.{IsAmongLeft}
use Rattle.shape_bins.specs.Layers.{IsCoveredBy}
use Rattle.tile_checker.proofs.enclose.is_enclosed.Given as goal

abbrev pub invariant-loop-layer : goal.invariant-loop-layer
invariant-loop-layer l = IsAmongLeft (λ (layer : ℕ). IsCoveredBy layer l.bins l.fn.area) l.layers l.layer-index
