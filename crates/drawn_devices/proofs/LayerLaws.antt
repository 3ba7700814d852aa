-- Which layers are active, and which cells lie on a layer.
use Rattle.std.proofs.Common.{◌≡◌, ◌⊎◌, inl, inr, ℕ, List, [], ◌∷◌}
use Rattle.std.specs.Prelude.{Contains}
use Rattle.std.proofs.lemmas.Bool.{cases_eq}
use Rattle.or_geom.specs.declared.shape.Point.{Point}
use Rattle.or_geom.specs.declared.shape.Shape.{Shape}
use Rattle.or_geom.specs.Covered.{HasCell}
use Rattle.or_geom.proofs.CoverLaws.{cell_among}
use Rattle.shape_bins.specs.Layers.{rects_on}
use Rattle.shape_bins.proofs.CoverLaws.{on_rects}
use Rattle.tech_rules.specs.declared.tech.Device.{Device}
use Rattle.drawn_devices.specs.Cells.{LiesOn}
use Rattle.drawn_devices.specs.Diffusion.{IsActive}

-- a cell of a shape lies on its layer
pub lies_by : (shapes : List Shape) (layer : ℕ) (cell : Point) (s : Shape) → Contains shapes s → s.layer ≡ layer → HasCell s.rect cell.x cell.y → LiesOn shapes layer cell
lies_by shapes layer cell s listed on has = cell_among (rects_on layer shapes) s.rect cell.x cell.y (on_rects layer shapes s listed on) has

-- a layer is active, or it isn't
pub decide_active : (devices : List Device) (layer : ℕ) → IsActive devices layer ⊎ (IsActive devices layer → ⊥)
decide_active [] layer = inr (λ h. h)
decide_active (d ∷ ds) layer = elim (cases_eq d.active layer) [
  | inl here ↦ inl (inl here)
  | inr off ↦ elim (decide_active ds layer) [ inl there ↦ inl (inr there) | inr none ↦ inr (λ h. elim h [ inl here ↦ off here | inr there ↦ none there ]) ]
]
