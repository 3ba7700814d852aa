-- How entries are made one by one.
use Rattle.std.specs.Prelude.{◌≡◌, ℕ, List, Option, Some, None}
use Rattle.or_geom.specs.declared.shape.Shape.{Shape}
use Rattle.element_drawing.specs.PlainLabel.{PlainLabel}
use Rattle.label_binding.specs.declared.anchor.Anchor.{Anchor}
use Rattle.net_extractor.specs.PlainNetLabel.{PlainNetLabel}
use Rattle.net_extractor.specs.declared.numbering.Numbering.{Numbering}
use Rattle.label_binding.specs.Binding.{BindsNone}
use Rattle.label_binding.specs.Bound.{IsBoundAt}
use Rattle.net_extractor.specs.Numbering.{IsNumberAt}

-- the label with its net
abbrev pub entry : PlainLabel → Option ℕ → PlainNetLabel
entry label net = record { path = label.path; name = label.name; layer = label.layer; at = label.at; net = net }

-- the label binds no shape, and the numbers stay
pub record IsUnbound (shapes : List Shape) (label : Anchor) (old new : Numbering) : Type 0 where
  pub none : BindsNone shapes label
  pub same : new ≡ old

-- the label binds the shape at a place, which has the number
pub record IsNumbered (shapes : List Shape) (label : Anchor) (old : Numbering) (number : ℕ) (new : Numbering) : Type 0 where
  pub place : ℕ
  pub bound : IsBoundAt shapes label place
  pub number_at : IsNumberAt old place number new

abbrev pub IsNetOf : List Shape → Anchor → Numbering → Option ℕ → Numbering → Type 0
IsNetOf shapes label old None new = IsUnbound shapes label old new
IsNetOf shapes label old (Some number) new = IsNumbered shapes label old number new
