-- A flat set, one reference after another: what a structure draws itself, and what its items take over.
use Rattle.std.proofs.Common.{◌⊎◌, inl, inr, ℕ, List, [], ◌∷◌}
use Rattle.std.specs.Prelude.{Contains}
use Rattle.or_geom.specs.declared.shape.Shape.{Shape}
use Rattle.gds_library.specs.declared.library.Structure.{Structure}
use Rattle.tech_rules.specs.declared.tech.Layer.{Layer}
use Rattle.element_drawing.specs.PlainLabel.{PlainLabel}
use Rattle.element_drawing.specs.OwnLabels.{own_labels}
use Rattle.cell_chains.specs.Instances.{Item}
use Rattle.cell_chains.specs.Chains.{elements_of}
use Rattle.cell_hierarchy.specs.FlatSet.{IsOwnShape, IsShapeBy, IsFlatShape, IsLabelBy, IsFlatLabel}
use Rattle.cell_hierarchy.specs.Below.{MovesShape, MovesLabel, IsTaken}

-- the first reference of a chain
pub flat_shape_cases : (layers : List Layer) (structs : List Structure) (name : List ℕ) (s : Shape) (chain : List Item) → IsShapeBy layers structs name chain s
    → IsOwnShape layers (elements_of structs name) s ⊎ IsTaken MovesShape (IsFlatShape layers structs) 0 (elements_of structs name) s
flat_shape_cases layers structs name s [] h = inl h
flat_shape_cases layers structs name s (item ∷ items) h = inr (record { item = item; stands = h.0; inner = h.1; is_there = record { chain = items; stands = h.2 }; moved = h.3 })

pub own_is_flat : (layers : List Layer) (structs : List Structure) (name : List ℕ) (s : Shape) → IsOwnShape layers (elements_of structs name) s → IsFlatShape layers structs name s
own_is_flat layers structs name s h = record { chain = []; stands = h }

pub taken_is_flat : (layers : List Layer) (structs : List Structure) (name : List ℕ) (s : Shape) → IsTaken MovesShape (IsFlatShape layers structs) 0 (elements_of structs name) s → IsFlatShape layers structs name s
taken_is_flat layers structs name s t = record { chain = t.item ∷ t.is_there.chain; stands = (t.stands, t.inner, t.is_there.stands, t.moved) }

pub flat_label_cases : (layers : List Layer) (structs : List Structure) (name : List ℕ) (label : PlainLabel) (chain : List Item) → IsLabelBy layers structs name chain label
    → Contains (own_labels layers (elements_of structs name)) label ⊎ IsTaken MovesLabel (IsFlatLabel layers structs) 0 (elements_of structs name) label
flat_label_cases layers structs name label [] h = inl h
flat_label_cases layers structs name label (item ∷ items) h =
    inr (record { item = item; stands = h.0; inner = h.1; is_there = record { chain = items; stands = h.2 }; moved = h.3 })

pub own_label_is_flat : (layers : List Layer) (structs : List Structure) (name : List ℕ) (label : PlainLabel) → Contains (own_labels layers (elements_of structs name)) label → IsFlatLabel layers structs name label
own_label_is_flat layers structs name label h = record { chain = []; stands = h }

pub taken_label_is_flat : (layers : List Layer) (structs : List Structure) (name : List ℕ) (label : PlainLabel) → IsTaken MovesLabel (IsFlatLabel layers structs) 0 (elements_of structs name) label → IsFlatLabel layers structs name label
taken_label_is_flat layers structs name label t = record { chain = t.item ∷ t.is_there.chain; stands = (t.stands, t.inner, t.is_there.stands, t.moved) }
