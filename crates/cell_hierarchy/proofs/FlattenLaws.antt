-- The flat layout put together.
use Rattle.std.proofs.Common.{◌≡◌, ◌⊎◌, inl, inr, ℕ, Bool, true, false, List, [], ◌∷◌, map, subst, refl}
use Rattle.std.specs.Prelude.{Contains, IfOk, IfErr, Result, Ok, Err}
use Rattle.or_geom.specs.declared.shape.Point.{Point}
use Rattle.or_geom.proofs.ListLaws.{contains_first}
use Rattle.gds_library.specs.declared.library.Structure.{Structure}
use Rattle.tech_rules.specs.declared.tech.Layer.{Layer}
use Rattle.element_drawing.specs.PlainLabel.{PlainLabel}
use Rattle.cell_chains.specs.Chains.{IsSound}
use Rattle.cell_hierarchy.specs.Plain.{plain_label, lists_of}
use Rattle.cell_hierarchy.specs.declared.gathered.Gathered.{Gathered}
use Rattle.cell_hierarchy.specs.declared.flat.Flat.{Flat}
use Rattle.cell_hierarchy.specs.declared.flat.Label.{Label}
use Rattle.cell_hierarchy.specs.declared.fault.FlattenFault.{FlattenFault}
use Rattle.cell_hierarchy.specs.declared.fault.FlattenFault.TheVariants as flatten_fault
use Rattle.cell_hierarchy.specs.FlatSet.{IsFar, IsCornerOfFlat, IsPointOfLabel}
use Rattle.cell_hierarchy.specs.FlatLists.{AreFlatShapes, AreFlatLists, IsFault, HasFew}
use Rattle.cell_hierarchy.specs.Far.{IsFarIn}
use Rattle.cell_hierarchy.specs.Settled.{IsTopDrawing, IsFlatOf, IsFarFault, IsFlatKept}

-- far points of what was gathered are those of the flat set
is_far : (layers : List Layer) (kept : Bool) (structs : List Structure) (top : List ℕ) (gathered : Gathered) → IsTopDrawing layers kept structs top gathered → (p : Point) → IsFarIn gathered.shapes.items gathered.points.items p → IsFar layers structs top p
is_far layers kept structs top gathered t p (inl h) = record { stands = inl (record { shape = h.shape; flat = (t.shapes h.shape).0 h.among; corner = h.is.corner }); far = h.is.far }
is_far layers kept structs top gathered t p (inr h) = record { stands = inr (subst (λ (q : Point). IsPointOfLabel layers structs top q) h.is.is ((t.points h.own).0 h.among)); far = h.is.far }

far_in : (layers : List Layer) (kept : Bool) (structs : List Structure) (top : List ℕ) (gathered : Gathered) → IsTopDrawing layers kept structs top gathered → (p : Point) → (IsCornerOfFlat layers structs top p ⊎ IsPointOfLabel layers structs top p)
    → (far : IsFar layers structs top p) → IsFarIn gathered.shapes.items gathered.points.items p
far_in layers kept structs top gathered t p (inl h) f = inl (record { shape = h.shape; among = (t.shapes h.shape).1 h.flat; is = record { corner = h.corner; far = f.far } })
far_in layers kept structs top gathered t p (inr h) f = inr (record { own = p; among = (t.points p).1 h; is = record { is = refl; far = f.far } })

flat_kept_is : (layers : List Layer) (kept : Bool) (structs : List Structure) (top : List ℕ) (gathered : Gathered) (flat : Flat) → IsSound structs top → HasFew layers structs top → IsTopDrawing layers kept structs top gathered → IsFlatOf gathered flat
    → IsFlatKept layers kept structs top flat
flat_kept_is layers kept structs top gathered flat sound few t l = record {
  shapes = record {
    sound = sound;
    few = few;
    near = λ p f. l.near p (far_in layers kept structs top gathered t p f.stands f);
    rise = l.shapes_rise;
    exact = λ s. (λ h. (t.shapes s).0 ((l.shapes_same s).0 h), λ f. (l.shapes_same s).1 ((t.shapes s).1 f));
  };
  labels_rise = l.labels_rise;
  labels_exact = λ label. (λ h. (t.labels label).0 ((l.labels_same label).0 h), λ f. (l.labels_same label).1 ((t.labels label).1 f));
}

-- a far point is a fault
far_fault_is : (layers : List Layer) (kept : Bool) (structs : List Structure) (top : List ℕ) (gathered : Gathered) (fault : FlattenFault) → IsSound structs top → HasFew layers structs top → IsTopDrawing layers kept structs top gathered → IsFarFault gathered fault
    → IsFault layers structs top fault
far_fault_is layers kept structs top gathered (flatten_fault.UnknownStruct name) sound few t h = absurd h
far_fault_is layers kept structs top gathered (flatten_fault.Cycle name) sound few t h = absurd h
far_fault_is layers kept structs top gathered (flatten_fault.TooDeep depth) sound few t h = absurd h
far_fault_is layers kept structs top gathered (flatten_fault.TooMany shapes labels) sound few t h = absurd h
far_fault_is layers kept structs top gathered (flatten_fault.Far x y) sound few t h =
    (sound, few, record { far = is_far layers kept structs top gathered t (record { x = x; y = y }) h.has; first = λ q f. h.first q (far_in layers kept structs top gathered t q f.stands f) })
far_fault_is layers kept structs top gathered flatten_fault.Memory sound few t h = tt

pub flat_if : (layers : List Layer) (kept : Bool) (structs : List Structure) (top : List ℕ) (gathered : Gathered) (result : Result Flat FlattenFault) → IsSound structs top → HasFew layers structs top → IsTopDrawing layers kept structs top gathered
    → IfOk result (IsFlatOf gathered) → IfOk result (IsFlatKept layers kept structs top)
flat_if layers kept structs top gathered (Ok flat) sound few t l = flat_kept_is layers kept structs top gathered flat sound few t l
flat_if layers kept structs top gathered (Err fault) sound few t l = tt

pub fault_if : (layers : List Layer) (kept : Bool) (structs : List Structure) (top : List ℕ) (gathered : Gathered) (result : Result Flat FlattenFault) → IsSound structs top → HasFew layers structs top → IsTopDrawing layers kept structs top gathered
    → IfErr result (IsFarFault gathered) → IfErr result (IsFault layers structs top)
fault_if layers kept structs top gathered (Ok flat) sound few t h = tt
fault_if layers kept structs top gathered (Err fault) sound few t h = far_fault_is layers kept structs top gathered fault sound few t h

-- what is flat and kept
pub lists_are : (layers : List Layer) (structs : List Structure) (top : List ℕ) (flat : Flat) → IsFlatKept layers true structs top flat → AreFlatLists layers structs top (lists_of flat)
lists_are layers structs top flat f = record {
  sound = f.shapes.sound;
  few = f.shapes.few;
  near = f.shapes.near;
  shapes_rise = f.shapes.rise;
  shapes_exact = f.shapes.exact;
  labels_rise = f.labels_rise;
  labels_exact = λ label. (λ h. ((f.labels_exact label).0 h).1, λ h. (f.labels_exact label).1 (refl, h));
}

none_in : (labels : List Label) → ((label : PlainLabel) → Contains (map plain_label labels) label → ⊥) → labels ≡ []
none_in [] none = refl
none_in (l ∷ ls) none = absurd (none (plain_label l) (contains_first (plain_label l) (map plain_label ls)))

pub no_labels : (layers : List Layer) (structs : List Structure) (top : List ℕ) (flat : Flat) → IsFlatKept layers false structs top flat → flat.labels.now ≡ []
no_labels layers structs top flat f = none_in flat.labels.now (λ label h. let e : false ≡ true = ((f.labels_exact label).0 h).0 in cc)

pub lists_if : (layers : List Layer) (structs : List Structure) (top : List ℕ) (result : Result Flat FlattenFault) → IfOk result (IsFlatKept layers true structs top) → IfOk result (λ flat. AreFlatLists layers structs top (lists_of flat))
lists_if layers structs top (Ok flat) f = lists_are layers structs top flat f
lists_if layers structs top (Err fault) f = tt

pub shapes_if : (layers : List Layer) (structs : List Structure) (top : List ℕ) (result : Result Flat FlattenFault) → IfOk result (IsFlatKept layers false structs top) → IfOk result (λ flat. AreFlatShapes layers structs top flat.shapes.now)
shapes_if layers structs top (Ok flat) f = f.shapes
shapes_if layers structs top (Err fault) f = tt

pub none_if : (layers : List Layer) (structs : List Structure) (top : List ℕ) (result : Result Flat FlattenFault) → IfOk result (IsFlatKept layers false structs top) → IfOk result (λ flat. flat.labels.now ≡ [])
none_if layers structs top (Ok flat) f = no_labels layers structs top flat f
none_if layers structs top (Err fault) f = tt
