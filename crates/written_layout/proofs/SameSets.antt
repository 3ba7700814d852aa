-- Structures that draw the same and refer to the same: their flat shapes and labels.
use Rattle.std.proofs.Common.{◌≡◌, ◌⊎◌, inl, inr, ℕ, zero, suc, List, [], ◌∷◌, length, ◌↔◌, subst}
use Rattle.std.specs.Prelude.{Contains}
use Rattle.or_geom.specs.declared.shape.Point.{Point}
use Rattle.or_geom.specs.declared.shape.Shape.{Shape}
use Rattle.gds_library.specs.declared.library.Structure.{Structure}
use Rattle.tech_rules.specs.declared.tech.Layer.{Layer}
use Rattle.element_drawing.specs.PlainLabel.{PlainLabel}
use Rattle.cell_chains.specs.Instances.{Item}
use Rattle.cell_chains.specs.Chains.{elements_of}
use Rattle.cell_chains.specs.declared.fault.ChainFault.TheVariants as chain_fault
use Rattle.cell_hierarchy.specs.Counts.{Total, IsOwnTotal, IsTotalWithin}
use Rattle.cell_hierarchy.specs.Plain.{FlatLists}
use Rattle.cell_hierarchy.specs.FlatSet.{IsShapeBy, IsFlatShape, IsLabelBy, IsFlatLabel, IsCornerOfFlat, IsPointOfLabel, IsFar}
use Rattle.cell_hierarchy.specs.FlatLists.{IsFirstFar, HasFew, HasMany, IsFault, AreFlatShapes, AreFlatLists}
use Rattle.cell_hierarchy.specs.declared.fault.FlattenFault.{FlattenFault}
use Rattle.cell_hierarchy.specs.declared.fault.FlattenFault.TheVariants as flatten_fault
use Rattle.written_layout.specs.SameFlat.{SameFlat}
use Rattle.written_layout.proofs.SameChains.{Same, same_back, same_sound, same_chain_fault}

-- shapes and labels

same_shape_by : (layers : List Layer) (a b : List Structure) → Same layers a b
    → (name : List ℕ) (chain : List Item) (s : Shape)
    → IsShapeBy layers a name chain s → IsShapeBy layers b name chain s
same_shape_by layers a b same name [] s by =
    record { shapes = by.shapes; drawn = (same.drawn name by.shapes).0 by.drawn; among = by.among }
same_shape_by layers a b same name (item ∷ items) s by =
    ((same.items name item).0 by.0, by.1, same_shape_by layers a b same item.cell items by.1 by.2, by.3)

same_shape : (layers : List Layer) (a b : List Structure) → Same layers a b → (top : List ℕ) (s : Shape)
    → IsFlatShape layers a top s → IsFlatShape layers b top s
same_shape layers a b same top s f =
    record { chain = f.chain; stands = same_shape_by layers a b same top f.chain s f.stands }

same_label_by : (layers : List Layer) (a b : List Structure) → Same layers a b
    → (name : List ℕ) (chain : List Item) (label : PlainLabel)
    → IsLabelBy layers a name chain label → IsLabelBy layers b name chain label
same_label_by layers a b same name [] label by = subst (λ (l : List PlainLabel). Contains l label) (same.labels name) by
same_label_by layers a b same name (item ∷ items) label by =
    ((same.items name item).0 by.0, by.1, same_label_by layers a b same item.cell items by.1 by.2, by.3)

same_label : (layers : List Layer) (a b : List Structure) → Same layers a b → (top : List ℕ) (label : PlainLabel)
    → IsFlatLabel layers a top label → IsFlatLabel layers b top label
same_label layers a b same top label f =
    record { chain = f.chain; stands = same_label_by layers a b same top f.chain label f.stands }

-- far points

same_stands : (layers : List Layer) (a b : List Structure) → Same layers a b → (top : List ℕ) (p : Point)
    → IsCornerOfFlat layers a top p ⊎ IsPointOfLabel layers a top p
    → IsCornerOfFlat layers b top p ⊎ IsPointOfLabel layers b top p
same_stands layers a b same top p (inl c) =
    inl (record { shape = c.shape; flat = same_shape layers a b same top c.shape c.flat; corner = c.corner })
same_stands layers a b same top p (inr l) =
    inr (record { label = l.label; flat = same_label layers a b same top l.label l.flat; is = l.is })

same_far : (layers : List Layer) (a b : List Structure) → Same layers a b → (top : List ℕ) (p : Point)
    → IsFar layers a top p → IsFar layers b top p
same_far layers a b same top p f = record { stands = same_stands layers a b same top p f.stands; far = f.far }

same_first : (layers : List Layer) (a b : List Structure) → Same layers a b → (top : List ℕ) (p : Point)
    → IsFirstFar layers a top p → IsFirstFar layers b top p
same_first layers a b same top p f = record {
  far = same_far layers a b same top p f.far;
  first = λ q far. f.first q (same_far layers b a (same_back layers a b same) top q far);
}

-- how many there are

same_own : (layers : List Layer) (a b : List Structure) → Same layers a b → (name : List ℕ) (total : Total)
    → IsOwnTotal layers (elements_of a name) total → IsOwnTotal layers (elements_of b name) total
same_own layers a b same name total own = record {
  shapes = own.shapes;
  drawn = (same.drawn name own.shapes).0 own.drawn;
  shape_count = own.shape_count;
  label_count = subst (λ (l : List PlainLabel). total.labels ≡ length l) (same.labels name) own.label_count;
}

same_total : (depth : ℕ) (layers : List Layer) (a b : List Structure) → Same layers a b
    → (name : List ℕ) (total : Total)
    → IsTotalWithin depth layers a name total ↔ IsTotalWithin depth layers b name total
same_total zero layers a b same name total =
    (same_own layers a b same name total, same_own layers b a (same_back layers a b same) name total)
same_total (suc depth) layers a b same name total =
    let below = same.below depth (same_total depth layers a b same) name in (
      λ t. (t.0, t.1, same_own layers a b same name t.0 t.2, (below t.1).0 t.3, t.4),
      λ t. (t.0, t.1, same_own layers b a (same_back layers a b same) name t.0 t.2, (below t.1).1 t.3, t.4),
    )

same_few : (layers : List Layer) (a b : List Structure) → Same layers a b → (top : List ℕ) → HasFew layers a top
    → HasFew layers b top
same_few layers a b same top f =
    record { total = f.total; is = (same_total 32 layers a b same top f.total).0 f.is; few = f.few }

same_many : (layers : List Layer) (a b : List Structure) → Same layers a b → (top : List ℕ) (shapes labels : ℕ)
    → HasMany layers a top shapes labels → HasMany layers b top shapes labels
same_many layers a b same top shapes labels f =
    record {
      total = f.total;
      is = (same_total 32 layers a b same top f.total).0 f.is;
      many = f.many;
      standing =
          f.standing;
    }

-- lists and faults

same_shapes : (layers : List Layer) (a b : List Structure) → Same layers a b → (top : List ℕ) (shapes : List Shape)
    → AreFlatShapes layers a top shapes → AreFlatShapes layers b top shapes
same_shapes layers a b same top shapes f =
    let other = same_back layers a b same in record {
      sound = same_sound layers a b same top f.sound;
      few = same_few layers a b same top f.few;
      near = λ p far. f.near p (same_far layers b a other top p far);
      rise = f.rise;
      exact = λ s. (
        λ among. same_shape layers a b same top s ((f.exact s).0 among),
        λ flat. (f.exact s).1
            (same_shape layers b a other top s flat),
      );
    }

same_lists : (layers : List Layer) (a b : List Structure) → Same layers a b → (top : List ℕ) (lists : FlatLists)
    → AreFlatLists layers a top lists → AreFlatLists layers b top lists
same_lists layers a b same top lists f =
    let other = same_back layers a b same in record {
      sound = same_sound layers a b same top f.sound;
      few = same_few layers a b same top f.few;
      near = λ p far. f.near p (same_far layers b a other top p far);
      shapes_rise = f.shapes_rise;
      shapes_exact = λ s. (
        λ among. same_shape layers a b same top s ((f.shapes_exact s).0 among),
        λ flat. (f.shapes_exact s).1 (same_shape layers b a other top s flat),
      );
      labels_rise = f.labels_rise;
      labels_exact = λ l. (
        λ among. same_label layers a b same top l ((f.labels_exact l).0 among),
        λ flat. (f.labels_exact l).1 (same_label layers b a other top l flat),
      );
    }

same_fault : (layers : List Layer) (a b : List Structure) → Same layers a b → (top : List ℕ) (fault : FlattenFault)
    → IsFault layers a top fault → IsFault layers b top fault
same_fault layers a b same top (flatten_fault.UnknownStruct name) f =
    same_chain_fault layers a b same top (chain_fault.UnknownStruct name) f
same_fault layers a b same top (flatten_fault.Cycle name) f =
    same_chain_fault layers a b same top (chain_fault.Cycle name) f
same_fault layers a b same top (flatten_fault.TooDeep depth) f =
    same_chain_fault layers a b same top (chain_fault.TooDeep depth) f
same_fault layers a b same top (flatten_fault.TooMany shapes labels) f =
    (same_sound layers a b same top f.0, same_many layers a b same top shapes labels f.1)
same_fault layers a b same top (flatten_fault.Far x y) f = (
  same_sound layers a b same top f.0,
  same_few layers a b same top f.1,
  same_first layers a b same top
      (record { x = x; y = y }) f.2,
)
same_fault layers a b same top flatten_fault.Memory f = tt

pub same_flat : (layers : List Layer) (a b : List Structure) → Same layers a b → (top : List ℕ)
    → SameFlat layers a b top
same_flat layers a b same top =
    let other = same_back layers a b same in record {
      shapes = λ s. (same_shape layers a b same top s, same_shape layers b a other top s);
      labels = λ l. (same_label layers a b same top l, same_label layers b a other top l);
      shape_lists = λ shapes. (same_shapes layers a b same top shapes, same_shapes layers b a other top shapes);
      lists = λ lists. (same_lists layers a b same top lists, same_lists layers b a other top lists);
      faults = λ fault. (same_fault layers a b same top fault, same_fault layers b a other top fault);
    }
