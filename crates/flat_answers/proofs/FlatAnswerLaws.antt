-- A structure has its flat lists, or a fault.
use Rattle.std.proofs.Common.{◌≢◌, ◌⊎◌, inl, inr, ℕ, ◌^◌, min, List, refl}
use Rattle.std.specs.List.{AllByRecursion}
use Rattle.std.proofs.lemmas.Bool.{cases_lt}
use Rattle.or_geom.specs.declared.shape.Point.{Point}
use Rattle.or_geom.specs.ShapeOrder.{shape_order}
use Rattle.gds_library.specs.declared.library.Structure.{Structure}
use Rattle.gds_library.specs.Writable.{IsWritableCell}
use Rattle.tech_rules.specs.declared.tech.Layer.{Layer}
use Rattle.element_drawing.specs.LabelOrder.{label_order}
use Rattle.cell_chains.specs.Chains.{IsSound}
use Rattle.cell_chains.specs.Hierarchy.{IsChainFault}
use Rattle.cell_chains.specs.declared.fault.ChainFault.{ChainFault}
use Rattle.cell_chains.specs.declared.fault.ChainFault.TheVariants as chain_fault
use Rattle.cell_hierarchy.specs.Counts.{Total, AreFew, AreMany}
use Rattle.cell_hierarchy.specs.FlatLists.{point_order, HasFew}
use Rattle.cell_hierarchy.specs.FlatSet.{IsFlatShape, IsFlatLabel, IsFar}
use Rattle.cell_hierarchy.specs.declared.fault.FlattenFault.TheVariants as flatten_fault
use Rattle.flat_answers.specs.FlatAnswers.{HasFault, FlatShapesOrFault, FlatListsOrFault}
use Rattle.flat_answers.proofs.ListedLaws.{Listed, listed_ordered, first_or_none}
use Rattle.flat_answers.proofs.OrderLaws.{points_in_order, shapes_in_order, labels_in_order}
use Rattle.flat_answers.proofs.ChainThereLaws.{chain_answers}
use Rattle.flat_answers.proofs.TotalThereLaws.{total_there}
use Rattle.flat_answers.proofs.FlatThereLaws.{flat_shapes_listed, flat_labels_listed}
use Rattle.flat_answers.proofs.FarThereLaws.{far_listed}

few_or_many : (total : Total) → AreFew total ⊎ AreMany total
few_or_many total = elim (cases_lt (2 ^ 24) total.shapes) [
  | inl many ↦ inr (inl many)
  | inr few ↦ elim (cases_lt (2 ^ 22) total.labels) [ inl many ↦ inr (inr many) | inr low ↦ inl (record { shapes = few; labels = low }) ]
]

module _ (layers : List Layer) (structs : List Structure) (top : List ℕ) where
  chain_fault_is : (fault : ChainFault) → IsChainFault structs top fault → fault ≢ chain_fault.Memory → HasFault layers structs top
  chain_fault_is (chain_fault.UnknownStruct name) h known = (flatten_fault.UnknownStruct name, λ e. absurd cc, h)
  chain_fault_is (chain_fault.Cycle name) h known = (flatten_fault.Cycle name, λ e. absurd cc, h)
  chain_fault_is (chain_fault.TooDeep depth) h known = (flatten_fault.TooDeep depth, λ e. absurd cc, h)
  chain_fault_is chain_fault.Memory h known = absurd (known refl)

  -- nothing stands against flat lists
  record IsFlattened : Type 0 where
    sound : IsSound structs top
    few : HasFew layers structs top
    near : (p : Point) → IsFar layers structs top p → ⊥

  flattened : AllByRecursion IsWritableCell structs → IsFlattened ⊎ HasFault layers structs top
  flattened w = elim (chain_answers structs top) [
    | inr bad ↦ inr (chain_fault_is bad.0 bad.1.0 bad.1.1)
    | inl sound ↦
        let total = total_there 32 layers structs top w in
        elim (few_or_many total.0) [
          | inr many ↦ inr (
            flatten_fault.TooMany (min total.0.shapes (2 ^ 32)) (min total.0.labels (2 ^ 32)),
            λ e. absurd cc,
            (sound, record { total = total.0; is = total.1; many = many; standing = record { shapes = refl; labels = refl } }),
          )
          | inl few ↦ far_or_near sound (record { total = total.0; is = total.1; few = few }) (far_listed layers structs top w sound)
        ]
  ]
    where
      far_or_near : IsSound structs top → HasFew layers structs top → Listed (IsFar layers structs top) → IsFlattened ⊎ HasFault layers structs top
      far_or_near sound few listed = elim (first_or_none point_order (IsFar layers structs top) points_in_order listed) [
        | inl p ↦ inr (flatten_fault.Far p.0.x p.0.y, λ e. absurd cc, (sound, few, record { far = p.1; first = p.2 }))
        | inr near ↦ inl (record { sound = sound; few = few; near = near })
      ]

pub flat_shapes_or_fault : FlatShapesOrFault
flat_shapes_or_fault layers structs top w = elim (flattened layers structs top w) [
  | inr fault ↦ inr fault
  | inl f ↦
      let shapes = listed_ordered shape_order (IsFlatShape layers structs top) shapes_in_order (flat_shapes_listed layers structs top w f.sound) in
      inl (shapes.0, record { sound = f.sound; few = f.few; near = f.near; rise = shapes.1; exact = shapes.2 })
]

pub flat_lists_or_fault : FlatListsOrFault
flat_lists_or_fault layers structs top w = elim (flattened layers structs top w) [
  | inr fault ↦ inr fault
  | inl f ↦
      let shapes = listed_ordered shape_order (IsFlatShape layers structs top) shapes_in_order (flat_shapes_listed layers structs top w f.sound) in
      let labels = listed_ordered label_order (IsFlatLabel layers structs top) labels_in_order (flat_labels_listed layers structs top f.sound) in
      inl (
        record { shapes = shapes.0; labels = labels.0 },
        record {
          sound = f.sound;
          few = f.few;
          near = f.near;
          shapes_rise = shapes.1;
          shapes_exact = shapes.2;
          labels_rise = labels.1;
          labels_exact = labels.2;
        },
      )
]
