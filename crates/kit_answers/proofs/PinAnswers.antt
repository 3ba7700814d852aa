-- A cell has a shape for each demand, or the first fault of its pins.
use Rattle.std.proofs.Common.{◌≡◌, ◌≢◌, ◌⊎◌, inl, inr, ℕ, List, [], ◌∷◌, refl}
use Rattle.std.specs.Prelude.{Contains}
use Rattle.std.proofs.lemmas.Bool.{cases_eq}
use Rattle.or_geom.specs.declared.shape.Shape.{Shape}
use Rattle.or_geom.proofs.ListLaws.{contained_at}
use Rattle.element_drawing.specs.PlainLabel.{PlainLabel}
use Rattle.label_binding.specs.Binding.{Binds}
use Rattle.label_binding.specs.BoundPlaces.{label_anchor}
use Rattle.label_binding.specs.LowerCase.{in_lower_case}
use Rattle.leaf_shapes.specs.declared.fault.PinFault.{PinFault}
use Rattle.leaf_shapes.specs.declared.fault.PinFault.TheVariants.{PinMissing, PinLayer, EdgePin, Memory}
use Rattle.leaf_shapes.specs.declared.pins.LeafPin.{LeafPin}
use Rattle.leaf_shapes.specs.Candidates.{HasCandidate, IsFirstCandidate, IsLabelOfPin, NoCandidate}
use Rattle.leaf_shapes.specs.Demands.{PinDemand, metal_layer}
use Rattle.leaf_shapes.specs.Fits.{FitsCell}
use Rattle.leaf_shapes.specs.Pins.{CellDrawing, AreLeafPins, FirstLacks, IsDemanded, IsMet, IsOffLayer, IsOnMetal, IsPinFault, IsPinFor, LacksLayer}
use Rattle.leaf_shapes.proofs.PinLaws.{first_is_one, pin_meets}
use Rattle.kit_answers.proofs.DecidingLaws.{Decided, all_given, all_or_first, decide_both, decide_like, decide_some, decide_text, good_contained}
use Rattle.kit_answers.proofs.ShapeLaws.{decide_binds, decide_fits}

decide_own : (path : List ℕ) → Decided (path ≡ [])
decide_own [] = inl refl
decide_own (c ∷ cs) = inr (λ e. absurd (cc))

decide_named : (pin : List ℕ) (label : PlainLabel) → Decided (IsLabelOfPin pin label)
decide_named pin label =
    decide_like ((label.path ≡ []) × (in_lower_case label.name ≡ in_lower_case pin)) (IsLabelOfPin pin label)
    (λ p. record { own = p.0; named = p.1 }) (λ p. (p.own, p.named))
    (decide_both (label.path ≡ []) (in_lower_case label.name ≡ in_lower_case pin) (decide_own label.path)
    (decide_text (in_lower_case label.name) (in_lower_case pin)))

-- the shapes that a pin's labels bind, and the first of them with P
module _ (P : Shape → Type 0) (each : (shape : Shape) → Decided (P shape)) (shapes : List Shape) (labels : List PlainLabel) (pin : List ℕ) where
  record Gives (label : PlainLabel) (shape : Shape) : Type 0 where
    pub of : IsLabelOfPin pin label
    pub binds : Binds shapes (label_anchor label) shape
    pub has : P shape

  abbrev GivesNone : PlainLabel → Type 0
  GivesNone label = (shape : Shape) → Gives label shape → ⊥

  of_bound : (label : PlainLabel) (shape : Shape) → IsLabelOfPin pin label → Decided (Binds shapes (label_anchor label) shape) → Decided (P shape)
      → (Gives label shape → ⊥) ⊎ Gives label shape
  of_bound label shape of (inl binds) (inl has) = inr (record { of = of; binds = binds; has = has })
  of_bound label shape of (inl binds) (inr lacks) = inl (λ g. lacks g.has)
  of_bound label shape of (inr not) has = inl (λ g. not g.binds)

  at_shape : (label : PlainLabel) (shape : Shape) → IsLabelOfPin pin label → Contains shapes shape → (Gives label shape → ⊥) ⊎ Gives label shape
  at_shape label shape of listed = of_bound label shape of (decide_binds shapes (label_anchor label) shape listed) (each shape)

  by_label : (label : PlainLabel) → Decided (IsLabelOfPin pin label) → GivesNone label ⊎ ((shape : Shape) × Gives label shape)
  by_label label (inr other) = inl (λ shape g. other g.of)
  by_label label (inl of) =
      elim (all_or_first (λ (shape : Shape). Gives label shape → ⊥) (Gives label) shapes
      (λ k shape there. at_shape label shape of (contained_at shapes k shape there))) [
        | inl none ↦ inl (λ shape g. good_contained (λ (s : Shape). Gives label s → ⊥) shapes none shape g.binds.listed g)
        | inr first ↦ inr (first.item, first.bad)
      ]

  -- one of them has P, the first in order of labels, or none has
  pub first_or_none : ((shape : Shape) × IsFirstCandidate P shapes labels pin shape) ⊎ NoCandidate P shapes labels pin
  first_or_none =
      elim (all_or_first GivesNone (λ (label : PlainLabel). (shape : Shape) × Gives label shape) labels
      (λ k label there. by_label label (decide_named pin label))) [
        | inl none ↦ inr (λ h. none h.place h.bound.label h.bound.there h.shape (record { of = h.bound.of; binds = h.bound.binds; has = h.has }))
        | inr first ↦ inl (
          first.bad.0,
          record {
            place = first.place;
            bound = record { label = first.item; there = first.there; of = first.bad.1.of; binds = first.bad.1.binds };
            has = first.bad.1.has;
            first = λ k other lt bound has.
                first.before k bound.label lt bound.there other (record { of = bound.of; binds = bound.binds; has = has });
          },
        )
      ]

  pub some_or_none : Decided (HasCandidate P shapes labels pin)
  some_or_none = elim first_or_none [ inl first ↦ inl (first_is_one P shapes labels pin first.0 first.1) | inr none ↦ inr none ]

-- the pins of a cell
module _ (cell : CellDrawing) (demands : List PinDemand) where
  decide_demanded : (demand : PinDemand) (shape : Shape) → Decided (IsDemanded cell demand shape)
  decide_demanded demand shape =
      decide_both (IsOnMetal cell.wire demand.metal shape) (FitsCell demand.fit cell.wire.width cell.size shape.rect)
      (cases_eq shape.layer (metal_layer cell.wire demand.metal)) (decide_fits demand.fit cell.wire.width cell.size shape.rect)

  abbrev HasPin : PinDemand → Type 0
  HasPin demand = (pin : LeafPin) × IsPinFor cell demand pin

  pin_or_unmet : (demand : PinDemand) → HasPin demand ⊎ (IsMet cell demand → ⊥)
  pin_or_unmet demand = elim (first_or_none (IsDemanded cell demand) (decide_demanded demand) cell.shapes cell.labels demand.pin) [
    | inl first ↦ inl (record { pin = demand.pin; layer = first.0.layer; rect = first.0.rect }, record { named = refl; is = first.1 })
    | inr none ↦ inr none
  ]

  decide_unbound : (pin : List ℕ) → Decided (HasCandidate (λ (shape : Shape). Unit {0}) cell.shapes cell.labels pin)
  decide_unbound pin = some_or_none (λ (shape : Shape). Unit {0}) (λ shape. inl tt) cell.shapes cell.labels pin

  decide_lacks : (pin : List ℕ) (demand : PinDemand) → Decided (LacksLayer cell.wire cell.shapes cell.labels pin demand)
  decide_lacks pin demand = elim (decide_text demand.pin pin) [
    | inr other ↦ inr (λ l. other l.of)
    | inl of ↦
        elim (some_or_none (IsOnMetal cell.wire demand.metal)
        (λ shape. cases_eq shape.layer (metal_layer cell.wire demand.metal)) cell.shapes cell.labels pin) [
          | inl some ↦ inr (λ l. l.none some)
          | inr none ↦ inl (record { of = of; none = none })
        ]
  ]

  fault_of : (pin : List ℕ) → FirstLacks cell demands pin → Decided (HasCandidate (λ (shape : Shape). Unit {0}) cell.shapes cell.labels pin)
      → Decided (IsOffLayer cell demands pin)
      → (fault : PinFault) × (fault ≢ Memory) × IsPinFault cell demands fault
  fault_of pin lacks (inr unbound) off = (PinMissing pin, λ e. absurd (cc), (lacks, unbound))
  fault_of pin lacks (inl bound) (inl off) = (PinLayer pin, λ e. absurd (cc), (lacks, λ none. none bound, off))
  fault_of pin lacks (inl bound) (inr on) = (EdgePin pin, λ e. absurd (cc), (lacks, λ none. none bound, on))

  -- each demand has its shape, or the first that hasn't is a fault
  pub pins_or_fault : ((pins : List LeafPin) × AreLeafPins cell demands pins)
      ⊎ ((fault : PinFault) × (fault ≢ Memory) × IsPinFault cell demands fault)
  pins_or_fault = elim (all_or_first HasPin (λ (demand : PinDemand). IsMet cell demand → ⊥) demands (λ k demand there. pin_or_unmet demand)) [
    | inl all ↦ (let given = all_given (IsPinFor cell) demands all in inl (given.0, record { sized = given.1.sized; each = given.1.each }))
    | inr first ↦
        let pin = first.item.pin in
        let lacks : FirstLacks cell demands pin = record {
          demand = first.item;
          unmet =
              record {
                place = first.place;
                there = first.there;
                unmet = first.bad;
                before = λ k other lt at.
                    (let has = first.before k other lt at in pin_meets cell other has.0 has.1);
              };
          of = refl;
        } in
        inr (fault_of pin lacks (decide_unbound pin) (decide_some (LacksLayer cell.wire cell.shapes cell.labels pin) demands (decide_lacks pin)))
  ]
