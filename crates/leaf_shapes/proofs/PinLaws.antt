-- The shapes of pins, demand by demand.
use Rattle.std.proofs.Common.{◌≡◌, ◌⊎◌, inl, inr, ℕ, ◌+◌, ◌<◌, List, [], ◌∷◌, ◌++◌, map, length, get_or, Some, None, Option, Bool, true, false, refl, sym, ap, subst, ◌∙◌, arith}
use Rattle.std.specs.Prelude.{slice_get, MatchOption, is_some, not, IsTrue, ◌↔◌, option_map}
use Rattle.std.proofs.lemmas.Bool.{cases_lt}
use Rattle.std.proofs.lemmas.List.{get_or_append_left, get_or_push, length_push}
use Rattle.std.proofs.lemmas.Option.{slice_get-map, slice_get_within, slice_get_cases, get_or_from_slice_get, slice_get_read}
use Rattle.or_geom.specs.declared.shape.Shape.{Shape}
use Rattle.or_geom.proofs.ListLaws.{one_at}
use Rattle.element_drawing.specs.PlainLabel.{PlainLabel}
use Rattle.leaf_shapes.specs.declared.demand.PinRequirement.{PinRequirement}
use Rattle.leaf_shapes.specs.declared.fault.PinFault.TheVariants.{PinMissing, PinLayer, EdgePin}
use Rattle.leaf_shapes.specs.declared.pins.LeafPin.{LeafPin}
use Rattle.leaf_shapes.specs.Candidates.{HasCandidate, NoCandidate, IsFirstCandidate}
use Rattle.leaf_shapes.specs.Demands.{PinDemand, plain_demand}
use Rattle.leaf_shapes.specs.Pins.{CellDrawing, IsMet, IsDemanded, IsPinFor, AreLeafPins, IsFirstUnmet, FirstLacks, IsUnbound, IsOffLayer, IsPinFault}

-- a first candidate is one
pub first_is_one : (P : Shape → Type 0) (shapes : List Shape) (labels : List PlainLabel) (pin : List ℕ) (s : Shape) → IsFirstCandidate P shapes labels pin s → HasCandidate P shapes labels pin
first_is_one P shapes labels pin s f = record { place = f.place; shape = s; bound = f.bound; has = f.has }

-- there is one exactly where the search for the first found one
pub found_one : (P : Shape → Type 0) (shapes : List Shape) (labels : List PlainLabel) (pin : List ℕ) (found : Option Shape) → MatchOption found (NoCandidate P shapes labels pin) (IsFirstCandidate P shapes labels pin)
    → IsTrue (is_some found) ↔ HasCandidate P shapes labels pin
found_one P shapes labels pin None none = (λ yes. absurd cc, λ h. absurd (none h))
found_one P shapes labels pin (Some s) first = (λ yes. first_is_one P shapes labels pin s first, λ h. refl)

pub exists_at : {X : Type 0} (xs : List X) (i : ℕ) → i < length xs → (x : X) × (slice_get xs i ≡ Some x)
exists_at xs i lt = elim (slice_get_cases xs i).1 [
  | inl h ↦ (h.0, h.2)
  | inr past ↦ let le = past.0 in absurd (omega (arith, lt, le))
]

-- what stands in a list that grew stood there before, or is new
pub push_cases : {X : Type 0} (xs new : List X) (x : X) (k : ℕ) (y : X) → new ≡ xs ++ x ∷ [] → slice_get new k ≡ Some y → (slice_get xs k ≡ Some y) ⊎ ((length xs ≡ k) × (x ≡ y))
push_cases {X} xs new x k y grown there =
    let is : get_or (xs ++ x ∷ []) k y ≡ y = ap (λ (l : List X). get_or l k y) (sym grown) ∙ get_or_from_slice_get new k y y there in
    let within = slice_get_within new k y there in
    let longer = length_push xs x in
    let size = ap length grown in
    elim (cases_lt k (length xs)) [
      | inl lt ↦ inl (slice_get_read xs _ k y refl lt (sym (sym (get_or_append_left xs (x ∷ []) y k lt) ∙ is)))
      | inr ge ↦ let e : length xs ≡ k = omega (arith, within, longer, size, ge) in inr (e, sym (get_or_push xs x y k e) ∙ is)
    ]

-- the pins for the demands before a place
pub record ArePinsBefore (cell : CellDrawing) (demands : List PinDemand) (pins : List LeafPin) (i : ℕ) : Type 0 where
  pub sized : length pins ≡ i
  pub each : (k : ℕ) (demand : PinDemand) (pin : LeafPin) → slice_get demands k ≡ Some demand → slice_get pins k ≡ Some pin → IsPinFor cell demand pin

pub no_pins : (cell : CellDrawing) (demands : List PinDemand) → ArePinsBefore cell demands [] 0
no_pins cell demands = record { sized = refl; each = λ k demand pin at_d at_p. let lt = slice_get_within [] k pin at_p in absurd (omega arith) }

pub pins_more : (cell : CellDrawing) (demands : List PinDemand) (pins new : List LeafPin) (i : ℕ) (demand : PinDemand) (pin : LeafPin) → slice_get demands i ≡ Some demand → IsPinFor cell demand pin → new ≡ pins ++ pin ∷ []
    → ArePinsBefore cell demands pins i → ArePinsBefore cell demands new (i + 1)
pins_more cell demands pins new i demand pin here is grown b = record {
  sized = let longer = length_push pins pin in let size = ap length grown in let s = b.sized in omega (arith, longer, size, s);
  each = λ k d p at_d at_p. elim (push_cases pins new pin k p grown at_p) [
    | inl old ↦ b.each k d p at_d old
    | inr fresh ↦
        let at_i : slice_get demands i ≡ Some d = subst (λ (j : ℕ). slice_get demands j ≡ Some d) (sym fresh.0 ∙ b.sized) at_d in
        subst (IsPinFor cell d) fresh.1 (subst (λ (q : PinDemand). IsPinFor cell q pin) (one_at demands i demand d here at_i) is)
  ];
}

-- those for all demands
pub pins_all : (cell : CellDrawing) (demands : List PinDemand) (pins : List LeafPin) (i : ℕ) → i ≡ length demands → ArePinsBefore cell demands pins i → AreLeafPins cell demands pins
pins_all cell demands pins i e b = record { sized = b.sized ∙ e; each = b.each }

-- a demand that has a pin is met
pub pin_meets : (cell : CellDrawing) (demand : PinDemand) (pin : LeafPin) → IsPinFor cell demand pin → IsMet cell demand
pin_meets cell demand pin p = first_is_one (IsDemanded cell demand) cell.shapes cell.labels demand.pin (record { layer = pin.layer; rect = pin.rect }) p.is

-- the first demand without one
pub pins_lack : (cell : CellDrawing) (demands : List PinDemand) (pins : List LeafPin) (i : ℕ) (demand : PinDemand) → slice_get demands i ≡ Some demand → (IsMet cell demand → ⊥) → ArePinsBefore cell demands pins i → IsFirstUnmet cell demands demand
pins_lack cell demands pins i demand here unmet b = record {
  place = i;
  there = here;
  unmet = unmet;
  before = λ k other lt at_k.
      let n = exists_at pins k (let s = b.sized in omega (arith, s, lt)) in
      pin_meets cell other n.0 (b.each k other n.0 at_k n.1);
}

-- the demand at a place
pub plain_at : (demands : List PinRequirement) (i : ℕ) (demand : PinRequirement) → slice_get demands i ≡ Some demand → slice_get (map plain_demand demands) i ≡ Some (plain_demand demand)
plain_at demands i demand at = slice_get-map plain_demand demands i ∙ ap (option_map plain_demand) at

-- what is not true
pub negated : (b : Bool) (P : Type 0) → (IsTrue b ↔ P) → IsTrue (not b) ↔ (P → ⊥)
negated true P iff = (λ no_more. absurd cc, λ none. absurd (none (iff.0 refl)))
negated false P iff = (λ _ p. let yes = iff.1 p in absurd cc, λ _. refl)

-- the faults of a pin, under its name
pub missing : (cell : CellDrawing) (demands : List PinDemand) (pin name : List ℕ) → name ≡ pin → FirstLacks cell demands pin → IsUnbound cell pin → IsPinFault cell demands (PinMissing name)
missing cell demands pin name e lacks unbound = subst (λ (n : List ℕ). IsPinFault cell demands (PinMissing n)) (sym e) (lacks, unbound)

pub off_layer : (cell : CellDrawing) (demands : List PinDemand) (pin name : List ℕ) → name ≡ pin → FirstLacks cell demands pin → (IsUnbound cell pin → ⊥) → IsOffLayer cell demands pin → IsPinFault cell demands (PinLayer name)
off_layer cell demands pin name e lacks bound off = subst (λ (n : List ℕ). IsPinFault cell demands (PinLayer n)) (sym e) (lacks, bound, off)

pub off_edge : (cell : CellDrawing) (demands : List PinDemand) (pin name : List ℕ) → name ≡ pin → FirstLacks cell demands pin → (IsUnbound cell pin → ⊥) → (IsOffLayer cell demands pin → ⊥) → IsPinFault cell demands (EdgePin name)
off_edge cell demands pin name e lacks bound on = subst (λ (n : List ℕ). IsPinFault cell demands (EdgePin n)) (sym e) (lacks, bound, on)

-- the pin of a demand that was drawn
pub pin_for : (cell : CellDrawing) (demand : PinDemand) (pin : LeafPin) (s : Shape) → pin.pin ≡ demand.pin → pin.layer ≡ s.layer → pin.rect ≡ s.rect → IsFirstCandidate (IsDemanded cell demand) cell.shapes cell.labels demand.pin s → IsPinFor cell demand pin
pin_for cell demand pin s named layer rect first =
    let same : ◌≡◌ {A = Shape} s (record { layer = pin.layer; rect = pin.rect }) = λ i. record { layer = sym layer i; rect = sym rect i } in
    record { named = named; is = subst (IsFirstCandidate (IsDemanded cell demand) cell.shapes cell.labels demand.pin) same first }
