-- Boxes of layers, diffusion and channels as boxes.
use Rattle.std.proofs.Common.{◌≡◌, ◌⊎◌, inl, inr, ◌↔◌, ℕ, ◌+◌, ◌<◌, ◌≤◌, List, [], ◌∷◌, ◌++◌, length, get_or, take, drop, sym, ap, subst, ◌∙◌}
use Rattle.std.specs.Prelude.{Contains}
use Rattle.std.specs.List.Sorted.{IsStrictlySortedBy}
use Rattle.std.proofs.lemmas.List.{take_more, take_all, at_drop_all}
use Rattle.or_geom.specs.declared.shape.Point.{Point}
use Rattle.or_geom.specs.declared.shape.Rect.{Rect}
use Rattle.or_geom.specs.declared.shape.Shape.{Shape}
use Rattle.or_geom.specs.Covered.{HasCellInSome}
use Rattle.or_geom.specs.Gathering.{SomeHas}
use Rattle.or_geom.specs.Adds.{Adds}
use Rattle.or_geom.specs.ShapeOrder.{shape_order}
use Rattle.or_geom.proofs.AddsLaws.{adds_one}
use Rattle.or_geom.proofs.GatheringLaws.{IsGathering, gather_goes_on, gather_ends, some_has, who_has, giver}
use Rattle.or_geom.proofs.ListLaws.{rest_at}
use Rattle.shape_bins.specs.Layers.{rects_on}
use Rattle.shape_bins.proofs.CoverLaws.{shape_over}
use Rattle.box_pieces.specs.Cells.{IsCellOutside}
use Rattle.box_pieces.proofs.CellLaws.{cells_first, cells_second, cells_cases}
use Rattle.tech_rules.specs.declared.tech.Device.{Device}
use Rattle.drawn_devices.specs.Boxes.{IsOnLayer, IsShapeOfBox}
use Rattle.drawn_devices.specs.ChannelBoxes.{HaveChannelCells, AreChannelShapes}
use Rattle.drawn_devices.specs.Diffusion.{IsActive}
use Rattle.drawn_devices.specs.DiffusionBoxes.{IsGateAt, AreGatesOver, AreDiffusionBoxes}
use Rattle.drawn_devices.proofs.CutLaws.{boxes_lie, box_cells}
use Rattle.drawn_devices.proofs.GrownLaws.{grown}

-- The boxes of a layer, gathered shape by shape: those so far, and those of the shapes that are left.
abbrev pub AreBoxesSoFar : ℕ → List Shape → ℕ → List Rect → List Rect → Type 0
AreBoxesSoFar layer shapes done old now = now ++ rects_on layer (drop done shapes) ≡ old ++ rects_on layer shapes

-- the devices so far, whose gates were gathered
abbrev pub AreGatesSoFar : List Device → List Shape → ℕ → ℕ → List Rect → Type 0
AreGatesSoFar devices shapes layer done gates = (cell : Point) → HasCellInSome gates cell.x cell.y ↔ SomeHas (IsGateAt shapes layer cell) (take done devices)

some_first : {Y : Type 0} (has : Y → Type 0) (ys : List Y) (y : Y) → SomeHas has ys → SomeHas has (ys ++ y ∷ [])
some_first has [] y h = absurd h
some_first has (x ∷ xs) y (inl h) = inl h
some_first has (x ∷ xs) y (inr h) = inr (some_first has xs y h)

some_last : {Y : Type 0} (has : Y → Type 0) (ys : List Y) (y : Y) → has y → SomeHas has (ys ++ y ∷ [])
some_last has [] y h = inl h
some_last has (x ∷ xs) y h = inr (some_last has xs y h)

some_split : {Y : Type 0} (has : Y → Type 0) (ys : List Y) (y : Y) → SomeHas has (ys ++ y ∷ []) → SomeHas has ys ⊎ has y
some_split has [] y (inl h) = inr h
some_split has [] y (inr h) = absurd h
some_split has (x ∷ xs) y (inl h) = inl (inl h)
some_split has (x ∷ xs) y (inr h) = elim (some_split has xs y h) [ inl there ↦ inl (inr there) | inr here ↦ inr here ]

one_more : (devices : List Device) (i : ℕ) (d : Device) → i < length devices → d ≡ get_or devices i d → take (i + 1) devices ≡ take i devices ++ d ∷ []
one_more devices i d lt is = take_more devices i d lt ∙ ap (λ (e : Device). take i devices ++ e ∷ []) (sym is)

pub gates_begin : (devices : List Device) (shapes : List Shape) (layer : ℕ) (gates : List Rect) → gates ≡ [] → AreGatesSoFar devices shapes layer 0 gates
gates_begin devices shapes layer gates e cell = (λ h. absurd (subst (λ (l : List Rect). HasCellInSome l cell.x cell.y) e h), λ h. absurd h)

pub gates_skip : (devices : List Device) (shapes : List Shape) (layer i : ℕ) (d : Device) (gates : List Rect) → i < length devices → d ≡ get_or devices i d → (d.active ≡ layer → ⊥) → AreGatesSoFar devices shapes layer i gates
    → AreGatesSoFar devices shapes layer (i + 1) gates
gates_skip devices shapes layer i d gates lt is off so cell =
    let e = one_more devices i d lt is in (
      λ h. subst (λ (l : List Device). SomeHas (IsGateAt shapes layer cell) l) (sym e) (some_first (IsGateAt shapes layer cell) (take i devices) d ((so cell).0 h)),
      λ h. elim (some_split (IsGateAt shapes layer cell) (take i devices) d (subst (λ (l : List Device). SomeHas (IsGateAt shapes layer cell) l) e h)) [ inl before ↦ (so cell).1 before | inr here ↦ absurd (off here.on) ],
    )

pub gates_more : (devices : List Device) (shapes : List Shape) (layer i : ℕ) (d : Device) (gates next : List Rect) → i < length devices → d ≡ get_or devices i d → d.active ≡ layer → next ≡ gates ++ rects_on d.gate shapes → AreGatesSoFar devices shapes layer i gates
    → AreGatesSoFar devices shapes layer (i + 1) next
gates_more devices shapes layer i d gates next lt is on more so cell =
    let e = one_more devices i d lt is in (
      λ h. subst (λ (l : List Device). SomeHas (IsGateAt shapes layer cell) l) (sym e) (elim (cells_cases gates (rects_on d.gate shapes) cell.x cell.y (subst (λ (l : List Rect). HasCellInSome l cell.x cell.y) more h)) [
        | inl before ↦ some_first (IsGateAt shapes layer cell) (take i devices) d ((so cell).0 before)
        | inr here ↦ some_last (IsGateAt shapes layer cell) (take i devices) d (record { on = on; gate = here })
      ]),
      λ h. subst (λ (l : List Rect). HasCellInSome l cell.x cell.y) (sym more) (elim (some_split (IsGateAt shapes layer cell) (take i devices) d (subst (λ (l : List Device). SomeHas (IsGateAt shapes layer cell) l) e h)) [
        | inl before ↦ cells_first gates (rects_on d.gate shapes) cell.x cell.y ((so cell).1 before)
        | inr here ↦ cells_second gates (rects_on d.gate shapes) cell.x cell.y here.gate
      ]),
    )

pub gates_end : (devices : List Device) (shapes : List Shape) (layer i : ℕ) (gates : List Rect) → length devices ≤ i → AreGatesSoFar devices shapes layer i gates → AreGatesOver devices shapes layer gates
gates_end devices shapes layer i gates far so cell =
    let e = take_all i devices far in
    (λ h. subst (λ (l : List Device). SomeHas (IsGateAt shapes layer cell) l) e ((so cell).0 h), λ h. (so cell).1 (subst (λ (l : List Device). SomeHas (IsGateAt shapes layer cell) l) (sym e) h))

-- what is left of the active boxes outside of the gates is diffusion
pub diffusion_left : (devices : List Device) (shapes : List Shape) (layer : ℕ) (drawn gates boxes : List Rect) → IsActive devices layer → drawn ≡ rects_on layer shapes → AreGatesOver devices shapes layer gates
    → ((cell : Point) → HasCellInSome boxes cell.x cell.y ↔ IsCellOutside drawn gates cell.x cell.y) → AreDiffusionBoxes devices shapes layer boxes
diffusion_left devices shapes layer drawn gates boxes active e over cut cell = (
  λ h. let o = (cut cell).0 h in record {
    active = active;
    drawn = subst (λ (l : List Rect). HasCellInSome l cell.x cell.y) e o.among;
    clear = λ d listed on lies. o.none ((over cell).1 (some_has (IsGateAt shapes layer cell) devices d listed (record { on = on; gate = lies })));
  },
  λ i. (cut cell).1 (record {
    among = subst (λ (l : List Rect). HasCellInSome l cell.x cell.y) (sym e) i.drawn;
    none = λ h. let w = who_has (IsGateAt shapes layer cell) devices ((over cell).0 h) in i.clear w.0 w.1 w.2.on w.2.gate;
  }),
)

-- the boxes as shapes on layer 0
pub channel_shapes_are : (shapes : List Shape) (device : Device) (boxes : List Rect) (none added list : List Shape) → HaveChannelCells shapes device boxes → none ≡ [] → Adds none added (IsShapeOfBox 0 boxes) → IsStrictlySortedBy shape_order list
    → ((s : Shape) → Contains added s → Contains list s) → ((s : Shape) → Contains list s → Contains added s) → AreChannelShapes shapes device list
channel_shapes_are shapes device boxes none added list cells e adds rise keeps only =
    let are = grown none added (IsShapeOfBox 0 boxes) e adds in
    record {
      rise = rise;
      on = λ s listed. (giver (IsOnLayer 0) boxes s ((are s).0 (only s listed))).2.on;
      cells = λ cell. (
        λ h. let over = shape_over 0 list cell.x cell.y h in (cells cell).0 (box_cells 0 boxes over.shape cell ((are over.shape).0 (only over.shape over.there)) over.holds).1,
        λ c. boxes_lie 0 boxes list cell (λ s is. keeps s ((are s).1 is)) ((cells cell).1 c),
      );
    }

-- the shape of a box on a layer is one
pub shape_of_box : (layer : ℕ) (box : Rect) (s : Shape) → IsOnLayer layer box s → s ≡ record { layer = layer; rect = box }
shape_of_box layer box s i =
    let first : s ≡ record { layer = layer; rect = s.rect } = ap (λ (l : ℕ). let t : Shape = record { layer = l; rect = s.rect } in t) i.on in
    first ∙ ap (λ (r : Rect). let t : Shape = record { layer = layer; rect = r } in t) i.is

pub shapes_more : (layer : ℕ) (boxes : List Rect) (i : ℕ) (r : Rect) (s : Shape) (old now next : List Shape) → i < length boxes → r ≡ get_or boxes i r → s.layer ≡ layer → s.rect ≡ r → next ≡ now ++ s ∷ [] → IsGathering (IsOnLayer layer) boxes (drop i boxes) old now
    → IsGathering (IsOnLayer layer) boxes (drop (i + 1) boxes) old next
shapes_more layer boxes i r s old now next lt is on rect more way =
    gather_goes_on (IsOnLayer layer) boxes (drop i boxes) (drop (i + 1) boxes) r old now next (rest_at boxes i r lt is) way
    (adds_one now next s (IsOnLayer layer r) more (record { on = on; is = rect }) (λ x g. shape_of_box layer r x g ∙ sym (shape_of_box layer r s (record { on = on; is = rect }))))

pub shapes_end : (layer : ℕ) (boxes : List Rect) (i : ℕ) (old now : List Shape) → length boxes ≤ i → IsGathering (IsOnLayer layer) boxes (drop i boxes) old now → Adds old now (IsShapeOfBox layer boxes)
shapes_end layer boxes i old now far way = gather_ends (IsOnLayer layer) boxes (drop i boxes) old now (at_drop_all (λ (l : List Rect). l) boxes i far) way
