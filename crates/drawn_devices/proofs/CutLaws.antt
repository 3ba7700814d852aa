-- Drawn shapes and diffusion together are the cut shapes.
use Rattle.std.proofs.Common.{◌≡◌, ◌⊎◌, inl, inr, ℕ, ◌+◌, ◌<◌, List, [], ◌∷◌, ◌++◌, length, get_or, take, refl, sym, ap, subst, ◌∙◌, arith}
use Rattle.std.specs.Prelude.{Contains}
use Rattle.std.specs.List.Sorted.{IsStrictlySortedBy}
use Rattle.std.proofs.lemmas.List.{take_more, take_all}
use Rattle.std.proofs.lemmas.List.Elements.{Contains-append_left, Contains-append_right, Contains-append_cases}
use Rattle.or_geom.specs.declared.shape.Point.{Point}
use Rattle.or_geom.specs.declared.shape.Rect.{Rect}
use Rattle.or_geom.specs.declared.shape.Shape.{Shape}
use Rattle.or_geom.specs.Adds.{Adds}
use Rattle.or_geom.specs.Covered.{HasCell, HasCellInSome}
use Rattle.or_geom.specs.Gathering.{SomeGives, SomeHas}
use Rattle.or_geom.specs.ShapeOrder.{shape_order}
use Rattle.or_geom.proofs.CoverLaws.{cell_among}
use Rattle.or_geom.proofs.ListLaws.{contains_first, contains_later}
use Rattle.or_geom.proofs.GatheringLaws.{giver, gives_some}
use Rattle.shape_bins.proofs.CoverLaws.{shape_over}
use Rattle.tech_rules.specs.declared.tech.Device.{Device}
use Rattle.drawn_devices.specs.Boxes.{IsOnLayer, IsShapeOfBox}
use Rattle.drawn_devices.specs.Cells.{LiesOn}
use Rattle.drawn_devices.specs.CutShapes.{AreCutShapes}
use Rattle.drawn_devices.specs.Diffusion.{IsActive, IsDiffusion}
use Rattle.drawn_devices.specs.DiffusionBoxes.{AreDiffusionBoxes, IsDiffusionAdded}
use Rattle.drawn_devices.specs.DrawnShapes.{GivesDrawn}
use Rattle.drawn_devices.proofs.LayerLaws.{lies_by}
use Rattle.drawn_devices.proofs.GrownLaws.{grown}

-- a rectangle of the list that has the cell
pub rect_over : (rects : List Rect) (cell : Point) → HasCellInSome rects cell.x cell.y → (r : Rect) × Contains rects r × HasCell r cell.x cell.y
rect_over [] cell h = absurd h
rect_over (r ∷ rs) cell (inl here) = (r, contains_first r rs, here)
rect_over (r ∷ rs) cell (inr there) = let more = rect_over rs cell there in (more.0, contains_later r rs more.0 more.1, more.2)

-- the boxes as shapes of a layer have their cells there
pub boxes_lie : (layer : ℕ) (boxes : List Rect) (list : List Shape) (cell : Point) → ((s : Shape) → IsShapeOfBox layer boxes s → Contains list s) → HasCellInSome boxes cell.x cell.y → LiesOn list layer cell
boxes_lie layer boxes list cell all h =
    let r = rect_over boxes cell h in
    let s : Shape = record { layer = layer; rect = r.0 } in
    lies_by list layer cell s (all s (gives_some (IsOnLayer layer) boxes s r.0 r.1 (record { on = refl; is = refl }))) refl r.2

-- and no others
pub box_cells : (layer : ℕ) (boxes : List Rect) (s : Shape) (cell : Point) → IsShapeOfBox layer boxes s → HasCell s.rect cell.x cell.y → (s.layer ≡ layer) × HasCellInSome boxes cell.x cell.y
box_cells layer boxes s cell of has =
    let one = giver (IsOnLayer layer) boxes s of in
    (one.2.on, cell_among boxes one.0 cell.x cell.y one.1 (subst (λ (r : Rect). HasCell r cell.x cell.y) one.2.is has))

-- more shapes have the cells of fewer
pub lies_more : (few many : List Shape) (layer : ℕ) (cell : Point) → ((s : Shape) → Contains few s → Contains many s) → LiesOn few layer cell → LiesOn many layer cell
lies_more few many layer cell more h =
    let over = shape_over layer few cell.x cell.y h in
    lies_by many layer cell over.shape (more over.shape over.there) over.on over.holds

some_last : {Y : Type 0} (has : Y → Type 0) (ys : List Y) (y : Y) → SomeHas has (ys ++ y ∷ []) → SomeHas has ys ⊎ has y
some_last has [] y (inl h) = inr h
some_last has [] y (inr h) = absurd h
some_last has (x ∷ xs) y (inl h) = inl (inl h)
some_last has (x ∷ xs) y (inr h) = elim (some_last has xs y h) [ inl there ↦ inl (inr there) | inr here ↦ inr here ]

-- a layer that is active with one device more
active_more : (devices : List Device) (i layer : ℕ) (d : Device) → i < length devices → d ≡ get_or devices i d → IsActive (take (i + 1) devices) layer → IsActive (take i devices) layer ⊎ (d.active ≡ layer)
active_more devices i layer d lt is h =
    let more : take (i + 1) devices ≡ take i devices ++ d ∷ [] = take_more devices i d lt ∙ ap (λ (x : Device). take i devices ++ x ∷ []) (sym is) in
    some_last (λ (x : Device). x.active ≡ layer) (take i devices) d (subst (λ (ds : List Device). IsActive ds layer) more h)

pub added_none : (devices : List Device) (shapes old : List Shape) → IsDiffusionAdded devices shapes 0 old old
added_none devices shapes old = record { kept = λ s h. h; only = λ s h. inl h; all = λ layer cell h d. absurd h }

-- a device whose active layer an earlier one has
pub added_again : (devices : List Device) (shapes : List Shape) (i : ℕ) (d : Device) (old new : List Shape) → i < length devices → d ≡ get_or devices i d → IsActive (take i devices) d.active → IsDiffusionAdded devices shapes i old new
    → IsDiffusionAdded devices shapes (i + 1) old new
added_again devices shapes i d old new lt is again a = record {
  kept = a.kept;
  only = a.only;
  all = λ layer cell h diffusion. elim (active_more devices i layer d lt is h) [
    | inl earlier ↦ a.all layer cell earlier diffusion
    | inr here ↦ a.all layer cell (subst (IsActive (take i devices)) here again) diffusion
  ];
}

-- the shapes of one device's active layer
pub added_layer : (devices : List Device) (shapes : List Shape) (i : ℕ) (d : Device) (boxes : List Rect) (old new more : List Shape) → i < length devices → d ≡ get_or devices i d → IsActive devices d.active
    → AreDiffusionBoxes devices shapes d.active boxes → Adds new more (IsShapeOfBox d.active boxes) → IsDiffusionAdded devices shapes i old new → IsDiffusionAdded devices shapes (i + 1) old more
added_layer devices shapes i d boxes old new more lt is active are adds a =
    let kept : (s : Shape) → Contains new s → Contains more s = λ s h. subst (λ (l : List Shape). Contains l s) (sym adds.is) (Contains-append_left new adds.added s h) in
    let whole : (s : Shape) → IsShapeOfBox d.active boxes s → Contains more s = λ s h. subst (λ (l : List Shape). Contains l s) (sym adds.is) (Contains-append_right new adds.added s (adds.each s h)) in
    record {
      kept = λ s h. kept s (a.kept s h);
      only = λ s h. elim (Contains-append_cases new adds.added s (subst (λ (l : List Shape). Contains l s) adds.is h)) [
        | inl earlier ↦ a.only s earlier
        | inr fresh ↦
            let of = adds.only s fresh in
            let on = (giver (IsOnLayer d.active) boxes s of).2.on in
            inr (record {
              active = subst (IsActive devices) (sym on) active;
              each = λ cell has. subst (λ (l : ℕ). IsDiffusion devices shapes l cell) (sym on) ((are cell).0 (box_cells d.active boxes s cell of has).1);
            })
      ];
      all = λ layer cell h diffusion. elim (active_more devices i layer d lt is h) [
        | inl earlier ↦ lies_more new more layer cell kept (a.all layer cell earlier diffusion)
        | inr here ↦
            let own : IsDiffusion devices shapes d.active cell = subst (λ (l : ℕ). IsDiffusion devices shapes l cell) (sym here) diffusion in
            subst (λ (l : ℕ). LiesOn more l cell) here (boxes_lie d.active boxes more cell whole ((are cell).1 own))
      ];
    }

-- sorted, each once
pub cut_are : (devices : List Device) (shapes none drawn whole cut : List Shape) → none ≡ [] → Adds none drawn (SomeGives (GivesDrawn devices) shapes) → IsDiffusionAdded devices shapes (length devices) drawn whole
    → IsStrictlySortedBy shape_order cut → ((s : Shape) → Contains whole s → Contains cut s) → ((s : Shape) → Contains cut s → Contains whole s) → AreCutShapes devices shapes cut
cut_are devices shapes none drawn whole cut e adds a rises keeps adds_none =
    let is_drawn = grown none drawn (SomeGives (GivesDrawn devices) shapes) e adds in
    let gone : (s : Shape) → Contains drawn s → Contains shapes s × (IsActive devices s.layer → ⊥) = λ s h.
    let one = giver (GivesDrawn devices) shapes s ((is_drawn s).0 h) in
    (subst (Contains shapes) (sym one.2.0) one.1, λ active. one.2.1 (subst (λ (u : Shape). IsActive devices u.layer) one.2.0 active)) in
    record {
      rise = rises;
      drawn = λ s off. (
        λ h. elim (a.only s (adds_none s h)) [ inl one ↦ (gone s one).0 | inr d ↦ absurd (off d.active) ],
        λ h. keeps s (a.kept s ((is_drawn s).1 (gives_some (GivesDrawn devices) shapes s s h (refl, off)))),
      );
      diffused = λ layer cell active. (
        λ h.
            let over = shape_over layer cut cell.x cell.y h in
            let own : IsActive devices over.shape.layer = subst (IsActive devices) (sym over.on) active in
            elim (a.only over.shape (adds_none over.shape over.there)) [
              | inl one ↦ absurd ((gone over.shape one).1 own)
              | inr d ↦ subst (λ (l : ℕ). IsDiffusion devices shapes l cell) over.on (d.each cell over.holds)
            ],
        λ diffusion.
            let all : IsActive (take (length devices) devices) layer = subst (λ (ds : List Device). IsActive ds layer) (sym (take_all (length devices) devices (omega arith))) active in
            lies_more whole cut layer cell keeps (a.all layer cell all diffusion),
      );
    }
