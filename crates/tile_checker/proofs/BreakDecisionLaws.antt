-- Whether shapes break a rule is decided.
use Rattle.std.proofs.Common.{◌≡◌, ◌⊎◌, inl, inr, ℕ, List, [], ◌∷◌, ℤ, pos, ◌≤ℤ◌, ◌+ℤ◌, ◌-ℤ◌, ◌*ℤ◌, Option, Some, None, refl, subst, arith}
use Rattle.std.specs.Int.{int_max}
use Rattle.std.proofs.lemmas.Bool.{cases_eq}
use Rattle.std.proofs.lemmas.Int.{ints, clamps, by_lt_z}
use Rattle.or_geom.specs.declared.shape.Point.{Point}
use Rattle.or_geom.specs.declared.shape.Rect.{Rect}
use Rattle.or_geom.specs.declared.shape.Shape.{Shape}
use Rattle.or_geom.specs.Covered.{HasCellInSome}
use Rattle.or_geom.specs.Distance.{IsReachable}
use Rattle.or_geom.specs.Gathering.{SomeHas}
use Rattle.tech_rules.specs.declared.tech.Rule.{Rule}
use Rattle.tech_rules.specs.declared.tech.Rule.TheVariants.{Width, Space, Enclose}
use Rattle.shape_bins.specs.Layers.{rects_on, IsCoveredBy}
use Rattle.tile_checker.specs.Breaks.{AreNear, Breaks, BreaksEnclose, BreaksSpace, BreaksWidth, HasWidth, IsGapCovered}
use Rattle.tile_checker.specs.Frame.{IsFrame, HasBoxAt, point}
use Rattle.tile_checker.specs.Minimum.{HasMinimum, IsMinimum}
use Rattle.tile_checker.specs.declared.frame.Frame.{Frame}
use Rattle.tile_checker.proofs.BoxLaws.{no_width}
use Rattle.tile_checker.proofs.DecisionLaws.{AreBetween, Decided, IsBetween, decide_as, decide_both, decide_cells, decide_covered, decide_some}
use Rattle.tile_checker.proofs.FirstLaws.{bare, not_bare}
use Rattle.tile_checker.proofs.FrameLaws.{box_covers}
use Rattle.tile_checker.proofs.OwnerLaws.{grown_of}
use Rattle.tile_checker.proofs.PairDecisionLaws.{decide_joined, gap_there, least_there}
use Rattle.tile_checker.proofs.SpaceLaws.{at_most, below_itself, gap_box_once}

-- the cells of the frame's box with this corner are covered
abbrev IsClearAt : List Rect → Frame → ℤ → ℤ → Type 0
IsClearAt rects f x y = AreBetween (λ i. AreBetween (λ j. HasCellInSome rects i j) y (y +ℤ f.height)) x (x +ℤ f.width)

abbrev IsClearIn : List Rect → Frame → ℤ → Type 0
IsClearIn rects f x = IsBetween (λ y. IsClearAt rects f x y) f.low.y (f.high.y +ℤ pos 1)

box_at : (rects : List Rect) (f : Frame) → IsBetween (λ x. IsClearIn rects f x) f.low.x (f.high.x +ℤ pos 1) → (corner : Point) × HasBoxAt rects f corner
box_at rects f h =
    let x = h.0 in
    let v = h.3 in
    let before = h.2 in
    let below = v.2 in
    (point x v.0, record { left = h.1; right = omega (arith, ints, before); low = v.1; high = omega (arith, ints, below); covered = λ i j left right low high. v.3 i left right j low high })

at_box : (rects : List Rect) (f : Frame) → (corner : Point) × HasBoxAt rects f corner → IsBetween (λ x. IsClearIn rects f x) f.low.x (f.high.x +ℤ pos 1)
at_box rects f p =
    let b = p.1 in
    let right = b.right in
    let high = b.high in
    (p.0.x, b.left, omega (arith, ints, right), (p.0.y, b.low, omega (arith, ints, high), λ i from to j low up. b.covered i j from to low up))

decide_box : (rects : List Rect) (f : Frame) → Decided ((corner : Point) × HasBoxAt rects f corner)
decide_box rects f =
    decide_as (IsBetween (λ x. IsClearIn rects f x) f.low.x (f.high.x +ℤ pos 1)) ((corner : Point) × HasBoxAt rects f corner) (box_at rects f) (at_box rects f)
    (decide_some (λ x. IsClearIn rects f x) (λ x. decide_some (λ y. IsClearAt rects f x y) (λ y. decide_cells rects x (x +ℤ f.width) y (y +ℤ f.height)) f.low.y (f.high.y +ℤ pos 1)) f.low.x (f.high.x +ℤ pos 1))

frame_of : (min : ℤ) (r : Rect) → IsMinimum min → IsReachable r → (f : Frame) × IsFrame min r f
frame_of min r is reach =
    let width = int_max min (r.x2 -ℤ r.x1) in
    let height = int_max min (r.y2 -ℤ r.y1) in
    let some : pos 1 ≤ℤ min = is.positive in
    let few : min ≤ℤ pos 1048576 = is.bounded in (
      record {
        low = point (r.x2 -ℤ width) (r.y2 -ℤ height);
        high = point r.x1 r.y1;
        width = width;
        height = height;
        wide = omega (arith, ints, clamps);
        tall = omega (arith, ints, clamps);
        narrow = omega (arith, ints, clamps, reach.x1.above, reach.x2.below);
        flat = omega (arith, ints, clamps, reach.y1.above, reach.y2.below);
        near_x = reach.x1;
        near_y = reach.y1;
      },
      record { width = refl; height = refl; low_x = omega (arith, ints); low_y = omega (arith, ints); high_x = refl; high_y = refl },
    )

decide_width : (rects : List Rect) (min : ℤ) (r : Rect) → IsMinimum min → IsReachable r → Decided (HasWidth rects min r)
decide_width rects min r is reach =
    let f = frame_of min r is reach in
    elim (decide_box rects f.0) [
      | inl b ↦ inl (box_covers rects f.0 b.0 min r f.1 b.1)
      | inr none ↦ inr (λ h. no_width rects f.0 min r f.1 (λ corner box. none (corner, box)) h)
    ]

decide_near : (min : ℤ) (a b : Rect) → Decided (AreNear min a b)
decide_near min a b = elim (decide_joined a b) [
  | inl joined ↦ inr (λ n. n.apart joined)
  | inr apart ↦
      let d = least_there a b in
      by_lt_z d.0 (min *ℤ min) (λ near. inl (record { apart = apart; distance = d.0; is = d.1; near = near }))
      (λ far. inr (λ n. below_itself (min *ℤ min) d.0 n.distance far (at_most a b d.0 n.distance d.1 n.is) n.near))
]

decide_number : (a b : ℕ) → Decided (a ≡ b)
decide_number a b = elim (cases_eq a b) [ inl e ↦ inl e | inr differ ↦ inr differ ]

decide_gap : (shapes : List Shape) (a b : Shape) → Decided (IsGapCovered shapes a b)
decide_gap shapes a b =
    let g = gap_there a.rect b.rect in
    elim (decide_both (a.layer ≡ b.layer) (IsCoveredBy a.layer shapes g.0) (decide_number a.layer b.layer) (decide_covered g.0 (rects_on a.layer shapes))) [
      | inl h ↦ inl (record { one_layer = h.0; gap = g.0; is = g.1; covered = h.1 })
      | inr never ↦ inr (λ h. never (h.one_layer, subst (λ (r : Rect). IsCoveredBy a.layer shapes r) (gap_box_once a.rect b.rect h.gap g.0 h.is g.1) h.covered))
    ]

decide_either : (A B : Type 0) → Decided A → Decided B → Decided (A ⊎ B)
decide_either A B (inl a) b = inl (inl a)
decide_either A B (inr no_a) (inl b) = inl (inr b)
decide_either A B (inr no_a) (inr no_b) = inr (λ h. elim h [ inl a ↦ no_a a | inr b ↦ no_b b ])

decide_layers : (a b layer other : ℕ) → Decided ((a ≡ layer) × (b ≡ other))
decide_layers a b layer other = decide_both (a ≡ layer) (b ≡ other) (decide_number a layer) (decide_number b other)

decide_space : (layer other : ℕ) (min : ℤ) (shapes : List Shape) (a b : Shape) → Decided (BreaksSpace layer other min shapes a b)
decide_space layer other min shapes a b = elim (decide_near min a.rect b.rect) [
  | inr far ↦ inr (λ h. far h.near)
  | inl near ↦ elim (decide_gap shapes a b) [
    | inl covered ↦ inr (λ h. h.bare covered)
    | inr bare_gap ↦ elim (decide_either ((a.layer ≡ layer) × (b.layer ≡ other)) ((a.layer ≡ other) × (b.layer ≡ layer)) (decide_layers a.layer b.layer layer other) (decide_layers a.layer b.layer other layer)) [
      | inl on ↦ inl (record { on = on; near = near; bare = bare_gap })
      | inr off ↦ inr (λ h. off h.on)
    ]
  ]
]

decide_some_has : (has : ℕ → Type 0) (each : (n : ℕ) → Decided (has n)) (ns : List ℕ) → Decided (SomeHas has ns)
decide_some_has has each [] = inr (λ none. none)
decide_some_has has each (n ∷ ns) = decide_either (has n) (SomeHas has ns) (each n) (decide_some_has has each ns)

decide_enclose : (layer : ℕ) (by : List ℕ) (min : ℤ) (shapes : List Shape) (a : Shape) → pos 1 ≤ℤ min → Decided (BreaksEnclose layer by min shapes a)
decide_enclose layer by min shapes a some =
    let g = grown_of min a.rect some in
    elim (decide_number a.layer layer) [
      | inr off ↦ inr (λ h. off h.on)
      | inl on ↦ elim (decide_some_has (λ (other : ℕ). IsCoveredBy other shapes g.0) (λ other. decide_covered g.0 (rects_on other shapes)) by) [
        | inl h ↦ inr (not_bare layer by min shapes a g.0 g.1 h)
        | inr none ↦ inl (bare layer by min shapes a g.0 g.1 on none)
      ]
    ]

decide_narrow : (layer : ℕ) (min : ℤ) (shapes : List Shape) (a : Shape) → IsMinimum min → IsReachable a.rect → Decided (BreaksWidth layer min shapes a)
decide_narrow layer min shapes a is reach = elim (decide_number a.layer layer) [
  | inr off ↦ inr (λ h. off h.on)
  | inl on ↦ elim (decide_width (rects_on layer shapes) min a.rect is reach) [
    | inl wide ↦ inr (λ h. h.narrow wide)
    | inr narrow ↦ inl (record { on = on; narrow = narrow })
  ]
]

pub decide_breaks : (rule : Rule) (shapes : List Shape) (a : Shape) (b : Option Shape) → HasMinimum rule → IsReachable a.rect → Decided (Breaks rule shapes a b)
decide_breaks (Width layer min) shapes a None is reach = decide_narrow layer min shapes a is reach
decide_breaks (Width layer min) shapes a (Some b) is reach = inr (λ none. none)
decide_breaks (Space layer other min) shapes a None is reach = inr (λ none. none)
decide_breaks (Space layer other min) shapes a (Some b) is reach = decide_space layer other min shapes a b
decide_breaks (Enclose layer by min) shapes a None is reach = decide_enclose layer by min shapes a is.positive
decide_breaks (Enclose layer by min) shapes a (Some b) is reach = inr (λ none. none)
