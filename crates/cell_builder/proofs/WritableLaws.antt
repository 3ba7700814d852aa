-- The library of drawn cells can be written.
use Rattle.std.proofs.Common.{◌≡◌, ◌≢◌, inl, inr, ℤ, ◌<ℤ◌, List, [], ◌∷◌, ◌++◌, map, Bool, true, false, ◌&&◌, cond, Option, Some, None, refl, sym, ap, subst, ◌∙◌, arith}
use Rattle.std.proofs.lemmas.Int.{ints}
use Rattle.std.specs.Prelude.{slice_get, int_lt}
use Rattle.std.specs.Ordering.{int_eq}
use Rattle.std.specs.List.{AllByRecursion}
use Rattle.or_geom.specs.declared.shape.Point.{Point}
use Rattle.or_geom.specs.declared.shape.Rect.{Rect}
use Rattle.or_geom.specs.declared.shape.Shape.{Shape}
use Rattle.or_geom.proofs.PlaceLaws.{same_point}
use Rattle.rectilinear.specs.declared.ring.RingSide.{RingSide}
use Rattle.rectilinear.specs.Ring.{side, sides_of}
use Rattle.rectilinear.specs.Corners.{corners_of, is_zero, is_up, is_down, is_right, is_left, is_run, steps, turns_after, turns}
use Rattle.rectilinear.specs.Simple.{LiesBetween, IsSimple, MeetAtMostThere}
use Rattle.gds_library.specs.declared.library.Structure.{Structure}
use Rattle.gds_library.specs.Writable.{IsText, IsWritableRing, IsWritableElement, IsWritableCell}
use Rattle.tech_rules.specs.declared.tech.Layer.{Layer}
use Rattle.cell_builder.specs.declared.cell.PlacedInstance.{PlacedInstance}
use Rattle.cell_builder.specs.declared.cell.PlacedLabel.{PlacedLabel}
use Rattle.cell_builder.specs.declared.cell.DrawnCell.{DrawnCell}
use Rattle.cell_builder.specs.Structures.{ring, instance_element, boundary_on, wire_element, text_on, label_element, cell_elements}
use Rattle.cell_builder.specs.Finish.{IsFinishedCell, AreFinished}
use Rattle.cell_builder.specs.Writable.{IsWritableInstance, IsWritableWire, IsWritableText, IsWritableDrawn, FinishedIsWritable}
use Rattle.cell_builder.proofs.FlatLaws.{all_permuted}

-- a ring of four corners

only : (a z : ℤ) → LiesBetween a z a → z ≡ a
only a z (inl b) = let low = b.0 in let high = b.1 in omega (arith, ints, low, high)
only a z (inr b) = let low = b.0 in let high = b.1 in omega (arith, ints, low, high)

abbrev bottom : Rect → RingSide
bottom r = side (record { x = r.x1; y = r.y1 }) (record { x = r.x2; y = r.y1 })

abbrev right : Rect → RingSide
right r = side (record { x = r.x2; y = r.y1 }) (record { x = r.x2; y = r.y2 })

abbrev top : Rect → RingSide
top r = side (record { x = r.x2; y = r.y2 }) (record { x = r.x1; y = r.y2 })

abbrev left : Rect → RingSide
left r = side (record { x = r.x1; y = r.y2 }) (record { x = r.x1; y = r.y1 })

bottom_right : (r : Rect) → MeetAtMostThere (bottom r) (right r)
bottom_right r p a b = let e = same_point p (record { x = r.x2; y = r.y1 }) (only r.x2 p.x b.in_x) (only r.y1 p.y a.in_y) in (e, e)

right_top : (r : Rect) → MeetAtMostThere (right r) (top r)
right_top r p a b = let e = same_point p (record { x = r.x2; y = r.y2 }) (only r.x2 p.x a.in_x) (only r.y2 p.y b.in_y) in (e, e)

top_left : (r : Rect) → MeetAtMostThere (top r) (left r)
top_left r p a b = let e = same_point p (record { x = r.x1; y = r.y2 }) (only r.x1 p.x b.in_x) (only r.y2 p.y a.in_y) in (e, e)

left_bottom : (r : Rect) → MeetAtMostThere (left r) (bottom r)
left_bottom r p a b = let e = same_point p (record { x = r.x1; y = r.y1 }) (only r.x1 p.x a.in_x) (only r.y1 p.y b.in_y) in (e, e)

bottom_top : (r : Rect) → MeetAtMostThere (bottom r) (top r)
bottom_top r p a b = let tall = r.tall in let e = only r.y1 p.y a.in_y in let f = only r.y2 p.y b.in_y in absurd (omega (arith, ints, tall, e, f))

right_left : (r : Rect) → MeetAtMostThere (right r) (left r)
right_left r p a b = let wide = r.wide in let e = only r.x2 p.x a.in_x in let f = only r.x1 p.x b.in_x in absurd (omega (arith, ints, wide, e, f))

less_differs : (a b : ℤ) → a <ℤ b → a ≢ b
less_differs a b lt e = omega (arith, ints, lt, e)

more_differs : (a b : ℤ) → a <ℤ b → b ≢ a
more_differs a b lt e = omega (arith, ints, lt, e)

ring_simple : (r : Rect) → IsSimple (ring r)
ring_simple r = record {
  four = omega arith;
  straight = (inr (refl, less_differs r.x1 r.x2 r.wide), (inl (refl, less_differs r.y1 r.y2 r.tall), (inr (refl, more_differs r.x1 r.x2 r.wide), (inl (refl, more_differs r.y1 r.y2 r.tall), tt))));
  meet = ((inl (bottom_right r), (inl (bottom_top r), (inr (left_bottom r), tt))), ((inl (right_top r), (inl (right_left r), tt)), ((inl (top_left r), tt), (tt, tt))));
}

none : (b c : Bool) → cond b false (cond c false false) ≡ false
none true c = refl
none false true = refl
none false false = refl

level_upright : (s t : RingSide) → int_eq s.a.x s.b.x ≡ false → int_eq t.a.y t.b.y ≡ false → is_run s t ≡ false
level_upright s t e f =
    (λ i. cond (e i && int_lt s.a.y s.b.y) (is_up t) (cond (e i && int_lt s.b.y s.a.y) (is_down t) (cond (is_right s) (f i && int_lt t.a.x t.b.x) (cond (is_left s) (f i && int_lt t.b.x t.a.x) false)))) ∙ none (is_right s) (is_left s)

upright_level : (s t : RingSide) → int_eq s.a.y s.b.y ≡ false → int_eq t.a.x t.b.x ≡ false → is_run s t ≡ false
upright_level s t e f =
    (λ i. cond (is_up s) (f i && int_lt t.a.y t.b.y) (cond (is_down s) (f i && int_lt t.b.y t.a.y) (cond (e i && int_lt s.a.x s.b.x) (is_right t) (cond (e i && int_lt s.b.x s.a.x) (is_left t) false)))) ∙ none (is_up s) (is_down s)

zero_x : (s : RingSide) → int_eq s.a.x s.b.x ≡ false → is_zero s ≡ false
zero_x s e = λ i. e i && int_eq s.a.y s.b.y

and_false : (b : Bool) → b && false ≡ false
and_false true = refl
and_false false = refl

zero_y : (s : RingSide) → int_eq s.a.y s.b.y ≡ false → is_zero s ≡ false
zero_y s e = (λ i. int_eq s.a.x s.b.x && e i) ∙ and_false (int_eq s.a.x s.b.x)

step_one : (s : RingSide) (ss : List RingSide) → is_zero s ≡ false → steps (s ∷ ss) ≡ s ∷ steps ss
step_one s ss e = ap (λ (b : Bool). cond b (steps ss) (s ∷ steps ss)) e

turn_one : (s t : RingSide) (ts : List RingSide) → is_run s t ≡ false → turns_after s (t ∷ ts) ≡ t.a ∷ turns_after t ts
turn_one s t ts e = ap (λ (b : Bool). cond b (turns_after t ts) (t.a ∷ turns_after t ts)) e

less_unequal : (a b : ℤ) → a <ℤ b → int_eq a b ≡ false
less_unequal a b lt = grind (arith, ints, lt)

more_unequal : (a b : ℤ) → a <ℤ b → int_eq b a ≡ false
more_unequal a b lt = grind (arith, ints, lt)

ring_steps : (r : Rect) → steps (sides_of (ring r)) ≡ sides_of (ring r)
ring_steps r =
    step_one (bottom r) (right r ∷ top r ∷ left r ∷ []) (zero_x (bottom r) (less_unequal r.x1 r.x2 r.wide))
    ∙ ap (λ (ss : List RingSide). bottom r ∷ ss) (step_one (right r) (top r ∷ left r ∷ []) (zero_y (right r) (less_unequal r.y1 r.y2 r.tall))
    ∙ ap (λ (ss : List RingSide). right r ∷ ss) (step_one (top r) (left r ∷ []) (zero_x (top r) (more_unequal r.x1 r.x2 r.wide))
    ∙ ap (λ (ss : List RingSide). top r ∷ ss) (step_one (left r) [] (zero_y (left r) (more_unequal r.y1 r.y2 r.tall)))))

ring_turns : (r : Rect) → corners_of (ring r) ≡ ring r
ring_turns r =
    ap turns (ring_steps r)
    ∙ (turn_one (left r) (bottom r) (right r ∷ top r ∷ left r ∷ []) (upright_level (left r) (bottom r) (more_unequal r.y1 r.y2 r.tall) (less_unequal r.x1 r.x2 r.wide))
    ∙ ap (λ (ps : List Point). record { x = r.x1; y = r.y1 } ∷ ps) (turn_one (bottom r) (right r) (top r ∷ left r ∷ []) (level_upright (bottom r) (right r) (less_unequal r.x1 r.x2 r.wide) (less_unequal r.y1 r.y2 r.tall))
    ∙ ap (λ (ps : List Point). record { x = r.x2; y = r.y1 } ∷ ps) (turn_one (right r) (top r) (left r ∷ []) (upright_level (right r) (top r) (less_unequal r.y1 r.y2 r.tall) (more_unequal r.x1 r.x2 r.wide))
    ∙ ap (λ (ps : List Point). record { x = r.x2; y = r.y2 } ∷ ps) (turn_one (top r) (left r) [] (level_upright (top r) (left r) (more_unequal r.x1 r.x2 r.wide) (more_unequal r.y1 r.y2 r.tall))))))

ring_writable : (s : Shape) → IsWritableWire s → IsWritableRing (ring s.rect)
ring_writable s w = record {
  short = (w.low, (record { x = w.high.x; y = w.low.y }, (w.high, (record { x = w.low.x; y = w.high.y }, tt))));
  few = omega arith;
  simple = ring_simple s.rect;
  turning = ring_turns s.rect;
}

-- elements, cells and the library

boundary_writable : (o : Option Layer) (corners : List Point) → IsWritableRing corners → IsWritableElement (boundary_on o corners)
boundary_writable None corners w = record { body = w; props = tt }
boundary_writable (Some layer) corners w = record { body = w; props = tt }

text_writable : (o : Option Layer) (l : PlacedLabel) → IsWritableText l → IsWritableElement (text_on o l.at l.text)
text_writable None l w = record { body = record { text = w.text; short = w.at }; props = tt }
text_writable (Some layer) l w = record { body = record { text = w.text; short = w.at }; props = tt }

instance_writable : (i : PlacedInstance) → IsWritableInstance i → IsWritableElement (instance_element i)
instance_writable i w = record { body = record { named = w.of_; at = w.at }; props = (w.name, tt) }

all_mapped : {X Y : Type 0} (P : X → Type 0) (Q : Y → Type 0) (f : X → Y) (xs : List X) → ((x : X) → P x → Q (f x)) → AllByRecursion P xs → AllByRecursion Q (map f xs)
all_mapped P Q f [] g all = tt
all_mapped P Q f (x ∷ xs) g all = (g x all.0, all_mapped P Q f xs g all.1)

all_joined : {X : Type 0} (P : X → Type 0) (xs ys : List X) → AllByRecursion P xs → AllByRecursion P ys → AllByRecursion P (xs ++ ys)
all_joined P [] ys a b = b
all_joined P (x ∷ xs) ys a b = (a.0, all_joined P xs ys a.1 b)

finished_writable : (layers : List Layer) (cell : DrawnCell) (s : Structure) → IsFinishedCell layers cell s → IsWritableDrawn cell → IsWritableCell s
finished_writable layers cell s fin w =
    let d = fin.sorted in
    let instances = subst (AllByRecursion IsWritableInstance) (sym fin.order.instances) w.instances in
    let wires = all_permuted IsWritableWire cell.wires d.wires fin.order.wires_same w.wires in
    let labels = all_permuted IsWritableText cell.labels d.labels fin.order.labels_same w.labels in
    let body : AllByRecursion IsWritableElement (cell_elements layers d) =
    all_joined IsWritableElement (map instance_element d.instances) _ (all_mapped IsWritableInstance IsWritableElement instance_element d.instances instance_writable instances)
    (all_joined IsWritableElement (map (wire_element layers) d.wires) _ (all_mapped IsWritableWire IsWritableElement (wire_element layers) d.wires (λ v h. boundary_writable (slice_get layers v.layer) (ring v.rect) (ring_writable v h)) wires)
    (all_mapped IsWritableText IsWritableElement (label_element layers) d.labels (λ l h. text_writable (slice_get layers l.layer) l h) labels)) in
    subst IsWritableCell (sym fin.is) (record { name = subst IsText (sym fin.order.name) w.name; elements = body })

all_finished : (layers : List Layer) (cells : List DrawnCell) (made : List Structure) → AreFinished layers cells made → AllByRecursion IsWritableDrawn cells → AllByRecursion IsWritableCell made
all_finished layers [] made each w = subst (AllByRecursion IsWritableCell) (sym each) tt
all_finished layers (c ∷ cs) [] each w = absurd each
all_finished layers (c ∷ cs) (s ∷ ss) each w = (finished_writable layers c s each.0 w.0, all_finished layers cs ss each.1 w.1)

pub finished_is_writable : FinishedIsWritable
finished_is_writable layers list name lib fin text old new differ = record {
  name = subst IsText (sym fin.named) text;
  names = differ;
  cells = subst (AllByRecursion IsWritableCell) (sym fin.structs.parts) (all_joined IsWritableCell list.adopted fin.structs.made old (all_finished layers list.cells fin.structs.made fin.structs.each new));
}
