-- The boxes of channel cells that are on one net are those of one channel.
use Rattle.std.proofs.Common.{◌≡◌, ◌⊎◌, inl, inr, ◌↔◌, ℕ, zero, suc, ◌+◌, ◌<◌, ◌≤◌, List, [], ◌∷◌, length, map, Some, refl, sym, ap, subst, ◌∙◌, arith}
use Rattle.std.specs.Prelude.{Contains, slice_get}
use Rattle.std.specs.declared.cmp.Ordering.TheVariants.{Less}
use Rattle.std.proofs.lemmas.Bool.{cases_lt}
use Rattle.std.proofs.lemmas.Int.{by_lt_z, ints}
use Rattle.std.proofs.lemmas.List.{get_or_past}
use Rattle.std.proofs.lemmas.Option.{slice_get_cases, slice_get_within, get_or_from_slice_get, same_Some}
use Rattle.or_geom.specs.declared.shape.Point.{Point}
use Rattle.or_geom.specs.declared.shape.Rect.{Rect}
use Rattle.or_geom.specs.declared.shape.Shape.{Shape}
use Rattle.or_geom.specs.Covered.{HasCellInSome}
use Rattle.or_geom.specs.ShapeOrder.{shape_order}
use Rattle.or_geom.proofs.CoverLaws.{cell_among}
use Rattle.or_geom.proofs.ListLaws.{contained_at, contains_none, one_at}
use Rattle.or_geom.proofs.PlaceLaws.{same_point}
use Rattle.cell_hierarchy.specs.FlatLists.{point_order}
use Rattle.shape_bins.proofs.CoverLaws.{shape_over}
use Rattle.tech_rules.specs.declared.tech.Device.{Device}
use Rattle.tech_rules.proofs.LinkedLaws.{linked_itself}
use Rattle.net_extractor.specs.ShapeNets.{AreShapeNets}
use Rattle.net_extractor.specs.FirstAppearance.{AppearFrom}
use Rattle.net_extractor.proofs.ExtractLaws.{earlier_less}
use Rattle.label_binding.proofs.PlaceLaws.{at_contained}
use Rattle.drawn_devices.specs.Cells.{ShareSide}
use Rattle.drawn_devices.specs.ChannelBoxes.{AreChannelShapes, AreChannelBoxes, AreChannelGroups, low_cell}
use Rattle.drawn_devices.specs.Channels.{IsChannelCell, ChannelOf}
use Rattle.drawn_devices.specs.Groups.{boxes_with, AreBoxGroups}
use Rattle.drawn_devices.proofs.CellLaws.{Has}
use Rattle.drawn_devices.proofs.ChannelLaws.{alone_0, cell_of, channels_alike, channel_end}
use Rattle.drawn_devices.proofs.CutLaws.{rect_over}
use Rattle.drawn_devices.proofs.GroupLaws.{IsBoxAt, IsFirstShape, box_with, of_shape, first_shape}
use Rattle.drawn_devices.proofs.NumberLaws.{other_at}
use Rattle.drawn_devices.proofs.OrderLaws.{IsUpTo, not_behind, comes_before, shapes_up, corner_up}

-- the corner of a box is one of its cells
low_has : (r : Rect) → Has r (low_cell r)
low_has r = record { left = omega (arith, ints); right = r.wide; low = omega (arith, ints); high = r.tall }

itself_up : (p : Point) → IsUpTo p p
itself_up p = record { order = inr (refl, omega (arith, ints)) }

head_is : {X : Type 0} (xs : List X) (x y : X) (rest others : List X) → xs ≡ x ∷ rest → xs ≡ y ∷ others → x ≡ y
head_is xs x y rest others one two = let e : x ∷ rest ≡ y ∷ others = sym one ∙ two in cc

behind_one : (v : ℕ) (vs : List ℕ) (next i m : ℕ) → (m < next) ⊎ ((j : ℕ) × (j < i) × (slice_get vs j ≡ Some m)) → (m < next) ⊎ ((j : ℕ) × (j < suc i) × (slice_get (v ∷ vs) j ≡ Some m))
behind_one v vs next i m (inl below) = inl below
behind_one v vs next i m (inr e) = let less = e.1 in inr (suc e.0, omega (arith, less), e.2)

-- what an index of the numbers has among the shapes
other_shape : (list : List Shape) (nets : List ℕ) (i n : ℕ) → length nets ≡ length list → slice_get nets i ≡ Some n → (s : Shape) × (slice_get list i ≡ Some s)
other_shape list nets i n sized at = elim (slice_get_cases list i).1 [
  | inl here ↦ (here.0, here.2)
  | inr past ↦ let lt = slice_get_within nets i n at in let le = past.0 in absurd (omega (arith, sized, lt, le))
]

-- of numbers that run by first appearance, a smaller one stands before
smaller_before : (numbers : List ℕ) (next i n m : ℕ) → AppearFrom next (map (λ (k : ℕ). Some k) numbers) → slice_get numbers i ≡ Some n → m < n → (m < next) ⊎ ((j : ℕ) × (j < i) × (slice_get numbers j ≡ Some m))
smaller_before [] next i n m appear at lt = absurd cc
smaller_before (v ∷ vs) next zero n m (inl seen) at lt = let e : v ≡ n = same_Some v n at in let below = seen.0 in inl (omega (arith, e, below, lt))
smaller_before (v ∷ vs) next zero n m (inr fresh) at lt = let e : v ≡ n = same_Some v n at in let is = fresh.0 in inl (omega (arith, e, is, lt))
smaller_before (v ∷ vs) next (suc i) n m (inl seen) at lt = behind_one v vs next i m (smaller_before vs next i n m seen.1 at lt)
smaller_before (v ∷ vs) next (suc i) n m (inr fresh) at lt = elim (smaller_before vs (next + 1) i n m fresh.1 at lt) [
  | inr e ↦ behind_one v vs next i m (inr e)
  | inl below ↦ elim (cases_lt m next) [
    | inl less ↦ inl less
    | inr ge ↦ let is = fresh.0 in let same : v ≡ m = omega (arith, is, below, ge) in inr (0, omega arith, ap (λ (k : ℕ). Some k) same)
  ]
]

module _ (shapes : List Shape) (device : Device) (list : List Shape) (nets : List ℕ) (are : AreChannelShapes shapes device list) (numbered : AreShapeNets alone_0 list nets) where
  -- cells of shapes with one number are of one channel, and no others
  one_channel : (i j k n : ℕ) (s t : Shape) (p q : Point) → slice_get list i ≡ Some s → slice_get list j ≡ Some t → slice_get nets i ≡ Some k → slice_get nets j ≡ Some n → Has s.rect p → Has t.rect q → (k ≡ n) ↔ ChannelOf shapes device p q
  one_channel i j k n s t p q at_s at_t is_k is_n has other =
      let alike = channels_alike shapes device list are p q s t (contained_at list i s at_s) (contained_at list j t at_t) has other in
      let one = numbered.one i j k n s t at_s at_t is_k is_n in
      (λ same. alike.1 (one.0 same), λ linked. one.1 (alike.0 linked))

  -- the corner of a shape isn't behind that of a later one
  in_order : (i j : ℕ) (s t : Shape) → i ≤ j → slice_get list i ≡ Some s → slice_get list j ≡ Some t → IsUpTo (low_cell s.rect) (low_cell t.rect)
  in_order i j s t le at_s at_t = elim (cases_lt i j) [
    | inl lt ↦ shapes_up s t (are.on s (contained_at list i s at_s) ∙ sym (are.on t (contained_at list j t at_t))) (earlier_less shape_order list i j s t are.rise lt at_s at_t)
    | inr ge ↦
        let e : i ≡ j = omega (arith, le, ge) in
        let same : s ≡ t = one_at list j s t (subst (λ (k : ℕ). slice_get list k ≡ Some s) e at_s) at_t in
        subst (λ (u : Shape). IsUpTo (low_cell s.rect) (low_cell u.rect)) same (itself_up (low_cell s.rect))
  ]

  -- a shape with the cell, and its number
  record IsNumberedOver (p : Point) : Type 0 where
    index : ℕ
    shape : Shape
    number : ℕ
    at : IsBoxAt number list nets index shape
    has : Has shape.rect p

  numbered_over : (p : Point) → IsChannelCell shapes device p → IsNumberedOver p
  numbered_over p of =
      let over = shape_over 0 list p.x p.y ((are.cells p).1 of) in
      let at = at_contained list over.shape over.there in
      let net = other_at list nets over.there.0 over.shape numbered.sized at in
      record { index = over.there.0; shape = over.shape; number = net.0; at = record { there = at; has = net.1 }; has = over.holds }

  -- the boxes with a number, of which this is the first
  group_boxes : (k : ℕ) (boxes rest : List Rect) (first : Rect) → boxes ≡ boxes_with k list nets → boxes ≡ first ∷ rest → AreChannelBoxes shapes device boxes
  group_boxes k boxes rest first is begins =
      let f = first_shape k list nets first rest (sym is ∙ begins) in
      let corner : Has f.shape.rect (low_cell first) = subst (λ (r : Rect). Has f.shape.rect (low_cell r)) f.is (low_has f.shape.rect) in
      let own : IsChannelCell shapes device (low_cell first) = cell_of shapes device list are f.shape (low_cell first) (contained_at list f.index f.shape f.at.there) corner in
      record {
        first = first;
        rest = rest;
        is = begins;
        least = record {
          of = own;
          least = λ other linked.
              let over = numbered_over other (channel_end shapes device (low_cell first) other own linked) in
              let same : k ≡ over.number = (one_channel f.index over.index k over.number f.shape over.shape (low_cell first) other f.at.there over.at.there f.at.has over.at.has corner over.has).1 linked in
              let le = f.before over.index over.shape (record { there = over.at.there; has = over.at.has ∙ ap (λ (n : ℕ). Some n) (sym same) }) in
              let up = in_order f.index over.index f.shape over.shape le f.at.there over.at.there in
              let up_first : IsUpTo (low_cell first) (low_cell over.shape.rect) = subst (λ (r : Rect). IsUpTo (low_cell r) (low_cell over.shape.rect)) f.is up in
              not_behind (low_cell first) other (corner_up over.shape.rect (low_cell first) other up_first over.has.left over.has.low);
        };
        cells = λ p. (
          λ h.
              let r = rect_over boxes p h in
              let of = of_shape k list nets r.0 (subst (λ (l : List Rect). Contains l r.0) is r.1) in
              let has : Has of.shape.rect p = subst (λ (z : Rect). Has z p) (sym of.is) r.2 in
              (one_channel f.index of.index k k f.shape of.shape (low_cell first) p f.at.there of.at.there f.at.has of.at.has corner has).0 refl,
          λ linked.
              let over = numbered_over p (channel_end shapes device (low_cell first) p own linked) in
              let same : k ≡ over.number = (one_channel f.index over.index k over.number f.shape over.shape (low_cell first) p f.at.there over.at.there f.at.has over.at.has corner over.has).1 linked in
              let listed : Contains boxes over.shape.rect = subst (λ (l : List Rect). Contains l over.shape.rect) (sym is) (box_with k list nets over.index over.shape (record { there = over.at.there; has = over.at.has ∙ ap (λ (n : ℕ). Some n) (sym same) })) in
              cell_among boxes over.shape.rect p.x p.y listed over.has,
        );
      }

  -- the first shapes of two numbers
  record IsPair (j k : ℕ) (a b : Rect) : Type 0 where
    first : IsFirstShape j list nets a
    second : IsFirstShape k list nets b

  -- of two numbers the first shape of the smaller stands earlier
  earlier_first : (j k : ℕ) (a b : Rect) (pair : IsPair j k a b) → j < k → pair.first.index < pair.second.index
  earlier_first j k a b pair lt = elim (smaller_before nets 0 pair.second.index k j numbered.numbered pair.second.at.has lt) [
    | inl below ↦ absurd (omega (arith, below))
    | inr e ↦
        let at = other_shape list nets e.0 j numbered.sized e.2 in
        let le = pair.first.before e.0 at.0 (record { there = at.1; has = e.2 }) in
        let less = e.1 in
        omega (arith, le, less)
  ]

  -- the corners of their boxes differ
  apart_first : (j k : ℕ) (a b : Rect) (pair : IsPair j k a b) → j < k → a.x1 ≡ b.x1 → a.y1 ≡ b.y1 → ⊥
  apart_first j k a b pair lt x y =
      let f = pair.first in
      let g = pair.second in
      let has : Has f.shape.rect (low_cell a) = subst (λ (r : Rect). Has f.shape.rect (low_cell r)) f.is (low_has f.shape.rect) in
      let other : Has g.shape.rect (low_cell b) = subst (λ (r : Rect). Has g.shape.rect (low_cell r)) g.is (low_has g.shape.rect) in
      let here : Has g.shape.rect (low_cell a) = subst (Has g.shape.rect) (same_point (low_cell b) (low_cell a) (sym x) (sym y)) other in
      let same : j ≡ k = (one_channel f.index g.index j k f.shape g.shape (low_cell a) (low_cell a) f.at.there g.at.there f.at.has g.at.has has here).1 (linked_itself (IsChannelCell shapes device) ShareSide (low_cell a)) in
      omega (arith, same, lt)

  begins_before : (j k : ℕ) (a b : Rect) → IsPair j k a b → j < k → point_order (low_cell a) (low_cell b) ≡ Less
  begins_before j k a b pair lt =
      let less = earlier_first j k a b pair lt in
      let f = pair.first in
      let g = pair.second in
      let up = in_order f.index g.index f.shape g.shape (omega (arith, less)) f.at.there g.at.there in
      let here : IsUpTo (low_cell a) (low_cell b) = subst (λ (r : Rect). IsUpTo (low_cell r) (low_cell b)) f.is (subst (λ (r : Rect). IsUpTo (low_cell f.shape.rect) (low_cell r)) g.is up) in
      comes_before (low_cell a) (low_cell b) (elim here.order [
        | inl left ↦ inl left
        | inr level ↦ inr (level.0, by_lt_z a.y1 b.y1 (λ below. below) (λ above. let le = level.1 in absurd (apart_first j k a b pair lt level.0 (omega (arith, ints, le, above)))))
      ])

  module _ (groups : List (List Rect)) (grouped : AreBoxGroups list nets groups) where
    group_is : (k : ℕ) (boxes : List Rect) → slice_get groups k ≡ Some boxes → boxes ≡ boxes_with k list nets
    group_is k boxes at = sym (get_or_from_slice_get groups k boxes [] at) ∙ grouped.each k

    some_first : (k : ℕ) (boxes : List Rect) → slice_get groups k ≡ Some boxes → (first : Rect) × (rest : List Rect) × (boxes ≡ first ∷ rest)
    some_first k [] at = absurd (grouped.some k (slice_get_within groups k [] at) (get_or_from_slice_get groups k [] [] at))
    some_first k (first ∷ rest) at = (first, rest, refl)

    first_of : (k : ℕ) (boxes rest : List Rect) (first : Rect) → slice_get groups k ≡ Some boxes → boxes ≡ first ∷ rest → IsFirstShape k list nets first
    first_of k boxes rest first at begins = first_shape k list nets first rest (sym (group_is k boxes at) ∙ begins)

    -- the cell's shape is in the group of its number
    in_group : (p : Point) → IsChannelCell shapes device p → (k : ℕ) × (boxes : List Rect) × (slice_get groups k ≡ Some boxes) × HasCellInSome boxes p.x p.y
    in_group p of =
        let over = numbered_over p of in
        let listed = box_with over.number list nets over.index over.shape over.at in
        elim (slice_get_cases groups over.number).1 [
          | inl at ↦ (over.number, at.0, at.2, cell_among at.0 over.shape.rect p.x p.y (subst (λ (l : List Rect). Contains l over.shape.rect) (sym (group_is over.number at.0 at.2)) listed) over.has)
          | inr past ↦
              let none : boxes_with over.number list nets ≡ [] = sym (grouped.each over.number) ∙ get_or_past groups over.number [] past.0 in
              absurd (contains_none over.shape.rect (subst (λ (l : List Rect). Contains l over.shape.rect) none listed))
        ]

    pub groups_are : AreChannelGroups shapes device groups
    groups_are = record {
      each = λ k boxes at. let f = some_first k boxes at in group_boxes k boxes f.1 f.0 (group_is k boxes at) f.2;
      rise = λ j k a b lt at_a at_b first second rest others begins_a begins_b.
          begins_before j k first second (record { first = first_of j a rest first at_a begins_a; second = first_of k b others second at_b begins_b }) lt;
      all = in_group;
    }
