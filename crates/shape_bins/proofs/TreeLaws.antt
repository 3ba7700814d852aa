-- Trees that are put together.
use Rattle.std.proofs.Common.{◌≡◌, inl, inr, ℕ, zero, suc, ◌+◌, ◌-◌, ◌*◌, ◌<◌, ◌≤◌, List, [], ◌∷◌, ◌++◌, length, get_or, take, drop, Some, refl, sym, ap, subst, ◌∙◌, arith, append_assoc, length-append}
use Rattle.std.specs.Prelude.{Contains, slice_get}
use Rattle.std.proofs.lemmas.Bool.{cases_lt}
use Rattle.std.proofs.lemmas.Int.{ints}
use Rattle.std.proofs.lemmas.List.{take-append-drop}
use Rattle.std.proofs.lemmas.Option.{same_Some, slice_get_within, slice_get-get_or}
use Rattle.or_geom.specs.declared.shape.Rect.{Rect}
use Rattle.or_geom.specs.declared.shape.Shape.{Shape}
use Rattle.or_geom.specs.Containing.{HoldsRect}
use Rattle.or_geom.proofs.ListLaws.{contains_first, contains_later}
use Rattle.shape_bins.specs.declared.node.Node.{Node}
use Rattle.shape_bins.specs.Leaves.{IsLeafNode, AreLeafNodes, IsOverLeaves, IsTreeAdded}
use Rattle.shape_bins.specs.Nodes.{IsInHull, IsNodeOver, AreNodes, AreNodesFrom, position_at}
use Rattle.shape_bins.specs.Places.{AllBetween, AllAtLeast}

holds_all : (outer mid inner : Rect) → HoldsRect outer mid → HoldsRect mid inner → HoldsRect outer inner
holds_all outer mid inner a b = record { left = omega (arith, ints, a.left, b.left); right = omega (arith, ints, a.right, b.right); low = omega (arith, ints, a.low, b.low); high = omega (arith, ints, a.high, b.high) }

-- a hull that holds another holds what lies in that
pub held_wider : (shapes : List Shape) (wide hull : Shape) (place : ℕ) → hull.layer ≡ wide.layer → HoldsRect wide.rect hull.rect → IsInHull shapes hull place → IsInHull shapes wide place
held_wider shapes wide hull place on holds h = record { shape = h.shape; there = h.there; on = h.on ∙ on; holds = holds_all wide.rect hull.rect h.shape.rect holds h.holds }

-- leaves that are put together
pub leaves_append : (shapes : List Shape) (places : List ℕ) (layer begin mid end : ℕ) (xs ys : List Node) → AreLeafNodes shapes places layer begin mid xs → AreLeafNodes shapes places layer mid end ys → AreLeafNodes shapes places layer begin end (xs ++ ys)
leaves_append shapes places layer begin mid end [] ys a b = subst (λ (k : ℕ). AreLeafNodes shapes places layer k end ys) (sym a) b
leaves_append shapes places layer begin mid end (x ∷ xs) ys a b = (a.0, leaves_append shapes places layer x.end mid end xs ys a.1 b)

pub leaves_push : (shapes : List Shape) (places : List ℕ) (layer begin first end : ℕ) (xs : List Node) (leaf : Node) → AreLeafNodes shapes places layer begin first xs → IsLeafNode shapes places layer first end leaf → AreLeafNodes shapes places layer begin end (xs ++ leaf ∷ [])
leaves_push shapes places layer begin first end xs leaf a l =
    let last : IsLeafNode shapes places layer first leaf.end leaf = subst (λ (k : ℕ). IsLeafNode shapes places layer first k leaf) (sym l.ends) l in
    leaves_append shapes places layer begin first end xs (leaf ∷ []) a (last, l.ends)

-- where the leaves end
abbrev leaves_end : ℕ → List Node → ℕ
leaves_end begin [] = begin
leaves_end begin (leaf ∷ rest) = leaves_end leaf.end rest

leaves_first : (shapes : List Shape) (places : List ℕ) (layer begin end k : ℕ) (xs : List Node) → AreLeafNodes shapes places layer begin end xs → AreLeafNodes shapes places layer begin (leaves_end begin (take k xs)) (take k xs)
leaves_first shapes places layer begin end zero xs a = refl
leaves_first shapes places layer begin end (suc k) [] a = refl
leaves_first shapes places layer begin end (suc k) (x ∷ xs) a = (a.0, leaves_first shapes places layer x.end end k xs a.1)

leaves_second : (shapes : List Shape) (places : List ℕ) (layer begin end k : ℕ) (xs : List Node) → AreLeafNodes shapes places layer begin end xs → AreLeafNodes shapes places layer (leaves_end begin (take k xs)) end (drop k xs)
leaves_second shapes places layer begin end zero xs a = a
leaves_second shapes places layer begin end (suc k) [] a = a
leaves_second shapes places layer begin end (suc k) (x ∷ xs) a = leaves_second shapes places layer x.end end k xs a.1

pub leaves_rise : (shapes : List Shape) (places : List ℕ) (layer begin end : ℕ) (xs : List Node) → AreLeafNodes shapes places layer begin end xs → begin ≤ end
leaves_rise shapes places layer begin end [] a = omega (arith, a)
leaves_rise shapes places layer begin end (x ∷ xs) a = let more = leaves_rise shapes places layer x.end end xs a.1 in omega (arith, more, a.0.over.rises, a.0.begins)

pub leaves_within : (shapes : List Shape) (places : List ℕ) (layer begin end : ℕ) (xs : List Node) → 0 < length xs → AreLeafNodes shapes places layer begin end xs → end ≤ length places
leaves_within shapes places layer begin end [] some a = absurd (omega (arith, some))
leaves_within shapes places layer begin end (x ∷ []) some a = omega (arith, a.0.over.within, a.1)
leaves_within shapes places layer begin end (x ∷ (y ∷ ys)) some a = leaves_within shapes places layer x.end end (y ∷ ys) (omega arith) a.1

-- what lies in the hulls of all leaves lies in one that holds these
pub leaves_held : (shapes : List Shape) (places : List ℕ) (layer begin end : ℕ) (xs : List Node) (hull : Shape) → hull.layer ≡ layer → ((leaf : Node) → Contains xs leaf → HoldsRect hull.rect leaf.hull.rect) → AreLeafNodes shapes places layer begin end xs
    → AllBetween (IsInHull shapes hull) places begin end
leaves_held shapes places layer begin end [] hull on holds a at place above below there = absurd (omega (arith, above, below, a))
leaves_held shapes places layer begin end (x ∷ xs) hull on holds a at place above below there = elim (cases_lt at x.end) [
  | inl lt ↦ held_wider shapes hull x.hull place (a.0.on ∙ sym on) (holds x (contains_first x xs)) (a.0.over.held at place (omega (arith, above, a.0.begins)) lt there)
  | inr ge ↦ leaves_held shapes places layer x.end end xs hull on (λ leaf h. holds leaf (contains_later x xs leaf h)) a.1 at place ge below there
]

-- what is no greater than the least places of all leaves is no greater than each place
pub leaves_least : (shapes : List Shape) (places : List ℕ) (layer begin end least : ℕ) (xs : List Node) → ((leaf : Node) → Contains xs leaf → least ≤ leaf.least) → AreLeafNodes shapes places layer begin end xs → AllAtLeast least places begin end
leaves_least shapes places layer begin end least [] all a at place above below there = absurd (omega (arith, above, below, a))
leaves_least shapes places layer begin end least (x ∷ xs) all a at place above below there = elim (cases_lt at x.end) [
  | inl lt ↦
      let first = all x (contains_first x xs) in
      let here = a.0.over.least at place (omega (arith, above, a.0.begins)) lt there in
      omega (arith, first, here)
  | inr ge ↦ leaves_least shapes places layer x.end end least xs (λ leaf h. all leaf (contains_later x xs leaf h)) a.1 at place ge below there
]

-- nodes one after another
pub begin_first : (end mid : ℕ) (xs ys : List Node) (k : ℕ) → position_at end ys 0 ≡ mid → k ≤ length xs → position_at end (xs ++ ys) k ≡ position_at mid xs k
begin_first end mid [] ys zero begins le = begins
begin_first end mid [] ys (suc k) begins le = absurd (omega (arith, le))
begin_first end mid (x ∷ xs) ys zero begins le = refl
begin_first end mid (x ∷ xs) ys (suc k) begins le = begin_first end mid xs ys k begins (omega (arith, le))

nodes_append : (shapes : List Shape) (places : List ℕ) (mid end : ℕ) (xs ys : List Node) → position_at end ys 0 ≡ mid → AreNodes shapes places mid xs → AreNodes shapes places end ys → AreNodes shapes places end (xs ++ ys)
nodes_append shapes places mid end [] ys begins a b = b
nodes_append shapes places mid end (x ∷ xs) ys begins a b = (
  record {
    counted = a.0.counted;
    there = omega (arith, a.0.there, length-append xs ys);
    over = a.0.over;
    behind = begin_first end mid xs ys (x.size - 1) begins (omega (arith, a.0.there)) ∙ a.0.behind;
    inner = λ many. begin_first end mid xs ys 0 begins (omega arith) ∙ a.0.inner many;
  },
  nodes_append shapes places mid end xs ys begins a.1 b,
)

pub nodes_both : (shapes : List Shape) (places : List ℕ) (begin mid end : ℕ) (xs ys : List Node) → AreNodesFrom shapes places begin mid xs → AreNodesFrom shapes places mid end ys → AreNodesFrom shapes places begin end (xs ++ ys)
nodes_both shapes places begin mid end xs ys a b = record {
  begins = begin_first end mid xs ys 0 b.begins (omega arith) ∙ a.begins;
  each = nodes_append shapes places mid end xs ys b.begins a.each b.each;
}

begin_none : (end : ℕ) (k : ℕ) → position_at end [] k ≡ end
begin_none end k = refl

begin_all : (end : ℕ) (xs : List Node) (k : ℕ) → length xs ≤ k → position_at end xs k ≡ end
begin_all end [] k le = refl
begin_all end (x ∷ xs) zero le = absurd (omega (arith, le))
begin_all end (x ∷ xs) (suc k) le = begin_all end xs k (omega (arith, le))

-- a node over all others
pub node_over_all : (shapes : List Shape) (places : List ℕ) (begin end : ℕ) (node : Node) (xs : List Node) → IsNodeOver shapes places node → node.first ≡ begin → node.end ≡ end → node.size ≡ length xs + 1 → (node.size ≡ 1 → ⊥)
    → AreNodesFrom shapes places begin end xs → AreNodesFrom shapes places begin end (node ∷ xs)
node_over_all shapes places begin end node xs over first last size many a = record {
  begins = first;
  each = (
    record {
      counted = omega (arith, size);
      there = omega (arith, size);
      over = over;
      behind = begin_all end xs (node.size - 1) (omega (arith, size)) ∙ sym last;
      inner = λ m. a.begins ∙ sym first;
    },
    a.each,
  );
}

pub leaf_alone : (shapes : List Shape) (places : List ℕ) (layer begin end : ℕ) (leaf : Node) → AreLeafNodes shapes places layer begin end (leaf ∷ []) → AreNodesFrom shapes places begin end (leaf ∷ [])
leaf_alone shapes places layer begin end leaf a = record {
  begins = a.0.begins;
  each = (
    record {
      counted = omega (arith, a.0.single);
      there = omega (arith, a.0.single);
      over = a.0.over;
      behind = sym a.1;
      inner = λ many. absurd (many a.0.single);
    },
    tt,
  );
}

over_leaves : (shapes : List Shape) (places : List ℕ) (layer begin end : ℕ) (leaves : List Node) (node : Node) → 0 < length leaves → IsOverLeaves leaves node → AreLeafNodes shapes places layer begin end leaves → IsNodeOver shapes places node
over_leaves shapes places layer begin end leaves node some o a =
    let first = o.begins shapes places layer begin end a in
    let last = o.ends shapes places layer begin end a in
    let rise = leaves_rise shapes places layer begin end leaves a in
    let within = leaves_within shapes places layer begin end leaves some a in
    record {
      rises = omega (arith, first, last, rise);
      within = omega (arith, last, within);
      held = λ at place above below there. leaves_held shapes places layer begin end leaves node.hull (o.on shapes places layer begin end a) o.holds a at place (omega (arith, above, first)) (omega (arith, below, last)) there;
      least = λ at place above below there. leaves_least shapes places layer begin end node.least leaves o.least a at place (omega (arith, above, first)) (omega (arith, below, last)) there;
    }

-- a tree is added by adding its only leaf
pub adds_leaf : (leaf : Node) (leaves old new : List Node) → leaves ≡ leaf ∷ [] → new ≡ old ++ leaf ∷ [] → IsTreeAdded leaves old new
adds_leaf leaf leaves old new only is = subst (λ (ls : List Node). IsTreeAdded ls old new) (sym only) (record {
  tree = leaf ∷ [];
  is = is;
  sized = omega arith;
  over = λ shapes places layer begin end a. leaf_alone shapes places layer begin end leaf a;
})

-- or its first node, and the trees below it
pub adds_both_trees : (k : ℕ) (leaves : List Node) (node : Node) (old one two new : List Node) → k ≤ length leaves → 1 < length leaves → IsOverLeaves leaves node → one ≡ old ++ node ∷ [] → IsTreeAdded (take k leaves) one two
    → IsTreeAdded (drop k leaves) two new → IsTreeAdded leaves old new
adds_both_trees k leaves node old one two new short many o pushed left right =
    let lens = length-append (take k leaves) (drop k leaves) in
    let whole : length (take k leaves) + length (drop k leaves) ≡ length leaves = sym lens ∙ ap length (take-append-drop k leaves) in
    let both : length (left.tree ++ right.tree) ≡ length left.tree + length right.tree = length-append left.tree right.tree in
    record {
      tree = node ∷ (left.tree ++ right.tree);
      is = right.is ∙ (ap (λ (l : List Node). l ++ right.tree) (left.is ∙ ap (λ (l : List Node). l ++ left.tree) pushed)
          ∙ (append_assoc (old ++ node ∷ []) left.tree right.tree ∙ append_assoc old (node ∷ []) (left.tree ++ right.tree)));
      sized = omega (arith, left.sized, right.sized, whole, both);
      over = λ shapes places layer begin end a. node_over_all shapes places begin end node (left.tree ++ right.tree)
          (over_leaves shapes places layer begin end leaves node (omega (arith, many)) o a) (o.begins shapes places layer begin end a) (o.ends shapes places layer begin end a)
          (omega (arith, o.sized, left.sized, right.sized, whole, both)) (λ e. omega (arith, e, o.sized, many))
          (nodes_both shapes places begin (leaves_end begin (take k leaves)) end left.tree right.tree
          (left.over shapes places layer begin (leaves_end begin (take k leaves)) (leaves_first shapes places layer begin end k leaves a))
          (right.over shapes places layer (leaves_end begin (take k leaves)) end (leaves_second shapes places layer begin end k leaves a)));
    }

-- the rectangle holds the hulls of the first leaves
abbrev pub HoldsFirst : List Node → ℕ → Rect → Type 0
HoldsFirst leaves k rect = (j : ℕ) (leaf : Node) → j < k → slice_get leaves j ≡ Some leaf → HoldsRect rect leaf.hull.rect

pub holds_goes_on : (leaves : List Node) (k : ℕ) (old new : Rect) (item : Node) → slice_get leaves k ≡ Some item → HoldsFirst leaves k old → HoldsRect new old → HoldsRect new item.hull.rect → HoldsFirst leaves (k + 1) new
holds_goes_on leaves k old new item there first wider here j leaf below at = elim (cases_lt j k) [
  | inl less ↦ holds_all new old leaf.hull.rect wider (first j leaf less at)
  | inr more ↦
      let same : j ≡ k = omega (arith, more, below) in
      subst (λ (n : Node). HoldsRect new n.hull.rect) (same_Some item leaf (sym there ∙ subst (λ (i : ℕ). slice_get leaves i ≡ Some leaf) same at)) here
]

-- no least place of the first leaves is less
abbrev pub IsLeastOfFirst : List Node → ℕ → ℕ → Type 0
IsLeastOfFirst leaves k least = (j : ℕ) (leaf : Node) → j < k → slice_get leaves j ≡ Some leaf → least ≤ leaf.least

pub least_goes_on : (leaves : List Node) (k old new : ℕ) (item : Node) → slice_get leaves k ≡ Some item → IsLeastOfFirst leaves k old → new ≤ old → new ≤ item.least → IsLeastOfFirst leaves (k + 1) new
least_goes_on leaves k old new item there first less here j leaf below at = elim (cases_lt j k) [
  | inl before ↦ let le = first j leaf before at in omega (arith, less, le)
  | inr more ↦
      let same : j ≡ k = omega (arith, more, below) in
      subst (λ (n : Node). new ≤ n.least) (same_Some item leaf (sym there ∙ subst (λ (i : ℕ). slice_get leaves i ≡ Some leaf) same at)) here
]

last_end : (shapes : List Shape) (places : List ℕ) (layer begin end : ℕ) (leaves : List Node) (other : Node) → 0 < length leaves → AreLeafNodes shapes places layer begin end leaves → (get_or leaves (length leaves - 1) other).end ≡ end
last_end shapes places layer begin end [] other some a = absurd (omega (arith, some))
last_end shapes places layer begin end (x ∷ []) other some a = a.1
last_end shapes places layer begin end (x ∷ (y ∷ ys)) other some a =
    let e : suc (length (y ∷ ys) - 1) ≡ length (x ∷ (y ∷ ys)) - 1 = omega arith in
    subst (λ (k : ℕ). (get_or (x ∷ (y ∷ ys)) k other).end ≡ end) e (last_end shapes places layer x.end end (y ∷ ys) other (omega arith) a.1)

first_of : (shapes : List Shape) (places : List ℕ) (layer begin end : ℕ) (leaves : List Node) (node : Node) → slice_get leaves 0 ≡ Some node → AreLeafNodes shapes places layer begin end leaves → (node.first ≡ begin) × (node.hull.layer ≡ layer)
first_of shapes places layer begin end [] node is a = absurd (let lt = slice_get_within [] 0 node is in omega (arith, lt))
first_of shapes places layer begin end (x ∷ xs) node is a =
    let e : x ≡ node = same_Some x node is in
    (subst (λ (n : Node). n.first ≡ begin) e a.0.begins, subst (λ (n : Node). n.hull.layer ≡ layer) e a.0.on)

pub over_made : (leaves : List Node) (first other : Node) (rect : Rect) (k least size : ℕ) → 0 < length leaves → slice_get leaves 0 ≡ Some first → length leaves ≤ k → HoldsFirst leaves k rect → IsLeastOfFirst leaves k least → size + 1 ≡ 2 * length leaves
    → IsOverLeaves leaves (record { hull = record { layer = first.hull.layer; rect = rect }; size = size; first = first.first; end = (get_or leaves (length leaves - 1) other).end; least = least })
over_made leaves first other rect k least size some at all holds lower sized = record {
  sized = sized;
  on = λ shapes places layer begin end a. (first_of shapes places layer begin end leaves first at a).1;
  begins = λ shapes places layer begin end a. (first_of shapes places layer begin end leaves first at a).0;
  ends = λ shapes places layer begin end a. last_end shapes places layer begin end leaves other some a;
  holds = λ leaf h.
      let lt = h.1 in
      holds h.0 leaf (omega (arith, lt, all)) (slice_get-get_or leaves h.0 leaf lt ∙ ap (λ (n : Node). Some n) h.2);
  least = λ leaf h.
      let lt = h.1 in
      lower h.0 leaf (omega (arith, lt, all)) (slice_get-get_or leaves h.0 leaf lt ∙ ap (λ (n : Node). Some n) h.2);
}

-- a leaf
pub leaf_made : (shapes : List Shape) (places : List ℕ) (layer first end at least : ℕ) (rect : Rect) → first < end → end ≤ length places → end ≤ at → AllBetween (IsInHull shapes (record { layer = layer; rect = rect })) places first at
    → AllAtLeast least places first at → IsLeafNode shapes places layer first end (record { hull = record { layer = layer; rect = rect }; size = 1; first = first; end = end; least = least })
leaf_made shapes places layer first end at least rect some within past held lower = record {
  single = refl;
  begins = refl;
  ends = refl;
  on = refl;
  over = record {
    rises = omega (arith, some);
    within = within;
    held = λ k place above below there. held k place above (omega (arith, below, past)) there;
    least = λ k place above below there. lower k place above (omega (arith, below, past)) there;
  };
}

pub held_here : (shapes : List Shape) (layer place : ℕ) (rect : Rect) (shape : Shape) → slice_get shapes place ≡ Some shape → shape.layer ≡ layer → HoldsRect rect shape.rect → IsInHull shapes (record { layer = layer; rect = rect }) place
held_here shapes layer place rect shape there on holds = record { shape = shape; there = there; on = on; holds = holds }

pub holds_self : (rect : Rect) → HoldsRect rect rect
holds_self rect = record { left = omega (arith, ints); right = omega (arith, ints); low = omega (arith, ints); high = omega (arith, ints) }

pub held_begins : (shapes : List Shape) (places : List ℕ) (layer first : ℕ) (shape : Shape) → ((place : ℕ) → slice_get places first ≡ Some place → slice_get shapes place ≡ Some shape) → shape.layer ≡ layer
    → AllBetween (IsInHull shapes (record { layer = layer; rect = shape.rect })) places first (first + 1)
held_begins shapes places layer first shape there on at place above below is =
    let same : at ≡ first = omega (arith, above, below) in
    held_here shapes layer place shape.rect shape (there place (subst (λ (k : ℕ). slice_get places k ≡ Some place) same is)) on (holds_self shape.rect)

pub held_goes_on : (shapes : List Shape) (places : List ℕ) (layer first at : ℕ) (old new : Rect) (shape : Shape) → ((place : ℕ) → slice_get places at ≡ Some place → slice_get shapes place ≡ Some shape) → shape.layer ≡ layer → HoldsRect new old → HoldsRect new shape.rect
    → AllBetween (IsInHull shapes (record { layer = layer; rect = old })) places first at → AllBetween (IsInHull shapes (record { layer = layer; rect = new })) places first (at + 1)
held_goes_on shapes places layer first at old new shape there on wider here held k place above below is = elim (cases_lt k at) [
  | inl less ↦ held_wider shapes (record { layer = layer; rect = new }) (record { layer = layer; rect = old }) place refl wider (held k place above less is)
  | inr more ↦
      let same : k ≡ at = omega (arith, more, below) in
      held_here shapes layer place new shape (there place (subst (λ (j : ℕ). slice_get places j ≡ Some place) same is)) on here
]

-- the place at one position, and the lesser of a bound and the place at the next
pub least_begins : (places : List ℕ) (first least : ℕ) → slice_get places first ≡ Some least → AllAtLeast least places first (first + 1)
least_begins places first least there at place above below is =
    let same : at ≡ first = omega (arith, above, below) in
    let e = same_Some least place (sym there ∙ subst (λ (k : ℕ). slice_get places k ≡ Some place) same is) in
    omega (arith, e)

pub lower_goes_on : (places : List ℕ) (first at old new here : ℕ) → slice_get places at ≡ Some here → new ≤ old → new ≤ here → AllAtLeast old places first at → AllAtLeast new places first (at + 1)
lower_goes_on places first at old new here there less below_here all k place above below is = elim (cases_lt k at) [
  | inl before ↦ let le = all k place above before is in omega (arith, less, le)
  | inr more ↦
      let same : k ≡ at = omega (arith, more, below) in
      let e = same_Some here place (sym there ∙ subst (λ (j : ℕ). slice_get places j ≡ Some place) same is) in
      omega (arith, e, below_here)
]

pub only_leaf : (leaves : List Node) (other : Node) → length leaves ≡ 1 → leaves ≡ get_or leaves 0 other ∷ []
only_leaf [] other one = absurd (omega (arith, one))
only_leaf (x ∷ []) other one = refl
only_leaf (x ∷ (y ∷ ys)) other one = absurd (omega (arith, one))
