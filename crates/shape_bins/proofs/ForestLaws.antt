-- Trees over all shapes, layer by layer.
use Rattle.std.proofs.Common.{◌≡◌, inl, inr, ℕ, zero, suc, ◌+◌, ◌-◌, ◌<◌, ◌≤◌, List, [], ◌∷◌, ◌++◌, length, get_or, set, Some, refl, sym, ap, subst, ◌∙◌, arith, length-append}
use Rattle.std.specs.Prelude.{Contains, slice_get}
use Rattle.std.proofs.lemmas.Bool.{cases_eq, cases_lt}
use Rattle.std.proofs.lemmas.List.{get_or_past, get_or-set_same, get_or-set_other}
use Rattle.std.proofs.lemmas.List.Elements.{Contains-append_left, Contains-append_right}
use Rattle.std.proofs.lemmas.Option.{same_Some, slice_get_within, slice_get-get_or, get_or_from_slice_get}
use Rattle.or_geom.specs.declared.shape.Shape.{Shape}
use Rattle.or_geom.proofs.ListLaws.{below_or, contained_at}
use Rattle.shape_bins.specs.declared.forest.NodeRange.{NodeRange}
use Rattle.shape_bins.specs.declared.node.Node.{Node}
use Rattle.shape_bins.specs.Forest.{AreTreesTo, IsRangeOf, IsJoinedRange, IsRangeAdded, IsRun, IsListedAt, no_range}
use Rattle.shape_bins.specs.Leaves.{IsPlaceOn}
use Rattle.shape_bins.specs.Nodes.{IsInHull, IsNodeOver, AreNodes, AreNodesFrom, position_at}
use Rattle.shape_bins.specs.Order.{IsOrderAdded}
use Rattle.shape_bins.specs.Places.{AllBetween}
use Rattle.shape_bins.proofs.NodeLaws.{begin_past, begin_rises}
use Rattle.shape_bins.proofs.TreeLaws.{begin_first, nodes_both}

-- the place that stands at a position of a node, and its shape
pub held_at : (shapes : List Shape) (places : List ℕ) (node : Node) (at : ℕ) → IsNodeOver shapes places node → node.first ≤ at → at < node.end → IsInHull shapes node.hull (get_or places at 0)
held_at shapes places node at over above below = over.held at (get_or places at 0) above below (slice_get-get_or places at 0 (omega (arith, below, over.within)))

pub place_within : (shapes : List Shape) (places : List ℕ) (node : Node) (at : ℕ) → IsNodeOver shapes places node → node.first ≤ at → at < node.end → get_or places at 0 < length shapes
place_within shapes places node at over above below = let h = held_at shapes places node at over above below in slice_get_within shapes (get_or places at 0) h.shape h.there

pub placed_is : (shapes : List Shape) (places : List ℕ) (node : Node) (at : ℕ) (other : Shape) → IsNodeOver shapes places node → node.first ≤ at → at < node.end
    → IsListedAt shapes places node.hull.layer at (record { place = get_or places at 0; shape = get_or shapes (get_or places at 0) other })
placed_is shapes places node at other over above below =
    let h = held_at shapes places node at over above below in
    let e : get_or shapes (get_or places at 0) other ≡ h.shape = get_or_from_slice_get shapes (get_or places at 0) h.shape other h.there in
    record {
      listed = slice_get-get_or places at 0 (omega (arith, below, over.within));
      there = h.there ∙ ap (λ (s : Shape). Some s) (sym e);
      on = subst (λ (s : Shape). s.layer ≡ node.hull.layer) (sym e) h.on;
    }

-- shapes of the layer stand up to the next place
pub run_begins : (shapes : List Shape) (layer begin : ℕ) → IsPlaceOn shapes layer begin → (place : ℕ) → begin ≤ place → place < begin + 1 → IsPlaceOn shapes layer place
run_begins shapes layer begin on place above below = subst (λ (p : ℕ). IsPlaceOn shapes layer p) (omega (arith, above, below)) on

pub run_goes_on : (shapes : List Shape) (layer other begin end : ℕ) → ((place : ℕ) → begin ≤ place → place < end → IsPlaceOn shapes layer place) → IsPlaceOn shapes other end → other ≡ layer → (place : ℕ) → begin ≤ place → place < end + 1 → IsPlaceOn shapes layer place
run_goes_on shapes layer other begin end run on same place above below = elim (below_or place end below) [
  | inl less ↦ run place above less
  | inr here ↦ subst (λ (p : ℕ). IsPlaceOn shapes layer p) (sym here) (subst (λ (l : ℕ). IsPlaceOn shapes l end) same on)
]

pub run_ends : (shapes : List Shape) (layer begin end : ℕ) → ((place : ℕ) → begin ≤ place → place < end → IsPlaceOn shapes layer place) → begin < end → end ≤ length shapes → IsRun shapes layer begin end
run_ends shapes layer begin end run longer within = record { longer = longer; within = within; on = run }

pub place_inside : (shapes : List Shape) (layer place : ℕ) → IsPlaceOn shapes layer place → place < length shapes
place_inside shapes layer place on = slice_get_within shapes place on.shape on.there

-- what stands in the first part of a list, and in the second
get_first : (xs ys : List ℕ) (k : ℕ) → k < length xs → slice_get (xs ++ ys) k ≡ slice_get xs k
get_first [] ys k lt = absurd (omega (arith, lt))
get_first (x ∷ xs) ys zero lt = refl
get_first (x ∷ xs) ys (suc k) lt = get_first xs ys k (omega (arith, lt))

get_second : (xs ys : List ℕ) (at : ℕ) → length xs ≤ at → slice_get (xs ++ ys) at ≡ slice_get ys (at - length xs)
get_second [] ys at le = let e : at ≡ at - length {A = ℕ} [] = omega arith in ap (λ (k : ℕ). slice_get ys k) e
get_second (x ∷ xs) ys zero le = absurd (omega (arith, le))
get_second (x ∷ xs) ys (suc at) le =
    let e : at - length xs ≡ suc at - length (x ∷ xs) = omega arith in
    get_second xs ys at (omega (arith, le)) ∙ ap (λ (k : ℕ). slice_get ys k) e

over_more : (shapes : List Shape) (places more : List ℕ) (node : Node) → IsNodeOver shapes places node → IsNodeOver shapes (places ++ more) node
over_more shapes places more node over = record {
  rises = over.rises;
  within = omega (arith, over.within, length-append places more);
  held = λ at place above below there. over.held at place above below (sym (get_first places more at (omega (arith, below, over.within))) ∙ there);
  least = λ at place above below there. over.least at place above below (sym (get_first places more at (omega (arith, below, over.within))) ∙ there);
}

nodes_more : (shapes : List Shape) (places more : List ℕ) (end : ℕ) (nodes : List Node) → AreNodes shapes places end nodes → AreNodes shapes (places ++ more) end nodes
nodes_more shapes places more end [] a = tt
nodes_more shapes places more end (n ∷ ns) a = (
  record { counted = a.0.counted; there = a.0.there; over = over_more shapes places more n a.0.over; behind = a.0.behind; inner = a.0.inner },
  nodes_more shapes places more end ns a.1,
)

-- the shapes of a layer, whose places were added
pub added_on : (shapes : List Shape) (layer begin end : ℕ) (old new : List ℕ) → length old ≡ begin → IsRun shapes layer begin end → IsOrderAdded begin end old new → AllBetween (IsPlaceOn shapes layer) new begin (length new)
added_on shapes layer begin end old new sized run added at place above below there =
    let listed : slice_get (old ++ added.added) at ≡ Some place = subst (λ (l : List ℕ). slice_get l at ≡ Some place) added.is there in
    let among = contained_at added.added (at - length old) place (sym (get_second old added.added at (omega (arith, sized, above))) ∙ listed) in
    let r = (added.each place).0 among in
    run.on place r.0 r.1

pub added_len : (begin end : ℕ) (old new : List ℕ) → length old ≡ begin → begin ≤ end → IsOrderAdded begin end old new → length new ≡ end
added_len begin end old new sized le added = omega (arith, sized, le, added.sized, ap length added.is, length-append old added.added)

-- ranges of layers, of which some may be missing at the end
pub ranges_pad : (ranges : List NodeRange) (k : ℕ) → get_or (ranges ++ no_range ∷ []) k no_range ≡ get_or ranges k no_range
ranges_pad [] zero = refl
ranges_pad [] (suc k) = refl
ranges_pad (r ∷ rs) zero = refl
ranges_pad (r ∷ rs) (suc k) = ranges_pad rs k

pub range_set : (layer : ℕ) (tree made : NodeRange) (old padded : List NodeRange) → layer < length padded → ((k : ℕ) → get_or padded k no_range ≡ get_or old k no_range) → IsJoinedRange (get_or padded layer no_range) tree made
    → IsRangeAdded layer tree old (set padded layer made)
range_set layer tree made old padded lt same joined = record {
  joined = subst (λ (r : NodeRange). IsJoinedRange (get_or old layer no_range) tree r) (sym (get_or-set_same padded layer made no_range lt)) (subst (λ (r : NodeRange). IsJoinedRange r tree made) (same layer) joined);
  kept = λ other differ. get_or-set_other padded layer other made no_range differ ∙ same other;
}

-- a forest begins empty
empty_ranges : (ranges : List NodeRange) (layer : ℕ) → ranges ≡ [] → get_or ranges layer no_range ≡ no_range
empty_ranges ranges layer none = subst (λ (rs : List NodeRange). get_or rs layer no_range ≡ no_range) (sym none) (get_or_past {X = NodeRange} [] layer no_range (omega arith))

pub no_forest : (shapes : List Shape) (places : List ℕ) (nodes : List Node) (ranges : List NodeRange) → places ≡ [] → nodes ≡ [] → ranges ≡ [] → AreTreesTo shapes 0 places nodes ranges
no_forest shapes places nodes ranges no_places no_nodes no_ranges = subst (λ (ps : List ℕ). AreTreesTo shapes 0 ps nodes ranges) (sym no_places) (subst (λ (ns : List Node). AreTreesTo shapes 0 [] ns ranges) (sym no_nodes) (record {
  sized = refl;
  all = λ place lt. absurd (omega (arith, lt));
  trees = record { begins = refl; each = tt };
  ranged = λ layer. subst (λ (r : NodeRange). IsRangeOf shapes 0 [] [] layer r) (sym (empty_ranges ranges layer no_ranges)) (record {
    rises = omega arith;
    within = omega arith;
    holds = λ at place there on. absurd (let lt = slice_get_within {A = ℕ} [] at place there in omega (arith, lt));
  });
}))

-- the shapes of another layer, whose places were added
module _ (shapes : List Shape) (layer begin end : ℕ) (old new : List ℕ) (before tree : List Node) (sized : length old ≡ begin) (run : IsRun shapes layer begin end) (added : IsOrderAdded begin end old new)
    (over : AreNodesFrom shapes new begin end tree) where
  was_listed : (at place : ℕ) → at < begin → slice_get new at ≡ Some place → slice_get old at ≡ Some place
  was_listed at place lt there = sym (get_first old added.added at (omega (arith, lt, sized))) ∙ subst (λ (l : List ℕ). slice_get l at ≡ Some place) added.is there

  pub same_layer : (other at place : ℕ) → begin ≤ at → slice_get new at ≡ Some place → IsPlaceOn shapes other place → other ≡ layer
  same_layer other at place above there on =
      let lt = slice_get_within new at place there in
      let own = added_on shapes layer begin end old new sized run added at place above lt there in
      sym on.on ∙ (ap (λ (s : Shape). s.layer) (same_Some on.shape own.shape (sym on.there ∙ own.there)) ∙ own.on)

  first_kept : (k : ℕ) → k ≤ length before → position_at end (before ++ tree) k ≡ position_at begin before k
  first_kept k le = begin_first end begin before tree k over.begins le

  pub range_kept : (other : ℕ) (range : NodeRange) → (other ≡ layer → ⊥) → IsRangeOf shapes begin old before other range → IsRangeOf shapes end new (before ++ tree) other range
  range_kept other range differ is = record {
    rises = is.rises;
    within = omega (arith, is.within, length-append before tree);
    holds = λ at place there on. elim (cases_lt at begin) [
      | inl less ↦
          let inside = is.holds at place (was_listed at place less there) on in
          let from = inside.0 in
          let to = inside.1 in
          let first = first_kept range.first (omega (arith, is.rises, is.within)) in
          let last = first_kept range.end is.within in
          (omega (arith, from, first), omega (arith, to, last))
      | inr more ↦ absurd (differ (same_layer other at place more there on))
    ];
  }

  pub range_grows : (range own grown : NodeRange) → own.first ≡ length before → own.end ≡ length (before ++ tree) → length new ≡ end → AreNodes shapes new end (before ++ tree) → IsRangeOf shapes begin old before layer range → IsJoinedRange range own grown
      → IsRangeOf shapes end new (before ++ tree) layer grown
  range_grows range own grown starts stops all nodes is joined =
      let low : grown.first ≤ length before = elim joined.begins [ inl same ↦ omega (arith, same, is.rises, is.within) | inr alone ↦ let e = alone.1 in omega (arith, e, starts) ] in
      let last : position_at end (before ++ tree) grown.end ≡ end = begin_past end (before ++ tree) grown.end (omega (arith, joined.ends, stops)) in
      record {
        rises = omega (arith, low, joined.ends, stops, length-append before tree);
        within = omega (arith, joined.ends, stops);
        holds = λ at place there on.
            let lt = slice_get_within new at place there in
            let first = first_kept grown.first low in (
              elim (cases_lt at begin) [
                | inl less ↦
                    let inside = is.holds at place (was_listed at place less there) on in
                    let from = inside.0 in
                    let to = inside.1 in
                    elim joined.begins [
                      | inl same ↦ let e : position_at begin before grown.first ≡ position_at begin before range.first = ap (λ (k : ℕ). position_at begin before k) same in omega (arith, from, first, e)
                      | inr alone ↦ let e : position_at begin before range.first ≡ position_at begin before range.end = ap (λ (k : ℕ). position_at begin before k) alone.0 in absurd (omega (arith, from, to, e))
                    ]
                | inr more ↦
                    let rise = begin_rises shapes new end (before ++ tree) grown.first (length before) nodes low in
                    let mid = first_kept (length before) (omega arith) ∙ begin_past begin before (length before) (omega arith) in
                    omega (arith, more, rise, mid)
              ],
              omega (arith, lt, all, last),
            );
      }

pub forest_grows : (shapes : List Shape) (layer begin end : ℕ) (old new : List ℕ) (before tree after : List Node) (ranges grown : List NodeRange) (own : NodeRange) → IsRun shapes layer begin end → AreTreesTo shapes begin old before ranges → IsOrderAdded begin end old new
    → AreNodesFrom shapes new begin end tree → after ≡ before ++ tree → own.first ≡ length before → own.end ≡ length after → IsRangeAdded layer own ranges grown → AreTreesTo shapes end new after grown
forest_grows shapes layer begin end old new before tree after ranges grown own run f added over is starts stops joined =
    let all = added_len begin end old new f.sized (omega (arith, run.longer)) added in
    let both = nodes_both shapes new 0 begin end before tree
    (record { begins = f.trees.begins; each = subst (λ (l : List ℕ). AreNodes shapes l begin before) (sym added.is) (nodes_more shapes old added.added begin before f.trees.each) })
    over in
    subst (λ (ns : List Node). AreTreesTo shapes end new ns grown) (sym is) (record {
      sized = all;
      all = λ place lt. subst (λ (l : List ℕ). Contains l place) (sym added.is) (elim (cases_lt place begin) [
        | inl less ↦ Contains-append_left old added.added place (f.all place less)
        | inr more ↦ Contains-append_right old added.added place ((added.each place).1 (more, lt))
      ]);
      trees = both;
      ranged = λ other. elim (cases_eq other layer) [
        | inl same ↦ subst (λ (l : ℕ). IsRangeOf shapes end new (before ++ tree) l (get_or grown l no_range)) (sym same)
            (range_grows shapes layer begin end old new before tree f.sized run added over (get_or ranges layer no_range) own (get_or grown layer no_range) starts (omega (arith, stops, ap length is)) all both.each (f.ranged layer) joined.joined)
        | inr differ ↦ subst (λ (r : NodeRange). IsRangeOf shapes end new (before ++ tree) other r) (sym (joined.kept other differ))
            (range_kept shapes layer begin end old new before tree f.sized run added over other (get_or ranges other no_range) differ (f.ranged other))
      ];
    })
