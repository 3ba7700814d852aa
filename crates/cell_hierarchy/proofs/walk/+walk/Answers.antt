use Rattle.std.proofs.Common.{ℕ, ◌<◌, ◌≤◌, inl, inr, length, get_or, List, sym, subst, ap, arith}
use Rattle.std.specs.List.{AllByRecursion}
use Rattle.std.proofs.lemmas.Option.{slice_get-get_or}
use Rattle.std.proofs.lemmas.Result.{on_ok_weaker}
use Rattle.gds_library.specs.declared.library.Prop.{Prop}
use Rattle.gds_library.specs.declared.library.Element.TheVariants.{Boundary, Path, Sref, Aref, Text}
use Rattle.gds_library.specs.Writable.{IsWritableProp}
use Rattle.cell_chains.specs.Instances.{reference_name}
use Rattle.cell_chains.specs.Hierarchy.{referred_name}
use Rattle.cell_chains.specs.Ordered.{AreAllBelow}
use Rattle.cell_chains.proofs.OrderedLaws.{permuted_all}
use Rattle.cell_hierarchy.specs.Below.{SomeBelow}
use Rattle.cell_hierarchy.specs.Parts.{IsOfArrayItem}
use Rattle.cell_hierarchy.specs.Placed.{IsPlacedBelow}
use Rattle.cell_hierarchy.proofs.BelowLaws.{whole_abs}
use Rattle.cell_hierarchy.proofs.GrowsLaws.{listed_at, listed_below, grows_listed, grows_all}
use Rattle.cell_hierarchy.proofs.NearLaws.{short_within, short_near}
use Rattle.cell_hierarchy.proofs.StepLaws.{near_in}
use Rattle.cell_hierarchy.proofs.WalkLaws.{walked_read, live_at, so_far_begin, so_far_on, cell_done, item_placed}
use Rattle.cell_hierarchy.proofs.WalkedElementLaws.{target_of, element_writable, reference_done, array_done, other_done, item_done, array_as}
use Rattle.cell_hierarchy.proofs.walk.+walk.Goals as goal

pub add_cell-add_own-requires-clause-own : goal.add_cell-add_own-requires-clause-own
add_cell-add_own-requires-clause-own t c = (walked_read c.args.tree.now c.args.index c.args.at.now c.index-tree-index.result c.requires.tree c.requires.at).part_is.drawn.near

pub add_cell-loop-i-init : goal.add_cell-loop-i-init
add_cell-loop-i-init t c = so_far_begin c.args.tree.now c.args.index c.args.at.now (get_or c.args.tree.now.parts.now c.args.index c.index-tree-index.result) _ _ c.in_ok-add_own.ensures

pub add_cell-add_element-requires : goal.add_cell-add_element-requires
add_cell-add_element-requires t c =
    let part = get_or c.args.tree.now.parts.now c.args.index c.index-tree-index.result in
    let walked = walked_read c.args.tree.now c.args.index c.args.at.now c.index-tree-index.result c.requires.tree c.requires.at in
    let len = c.len-i-end.ensures in
    let below = c.loop-i-test.true in
    let lt : c.loop-i.i < length part.live.items = omega (arith, len, below) in (
      omega (arith, c.decreases),
      (c.requires.tree, (c.requires.at, live_at c.args.tree.now c.args.index part c.loop-i.i c.index.result.now walked lt c.index.ensures)),
    )

pub add_cell-loop-i-preserved : goal.add_cell-loop-i-preserved
add_cell-loop-i-preserved t c =
    let part = get_or c.args.tree.now.parts.now c.args.index c.index-tree-index.result in
    let len = c.len-i-end.ensures in
    let below = c.loop-i-test.true in
    let lt : c.loop-i.i < length part.live.items = omega (arith, len, below) in
    so_far_on c.args.tree.now c.args.index c.args.at.now part c.loop-i.i c.index.result.now _ _ _ lt c.index.ensures c.loop-i.invariant c.in_ok-add_element.ensures

pub add_cell-returns : goal.add_cell-returns
add_cell-returns t c =
    let part = get_or c.args.tree.now.parts.now c.args.index c.index-tree-index.result in
    let len = c.len-i-end.ensures in
    let over = c.loop-i-test.false in
    let le : length part.live.items ≤ c.loop-i.i = omega (arith, len, over) in
    cell_done c.args.tree.now c.args.index c.args.at.now part c.loop-i.i _ _ (walked_read c.args.tree.now c.args.index c.args.at.now c.index-tree-index.result c.requires.tree c.requires.at) le c.loop-i.invariant

pub add_element-reference_below-requires-clause-near : goal.add_element-reference_below-requires-clause-near
add_element-reference_below-requires-clause-near t c =
    short_near c.in-Sref.place.at (element_writable c.args.tree.now c.args.index c.args.n c.element_at-target.result.0.now (Sref c.in-Sref.name c.in-Sref.place c.in-Sref.props) c.element_at-target.result.1 c.requires.tree c.element_at-target.ensures c.in-Sref.is).body.at

pub add_element-reference_below-requires-clause-writable : goal.add_element-reference_below-requires-clause-writable
add_element-reference_below-requires-clause-writable t c =
    subst (AllByRecursion IsWritableProp) (sym c.as_slice.ensures)
    (element_writable c.args.tree.now c.args.index c.args.n c.element_at-target.result.0.now (Sref c.in-Sref.name c.in-Sref.place c.in-Sref.props) c.element_at-target.result.1 c.requires.tree c.element_at-target.ensures c.in-Sref.is).props

pub add_element-add_cell-requires : goal.add_element-add_cell-requires
add_element-add_cell-requires t c =
    let e = Sref c.in-Sref.name c.in-Sref.place c.in-Sref.props in
    let w = element_writable c.args.tree.now c.args.index c.args.n c.element_at-target.result.0.now e c.element_at-target.result.1 c.requires.tree c.element_at-target.ensures c.in-Sref.is in
    let h = target_of c.args.tree.now c.args.index c.args.at.now c.args.n c.element_at-target.result.0.now c.element_at-target.result.1 c.in-Sref.name c.requires.tree c.requires.at c.element_at-target.ensures (ap referred_name c.in-Sref.is) in (
      omega (arith, c.decreases, h.before),
      (c.requires.tree, item_placed c.args.tree.now c.element_at-target.result.1 c.args.at.now c.in_ok-inner-in-Sref.inner _ c.in-Sref.place h.below c.in_ok-inner-in-Sref.ensures (short_within c.in-Sref.place.at w.body.at)),
    )

pub add_element-returns-in_ok-inner-in-Sref : goal.add_element-returns-in_ok-inner-in-Sref
add_element-returns-in_ok-inner-in-Sref t c =
    let below = subst (λ (ps : List Prop). IsPlacedBelow c.args.tree.now.keeps_labels c.args.at.now (reference_name c.args.n ps) c.in-Sref.place c.in_ok-inner-in-Sref.inner) c.as_slice.ensures c.in_ok-inner-in-Sref.ensures in
    on_ok_weaker c.add_cell.result
    (λ grows. reference_done c.args.tree.now c.args.index c.args.at.now c.in_ok-inner-in-Sref.inner c.args.n c.element_at-target.result.0.now c.element_at-target.result.1 c.in-Sref.name c.in-Sref.place c.in-Sref.props _ _ c.requires.tree c.requires.at
    c.element_at-target.ensures c.in-Sref.is below grows)
    c.add_cell.ensures

pub add_element-add_array-requires : goal.add_element-add_array-requires
add_element-add_array-requires t c =
    let e = Aref c.in-Aref.name c.in-Aref.place c.in-Aref.columns c.in-Aref.rows c.in-Aref.across c.in-Aref.down c.in-Aref.props in
    let w = (element_writable c.args.tree.now c.args.index c.args.n c.element_at-target.result.0.now e c.element_at-target.result.1 c.requires.tree c.element_at-target.ensures c.in-Aref.is).body.1 in
    let h = target_of c.args.tree.now c.args.index c.args.at.now c.args.n c.element_at-target.result.0.now c.element_at-target.result.1 c.in-Aref.name c.requires.tree c.requires.at c.element_at-target.ensures (ap referred_name c.in-Aref.is) in
    let ec = whole_abs c.in-Aref.columns c.unsigned_abs.result w.some_columns w.few_columns c.unsigned_abs.ensures.value in
    let er = whole_abs c.in-Aref.rows c.unsigned_abs-in-Aref.result w.some_rows w.few_rows c.unsigned_abs-in-Aref.ensures.value in (
      omega (arith, c.decreases, h.before),
      (c.requires.tree, (h.below, array_as c.in-Aref.place c.in-Aref.columns c.in-Aref.rows _ _ c.in-Aref.across c.in-Aref.down ec er w)),
    )

pub add_element-returns-in-Aref : goal.add_element-returns-in-Aref
add_element-returns-in-Aref t c =
    let e = Aref c.in-Aref.name c.in-Aref.place c.in-Aref.columns c.in-Aref.rows c.in-Aref.across c.in-Aref.down c.in-Aref.props in
    let w = (element_writable c.args.tree.now c.args.index c.args.n c.element_at-target.result.0.now e c.element_at-target.result.1 c.requires.tree c.element_at-target.ensures c.in-Aref.is).body.1 in
    let ec = whole_abs c.in-Aref.columns c.unsigned_abs.result w.some_columns w.few_columns c.unsigned_abs.ensures.value in
    let er = whole_abs c.in-Aref.rows c.unsigned_abs-in-Aref.result w.some_rows w.few_rows c.unsigned_abs-in-Aref.ensures.value in
    on_ok_weaker c.add_array.result
    (λ grows. array_done c.args.tree.now c.args.index c.args.at.now
    (record { n = c.args.n; target = c.element_at-target.result.1; grid = record { place = c.in-Aref.place; columns = c.unsigned_abs.result; rows = c.unsigned_abs-in-Aref.result; across = c.in-Aref.across; down = c.in-Aref.down } })
    c.element_at-target.result.0.now c.in-Aref.name c.in-Aref.columns c.in-Aref.rows c.in-Aref.props _ _ c.requires.tree c.requires.at c.element_at-target.ensures c.in-Aref.is ec er grows)
    c.add_array.ensures

pub add_element-returns-in-Boundary : goal.add_element-returns-in-Boundary
add_element-returns-in-Boundary t c =
    let tree = c.args.tree.now in
    let e = c.element_at-target.result.0.now in
    let target = c.element_at-target.result.1 in
    elim c.in-Boundary.is [
      | inl b ↦ other_done tree c.args.index c.args.at.now c.args.n e (Boundary b.0 b.1 b.2 b.3) target c.args.out.now c.requires.tree c.element_at-target.ensures b.4 (λ item h. h)
      | inr r ↦ elim r [
        | inl p ↦ other_done tree c.args.index c.args.at.now c.args.n e (Path p.0 p.1 p.2 p.3 p.4 p.5) target c.args.out.now c.requires.tree c.element_at-target.ensures p.6 (λ item h. h)
        | inr x ↦ other_done tree c.args.index c.args.at.now c.args.n e (Text x.0 x.1 x.2 x.3 x.4) target c.args.out.now c.requires.tree c.element_at-target.ensures x.5 (λ item h. h)
      ]
    ]

pub add_array-add_column-requires : goal.add_array-add_column-requires
add_array-add_column-requires t c =
    let len = c.len-i-end.ensures in
    let below = c.loop-i-test.true in
    let columns = c.in_ok-columns.columns.items in
    let lt : c.loop-i.i < length columns = omega (arith, len, below) in
    let at = listed_at columns c.loop-i.i c.index.result.now lt c.index.ensures in
    let in_grid = listed_below c.args.array.grid.columns columns c.loop-i.i c.index.result.now at (permuted_all c.args.array.grid.columns columns c.in_ok-columns.ensures) in
    let rows = subst (λ (l : List ℕ). AreAllBelow c.args.array.grid.rows l) (sym c.deref.ensures.value) (permuted_all c.args.array.grid.rows c.in_ok-rows.rows.items c.in_ok-rows.ensures) in (
      omega (arith, c.decreases),
      (c.requires.tree, (c.requires.at, (c.requires.writable, (in_grid, rows)))),
    )

pub add_array-loop-i-preserved : goal.add_array-loop-i-preserved
add_array-loop-i-preserved t c =
    let len = c.len-i-end.ensures in
    let below = c.loop-i-test.true in
    let columns = c.in_ok-columns.columns.items in
    let lt : c.loop-i.i < length columns = omega (arith, len, below) in
    let at = listed_at columns c.loop-i.i c.index.result.now lt c.index.ensures in
    λ name named. grows_listed (λ column. SomeBelow (IsOfArrayItem c.args.tree.now c.args.at.now c.args.array name column) c.args.array.grid.rows) columns c.loop-i.i c.index.result.now _ _ _ at (c.loop-i.invariant name named)
    (c.in_ok-add_column.ensures name named)

pub add_array-returns : goal.add_array-returns
add_array-returns t c =
    let len = c.len-i-end.ensures in
    let over = c.loop-i-test.false in
    let columns = c.in_ok-columns.columns.items in
    let le : length columns ≤ c.loop-i.i = omega (arith, len, over) in
    let all = permuted_all c.args.array.grid.columns columns c.in_ok-columns.ensures in
    λ name named. grows_all (λ column. SomeBelow (IsOfArrayItem c.args.tree.now c.args.at.now c.args.array name column) c.args.array.grid.rows) columns c.args.array.grid.columns c.loop-i.i _ _ le all (c.loop-i.invariant name named)

pub add_column-add_item-requires : goal.add_column-add_item-requires
add_column-add_item-requires t c =
    let rows = c.args.items.rows.now in
    let i = c.loop-row.row-index in
    let row = get_or rows i 0 in
    let in_rows = listed_below c.args.array.grid.rows rows i row (slice_get-get_or rows i 0 c.loop-row-test.true) c.requires.rows in (
      omega (arith, c.decreases),
      (c.requires.tree, (c.requires.at, (c.requires.writable, record { in_columns = c.requires.in_grid; in_rows = in_rows }))),
    )

pub add_column-loop-row-preserved : goal.add_column-loop-row-preserved
add_column-loop-row-preserved t c =
    let rows = c.args.items.rows.now in
    let i = c.loop-row.row-index in
    let at = slice_get-get_or rows i 0 c.loop-row-test.true in
    λ name named. grows_listed (IsOfArrayItem c.args.tree.now c.args.at.now c.args.array name c.args.items.column) rows i (get_or rows i 0) _ _ _ at (c.loop-row.invariant name named) (c.in_ok-add_item.ensures name named)

pub add_column-returns : goal.add_column-returns
add_column-returns t c =
    let rows = c.args.items.rows.now in
    let over = c.loop-row-test.false in
    let le : length rows ≤ c.loop-row.row-index = omega (arith, over) in
    λ name named. grows_all (IsOfArrayItem c.args.tree.now c.args.at.now c.args.array name c.args.items.column) rows c.args.array.grid.rows c.loop-row.row-index _ _ le c.requires.rows (c.loop-row.invariant name named)

pub add_item-add_cell-requires : goal.add_item-add_cell-requires
add_item-add_cell-requires t c = (
  omega (arith, c.decreases),
  (c.requires.tree, item_placed c.args.tree.now c.args.array.target c.args.at.now c.in_ok-inner.inner _ _ c.requires.at c.in_ok-inner.ensures (near_in c.args.array.grid c.args.spot c.requires.writable c.requires.spot)),
)

pub add_item-returns : goal.add_item-returns
add_item-returns t c = on_ok_weaker c.add_cell.result (λ grows name named. item_done c.args.tree.now c.args.at.now c.in_ok-inner.inner c.args.array c.args.spot.column c.args.spot.row _ _ c.in_ok-inner.ensures grows name named) c.add_cell.ensures
