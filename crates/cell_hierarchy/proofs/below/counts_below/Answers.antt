-- Each cell's references lead to cells that are counted.
use Rattle.std.proofs.Common.{◌≡◌, ◌<◌, length, sym, ap, ◌∙◌, get_or, rules, arith}
use Rattle.gds_library.specs.declared.library.Structure.{Structure}
use Rattle.cell_hierarchy.specs.declared.counts.SaturatedCounts.{SaturatedCounts}
use Rattle.cell_hierarchy.proofs.CountedCellLaws.{own_sized, own_at, stands_within, cell_with, known_below, same_below, more_counted, top_counted}
use Rattle.cell_hierarchy.proofs.below.counts_below.Goals as goal

abbrev nothing : SaturatedCounts
nothing = record { shapes = 0; labels = 0 }

pub offset_bounds-structs-cell : goal.offset_bounds-structs-cell
offset_bounds-structs-cell c =
    let lt : c.index-cells-place.result.structure < length c.args.structs.now = stands_within c.args.structs.now c.args._top.now c.args.cells.now c.loop-place.place c.index-cells-place.result c.requires.cells c.loop-place-test.true c.index-cells-place.is in
    search rules

pub bounds-structs-cell : goal.bounds-structs-cell
bounds-structs-cell c = stands_within c.args.structs.now c.args._top.now c.args.cells.now c.loop-place.place c.index-cells-place.result c.requires.cells c.loop-place-test.true c.index-cells-place.is

pub below-referred-requires-clause-sized : goal.below-referred-requires-clause-sized
below-referred-requires-clause-sized c =
    let w = cell_with c.args.structs.now c.args._top.now c.args.cells.now c.loop-place.place c.index-cells-place.result c.index-structs-cell.result c.requires.cells c.loop-place-test.true c.index-cells-place.is c.index-structs-cell.is in
    let elements : c.as_slice-elements.result.now ≡ c.index-structs-cell.result.elements = c.as_slice-elements.ensures ∙ ap (λ (s : Structure). s.elements) (sym c.index-structs-cell.is) in
    rw (c.as_slice.ensures, elements) w.sized

pub below-referred-requires-clause-known : goal.below-referred-requires-clause-known
below-referred-requires-clause-known c =
    let w = cell_with c.args.structs.now c.args._top.now c.args.cells.now c.loop-place.place c.index-cells-place.result c.index-structs-cell.result c.requires.cells c.loop-place-test.true c.index-cells-place.is c.index-structs-cell.is in
    let elements : c.as_slice-elements.result.now ≡ c.index-structs-cell.result.elements = c.as_slice-elements.ensures ∙ ap (λ (s : Structure). s.elements) (sym c.index-structs-cell.is) in
    rw (c.as_slice.ensures, elements, c.deref.ensures.value) (known_below c.args._layers.now c.args.structs.now c.args.cells.now c.loop-place.counts.items c.loop-place.place c.index-cells-place.result c.index-structs-cell.result c.loop-place.invariant w)

pub bounds-own-place : goal.bounds-own-place
bounds-own-place c = let sized = own_sized c.args._layers.now c.args.structs.now c.args.cells.now c.args.own.now c.requires.own in omega (arith, sized)

pub loop-place-preserved : goal.loop-place-preserved
loop-place-preserved c =
    let w = cell_with c.args.structs.now c.args._top.now c.args.cells.now c.loop-place.place c.index-cells-place.result c.index-structs-cell.result c.requires.cells c.loop-place-test.true c.index-cells-place.is c.index-structs-cell.is in
    let elements : c.as_slice-elements.result.now ≡ c.index-structs-cell.result.elements = c.as_slice-elements.ensures ∙ ap (λ (s : Structure). s.elements) (sym c.index-structs-cell.is) in
    let pushed = c.in_ok-push.ensures.items in
    rw pushed (more_counted c.args._layers.now c.args.structs.now c.args.cells.now c.loop-place.counts.items c.loop-place.place c.index-cells-place.result c.index-structs-cell.result c.sum_of.result c.loop-place.invariant w
    (record {
      own = get_or c.args.own.now c.loop-place.place nothing;
      below = c.below-referred.result;
      own_is = own_at c.args._layers.now c.args.structs.now c.args.cells.now c.args.own.now c.loop-place.place c.index-cells-place.result nothing c.requires.own w.is;
      below_is = λ total h. c.below-referred.ensures total (same_below c.loop-place.counts.items c.deref.result.now c.index-cells-place.result.targets c.as_slice.result.now c.index-structs-cell.result.elements c.as_slice-elements.result.now total
          c.deref.ensures.value c.as_slice.ensures elements h);
      next_is = c.sum_of.ensures;
    }))

pub returns : goal.returns
returns c = top_counted c.args._layers.now c.args.structs.now c.args._top.now c.args.cells.now c.loop-place.counts.items c.loop-place.place c.index.result.now c.requires.cells (omega arith) c.loop-place.invariant (search rules)
