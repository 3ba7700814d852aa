-- The shapes of a leaf's pins stand in the order of demands.
use Rattle.std.proofs.Common.{length, ap, subst, sym, ◌∙◌, arith}
use Rattle.or_geom.specs.declared.shape.Rect.{Rect}
use Rattle.floorplan.proofs.DemandLaws.{left_in_kit, pin_is, seven_in_kit}
use Rattle.port_data.proofs.LeafLaws.{left_read, pin_there}
use Rattle.leaf_tables.specs.NearLeaf.{IsLeafLength}
use Rattle.port_data.proofs.leaves.pin_left.Goals as goal

pub bounds-as_slice-index : goal.bounds-as_slice-index
bounds-as_slice-index c =
    let sized = c.leaf_of.ensures.pins in
    let same = ap length c.as_slice.ensures in
    let below = c.requires.demand in
    omega (arith, sized, same, below)

pub bounds-as_slice-index-2 : goal.bounds-as_slice-index-2
bounds-as_slice-index-2 c =
    let sized = c.leaf_of.ensures.pins in
    let same = ap length c.as_slice.ensures in
    let below = c.requires.demand in
    omega (arith, sized, same, below)

pub returns-clause-is : goal.returns-clause-is
returns-clause-is c = λ port metal d.
    let at = pin_there c.args.kit.now c.args.role c.leaf_of.result.now c.args.index c.as_slice.result.now c.index-as_slice-index.result c.requires.kit c.leaf_of.ensures.is c.as_slice.ensures c.requires.demand c.index-as_slice-index.is in
    left_read c.as_slice.result.now c.args.index c.index-as_slice-index.result c.index-as_slice-index.is (left_in_kit c.args.kit.now c.args.role c.leaf_of.result.now c.requires.kit c.leaf_of.ensures.is c.args.index c.index-as_slice-index.result at)
    ∙ ap (λ (r : Rect). r.x1) (pin_is c.args.kit.now c.requires.kit (seven_in_kit c.args.kit.now c.requires.kit) c.args.role c.leaf_of.result.now c.leaf_of.ensures.is c.args.index c.index-as_slice-index.result at port metal d)

pub returns-clause-near : goal.returns-clause-near
returns-clause-near c =
    let at = pin_there c.args.kit.now c.args.role c.leaf_of.result.now c.args.index c.as_slice.result.now c.index-as_slice-index.result c.requires.kit c.leaf_of.ensures.is c.as_slice.ensures c.requires.demand c.index-as_slice-index.is in
    let near = left_in_kit c.args.kit.now c.args.role c.leaf_of.result.now c.requires.kit c.leaf_of.ensures.is c.args.index c.index-as_slice-index.result at in
    subst IsLeafLength (sym (left_read c.as_slice.result.now c.args.index c.index-as_slice-index.result c.index-as_slice-index.is near)) near
