use Rattle.std.proofs.lemmas.List.{nil_from_length}
use Rattle.element_drawing.proofs.ShapeLaws.{shapes_more, shapes_all}
use Rattle.element_drawing.proofs.NearLaws.{shapes_near}
use Rattle.element_drawing.proofs.shapes.own_shapes.Goals as goal

pub loop-element-preserved : goal.loop-element-preserved
loop-element-preserved c = shapes_more c.args.layers.now c.args.elements.now c.loop-element.rest.now _ _ c.loop-element.shapes.items _ c.in-Some.ensures.cases.0 c.in_ok-add_shapes.ensures c.loop-element.invariant

pub returns-clause-are : goal.returns-clause-are
returns-clause-are c = shapes_all c.args.layers.now c.args.elements.now _ (rw (nil_from_length _ c.in_default.ensures.cases) at c.loop-element.invariant)

pub returns-clause-near : goal.returns-clause-near
returns-clause-near c = shapes_near c.args.layers.now c.args.elements.now _ c.requires.writable (shapes_all c.args.layers.now c.args.elements.now _ (rw (nil_from_length _ c.in_default.ensures.cases) at c.loop-element.invariant))
