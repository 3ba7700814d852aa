use Rattle.std.proofs.Common.{◌∙◌, List, sym, subst}
use Rattle.or_geom.specs.declared.shape.Shape.{Shape}
use Rattle.drawn_devices.specs.CutShapes.{AreCutShapes}
use Rattle.drawn_devices.proofs.cut_cell.cut_cell.Goals as goal

pub returns-clause-cut : goal.returns-clause-cut
returns-clause-cut c =
    let is = c.in_ok-bins.ensures.bins ∙ c.deref.ensures.value in
    record {
      are = subst (λ (ss : List Shape). AreCutShapes c.args.tech.now.devices c.args.shapes.now ss) (sym is) (rw c.as_slice.ensures at c.in_ok-cut.ensures);
      connections = c.in_ok-connections.connections.items;
      by = c.in_ok-connections.ensures;
      numbered = rw c.deref-2.ensures.value at c.in_ok-nets.ensures;
    }
