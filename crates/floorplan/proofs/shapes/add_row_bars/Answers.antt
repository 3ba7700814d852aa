-- One row more.
use Rattle.std.proofs.Common.{◌≡◌, ℕ, w64, subst, arith}
use Rattle.std.proofs.lemmas.Int.{to_z-of_z}
use Rattle.or_geom.specs.Adds.{Adds}
use Rattle.floorplan.specs.Bars.{IsRowBar}
use Rattle.floorplan.proofs.BarLaws.{row_more}
use Rattle.floorplan.proofs.shapes.add_row_bars.Goals as goal

pub loop-row-preserved : goal.loop-row-preserved
loop-row-preserved c = row_more c.args.wire.now _ _ _ _ _ c.loop-row.row _ _ _ c.loop-row.invariant c.in_ok-add_row_bar.ensures

pub returns : goal.returns
returns c =
    let all : c.loop-row.row ≡ c.args.rows = omega arith in
    subst (λ (n : ℕ). Adds c.args.shapes.now.items c.loop-row.shapes.items (IsRowBar c.args.wire.now c.args.trunk c.args.from.x c.args.from.y c.args.height c.args.odd n)) all (rw (to_z-of_z w64 c.args.trunk c.ranges.trunk) at c.loop-row.invariant)
