use Rattle.std.proofs.Common.{sym, subst, arith, pos, ◌-ℤ◌, w64, to_z, of_z}
use Rattle.std.proofs.lemmas.Int.{ints, to_z-of_z}
use Rattle.drawn_devices.specs.declared.drawn.Side.{Side}
use Rattle.drawn_devices.specs.Sides.{IsStrip}
use Rattle.drawn_devices.proofs.SideLaws.{strip_left, strip_below}
use Rattle.drawn_devices.proofs.sides.strip.Goals as goal

pub returns-in-Left : goal.returns-in-Left
returns-in-Left c = subst (λ (side : Side). IsStrip side c.args.area c.column.result) (sym c.in-Left.is)
    (strip_left (to_z w64 (of_z w64 (to_z w64 (of_z w64 c.args.area.x1) -ℤ pos 1))) c.args.area c.column.result c.column.ensures (grind (arith, ints, to_z-of_z)))

pub returns-in-Below : goal.returns-in-Below
returns-in-Below c = subst (λ (side : Side). IsStrip side c.args.area c.row.result) (sym c.in-Below.is)
    (strip_below (to_z w64 (of_z w64 (to_z w64 (of_z w64 c.args.area.y1) -ℤ pos 1))) c.args.area c.row.result c.row.ensures (grind (arith, ints, to_z-of_z)))
