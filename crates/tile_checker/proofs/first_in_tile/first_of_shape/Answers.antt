use Rattle.std.proofs.Common.{refl}
use Rattle.tile_checker.proofs.EarliestLaws.{stays_first}
use Rattle.tile_checker.proofs.FirstFoundLaws.{found_first, shape_behind}
use Rattle.tile_checker.proofs.first_in_tile.first_of_shape.Goals as goal

pub returns-then-is_past_first-clause-first : goal.returns-then-is_past_first-clause-first
returns-then-is_past_first-clause-first c =
    stays_first c.args.kept _ (shape_behind c.args.number c.args.rule.now c.args.bins.now c.args.tile c.args.first c.args.kept (c.if-is_past_first.ensures refl))

pub returns-clause-first : goal.returns-clause-first
returns-clause-first c =
    found_first c.args.number c.args.rule.now c.args.bins.now c.args.tile c.args.first _ _ c.args.kept _ c.clear.ensures.items c.in_ok-add_violations.ensures.adds (rw c.deref.ensures.value at c.earliest_of.ensures)
