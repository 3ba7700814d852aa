use Rattle.std.proofs.Common.{rules, of_calls}
use Rattle.std.proofs.lemmas.Fn.{always_returns_same}
use Rattle.std.specs.Prelude.{int_lt}
use Rattle.rectilinear.proofs.ToggleLaws.{left_first, place_between}
use Rattle.rectilinear.proofs.ends.place_of.Goals as goal

pub returns-clause-place : goal.returns-clause-place
returns-clause-place c =
    let point = c.partition_point.ensures.partitioned (λ e. int_lt e.x c.args.end.x) (always_returns_same _ _ _ (λ a r f k. search (rules, of_calls))) (left_first c.args.ends.now c.args.end c.requires) in
    place_between c.args.ends.now c.args.end _ c.partition_point.ensures.bound point
