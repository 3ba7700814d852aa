use Rattle.std.proofs.Common.{arith, w64, to_z, of_z}
use Rattle.std.proofs.lemmas.Int.{to_z-of_z}
use Rattle.box_pieces.proofs.CommonLaws.{is_common, none_across, none_upward}
use Rattle.box_pieces.proofs.common.common.Goals as goal

pub returns-then-x2-x1 : goal.returns-then-x2-x1
returns-then-x2-x1 c = none_across c.args.a c.args.b (to_z w64 (of_z w64 c.max-x1.result)) (to_z w64 (of_z w64 c.min-x2.result)) c.if-x2-x1.true (grind (arith, to_z-of_z)) (grind (arith, to_z-of_z))

pub returns-then-y2-y1 : goal.returns-then-y2-y1
returns-then-y2-y1 c = none_upward c.args.a c.args.b (to_z w64 (of_z w64 c.max-y1.result)) (to_z w64 (of_z w64 c.min-y2.result)) c.if-y2-y1.true (grind (arith, to_z-of_z)) (grind (arith, to_z-of_z))

pub returns : goal.returns
returns c = is_common c.args.a c.args.b _ (grind (arith, to_z-of_z)) (grind (arith, to_z-of_z)) (grind (arith, to_z-of_z)) (grind (arith, to_z-of_z))
