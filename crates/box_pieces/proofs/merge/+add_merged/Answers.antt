use Rattle.std.proofs.Common.{◌++◌, List, ap, ◌∙◌}
use Rattle.std.proofs.lemmas.Result.{on_ok_weaker}
use Rattle.or_geom.specs.declared.shape.Rect.{Rect}
use Rattle.box_pieces.proofs.SplitLaws.{parts_added, halves_merged}
use Rattle.box_pieces.proofs.merge.+add_merged.Goals as goal

pub returns-in_default : goal.returns-in_default
returns-in_default t c =
    parts_added c.args.area c.args.boxes.now c.in_ok-parts.parts.items c.args.out.now.items c.extend_from_slice.new.self.items c.in_ok-parts.ensures
    (c.in_ok-extend_from_slice.ensures.items ∙ ap (λ (l : List Rect). c.args.out.now.items ++ l) c.deref-in_default.ensures.value)

pub returns : goal.returns
returns t c = on_ok_weaker c.add_merged-2.result
    (λ b. halves_merged c.args.area _ _ c.args.boxes.now c.in_ok-parts.parts.items c.deref-2.result.now c.deref-3.result.now c.args.out.now.items c.add_merged.new.out.items c.add_merged-2.new.out.items c.halves.ensures c.in_ok-parts.ensures
    c.deref-2.ensures.value c.deref-3.ensures.value c.in_ok-add_merged.ensures b) c.add_merged-2.ensures
