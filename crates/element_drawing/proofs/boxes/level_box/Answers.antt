use Rattle.element_drawing.proofs.BoxLaws.{level_is_box, short_kept, length_kept}
use Rattle.element_drawing.proofs.boxes.level_box.Goals as goal

pub returns : goal.returns
returns c =
    let s = c.args.s in
    let short = c.requires.short in
    let from = short.from in
    let to = short.to in
    let half = length_kept s.half short.half in
    level_is_box s c.extent_of-across.result c.extent_of-upward.result c.rect_over.result c.requires.level
    (rw (short_kept s.from.x from.x, short_kept s.to.x to.x, length_kept s.before short.before, length_kept s.after short.after) at c.extent_of-across.ensures)
    (rw (short_kept s.from.y from.y, half) at c.extent_of-upward.ensures) c.rect_over.ensures
