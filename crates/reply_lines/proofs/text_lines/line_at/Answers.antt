use Rattle.std.proofs.Common.{◌≤◌, ℕ, ◌-◌, length, get_or, take, drop, Some, ap, sym, ◌∙◌, arith}
use Rattle.net_extractor.proofs.KeyTextLaws.{stands_at, text_at}
use Rattle.reply_lines.proofs.text_lines.line_at.Goals as goal

pub slice_bounds-result-count : goal.slice_bounds-result-count
slice_bounds-result-count c = omega (arith, c.start_of.ensures, (stands_at (length c.args.text.now) 0 c.args.ends.now c.args.place c.requires.ends c.requires.inside).ordered)

pub slice_bounds-result-start : goal.slice_bounds-result-start
slice_bounds-result-start c =
    let le : c.start_of.result ≤ get_or c.args.ends.now c.args.place 0 = omega (arith, c.start_of.ensures, (stands_at (length c.args.text.now) 0 c.args.ends.now c.args.place c.requires.ends c.requires.inside).ordered) in
    le

pub slice_bounds-result-end : goal.slice_bounds-result-end
slice_bounds-result-end c = (stands_at (length c.args.text.now) 0 c.args.ends.now c.args.place c.requires.ends c.requires.inside).within

pub returns : goal.returns
returns c =
    text_at c.args.text.now 0 c.args.ends.now c.args.place c.requires.inside
    ∙ ap (λ (start : ℕ). Some (take (get_or c.args.ends.now c.args.place 0 - start) (drop start c.args.text.now))) (sym c.start_of.ensures)
