use Rattle.std.proofs.Common.{◌++◌, List, ℕ, sym, ap, ◌∙◌}
use Rattle.macro_views.specs.Lines.{text_of_lines}
use Rattle.macro_views.specs.Verilog.{mask_count_lines, size_lines}
use Rattle.macro_views.proofs.TextLaws.{text_more, text_append}
use Rattle.macro_views.proofs.verilog.write_parameters.Goals as goal

pub returns : goal.returns
returns c =
    let x = c.args.out.now.items in
    let p = c.args.plan.now in
    let count = mask_count_lines p.masks in
    text_more x (text_of_lines count) (text_of_lines (size_lines p)) c.in_ok-write_mask_count.ensures c.in_ok-write_sizes.ensures ∙ ap (λ (l : List ℕ). x ++ l) (sym (text_append count (size_lines p)))
