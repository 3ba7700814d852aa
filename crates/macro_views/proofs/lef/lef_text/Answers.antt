use Rattle.std.proofs.Common.{◌++◌, List, ℕ, [], ap, ◌∙◌}
use Rattle.std.specs.Prelude.{flat_map}
use Rattle.macro_views.specs.Lines.{text_of_lines}
use Rattle.macro_views.specs.Lef.{signal_lines, signal_text, supplies_lines, obstruction_lines, head_lines, end_lines}
use Rattle.macro_views.proofs.TextLaws.{five_texts}
use Rattle.macro_views.proofs.LefLaws.{lef_is}
use Rattle.macro_views.proofs.lef.lef_text.Goals as goal

pub returns : goal.returns
returns c =
    let v = c.args.view.now in
    five_texts [] (text_of_lines (head_lines v)) (flat_map (signal_text v) v.signals) (text_of_lines (supplies_lines v)) (text_of_lines (obstruction_lines v)) (text_of_lines (end_lines v))
    (c.in_ok-write_head.ensures ∙ ap (λ (l : List ℕ). l ++ text_of_lines (head_lines v)) c.new-out.ensures.items) c.in_ok-write_signals.ensures c.in_ok-write_supplies.ensures c.in_ok-write_obstructions.ensures c.in_ok-write_end.ensures
    ∙ lef_is (signal_lines v) v.signals (head_lines v) (supplies_lines v) (obstruction_lines v) (end_lines v)
