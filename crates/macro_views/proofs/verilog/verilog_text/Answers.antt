use Rattle.std.proofs.Common.{◌++◌, [], ◌∙◌}
use Rattle.std.specs.Prelude.{codes}
use Rattle.std.specs.Prelude.{nat_lt}
use Rattle.macro_views.specs.Lines.{text_of_lines}
use Rattle.macro_views.specs.Verilog.{header_lines, parameter_lines, declaration_lines, latch_lines, falling_edge_lines}
use Rattle.macro_views.proofs.TextLaws.{text_more, five_texts}
use Rattle.macro_views.proofs.VerilogLaws.{module_is, module_named}
use Rattle.macro_views.proofs.verilog.verilog_text.Goals as goal

pub returns : goal.returns
returns c =
    let p = c.args.plan.now in
    let m = nat_lt 0 p.masks in
    let line = codes "module " ++ c.args.name.now ++ codes "(\n" in
    text_more [] ((((line ++ text_of_lines (header_lines m)) ++ text_of_lines (parameter_lines p)) ++ text_of_lines (declaration_lines m)) ++ text_of_lines (latch_lines m)) (text_of_lines (falling_edge_lines p))
    (five_texts [] line (text_of_lines (header_lines m)) (text_of_lines (parameter_lines p)) (text_of_lines (declaration_lines m)) (text_of_lines (latch_lines m))
    (module_named _ _ c.in_ok-append_filled.ensures c.new-out.ensures.items c.as_bytes.ensures) c.in_ok-write_header.ensures c.in_ok-write_parameters.ensures c.in_ok-write_declarations.ensures c.in_ok-write_latches.ensures)
    c.in_ok-write_falling_edge.ensures
    ∙ module_is c.args.name.now (header_lines m) (parameter_lines p) (declaration_lines m) (latch_lines m) (falling_edge_lines p)
