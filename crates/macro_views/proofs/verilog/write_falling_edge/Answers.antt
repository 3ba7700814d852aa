use Rattle.std.proofs.Common.{◌++◌, List, ℕ, ap, ◌∙◌}
use Rattle.std.specs.Prelude.{codes}
use Rattle.macro_views.specs.declared.verilog.TheConstants.{READING}
use Rattle.macro_views.specs.Lines.{text_of_lines}
use Rattle.macro_views.specs.Verilog.{write_lines}
use Rattle.macro_views.proofs.TextLaws.{three_texts}
use Rattle.macro_views.proofs.VerilogLaws.{falling_edge_is}
use Rattle.macro_views.proofs.verilog.write_falling_edge.Goals as goal

pub returns : goal.returns
returns c =
    let x = c.args.out.now.items in
    let p = c.args.plan.now in
    three_texts x (codes "  always @(negedge clk0) begin\n") (text_of_lines (write_lines p)) READING.now c.in_ok-append.ensures c.in_ok-write_writing.ensures c.in_ok-append-2.ensures ∙ ap (λ (l : List ℕ). x ++ l) (falling_edge_is p)
