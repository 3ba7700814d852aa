use Rattle.std.proofs.Common.{◌++◌, List, ℕ, [], ap, ◌∙◌}
use Rattle.std.specs.Prelude.{codes, if◌then◌else◌}
use Rattle.macro_views.proofs.TextLaws.{three_texts}
use Rattle.macro_views.proofs.VerilogLaws.{header_is}
use Rattle.macro_views.proofs.verilog.write_header.Goals as goal

pub returns : goal.returns
returns c =
    let x = c.args.out.now.items in
    let m = c.args.masked in
    three_texts x (codes "    clk0, csb0, web0, ") (if m then codes "wmask0, " else []) (codes "addr0, din0, dout0\n  );\n") c.in_ok-append.ensures c.in_ok-append_masked.ensures c.in_ok-append-2.ensures ∙ ap (λ (l : List ℕ). x ++ l) (header_is m)
