use Rattle.std.proofs.Common.{◌++◌, List, ℕ, [], ap, ◌∙◌}
use Rattle.std.specs.Prelude.{codes, if◌then◌else◌}
use Rattle.macro_views.specs.declared.verilog.TheConstants.{COMMAND_INPUTS, DATA_PORTS, DATA_REGISTERS}
use Rattle.macro_views.proofs.TextLaws.{five_texts}
use Rattle.macro_views.proofs.VerilogLaws.{declared_is}
use Rattle.macro_views.proofs.verilog.write_declarations.Goals as goal

pub returns : goal.returns
returns c =
    let x = c.args.out.now.items in
    let m = c.args.masked in
    five_texts x COMMAND_INPUTS.now (if m then codes "  input [NUM_WMASKS-1:0] wmask0;\n" else []) DATA_PORTS.now (if m then codes "  reg [NUM_WMASKS-1:0] wmask0_reg;\n" else []) DATA_REGISTERS.now c.in_ok-append.ensures c.in_ok-append_masked.ensures
    c.in_ok-append-2.ensures c.in_ok-append_masked-2.ensures c.in_ok-append-3.ensures
    ∙ ap (λ (l : List ℕ). x ++ l) (declared_is m)
