use Rattle.std.proofs.Common.{◌++◌, List, ℕ, [], ap, ◌∙◌}
use Rattle.std.specs.Prelude.{codes, if◌then◌else◌}
use Rattle.macro_views.specs.declared.verilog.TheConstants.{COMMAND_LATCHES, DATA_LATCHES}
use Rattle.macro_views.proofs.TextLaws.{three_texts}
use Rattle.macro_views.proofs.VerilogLaws.{latched_is}
use Rattle.macro_views.proofs.verilog.write_latches.Goals as goal

pub returns : goal.returns
returns c =
    let x = c.args.out.now.items in
    let m = c.args.masked in
    three_texts x COMMAND_LATCHES.now (if m then codes "    wmask0_reg <= wmask0;\n" else []) DATA_LATCHES.now c.in_ok-append.ensures c.in_ok-append_masked.ensures c.in_ok-append-2.ensures ∙ ap (λ (l : List ℕ). x ++ l) (latched_is m)
