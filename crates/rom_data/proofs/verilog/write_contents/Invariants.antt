use Rattle.std.proofs.Common.{◌≡◌, ◌++◌}
use Rattle.macro_views.specs.Lines.{text_of_lines}
use Rattle.rom_data.proofs.TextLaws.{first_lines}
use Rattle.rom_data.proofs.verilog.write_contents.Given as goal

-- the lines so far
abbrev pub invariant-loop-address : goal.invariant-loop-address
invariant-loop-address l = l.out.items ≡ l.initial.out.items ++ text_of_lines (first_lines l.plan l.words l.address)
