use Rattle.std.proofs.Common.{◌∷◌, ◌++◌, List, ℕ, ap, ◌∙◌}
use Rattle.std.specs.Prelude.{codes}
use Rattle.rom_data.specs.RomVerilog.{rom_header_lines, rom_size_lines, rom_declaration_lines, initial_lines, rom_clock_lines}
use Rattle.rom_data.proofs.TextLaws.{lines_more, module_is}
use Rattle.rom_data.proofs.verilog.rom_verilog.Goals as goal

pub returns : goal.returns
returns c =
    let plan = c.args.plan.now in
    let name = c.args.name.now in
    let initial = initial_lines plan c.args.words.now in
    let head = (codes "module " ++ name ++ codes "(") ∷ rom_header_lines in
    let sized = head ++ rom_size_lines plan in
    let declared = sized ++ rom_declaration_lines in
    let named = c.in_ok-append-2.ensures ∙ ap (λ (l : List ℕ). c.append.new.out.items ++ l) c.as_bytes.ensures in
    let begun = module_is name rom_header_lines c.new-out.ensures.items c.in_ok-append.ensures named c.in_ok-append-3.ensures c.in_ok-append-4.ensures in
    let filled = lines_more declared initial (lines_more sized rom_declaration_lines (lines_more head (rom_size_lines plan) begun c.in_ok-write_sizes.ensures) c.in_ok-append-5.ensures) c.in_ok-write_initial.ensures in
    lines_more (declared ++ initial) rom_clock_lines filled c.in_ok-append-6.ensures
