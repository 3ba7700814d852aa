use Rattle.std.proofs.Common.{◌++◌, ◌+◌, ◌-◌, ◌*◌, List, ℕ, ap, ◌∙◌}
use Rattle.std.specs.Prelude.{codes}
use Rattle.macro_views.specs.Verilog.{guard_line, part_text}
use Rattle.macro_views.proofs.TextLaws.{text_more, five_texts}
use Rattle.macro_views.proofs.VerilogLaws.{mask_is}
use Rattle.macro_views.proofs.verilog.write_mask.Goals as goal

pub returns : goal.returns
returns c =
    let x = c.args.out.now.items in
    let size = c.args.write_size in
    let m = c.args.mask in
    let part = part_text (m * size + size - 1) (m * size) in
    let t0 = guard_line m ++ codes "\n" in
    let t1 = codes "        mem[addr0_reg]" in
    let t2 = codes " <= din0_reg" in
    text_more x ((((t0 ++ t1) ++ part) ++ t2) ++ part) (codes ";\n")
    (five_texts x t0 t1 part t2 part c.in_ok-write_guard.ensures c.in_ok-append.ensures c.in_ok-write_part.ensures c.in_ok-append-2.ensures c.in_ok-write_part-2.ensures) c.in_ok-append-3.ensures
    ∙ ap (λ (l : List ℕ). x ++ l) (mask_is size m)
