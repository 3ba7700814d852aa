use Rattle.std.proofs.Common.{◌++◌, List, ℕ, ap, ◌∙◌}
use Rattle.std.specs.Prelude.{codes, flat_map}
use Rattle.std.specs.List.{range_with_len}
use Rattle.macro_views.specs.Verilog.{mask_text}
use Rattle.macro_views.proofs.TextLaws.{three_texts}
use Rattle.macro_views.proofs.VerilogLaws.{masked_is}
use Rattle.macro_views.proofs.verilog.write_masked.Goals as goal

pub returns : goal.returns
returns c =
    let x = c.args.out.now.items in
    let p = c.args.plan.now in
    three_texts x (codes "    if (!csb0_reg && !web0_reg) begin\n") (flat_map (mask_text p.write_size) (range_with_len 0 p.masks)) (codes "    end\n") c.in_ok-append.ensures c.in_ok-write_masks.ensures c.in_ok-append-2.ensures ∙ ap (λ (l : List ℕ). x ++ l) (masked_is p)
