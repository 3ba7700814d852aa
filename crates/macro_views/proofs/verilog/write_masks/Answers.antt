use Rattle.std.proofs.Common.{◌++◌, List, ℕ, sym, ap, ◌∙◌}
use Rattle.std.specs.Prelude.{flat_map}
use Rattle.std.specs.List.{range_with_len}
use Rattle.macro_views.specs.Verilog.{mask_text}
use Rattle.macro_views.proofs.TextLaws.{text_more, numbers_more}
use Rattle.macro_views.proofs.verilog.write_masks.Goals as goal

pub loop-mask-preserved : goal.loop-mask-preserved
loop-mask-preserved c =
    let f = mask_text c.args.plan.now.write_size in
    let k = c.loop-mask.mask in
    let x = c.args.out.now.items in
    text_more x (flat_map f (range_with_len 0 k)) (f k) c.loop-mask.invariant c.in_ok-write_mask.ensures ∙ ap (λ (l : List ℕ). x ++ l) (sym (numbers_more f k))
