use Rattle.std.proofs.Common.{◌++◌, List, ℕ, ap, ◌∙◌}
use Rattle.std.specs.Prelude.{codes}
use Rattle.macro_views.specs.Lef.{box_text}
use Rattle.macro_views.proofs.TextLaws.{three_texts}
use Rattle.macro_views.proofs.LefLaws.{blocked_is}
use Rattle.macro_views.proofs.lef.write_blocked.Goals as goal

pub returns : goal.returns
returns c =
    let x = c.args.out.now.items in
    let layer = c.args.layer.now in
    let a = c.args.area in
    three_texts x (codes "    LAYER " ++ layer ++ codes " ;\n      ") (box_text a) (codes "\n") c.in_ok-append_filled.ensures c.in_ok-append_box.ensures c.in_ok-append.ensures ∙ ap (λ (l : List ℕ). x ++ l) (blocked_is layer a)
