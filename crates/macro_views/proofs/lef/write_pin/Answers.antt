use Rattle.std.proofs.Common.{◌++◌, List, ℕ, ap, ◌∙◌}
use Rattle.std.specs.Prelude.{codes}
use Rattle.macro_views.specs.Lines.{text_of_lines}
use Rattle.macro_views.specs.Lef.{port_lines}
use Rattle.macro_views.proofs.TextLaws.{five_texts}
use Rattle.macro_views.proofs.LefLaws.{pin_is}
use Rattle.macro_views.proofs.lef.write_pin.Goals as goal

pub returns : goal.returns
returns c =
    let x = c.args.out.now.items in
    let name = c.args.name.now in
    let direction = c.args.direction.now in
    let use_of = c.args.use_of.now in
    let layer = c.args.layer.now in
    let a = c.args.area in
    five_texts x (codes "  PIN " ++ name ++ codes "\n") (codes "    DIRECTION " ++ direction ++ codes " ;\n") (codes "    USE " ++ use_of ++ codes " ;\n") (text_of_lines (port_lines layer a)) (codes "  END " ++ name ++ codes "\n")
    c.in_ok-append_filled.ensures c.in_ok-append_filled-2.ensures c.in_ok-append_filled-3.ensures c.in_ok-write_port.ensures c.in_ok-append_filled-4.ensures
    ∙ ap (λ (l : List ℕ). x ++ l) (pin_is name direction use_of layer a)
