use Rattle.std.proofs.Common.{◌++◌, List, ℕ, ap, ◌∙◌}
use Rattle.std.specs.Prelude.{codes}
use Rattle.macro_views.specs.declared.lef.TheConstants.{HEAD}
use Rattle.macro_views.specs.Lef.{size_text}
use Rattle.macro_views.proofs.TextLaws.{text_more, three_texts}
use Rattle.macro_views.proofs.LefLaws.{head_is}
use Rattle.macro_views.proofs.lef.write_head.Goals as goal

pub returns : goal.returns
returns c =
    let x = c.args.out.now.items in
    let v = c.args.view.now in
    let macro = codes "MACRO " ++ c.as_bytes.result.now ++ codes "\n  CLASS BLOCK ;\n" in
    text_more x ((HEAD.now ++ macro) ++ size_text v) (codes "\n  SYMMETRY X Y ;\n") (three_texts x HEAD.now macro (size_text v) c.in_ok-append.ensures c.in_ok-append_filled.ensures c.in_ok-write_size.ensures) c.in_ok-append-2.ensures
    ∙ ap (λ (l : List ℕ). x ++ l) (head_is v c.as_bytes.ensures)
