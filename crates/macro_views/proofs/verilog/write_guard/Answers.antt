use Rattle.std.proofs.Common.{◌++◌, List, ℕ, ap, ◌∙◌, arith, append_assoc, sym}
use Rattle.std.specs.Prelude.{codes}
use Rattle.std.specs.Fmt.{decimal}
use Rattle.macro_views.proofs.TextLaws.{three_texts, same_number}
use Rattle.macro_views.proofs.verilog.write_guard.Goals as goal

pub returns : goal.returns
returns c =
    let x = c.args.out.now.items in
    let mask = codes "      if (wmask0_reg[" ++ decimal c.args.mask in
    three_texts x (codes "      if (wmask0_reg[") (decimal c.args.mask) (codes "])\n") c.in_ok-append.ensures (same_number _ c.args.mask _ c.in_ok-append_number.ensures (omega arith)) c.in_ok-append-2.ensures ∙ ap (λ (l : List ℕ). x ++ l) (sym (append_assoc mask (codes "])") (codes "\n")))
