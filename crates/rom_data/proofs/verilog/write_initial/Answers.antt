use Rattle.std.proofs.Common.{◌++◌, List, ℕ, ap, ◌∙◌}
use Rattle.rom_data.proofs.TextLaws.{text_more, initial_is}
use Rattle.rom_data.proofs.verilog.write_initial.Goals as goal

pub returns : goal.returns
returns c =
    let x = c.args.out.now.items in
    text_more x _ _ (text_more x _ _ c.in_ok-append.ensures c.in_ok-write_contents.ensures) c.in_ok-append-2.ensures ∙ ap (λ (l : List ℕ). x ++ l) (initial_is c.args.plan.now c.args.words.now)
