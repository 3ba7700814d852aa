use Rattle.std.proofs.Common.{◌≡◌, ◌++◌, List, ℕ, ap, ◌∙◌, arith}
use Rattle.macro_views.specs.Lines.{text_of_lines}
use Rattle.rom_data.proofs.TextLaws.{text_more, first_lines, address_more}
use Rattle.rom_data.proofs.verilog.write_contents.Goals as goal

pub loop-address-preserved : goal.loop-address-preserved
loop-address-preserved c =
    let x = c.args.out.now.items in
    text_more x _ _ c.loop-address.invariant c.in_ok-write_content.ensures ∙ ap (λ (l : List ℕ). x ++ l) (address_more c.args.plan.now c.args.words.now c.loop-address.address)

pub returns : goal.returns
returns c =
    let all : c.loop-address.address ≡ c.args.plan.now.num_words = omega arith in
    c.loop-address.invariant ∙ ap (λ (count : ℕ). c.args.out.now.items ++ text_of_lines (first_lines c.args.plan.now c.args.words.now count)) all
