use Rattle.std.proofs.Common.{◌≡◌, ◌++◌, List, ℕ, ap, ◌∙◌, sym, append_assoc, arith}
use Rattle.std.specs.Prelude.{codes}
use Rattle.std.specs.Fmt.{decimal}
use Rattle.rom_data.specs.Hex.{hex_digit_count, hex_digits}
use Rattle.rom_data.proofs.TextLaws.{text_more}
use Rattle.rom_data.proofs.verilog.write_content.Goals as goal

pub returns : goal.returns
returns c =
    let x = c.args.out.now.items in
    let size : c.from.result ≡ c.args.word_size = omega arith in
    let sized = c.in_ok-append_number-2.ensures ∙ ap (λ (n : ℕ). c.append-2.new.out.items ++ decimal n) size in
    let digits = c.in_ok-append_hex.ensures ∙ ap (λ (n : ℕ). c.append-3.new.out.items ++ hex_digits n c.args.word) c.hex_digit_count.ensures in
    let front = codes "    mem[" ++ decimal c.args.address ++ codes "] = " ++ decimal c.args.word_size ++ codes "'h" ++ hex_digits (hex_digit_count c.args.word_size) c.args.word in
    text_more x front (codes ";\n")
    (text_more x _ _ (text_more x _ _ (text_more x _ _ (text_more x _ _ (text_more x _ _ c.in_ok-append.ensures c.in_ok-append_number.ensures) c.in_ok-append-2.ensures) sized) c.in_ok-append-3.ensures) digits)
    c.in_ok-append-4.ensures
    ∙ ap (λ (l : List ℕ). x ++ l) (sym (append_assoc front (codes ";") (codes "\n")))
