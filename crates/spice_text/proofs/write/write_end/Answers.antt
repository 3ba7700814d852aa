use Rattle.std.proofs.Common.{◌∷◌, ◌++◌, ◌∙◌, [], ap}
use Rattle.std.specs.Prelude.{codes}
use Rattle.spice_text.specs.Views.{ending}
use Rattle.spice_text.specs.WrittenText.{words_text}
use Rattle.spice_text.proofs.write.write_end.Goals as goal

pub returns-clause-text : goal.returns-clause-text
returns-clause-text c =
    let s = c.args.subckt.now in
    c.in_ok-end_line.ensures.text ∙ c.in_ok-write_word-2.ensures [] ∙ ap (λ word. ending c.write_word.new.writer (word ∷ [])) c.as_bytes.ensures ∙ c.in_ok-write_word.ensures (s.name ∷ [])
    ∙ ap (λ word. ending c.args.writer.now (word ∷ s.name ∷ [])) c.as_slice.ensures ∙ ap (λ count. c.args.writer.now.text.items ++ words_text count (codes ".ENDS" ∷ s.name ∷ [])) c.requires
