use Rattle.std.proofs.Common.{◌∷◌, ◌++◌, ◌∙◌, [], ap}
use Rattle.std.specs.Prelude.{codes}
use Rattle.std.proofs.lemmas.List.{append-nil}
use Rattle.spice_text.specs.Views.{ending}
use Rattle.spice_text.specs.WrittenText.{words_text}
use Rattle.spice_text.proofs.write.write_begin.Goals as goal

pub returns-clause-text : goal.returns-clause-text
returns-clause-text c =
    let s = c.args.subckt.now in
    c.in_ok-end_line.ensures.text ∙ c.in_ok-write_words.ensures [] ∙ ap (ending c.write_word-2.new.writer) (append-nil c.as_slice-2.result.now ∙ c.as_slice-2.ensures) ∙ c.in_ok-write_word-2.ensures s.ports
    ∙ ap (λ word. ending c.write_word.new.writer (word ∷ s.ports)) c.as_bytes.ensures ∙ c.in_ok-write_word.ensures (s.name ∷ s.ports) ∙ ap (λ word. ending c.args.writer.now (word ∷ s.name ∷ s.ports)) c.as_slice.ensures
    ∙ ap (λ count. c.args.writer.now.text.items ++ words_text count (codes ".SUBCKT" ∷ s.name ∷ s.ports)) c.requires
