use Rattle.std.proofs.Common.{◌∷◌, ◌++◌, ◌∙◌, [], ap}
use Rattle.spice_text.specs.Views.{ending}
use Rattle.spice_text.specs.WrittenText.{words_text, instance_words}
use Rattle.spice_text.proofs.write.write_instance.Goals as goal

pub returns-clause-text : goal.returns-clause-text
returns-clause-text c =
    let i = c.args.instance.now in
    c.in_ok-end_line.ensures.text ∙ c.in_ok-write_word-2.ensures [] ∙ ap (λ word. ending c.write_words.new.writer (word ∷ [])) c.as_bytes-2.ensures ∙ c.in_ok-write_words.ensures (i.of ∷ [])
    ∙ ap (λ nodes. ending c.write_word.new.writer (nodes ++ i.of ∷ [])) c.as_slice.ensures ∙ c.in_ok-write_word.ensures (i.nodes ++ i.of ∷ []) ∙ ap (λ word. ending c.args.writer.now (word ∷ (i.nodes ++ i.of ∷ []))) c.as_bytes.ensures
    ∙ ap (λ count. c.args.writer.now.text.items ++ words_text count (instance_words i)) c.requires
