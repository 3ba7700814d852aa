-- The configuration of a demonstration.
use Rattle.std.specs.Prelude.{ℕ, List, ◌++◌, codes}
use Rattle.demo_kit.specs.Numbers.{demo_word_size, demo_num_words}
use Rattle.demo_kit.specs.Lines.{text_line, number_line}

unfoldable pub demo_configuration : ℕ → List ℕ
demo_configuration n =
    number_line (codes "word_size") (demo_word_size n) ++ (number_line (codes "num_words") (demo_num_words n)
    ++ (text_line (codes "tech_name") (codes "demo_tech") ++ text_line (codes "output_name") (codes "demo")))
