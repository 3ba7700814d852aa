-- The lines of labels with their nets.
use Rattle.std.specs.Prelude.{ℕ, List, [], ◌∷◌, ◌++◌, map, Option, Some, None}
use Rattle.std.specs.Fmt.{decimal}
use Rattle.tech_rules.specs.declared.tech.Layer.{Layer}
use Rattle.net_extractor.specs.PlainNetLabel.{PlainNetLabel}
use Rattle.reply_lines.specs.declared.reply.Reply.{Reply}
use Rattle.reply_lines.specs.Lines.{reply_line}
use Rattle.reply_lines.specs.Pins.{pin_text}
use Rattle.reply_lines.specs.Shapes.{layer_name}

-- the net's number, or `-` where the label binds no shape
abbrev pub net_word : Option ℕ → List ℕ
net_word None = 45 ∷ []
net_word (Some number) = decimal number

-- the label's net, its layer's name, and its path and name as a pin
abbrev pub net_words : List Layer → PlainNetLabel → List (List ℕ)
net_words layers label = net_word label.net ∷ (layer_name layers label.layer ∷ (pin_text label.path label.name ∷ []))

abbrev pub net_lines : List Layer → List PlainNetLabel → List (List ℕ)
net_lines layers labels = map (λ label. reply_line (net_words layers label)) labels

abbrev pub nets_reply : List Layer → List PlainNetLabel → Reply
nets_reply layers labels = record { status = 0; lines = net_lines layers labels }
