-- The line of a difference between a layout and a netlist.
use Rattle.std.specs.Prelude.{ℕ, List, [], ◌∷◌, Option, Some, None, codes}
use Rattle.net_extractor.specs.declared.difference.NetDiff.{NetDiff}
use Rattle.net_extractor.specs.declared.difference.NetDiff.TheVariants.{Unlabelled, Stranger, Open, Short}
use Rattle.reply_lines.specs.declared.reply.Reply.{Reply}
use Rattle.reply_lines.specs.Lines.{reply_line}
use Rattle.reply_lines.specs.Pins.{pin_word}

-- the difference's name and its pins
abbrev pub difference_words : NetDiff → List (List ℕ)
difference_words (Unlabelled pin) = codes "Unlabelled" ∷ (pin_word pin ∷ [])
difference_words (Stranger pin) = codes "Stranger" ∷ (pin_word pin ∷ [])
difference_words (Open first second) = codes "Open" ∷ (pin_word first ∷ (pin_word second ∷ []))
difference_words (Short first second) = codes "Short" ∷ (pin_word first ∷ (pin_word second ∷ []))

-- status 0 and nothing where there is none, else status 1 and its line
abbrev pub comparison_reply : Option NetDiff → Reply
comparison_reply None = record { status = 0; lines = [] }
comparison_reply (Some d) = record { status = 1; lines = reply_line (difference_words d) ∷ [] }
