-- Pins as words.
use Rattle.std.specs.Prelude.{ℕ, List, [], ◌∷◌, ◌++◌, codes}
use Rattle.net_extractor.specs.declared.difference.PinName.{PinName}
use Rattle.net_extractor.specs.declared.difference.NetDiff.{NetDiff}
use Rattle.net_extractor.specs.declared.difference.NetDiff.TheVariants.{Unlabelled, Stranger, Open, Short}

-- the path, `/` and the name; the name alone where the path is empty
abbrev pub pin_text : List ℕ → List ℕ → List ℕ
pin_text [] name = name
pin_text (b ∷ bs) name = (b ∷ bs) ++ (47 ∷ name)

abbrev pub pin_word : PinName → List ℕ
pin_word p = pin_text p.path p.pin

-- the difference's name and two pins; a difference of one pin has it twice
abbrev pub kind_and_pins : NetDiff → List (List ℕ)
kind_and_pins (Unlabelled pin) = codes "Unlabelled" ∷ (pin_word pin ∷ (pin_word pin ∷ []))
kind_and_pins (Stranger pin) = codes "Stranger" ∷ (pin_word pin ∷ (pin_word pin ∷ []))
kind_and_pins (Open first second) = codes "Open" ∷ (pin_word first ∷ (pin_word second ∷ []))
kind_and_pins (Short first second) = codes "Short" ∷ (pin_word first ∷ (pin_word second ∷ []))
