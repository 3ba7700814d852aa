-- The text of subcircuits.
use Rattle.std.specs.Prelude.{ℕ, ◌+◌, List, [], ◌∷◌, ◌++◌, ◌==◌, if◌then◌else◌, codes, flat_map}
use Rattle.netlist.specs.declared.deck.Subckt.{Subckt}
use Rattle.netlist.specs.declared.deck.Instance.{Instance}

-- what stands before a word, where its line has so many words already: after twelve a new line begins with `+ `
abbrev pub gap : ℕ → List ℕ
gap count = if count == 0 then [] else (if count == 12 then 10 ∷ 43 ∷ 32 ∷ [] else 32 ∷ [])

-- how many words the line has with one more
abbrev pub count_after : ℕ → ℕ
count_after count = if count == 12 then 1 else count + 1

-- words and the line's end, where the line has so many words already
abbrev pub words_text : ℕ → List (List ℕ) → List ℕ
words_text count [] = 10 ∷ []
words_text count (word ∷ words) = (gap count ++ word) ++ words_text (count_after count) words

-- a line of these words: twelve of them, and each further twelve, or what is left, on a line that begins with `+ `
abbrev pub statement_text : List (List ℕ) → List ℕ
statement_text words = words_text 0 words

abbrev pub instance_words : Instance → List (List ℕ)
instance_words i = i.name ∷ (i.nodes ++ i.of ∷ [])

abbrev pub instance_text : Instance → List ℕ
instance_text i = statement_text (instance_words i)

abbrev pub begin_text : Subckt → List ℕ
begin_text s = statement_text (codes ".SUBCKT" ∷ s.name ∷ s.ports)

abbrev pub end_text : Subckt → List ℕ
end_text s = statement_text (codes ".ENDS" ∷ s.name ∷ [])

abbrev pub subckt_text : Subckt → List ℕ
subckt_text s = begin_text s ++ (flat_map instance_text s.instances ++ end_text s)

abbrev pub deck_text : List Subckt → List ℕ
deck_text subckts = flat_map subckt_text subckts
