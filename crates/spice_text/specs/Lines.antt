-- Bytes to lines.
use Rattle.std.specs.Prelude.{ℕ, ◌+◌, List, [], ◌∷◌, length, Bool, ◌==◌, if◌then◌else◌}

-- a line, with its number and how many bytes stand before it
pub record TextLine : Type 0 where
  pub number : ℕ
  pub before : ℕ
  pub text : List ℕ

abbrev pub is_lf : ℕ → Bool
is_lf b = b == 10

-- one byte more at the head of the first piece
abbrev pub with_head : ℕ → List (List ℕ) → List (List ℕ)
with_head b [] = []
with_head b (piece ∷ pieces) = (b ∷ piece) ∷ pieces

-- what stands between the separators: one piece more than there are separators
abbrev pub pieces : (ℕ → Bool) → List ℕ → List (List ℕ)
pieces separates [] = [] ∷ []
pieces separates (b ∷ bytes) = if separates b then [] ∷ pieces separates bytes else with_head b (pieces separates bytes)

-- without a CR at the end
abbrev pub without_cr : List ℕ → List ℕ
without_cr [] = []
without_cr (b ∷ []) = if b == 13 then [] else b ∷ []
without_cr (b ∷ c ∷ bytes) = b ∷ without_cr (c ∷ bytes)

-- the lines of these pieces, of which the first has this number, after so many bytes
abbrev pub numbered_lines : ℕ → ℕ → List (List ℕ) → List TextLine
numbered_lines number before [] = []
numbered_lines number before (piece ∷ pieces) =
    record { number = number; before = before; text = without_cr piece } ∷ numbered_lines (number + 1) (before + length piece + 1) pieces

-- lines end by LF or CRLF, the last one by the end of the text or a CR there
abbrev pub lines_of : List ℕ → List TextLine
lines_of bytes = numbered_lines 1 0 (pieces is_lf bytes)
