-- How much of a text was printed.
use Rattle.std.specs.Prelude.{◌≡◌, ℕ, ◌<◌, List, ◌++◌, length, take, Option, Result, Ok, Err}
use Rattle.or_host.specs.Text.{Grows}
use Rattle.or_host.specs.declared.sink.PutFail.{PutFail}
use Rattle.or_host.specs.declared.sink.PutFail.TheVariants.{Failed, Memory}
use Rattle.reply_lines.specs.Lines.{lines_text}

-- all of it
abbrev pub IsWholeText : List ℕ → List ℕ → Type 0
IsWholeText whole text = text ≡ whole

-- a prefix of it, which may be nothing or all
abbrev pub IsPrefixOf : List ℕ → List ℕ → Type 0
IsPrefixOf whole text = (rest : List ℕ) × (whole ≡ text ++ rest)

-- the first lines, each whole, before one that is not printed: so never all of them
pub record AreFirstLines (lines : List (List ℕ)) (text : List ℕ) : Type 0 where
  pub count : ℕ
  pub not_all : count < length lines
  pub is : text ≡ lines_text (take count lines)

-- two texts, one after the other
pub record IsFollowedBy (IsFirst IsSecond : List ℕ → Type 0) (text : List ℕ) : Type 0 where
  pub first : List ℕ
  pub second : List ℕ
  pub parts : text ≡ first ++ second
  pub is_first : IsFirst first
  pub is_second : IsSecond second

-- Lines printed one by one. Where a put failed, a prefix of them stands there, cut anywhere; where one ran out of memory, whole lines.
abbrev pub Prints : List (List ℕ) → Option (List ℕ) → Option (List ℕ) → Result (Unit {0}) PutFail → Type 0
Prints lines old new (Ok done) = Grows (IsWholeText (lines_text lines)) old new
Prints lines old new (Err Failed) = Grows (IsPrefixOf (lines_text lines)) old new
Prints lines old new (Err Memory) = Grows (AreFirstLines lines) old new
