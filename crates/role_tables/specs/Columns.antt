-- What the characters of a row's columns stand for.
use Rattle.std.specs.Prelude.{◌≡◌, ◌==◌, ℕ, List, ◌++◌, map, length, codes, ◌&&◌, ◌||◌, not, Bool, true, false, IsTrue}
use Rattle.std.specs.Prelude.{if◌then◌else◌}
use Rattle.std.specs.List.{list_any, list_all}
use Rattle.cell_roles.specs.Acts.{Drive, Off, Strong, Weak}
use Rattle.cell_roles.specs.Tables.{Wanted, Either, Only, NextBit, Keep, Become, TableRow, fits}
use Rattle.role_tables.specs.declared.row.RowText.TheInside.{Inside}

-- each character is one of the alphabet
abbrev pub are_of : List ℕ → List ℕ → Bool
are_of alphabet text = list_all (λ c. list_any (λ a. a == c) alphabet) text

-- what a character asks of an input or a stored bit
abbrev pub wanted_of : ℕ → Wanted
wanted_of c = if c == 48 then Only false else if c == 49 then Only true else Either

-- what it puts on a pin
abbrev pub drive_of : ℕ → Drive
drive_of c =
    if c == 48 then Strong false else if c == 49 then Strong true else if c == 108 then Weak false
    else if c == 104 then Weak true else Off

-- whether it joins two pins
abbrev pub join_of : ℕ → Bool
join_of c = c == 106

-- what it makes of a stored bit
abbrev pub next_of : ℕ → NextBit
next_of c = if c == 48 then Become false else if c == 49 then Become true else Keep

-- the row that the columns are
abbrev pub columns_row : Inside → TableRow
columns_row r = record {
  looks = map wanted_of r.looks.now;
  stored = map wanted_of r.stored.now;
  drives = map drive_of r.drives.now;
  joins = map join_of r.joins.now;
  next = map next_of r.next.now;
}

-- each column is written in its alphabet
pub record AreInAlphabets (r : Inside) : Type 0 where
  pub looks : are_of (codes "01x") r.looks.now ≡ true
  pub stored : are_of (codes "01x") r.stored.now ≡ true
  pub drives : are_of (codes "01lhz") r.drives.now ≡ true
  pub joins : are_of (codes "j-") r.joins.now ≡ true
  pub next : are_of (codes "01=") r.next.now ≡ true

-- the text is so many characters of the alphabet, the separator, and the rest
pub record BeginsWithColumn (alphabet : List ℕ) (count : ℕ) (separator text column rest : List ℕ) : Type 0 where
  pub is : text ≡ column ++ (separator ++ rest)
  pub long : length column ≡ count
  pub allowed : are_of alphabet column ≡ true

-- the text begins with no such column
abbrev pub HasNoColumn : List ℕ → ℕ → List ℕ → List ℕ → Type 0
HasNoColumn alphabet count separator text = (column rest : List ℕ) → BeginsWithColumn alphabet count separator text column rest → ⊥

-- the character asks for the value, or for either
abbrev pub allows : ℕ → Bool → Bool
allows c value = if c == 48 then not value else if c == 49 then value else true

-- some value is one that both characters ask for
abbrev pub allow_one : ℕ → ℕ → Bool
allow_one a b = (allows a false && allows b false) || (allows a true && allows b true)

-- what a stored bit becomes by the character
abbrev pub next_bit : ℕ → Bool → Bool
next_bit c bit = if c == 48 then false else if c == 49 then true else bit

-- some values fit both columns
pub record FitOne (a b : List Wanted) : Type 0 where
  pub values : List Bool
  pub first : IsTrue (fits a values)
  pub second : IsTrue (fits b values)
