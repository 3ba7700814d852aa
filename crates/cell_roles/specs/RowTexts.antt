-- The rows of the roles' tables as a technology file writes them.
use Rattle.std.specs.Prelude.{ℕ, List, ◌++◌, map, codes, Bool, true, false}
use Rattle.cell_roles.specs.declared.role.Role.{Role}
use Rattle.cell_roles.specs.Acts.{Drive, Off, Strong, Weak}
use Rattle.cell_roles.specs.Tables.{Wanted, Either, Only, NextBit, Keep, Become, TableRow, table_of}

-- `0`, `1` or `x` for both
abbrev pub wanted_char : Wanted → ℕ
wanted_char Either = 120
wanted_char (Only false) = 48
wanted_char (Only true) = 49

-- `0` or `1` strong, `l` or `h` weak, `z` for nothing
abbrev pub drive_char : Drive → ℕ
drive_char Off = 122
drive_char (Strong false) = 48
drive_char (Strong true) = 49
drive_char (Weak false) = 108
drive_char (Weak true) = 104

-- `j` where the pair is joined, else `-`
abbrev pub join_char : Bool → ℕ
join_char true = 106
join_char false = 45

-- `0` or `1`, or `=` for the stored bit as it is
abbrev pub next_char : NextBit → ℕ
next_char Keep = 61
next_char (Become false) = 48
next_char (Become true) = 49

-- IN/ST = DR/JN/NX
abbrev pub row_text : TableRow → List ℕ
row_text row =
    map wanted_char row.looks ++ (codes "/" ++ (map wanted_char row.stored ++ (codes " = " ++ (map drive_char row.drives
    ++ (codes "/" ++ (map join_char row.joins ++ (codes "/" ++ map next_char row.next)))))))

-- a role's table, as it is written
abbrev pub table_texts : Role → List (List ℕ)
table_texts role = map row_text (table_of role)
