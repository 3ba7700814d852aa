-- The tables of the roles, row by row, as a technology file writes them.
use Rattle.std.specs.Prelude.{◌≡◌, ℕ, zero, suc, List, [], ◌∷◌, ◌++◌, map, length, Bool, true, false, ◌&&◌, not, if◌then◌else◌}
use Rattle.std.specs.List.{flat_map}
use Rattle.cell_roles.specs.declared.role.Role.{Role}
use Rattle.cell_roles.specs.declared.role.Role.TheVariants.{Bitcell, Precharge, Mux, Tie, Sense, Write, RowNand2, RowNand3, Driver, Nand2, Nand3, Inv, Dff, Delay}
use Rattle.cell_roles.specs.Roles.{input_pins, stored_bits}
use Rattle.cell_roles.specs.Acts.{Drive, Off, Strong, Weak, Act, act, differ}

-- what a row wants of an input or a stored bit: x either value, 0 and 1 this one
pub data Wanted : Type 0 where
  Either : Wanted
  Only : Bool → Wanted

-- the next value of a stored bit: = the same, 0 and 1 this one
pub data NextBit : Type 0 where
  Keep : NextBit
  Become : Bool → NextBit

-- a row IN/ST = DR/JN/NX
pub record TableRow : Type 0 where
  pub looks : List Wanted
  pub stored : List Wanted
  pub drives : List Drive
  pub joins : List Bool
  pub next : List NextBit

abbrev pub fits : List Wanted → List Bool → Bool
fits [] [] = true
fits (Either ∷ ws) (b ∷ bs) = fits ws bs
fits (Only a ∷ ws) (b ∷ bs) = not (differ a b) && fits ws bs
fits ws bs = false

abbrev pub next_bits : List NextBit → List Bool → List Bool
next_bits (Keep ∷ ns) (b ∷ bs) = b ∷ next_bits ns bs
next_bits (Become a ∷ ns) (b ∷ bs) = a ∷ next_bits ns bs
next_bits ns bs = []

-- what the first row that fits says
abbrev pub by_rows : List TableRow → List Bool → List Bool → Act
by_rows [] values st = record { drives = []; joins = []; next = [] }
by_rows (row ∷ rows) values st =
    if fits row.looks values && fits row.stored st
    then record { drives = row.drives; joins = row.joins; next = next_bits row.next st }
    else by_rows rows values st

-- 0xx/x = zz//=, 100/0 = lz//0, 100/1 = zl//1, 101/0 = lz//0, 101/1 = zl//0, 110/0 = lz//1, 110/1 = zl//1, 111/0 = lz//0, 111/1 = zl//1
abbrev pub bitcell_rows : List TableRow
bitcell_rows =
    record { looks = Only false ∷ Either ∷ Either ∷ []; stored = Either ∷ []; drives = Off ∷ Off ∷ []; joins = []; next = Keep ∷ [] } ∷
    record { looks = Only true ∷ Only false ∷ Only false ∷ []; stored = Only false ∷ []; drives = Weak false ∷ Off ∷ []; joins = []; next = Become false ∷ [] } ∷
    record { looks = Only true ∷ Only false ∷ Only false ∷ []; stored = Only true ∷ []; drives = Off ∷ Weak false ∷ []; joins = []; next = Become true ∷ [] } ∷
    record { looks = Only true ∷ Only false ∷ Only true ∷ []; stored = Only false ∷ []; drives = Weak false ∷ Off ∷ []; joins = []; next = Become false ∷ [] } ∷
    record { looks = Only true ∷ Only false ∷ Only true ∷ []; stored = Only true ∷ []; drives = Off ∷ Weak false ∷ []; joins = []; next = Become false ∷ [] } ∷
    record { looks = Only true ∷ Only true ∷ Only false ∷ []; stored = Only false ∷ []; drives = Weak false ∷ Off ∷ []; joins = []; next = Become true ∷ [] } ∷
    record { looks = Only true ∷ Only true ∷ Only false ∷ []; stored = Only true ∷ []; drives = Off ∷ Weak false ∷ []; joins = []; next = Become true ∷ [] } ∷
    record { looks = Only true ∷ Only true ∷ Only true ∷ []; stored = Only false ∷ []; drives = Weak false ∷ Off ∷ []; joins = []; next = Become false ∷ [] } ∷
    record { looks = Only true ∷ Only true ∷ Only true ∷ []; stored = Only true ∷ []; drives = Off ∷ Weak false ∷ []; joins = []; next = Become true ∷ [] } ∷
    []

-- 0/ = 11//, 1/ = zz//
abbrev pub precharge_rows : List TableRow
precharge_rows =
    record { looks = Only false ∷ []; stored = []; drives = Strong true ∷ Strong true ∷ []; joins = []; next = [] } ∷
    record { looks = Only true ∷ []; stored = []; drives = Off ∷ Off ∷ []; joins = []; next = [] } ∷
    []

-- 0/ = /--/, 1/ = /jj/
abbrev pub mux_rows : List TableRow
mux_rows =
    record { looks = Only false ∷ []; stored = []; drives = []; joins = false ∷ false ∷ []; next = [] } ∷
    record { looks = Only true ∷ []; stored = []; drives = []; joins = true ∷ true ∷ []; next = [] } ∷
    []

-- / = //
abbrev pub tie_rows : List TableRow
tie_rows =
    record { looks = []; stored = []; drives = []; joins = []; next = [] } ∷
    []

-- 0xx/ = z//, 100/ = z//, 101/ = 0//, 110/ = 1//, 111/ = z//
abbrev pub sense_rows : List TableRow
sense_rows =
    record { looks = Only false ∷ Either ∷ Either ∷ []; stored = []; drives = Off ∷ []; joins = []; next = [] } ∷
    record { looks = Only true ∷ Only false ∷ Only false ∷ []; stored = []; drives = Off ∷ []; joins = []; next = [] } ∷
    record { looks = Only true ∷ Only false ∷ Only true ∷ []; stored = []; drives = Strong false ∷ []; joins = []; next = [] } ∷
    record { looks = Only true ∷ Only true ∷ Only false ∷ []; stored = []; drives = Strong true ∷ []; joins = []; next = [] } ∷
    record { looks = Only true ∷ Only true ∷ Only true ∷ []; stored = []; drives = Off ∷ []; joins = []; next = [] } ∷
    []

-- 0x/ = zz//, 10/ = 01//, 11/ = 10//
abbrev pub write_rows : List TableRow
write_rows =
    record { looks = Only false ∷ Either ∷ []; stored = []; drives = Off ∷ Off ∷ []; joins = []; next = [] } ∷
    record { looks = Only true ∷ Only false ∷ []; stored = []; drives = Strong false ∷ Strong true ∷ []; joins = []; next = [] } ∷
    record { looks = Only true ∷ Only true ∷ []; stored = []; drives = Strong true ∷ Strong false ∷ []; joins = []; next = [] } ∷
    []

-- 0x/ = 1//, 10/ = 1//, 11/ = 0//
abbrev pub rownand2_rows : List TableRow
rownand2_rows =
    record { looks = Only false ∷ Either ∷ []; stored = []; drives = Strong true ∷ []; joins = []; next = [] } ∷
    record { looks = Only true ∷ Only false ∷ []; stored = []; drives = Strong true ∷ []; joins = []; next = [] } ∷
    record { looks = Only true ∷ Only true ∷ []; stored = []; drives = Strong false ∷ []; joins = []; next = [] } ∷
    []

-- 0xx/ = 1//, 10x/ = 1//, 110/ = 1//, 111/ = 0//
abbrev pub rownand3_rows : List TableRow
rownand3_rows =
    record { looks = Only false ∷ Either ∷ Either ∷ []; stored = []; drives = Strong true ∷ []; joins = []; next = [] } ∷
    record { looks = Only true ∷ Only false ∷ Either ∷ []; stored = []; drives = Strong true ∷ []; joins = []; next = [] } ∷
    record { looks = Only true ∷ Only true ∷ Only false ∷ []; stored = []; drives = Strong true ∷ []; joins = []; next = [] } ∷
    record { looks = Only true ∷ Only true ∷ Only true ∷ []; stored = []; drives = Strong false ∷ []; joins = []; next = [] } ∷
    []

-- x0/ = 0//, 01/ = 1//, 11/ = 0//
abbrev pub driver_rows : List TableRow
driver_rows =
    record { looks = Either ∷ Only false ∷ []; stored = []; drives = Strong false ∷ []; joins = []; next = [] } ∷
    record { looks = Only false ∷ Only true ∷ []; stored = []; drives = Strong true ∷ []; joins = []; next = [] } ∷
    record { looks = Only true ∷ Only true ∷ []; stored = []; drives = Strong false ∷ []; joins = []; next = [] } ∷
    []

-- 0x/ = 1//, 10/ = 1//, 11/ = 0//
abbrev pub nand2_rows : List TableRow
nand2_rows =
    record { looks = Only false ∷ Either ∷ []; stored = []; drives = Strong true ∷ []; joins = []; next = [] } ∷
    record { looks = Only true ∷ Only false ∷ []; stored = []; drives = Strong true ∷ []; joins = []; next = [] } ∷
    record { looks = Only true ∷ Only true ∷ []; stored = []; drives = Strong false ∷ []; joins = []; next = [] } ∷
    []

-- 0xx/ = 1//, 10x/ = 1//, 110/ = 1//, 111/ = 0//
abbrev pub nand3_rows : List TableRow
nand3_rows =
    record { looks = Only false ∷ Either ∷ Either ∷ []; stored = []; drives = Strong true ∷ []; joins = []; next = [] } ∷
    record { looks = Only true ∷ Only false ∷ Either ∷ []; stored = []; drives = Strong true ∷ []; joins = []; next = [] } ∷
    record { looks = Only true ∷ Only true ∷ Only false ∷ []; stored = []; drives = Strong true ∷ []; joins = []; next = [] } ∷
    record { looks = Only true ∷ Only true ∷ Only true ∷ []; stored = []; drives = Strong false ∷ []; joins = []; next = [] } ∷
    []

-- 0/ = 1//, 1/ = 0//
abbrev pub inv_rows : List TableRow
inv_rows =
    record { looks = Only false ∷ []; stored = []; drives = Strong true ∷ []; joins = []; next = [] } ∷
    record { looks = Only true ∷ []; stored = []; drives = Strong false ∷ []; joins = []; next = [] } ∷
    []

-- 01/x0 = 0//01, 11/x0 = 1//11, x1/01 = 0//01, x1/11 = 1//11, x0/0x = 0//00, x0/1x = 1//10
abbrev pub dff_rows : List TableRow
dff_rows =
    record { looks = Only false ∷ Only true ∷ []; stored = Either ∷ Only false ∷ []; drives = Strong false ∷ []; joins = []; next = Become false ∷ Become true ∷ [] } ∷
    record { looks = Only true ∷ Only true ∷ []; stored = Either ∷ Only false ∷ []; drives = Strong true ∷ []; joins = []; next = Become true ∷ Become true ∷ [] } ∷
    record { looks = Either ∷ Only true ∷ []; stored = Only false ∷ Only true ∷ []; drives = Strong false ∷ []; joins = []; next = Become false ∷ Become true ∷ [] } ∷
    record { looks = Either ∷ Only true ∷ []; stored = Only true ∷ Only true ∷ []; drives = Strong true ∷ []; joins = []; next = Become true ∷ Become true ∷ [] } ∷
    record { looks = Either ∷ Only false ∷ []; stored = Only false ∷ Either ∷ []; drives = Strong false ∷ []; joins = []; next = Become false ∷ Become false ∷ [] } ∷
    record { looks = Either ∷ Only false ∷ []; stored = Only true ∷ Either ∷ []; drives = Strong true ∷ []; joins = []; next = Become true ∷ Become false ∷ [] } ∷
    []

-- 0/0 = 0//0, 1/0 = 0//1, 0/1 = 1//0, 1/1 = 1//1
abbrev pub delay_rows : List TableRow
delay_rows =
    record { looks = Only false ∷ []; stored = Only false ∷ []; drives = Strong false ∷ []; joins = []; next = Become false ∷ [] } ∷
    record { looks = Only true ∷ []; stored = Only false ∷ []; drives = Strong false ∷ []; joins = []; next = Become true ∷ [] } ∷
    record { looks = Only false ∷ []; stored = Only true ∷ []; drives = Strong true ∷ []; joins = []; next = Become false ∷ [] } ∷
    record { looks = Only true ∷ []; stored = Only true ∷ []; drives = Strong true ∷ []; joins = []; next = Become true ∷ [] } ∷
    []

-- a role's table
abbrev pub table_of : Role → List TableRow
table_of Bitcell = bitcell_rows
table_of Precharge = precharge_rows
table_of Mux = mux_rows
table_of Tie = tie_rows
table_of Sense = sense_rows
table_of Write = write_rows
table_of RowNand2 = rownand2_rows
table_of RowNand3 = rownand3_rows
table_of Driver = driver_rows
table_of Nand2 = nand2_rows
table_of Nand3 = nand3_rows
table_of Inv = inv_rows
table_of Dff = dff_rows
table_of Delay = delay_rows

-- all values of n bits, in counting order, the first bit highest
abbrev pub all_values : ℕ → List (List Bool)
all_values zero = [] ∷ []
all_values (suc n) = map (λ bs. false ∷ bs) (all_values n) ++ map (λ bs. true ∷ bs) (all_values n)

-- a choice of inputs and stored bits
pub record TablePoint : Type 0 where
  pub inputs : List Bool
  pub stored : List Bool

-- the points of a role's table, in counting order
abbrev pub table_points : Role → List TablePoint
table_points role = flat_map (λ inputs. map (λ stored. record { inputs = inputs; stored = stored }) (all_values (length (stored_bits role)))) (all_values (length (input_pins role)))

-- at each point the first row of the table that fits says what the formula says
abbrev pub TablesAgree : Type 0
TablesAgree = (role : Role) → map (λ point. by_rows (table_of role) point.inputs point.stored) (table_points role) ≡ map (λ point. act role point.inputs point.stored) (table_points role)
