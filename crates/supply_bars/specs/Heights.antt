-- The heights at which bars and joiners of the supplies stand on the first metal, and cuts from bars to the supply trunks.
use Rattle.std.specs.Prelude.{◌≡◌, ◌⊎◌, ℕ, ◌+◌, ◌*◌, ◌%◌, ◌==◌, ◌<◌, Bool, true, false, ℤ, pos, ◌+ℤ◌, ◌-ℤ◌, ◌*ℤ◌, List}
use Rattle.or_geom.specs.declared.shape.Shape.{Shape}
use Rattle.cell_roles.specs.declared.role.Role.TheVariants.{Inv, Write, Sense, Precharge}
use Rattle.tech_rules.specs.declared.tech.Wire.{Wire}
use Rattle.wire_drawing.specs.Drawing.{IsVia}
use Rattle.sram_netlist.specs.Organization.{Organization, power_of_two, total_bits, banks_of}
use Rattle.macro_layout.specs.LayoutKit.{LayoutKit}
use Rattle.macro_layout.specs.Places.{Floorplan, columns_x, bit_height}
use Rattle.macro_layout.specs.Floorplan.{column_role}
use Rattle.macro_layout.specs.Wires.{trunk_x, ground_x, columns_end}

-- the parts of a memory, one above another
pub data Storey : Type 0 where
  LogicRow : Storey
  Slices : Storey
  Columns : Storey

-- along lower and upper supply rails of cells; and along the lower rail of a row of the array
pub data Height : Type 0 where
  LogicLow : Height
  LogicHigh : Height
  WriteLow : Height
  WriteHigh : Height
  SenseLow : Height
  SenseHigh : Height
  ColumnLow : Height
  ColumnHigh : Height
  CellRow : ℕ → Height
  PrechargeLow : Height
  PrechargeHigh : Height

abbrev pub part_of : Height → Storey
part_of LogicLow = LogicRow
part_of LogicHigh = LogicRow
part_of WriteLow = Slices
part_of WriteHigh = Slices
part_of SenseLow = Slices
part_of SenseHigh = Slices
part_of ColumnLow = Columns
part_of ColumnHigh = Columns
part_of (CellRow r) = Columns
part_of PrechargeLow = Columns
part_of PrechargeHigh = Columns

-- where a part begins, and how high it is
abbrev pub low : Floorplan → Storey → ℤ
low f LogicRow = pos 0
low f Slices = f.write_y
low f Columns = f.column_y

abbrev pub array_rise : LayoutKit → ℕ → ℕ
array_rise kit bits = kit.height (column_role bits)

abbrev pub precharge_rise : LayoutKit → ℕ → List ℕ → ℕ
precharge_rise kit bits groups = array_rise kit bits + power_of_two (total_bits groups) * bit_height kit

abbrev pub tall : LayoutKit → ℕ → List ℕ → Storey → ℕ
tall kit bits groups LogicRow = kit.height Inv
tall kit bits groups Slices = kit.height Write + kit.height Sense
tall kit bits groups Columns = precharge_rise kit bits groups + kit.height Precharge

-- how far above its part's lower edge
abbrev pub rise : LayoutKit → Wire → ℕ → List ℕ → Height → ℤ
rise kit wire bits groups LogicLow = pos 0
rise kit wire bits groups LogicHigh = pos (kit.height Inv) -ℤ wire.width
rise kit wire bits groups WriteLow = pos 0
rise kit wire bits groups WriteHigh = pos (kit.height Write) -ℤ wire.width
rise kit wire bits groups SenseLow = pos (kit.height Write)
rise kit wire bits groups SenseHigh = pos (kit.height Write + kit.height Sense) -ℤ wire.width
rise kit wire bits groups ColumnLow = pos 0
rise kit wire bits groups ColumnHigh = pos (array_rise kit bits) -ℤ wire.width
rise kit wire bits groups (CellRow r) = pos (array_rise kit bits + r * bit_height kit)
rise kit wire bits groups PrechargeLow = pos (precharge_rise kit bits groups)
rise kit wire bits groups PrechargeHigh = pos (precharge_rise kit bits groups + kit.height Precharge) -ℤ wire.width

-- where a bar or the joiner of bank 0 begins
abbrev pub bar_begin : Organization → LayoutKit → Floorplan → Height → ℤ
bar_begin plan kit f LogicLow = f.logic_x
bar_begin plan kit f LogicHigh = f.logic_x
bar_begin plan kit f WriteLow = columns_x plan kit f
bar_begin plan kit f WriteHigh = columns_x plan kit f
bar_begin plan kit f SenseLow = columns_x plan kit f
bar_begin plan kit f SenseHigh = columns_x plan kit f
bar_begin plan kit f ColumnLow = columns_x plan kit f
bar_begin plan kit f ColumnHigh = f.row_x
bar_begin plan kit f (CellRow r) = f.row_x
bar_begin plan kit f PrechargeLow = f.row_x
bar_begin plan kit f PrechargeHigh = columns_x plan kit f

-- a bar stands there, or a joiner
abbrev pub HasBar : List ℕ → Height → Type 0
HasBar groups WriteHigh = ⊥
HasBar groups ColumnHigh = ⊥
HasBar groups (CellRow r) = r < power_of_two (total_bits groups)
HasBar groups h = Unit {0}

abbrev pub HasJoiner : Height → Type 0
HasJoiner WriteHigh = Unit {0}
HasJoiner ColumnHigh = Unit {0}
HasJoiner h = ⊥

-- the bar is one of power
abbrev pub is_power : Height → Bool
is_power LogicLow = false
is_power LogicHigh = true
is_power WriteLow = true
is_power WriteHigh = false
is_power SenseLow = false
is_power SenseHigh = true
is_power ColumnLow = true
is_power ColumnHigh = false
is_power (CellRow r) = r % 2 == 1
is_power PrechargeLow = false
is_power PrechargeHigh = true

abbrev pub trunk_by : Organization → LayoutKit → Wire → Floorplan → Bool → ℤ
trunk_by plan kit wire f true = trunk_x plan kit wire f
trunk_by plan kit wire f false = ground_x plan kit wire f

abbrev pub height_y : Organization → LayoutKit → Wire → Floorplan → Height → ℤ
height_y plan kit wire f h = low f (part_of h) +ℤ rise kit wire plan.col_bits plan.groups h

pub record IsAtHeight (plan : Organization) (kit : LayoutKit) (wire : Wire) (f : Floorplan) (h : Height) (s : Shape) : Type 0 where
  pub low : s.rect.y1 ≡ height_y plan kit wire f h
  pub high : s.rect.y2 ≡ height_y plan kit wire f h +ℤ wire.width

pub record IsBarAlong (plan : Organization) (kit : LayoutKit) (wire : Wire) (f : Floorplan) (h : Height) (s : Shape) : Type 0 where
  pub has : HasBar plan.groups h
  pub at : IsAtHeight plan kit wire f h s
  pub left : s.rect.x1 ≡ bar_begin plan kit f h
  pub right : s.rect.x2 ≡ trunk_by plan kit wire f (is_power h) +ℤ wire.width

pub record IsJoinerAlong (plan : Organization) (kit : LayoutKit) (wire : Wire) (f : Floorplan) (b : ℕ) (h : Height) (s : Shape) : Type 0 where
  pub below : b < banks_of plan
  pub has : HasJoiner h
  pub at : IsAtHeight plan kit wire f h s
  pub left : s.rect.x1 ≡ bar_begin plan kit f h +ℤ (pos b *ℤ f.bank_width)
  pub right : s.rect.x2 ≡ columns_end plan kit f +ℤ (pos b *ℤ f.bank_width)

pub record IsCutAlong (plan : Organization) (kit : LayoutKit) (wire : Wire) (f : Floorplan) (h : Height) (s : Shape) : Type 0 where
  pub has : HasBar plan.groups h
  pub via : IsVia wire 0 (trunk_by plan kit wire f (is_power h)) (height_y plan kit wire f h) s

abbrev pub IsFlatWire : Organization → LayoutKit → Wire → Floorplan → Shape → Type 0
IsFlatWire plan kit wire f s = ((h : Height) × IsBarAlong plan kit wire f h s) ⊎ ((b : ℕ) × (h : Height) × IsJoinerAlong plan kit wire f b h s)
