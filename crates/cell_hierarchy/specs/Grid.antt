-- The items of an array.
use Rattle.std.specs.Prelude.{ℕ, ℤ, pos, ◌<◌, ◌≤ℤ◌, ◌+ℤ◌, ◌*ℤ◌, ◌^◌, List}
use Rattle.or_geom.specs.declared.shape.Point.{Point}
use Rattle.or_geom.specs.declared.place.Place.{Place}
use Rattle.gds_library.specs.Writable.{IsWritableArray}
use Rattle.cell_chains.specs.Instances.{Item, array_name, item_place}
use Rattle.cell_hierarchy.specs.declared.grid.ItemGrid.{ItemGrid}
use Rattle.cell_hierarchy.specs.declared.grid.Spot.{Spot}

abbrev pub IsWritableGrid : ItemGrid → Type 0
IsWritableGrid grid = IsWritableArray grid.place (pos grid.columns) (pos grid.rows) grid.across grid.down

pub record IsSpotOf (grid : ItemGrid) (spot : Spot) : Type 0 where
  pub in_columns : spot.column < grid.columns
  pub in_rows : spot.row < grid.rows

abbrev pub place_in : ItemGrid → ℕ → ℕ → Place
place_in grid column row = item_place grid.place column row grid.across grid.down

-- the item in this column and row of the array that is the element at index n
abbrev pub array_item : ℕ → List ℕ → Place → Point → Point → ℕ → ℕ → Item
array_item n name place across down column row = record { name = array_name n column row; cell = name; place = item_place place column row across down }

-- so many steps of this length make less than 2^32, and so does one
pub record IsShortWay (count : ℕ) (length : ℤ) : Type 0 where
  pub way_above : pos 0 ≤ℤ ((pos count *ℤ length) +ℤ pos (2 ^ 32))
  pub way_below : (pos count *ℤ length) ≤ℤ pos (2 ^ 32)
  pub step_above : pos 0 ≤ℤ (length +ℤ pos (2 ^ 32))
  pub step_below : length ≤ℤ pos (2 ^ 32)
