-- Where two lists of entries in order part.
use Rattle.std.specs.Prelude.{◌≡◌, ◌≤◌, ℕ, List, length, take, slice_get, Some}
use Rattle.std.specs.declared.cmp.Ordering.TheVariants.{Less}
use Rattle.device_entries.specs.declared.entry.DeviceEntry.{DeviceEntry}
use Rattle.device_entries.specs.EntryOrder.{entry_order}

-- the two lists have one entry at the place
pub record HaveSameAt (entries others : List DeviceEntry) (place : ℕ) : Type 0 where
  pub entry : DeviceEntry
  pub here : slice_get entries place ≡ Some entry
  pub there : slice_get others place ≡ Some entry

-- before the place both lists are the same
pub record AreSameBelow (entries others : List DeviceEntry) (place : ℕ) : Type 0 where
  pub inside : place ≤ length entries
  pub inside_others : place ≤ length others
  pub same : take place entries ≡ take place others

-- and there they haven't one entry
pub record ArePartedAt (entries others : List DeviceEntry) (place : ℕ) : Type 0 where
  pub below : AreSameBelow entries others place
  pub differ : HaveSameAt entries others place → ⊥

-- the first list has an entry at the place, and the second a greater one or none
pub record ComesFirst (entries others : List DeviceEntry) (place : ℕ) : Type 0 where
  pub entry : DeviceEntry
  pub there : slice_get entries place ≡ Some entry
  pub before : (other : DeviceEntry) → slice_get others place ≡ Some other → entry_order entry other ≡ Less
