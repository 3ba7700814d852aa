-- How often an entry stands in a list, and where two lists differ in that.
use Rattle.std.specs.Prelude.{◌≡◌, ◌≢◌, ◌<◌, ℕ, List, count_by}
use Rattle.std.specs.Ordering.{eq_by_cmp}
use Rattle.std.specs.declared.cmp.Ordering.TheVariants.{Greater}
use Rattle.device_entries.specs.declared.entry.DeviceEntry.{DeviceEntry}
use Rattle.device_entries.specs.declared.uneven.Uneven.{Uneven}
use Rattle.device_entries.specs.declared.uneven.Uneven.TheVariants.{Absent, Extra}
use Rattle.device_entries.specs.EntryOrder.{entry_order}

-- how often the entry stands in the list
abbrev pub how_often : DeviceEntry → List DeviceEntry → ℕ
how_often entry entries = count_by (eq_by_cmp entry_order entry) entries

-- each entry stands in both lists equally often
abbrev pub AreEven : List DeviceEntry → List DeviceEntry → Type 0
AreEven drawn listed = (entry : DeviceEntry) → how_often entry drawn ≡ how_often entry listed

-- no entry before this one stands in the two lists unequally often
abbrev pub AreEvenBefore : List DeviceEntry → List DeviceEntry → DeviceEntry → Type 0
AreEvenBefore drawn listed entry = (other : DeviceEntry) → how_often other drawn ≢ how_often other listed → entry_order entry other ≢ Greater

-- the least entry that doesn't stand in both lists equally often: the second has it more often, or less often
abbrev pub IsLeastUneven : List DeviceEntry → List DeviceEntry → Uneven → Type 0
IsLeastUneven drawn listed (Absent entry) = (how_often entry drawn < how_often entry listed) × AreEvenBefore drawn listed entry
IsLeastUneven drawn listed (Extra entry) = (how_often entry listed < how_often entry drawn) × AreEvenBefore drawn listed entry
