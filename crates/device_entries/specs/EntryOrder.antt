-- The order of entries.
use Rattle.std.specs.Prelude.{◌≡◌, IsTrue}
use Rattle.std.specs.Ordering.{ordering_then, eq_by_cmp}
use Rattle.std.specs.Cmp.{IsTotalOrder, on_total, then_total}
use Rattle.std.specs.Cmp.Lexicographic.{nat_list_cmp_total}
use Rattle.std.specs.declared.cmp.Ordering.{Ordering}
use Rattle.or_geom.specs.Least.{name_order}
use Rattle.device_entries.specs.declared.entry.DeviceEntry.{DeviceEntry}

-- by model, gate, lower and higher node; names by their bytes
abbrev pub entry_order : DeviceEntry → DeviceEntry → Ordering
entry_order a b =
    ordering_then (name_order a.model b.model)
    (ordering_then (name_order a.gate b.gate)
    (ordering_then (name_order a.low b.low) (name_order a.high b.high)))

-- Entries that compare as equal are the same entry.
abbrev pub TiesAreOne : Type 0
TiesAreOne = (a b : DeviceEntry) → IsTrue (eq_by_cmp entry_order a b) → a ≡ b

pub entry_total : IsTotalOrder entry_order
entry_total =
    then_total (on_total (λ (e : DeviceEntry). e.model) nat_list_cmp_total)
    (then_total (on_total (λ (e : DeviceEntry). e.gate) nat_list_cmp_total)
    (then_total (on_total (λ (e : DeviceEntry). e.low) nat_list_cmp_total) (on_total (λ (e : DeviceEntry). e.high) nat_list_cmp_total)))
