-- What a comparison of transistors counts: a model, a gate and the two other nodes.
use Rattle.std.specs.Prelude.{ℕ, List, if◌then◌else◌}
use Rattle.std.specs.Ordering.{is_gt}
use Rattle.or_geom.specs.Least.{name_order}
use Rattle.device_entries.specs.declared.entry.DeviceEntry.{DeviceEntry}

-- the lesser of two names, by their bytes, and the other one
abbrev pub lesser : List ℕ → List ℕ → List ℕ
lesser a b = if is_gt (name_order a b) then b else a

abbrev pub greater : List ℕ → List ℕ → List ℕ
greater a b = if is_gt (name_order a b) then a else b

-- a transistor of the model, with this gate and these two other nodes, whichever of them stands first
abbrev pub entry_of : List ℕ → List ℕ → List ℕ → List ℕ → DeviceEntry
entry_of model gate one other = record { model = model; gate = gate; low = lesser one other; high = greater one other }
