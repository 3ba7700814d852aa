-- The kinds of transistors of a technology.
use Rattle.std.specs.Prelude.{ℕ, List, [], ◌∷◌, Result, Ok, Err, if◌then◌else◌, codes}
use Rattle.toml.specs.Data.{Data}
use Rattle.tech_rules.specs.declared.fault.TechFault.{TechFault}
use Rattle.toml_keys.specs.Fault.{◌>>=◌, in_turn}
use Rattle.toml_keys.specs.Keys.{Section, has_key, out_of_range, text_under, tables_under}
use Rattle.tech_rules.specs.declared.tech.Device.{Device}
use Rattle.tech_rules.specs.declared.tech.Layer.{Layer}
use Rattle.tech_rules.specs.Entries.{entry_after}
use Rattle.tech_rules.specs.Layers.{layer_index_of}
use Rattle.tech_rules.specs.Names.{are_different}
use Rattle.tech_rules.specs.Roles.{is_cell_name}

-- a model's name
abbrev pub model_under : Section TechFault → Result (List ℕ) TechFault
model_under s =
    text_under s (codes "model") >>= λ model.
    if is_cell_name model then Ok model else Err (out_of_range s (codes "model"))

-- the name of a device's third layer, which is neither of the others, and these differ
abbrev pub third_name : List ℕ → List ℕ → Section TechFault → Result (List ℕ) TechFault
third_name gate active s =
    text_under s (codes "by") >>= λ by.
    if are_different (gate ∷ active ∷ by ∷ []) then Ok by else Err (out_of_range s (codes "by"))

unfoldable pub device_in : List Layer → Section TechFault → Result Device TechFault
device_in layers s =
    model_under s >>= λ model.
    text_under s (codes "gate") >>= λ gate_name.
    layer_index_of layers s (codes "gate") gate_name >>= λ gate.
    text_under s (codes "active") >>= λ active_name.
    layer_index_of layers s (codes "active") active_name >>= λ active.
    third_name gate_name active_name s >>= λ by_name.
    layer_index_of layers s (codes "by") by_name >>= λ by.
    Ok (record { model = model; gate = gate; active = active; by = by })

-- one table of `device`, after these devices
abbrev pub device_of : List Layer → Section TechFault → List Device → Data → Result Device TechFault
device_of layers document before d = entry_after (device_in layers) document (codes "device") before d

abbrev pub devices_under : List Layer → Section TechFault → Result (List Device) TechFault
devices_under layers s =
    if has_key s (codes "device")
    then (tables_under 1 8 s (codes "device") >>= in_turn (device_of layers s) [])
    else Ok []
