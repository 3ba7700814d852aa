-- The technology that a file is, or its first fault.
use Rattle.std.specs.Prelude.{ℕ, List, option_map, unwrap_or, Result, Ok, Err, codes}
use Rattle.std.specs.Option.{ok_or}
use Rattle.tech_rules.specs.declared.fault.TechFault.{TechFault}
use Rattle.tech_rules.specs.declared.fault.TechFault.TheVariants.{NotToml, BadWire}
use Rattle.tech_rules.specs.declared.tech.Tech.{Tech}
use Rattle.toml.specs.Data.{table}
use Rattle.tech_rules.specs.Fault.{tech_faults}
use Rattle.toml_keys.specs.Document.{document}
use Rattle.toml_keys.specs.Fault.{◌>>=◌}
use Rattle.toml_keys.specs.Keys.{Section, whole}
use Rattle.tech_rules.specs.Layers.{layers_under, layer_under}
use Rattle.tech_rules.specs.Rules.{rules_under}
use Rattle.tech_rules.specs.Connects.{connects_under}
use Rattle.tech_rules.specs.Wires.{wire_under}
use Rattle.tech_rules.specs.WireRules.{bad_layer}
use Rattle.tech_rules.specs.Roles.{roles_under, rows_under}
use Rattle.tech_rules.specs.Devices.{devices_under}

-- the technology, unless its rules don't allow its wires
abbrev pub with_good_wires : Tech → Result Tech TechFault
with_good_wires tech = unwrap_or (option_map (λ layer. Err (BadWire layer.name)) (bad_layer tech)) (Ok tech)

-- the technology that a document's keys describe, key by key
unfoldable pub tech_in : Section TechFault → Result Tech TechFault
tech_in s =
    layers_under s >>= λ layers.
    layer_under layers s (codes "outline") >>= λ outline.
    rules_under layers s >>= λ rules.
    connects_under layers s >>= λ connects.
    wire_under layers s >>= λ wire.
    roles_under s >>= λ roles.
    rows_under s >>= λ tables.
    devices_under layers s >>= λ devices.
    with_good_wires (record { layers = layers; outline = outline; rules = rules; connects = connects; wire = wire; roles = roles; tables = tables; devices = devices })

-- the technology of a file
abbrev pub technology : List ℕ → Result Tech TechFault
technology bytes = ok_or (document bytes) NotToml >>= λ ms. tech_in (whole tech_faults (table ms))
