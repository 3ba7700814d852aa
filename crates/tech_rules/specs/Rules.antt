-- The design rules of a technology.
use Rattle.std.specs.Prelude.{ℕ, ℤ, pos, List, [], Result, Ok, Err, if◌then◌else◌, codes}
use Rattle.std.specs.Str.{bytes_eq}
use Rattle.toml.specs.Data.{Data}
use Rattle.tech_rules.specs.declared.fault.TechFault.{TechFault}
use Rattle.tech_rules.specs.declared.tech.Layer.{Layer}
use Rattle.tech_rules.specs.Entries.{entry_after}
use Rattle.tech_rules.specs.declared.tech.Rule.{Rule}
use Rattle.tech_rules.specs.declared.tech.Rule.TheVariants.{Width, Space, Enclose}
use Rattle.toml_keys.specs.Fault.{◌>>=◌, in_turn}
use Rattle.toml_keys.specs.Keys.{Section, out_of_range, text_under, texts_under, number_under, optional_tables, counted}
use Rattle.tech_rules.specs.Layers.{layer_under, layer_indices_of}

abbrev pub minimum_under : Section TechFault → Result ℤ TechFault
minimum_under s = number_under (pos 1) (pos 1048576) s (codes "min")

unfoldable pub width_rule : List Layer → Section TechFault → Result Rule TechFault
width_rule layers s =
    layer_under layers s (codes "layer") >>= λ layer.
    minimum_under s >>= λ min. Ok (Width layer min)

unfoldable pub space_rule : List Layer → Section TechFault → Result Rule TechFault
space_rule layers s =
    layer_under layers s (codes "layer") >>= λ layer.
    layer_under layers s (codes "other") >>= λ other.
    minimum_under s >>= λ min. Ok (Space layer other min)

-- the layers that a key names, of which there are as many as there may be
abbrev pub layers_named : ℕ → ℕ → List Layer → Section TechFault → List ℕ → Result (List ℕ) TechFault
layers_named low high layers s key = texts_under s key >>= λ names. counted low high s key names >>= layer_indices_of layers s key

unfoldable pub enclose_rule : List Layer → Section TechFault → Result Rule TechFault
enclose_rule layers s =
    layer_under layers s (codes "layer") >>= λ layer.
    layers_named 1 8 layers s (codes "by") >>= λ by.
    minimum_under s >>= λ min. Ok (Enclose layer by min)

-- the rule of its kind
unfoldable pub rule_in : List Layer → Section TechFault → Result Rule TechFault
rule_in layers s =
    text_under s (codes "kind") >>= λ kind.
    if bytes_eq kind (codes "width") then width_rule layers s
    else if bytes_eq kind (codes "space") then space_rule layers s
    else if bytes_eq kind (codes "enclose") then enclose_rule layers s
    else Err (out_of_range s (codes "kind"))

-- one table of `rule`, after these rules
abbrev pub rule_of : List Layer → Section TechFault → List Rule → Data → Result Rule TechFault
rule_of layers document before d = entry_after (rule_in layers) document (codes "rule") before d

abbrev pub rules_under : List Layer → Section TechFault → Result (List Rule) TechFault
rules_under layers s = optional_tables 256 s (codes "rule") >>= in_turn (rule_of layers s) []
