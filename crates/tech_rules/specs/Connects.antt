-- Which conductors the cuts of a technology connect.
use Rattle.std.specs.Prelude.{ℕ, List, [], Result, Ok, Err, if◌then◌else◌, codes}
use Rattle.toml.specs.Data.{Data}
use Rattle.tech_rules.specs.declared.fault.TechFault.{TechFault}
use Rattle.toml_keys.specs.Fault.{◌>>=◌, in_turn}
use Rattle.toml_keys.specs.Keys.{Section, out_of_range, text_under, texts_under, optional_tables, counted}
use Rattle.tech_rules.specs.declared.tech.Connect.{Connect}
use Rattle.tech_rules.specs.declared.tech.Layer.{Layer}
use Rattle.tech_rules.specs.Entries.{entry_after}
use Rattle.tech_rules.specs.Layers.{layer_index_of, layer_indices_of}
use Rattle.tech_rules.specs.Names.{holds}

-- 2 to 8 names, other than this one
abbrev pub other_names : List ℕ → Section TechFault → List ℕ → Result (List (List ℕ)) TechFault
other_names name s key =
    texts_under s key >>= counted 2 8 s key >>= λ names.
    if holds name names then Err (out_of_range s key) else Ok names

unfoldable pub connect_in : List Layer → Section TechFault → Result Connect TechFault
connect_in layers s =
    text_under s (codes "cut") >>= λ name.
    layer_index_of layers s (codes "cut") name >>= λ cut.
    other_names name s (codes "to") >>= λ names.
    layer_indices_of layers s (codes "to") names >>= λ to.
    Ok (record { cut = cut; to = to })

-- one table of `connect`, after these connections
abbrev pub connect_of : List Layer → Section TechFault → List Connect → Data → Result Connect TechFault
connect_of layers document before d = entry_after (connect_in layers) document (codes "connect") before d

abbrev pub connects_under : List Layer → Section TechFault → Result (List Connect) TechFault
connects_under layers s = optional_tables 64 s (codes "connect") >>= in_turn (connect_of layers s) []
