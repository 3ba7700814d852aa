-- The layers of a technology, and layers by name.
use Rattle.std.specs.Prelude.{ℕ, ℤ, pos, ◌&&◌, not, nat_le, Bool, List, [], ◌∷◌, length, position, Option, Some, None, option_and_then, Result, Ok, Err, if◌then◌else◌, codes}
use Rattle.std.specs.List.{list_all, list_any}
use Rattle.std.specs.Option.{ok_or}
use Rattle.std.specs.Str.{bytes_eq}
use Rattle.or_geom.specs.Texts.{is_word_byte}
use Rattle.toml.specs.Data.{Data, as_integer}
use Rattle.tech_rules.specs.declared.fault.TechFault.{TechFault}
use Rattle.tech_rules.specs.declared.fault.TechFault.TheVariants.{UnknownLayer}
use Rattle.tech_rules.specs.declared.layers.GdsNumbers.{GdsNumbers}
use Rattle.tech_rules.specs.declared.tech.Layer.{Layer}
use Rattle.toml_keys.specs.Fault.{◌>>=◌, in_turn}
use Rattle.toml_keys.specs.Keys.{Section, key_in, item_section, text_under, array_of, tables_under, is_integer, in_range, has_key, out_of_range}

-- 1 to 32 of them
abbrev pub is_word : List ℕ → Bool
is_word text = (nat_le 1 (length text) && nat_le (length text) 32) && list_all is_word_byte text

-- the layer has this name
abbrev pub is_named : List ℕ → Layer → Bool
is_named name layer = bytes_eq layer.name name

-- a name that may stand after these layers
unfoldable pub name_under : List Layer → Section TechFault → Result (List ℕ) TechFault
name_under before s =
    text_under s (codes "name") >>= λ name.
    if is_word name && not (list_any (is_named name) before) then Ok name else Err (out_of_range s (codes "name"))

-- a layer or data type number
abbrev pub short_in : Data → Option ℤ
short_in d = option_and_then (in_range (pos 0) (pos 32767)) (as_integer d)

-- two of them
abbrev pub pair_of : List Data → Option GdsNumbers
pair_of (a ∷ b ∷ []) = option_and_then (λ x. option_and_then (λ y. Some (record { number = x; kind = y })) (short_in b)) (short_in a)
pair_of _ = None

unfoldable pub numbers_under : Section TechFault → List ℕ → Result GdsNumbers TechFault
numbers_under s key = array_of is_integer s key >>= λ ds. ok_or (pair_of ds) (out_of_range s key)

-- a layer's numbers in labels: those of its shapes, unless the file gives others
abbrev pub text_numbers : Section TechFault → GdsNumbers → Result GdsNumbers TechFault
text_numbers s gds = if has_key s (codes "text") then numbers_under s (codes "text") else Ok gds

-- one table of `layer`, after these layers
unfoldable pub layer_of : Section TechFault → List Layer → Data → Result Layer TechFault
layer_of document before d =
    let s = item_section document (codes "layer") (length before) d in
    name_under before s >>= λ name.
    numbers_under s (codes "gds") >>= λ gds.
    text_numbers s gds >>= λ text.
    Ok (record { name = name; number = gds.number; datatype = gds.kind; text_number = text.number; texttype = text.kind })

abbrev pub layers_under : Section TechFault → Result (List Layer) TechFault
layers_under s = tables_under 1 64 s (codes "layer") >>= in_turn (layer_of s) []

-- the index of the first layer with this name
abbrev pub layer_index_of : List Layer → Section TechFault → List ℕ → List ℕ → Result ℕ TechFault
layer_index_of layers s key name = ok_or (position (is_named name) layers) (UnknownLayer (key_in s key))

-- the layer that a key names
abbrev pub layer_under : List Layer → Section TechFault → List ℕ → Result ℕ TechFault
layer_under layers s key = text_under s key >>= layer_index_of layers s key

-- the layers of these names
abbrev pub layer_indices_of : List Layer → Section TechFault → List ℕ → List (List ℕ) → Result (List ℕ) TechFault
layer_indices_of layers s key names = in_turn (λ _ name. layer_index_of layers s key name) [] names
