-- The wires of a technology.
use Rattle.std.specs.Prelude.{ℕ, ℤ, pos, ◌-ℤ◌, ◌&&◌, not, Bool, List, [], Option, Some, None, Result, Ok, Err, if◌then◌else◌, int_rem, codes}
use Rattle.std.specs.Ordering.{int_cmp, int_eq, is_lt}
use Rattle.tech_rules.specs.declared.fault.TechFault.{TechFault}
use Rattle.toml_keys.specs.Fault.{◌>>=◌}
use Rattle.toml_keys.specs.Keys.{Section, has_key, out_of_range, section_under, number_under, texts_under, counted}
use Rattle.tech_rules.specs.declared.tech.Layer.{Layer}
use Rattle.tech_rules.specs.declared.tech.Wire.{Wire}
use Rattle.tech_rules.specs.Layers.{layer_indices_of}
use Rattle.tech_rules.specs.Names.{are_different, share_a_name}

-- a width, a space or a cut's side
abbrev pub size_under : Section TechFault → List ℕ → Result ℤ TechFault
size_under s key = number_under (pos 1) (pos 65536) s key

-- a cut's side may stand in the middle of a wire of this width
abbrev pub is_centred : ℤ → ℤ → Bool
is_centred width cut = is_lt (int_cmp cut width) && int_eq (int_rem (width -ℤ cut) (pos 2)) (pos 0)

abbrev pub cut_under : ℤ → Section TechFault → Result ℤ TechFault
cut_under width s =
    size_under s (codes "cut") >>= λ cut.
    if is_centred width cut then Ok cut else Err (out_of_range s (codes "cut"))

-- so many different names, none of which is taken
abbrev pub new_names : ℕ → List (List ℕ) → Section TechFault → List ℕ → Result (List (List ℕ)) TechFault
new_names count taken s key =
    texts_under s key >>= counted count count s key >>= λ names.
    if are_different names && not (share_a_name names taken) then Ok names else Err (out_of_range s key)

unfoldable pub wire_in : List Layer → Section TechFault → Result Wire TechFault
wire_in layers s =
    size_under s (codes "width") >>= λ width.
    size_under s (codes "space") >>= λ space.
    cut_under width s >>= λ cut.
    new_names 4 [] s (codes "metals") >>= λ metal_names.
    layer_indices_of layers s (codes "metals") metal_names >>= λ metals.
    new_names 3 metal_names s (codes "cuts") >>= λ cut_names.
    layer_indices_of layers s (codes "cuts") cut_names >>= λ cuts.
    Ok (record { width = width; space = space; cut = cut; metals = metals; cuts = cuts })

abbrev pub wire_under : List Layer → Section TechFault → Result (Option Wire) TechFault
wire_under layers s =
    if has_key s (codes "wire")
    then (section_under s (codes "wire") >>= λ w. wire_in layers w >>= λ wire. Ok (Some wire))
    else Ok None
