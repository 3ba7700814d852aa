-- Whether a technology's rules and connections allow its wires.
use Rattle.std.specs.Prelude.{◌==◌, ℕ, ℤ, pos, ◌+ℤ◌, ◌-ℤ◌, ◌&&◌, ◌||◌, not, Bool, false, List, ◌∷◌, take, find, Option, Some, None, unwrap_or, option_map, option_and_then, if◌then◌else◌, slice_get, int_div}
use Rattle.std.specs.List.{list_any}
use Rattle.std.specs.Option.{option_or}
use Rattle.std.specs.Ordering.{int_cmp, int_eq, is_lt}
use Rattle.tech_rules.specs.declared.tech.Connect.{Connect}
use Rattle.tech_rules.specs.declared.tech.Layer.{Layer}
use Rattle.tech_rules.specs.declared.tech.Rule.{Rule}
use Rattle.tech_rules.specs.declared.tech.Rule.TheVariants.{Width, Space, Enclose}
use Rattle.tech_rules.specs.declared.tech.Tech.{Tech}
use Rattle.tech_rules.specs.declared.tech.Wire.{Wire}
use Rattle.tech_rules.specs.declared.wire_rules.Sizes.{Sizes}

-- the width and the space of a wire
abbrev pub metal_sizes : Wire → Sizes
metal_sizes wire = record { width = wire.width; space = wire.space }

-- Those of its cuts: cuts of neighbouring wires stand as far apart as the wires, and further by what a wire is wider than a cut.
abbrev pub cut_sizes : Wire → Sizes
cut_sizes wire = record { width = wire.cut; space = (wire.width +ℤ wire.space) -ℤ wire.cut }

-- how far a wire goes beyond its cuts on each side
abbrev pub margin : Wire → ℤ
margin wire = int_div (wire.width -ℤ wire.cut) (pos 2)

-- a width rule of the layer above the width, or a space rule of the layer with itself above the space
abbrev pub forbids : ℕ → Sizes → Rule → Bool
forbids index sizes (Width layer min) = (layer == index) && is_lt (int_cmp sizes.width min)
forbids index sizes (Space layer other min) = ((layer == index) && (other == index)) && is_lt (int_cmp sizes.space min)
forbids index sizes (Enclose layer by min) = false

-- an enclose rule of the layer above the margin
abbrev pub encloses_beyond : ℕ → Wire → Rule → Bool
encloses_beyond index wire (Width layer min) = false
encloses_beyond index wire (Space layer other min) = false
encloses_beyond index wire (Enclose layer by min) = (layer == index) && is_lt (int_cmp (margin wire) min)

-- a connection by this cut to both metals
abbrev pub joins : ℕ → ℕ → ℕ → Connect → Bool
joins cut low high connect = (connect.cut == cut) && (list_any (λ to. to == low) connect.to && list_any (λ to. to == high) connect.to)

-- the layer's shapes have these numbers
abbrev pub has_numbers : ℤ → ℤ → Layer → Bool
has_numbers number datatype layer = int_eq layer.number number && int_eq layer.datatype datatype

-- an earlier layer has the numbers of the layer at this index
abbrev pub is_hidden : List Layer → ℕ → Bool
is_hidden layers index = unwrap_or (option_map (λ layer. list_any (has_numbers layer.number layer.datatype) (take index layers)) (slice_get layers index)) false

-- the rules don't allow the wires on a metal
abbrev pub is_bad_metal : Tech → Wire → ℕ → Bool
is_bad_metal tech wire metal = list_any (forbids metal (metal_sizes wire)) tech.rules

-- the rules don't allow the cuts on a layer
abbrev pub breaks_cut_rules : Tech → Wire → ℕ → Bool
breaks_cut_rules tech wire cut = list_any (forbids cut (cut_sizes wire)) tech.rules || list_any (encloses_beyond cut wire) tech.rules

-- a cut between these metals
abbrev pub is_bad_cut : Tech → Wire → ℕ → ℕ → ℕ → Bool
is_bad_cut tech wire cut low high = is_hidden tech.layers cut || breaks_cut_rules tech wire cut || not (list_any (joins cut low high) tech.connects)

-- the first of the cuts, each between a metal and the next
abbrev pub first_bad_cut : Tech → Wire → List ℕ → List ℕ → Option ℕ
first_bad_cut tech wire (cut ∷ cuts) (low ∷ high ∷ metals) =
    if is_bad_cut tech wire cut low high then Some cut else first_bad_cut tech wire cuts (high ∷ metals)
first_bad_cut tech wire _ _ = None

-- the first layer of the wires, from the lowest metal and then from the lowest cut, on which they aren't allowed
abbrev pub first_bad_index : Tech → Wire → Option ℕ
first_bad_index tech wire = option_or (find (is_bad_metal tech wire) wire.metals) (first_bad_cut tech wire wire.cuts wire.metals)

abbrev pub bad_layer : Tech → Option Layer
bad_layer tech = option_and_then (slice_get tech.layers) (option_and_then (first_bad_index tech) tech.wire)
