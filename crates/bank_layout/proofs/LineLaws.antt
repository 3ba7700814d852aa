-- The taps of a row's inputs: which line each is on.
use Rattle.std.proofs.Common.{◌≡◌, ◌⊎◌, inl, inr, ℕ, zero, suc, ◌+◌, ◌-◌, ◌*◌, ◌/◌, ◌<◌, ◌≤◌, List, [], ◌∷◌, length, Some, refl, ap, sym, ◌∙◌, arith}
use Rattle.std.specs.Prelude.{Contains, slice_get}
use Rattle.std.proofs.lemmas.Option.{same_Some, slice_get_within}
use Rattle.std.proofs.Math.Nat.{mul-le-mul_right, suc-mul}
use Rattle.std.proofs.lemmas.Nat.{div-mul-add}
use Rattle.or_geom.specs.declared.place.Place.{Place}
use Rattle.or_geom.proofs.ListLaws.{contains_none, contains_cases, contains_later, contains_here}
use Rattle.wire_drawing.specs.declared.route.Tap.{Tap}
use Rattle.sram_netlist.specs.Organization.{power_of_two, total_bits}
use Rattle.sram_netlist.specs.Netlist.{low_bits, high_bits}
use Rattle.sram_netlist.proofs.Bounds.{at_least}
use Rattle.memory_laws.proofs.Decode.{addresses_split, low_all, low_below, twice_some, twice_add}
use Rattle.leaf_shapes.specs.declared.pins.LeafPin.{LeafPin}
use Rattle.macro_layout.specs.Floorplan.{line_count}
use Rattle.row_decoder.specs.RowTaps.{pin_tap, input_taps}

-- the rail of row r's line in a group, where the first group's lines begin at the rail
abbrev pub line_at : List ℕ → ℕ → ℕ → ℕ → ℕ
line_at [] rail r group = rail
line_at (b ∷ bs) rail r zero = rail + low_bits b r
line_at (b ∷ bs) rail r (suc group) = line_at bs (rail + power_of_two b) (high_bits b r) group

-- it is the tap of one of the inputs
pub record IsInputTap (place : Place) (pins : List LeafPin) (groups : List ℕ) (rail r : ℕ) (tap : Tap) : Type 0 where
  pub group : ℕ
  pub below : group < length groups
  pub pin : LeafPin
  pub at : slice_get pins group ≡ Some pin
  pub is : tap ≡ pin_tap (line_at groups rail r group) place pin

pub input_of : (place : Place) (pins : List LeafPin) (groups : List ℕ) (rail r : ℕ) (tap : Tap) → Contains (input_taps place pins groups rail r) tap → IsInputTap place pins groups rail r tap
input_of place pins [] rail r tap h = absurd (contains_none tap h)
input_of place [] (b ∷ bs) rail r tap h = absurd (contains_none tap h)
input_of place (p ∷ ps) (b ∷ bs) rail r tap h = elim (contains_cases _ _ tap h) [
  | inl e ↦ record { group = 0; below = omega arith; pin = p; at = refl; is = e }
  | inr later ↦
      (let rest = input_of place ps bs (rail + power_of_two b) (high_bits b r) tap later in
      let lt = rest.below in
      record { group = suc rest.group; below = omega (arith, lt); pin = rest.pin; at = rest.at; is = rest.is })
]

none_at : {X : Type 0} (k : ℕ) (x : X) → slice_get [] k ≡ Some x → ⊥
none_at k x e = let lt = slice_get_within [] k x e in omega (arith, lt)

pub input_in : (place : Place) (pins : List LeafPin) (groups : List ℕ) (rail r group : ℕ) (pin : LeafPin) → group < length groups → slice_get pins group ≡ Some pin → Contains (input_taps place pins groups rail r) (pin_tap (line_at groups rail r group) place pin)
input_in place pins [] rail r group pin lt at = absurd (omega (arith, lt))
input_in place [] (b ∷ bs) rail r group pin lt at = absurd (none_at group pin at)
input_in place (p ∷ ps) (b ∷ bs) rail r zero pin lt at = contains_here _ _ _ (ap (pin_tap (rail + low_bits b r) place) (same_Some pin p (sym at)))
input_in place (p ∷ ps) (b ∷ bs) rail r (suc group) pin lt at = contains_later _ _ _ (input_in place ps bs (rail + power_of_two b) (high_bits b r) group pin (omega (arith, lt)) at)

pub line_below : (groups : List ℕ) (rail r group : ℕ) → group < length groups → line_at groups rail r group < rail + line_count groups
line_below [] rail r group lt = absurd (omega (arith, lt))
line_below (b ∷ bs) rail r zero lt = let low = low_below b r in omega (arith, low)
line_below (b ∷ bs) rail r (suc group) lt = let rest = line_below bs (rail + power_of_two b) (high_bits b r) group (omega (arith, lt)) in omega (arith, rest)

-- rails are counted on from the first
pub line_from : (groups : List ℕ) (rail r group : ℕ) → group < length groups → line_at groups rail r group ≡ rail + line_at groups 0 r group
line_from [] rail r group lt = absurd (omega (arith, lt))
line_from (b ∷ bs) rail r zero lt = omega arith
line_from (b ∷ bs) rail r (suc group) lt =
    let far = line_from bs (rail + power_of_two b) (high_bits b r) group (omega (arith, lt)) in
    let near = line_from bs (0 + power_of_two b) (high_bits b r) group (omega (arith, lt)) in
    omega (arith, far, near)

pub le_or_lt : (a b : ℕ) → (a ≤ b) ⊎ (b < a)
le_or_lt zero b = inl (omega arith)
le_or_lt (suc a) zero = inr (omega arith)
le_or_lt (suc a) (suc b) = elim (le_or_lt a b) [ inl le ↦ inl (omega (arith, le)) | inr lt ↦ inr (omega (arith, lt)) ]

-- a row on the line of a group
pub record HasRow (groups : List ℕ) (line : ℕ) : Type 0 where
  pub row : ℕ
  pub group : ℕ
  pub row_below : row < power_of_two (total_bits groups)
  pub group_below : group < length groups
  pub is : line_at groups 0 row group ≡ line

pub has_row : (groups : List ℕ) (line : ℕ) → line < line_count groups → HasRow groups line
has_row [] line lt = absurd (omega (arith, lt))
has_row (b ∷ bs) line lt = elim (le_or_lt (power_of_two b) line) [
  | inr less ↦ record {
    row = line;
    group = 0;
    row_below = (let all = twice_add b (total_bits bs) in let more = at_least (power_of_two b) (power_of_two (total_bits bs)) (twice_some (total_bits bs)) in omega (arith, all, more, less));
    group_below = omega arith;
    is = (let low = low_all b line less in omega (arith, low));
  }
  | inl above ↦
      (let rest = has_row bs (line - power_of_two b) (omega (arith, lt, above)) in
      let p = power_of_two b in
      let row = rest.row * p in
      let high : high_bits b row ≡ rest.row = (addresses_split b row).0 ∙ (ap (λ (n : ℕ). n / p) (plus_none row) ∙ div-mul-add rest.row p 0 (twice_some b)) in
      let far = line_from bs (0 + p) (high_bits b row) rest.group rest.group_below in
      let same : line_at bs 0 (high_bits b row) rest.group ≡ line - p = ap (λ (n : ℕ). line_at bs 0 n rest.group) high ∙ rest.is in
      let lower = rest.row_below in
      let wide : suc rest.row * p ≤ power_of_two (total_bits bs) * p = mul-le-mul_right p (omega (arith, lower)) in
      let split = suc-mul rest.row p in
      let some = twice_some b in
      let all = twice_add b (total_bits bs) in
      let turned : power_of_two (total_bits bs) * p ≡ p * power_of_two (total_bits bs) = omega arith in
      let group_lt = rest.group_below in
      record {
        row = row;
        group = suc rest.group;
        row_below = omega (arith, wide, split, some, all, turned);
        group_below = omega (arith, group_lt);
        is = omega (arith, far, same, above);
      })
] where
  plus_none : (n : ℕ) → n ≡ n + 0
  plus_none n = omega arith
