-- What makes the main channel a channel.
use Rattle.std.proofs.Common.{◌≡◌, ◌⊎◌, inl, inr, ℕ, zero, suc, ◌+◌, ◌-◌, ◌≤◌, ◌<◌, ℤ, pos, negsuc, to_z, of_z, w64, List, [], ◌∷◌, ◌++◌, length, Bool, true, false, cond, Option, None, Some, ap, sym, subst, ◌∙◌, arith}
use Rattle.std.specs.Prelude.{All, Contains, option_map}
use Rattle.std.specs.List.{position_from}
use Rattle.std.proofs.lemmas.Int.{ints}
use Rattle.std.proofs.lemmas.List.Elements.{All-nil, All-weaker, Contains-append_left, Contains-append_right}
use Rattle.or_geom.specs.Distance.{IsNear}
use Rattle.netlist.specs.declared.deck.Instance.{Instance}
use Rattle.cell_roles.specs.declared.role.Role.{Role}
use Rattle.sram_netlist.specs.Organization.{Organization}
use Rattle.spice_netlist.specs.Names.{index_of, same_name}
use Rattle.channel_router.specs.declared.channel.Channel.{Channel}
use Rattle.channel_router.specs.declared.channel.ChannelPin.{ChannelPin}
use Rattle.channel_router.specs.Channel.{IsChannel, AreInChannel, places}
use Rattle.leaf_tables.specs.declared.kit.Kit.{Kit}
use Rattle.leaf_tables.specs.declared.kit.Leaf.{Leaf}
use Rattle.leaf_tables.specs.Alignment.{leaf_in}
use Rattle.floorplan.specs.LeafSides.{side_of, leaf_height}
use Rattle.leaf_tables.specs.NearLeaf.{IsLeafLength}
use Rattle.main_channel.specs.Main.{IsNearMainChannel}
use Rattle.main_channel.specs.Names.{channel_names, port_count}
use Rattle.main_channel.specs.Numbers.{IsNetNumbering}
use Rattle.main_channel.specs.Pins.{IsMacroCoordinate, IsMainPin, AreMainPins, HasPinOfNet}
use Rattle.main_channel.proofs.RowLaws.{names_sized}

abbrev number_or : ℕ → Option ℕ → ℕ
number_or d None = d
number_or d (Some n) = n

index_below : (t : List ℕ → Bool) (i : ℕ) (xs : List (List ℕ)) (n : ℕ) → position_from t i xs ≡ Some n → n < i + length xs
index_below t i [] n e = absurd cc
index_below t i (x ∷ xs) n e = by (t x) e (λ f. index_below t (i + 1) xs n f) where
  by : (b : Bool) → cond b (Some i) (position_from t (i + 1) xs) ≡ Some n → (position_from t (i + 1) xs ≡ Some n → n < i + 1 + length xs) → n < i + length (x ∷ xs)
  by true e later = let same : i ≡ n = ap (number_or 0) e in omega (arith, same)
  by false e later = let less = later e in omega (arith, less)

-- numbers by names are indices of the names
pub numbering : (names : List (List ℕ)) (nets : ℕ) (look : List ℕ → Option ℕ) → nets ≡ length names → ((name : List ℕ) → look name ≡ index_of names name) → IsNetNumbering nets look
numbering names nets look count is name net found =
    let less = index_below (same_name name) 0 names net (sym (is name) ∙ found) in
    omega (arith, less, count)

pub in_channel : (nets : ℕ) (pins : List ChannelPin) → AreMainPins nets pins → AreInChannel nets pins
in_channel nets pins all = record {
  of_nets = All-weaker (IsMainPin nets) (λ (pin : ChannelPin). pin.net < nets) (λ pin is. is.of_net) pins all;
  near = All-weaker (IsMainPin nets) (λ (pin : ChannelPin). IsNear pin.x) (λ pin is. near_of pin.x is.at) pins all;
} where
  near_of : (x : ℤ) → IsMacroCoordinate x → IsNear x
  near_of x at = let a = at.above in let b = at.below in record { above = omega (arith, ints, a); below = omega (arith, ints, b) }

pub in_macro : (nets : ℕ) (pins : List ChannelPin) → AreMainPins nets pins → All (λ (pin : ChannelPin). IsMacroCoordinate pin.x) pins
in_macro nets pins all = All-weaker (IsMainPin nets) (λ (pin : ChannelPin). IsMacroCoordinate pin.x) (λ pin is. is.at) pins all

split : (a b : ℕ) → (a < b) ⊎ (b ≤ a)
split a zero = inr (omega arith)
split zero (suc b) = inl (omega arith)
split (suc a) (suc b) = by (split a b) where
  by : (a < b) ⊎ (b ≤ a) → (suc a < suc b) ⊎ (suc b ≤ suc a)
  by (inl less) = inl (omega (arith, less))
  by (inr most) = inr (omega (arith, most))

moved : (pins more : List ChannelPin) (net : ℕ) → ((pin : ChannelPin) → Contains pins pin → Contains more pin) → HasPinOfNet pins net → HasPinOfNet more net
moved pins more net keeps has = let is = has.1 in (has.0, record { pin = is.pin; listed = keeps is.pin is.listed; at_x = is.at_x; of_net = is.of_net })

-- each net has a pin or an exit
pub record AreSides (nets ports : ℕ) (top bottom exits : List ChannelPin) : Type 0 where
  pub top_pins : AreMainPins nets top
  pub bottom_pins : AreMainPins nets bottom
  pub exit_pins : AreMainPins nets exits
  pub cells : ℕ
  pub count : nets ≡ ports + cells
  pub outputs : (k : ℕ) → k < cells → HasPinOfNet bottom (ports + k)
  pub left : (net : ℕ) → net < ports → HasPinOfNet exits net

met : (ch : Channel) (ports : ℕ) → AreSides ch.nets ports ch.top ch.bottom ch.exits → (net : ℕ) → net < ch.nets → HasPinOfNet (places ch) net
met ch ports sides net less = by (split net ports) where
  by : (net < ports) ⊎ (ports ≤ net) → HasPinOfNet (places ch) net
  by (inl port) = moved ch.exits (places ch) net (λ pin is. Contains-append_right (ch.top ++ ch.bottom) ch.exits pin is) (sides.left net port)
  by (inr output) =
      let count = sides.count in
      let whole : ports + (net - ports) ≡ net = omega (arith, output) in
      let has = sides.outputs (net - ports) (omega (arith, output, less, count)) in
      moved ch.bottom (places ch) net (λ pin is. Contains-append_left (ch.top ++ ch.bottom) ch.exits pin (Contains-append_right ch.top ch.bottom pin is)) (subst (HasPinOfNet ch.bottom) whole has)

pub is_channel : (ch : Channel) (ports : ℕ) → IsLeafLength ch.low → AreSides ch.nets ports ch.top ch.bottom ch.exits → IsChannel ch
is_channel ch ports low sides =
    let a = low.above in
    let b = low.below in
    record {
      low = record { above = omega (arith, ints, a); below = omega (arith, ints, b) };
      top = in_channel ch.nets ch.top sides.top_pins;
      bottom = in_channel ch.nets ch.bottom sides.bottom_pins;
      exits = in_channel ch.nets ch.exits sides.exit_pins;
      met = met ch ports sides;
    }

pub is_near : (ch : Channel) (ports : ℕ) → IsLeafLength ch.low → AreSides ch.nets ports ch.top ch.bottom ch.exits → IsNearMainChannel ch
is_near ch ports low sides = record {
  top = in_macro ch.nets ch.top sides.top_pins;
  bottom = in_macro ch.nets ch.bottom sides.bottom_pins;
  exits = in_macro ch.nets ch.exits sides.exit_pins;
  above = low.above;
  below = low.below;
}

-- outputs that the formula has, in the list that was made
pub outputs_there : (bottom all : List ChannelPin) (ports count gates cells : ℕ) → bottom ≡ all → ports ≡ count → gates ≡ cells → ((k : ℕ) → k < cells → HasPinOfNet all (count + k)) → (k : ℕ) → k < gates → HasPinOfNet bottom (ports + k)
outputs_there bottom all ports count gates cells is number same has k less =
    subst (λ (l : List ChannelPin). HasPinOfNet l (ports + k)) (sym is) (subst (λ (n : ℕ). HasPinOfNet all (n + k)) (sym number) (has k (omega (arith, less, same))))

none_main : (nets : ℕ) (pins : List ChannelPin) → pins ≡ [] → AreMainPins nets pins
none_main nets pins none = subst (AreMainPins nets) (sym none) (All-nil (IsMainPin nets))

-- the pins that were added
pub sides_are : (nets ports : ℕ) (look : List ℕ → Option ℕ) (names : List (List ℕ)) (gates : List Instance) (plan : Organization) (top_start bottom_start tops bottoms top bottom exits : List ChannelPin)
    → nets ≡ length names → names ≡ channel_names plan gates → ports ≡ port_count plan → ((name : List ℕ) → look name ≡ index_of names name)
    → top_start ≡ [] → ((n : ℕ) → IsNetNumbering n look → AreMainPins n top_start → AreMainPins n tops) → top ≡ tops
    → bottom_start ≡ [] → ((n : ℕ) → IsNetNumbering n look → AreMainPins n bottom_start → AreMainPins n bottoms) → bottom ≡ bottoms
    → ((k : ℕ) → k < length gates → HasPinOfNet bottom (ports + k)) → ((n : ℕ) → ports ≤ n → AreMainPins n exits) → ((net : ℕ) → net < ports → HasPinOfNet exits net) → AreSides nets ports top bottom exits
sides_are nets ports look names gates plan top_start bottom_start tops bottoms top bottom exits count named port looked top_none top_main top_is bottom_none bottom_main bottom_is outputs exit_main exit_has =
    let numbers = numbering names nets look count looked in
    let sized = names_sized plan gates in
    let long = ap length named in
    let whole : nets ≡ ports + length gates = omega (arith, count, long, sized, port) in
    record {
      top_pins = subst (AreMainPins nets) (sym top_is) (top_main nets numbers (none_main nets top_start top_none));
      bottom_pins = subst (AreMainPins nets) (sym bottom_is) (bottom_main nets numbers (none_main nets bottom_start bottom_none));
      exit_pins = exit_main nets (omega (arith, whole));
      cells = length gates;
      count = whole;
      outputs = outputs;
      left = exit_has;
    }

-- the height of a leaf
height_read : (z : ℤ) → IsLeafLength z → to_z w64 (of_z w64 z) ≡ pos (side_of (Some z))
height_read (pos n) is = let b = is.below in omega (arith, ints, b)
height_read (negsuc n) is = let a = is.above in absurd (omega (arith, ints, a))

pub height_is : (kit : Kit) (role : Role) (leaf : Leaf) → leaf_in kit.leaves role ≡ Some leaf → IsLeafLength leaf.height → to_z w64 (of_z w64 leaf.height) ≡ pos (leaf_height kit role)
height_is kit role leaf there is = height_read leaf.height is ∙ ap (λ (found : Option Leaf). pos (side_of (option_map (λ (l : Leaf). l.height) found))) (sym there)
