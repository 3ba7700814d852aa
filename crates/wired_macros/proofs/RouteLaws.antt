-- A channel's wires are those of its one route, by the same numbers.
use Rattle.std.proofs.Common.{◌≡◌, ℕ, zero, suc, ℤ, pos, ◌+ℤ◌, List, [], ◌∷◌, ◌++◌, map, Some, refl, arith}
use Rattle.std.specs.Prelude.{slice_get}
use Rattle.std.proofs.lemmas.Int.{ints}
use Rattle.or_geom.specs.declared.shape.Shape.{Shape}
use Rattle.tech_rules.specs.declared.tech.Wire.{Wire}
use Rattle.wire_drawing.specs.Drawing.{pitch}
use Rattle.channel_router.specs.declared.channel.Channel.{Channel}
use Rattle.channel_router.specs.Wires.{IsOfNet}
use Rattle.sram_netlist.specs.Organization.{Organization, inputs_of, addr_bits}
use Rattle.sram_netlist.specs.Nets.{Net, Wmask, Addr, Din, Dout}
use Rattle.sram_netlist.specs.Netlist.{web_nets, logic_cell_ports}
use Rattle.sram_netlist.specs.InstanceList.{tabulate, numbers_from, logic_cells}
use Rattle.macro_layout.specs.Moved.{IsChannelMoved}
use Rattle.macro_layout.specs.Pins.{port_nets, main_nets, output_of, before_supplies}
use Rattle.macro_layout.specs.Stated.{IsShifted}
use Rattle.macro_layout.proofs.MovedLaws.{net_moves}
use Rattle.macro_layout.proofs.RoutingLaws.{intervals_move, AreTwo}
use Rattle.joined_nets.specs.WireNets.{IsChannelWireOf}
use Rattle.kit_nets.specs.Hubs.{IsArrayNet}
use Rattle.kit_nets.specs.DrawnChannels.{IsDrawnChannel}
use Rattle.kit_nets.proofs.ArrayNetsLaws.{NoArray, none_at, none_append, no_logic}

still : (z : ℤ) → z ≡ z +ℤ pos 0
still z = omega (arith, ints)

-- a wire of the drawn channel, of the net with this number in the list
pub record IsOfRoute (IsMeant : Channel → Type 0) (wire : Wire) (tracks : ℕ) (d : IsDrawnChannel IsMeant wire tracks) (nets : List Net) (n : Net) (s : Shape) : Type 0 where
  pub number : ℕ
  pub named : slice_get nets number ≡ Some n
  pub of : IsOfNet d.channel wire d.intervals d.track tracks number s

pub of_route : (IsMeant : Channel → Type 0) (wire : Wire) (tracks : ℕ) (d : IsDrawnChannel IsMeant wire tracks) → ((c e : Channel) → IsMeant c → IsMeant e → IsChannelMoved (pos 0) (pos 0) c e)
    → (nets : List Net) (n : Net) (s : Shape) → IsChannelWireOf IsMeant wire tracks nets n s → IsOfRoute IsMeant wire tracks d nets n s
of_route IsMeant wire tracks d one nets n s w =
    let there = one w.channel d.channel w.routed.meant d.routed.meant in
    let two : AreTwo (pos 0) (pitch wire) w.intervals d.intervals w.track d.track = record { moved = intervals_move (pos 0) (pos 0) w.channel d.channel w.intervals d.intervals there w.routed.nets d.routed.nets; lowest = w.routed.lowest; lows = d.routed.lowest } in
    let in_place : IsShifted (pos 0) (pos 0) s s = record { layer = refl; x1 = still s.rect.x1; y1 = still s.rect.y1; x2 = still s.rect.x2; y2 = still s.rect.y2 } in
    record { number = w.number; named = w.named; of = net_moves (pos 0) (pos 0) w.channel d.channel wire w.intervals d.intervals w.track d.track tracks w.number s s there two in_place w.drawn }

-- No net of the main channel is one of the array's

output_outside : (xs : List Net) → NoArray xs → IsArrayNet (before_supplies xs) → ⊥
output_outside [] none = λ no. no
output_outside (n ∷ []) none = none.0
output_outside (n ∷ m ∷ []) none = none.0
output_outside (n ∷ vdd ∷ gnd ∷ []) none = none.0
output_outside (n ∷ m ∷ k ∷ l ∷ ns) none = output_outside (m ∷ k ∷ l ∷ ns) none.1

none_mapped : {X : Type 0} (f : X → Net) (xs : List X) → ((x : X) → IsArrayNet (f x) → ⊥) → NoArray (map f xs)
none_mapped f [] each = tt
none_mapped f (x ∷ xs) each = (each x, none_mapped f xs each)

no_web : (w : ℕ) → NoArray (web_nets w)
no_web zero = tt
no_web (suc w) = ((λ no. no), tt)

no_ports : (plan : Organization) → NoArray (port_nets plan)
no_ports plan = (
  (λ no. no),
  (
    (λ no. no),
    none_append (web_nets plan.write_size) (tabulate plan.masks Wmask ++ (tabulate (addr_bits plan) Addr ++ (tabulate (inputs_of plan) Din ++ tabulate plan.word_size Dout))) (no_web plan.write_size)
        (none_append (tabulate plan.masks Wmask) (tabulate (addr_bits plan) Addr ++ (tabulate (inputs_of plan) Din ++ tabulate plan.word_size Dout)) (none_mapped Wmask (numbers_from 0 plan.masks) (λ i no. no))
        (none_append (tabulate (addr_bits plan) Addr) (tabulate (inputs_of plan) Din ++ tabulate plan.word_size Dout) (none_mapped Addr (numbers_from 0 (addr_bits plan)) (λ i no. no))
        (none_append (tabulate (inputs_of plan) Din) (tabulate plan.word_size Dout) (none_mapped Din (numbers_from 0 (inputs_of plan)) (λ i no. no)) (none_mapped Dout (numbers_from 0 plan.word_size) (λ i no. no))))),
  ),
)

pub main_outside : (plan : Organization) (number : ℕ) (net : Net) → slice_get (main_nets plan) number ≡ Some net → IsArrayNet net → ⊥
main_outside plan number net named =
    none_at (main_nets plan) number net
    (none_append (port_nets plan) (map (output_of plan) (logic_cells plan)) (no_ports plan) (none_mapped (output_of plan) (logic_cells plan) (λ cell. output_outside (logic_cell_ports plan cell) (no_logic plan cell)))) named
