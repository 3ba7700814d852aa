-- The channel of the formula is the stated one.
use Rattle.std.proofs.Common.{◌≡◌, ℕ, ◌+◌, ◌<◌, ℤ, pos, List, [], ◌∷◌, map, length, refl, sym, subst, arith}
use Rattle.tech_rules.specs.declared.tech.Wire.{Wire}
use Rattle.channel_router.specs.declared.channel.ChannelPin.{ChannelPin}
use Rattle.channel_router.specs.Channel.{IsPinOf}
use Rattle.sram_netlist.specs.Organization.{Organization, IsBuildable}
use Rattle.sram_netlist.specs.Names.{net_name}
use Rattle.sram_netlist.specs.InstanceList.{tabulate, logic_cells}
use Rattle.macro_layout.specs.LayoutKit.{LayoutKit}
use Rattle.macro_layout.specs.Places.{Floorplan}
use Rattle.macro_layout.specs.Pins.{port_nets, main_nets}
use Rattle.macro_layout.specs.Channels.{ArePins, LeavesLeft, IsMainChannel}
use Rattle.main_channel.specs.Pins.{HasPinOfNet}
use Rattle.main_channel.specs.Formula.{main_number, main_bottom, main_exit, main_channel}
use Rattle.main_channel.proofs.PinLaws.{one_is, this_there, in_one, of_one, singles}
use Rattle.main_channel.proofs.LookLaws.{IsNumbering, numbering_is}
use Rattle.main_channel.proofs.RowPinLaws.{row_pins_are, output_there}
use Rattle.main_channel.proofs.BankPinLaws.{bank_pins_are}

-- an exit of each port
abbrev exit_list : ℕ → List ChannelPin
exit_list k = main_exit k ∷ []

record IsExit (ports number : ℕ) (x : ℤ) : Type 0 where
  pub port : number < ports
  pub left : x ≡ pos 0

exit_is : (ports number : ℕ) (x : ℤ) → IsPinOf (tabulate ports main_exit) number x → IsExit ports number x
exit_is ports number x is =
    let r = in_one ports exit_list number x (subst (λ (l : List ChannelPin). IsPinOf l number x) (singles ports main_exit) is) in
    let one = one_is (main_exit r.at) number x r.is in
    let below = r.below in
    let same = one.number in
    record { port = omega (arith, below, same); left = one.here }

exit_there : (ports number : ℕ) (x : ℤ) → number < ports → x ≡ pos 0 → IsPinOf (tabulate ports main_exit) number x
exit_there ports number x less left =
    subst (λ (l : List ChannelPin). IsPinOf l number x) (sym (singles ports main_exit)) (of_one ports exit_list number x number less (this_there (main_exit number) number x (record { number = refl; here = left })))

pub has_exit : (ports : ℕ) (exits : List ChannelPin) → exits ≡ tabulate ports main_exit → (net : ℕ) → net < ports → HasPinOfNet exits net
has_exit ports exits is net less = (pos 0, subst (λ (l : List ChannelPin). IsPinOf l net (pos 0)) (sym is) (exit_there ports net (pos 0) less refl))

pub exits_are : (plan : Organization) (ports : ℕ) (exits : List ChannelPin) → exits ≡ tabulate ports main_exit → ports ≡ length (port_nets plan) → ArePins exits (LeavesLeft plan)
exits_are plan ports exits is count number x = (
  (λ there. let e = exit_is ports number x (subst (λ (l : List ChannelPin). IsPinOf l number x) is there) in let port = e.port in record { port = omega (arith, port, count); left = e.left }),
  (λ leaves. let port = leaves.port in subst (λ (l : List ChannelPin). IsPinOf l number x) (sym is) (exit_there ports number x (omega (arith, port, count)) leaves.left)),
)

module _ (plan : Organization) (p : IsBuildable plan) where
  numbers : IsNumbering plan (main_number plan)
  numbers = numbering_is plan p (map (net_name plan) (main_nets plan)) (main_number plan) refl (λ name. refl)

  pub main_stated : (kit : LayoutKit) (wire : Wire) (floorplan : Floorplan) → IsMainChannel plan kit wire floorplan (main_channel plan kit wire floorplan)
  main_stated kit wire floorplan = record {
    low = refl;
    nets = refl;
    top = bank_pins_are plan p kit wire floorplan (main_number plan) numbers;
    bottom = row_pins_are plan kit floorplan (main_number plan) numbers kit.cell;
    exits = exits_are plan (length (port_nets plan)) (tabulate (length (port_nets plan)) main_exit) refl refl;
  }

  -- each output of the logic row has a pin
  pub main_outputs : (kit : LayoutKit) (floorplan : Floorplan) (k : ℕ) → k < length (logic_cells plan) → HasPinOfNet (main_bottom plan kit floorplan) (length (port_nets plan) + k)
  main_outputs kit floorplan k less = output_there plan kit floorplan (main_number plan) numbers kit.cell k less
