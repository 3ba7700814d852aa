-- The nets of a macro's own ports: their names tell them and are in lower case; each is one of the main channel's or a supply.
use Rattle.std.proofs.Common.{◌≡◌, ◌⊎◌, inl, inr, ℕ, zero, suc, List, ◌++◌, map, append_assoc, Some, refl, sym, subst, ◌∙◌}
use Rattle.std.specs.Prelude.{slice_get}
use Rattle.sram_netlist.specs.Organization.{Organization, IsBuildable, inputs_of, addr_bits}
use Rattle.sram_netlist.specs.Nets.{Net, Vdd, Gnd, Addr, Din, Dout, Wmask}
use Rattle.sram_netlist.specs.InstanceList.{tabulate, logic_cells}
use Rattle.sram_netlist.specs.Membership.{IsNameable, IsOneOf}
use Rattle.sram_netlist.specs.Names.{net_name, full_name}
use Rattle.sram_netlist.specs.Netlist.{web_nets, supply_nets}
use Rattle.sram_netlist.proofs.InstanceLists.{of_each, of_either}
use Rattle.sram_netlist.proofs.TextLaws.{texts_tell}
use Rattle.sram_rows.proofs.DigitLaws.{plain_low}
use Rattle.sram_rows.proofs.PlainNames.{inputs_within}
use Rattle.sram_rows.proofs.PlainNetNames.{name_plain}
use Rattle.sram_rows.specs.Rows.{macro_nets}
use Rattle.spice_text.specs.Words.{lower}
use Rattle.macro_layout.specs.Pins.{port_nets, main_nets, output_of}
use Rattle.wired_macros.proofs.BankWireLaws.{one_at}
use Rattle.macro_nets.proofs.ListSplitLaws.{split_at}
use Rattle.macro_nets.proofs.PortKindLaws.{IsMainNet}
use Rattle.wired_macros.proofs.RouteLaws.{main_outside}
use Rattle.macro_nets.proofs.TapPinLaws.{in_front_at}

-- a net that is named at the top
pub record IsTopNet (plan : Organization) (net : Net) : Type 0 where
  pub nameable : IsNameable plan net
  pub full : full_name plan net ≡ net_name plan net

web_top : (plan : Organization) (w : ℕ) (net : Net) → IsOneOf net (web_nets w) → IsTopNet plan net
web_top plan zero net is = absurd is
web_top plan (suc w) net (inl same) = subst (IsTopNet plan) same (record { nameable = tt; full = refl })
web_top plan (suc w) net (inr none) = absurd none

pub signal_top : (plan : Organization) (net : Net) → IsOneOf net (port_nets plan) → IsTopNet plan net
signal_top plan net (inl same) = subst (IsTopNet plan) same (record { nameable = tt; full = refl })
signal_top plan net (inr (inl same)) = subst (IsTopNet plan) same (record { nameable = tt; full = refl })
signal_top plan net (inr (inr is)) =
    of_either (IsTopNet plan) net (web_nets plan.write_size) (tabulate plan.masks Wmask ++ (tabulate (addr_bits plan) Addr ++ (tabulate (inputs_of plan) Din ++ tabulate plan.word_size Dout))) (web_top plan plan.write_size net)
    (of_either (IsTopNet plan) net (tabulate plan.masks Wmask) (tabulate (addr_bits plan) Addr ++ (tabulate (inputs_of plan) Din ++ tabulate plan.word_size Dout)) (of_each plan.masks Wmask (IsTopNet plan) (λ m lt. record { nameable = lt; full = refl }) net)
    (of_either (IsTopNet plan) net (tabulate (addr_bits plan) Addr) (tabulate (inputs_of plan) Din ++ tabulate plan.word_size Dout) (of_each (addr_bits plan) Addr (IsTopNet plan) (λ i lt. record { nameable = lt; full = refl }) net)
    (of_either (IsTopNet plan) net (tabulate (inputs_of plan) Din) (tabulate plan.word_size Dout) (of_each (inputs_of plan) Din (IsTopNet plan) (λ i lt. record { nameable = inputs_within plan i lt; full = refl }) net)
    (of_each plan.word_size Dout (IsTopNet plan) (λ i lt. record { nameable = lt; full = refl }) net)))) is

pub power_top : (plan : Organization) → IsTopNet plan Vdd
power_top plan = record { nameable = tt; full = refl }

pub ground_top : (plan : Organization) → IsTopNet plan Gnd
ground_top plan = record { nameable = tt; full = refl }

-- Their names are in lower case, and tell them.
pub top_low : (plan : Organization) → IsBuildable plan → (net : Net) → IsTopNet plan net → lower (net_name plan net) ≡ net_name plan net
top_low plan build net top = plain_low (net_name plan net) (name_plain plan build net top.nameable)

pub top_told : (plan : Organization) → IsBuildable plan → (x y : Net) → IsTopNet plan x → IsTopNet plan y → net_name plan x ≡ net_name plan y → x ≡ y
top_told plan build x y a b e = texts_tell plan x y build a.nameable b.nameable (a.full ∙ (e ∙ sym b.full))

-- The macro's ports are its signal ports, and vdd and gnd.
pub macro_nets_are : (plan : Organization) → macro_nets plan ≡ port_nets plan ++ supply_nets
macro_nets_are plan = simp append_assoc

-- what a port's net is: with its number, or a supply
pub record IsSignal (plan : Organization) (net : Net) : Type 0 where
  pub number : ℕ
  pub listed : slice_get (port_nets plan) number ≡ Some net

abbrev pub IsPortNet : Organization → Net → Type 0
IsPortNet plan net = IsSignal plan net ⊎ ((Vdd ≡ net) ⊎ (Gnd ≡ net))

supply_at : (j : ℕ) (net : Net) → slice_get supply_nets j ≡ Some net → (Vdd ≡ net) ⊎ (Gnd ≡ net)
supply_at zero net h = inl cc
supply_at (suc zero) net h = inr cc
supply_at (suc (suc j)) net h = absurd cc

pub port_net : (plan : Organization) (place : ℕ) (net : Net) → slice_get (macro_nets plan) place ≡ Some net → IsPortNet plan net
port_net plan place net on = elim (split_at (port_nets plan) supply_nets place net (subst (λ (l : List Net). slice_get l place ≡ Some net) (macro_nets_are plan) on)) [
  | inl signal ↦ inl (record { number = place; listed = signal.1 })
  | inr supply ↦ inr (supply_at supply.0 net supply.2)
]

pub port_net_top : (plan : Organization) (net : Net) → IsPortNet plan net → IsTopNet plan net
port_net_top plan net (inl signal) = signal_top plan net (one_at (port_nets plan) signal.number net signal.listed)
port_net_top plan net (inr (inl power)) = subst (IsTopNet plan) power (power_top plan)
port_net_top plan net (inr (inr ground)) = subst (IsTopNet plan) ground (ground_top plan)

-- a signal's number is that in the main channel
pub signal_named : (plan : Organization) (net : Net) (is : IsSignal plan net) → slice_get (main_nets plan) is.number ≡ Some net
signal_named plan net is = in_front_at (port_nets plan) (map (output_of plan) (logic_cells plan)) is.number net is.listed

pub signal_main : (plan : Organization) (net : Net) → IsSignal plan net → IsMainNet plan net
signal_main plan net is = record { numbered = record { number = is.number; named = signal_named plan net is }; outer = main_outside plan is.number net (signal_named plan net is) }
