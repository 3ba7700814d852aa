-- The key of a net: the text by which the program tells it from others.
use Rattle.std.specs.Prelude.{◌≡◌, ◌↔◌, ℕ, ◌<◌, List, [], ◌∷◌, ◌++◌, map}
use Rattle.netlist.specs.declared.deck.Subckt.{Subckt}
use Rattle.spice_text.specs.Words.{lower}
use Rattle.spice_netlist.specs.Resolved.{resolved_subckts}
use Rattle.spice_netlist.specs.Walk.{FlatNet}
use Rattle.spice_netlist.specs.Pins.{named_rows}
use Rattle.spice_netlist.specs.Numbers.{net_at}

-- the names of the instances, each with an A behind it, and the name
abbrev pub path_key : List (List ℕ) → List ℕ → List ℕ
path_key [] name = name
path_key (instance ∷ path) name = instance ++ 65 ∷ path_key path name

abbrev pub net_key : FlatNet → List ℕ
net_key net = path_key net.path net.name

-- the net with its names in lower case, so that none has an A
abbrev pub lowered_net : FlatNet → FlatNet
lowered_net net = record { path = map lower net.path; name = lower net.name }

-- nets with names in lower case that have one key are one net
abbrev pub NetKeysAreFaithful : Type 0
NetKeysAreFaithful = (a b : FlatNet) → net_key (lowered_net a) ≡ net_key (lowered_net b) → lowered_net a ≡ lowered_net b

-- two rows of a deck have one key exactly where they have one net
abbrev pub KeysTellNets : Type 0
KeysTellNets = (subckts : List Subckt) (top : List ℕ) (leaves : List (List ℕ)) (index j k : ℕ)
    → let named = named_rows (resolved_subckts subckts top leaves) index in
    (net_key (net_at named j) ≡ net_key (net_at named k)) ↔ (net_at named j ≡ net_at named k)
