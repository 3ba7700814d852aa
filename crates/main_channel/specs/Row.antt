-- The cells of the logic row and their roles, and the pins of its cells, one by one.
use Rattle.std.specs.Prelude.{◌≡◌, ◌-◌, ℕ, ℤ, pos, ◌+ℤ◌, List, [], ◌∷◌, ◌++◌, Option, Some, length, get_or, slice_get}
use Rattle.cell_roles.specs.declared.role.Role.{Role}
use Rattle.netlist.specs.declared.deck.Instance.{Instance}
use Rattle.channel_router.specs.declared.channel.ChannelPin.{ChannelPin}
use Rattle.leaf_shapes.specs.Demands.{role_demands}
use Rattle.sram_netlist.specs.InstanceList.{tabulate_lists}
use Rattle.main_channel.specs.Pins.{numbered_net}

-- each cell has the ports of its role
pub record FitRoles (gates : List Instance) (roles : List Role) : Type 0 where
  pub each : length roles ≡ length gates
  pub ports : (k : ℕ) (gate : Instance) (role : Role) → slice_get gates k ≡ Some gate → slice_get roles k ≡ Some role → length gate.nodes ≡ length (role_demands role)

-- In what follows `begin` says where a pin begins in a role's cell, by its port, `width` how wide the cell is, and `look` which
-- number a net has by its name.

-- the port of a cell that begins here
abbrev pub port_channel_pin : (ℕ → ℤ) → (List ℕ → Option ℕ) → List (List ℕ) → ℤ → ℕ → List ChannelPin
port_channel_pin begin look nodes from port = numbered_net look (get_or nodes port []) (from +ℤ begin port)

-- its ports but for the supplies, which are the last two
abbrev pub cell_channel_pins : (Role → ℕ → ℤ) → (List ℕ → Option ℕ) → Role → Instance → ℤ → List ChannelPin
cell_channel_pins begin look role gate from = tabulate_lists (length gate.nodes - 2) (port_channel_pin (begin role) look gate.nodes from)

-- those of a row of cells that begins here and stands side by side
abbrev pub row_pins : (Role → ℕ → ℤ) → (Role → ℕ) → (List ℕ → Option ℕ) → List Instance → List Role → ℤ → List ChannelPin
row_pins begin width look [] roles from = []
row_pins begin width look (gate ∷ gates) [] from = []
row_pins begin width look (gate ∷ gates) (role ∷ roles) from = cell_channel_pins begin look role gate from ++ row_pins begin width look gates roles (from +ℤ pos (width role))
