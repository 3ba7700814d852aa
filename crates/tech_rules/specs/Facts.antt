-- What holds of every technology that is read.
use Rattle.std.specs.Prelude.{◌≡◌, ◌≢◌, ◌≤◌, ◌<◌, ℕ, ℤ, pos, ◌-ℤ◌, ◌<ℤ◌, List, length, None, IfSome, IsTrue, All, AllPairs, int_rem}
use Rattle.toml_keys.specs.Keys.{IsInRange}
use Rattle.tech_rules.specs.declared.tech.Connect.{Connect}
use Rattle.tech_rules.specs.declared.tech.Device.{Device}
use Rattle.tech_rules.specs.declared.tech.Layer.{Layer}
use Rattle.tech_rules.specs.declared.tech.Rule.{Rule}
use Rattle.tech_rules.specs.declared.tech.Rule.TheVariants.{Width, Space, Enclose}
use Rattle.tech_rules.specs.declared.tech.Tech.{Tech}
use Rattle.tech_rules.specs.declared.tech.Wire.{Wire}
use Rattle.tech_rules.specs.Layers.{is_word}
use Rattle.tech_rules.specs.Roles.{is_cell_name}
use Rattle.tech_rules.specs.WireRules.{first_bad_index}

-- a layer's name and numbers are ones that a file may give
pub record IsLayer (layer : Layer) : Type 0 where
  pub name : IsTrue (is_word layer.name)
  pub number : IsInRange (pos 0) (pos 32767) layer.number
  pub datatype : IsInRange (pos 0) (pos 32767) layer.datatype
  pub text_number : IsInRange (pos 0) (pos 32767) layer.text_number
  pub texttype : IsInRange (pos 0) (pos 32767) layer.texttype

-- there is a layer at the index
abbrev pub IsLayerIndex : List Layer → ℕ → Type 0
IsLayerIndex layers index = index < length layers

abbrev pub IsRuleMinimum : ℤ → Type 0
IsRuleMinimum min = IsInRange (pos 1) (pos 1048576) min

pub record IsWidth (layers : List Layer) (index : ℕ) (least : ℤ) : Type 0 where
  pub layer : IsLayerIndex layers index
  pub min : IsRuleMinimum least

pub record IsSpace (layers : List Layer) (first second : ℕ) (least : ℤ) : Type 0 where
  pub layer : IsLayerIndex layers first
  pub other : IsLayerIndex layers second
  pub min : IsRuleMinimum least

pub record IsEnclose (layers : List Layer) (index : ℕ) (outer : List ℕ) (least : ℤ) : Type 0 where
  pub layer : IsLayerIndex layers index
  pub some : 1 ≤ length outer
  pub few : length outer ≤ 8
  pub by : All (IsLayerIndex layers) outer
  pub min : IsRuleMinimum least

-- a rule's layers are there, and its minimum is one that a file may give
abbrev pub IsRule : List Layer → Rule → Type 0
IsRule layers (Width layer min) = IsWidth layers layer min
IsRule layers (Space layer other min) = IsSpace layers layer other min
IsRule layers (Enclose layer by min) = IsEnclose layers layer by min

-- a connection's layers are there, and the cut is none of the conductors
pub record IsConnect (layers : List Layer) (connect : Connect) : Type 0 where
  pub cut : IsLayerIndex layers connect.cut
  pub some : 2 ≤ length connect.to
  pub few : length connect.to ≤ 8
  pub to : All (IsLayerIndex layers) connect.to
  pub others : All (λ index. index ≢ connect.cut) connect.to

-- the cut fits the middle of a wire of this width
pub record IsCentred (width cut : ℤ) : Type 0 where
  pub narrow : cut <ℤ width
  pub even : int_rem (width -ℤ cut) (pos 2) ≡ pos 0

-- a wire's width, space and cut fit each other
pub record AreSizes (wire : Wire) : Type 0 where
  pub width : IsInRange (pos 1) (pos 65536) wire.width
  pub space : IsInRange (pos 1) (pos 65536) wire.space
  pub cut : IsInRange (pos 1) (pos 65536) wire.cut
  pub centred : IsCentred wire.width wire.cut

-- a wire's sizes fit each other, and its seven layers are there and differ
pub record IsWire (layers : List Layer) (wire : Wire) : Type 0 where
  pub sizes : AreSizes wire
  pub four : length wire.metals ≡ 4
  pub three : length wire.cuts ≡ 3
  pub metals : All (IsLayerIndex layers) wire.metals
  pub cuts : All (IsLayerIndex layers) wire.cuts
  pub metals_differ : AllPairs (λ a b. a ≢ b) wire.metals
  pub cuts_differ : AllPairs (λ a b. a ≢ b) wire.cuts
  pub apart : All (λ cut. All (λ metal. cut ≢ metal) wire.metals) wire.cuts

-- a kind of transistor's model is one that a file may name, and its three layers are there and differ
pub record IsDevice (layers : List Layer) (device : Device) : Type 0 where
  pub model : IsTrue (is_cell_name device.model)
  pub gate : IsLayerIndex layers device.gate
  pub active : IsLayerIndex layers device.active
  pub by : IsLayerIndex layers device.by
  pub active_differs : device.active ≢ device.gate
  pub by_differs : device.by ≢ device.gate
  pub by_and_active : device.by ≢ device.active

-- What holds of a technology that is read: every index is that of a layer, names of layers differ, numbers are ones that
-- a file may give, and the rules and connections allow the wires.
pub record IsTech (tech : Tech) : Type 0 where
  pub some_layer : 1 ≤ length tech.layers
  pub few_layers : length tech.layers ≤ 64
  pub layers : All IsLayer tech.layers
  pub names : AllPairs (λ a b. a.name ≢ b.name) tech.layers
  pub outline : IsLayerIndex tech.layers tech.outline
  pub few_rules : length tech.rules ≤ 256
  pub rules : All (IsRule tech.layers) tech.rules
  pub few_connects : length tech.connects ≤ 64
  pub connects : All (IsConnect tech.layers) tech.connects
  pub wire : IfSome tech.wire (IsWire tech.layers)
  pub allowed : IfSome tech.wire (λ wire. first_bad_index tech wire ≡ None)
  pub roles : All (λ r. IsTrue (is_cell_name r.cell)) tech.roles
  pub few_devices : length tech.devices ≤ 8
  pub devices : All (IsDevice tech.layers) tech.devices
