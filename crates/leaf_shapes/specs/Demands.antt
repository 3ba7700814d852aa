-- What a leaf cell of each role has to draw for its pins.
use Rattle.std.specs.Prelude.{ℕ, List, [], ◌∷◌, slice_index, codes}
use Rattle.cell_roles.specs.declared.role.Role.{Role}
use Rattle.cell_roles.specs.declared.role.Role.TheVariants.{Bitcell, Precharge, Mux, Tie, Sense, Write, RowNand2, RowNand3, Driver, Nand2, Nand3, Inv, Dff, Delay}
use Rattle.tech_rules.specs.declared.tech.Wire.{Wire}
use Rattle.leaf_shapes.specs.declared.demand.PinRequirement.{PinRequirement}
use Rattle.leaf_shapes.specs.declared.demand.Metal.{Metal}
use Rattle.leaf_shapes.specs.declared.demand.Metal.TheVariants.{M1, M2, M3, M4}
use Rattle.leaf_shapes.specs.declared.fit.Fit.{Fit}
use Rattle.leaf_shapes.specs.declared.fit.Fit.TheVariants.{Top, Bottom, TopAndBottom, Left, Right, LeftAndRight, Anywhere, LowerRail, UpperRail}

-- a shape of the pin on the metal has to lie so
pub record PinDemand : Type 0 where
  pub pin : List ℕ
  pub metal : Metal
  pub fit : Fit

abbrev pub plain_demand : PinRequirement → PinDemand
plain_demand d = record { pin = d.pin.now; metal = d.metal; fit = d.fit }

abbrev pub draw : List ℕ → Metal → Fit → PinDemand
draw pin metal fit = record { pin = pin; metal = metal; fit = fit }

-- the layer of the metal
abbrev pub metal_layer : Wire → Metal → ℕ
metal_layer wire M1 = slice_index wire.metals 0
metal_layer wire M2 = slice_index wire.metals 1
metal_layer wire M3 = slice_index wire.metals 2
metal_layer wire M4 = slice_index wire.metals 3

-- the upper rail is vdd's and the lower gnd's
abbrev pub vdd_above : List PinDemand
vdd_above = draw (codes "vdd") M1 UpperRail ∷ draw (codes "gnd") M1 LowerRail ∷ []

-- the other way round
abbrev pub gnd_above : List PinDemand
gnd_above = draw (codes "vdd") M1 LowerRail ∷ draw (codes "gnd") M1 UpperRail ∷ []

-- A role's demands, in order. Those of one pin stand beside each other.
abbrev pub role_demands : Role → List PinDemand
role_demands Bitcell = draw (codes "bl") M2 TopAndBottom ∷ draw (codes "br") M2 TopAndBottom ∷ draw (codes "wl") M1 LeftAndRight ∷ vdd_above
role_demands Precharge = draw (codes "bl") M2 Bottom ∷ draw (codes "br") M2 Bottom ∷ draw (codes "en_bar") M3 Anywhere ∷ vdd_above
role_demands Mux = draw (codes "bl") M2 Top ∷ draw (codes "br") M2 Top ∷ draw (codes "blo") M4 Bottom ∷ draw (codes "bro") M4 Bottom ∷ draw (codes "sel") M4 Bottom ∷ gnd_above
role_demands Tie = draw (codes "bl") M2 Top ∷ draw (codes "bl") M4 Bottom ∷ draw (codes "br") M2 Top ∷ draw (codes "br") M4 Bottom ∷ gnd_above
role_demands Sense = draw (codes "bl") M2 TopAndBottom ∷ draw (codes "br") M2 TopAndBottom ∷ draw (codes "dout") M4 Bottom ∷ draw (codes "en") M3 Anywhere ∷ vdd_above
role_demands Write = draw (codes "din") M4 Bottom ∷ draw (codes "bl") M2 Top ∷ draw (codes "br") M2 Top ∷ draw (codes "en") M4 Bottom ∷ gnd_above
role_demands RowNand2 = draw (codes "a") M3 Anywhere ∷ draw (codes "b") M3 Anywhere ∷ draw (codes "z") M1 Right ∷ vdd_above
role_demands RowNand3 = draw (codes "a") M3 Anywhere ∷ draw (codes "b") M3 Anywhere ∷ draw (codes "c") M3 Anywhere ∷ draw (codes "z") M1 Right ∷ vdd_above
role_demands Driver = draw (codes "a") M1 Left ∷ draw (codes "en") M3 Anywhere ∷ draw (codes "z") M1 Right ∷ vdd_above
role_demands Nand2 = draw (codes "a") M2 Top ∷ draw (codes "b") M2 Top ∷ draw (codes "z") M2 Top ∷ vdd_above
role_demands Nand3 = draw (codes "a") M2 Top ∷ draw (codes "b") M2 Top ∷ draw (codes "c") M2 Top ∷ draw (codes "z") M2 Top ∷ vdd_above
role_demands Inv = draw (codes "a") M2 Top ∷ draw (codes "z") M2 Top ∷ vdd_above
role_demands Dff = draw (codes "d") M2 Top ∷ draw (codes "clk") M2 Top ∷ draw (codes "q") M2 Top ∷ vdd_above
role_demands Delay = draw (codes "a") M2 Top ∷ draw (codes "z") M2 Top ∷ vdd_above
