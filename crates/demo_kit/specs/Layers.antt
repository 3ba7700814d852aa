-- The layers of the demonstration technology.
use Rattle.std.specs.Prelude.{ℕ, List, [], ◌∷◌, codes}
use Rattle.demo_kit.specs.declared.layer.DemoLayer.{DemoLayer}
use Rattle.demo_kit.specs.declared.layer.ViaLevel.{ViaLevel}
use Rattle.demo_kit.specs.declared.layer.DemoLayer.TheVariants.{Outline, M1, Via1, M2, Via2, M3, Via3, M4}

-- in the order of the technology file
abbrev pub demo_layers : List DemoLayer
demo_layers = Outline ∷ M1 ∷ Via1 ∷ M2 ∷ Via2 ∷ M3 ∷ Via3 ∷ M4 ∷ []

abbrev pub demo_metals : List DemoLayer
demo_metals = M1 ∷ M2 ∷ M3 ∷ M4 ∷ []

abbrev pub demo_cuts : List DemoLayer
demo_cuts = Via1 ∷ Via2 ∷ Via3 ∷ []

-- each cut with the metals that it joins
abbrev pub via_levels : List ViaLevel
via_levels =
    record { cut = Via1; below = M1; above = M2 } ∷ record { cut = Via2; below = M2; above = M3 }
    ∷ record { cut = Via3; below = M3; above = M4 } ∷ []

abbrev pub demo_layer_name : DemoLayer → List ℕ
demo_layer_name Outline = codes "outline"
demo_layer_name M1 = codes "m1"
demo_layer_name Via1 = codes "via1"
demo_layer_name M2 = codes "m2"
demo_layer_name Via2 = codes "via2"
demo_layer_name M3 = codes "m3"
demo_layer_name Via3 = codes "via3"
demo_layer_name M4 = codes "m4"

-- the number in GDSII, beside which the datatype and the texttype are 0
abbrev pub demo_layer_number : DemoLayer → ℕ
demo_layer_number Outline = 1
demo_layer_number M1 = 10
demo_layer_number Via1 = 11
demo_layer_number M2 = 12
demo_layer_number Via2 = 13
demo_layer_number M3 = 14
demo_layer_number Via3 = 15
demo_layer_number M4 = 16
