-- The text of the demonstration technology, at a scale.
use Rattle.std.specs.Prelude.{ℕ, ◌*◌, List, [], ◌∷◌, ◌++◌, map, flat_map, codes}
use Rattle.std.specs.Fmt.{decimal}
use Rattle.cell_roles.specs.declared.role.Role.{Role}
use Rattle.cell_roles.specs.Roles.{all_roles, role_name}
use Rattle.cell_roles.specs.RowTexts.{table_texts}
use Rattle.demo_kit.specs.declared.layer.DemoLayer.{DemoLayer}
use Rattle.demo_kit.specs.declared.layer.ViaLevel.{ViaLevel}
use Rattle.demo_kit.specs.Layers.{demo_layers, demo_metals, demo_cuts, via_levels, demo_layer_name, demo_layer_number}
use Rattle.demo_kit.specs.Lines.{heading, key_line, text_line, number_line, texts_line}
use Rattle.demo_kit.specs.CellNames.{demo_cell_name}

-- name, and the two numbers in GDSII
unfoldable pub layer_block : DemoLayer → List ℕ
layer_block layer =
    heading (codes "[[layer]]") ++ (text_line (codes "name") (demo_layer_name layer)
    ++ key_line (codes "gds") (codes "[" ++ (decimal (demo_layer_number layer) ++ codes ", 0]")))

-- no shape is narrower
unfoldable pub width_block : ℕ → DemoLayer → List ℕ
width_block min layer =
    heading (codes "[[rule]]") ++ (text_line (codes "kind") (codes "width")
    ++ (text_line (codes "layer") (demo_layer_name layer) ++ number_line (codes "min") min))

-- shapes of the layer are no nearer
unfoldable pub space_block : ℕ → DemoLayer → List ℕ
space_block min layer =
    heading (codes "[[rule]]") ++ (text_line (codes "kind") (codes "space")
    ++ (text_line (codes "layer") (demo_layer_name layer)
    ++ (text_line (codes "other") (demo_layer_name layer) ++ number_line (codes "min") min)))

-- the metal reaches so far beyond the cut
unfoldable pub enclose_block : ℕ → DemoLayer → DemoLayer → List ℕ
enclose_block min cut metal =
    heading (codes "[[rule]]") ++ (text_line (codes "kind") (codes "enclose")
    ++ (text_line (codes "layer") (demo_layer_name cut)
    ++ (texts_line (codes "by") (demo_layer_name metal ∷ []) ++ number_line (codes "min") min)))

-- by the metal below the cut, and by the one above
abbrev pub enclose_blocks : ℕ → ViaLevel → List ℕ
enclose_blocks min level = enclose_block min level.cut level.below ++ enclose_block min level.cut level.above

-- widths, spaces and enclosures
unfoldable pub rule_blocks : ℕ → List ℕ
rule_blocks scale =
    flat_map (width_block (4 * scale)) demo_metals ++ (flat_map (width_block (2 * scale)) demo_cuts
    ++ (flat_map (space_block (4 * scale)) demo_metals ++ (flat_map (space_block (2 * scale)) demo_cuts
    ++ flat_map (enclose_blocks (1 * scale)) via_levels)))

-- the metals that a cut joins
unfoldable pub connect_block : ViaLevel → List ℕ
connect_block level =
    heading (codes "[[connect]]") ++ (text_line (codes "cut") (demo_layer_name level.cut)
    ++ texts_line (codes "to") (demo_layer_name level.below ∷ demo_layer_name level.above ∷ []))

-- the wires of the router
unfoldable pub wire_block : ℕ → List ℕ
wire_block scale =
    heading (codes "[wire]") ++ (number_line (codes "width") (4 * scale) ++ (number_line (codes "space") (4 * scale)
    ++ (number_line (codes "cut") (2 * scale) ++ (texts_line (codes "metals") (map demo_layer_name demo_metals)
    ++ texts_line (codes "cuts") (map demo_layer_name demo_cuts)))))

-- the cell of a role
abbrev pub role_line : Role → List ℕ
role_line role = text_line (role_name role) (demo_cell_name role)

-- what a role does
abbrev pub table_line : Role → List ℕ
table_line role = texts_line (role_name role) (table_texts role)

unfoldable pub layer_blocks : List DemoLayer → List ℕ
layer_blocks layers = flat_map layer_block layers

unfoldable pub connect_blocks : List ViaLevel → List ℕ
connect_blocks levels = flat_map connect_block levels

unfoldable pub role_block : List Role → List ℕ
role_block roles = heading (codes "[role]") ++ flat_map role_line roles

unfoldable pub table_block : List Role → List ℕ
table_block roles = heading (codes "[table]") ++ flat_map table_line roles

unfoldable pub demo_technology : ℕ → List ℕ
demo_technology scale =
    text_line (codes "outline") (codes "outline") ++ (layer_blocks demo_layers ++ (rule_blocks scale
    ++ (connect_blocks via_levels ++ (wire_block scale ++ (role_block all_roles ++ table_block all_roles)))))
