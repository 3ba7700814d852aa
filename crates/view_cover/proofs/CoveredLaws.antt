-- A macro's layout is covered by the boxes of its view.
use Rattle.cell_hierarchy.specs.FlatSet.{IsFlatShape}
use Rattle.tech_rules.proofs.WireLaws.{wire-AreSizes}
use Rattle.floorplan.specs.LayoutOfKit.{layout_kit}
use Rattle.view_cover.specs.Cover.{LefCoversLayout}
use Rattle.view_cover.proofs.WholeLaws.{layout_is}
use Rattle.view_cover.proofs.KitLaws.{kit_fits, kit_layers}

pub lef_covers_layout : LefCoversLayout
lef_covers_layout kit wire plan bits tracks floorplan view is wired inside slices stands of metal s lt on in_macro =
    layout_is kit.tech.layers (IsFlatShape kit.tech.layers kit.lib.structs) plan (layout_kit kit) bits wire tracks floorplan view
    (record { sizes = wire-AreSizes kit.tech wire is.tech wired; stands = stands; fits = kit_fits kit wire is wired; sense = slices.sense; write = slices.write }) (kit_layers kit wire plan bits is wired inside) of s metal lt on in_macro
