-- A layout is the same whatever shapes stand for pins that aren't demanded.
use Rattle.std.specs.Prelude.{◌≡◌, ◌↔◌, ℕ, Option, None, Some}
use Rattle.or_geom.specs.declared.shape.Rect.{Rect}
use Rattle.or_geom.specs.declared.shape.Shape.{Shape}
use Rattle.cell_roles.specs.declared.role.Role.{Role}
use Rattle.tech_rules.specs.declared.tech.Wire.{Wire}
use Rattle.cell_builder.specs.declared.cell.PlacedLabel.{PlacedLabel}
use Rattle.sram_netlist.specs.Organization.{Organization, IsBuildable}
use Rattle.macro_layout.specs.LayoutKit.{LayoutKit}
use Rattle.macro_layout.specs.Places.{Floorplan}
use Rattle.macro_layout.specs.Floorplan.{Tracks}
use Rattle.macro_layout.specs.Layout.{Drawing}
use Rattle.macro_layout.specs.Stated.{IsDrawnAs}
use Rattle.macro_layout.specs.Wires.{IsWireInBank, IsWireInMacro, IsLabelInMacro}
use Rattle.leaf_tables.specs.declared.kit.Kit.{Kit}
use Rattle.leaf_tables.specs.Kits.{IsKit}
use Rattle.floorplan.specs.LayoutOfKit.{pin_shape, layout_kit}
use Rattle.asked_pins.specs.Demanded.{IsDemandedPort}

-- the shape of each role's port on each metal
abbrev pub PinShapes : Type 0
PinShapes = Role → ℕ → ℕ → Rect

-- of demanded pins the shapes are the same
abbrev pub AreAlikeWhereDemanded : PinShapes → PinShapes → Type 0
AreAlikeWhereDemanded shapes others =
    (role : Role) (port metal : ℕ) → IsDemandedPort role port metal → shapes role port metal ≡ others role port metal

-- the kit with these shapes for pins
abbrev pub with_pins : LayoutKit → PinShapes → LayoutKit
with_pins kit shapes = record { cell = kit.cell; width = kit.width; height = kit.height; pin = shapes }

-- wires of banks, wires beside them and labels are the same by both kits
pub record AreSameLayouts (plan : Organization) (kit other : LayoutKit) (wire : Wire) (tracks : Tracks) (floorplan : Floorplan) : Type 0 where
  pub bank : (s : Shape) → IsWireInBank plan kit wire tracks floorplan s ↔ IsWireInBank plan other wire tracks floorplan s
  pub macro : (s : Shape) → IsWireInMacro plan kit wire tracks floorplan s ↔ IsWireInMacro plan other wire tracks floorplan s
  pub labels : (label : PlacedLabel) → IsLabelInMacro plan kit wire tracks floorplan label ↔ IsLabelInMacro plan other wire tracks floorplan label

-- Layouts ask for demanded pins alone.
abbrev pub LayoutsAskForDemandedPins : Type 0
LayoutsAskForDemandedPins =
    (plan : Organization) (kit : LayoutKit) (shapes others : PinShapes) (wire : Wire) (tracks : Tracks) (floorplan : Floorplan)
    → IsBuildable plan → AreAlikeWhereDemanded shapes others
    → AreSameLayouts plan (with_pins kit shapes) (with_pins kit others) wire tracks floorplan

-- A drawing that is as stated by one of them is so by the other.
abbrev pub DrawingsAskForDemandedPins : Type 0
DrawingsAskForDemandedPins =
    (plan : Organization) (kit : LayoutKit) (shapes others : PinShapes) (wire : Wire) (tracks : Tracks) (drawing : Drawing)
    → IsBuildable plan → AreAlikeWhereDemanded shapes others
    → IsDrawnAs plan (with_pins kit shapes) wire tracks drawing → IsDrawnAs plan (with_pins kit others) wire tracks drawing

abbrev pub rect_or : Rect → Option Rect → Rect
rect_or stand None = stand
rect_or stand (Some rect) = rect

-- the shapes of a kit's pins, with these for pins that it hasn't
abbrev pub shapes_or : Kit → PinShapes → PinShapes
shapes_or kit stands = λ (role : Role) (port metal : ℕ). rect_or (stands role port metal) (pin_shape kit role port metal)

-- So what stands for a pin that a kit hasn't is in no layout.
abbrev pub MissingPinsAreUnused : Type 0
MissingPinsAreUnused =
    (kit : Kit) (plan : Organization) (stands : PinShapes) (wire : Wire) (tracks : Tracks) (floorplan : Floorplan)
    → IsKit kit → IsBuildable plan
    → AreSameLayouts plan (layout_kit kit) (with_pins (layout_kit kit) (shapes_or kit stands)) wire tracks floorplan
