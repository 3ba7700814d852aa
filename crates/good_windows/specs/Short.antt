-- In the memories of a kit whose reach is short, rules reach no further than the neighbours of a leaf cell.
use Rattle.std.specs.Prelude.{Contains, ℤ, pos, ◌+ℤ◌, ◌≤ℤ◌}
use Rattle.tech_rules.specs.declared.tech.Rule.{Rule}
use Rattle.tech_rules.specs.declared.tech.Wire.{Wire}
use Rattle.leaf_tables.specs.declared.kit.Kit.{Kit}
use Rattle.leaf_tables.specs.Kits.{IsKit}
use Rattle.kit_rules.specs.Reach.{IsOverhang, IsShortReach, minimum_of, reach_with}
use Rattle.floorplan.specs.LayoutOfKit.{layout_kit}
use Rattle.good_places.specs.Leaves.{ReachesNeighboursOnly}

-- the reach is short, and each rule sees no further
pub record HasShortReach (kit : Kit) (wire : Wire) (overhang : ℤ) : Type 0 where
  pub from : pos 0 ≤ℤ overhang
  pub short : ReachesNeighboursOnly (layout_kit kit) wire (reach_with kit overhang)
  pub each : (rule : Rule) → Contains kit.tech.rules rule → (minimum_of rule +ℤ (overhang +ℤ overhang)) ≤ℤ reach_with kit overhang

abbrev pub GoodKitsAreShort : Type 0
GoodKitsAreShort = (kit : Kit) (wire : Wire) (overhang : ℤ) → IsKit kit → IsOverhang kit overhang → IsShortReach kit wire overhang → HasShortReach kit wire overhang
