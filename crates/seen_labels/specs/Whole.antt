-- A point around which a small memory has the leaf instances that the memory has, and no others.
use Rattle.std.specs.Prelude.{◌≡◌, ℤ, ◌+ℤ◌, List}
use Rattle.or_geom.specs.declared.shape.Point.{Point}
use Rattle.or_geom.specs.declared.shape.Shape.{Shape}
use Rattle.or_geom.specs.Joined.{IsIn}
use Rattle.tech_rules.specs.declared.tech.Connect.{Connect}
use Rattle.sram_netlist.specs.Nets.{Net}
use Rattle.sram_netlist.specs.Netlist.{role}
use Rattle.good_places.specs.Beside.{moved_place}
use Rattle.good_nets.specs.Parts.{IsShapeOf, StandsIn}
use Rattle.kit_nets.specs.StatedParts.{Source, Standing, stated_parts}

-- another instance stands there with it, and shows its nets by the function
pub record StandsWith (s w : Source) (f : Net → Net) (dx dy : ℤ) (j : Standing s) : Type 0 where
  pub other : Standing w
  pub is : StandsIn (stated_parts s) (stated_parts w) f dx dy j other
  pub at : other.place ≡ moved_place dx dy j.place

-- an instance there stands here, with the same cell
pub record StandsHere (s w : Source) (dx dy : ℤ) (k : Standing w) : Type 0 where
  pub here : Standing s
  pub same_role : role s.plan here.leaf ≡ role w.plan k.leaf
  pub at : k.place ≡ moved_place dx dy here.place

-- The instance stands there; so does each that draws a shape which holds the point, and whatever draws one there, that holds the point as far, stands here.
pub record IsWholeThere (connections : List Connect) (s w : Source) (i : Standing s) (p : Point) : Type 0 where
  pub f : Net → Net
  pub dx : ℤ
  pub dy : ℤ
  pub one : Standing w
  pub one_is : StandsIn (stated_parts s) (stated_parts w) f dx dy i one
  pub one_at : one.place ≡ moved_place dx dy i.place
  pub one_role : role w.plan one.leaf ≡ role s.plan i.leaf
  pub forth : (j : Standing s) (y b : Shape) → IsShapeOf connections (stated_parts s) j y b → IsIn b.rect p → StandsWith s w f dx dy j
  pub back : (k : Standing w) (y b : Shape) → IsShapeOf connections (stated_parts w) k y b → IsIn b.rect (record { x = p.x +ℤ dx; y = p.y +ℤ dy }) → StandsHere s w dx dy k
