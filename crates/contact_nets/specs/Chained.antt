-- The chains of references that lead to the leaf instances and to the wires of a stated layout.
use Rattle.std.specs.Prelude.{◌≡◌, ℕ, List, ◌++◌}
use Rattle.or_geom.specs.declared.shape.Point.{Point}
use Rattle.or_geom.specs.declared.shape.Shape.{Shape}
use Rattle.or_geom.specs.Place.{placed}
use Rattle.gds_library.specs.declared.library.Structure.{Structure}
use Rattle.tech_rules.specs.declared.tech.Connect.{Connect}
use Rattle.tech_rules.specs.declared.tech.Layer.{Layer}
use Rattle.sram_netlist.specs.Nets.{Net}
use Rattle.sram_netlist.specs.Netlist.{role}
use Rattle.good_nets.specs.Parts.{IsShapeOf}
use Rattle.leaf_contacts.specs.Chains.{Reference, StandsAtEnd, IsInstance, point_along}
use Rattle.leaf_contacts.specs.Stands.{MissesAll}
use Rattle.kit_nets.specs.StatedParts.{Source, Standing, stated_parts}

-- the shape stands at the end of a chain that goes on from this one
pub record StandsBelow (s : Source) (structs : List Structure) (top : List ℕ) (chain : List Reference) (shape : Shape) : Type 0 where
  pub rest : List Reference
  pub stands : StandsAtEnd s.layers structs top (chain ++ rest) shape

-- the shape stands at the end of a chain that leads through none of the cells
pub record StandsApart (layers : List Layer) (structs : List Structure) (top : List ℕ) (cells : List (List ℕ)) (shape : Shape) : Type 0 where
  pub chain : List Reference
  pub stands : StandsAtEnd layers structs top chain shape
  pub misses : MissesAll cells top chain

-- In the structures, below the top, a chain leads to each leaf instance, and tells it; its shapes stand below it. Wires stand at chains that lead through no leaf
-- cell.
pub record HasChains (connections : List Connect) (s : Source) (structs : List Structure) (top : List ℕ) (cells : List (List ℕ)) : Type 0 where
  pub chain : Standing s → List Reference
  pub instance : (i : Standing s) → IsInstance cells structs top (chain i) (s.kit.cell (role s.plan i.leaf))
  pub point : (i : Standing s) (p : Point) → point_along (chain i) p ≡ placed i.place p
  pub tells : (i j : Standing s) → chain i ≡ chain j → i.leaf ≡ j.leaf
  pub inside : (i : Standing s) (inner shape : Shape) → IsShapeOf connections (stated_parts s) i inner shape → StandsBelow s structs top (chain i) shape
  pub wires : (n : Net) (shape : Shape) → (stated_parts s).Wire n shape → StandsApart s.layers structs top cells shape
