-- Instances of a memory that stand, moved together, in a small memory, which shows their nets by one function.
use Rattle.std.specs.Prelude.{◌≡◌, ℤ}
use Rattle.sram_netlist.specs.Nets.{Net}
use Rattle.sram_netlist.specs.Netlist.{role}
use Rattle.good_places.specs.Beside.{moved_place}
use Rattle.good_nets.specs.Parts.{StandsIn}
use Rattle.kit_nets.specs.StatedParts.{Source, Standing, stated_parts}

-- one instance
pub record HasCounterpart (s w : Source) (i : Standing s) : Type 0 where
  pub f : Net → Net
  pub dx : ℤ
  pub dy : ℤ
  pub one : Standing w
  pub one_is : StandsIn (stated_parts s) (stated_parts w) f dx dy i one
  pub one_at : one.place ≡ moved_place dx dy i.place
  pub one_role : role w.plan one.leaf ≡ role s.plan i.leaf

-- two
pub record ArePairThere (s w : Source) (i j : Standing s) : Type 0 where
  pub f : Net → Net
  pub dx : ℤ
  pub dy : ℤ
  pub one : Standing w
  pub other : Standing w
  pub differ : one.leaf ≡ other.leaf → ⊥
  pub one_is : StandsIn (stated_parts s) (stated_parts w) f dx dy i one
  pub other_is : StandsIn (stated_parts s) (stated_parts w) f dx dy j other
  pub one_at : one.place ≡ moved_place dx dy i.place
  pub one_role : role w.plan one.leaf ≡ role s.plan i.leaf
  pub other_at : other.place ≡ moved_place dx dy j.place
