-- Two instances that stand, moved, in a stated window are seen in it; so is a wire beside an instance.
use Rattle.std.proofs.Common.{◌≡◌, ℕ, ℤ, List}
use Rattle.or_geom.specs.declared.shape.Shape.{Shape}
use Rattle.netlist.specs.declared.rows.RowPin.{RowPin}
use Rattle.tech_rules.specs.declared.tech.Connect.{Connect}
use Rattle.tech_rules.specs.Touch.{Touch}
use Rattle.cell_hierarchy.specs.Plain.{FlatLists}
use Rattle.cell_hierarchy.specs.FlatSet.{IsMoved}
use Rattle.net_extractor.specs.PlainNetLabel.{PlainNetLabel}
use Rattle.sram_netlist.specs.Nets.{Net}
use Rattle.sram_netlist.specs.Instances.{LogicCell, LogicAt}
use Rattle.moved_nets.specs.Moved.{slice_net, slice_leaf, IsInSlices, Moves, logic_net, moved_cell, MovesAsMask}
use Rattle.good_nets.specs.Ports.{upright_place}
use Rattle.good_nets.specs.Parts.{IsShapeOf, SeenLayout, ArePairSeen, IsWireSeen}
use Rattle.kit_nets.specs.StatedParts.{Source, Standing, stated_parts}
use Rattle.kit_nets.specs.StatedWindow.{IsStatedWindow}
use Rattle.kit_nets.specs.StandIns.{AreAkin, StandsMoved}
use Rattle.kit_nets.proofs.StatedWindowLaws.{stated_window_is_right}
use Rattle.kit_nets.proofs.StandInLaws.{slice_stands_in, logic_stands_in}

module _ (connections : List Connect) (s w : Source) (akin : AreAkin s w) (flat : FlatLists) (labels : List PlainNetLabel) (rows : List RowPin) (is : IsStatedWindow connections w flat labels rows) where
  abbrev window : SeenLayout Net connections
  window = record { parts = stated_parts w; shapes = flat.shapes; plain = flat.labels; labels = labels; pins = rows; right = stated_window_is_right connections w flat labels rows is }

  -- Two instances of banks or data flip-flops, which stand k slices behind two of the window.
  pub slices_seen : (k : ℕ) (dx dy : ℤ) (i j : Standing s) (i' j' : Standing w) → IsInSlices i'.leaf → IsInSlices j'.leaf → i.leaf ≡ slice_leaf s.plan k i'.leaf → j.leaf ≡ slice_leaf s.plan k j'.leaf → StandsMoved s w dx dy i i' → StandsMoved s w dx dy j j' → (i'.leaf ≡ j'.leaf → ⊥)
      → ArePairSeen connections (stated_parts s) i j
  slices_seen k dx dy i j i' j' in_i in_j at_i at_j moved_i moved_j differ = record {
    window = window;
    f = slice_net s.plan k;
    dx = dx;
    dy = dy;
    one = i';
    other = j';
    differ = differ;
    one_is = slice_stands_in s w akin k dx dy i i' in_i at_i moved_i;
    other_is = slice_stands_in s w akin k dx dy j j' in_j at_j moved_j;
  }

  -- Two cells of the logic row.
  pub logic_seen : (v : Moves) (dx dy : ℤ) (i j : Standing s) (i' j' : Standing w) (c d : LogicCell) → i'.leaf ≡ LogicAt c → j'.leaf ≡ LogicAt d → MovesAsMask v c → MovesAsMask v d → i.leaf ≡ LogicAt (moved_cell v c) → j.leaf ≡ LogicAt (moved_cell v d)
      → StandsMoved s w dx dy i i' → StandsMoved s w dx dy j j' → (i'.leaf ≡ j'.leaf → ⊥) → ArePairSeen connections (stated_parts s) i j
  logic_seen v dx dy i j i' j' c d there_i there_j moves_i moves_j at_i at_j moved_i moved_j differ = record {
    window = window;
    f = logic_net v;
    dx = dx;
    dy = dy;
    one = i';
    other = j';
    differ = differ;
    one_is = logic_stands_in s w akin v dx dy i i' c there_i moves_i at_i moved_i;
    other_is = logic_stands_in s w akin v dx dy j j' d there_j moves_j at_j moved_j;
  }

  -- A wire beside an instance of a bank: what touches it touches, moved, one of the window that has the net k slices before.
  pub slice_wire_seen : (k : ℕ) (dx dy : ℤ) (i : Standing s) (i' : Standing w) (n net : Net) (t wire : Shape) → IsInSlices i'.leaf → i.leaf ≡ slice_leaf s.plan k i'.leaf → StandsMoved s w dx dy i i' → slice_net s.plan k net ≡ n → (stated_parts w).Wire net wire
      → ((inner shape shape' : Shape) → IsShapeOf connections (stated_parts s) i inner shape → IsMoved (upright_place dx dy) shape shape' → Touch connections shape t → Touch connections shape' wire) → IsWireSeen connections (stated_parts s) i n t
  slice_wire_seen k dx dy i i' n net t wire in_i at_i moved_i named is_wire keeps = record {
    window = window;
    f = slice_net s.plan k;
    dx = dx;
    dy = dy;
    one = i';
    one_is = slice_stands_in s w akin k dx dy i i' in_i at_i moved_i;
    net = net;
    named = named;
    wire = wire;
    is = is_wire;
    keeps = keeps;
  }

  -- A wire beside a cell of the logic row.
  pub logic_wire_seen : (v : Moves) (dx dy : ℤ) (i : Standing s) (i' : Standing w) (c : LogicCell) (n net : Net) (t wire : Shape) → i'.leaf ≡ LogicAt c → MovesAsMask v c → i.leaf ≡ LogicAt (moved_cell v c) → StandsMoved s w dx dy i i' → logic_net v net ≡ n → (stated_parts w).Wire net wire
      → ((inner shape shape' : Shape) → IsShapeOf connections (stated_parts s) i inner shape → IsMoved (upright_place dx dy) shape shape' → Touch connections shape t → Touch connections shape' wire) → IsWireSeen connections (stated_parts s) i n t
  logic_wire_seen v dx dy i i' c n net t wire there_i moves_i at_i moved_i named is_wire keeps = record {
    window = window;
    f = logic_net v;
    dx = dx;
    dy = dy;
    one = i';
    one_is = logic_stands_in s w akin v dx dy i i' c there_i moves_i at_i moved_i;
    net = net;
    named = named;
    wire = wire;
    is = is_wire;
    keeps = keeps;
  }
