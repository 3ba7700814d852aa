-- The row of the next port goes behind the others.
use Rattle.std.proofs.Common.{[], List, ℕ, ap, refl, ◌∙◌, get_or, length}
use Rattle.std.proofs.lemmas.List.{get_or_default}
use Rattle.spice_netlist.specs.declared.level.LevelNet.{LevelNet}
use Rattle.spice_netlist.specs.Walk.{local}
use Rattle.spice_netlist.proofs.LevelLaws.{near_at}
use Rattle.spice_netlist.proofs.LeafLaws.{leaf_next}
use Rattle.spice_netlist.proofs.RowLaws.{same_pin}
use Rattle.spice_netlist.proofs.pins.add_leaf.Goals as goal

-- a net of no name, for indices past the end
abbrev blank : LevelNet
blank = record { prefix = 0; name = record { ref_ptr = (0, 0); now = [] } }

pub net_bytes-requires : goal.net_bytes-requires
net_bytes-requires c =
    near_at (length c.args.net_path.now) c.args.nets.now c.loop-port.port (get_or c.args.nets.now c.loop-port.port blank) c.requires.near c.loop-port-test.true
    (get_or_default c.args.nets.now c.loop-port.port blank _ c.loop-port-test.true)

pub loop-port-preserved : goal.loop-port-preserved
loop-port-preserved c =
    let pin = c.port_of-pin.ensures ∙ ap (λ (ports : List (List ℕ)). get_or ports c.loop-port.port []) c.as_slice.ensures in
    leaf_next c.args.leaf.now c.args.path.now c.args.net_path.now c.args.nets.now c.args.rows.now c.loop-port.rows c.add.new.self c.loop-port.port (get_or c.args.nets.now c.loop-port.port blank) _ c.loop-port-test.true
    (get_or_default c.args.nets.now c.loop-port.port blank _ c.loop-port-test.true) (same_pin _ _ refl c.as_bytes.ensures pin (ap local (c.as_slice-in-loop-port.ensures ∙ c.in_ok-text.ensures))) c.in_ok-add.ensures c.loop-port.invariant
