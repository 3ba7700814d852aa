-- Only an instance of a leaf has rows of its own.
use Rattle.std.proofs.Common.{◌++◌, List, sym, subst, ◌∙◌, arith}
use Rattle.std.specs.Prelude.{OnOk}
use Rattle.spice_netlist.specs.Pins.{NamedPin}
use Rattle.spice_netlist.specs.Rows.{AddsRows}
use Rattle.spice_netlist.specs.Levels.{leaf_rows}
use Rattle.spice_netlist.proofs.LeafLaws.{rows_leaf, pins_leaf}
use Rattle.spice_netlist.proofs.pins.add_pins.Goals as goal

pub add_leaf-requires-clause-few : goal.add_leaf-requires-clause-few
add_leaf-requires-clause-few c =
    let long = pins_leaf c.args.subckts.now c.subckt_at-subckt.result.now c.args.index (c.args.instance_path.now.path.items ++ c.args.instance.now.name) c.args.instance_path.now.net.items c.args.nets.now (sym c.subckt_at-subckt.ensures.leaf ∙ c.if-not-subckt.false) in
    omega (arith, long, c.requires.few)

pub returns : goal.returns
returns c =
    let path = c.as_slice.ensures ∙ c.in_ok-path.ensures ∙ (λ i. c.deref.ensures.value i ++ c.as_bytes.ensures i) in
    subst (λ (rows : List NamedPin). OnOk c.add_leaf.result (AddsRows c.args.rows.now c.add_leaf.new.rows rows))
    ((λ i. leaf_rows c.subckt_at-subckt.result.now (path i) (c.deref-2.ensures.value i) 0 c.args.nets.now)
    ∙ rows_leaf c.args.subckts.now c.subckt_at-subckt.result.now c.args.index (c.args.instance_path.now.path.items ++ c.args.instance.now.name) c.args.instance_path.now.net.items c.args.nets.now c.subckt_at-subckt.ensures.name c.subckt_at-subckt.ensures.ports (sym c.subckt_at-subckt.ensures.leaf ∙ c.if-not-subckt.false))
    c.add_leaf.ensures
