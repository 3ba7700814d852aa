use Rattle.std.proofs.Common.{◌∙◌, sym, refl}
use Rattle.std.specs.Str.{bytes_eq}
use Rattle.netlist.specs.declared.deck.Subckt.{Subckt}
use Rattle.or_geom.proofs.NameLaws.{other_name}
use Rattle.device_lvs.proofs.FindLaws.{find_here, find_past, find_none, texts_same}
use Rattle.device_lvs.proofs.role.subckt_named.Goals as goal

pub returns-then-is : goal.returns-then-is
returns-then-is c =
    let item = c.subckt-item.result in
    sym (find_here (λ (subckt : Subckt). bytes_eq subckt.name c.args.name.now) c.args.subckts.now c.loop-subckt.subckt-index item c.loop-subckt-test.true c.subckt-item.is
    (texts_same item.name c.args.name.now (c.if-is.ensures.0 refl ∙ c.as_bytes.ensures)) c.loop-subckt.invariant)

pub loop-subckt-preserved : goal.loop-subckt-preserved
loop-subckt-preserved c =
    let item = c.subckt-item.result in
    find_past (λ (subckt : Subckt). bytes_eq subckt.name c.args.name.now) c.args.subckts.now c.loop-subckt.subckt-index item c.loop-subckt-test.true c.subckt-item.is
    (other_name item.name c.args.name.now (λ e. let yes = c.if-is.ensures.1 (e ∙ sym c.as_bytes.ensures) in absurd cc)) c.loop-subckt.invariant

pub returns : goal.returns
returns c = sym (find_none (λ (subckt : Subckt). bytes_eq subckt.name c.args.name.now) c.args.subckts.now c.loop-subckt.subckt-index c.loop-subckt-test.false c.loop-subckt.invariant)
