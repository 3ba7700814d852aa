-- The table of the next subcircuit goes behind the others.
use Rattle.std.proofs.Common.{◌≡◌, [], ◌∷◌, ◌++◌, ℕ, List, Option, length, take, sym, ap, subst, ◌∙◌}
use Rattle.std.proofs.lemmas.List.{take_all, length-take-le}
use Rattle.spice_netlist.specs.declared.resolved.ResolvedSubckt.{ResolvedSubckt}
use Rattle.spice_netlist.specs.declared.name_index.NameIndex.{NameIndex}
use Rattle.spice_netlist.specs.Sizes.{pins_at}
use Rattle.spice_netlist.specs.Descent.{IsTableBy, AreTablesBy}
use Rattle.spice_netlist.proofs.ListLaws.{front_at}
use Rattle.spice_netlist.proofs.PortTableLaws.{tables_more}
use Rattle.spice_netlist.proofs.walk.port_tables.Goals as goal

pub loop-index-preserved : goal.loop-index-preserved
loop-index-preserved c =
    let subckts = take c.loop-index.index c.args.subckts.now in
    let subckt = c.index-subckts-index.result in
    let here : length subckts ≡ c.loop-index.index = length-take-le c.loop-index.index c.args.subckts.now c.loop-index.auto.index-end in
    let table : IsTableBy (pins_at c.args.sizes.now (length subckts)) subckt.ports c.in_ok-port_table.field-0 =
    subst (λ (n : ℕ). IsTableBy n subckt.ports c.in_ok-port_table.field-0) (c.pin_count.ensures ∙ ap (pins_at c.args.sizes.now) (sym here)) c.in_ok-port_table.ensures in
    subst (λ (bs : List ResolvedSubckt). AreTablesBy bs c.args.sizes.now c.push.new.self.items) (sym (front_at c.args.subckts.now c.loop-index.index subckt c.loop-index-test.true c.index-subckts-index.is))
    (subst (AreTablesBy (subckts ++ subckt ∷ []) c.args.sizes.now) (sym {A = List (Option NameIndex)} c.in_ok-push.ensures.items) (tables_more subckts subckt c.args.sizes.now c.loop-index.tables.items c.in_ok-port_table.field-0 c.loop-index.invariant table))

pub returns : goal.returns
returns c = subst (λ (bs : List ResolvedSubckt). AreTablesBy bs c.args.sizes.now c.loop-index.tables.items) (take_all c.loop-index.index c.args.subckts.now c.loop-index-test.false) c.loop-index.invariant
