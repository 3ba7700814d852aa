-- A bank from its parts.
use Rattle.std.proofs.Common.{◌≡◌, inl, inr, ℕ, List, pos, refl, ap, sym, subst, ◌∙◌, arith}
use Rattle.std.proofs.lemmas.Option.{same_Some}
use Rattle.std.proofs.lemmas.Result.{err_from_is_err_and}
use Rattle.tech_rules.specs.declared.tech.Wire.{Wire}
use Rattle.netlist.specs.declared.deck.Subckt.{Subckt}
use Rattle.cell_builder.specs.CellList.{CellList, with_drawn}
use Rattle.leaf_tables.specs.declared.part.Edge.{Edge}
use Rattle.sram_plan.specs.PlanNumbers.{organization}
use Rattle.sram_deck.specs.Deck.{bank_ports}
use Rattle.port_lists.specs.Cells.{cell_in}
use Rattle.macro_layout.specs.Cells.{data_cell}
use Rattle.floorplan.specs.LayoutOfKit.{layout_kit}
use Rattle.floorplan.specs.FloorplanNumbers.{floorplan_of}
use Rattle.part_edges.specs.Additions.{with_subckt}
use Rattle.part_edges.specs.PartPins.{AreInOrder, begins_at}
use Rattle.port_data.specs.DataPart.{data_part_subckt, data_pins}
use Rattle.bank_layout.specs.Near.{IsBankGiven}
use Rattle.bank_layout.specs.BankEdges.{AreBankEdges}
use Rattle.bank_layout.proofs.BuiltLaws.{narrow_of, stacked_of, raised_of, column_near, more_cells, one_more_cell}
use Rattle.bank_layout.proofs.BankEdgeLaws.{IsDrawnBank, data_near, bank_edges_are, pins_of}
use Rattle.bank_layout.proofs.ShownLaws.{shown}
use Rattle.bank_layout.proofs.part.build.Goals as goal

pub bank_wires-requires-clause-given : goal.bank_wires-requires-clause-given
bank_wires-requires-clause-given c = λ wire wired.
    let plan = organization c.args.plan.now in
    let kit = layout_kit c.args.kit.now in
    let here = c.wire_of.result.now in
    let same = same_Some here wire (sym c.wire_of.ensures.is ∙ wired) in
    let stands = c.floorplan-stands.ensures.stated kit c.in_ok-sides.ensures.of in
    let near = column_near c.routed_shapes_are_near.ensures c.args.kit.now.tech.layers c.args.kit.now plan here c.in_ok-routed.routed c.wire_of.ensures.wire c.wire_of.ensures.is c.in_ok-routed.ensures.column in
    subst (λ (w : Wire). IsBankGiven plan kit w (floorplan_of c.floorplan-stands.result) c.in_ok-routed.routed) same (record { stands = (0, stands); near = near })

pub bank_edges-requires-clause-lower : goal.bank_edges-requires-clause-lower
bank_edges-requires-clause-lower c =
    let plan = organization c.args.plan.now in
    let kit = c.args.kit.now in
    let here = c.wire_of.result.now in
    let wired = c.wire_of.ensures.is in
    let fl = floorplan_of c.floorplan-stands.result in
    let on = c.floorplan-stands.ensures.stated (layout_kit kit) c.in_ok-sides.ensures.of in
    let drawn = c.in_ok-data_edges.ensures.drawn here 0 fl wired on in
    data_near kit plan fl c.args.name.now (narrow_of kit plan c.requires.kit c.requires.plan.plan.columns) (stacked_of kit plan here 0 c.in_ok-routed.routed.tracks fl c.wire_of.ensures.wire.sizes on) c.as_slice-low.result.now
    (subst (λ (l : List Edge). AreInOrder (shown (begins_at (pos 0)) (data_pins kit plan fl c.args.name.now)) l) (sym c.as_slice-low.ensures) drawn.edges_are.bottom)

pub returns-clause-built : goal.returns-clause-built
returns-clause-built c =
    let plan = organization c.args.plan.now in
    let kit = c.args.kit.now in
    let n = c.args.name.now in
    let here = c.wire_of.result.now in
    let wired = c.wire_of.ensures.is in
    let fl = floorplan_of c.floorplan-stands.result in
    let on = c.floorplan-stands.ensures.stated (layout_kit kit) c.in_ok-sides.ensures.of in
    let routed = c.in_ok-routed.routed in
    let of = c.in_ok-routed.ensures.column in
    let each = of.each in
    let column = of.stated here fl wired (record { row_x = on.row_x; sense_y = on.sense_y }) in
    let below = (of.near here wired).is.count.below in
    let apart = c.in_ok-wires.ensures.apart here wired in
    let built = c.in_ok-data_edges.ensures.drawn here 0 fl wired on in
    let order = subst (λ (l : List Edge). AreInOrder (shown (begins_at (pos 0)) (data_pins kit plan fl n)) l) (sym c.as_slice-low.ensures) built.edges_are.bottom in
    let ports : c.as_slice-ports.result.now ≡ bank_ports plan = c.as_slice-ports.ensures ∙ ap (λ (s : Subckt). s.ports) c.in_ok-subckt.ensures in
    let edges = subst (λ (l : List (List ℕ)). AreBankEdges kit plan here fl n l c.as_slice-low.result.now c.in_ok-edges.edges) ports (c.in_ok-edges.ensures here wired) in
    let bank : IsDrawnBank kit plan here routed.track fl apart.taps edges.bottom.pin = record {
      raised = raised_of kit plan here 0 routed fl c.requires.kit wired c.wire_of.ensures.wire.sizes on below (omega (arith, each));
      narrow = narrow_of kit plan c.requires.kit c.requires.plan.plan.columns;
      stacked = stacked_of kit plan here 0 routed.tracks fl c.wire_of.ensures.wire.sizes on;
      of_taps = apart.are;
      is_sense = edges.bottom.is;
    } in
    let cells = built.cell ∙ ap (with_drawn (data_cell plan (layout_kit kit) fl n)) c.in_ok-build.ensures.cells in
    let cell = c.in_ok-cell.ensures plan (layout_kit kit) c.in_ok-sides.ensures.of in
    record {
      wire = here;
      wired = wired;
      wide = c.in_ok-refuse_narrow_slices.ensures.fits;
      routed = routed;
      column = of;
      floorplan = fl;
      stands = on;
      drawn = record {
        wires = c.in_ok-wires.wires.items;
        rises = c.in_ok-wires.ensures.rises;
        cells = c.in_ok-add_part.ensures.cells ∙ (λ i. with_drawn (cell i) (cells i));
        stated = c.in_ok-wires.ensures.stated here wired column;
        near = λ s there. c.in_ok-wires.ensures.near here wired s there;
        pins = pins_of kit plan here fl n apart.taps edges.bottom.pin;
        pins_are = record { taps = apart.taps; of_taps = apart.are; sense = edges.bottom.pin; is_sense = edges.bottom.is; are = refl };
        edges_are = bank_edges_are kit plan here routed.track fl n apart.taps edges.bottom.pin bank c.as_slice-low.result.now order c.in_ok-edges.edges edges;
        width = edges.width;
        height = edges.height;
      };
      apart = apart;
    }

pub returns-clause-deck : goal.returns-clause-deck
returns-clause-deck c =
    let plan = organization c.args.plan.now in
    let deck = c.in_ok-data_edges.ensures.deck ∙ ap (with_subckt (data_part_subckt plan (cell_in c.args.kit.now.tech.roles) c.args.name.now)) c.in_ok-build.ensures.deck in
    c.in_ok-add_part.ensures.deck ∙ (λ i. with_subckt (c.in_ok-subckt.ensures i) (deck i))

pub add_part-requires : goal.add_part-requires
add_part-requires c =
    let plan = organization c.args.plan.now in
    let kit = c.args.kit.now in
    let fl = floorplan_of c.floorplan-stands.result in
    let on = c.floorplan-stands.ensures.stated (layout_kit kit) c.in_ok-sides.ensures.of in
    let built = c.in_ok-data_edges.ensures.drawn c.wire_of.result.now 0 fl c.wire_of.ensures.is on in
    let few = c.requires.few in
    let three = more_cells _ _ _ _ _ (ap (λ (l : CellList). l.cells) c.in_ok-build.ensures.cells) (omega (arith, few)) in
    let four = one_more_cell _ _ _ (ap (λ (l : CellList). l.cells) built.cell) three in
    omega (arith, four)

pub returns-in_err-data_edges-clause-fault : goal.returns-in_err-data_edges-clause-fault
returns-in_err-data_edges-clause-fault c =
    let p = err_from_is_err_and c.from_residual-in_err-data_edges.result c.from_residual-in_err-data_edges.ensures.1 in
    rw (p.1, p.2) (inl (inl tt))

pub returns-in_err-wires-clause-fault : goal.returns-in_err-wires-clause-fault
returns-in_err-wires-clause-fault c =
    let kit = layout_kit c.args.kit.now in
    let here = c.wire_of.result.now in
    let wired = c.wire_of.ensures.is in
    let p = err_from_is_err_and c.from_residual-in_err-wires.result c.from_residual-in_err-wires.ensures.1 in
    rw (p.1, p.2) (inr (
      c.in_ok-refuse_narrow_slices.ensures.fits,
      (
        c.in_ok-routed.routed,
        c.in_ok-routed.ensures.column,
        (here, wired, record { tracks = 0; floorplan = floorplan_of c.floorplan-stands.result; stands = c.floorplan-stands.ensures.stated kit c.in_ok-sides.ensures.of; is = c.in_err-wires.ensures.fault here wired }),
      ),
    ))

pub returns-in_err-edges-clause-fault : goal.returns-in_err-edges-clause-fault
returns-in_err-edges-clause-fault c =
    let p = err_from_is_err_and c.from_residual-in_err-edges.result c.from_residual-in_err-edges.ensures.1 in
    rw (p.1, p.2) (inl (inl tt))

pub returns-in_err-add_part-clause-fault : goal.returns-in_err-add_part-clause-fault
returns-in_err-add_part-clause-fault c =
    let p = err_from_is_err_and c.from_residual-in_err-add_part.result c.from_residual-in_err-add_part.ensures.1 in
    rw (p.1, p.2) (inl (inl tt))
