-- The clock's rail, or nothing.
use Rattle.std.proofs.Common.{◌≡◌, ℕ, ◌+◌, pos, ◌+ℤ◌, [], ◌∷◌, ◌++◌, Bool, false, cond, w64, to_z, of_z, ap, sym, subst, ◌∙◌, arith}
use Rattle.std.specs.Ordering.{int_eq}
use Rattle.std.proofs.lemmas.Int.{ints}
use Rattle.std.proofs.lemmas.List.{append-nil}
use Rattle.std.proofs.lemmas.Option.{same_Some}
use Rattle.tech_rules.specs.declared.tech.Wire.{Wire}
use Rattle.leaf_tables.specs.declared.part.Edge.{Edge}
use Rattle.sram_plan.specs.PlanNumbers.{organization}
use Rattle.macro_layout.specs.Floorplan.{line_count}
use Rattle.part_edges.proofs.PinLaws.{equal_numbers, other_numbers}
use Rattle.bank_layout.specs.BankEdges.{rail_edge, AddsClockEdge}
use Rattle.bank_layout.proofs.edges.add_clock_edge.Goals as goal

pub returns-in_ok-push : goal.returns-in_ok-push
returns-in_ok-push c = λ wire wired.
    let here = c.wire_of-wire.result.now in
    let pin = c.pin_of-pin.result.now in
    let same = same_Some here wire (sym c.wire_of-wire.ensures.is ∙ wired) in
    let inside = c.pin_of-pin.ensures.inside in
    let low = inside.low in
    let high = inside.high in
    let tall = pin.rect.tall in
    let width = c.wire_of-wire.ensures.wire.sizes.width in
    let read = c.from.ensures in
    let few = c.requires.height in
    let met = ap (to_z w64) c.if-pin-wire.true in
    let sum : pin.rect.y1 +ℤ here.width ≡ pos c.args.height = omega (arith, ints, met, low, high, tall, width.from, width.to, read, few) in
    let count : c.line_count.result ≡ line_count (organization c.args.plan.now).groups = c.line_count.ensures.value in
    let edge = c.in_ok-rail_edge.ensures ∙ ap (λ (k : ℕ). rail_edge here c.args.ports.now (k + 2)) count in
    subst (λ (w : Wire). AddsClockEdge c.args.kit.now.leaves w c.args.ports.now (line_count (organization c.args.plan.now).groups + 2) (pos c.args.height) c.args.edges.now.items c.push.new.self.items) same (record {
      pin = pin;
      is = c.pin_of-pin.ensures.is;
      adds = c.in_ok-push.ensures.items ∙ (ap (λ (e : Edge). c.args.edges.now.items ++ e ∷ []) edge
          ∙ ap (λ (t : Bool). c.args.edges.now.items ++ cond t (rail_edge here c.args.ports.now (line_count (organization c.args.plan.now).groups + 2) ∷ []) []) (sym (equal_numbers (pin.rect.y1 +ℤ here.width) (pos c.args.height) sum)));
    })

pub returns-else-pin-wire : goal.returns-else-pin-wire
returns-else-pin-wire c = λ wire wired.
    let here = c.wire_of-wire.result.now in
    let pin = c.pin_of-pin.result.now in
    let same = same_Some here wire (sym c.wire_of-wire.ensures.is ∙ wired) in
    let inside = c.pin_of-pin.ensures.inside in
    let low = inside.low in
    let high = inside.high in
    let tall = pin.rect.tall in
    let width = c.wire_of-wire.ensures.wire.sizes.width in
    let read = c.from.ensures in
    let apart : int_eq (pin.rect.y1 +ℤ here.width) (pos c.args.height) ≡ false = other_numbers (pin.rect.y1 +ℤ here.width) (pos c.args.height) (λ e.
    c.if-pin-wire.false (let sum : to_z w64 (of_z w64 pin.rect.y1) +ℤ to_z w64 (of_z w64 here.width) ≡ c.from.result = omega (arith, ints, e, low, high, tall, width.from, width.to, read) in ap (of_z w64) sum)) in
    subst (λ (w : Wire). AddsClockEdge c.args.kit.now.leaves w c.args.ports.now (line_count (organization c.args.plan.now).groups + 2) (pos c.args.height) c.args.edges.now.items c.args.edges.now.items) same (record {
      pin = pin;
      is = c.pin_of-pin.ensures.is;
      adds = sym (append-nil c.args.edges.now.items)
          ∙ ap (λ (t : Bool). c.args.edges.now.items ++ cond t (rail_edge here c.args.ports.now (line_count (organization c.args.plan.now).groups + 2) ∷ []) []) (sym apart);
    })
