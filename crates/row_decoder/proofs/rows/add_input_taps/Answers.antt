-- The tap of one input more.
use Rattle.std.proofs.Common.{ℕ, List, ◌∷◌, [], ◌++◌, ◌<◌, length, refl, ap, ◌∙◌, subst, arith}
use Rattle.std.specs.List.{AllByRecursion}
use Rattle.std.proofs.lemmas.Option.{slice_get_read}
use Rattle.wire_drawing.specs.declared.route.Tap.{Tap}
use Rattle.sram_netlist.specs.Organization.{IsGroupSize}
use Rattle.port_lists.proofs.PortLaws.{few_bits}
use Rattle.row_decoder.proofs.TapLaws.{few_in_group, input_more}
use Rattle.row_decoder.proofs.rows.add_input_taps.Goals as goal

pub lines_of-lines-requires : goal.lines_of-lines-requires
lines_of-lines-requires c =
    let sizes = subst (λ (l : List ℕ). AllByRecursion IsGroupSize l) c.in-Some.ensures.cases.0 c.loop-bits.invariant.sizes in
    let few = few_bits c.in-Some.bits.now sizes.0 in
    omega (arith, few)

pub pin_tap-requires-clause-pin : goal.pin_tap-requires-clause-pin
pin_tap-requires-clause-pin c =
    let size = c.in-Some.ensures.cases.1 in
    let inputs = c.requires.inputs in
    let input = c.loop-bits.invariant.input in
    let within : c.loop-bits.input < length c.args.pins.now = omega (arith, size, inputs, input) in
    c.requires.pins c.loop-bits.input c.index-pins-input.result (slice_get_read c.args.pins.now (length c.args.pins.now) c.loop-bits.input c.index-pins-input.result refl within c.index-pins-input.is)

pub loop-bits-preserved : goal.loop-bits-preserved
loop-bits-preserved c =
    let front = c.in-Some.ensures.cases.0 in
    let size = c.in-Some.ensures.cases.1 in
    let sizes = subst (λ (l : List ℕ). AllByRecursion IsGroupSize l) front c.loop-bits.invariant.sizes in
    let lines = few_in_group c.in-Some.bits.now sizes.0 in
    let count = c.lines_of-lines.ensures.value in
    let inputs = c.requires.inputs in
    let input = c.loop-bits.invariant.input in
    let few = c.loop-bits.invariant.few in
    let within : c.loop-bits.input < length c.args.pins.now = omega (arith, size, inputs, input) in
    record {
      taps = input_more c.args.place c.loop-bits.taps.items c.push.new.self.items _ c.args.pins.now c.index-pins-input.result c.loop-bits.input c.loop-bits.rest.now c.in-Some.others.now c.in-Some.bits.now c.loop-bits.rail c.lines_of-lines.result
          c.loop-bits.left within c.index-pins-input.is front count (c.in_ok-push.ensures.items ∙ ap (λ (t : Tap). c.loop-bits.taps.items ++ t ∷ []) c.pin_tap.ensures) c.loop-bits.invariant.taps;
      few = omega (arith, lines, count, few, size);
      input = omega (arith, size, input);
      sizes = sizes.1;
    }
