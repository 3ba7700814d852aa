-- The rails and their taps.
use Rattle.std.proofs.Common.{◌≡◌, ℕ, ℤ, pos, List, ap, sym, subst, ◌∙◌, arith}
use Rattle.wire_drawing.specs.declared.route.Tap.{Tap}
use Rattle.rail_bus.specs.Rails.{AreRails, tap_ys}
use Rattle.wire_drawing.specs.Drawing.{pitch}
use Rattle.wire_drawing.specs.Spacing.{AreClose}
use Rattle.sram_netlist.specs.InstanceList.{tabulate}
use Rattle.sram_plan.specs.PlanNumbers.{organization}
use Rattle.macro_layout.specs.Floorplan.{rail_count, rail_x}
use Rattle.floorplan.specs.LayoutOfKit.{layout_kit}
use Rattle.floorplan.specs.FloorplanNumbers.{floorplan_of}
use Rattle.bank_layout.specs.BankTaps.{AreBankTaps}
use Rattle.bank_layout.proofs.SameTapLaws.{same_taps}
use Rattle.bank_layout.proofs.GivenLaws.{AreGiven}
use Rattle.bank_layout.proofs.FinishLaws.{fit_of}
use Rattle.bank_layout.proofs.wires.rail_wires.Goals as goal

pub rails-requires-clause-near_xs : goal.rails-requires-clause-near_xs
rails-requires-clause-near_xs c =
    let g : AreGiven c.args.kit.now c.args.plan.now c.args.sides.now c.args.floorplan.now c.args.wire.now c.args.routed.now = record { is = c.requires.kit; plan_is = c.requires.plan; sides_are = c.requires.sides; sides_of = c.requires.sides_of; near = c.requires.near; wired = c.requires.wire; given = c.requires.given } in
    let lines = c.line_count.ensures.value in
    let choices = c.choice_count.ensures.value in
    (fit_of _ _ _ _ _ _ g c.deref.result.now c.deref-2.result.now c.in_ok-taps.taps.items c.as_slice.result.now (c.deref.ensures.value ∙ (c.in_ok-xs.ensures ∙ ap (λ (n : ℕ). tabulate n (rail_x c.args.wire.now)) (omega (arith, lines, choices)))) c.deref-2.ensures.value c.as_slice.ensures c.in_ok-taps.ensures).near_xs

pub rails-requires-clause-near_taps : goal.rails-requires-clause-near_taps
rails-requires-clause-near_taps c =
    let g : AreGiven c.args.kit.now c.args.plan.now c.args.sides.now c.args.floorplan.now c.args.wire.now c.args.routed.now = record { is = c.requires.kit; plan_is = c.requires.plan; sides_are = c.requires.sides; sides_of = c.requires.sides_of; near = c.requires.near; wired = c.requires.wire; given = c.requires.given } in
    let lines = c.line_count.ensures.value in
    let choices = c.choice_count.ensures.value in
    (fit_of _ _ _ _ _ _ g c.deref.result.now c.deref-2.result.now c.in_ok-taps.taps.items c.as_slice.result.now (c.deref.ensures.value ∙ (c.in_ok-xs.ensures ∙ ap (λ (n : ℕ). tabulate n (rail_x c.args.wire.now)) (omega (arith, lines, choices)))) c.deref-2.ensures.value c.as_slice.ensures c.in_ok-taps.ensures).near_taps

pub rails-requires-clause-of_rails : goal.rails-requires-clause-of_rails
rails-requires-clause-of_rails c =
    let g : AreGiven c.args.kit.now c.args.plan.now c.args.sides.now c.args.floorplan.now c.args.wire.now c.args.routed.now = record { is = c.requires.kit; plan_is = c.requires.plan; sides_are = c.requires.sides; sides_of = c.requires.sides_of; near = c.requires.near; wired = c.requires.wire; given = c.requires.given } in
    let lines = c.line_count.ensures.value in
    let choices = c.choice_count.ensures.value in
    (fit_of _ _ _ _ _ _ g c.deref.result.now c.deref-2.result.now c.in_ok-taps.taps.items c.as_slice.result.now (c.deref.ensures.value ∙ (c.in_ok-xs.ensures ∙ ap (λ (n : ℕ). tabulate n (rail_x c.args.wire.now)) (omega (arith, lines, choices)))) c.deref-2.ensures.value c.as_slice.ensures c.in_ok-taps.ensures).rails_are

pub rails-requires-clause-ends : goal.rails-requires-clause-ends
rails-requires-clause-ends c =
    let g : AreGiven c.args.kit.now c.args.plan.now c.args.sides.now c.args.floorplan.now c.args.wire.now c.args.routed.now = record { is = c.requires.kit; plan_is = c.requires.plan; sides_are = c.requires.sides; sides_of = c.requires.sides_of; near = c.requires.near; wired = c.requires.wire; given = c.requires.given } in
    let lines = c.line_count.ensures.value in
    let choices = c.choice_count.ensures.value in
    (fit_of _ _ _ _ _ _ g c.deref.result.now c.deref-2.result.now c.in_ok-taps.taps.items c.as_slice.result.now (c.deref.ensures.value ∙ (c.in_ok-xs.ensures ∙ ap (λ (n : ℕ). tabulate n (rail_x c.args.wire.now)) (omega (arith, lines, choices)))) c.deref-2.ensures.value c.as_slice.ensures c.in_ok-taps.ensures).ends

pub rails-requires-clause-tapped : goal.rails-requires-clause-tapped
rails-requires-clause-tapped c =
    let g : AreGiven c.args.kit.now c.args.plan.now c.args.sides.now c.args.floorplan.now c.args.wire.now c.args.routed.now = record { is = c.requires.kit; plan_is = c.requires.plan; sides_are = c.requires.sides; sides_of = c.requires.sides_of; near = c.requires.near; wired = c.requires.wire; given = c.requires.given } in
    let lines = c.line_count.ensures.value in
    let choices = c.choice_count.ensures.value in
    (fit_of _ _ _ _ _ _ g c.deref.result.now c.deref-2.result.now c.in_ok-taps.taps.items c.as_slice.result.now (c.deref.ensures.value ∙ (c.in_ok-xs.ensures ∙ ap (λ (n : ℕ). tabulate n (rail_x c.args.wire.now)) (omega (arith, lines, choices)))) c.deref-2.ensures.value c.as_slice.ensures c.in_ok-taps.ensures).tapped

pub returns-clause-drawn : goal.returns-clause-drawn
returns-clause-drawn c =
    let lines = c.line_count.ensures.value in
    let choices = c.choice_count.ensures.value in
    let xs : c.deref.result.now ≡ tabulate (rail_count (organization c.args.plan.now)) (rail_x c.args.wire.now) = c.deref.ensures.value ∙ (c.in_ok-xs.ensures ∙ ap (λ (n : ℕ). tabulate n (rail_x c.args.wire.now)) (omega (arith, lines, choices))) in
    record {
      taps = c.in_ok-taps.taps.items;
      are = subst (λ (t : List ℕ). AreBankTaps c.args.kit.now.leaves (organization c.args.plan.now) (layout_kit c.args.kit.now) c.args.wire.now (floorplan_of c.args.floorplan.now) t c.in_ok-taps.taps.items) c.as_slice.ensures c.in_ok-taps.ensures;
      drawn = subst (λ (zs : List ℤ). AreRails (pos 0) zs c.in_ok-taps.taps.items c.args.wire.now c.in_ok-rails.field-0.items) xs (subst (λ (ts : List Tap). AreRails (pos 0) c.deref.result.now ts c.args.wire.now c.in_ok-rails.field-0.items) c.deref-2.ensures.value c.in_ok-rails.ensures.drawn);
    }

pub returns-clause-apart : goal.returns-clause-apart
returns-clause-apart c =
    let are = subst (λ (t : List ℕ). AreBankTaps c.args.kit.now.leaves (organization c.args.plan.now) (layout_kit c.args.kit.now) c.args.wire.now (floorplan_of c.args.floorplan.now) t c.in_ok-taps.taps.items) c.as_slice.ensures c.in_ok-taps.ensures in
    record {
      taps = c.in_ok-taps.taps.items;
      are = are;
      only = λ other is. same_taps _ _ _ _ _ _ other c.in_ok-taps.taps.items is are;
      apart = λ close. c.in_ok-rails.ensures.apart (subst (λ (ts : List Tap). AreClose (pitch c.args.wire.now) (tap_ys ts)) (sym c.deref-2.ensures.value) close);
    }
