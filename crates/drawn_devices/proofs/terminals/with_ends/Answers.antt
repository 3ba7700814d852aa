use Rattle.std.proofs.Common.{ℕ, List, refl, subst}
use Rattle.drawn_devices.specs.declared.drawn.Side.{Side}
use Rattle.drawn_devices.specs.NetsOver.{IsNetOver}
use Rattle.drawn_devices.specs.Sides.{IsStrip, first_side, second_side}
use Rattle.drawn_devices.proofs.TerminalLaws.{open_over}
use Rattle.drawn_devices.proofs.terminals.with_ends.Goals as goal

pub returns-in_default : goal.returns-in_default
returns-in_default c one two =
    open_over c.args.cell.now c.requires.cut c.args.layer c.args.area c.strip-before.result (first_side c.args.flow) c.requires.active
    (subst (λ (s : Side). IsStrip s c.args.area c.strip-before.result) c.first_side.ensures c.strip-before.ensures) one c.in_default.ensures

pub returns-in_default-net_over : goal.returns-in_default-net_over
returns-in_default-net_over c one two =
    open_over c.args.cell.now c.requires.cut c.args.layer c.args.area c.strip-behind.result (second_side c.args.flow) c.requires.active
    (subst (λ (s : Side). IsStrip s c.args.area c.strip-behind.result) c.second_side.ensures c.strip-behind.ensures) two c.in_default-net_over.ensures

pub returns : goal.returns
returns c = record {
  gate_is = refl;
  first = record {
    strip = c.strip-before.result;
    is = subst (λ (s : Side). IsStrip s c.args.area c.strip-before.result) c.first_side.ensures c.strip-before.ensures;
    over = subst (λ (ns : List ℕ). IsNetOver c.args.cell.now.bins ns c.args.layer c.strip-before.result c.in-Some.first) c.as_slice-nets.ensures c.in-Some.ensures;
  };
  second = record {
    strip = c.strip-behind.result;
    is = subst (λ (s : Side). IsStrip s c.args.area c.strip-behind.result) c.second_side.ensures c.strip-behind.ensures;
    over = subst (λ (ns : List ℕ). IsNetOver c.args.cell.now.bins ns c.args.layer c.strip-behind.result c.in-Some-net_over.second) c.as_slice-nets.ensures c.in-Some-net_over.ensures;
  };
}
