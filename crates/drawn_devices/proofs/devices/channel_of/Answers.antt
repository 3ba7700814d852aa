use Rattle.std.proofs.Common.{◌≡◌, ap, sym, subst, refl, List}
use Rattle.std.specs.Prelude.{slice_get}
use Rattle.or_geom.specs.declared.shape.Point.{Point}
use Rattle.or_geom.specs.declared.shape.Rect.{Rect}
use Rattle.drawn_devices.specs.ChannelBoxes.{HaveCellsOf, low_cell}
use Rattle.drawn_devices.specs.Channels.{IsChannelCell, IsLeastCell}
use Rattle.drawn_devices.proofs.devices.channel_of.Goals as goal

pub returns : goal.returns
returns c =
    let b = c.requires.boxes in
    let begins = ap (λ (l : List Rect). slice_get l 0) b.is in
    let is : c.first_corner-least.result ≡ low_cell b.first = c.first_corner-least.ensures b.first begins in
    record {
      drawn = λ number are. record {
        device = c.args.device.now;
        there = c.requires.device;
        least = subst (IsLeastCell c.args.cell.now.shapes.now c.args.device.now) (sym is) b.least;
        terminals = c.in_ok-terminals_of.ensures number are;
      };
      device = refl;
      first = b.first;
      begins = begins;
      least = is;
    }

pub terminals_of-requires-clause-least : goal.terminals_of-requires-clause-least
terminals_of-requires-clause-least c =
    let b = c.requires.boxes in
    let is : c.first_corner-least.result ≡ low_cell b.first = c.first_corner-least.ensures b.first (ap (λ (l : List Rect). slice_get l 0) b.is) in
    subst (IsChannelCell c.args.cell.now.shapes.now c.args.device.now) (sym is) b.least.of

pub terminals_of-requires-clause-boxes : goal.terminals_of-requires-clause-boxes
terminals_of-requires-clause-boxes c =
    let b = c.requires.boxes in
    let is : c.first_corner-least.result ≡ low_cell b.first = c.first_corner-least.ensures b.first (ap (λ (l : List Rect). slice_get l 0) b.is) in
    subst (λ (p : Point). HaveCellsOf c.args.cell.now.shapes.now c.args.device.now p c.args.boxes.now) (sym is) b.cells
