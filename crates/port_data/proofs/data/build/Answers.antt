-- The data on the channel's tracks.
use Rattle.port_data.proofs.data.build.Goals as goal

pub returns-clause-built : goal.returns-clause-built
returns-clause-built c =
    let is = c.requires.kit in
    record {
      wire = is.wire;
      wired = is.wired;
      wide = c.in_ok-refuse_narrow_slices.ensures.fits;
      routed = c.in_ok-routed.routed;
      column = c.in_ok-routed.ensures.column;
      drawn = λ main floorplan on. c.in_ok-add_data.ensures.drawn is.wire main floorplan is.wired on;
    }
