use Rattle.drawn_devices.proofs.ConnectionLaws.{given_are, grown_given}
use Rattle.drawn_devices.proofs.connections.cut_connections.Goals as goal

pub returns : goal.returns
returns c =
    given_are c.args.tech.now _
    (grown_given c.args.tech.now _ _ _ c.new-out.ensures.items (rw (c.as_slice-devices.ensures, c.as_slice.ensures) at c.in_ok-add_connections.ensures) (rw c.as_slice-devices.ensures at c.in_ok-add_devices.ensures))
