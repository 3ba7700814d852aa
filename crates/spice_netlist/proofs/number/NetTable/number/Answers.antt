-- A net that is there keeps its index, and another goes behind the others.
use Rattle.std.proofs.Common.{sym}
use Rattle.spice_netlist.proofs.NumberLaws.{found_number, new_number}
use Rattle.spice_netlist.proofs.number.NetTable.number.Goals as goal

pub returns-in-Some : goal.returns-in-Some
returns-in-Some c = found_number (λ key. key.items) c.args.net.now c.args.self.now.nets.keys c.in-Some.number (sym c.in-Some.ensures.index)

pub returns : goal.returns
returns c =
    new_number (λ key. key.items) c.args.net.now c.args.self.now.nets.keys c.insert_full.new.self.keys c.in_ok-from_slice.field-0 c.in_ok-number.number c.in_ok-from_slice.ensures.items (sym c.in_default.ensures.found)
    c.in_ok-number.ensures.keys c.in_ok-number.ensures.index
