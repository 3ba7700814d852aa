use Rattle.kit_check.proofs.FreeLaws.{adds_no_number, adds_number}
use Rattle.kit_check.proofs.free_name.add_number.Goals as goal

pub returns-in_default : goal.returns-in_default
returns-in_default c = adds_no_number c.as_bytes.result.now c.args.name.now c.args.out.now.items c.as_bytes.ensures c.in_default.ensures

pub returns : goal.returns
returns c = adds_number c.as_bytes.result.now c.args.name.now c.args.out.now.items c.push.new.self.items c.in-Some.number c.as_bytes.ensures c.in-Some.ensures c.in_ok-push.ensures.items
