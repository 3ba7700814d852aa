use Rattle.leaf_contacts.proofs.PlaceLaws.{found_shape, not_found}
use Rattle.leaf_contacts.proofs.places.place_of.Goals as goal

pub unreachable-requires : goal.unreachable-requires
unreachable-requires c = not_found c.args.shapes.now c.args.shape c.in-Err.field-0 c.requires.rises c.in-Err.ensures.position c.requires.listed

pub returns : goal.returns
returns c = found_shape c.args.shapes.now c.args.shape c.in-Ok.place c.requires.rises c.in-Ok.ensures.bound c.in-Ok.ensures.ok c.requires.listed
