use Rattle.std.proofs.Common.{drop}
use Rattle.net_extractor.specs.Contacts.{IsInContactAt}
use Rattle.net_extractor.proofs.JoinLaws.{IsJoining}
use Rattle.net_extractor.proofs.contacts.join_places.Given as goal

abbrev pub invariant-loop-place : goal.invariant-loop-place
invariant-loop-place l = IsJoining (IsInContactAt l.contact l.shapes l.run) l.places (drop l.place-index l.places) l.fn.above l.above
