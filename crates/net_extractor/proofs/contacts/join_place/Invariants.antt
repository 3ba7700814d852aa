use Rattle.std.proofs.Common.{drop}
use Rattle.net_extractor.specs.Contacts.{IsInContactTo}
use Rattle.net_extractor.proofs.JoinLaws.{IsJoining}
use Rattle.net_extractor.proofs.contacts.join_place.Given as goal

abbrev pub invariant-loop-own : goal.invariant-loop-own
invariant-loop-own l = IsJoining (IsInContactTo l.contact l.place l.rect) l.run (drop l.own-index l.run) l.fn.above l.above
