use Rattle.std.proofs.Common.{◌≡◌, ◌++◌, drop}
use Rattle.rectilinear.specs.Changes.{changes_of}
use Rattle.rectilinear.proofs.changes.changes_of.Given as goal

abbrev pub invariant-loop-side : goal.invariant-loop-side
invariant-loop-side l = l.changes.items ++ changes_of (drop l.side-index l.sides) ≡ changes_of l.sides
