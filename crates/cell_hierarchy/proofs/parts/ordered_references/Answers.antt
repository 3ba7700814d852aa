use Rattle.std.proofs.Common.{List, ℕ, subst}
use Rattle.std.specs.List.Sorted.{IsPermutation}
use Rattle.cell_hierarchy.proofs.PartLaws.{live_moved}
use Rattle.cell_hierarchy.proofs.parts.ordered_references.Goals as goal

pub by_name-requires : goal.by_name-requires
by_name-requires c = rw c.deref.ensures.value c.requires.inside

pub returns : goal.returns
returns c =
    let moved = subst (λ (live : List ℕ). IsPermutation live c.in_ok-ordered.ordered.items) c.deref.ensures.value c.in_ok-ordered.ensures in
    live_moved c.args.elements.now c.args._targets.now c.args._parts.now c.args.live.items _ moved c.requires
