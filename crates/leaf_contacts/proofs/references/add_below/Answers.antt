use Rattle.std.proofs.Common.{◌+◌}
use Rattle.leaf_contacts.specs.Stands.{IsLiveBefore, IsLiveFrom, IsLiveReference}
use Rattle.leaf_contacts.proofs.BelowLaws.{below_as, below_then}
use Rattle.leaf_contacts.proofs.ReferenceLaws.{live_all, live_more, live_none}
use Rattle.leaf_contacts.proofs.references.add_below.Goals as goal

pub loop-index-init : goal.loop-index-init
loop-index-init c chain name is end = live_none c.args.tree.now chain name c.args.out.now.items

pub loop-index-preserved : goal.loop-index-preserved
loop-index-preserved c chain name is end =
    let i = c.loop-index.index in
    below_then c.args.tree.now chain (IsLiveBefore c.args.tree.now name i) (IsLiveReference c.args.tree.now name i) (IsLiveBefore c.args.tree.now name (i + 1)) c.args.out.now.items c.loop-index.out.items _ (c.loop-index.invariant chain name is end)
    (c.in_ok-add_element.ensures chain name is end) (λ r live. live_more c.args.tree.now name i r live)

pub returns : goal.returns
returns c chain name is end =
    below_as c.args.tree.now chain (IsLiveBefore c.args.tree.now name c.loop-index.index) (IsLiveFrom c.args.tree.now name) c.args.out.now.items c.loop-index.out.items
    (λ r live. live_all c.args.tree.now c.args.outer.now.cell _ _ name c.loop-index.index r c.content_of.ensures end c.loop-index-test.false live) (c.loop-index.invariant chain name is end)
