use Rattle.std.proofs.Common.{◌≡◌, [], refl}
use Rattle.or_geom.proofs.GatheringLaws.{among_found, among_goes_on}
use Rattle.leaf_nets.specs.declared.leaves.LooseLeaf.{LooseLeaf}
use Rattle.leaf_contacts.proofs.contact.has_loose.Goals as goal

pub returns-then-has_shapes : goal.returns-then-has_shapes
returns-then-has_shapes c = (
  λ _. among_found (λ (leaf : LooseLeaf). leaf.shapes ≡ [] → ⊥) c.args.leaves.now c.loop-leaf.leaf-index c.leaf-item.result c.loop-leaf-test.true c.leaf-item.is (c.if-has_shapes.ensures.0 refl),
  λ _. refl,
)

pub loop-leaf-preserved : goal.loop-leaf-preserved
loop-leaf-preserved c =
    among_goes_on (λ (leaf : LooseLeaf). leaf.shapes ≡ [] → ⊥) c.args.leaves.now c.loop-leaf.leaf-index c.leaf-item.result c.loop-leaf-test.true c.leaf-item.is (λ h. let t = c.if-has_shapes.ensures.1 h in absurd cc) c.loop-leaf.invariant
