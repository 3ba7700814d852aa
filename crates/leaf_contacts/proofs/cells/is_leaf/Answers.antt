use Rattle.std.proofs.Common.{◌≡◌, refl, subst, sym, ◌∙◌}
use Rattle.std.proofs.lemmas.List.{drop_all}
use Rattle.or_geom.specs.Gathering.{SomeHas}
use Rattle.or_geom.proofs.GatheringLaws.{among_found, among_goes_on}
use Rattle.leaf_nets.specs.declared.leaves.LooseLeaf.{LooseLeaf}
use Rattle.leaf_contacts.proofs.CellLaws.{leaf_named, named_leaf}
use Rattle.leaf_contacts.proofs.cells.is_leaf.Goals as goal

pub returns-then-is : goal.returns-then-is
returns-then-is c = (
  λ _. named_leaf c.args.leaves.now c.args.name.now
      (among_found (λ (leaf : LooseLeaf). leaf.cell ≡ c.args.name.now) c.args.leaves.now c.loop-leaf.leaf-index c.leaf-item.result c.loop-leaf-test.true c.leaf-item.is (c.if-is.ensures.0 refl ∙ c.as_bytes.ensures)),
  λ _. refl,
)

pub loop-leaf-preserved : goal.loop-leaf-preserved
loop-leaf-preserved c =
    among_goes_on (λ (leaf : LooseLeaf). leaf.cell ≡ c.args.name.now) c.args.leaves.now c.loop-leaf.leaf-index c.leaf-item.result c.loop-leaf-test.true c.leaf-item.is
    (λ same. let t = c.if-is.ensures.1 (same ∙ sym c.as_bytes.ensures) in absurd cc) c.loop-leaf.invariant

pub returns : goal.returns
returns c = (
  λ t. absurd cc,
  λ h. absurd (subst (SomeHas (λ (leaf : LooseLeaf). leaf.cell ≡ c.args.name.now)) (drop_all c.loop-leaf.leaf-index c.args.leaves.now c.loop-leaf-test.false) (c.loop-leaf.invariant (leaf_named c.args.leaves.now c.args.name.now h))),
)
