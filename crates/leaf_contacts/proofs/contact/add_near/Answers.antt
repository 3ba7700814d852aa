use Rattle.std.proofs.Common.{◌≡◌, ℕ, subst, arith}
use Rattle.or_geom.specs.Adds.{Adds}
use Rattle.leaf_contacts.specs.Marks.{IsNearOnLayers}
use Rattle.leaf_contacts.proofs.NearbyLaws.{near_none, near_more}
use Rattle.leaf_contacts.proofs.contact.add_near.Goals as goal

pub loop-layer-init : goal.loop-layer-init
loop-layer-init c = near_none c.args.bins.now c.args.area c.args.places.now.items

pub loop-layer-preserved : goal.loop-layer-preserved
loop-layer-preserved c = near_more c.args.bins.now c.args.area c.loop-layer.layer c.args.places.now.items c.loop-layer.places.items _ c.loop-layer.invariant c.in_ok-add_near.ensures

pub returns : goal.returns
returns c =
    let over = c.loop-layer-test.false in
    let within = c.loop-layer.auto.layer-end in
    let e : c.loop-layer.layer ≡ c.args.layers = omega (arith, over, within) in
    subst (λ (n : ℕ). Adds c.args.places.now.items c.loop-layer.places.items (IsNearOnLayers c.args.bins.now c.args.area n)) e c.loop-layer.invariant
