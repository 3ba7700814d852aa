use Rattle.std.proofs.Common.{◌≡◌, ◌<◌, ◌∙◌, inl, ℕ, List, length, sym, subst, arith}
use Rattle.std.specs.Prelude.{Contains}
use Rattle.std.specs.List.Sorted.{IsStrictlySortedBy}
use Rattle.std.proofs.lemmas.List.{take_at}
use Rattle.or_geom.specs.declared.shape.Shape.{Shape}
use Rattle.or_geom.specs.ShapeOrder.{shape_order}
use Rattle.net_extractor.specs.Marks.{JoinsMarked}
use Rattle.net_extractor.specs.NetRoots.{AreNetRoots, IsTouchPair}
use Rattle.net_extractor.specs.RunPairs.{IsListedPair}
use Rattle.net_extractor.specs.Sets.{AreSameSets, AreAlone, JoinsSets}
use Rattle.net_extractor.proofs.JoinLaws.{joins_as}
use Rattle.net_extractor.proofs.PairLaws.{touch_listed}
use Rattle.net_extractor.proofs.RootLaws.{alone_falls, net_roots}
use Rattle.net_extractor.proofs.roots.net_roots.Goals as goal

pub join_touching-requires : goal.join_touching-requires
join_touching-requires c =
    let alone = c.in_ok-above.above.items in
    rw (c.deref_mut.ensures.value, c.deref_mut-2.ensures.value) (record {
      sets = record {
        forest = c.forest-forest.ensures.forest;
        sized = c.in_ok-above.ensures.sized;
        falls = alone_falls (length c.forest-forest.result.shapes.now) alone c.in_ok-above.ensures;
        marked = c.in_ok-marks.ensures alone;
      };
    })

pub returns : goal.returns
returns c =
    let connections = c.args.connections.now in
    let shapes = c.forest-forest.result.shapes.now in
    let order = c.forest-forest.result.places.now in
    let alone = c.in_ok-above.above.items in
    let now = c.join_touching.new.above in
    let roots = c.flatten.new.above in
    let whole : (place : ℕ) → place < length shapes → Contains order place = c.forest-forest.ensures.forest.all in
    let each : AreAlone (length shapes) alone = c.in_ok-above.ensures in
    let rises : IsStrictlySortedBy shape_order shapes = subst (IsStrictlySortedBy shape_order) (sym c.forest-forest.ensures.shapes) c.requires.rises in
    let marked : JoinsMarked (IsListedPair connections shapes order 0 (length order)) c.forest-forest.result alone now c.join_touching.new.marks = rw c.deref_mut-2.ensures.value at c.in_ok-join_touching.ensures in
    let joins : JoinsSets (IsTouchPair connections shapes) alone now =
    joins_as (IsListedPair connections shapes order 0 (length order)) (IsTouchPair connections shapes) alone now (λ a b h. inl h.1) (λ a b h. inl (touch_listed connections shapes order a b whole h)) marked.joins in
    let first : length alone ≡ c.in_ok-above.above.len = omega arith in
    let second : c.deref_mut-3.result.now ≡ now = c.deref_mut-3.ensures.value ∙ take_at now _ c.in_ok-above.above.len (joins.sized ∙ first) in
    let alike : AreSameSets now roots = subst (λ (l : List ℕ). AreSameSets l roots) second c.flatten.ensures.alike in
    let are : AreNetRoots connections shapes roots = net_roots connections shapes alone now roots rises each joins alike c.flatten.ensures.flat in
    subst (AreNetRoots connections c.args.bins.now) (sym (take_at roots _ c.in_ok-above.above.len (alike.sized ∙ (joins.sized ∙ first))))
    (subst (λ (ss : List Shape). AreNetRoots connections ss roots) c.forest-forest.ensures.shapes are)
