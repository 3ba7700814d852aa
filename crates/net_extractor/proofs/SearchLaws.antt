-- A walk over the nodes of trees, which joins the shapes of a run.
use Rattle.std.proofs.Common.{◌≡◌, ◌⊎◌, inl, inr, ℕ, ◌+◌, ◌≤◌, Bool, List, length, Some, sym, subst, ◌∙◌, arith}
use Rattle.std.specs.Prelude.{slice_get}
use Rattle.std.proofs.lemmas.Bool.{cases_lt}
use Rattle.shape_bins.specs.declared.forest.Forest.{Forest}
use Rattle.shape_bins.specs.declared.forest.NodeRange.{NodeRange}
use Rattle.shape_bins.specs.declared.node.Node.{Node}
use Rattle.shape_bins.specs.declared.query.Query.TheVariants.{Meets}
use Rattle.shape_bins.specs.Forest.{IsForest, IsRangeOf}
use Rattle.shape_bins.specs.Nodes.{IsNodeNear, position_at}
use Rattle.shape_bins.proofs.NodeLaws.{IsNodeAt}
use Rattle.shape_bins.proofs.WalkLaws.{hit_before, near_none, none_before}
use Rattle.net_extractor.specs.declared.walk.Search.{Search}
use Rattle.net_extractor.specs.Marks.{AreMarkedSets, AreNodeMarks, IsMarkedStep, IsPairBetween, IsRunWithNode, IsSearched, JoinsBetween, JoinsMarked}
use Rattle.net_extractor.specs.Runs.{AreOfRun}
use Rattle.net_extractor.specs.Sets.{IsFalling, AreTogether, AreSameSets, JoinsSets}
use Rattle.net_extractor.proofs.JoinLaws.{alike_together, joins_as, joins_both, joins_none}
use Rattle.net_extractor.proofs.PairLaws.{pair_hit}

-- the sets and marks after a join
pub marked_joined : (P : ℕ → ℕ → Type 0) (forest : Forest) (old new : List ℕ) (before after : List Bool) → AreMarkedSets forest old before → JoinsMarked P forest old new after → AreMarkedSets forest new after
marked_joined P forest old new before after m j = record { forest = m.forest; sized = j.joins.sized ∙ m.sized; falls = j.joins.falls; marked = j.marked }

-- pairs up to one position, and from there up to another
pub between_more : (P : ℕ → ℕ → Type 0) (places : List ℕ) (first mid end : ℕ) (old now new : List ℕ) → first ≤ mid → mid ≤ end → JoinsSets (IsPairBetween P places first mid) old now → JoinsSets (IsPairBetween P places mid end) now new
    → JoinsSets (IsPairBetween P places first end) old new
between_more P places first mid end old now new above below one two =
    joins_as (λ a b. IsPairBetween P places first mid a b ⊎ IsPairBetween P places mid end a b) (IsPairBetween P places first end) old new
    (λ a b h. inl (elim h [
      | inl l ↦ let to = l.1.to in (l.0, record { at = l.1.at; from = l.1.from; to = omega (arith, to, below); there = l.1.there })
      | inr r ↦ let from = r.1.from in (r.0, record { at = r.1.at; from = omega (arith, from, above); to = r.1.to; there = r.1.there })
    ]))
    (λ a b h. inl (elim (cases_lt h.1.at mid) [
      | inl lt ↦ inl (h.0, record { at = h.1.at; from = h.1.from; to = lt; there = h.1.there })
      | inr ge ↦ inr (h.0, record { at = h.1.at; from = ge; to = h.1.to; there = h.1.there })
    ]))
    (joins_both (IsPairBetween P places first mid) (IsPairBetween P places mid end) old now new one two)

no_pair_between : (P : ℕ → ℕ → Type 0) (places : List ℕ) (first end a b : ℕ) → end ≤ first → IsPairBetween P places first end a b → ⊥
no_pair_between P places first end a b short h =
    let from = h.1.from in
    let to = h.1.to in
    omega (arith, from, to, short)

module _ (forest : Forest) (search : Search) (of : AreOfRun forest.shapes.now search.run search.own.now) where
  module _ (range : NodeRange) (trees : IsForest forest) (is : IsRangeOf forest.shapes.now (length forest.shapes.now) forest.places.now forest.nodes.now search.layer range) where
    -- nothing that is searched for stands before the nodes of the layer
    pub between_begins : (above : List ℕ) → IsFalling above → JoinsBetween forest search 0 (position_at (length forest.shapes.now) forest.nodes.now range.first) above above
    between_begins above falls = joins_none (IsPairBetween (IsSearched forest search) forest.places.now 0 (position_at (length forest.shapes.now) forest.nodes.now range.first)) above falls
        (λ a b h. none_before forest.shapes.now forest.places.now forest.nodes.now search.layer (Meets search.run.hull) range trees is b (h.1, pair_hit forest.shapes.now search.run search.own.now of search.contact search.layer a b h.0))

    -- and none behind them
    pub between_all : (at : ℕ) (old new : List ℕ) → range.end ≤ at → JoinsBetween forest search 0 (position_at (length forest.shapes.now) forest.nodes.now at) old new → JoinsSets (IsSearched forest search) old new
    between_all at old new past joins =
        joins_as (IsPairBetween (IsSearched forest search) forest.places.now 0 (position_at (length forest.shapes.now) forest.nodes.now at)) (IsSearched forest search) old new
        (λ a b h. inl h.0)
        (λ a b p. inl (p, (hit_before forest.shapes.now forest.places.now forest.nodes.now search.layer (Meets search.run.hull) range trees is at b past (pair_hit forest.shapes.now search.run search.own.now of search.contact search.layer a b p)).0))
        joins

  module _ (at : ℕ) (node : Node) (n : IsNodeAt forest.shapes.now forest.places.now (length forest.shapes.now) forest.nodes.now at node) where
    -- a step over a node and all below it
    pub step_behind : (old new : List ℕ) (marks : List Bool) → JoinsBetween forest search node.first node.end old new → AreNodeMarks forest new marks → IsMarkedStep forest search at (at + node.size) old new marks
    step_behind old new marks joins m = record {
      further = omega (arith, n.counted);
      within = n.within;
      joins = subst (λ (k : ℕ). JoinsBetween forest search k (position_at (length forest.shapes.now) forest.nodes.now (at + node.size)) old new) (sym n.begins)
          (subst (λ (k : ℕ). JoinsBetween forest search node.first k old new) (sym n.behind) joins);
      marked = m;
    }

    -- over one below which nothing is near
    pub step_passed : (above : List ℕ) (marks : List Bool) → (IsNodeNear search.layer (Meets search.run.hull) node → ⊥) → IsFalling above → AreNodeMarks forest above marks → IsMarkedStep forest search at (at + node.size) above above marks
    step_passed above marks none falls m = step_behind above above marks
        (joins_none (IsPairBetween (IsSearched forest search) forest.places.now node.first node.end) above falls
        (λ a b h. near_none forest.shapes.now forest.places.now search.layer (Meets search.run.hull) node n.over none b (h.1, pair_hit forest.shapes.now search.run search.own.now of search.contact search.layer a b h.0)))
        m

    -- over one whose shapes are of the run's set
    pub step_together : (old new : List ℕ) (marks : List Bool) → slice_get forest.nodes.now at ≡ Some node → AreSameSets old new → IsRunWithNode forest search.own.now new at → AreNodeMarks forest new marks → IsMarkedStep forest search at (at + node.size) old new marks
    step_together old new marks is alike one m = step_behind old new marks
        (alike_together (IsPairBetween (IsSearched forest search) forest.places.now node.first node.end) old new alike
        (λ a b h. let p = h.0.0 in subst (λ (k : ℕ). AreTogether new k b) p.is (one node p.shape b is p.listed h.1)))
        m

    -- to the first node below it
    pub step_inner : (old new : List ℕ) (marks : List Bool) → (node.size ≡ 1 → ⊥) → AreSameSets old new → AreNodeMarks forest new marks → IsMarkedStep forest search at (at + 1) old new marks
    step_inner old new marks many alike m =
        let inner = n.inner many in
        record {
          further = omega arith;
          within = omega (arith, n.within, n.counted);
          joins = alike_together (IsPairBetween (IsSearched forest search) forest.places.now _ _) old new alike
              (λ a b h. absurd (no_pair_between (IsSearched forest search) forest.places.now _ _ a b (omega (arith, inner, n.begins)) h));
          marked = m;
        }
