-- The marks that the shapes of stands make, one after another.
use Rattle.std.proofs.Common.{◌≡◌, inl, inr, ℕ, ◌+◌, ◌<◌, ◌≤◌, List, [], ◌∷◌, ◌++◌, length, take, replicate, Option, Some, None, refl, sym, ap, subst, ◌∙◌, append_assoc, arith}
use Rattle.std.specs.Prelude.{Contains, slice_get}
use Rattle.std.specs.Option.{option_copied}
use Rattle.std.proofs.lemmas.Bool.{cases_lt}
use Rattle.std.proofs.Math.Seq.{take-append_seam}
use Rattle.std.proofs.lemmas.List.{append-nil, get_or-replicate, length-replicate}
use Rattle.std.proofs.lemmas.List.Elements.{Contains-append_cases, Contains-append_left, Contains-append_right, Contains-push, Contains-push_cases}
use Rattle.std.proofs.lemmas.Option.{get_or_from_slice_get, slice_get_read, slice_get_within}
use Rattle.or_geom.specs.declared.shape.Shape.{Shape}
use Rattle.or_geom.proofs.ListLaws.{contains_none, contained_at, one_at}
use Rattle.or_geom.specs.Reachable.{AreReachable}
use Rattle.cell_hierarchy.specs.FlatSet.{IsMoved}
use Rattle.cell_hierarchy.proofs.CellLaws.{there_at}
use Rattle.leaf_contacts.specs.declared.cells.CellSummary.{CellSummary}
use Rattle.leaf_contacts.specs.declared.cells.ReachedCells.{ReachedCells}
use Rattle.leaf_contacts.specs.declared.marks.Mark.{Mark}
use Rattle.leaf_contacts.specs.declared.stand.Stand.{Stand}
use Rattle.leaf_contacts.specs.Marks.{AreAllEntries, AreEntriesOf, AreMarks, AreStandsIn, HasEntryOf, HasShapesOf, IsEntryIn, IsMarkOrNone, IsShapeEntryOf, IsStandIn, ShapeEntry, shape_entry}
use Rattle.leaf_contacts.specs.Stands.{AreReachedCells}
use Rattle.leaf_contacts.proofs.FarLaws.{reachable_shapes}

-- So many of the shapes are marked.
pub record StandSoFar (own shapes : List Shape) (stand : Stand) (old : List (Option Mark)) (count : ℕ) (now : List (Option Mark)) : Type 0 where
  pub added : List ShapeEntry
  pub each : (e : ShapeEntry) → Contains added e → IsShapeEntryOf stand own e
  pub done : (k : ℕ) (inner : Shape) → k < count → slice_get own k ≡ Some inner → HasEntryOf added stand inner
  pub marks : (entries : List ShapeEntry) → AreMarks shapes entries old → AreMarks shapes (entries ++ added) now

pub stand_begins : (own shapes : List Shape) (stand : Stand) (old : List (Option Mark)) → StandSoFar own shapes stand old 0 old
stand_begins own shapes stand old = record {
  added = [];
  each = λ e h. absurd (contains_none e h);
  done = λ k inner lt there. absurd (omega (arith, lt));
  marks = λ entries are. subst (λ (l : List ShapeEntry). AreMarks shapes l old) (sym (append-nil entries)) are;
}

pub stand_more : (own shapes : List Shape) (stand : Stand) (old now next : List (Option Mark)) (i : ℕ) (inner s : Shape) → slice_get own i ≡ Some inner → IsMoved stand.place inner s
    → ((entries : List ShapeEntry) → AreMarks shapes entries now → AreMarks shapes (entries ++ shape_entry s (option_copied stand.instance) ∷ []) next) → StandSoFar own shapes stand old i now → StandSoFar own shapes stand old (i + 1) next
stand_more own shapes stand old now next i inner s here moved one far =
    let made = shape_entry s (option_copied stand.instance) in
    record {
      added = far.added ++ made ∷ [];
      each = λ e h. elim (Contains-push_cases far.added made e h) [
        | inl before ↦ far.each e before
        | inr same ↦ subst (IsShapeEntryOf stand own) same (record { inner = inner; listed = contained_at own i inner here; moved = moved; is = refl })
      ];
      done = λ k other lt there. elim (cases_lt k i) [
        | inl less ↦ let d = far.done k other less there in record { e = d.e; listed = Contains-append_left far.added (made ∷ []) d.e d.listed; moved = d.moved; is = d.is }
        | inr ge ↦
            let e : k ≡ i = omega (arith, lt, ge) in
            let same : inner ≡ other = one_at own i inner other here (subst (λ (j : ℕ). slice_get own j ≡ Some other) e there) in
            subst (HasEntryOf (far.added ++ made ∷ []) stand) same (record { e = made; listed = Contains-push far.added made; moved = moved; is = refl })
      ];
      marks = λ entries are. subst (λ (l : List ShapeEntry). AreMarks shapes l next) (append_assoc entries far.added (made ∷ [])) (one (entries ++ far.added) (far.marks entries are));
    }

pub stand_ends : (own shapes : List Shape) (stand : Stand) (old now : List (Option Mark)) (i : ℕ) → length own ≤ i → StandSoFar own shapes stand old i now
    → (added : List ShapeEntry) × AreEntriesOf stand own added × ((entries : List ShapeEntry) → AreMarks shapes entries old → AreMarks shapes (entries ++ added) now)
stand_ends own shapes stand old now i over far = (
  far.added,
  record {
    each = far.each;
    all = λ inner h. let lt = h.1 in far.done h.0 inner (omega (arith, over, lt)) (slice_get_read own _ h.0 inner refl lt (sym h.2));
  },
  far.marks,
)

-- The shapes of so many of the stands are marked.
pub record MarksSoFar (tree : ReachedCells) (shapes : List Shape) (stands : List Stand) (count : ℕ) (marks : List (Option Mark)) : Type 0 where
  pub entries : List ShapeEntry
  pub each : (e : ShapeEntry) → Contains entries e → IsEntryIn tree stands e
  pub done : (k : ℕ) (stand : Stand) (summary : CellSummary) (inner : Shape) → k < count → slice_get stands k ≡ Some stand → slice_get tree.summaries.now stand.cell ≡ Some summary → Contains summary.shapes.items inner
      → HasEntryOf entries stand inner
  pub marks_are : AreMarks shapes entries marks

pub marks_begin : (tree : ReachedCells) (shapes : List Shape) (stands : List Stand) (marks : List (Option Mark)) → marks ≡ replicate (length shapes) None → MarksSoFar tree shapes stands 0 marks
marks_begin tree shapes stands marks is = record {
  entries = [];
  each = λ e h. absurd (contains_none e h);
  done = λ k stand summary inner lt there drawn listed. absurd (omega (arith, lt));
  marks_are = record {
    sized = ap length is ∙ length-replicate (length shapes) None;
    each = λ place shape mark here there.
        let within = slice_get_within shapes place shape here in
        let read : slice_get (replicate (length shapes) None) place ≡ Some mark = subst (λ (l : List (Option Mark)). slice_get l place ≡ Some mark) is there in
        let none : None ≡ mark = sym (get_or-replicate (length shapes) place None None within) ∙ get_or_from_slice_get (replicate (length shapes) None) place mark None read in
        subst (IsMarkOrNone [] shape) none (λ instance h. contains_none (shape_entry shape instance) h);
  };
}

pub marks_more_stands : (tree : ReachedCells) (shapes : List Shape) (stands : List Stand) (i : ℕ) (stand : Stand) (summary : CellSummary) (now next : List (Option Mark)) → slice_get stands i ≡ Some stand → slice_get tree.summaries.now stand.cell ≡ Some summary
    → (added : List ShapeEntry) × AreEntriesOf stand summary.shapes.items added × ((entries : List ShapeEntry) → AreMarks shapes entries now → AreMarks shapes (entries ++ added) next)
    → MarksSoFar tree shapes stands i now → MarksSoFar tree shapes stands (i + 1) next
marks_more_stands tree shapes stands i stand summary now next here drawn made far = record {
  entries = far.entries ++ made.0;
  each = λ e h. elim (Contains-append_cases far.entries made.0 e h) [
    | inl before ↦ far.each e before
    | inr new ↦ record { stand = stand; listed = contained_at stands i stand here; summary = summary; there = drawn; of = made.1.each e new }
  ];
  done = λ k other s inner lt there drawn_by listed. elim (cases_lt k i) [
    | inl less ↦ let d = far.done k other s inner less there drawn_by listed in record { e = d.e; listed = Contains-append_left far.entries made.0 d.e d.listed; moved = d.moved; is = d.is }
    | inr ge ↦
        let e : k ≡ i = omega (arith, lt, ge) in
        let same : stand ≡ other = one_at stands i stand other here (subst (λ (j : ℕ). slice_get stands j ≡ Some other) e there) in
        let one : summary ≡ s = one_at tree.summaries.now other.cell summary s (subst (λ (o : Stand). slice_get tree.summaries.now o.cell ≡ Some summary) same drawn) drawn_by in
        let d = made.1.all inner (subst (λ (q : CellSummary). Contains q.shapes.items inner) (sym one) listed) in
        subst (λ (o : Stand). HasEntryOf (far.entries ++ made.0) o inner) same (record { e = d.e; listed = Contains-append_right far.entries made.0 d.e d.listed; moved = d.moved; is = d.is })
  ];
  marks_are = made.2 far.entries far.marks_are;
}

-- the same with lists as the code passes them on
pub marks_step : (tree : ReachedCells) (shapes : List Shape) (stands : List Stand) (i : ℕ) (stand : Stand) (summary : CellSummary) (own : List Shape) (now marks next list : List (Option Mark)) → slice_get stands i ≡ Some stand → slice_get tree.summaries.now stand.cell ≡ Some summary
    → own ≡ summary.shapes.items → now ≡ marks → list ≡ next → (added : List ShapeEntry) × AreEntriesOf stand own added × ((entries : List ShapeEntry) → AreMarks shapes entries now → AreMarks shapes (entries ++ added) next)
    → MarksSoFar tree shapes stands i marks → MarksSoFar tree shapes stands (i + 1) list
marks_step tree shapes stands i stand summary own now marks next list here drawn owned before after made far =
    subst (λ (l : List (Option Mark)). MarksSoFar tree shapes stands (i + 1) l) (sym after) (marks_more_stands tree shapes stands i stand summary marks next here drawn (
      made.0,
      subst (λ (l : List Shape). AreEntriesOf stand l made.0) owned made.1,
      λ entries are. made.2 entries (subst (AreMarks shapes entries) (sym before) are),
    ) far)

pub written_back : {X : Type 0} (n : ℕ) (new rest : List X) → n ≡ length new → take n (new ++ rest) ≡ new
written_back {X} n new rest long = subst (λ (k : ℕ). take k (new ++ rest) ≡ new) (sym long) (take-append_seam new rest)

-- what the cell of a stand draws is reachable
pub summary_reachable : (tree : ReachedCells) (k : ℕ) (summary : CellSummary) → AreReachedCells tree → slice_get tree.summaries.now k ≡ Some summary → AreReachable summary.shapes.items
summary_reachable tree k summary are there =
    let within = slice_get_within tree.summaries.now k summary there in
    let sized = are.summaries.sized in
    let cell = there_at tree.cells.now k (omega (arith, within, sized)) in
    let is = are.cells.all k cell.item cell.is in
    reachable_shapes summary.shapes.items (are.summaries.each k cell.item is.structure summary cell.is is.stands there).near

-- where a stand of a list stands
pub stand_in : (tree : ReachedCells) (shapes : List Shape) (stands : List Stand) (i : ℕ) (stand : Stand) → AreStandsIn tree shapes stands → slice_get stands i ≡ Some stand → IsStandIn tree shapes stand
stand_in tree shapes stands i stand all here = all stand (contained_at stands i stand here)

pub stand_shapes : (tree : ReachedCells) (shapes own : List Shape) (stand : Stand) (summary : CellSummary) → IsStandIn tree shapes stand → slice_get tree.summaries.now stand.cell ≡ Some summary → own ≡ summary.shapes.items → HasShapesOf stand own shapes
stand_shapes tree shapes own stand summary is there owned =
    let one : is.summary ≡ summary = one_at tree.summaries.now stand.cell is.summary summary is.there there in
    subst (λ (l : List Shape). HasShapesOf stand l shapes) (sym owned) (subst (λ (s : CellSummary). HasShapesOf stand s.shapes.items shapes) one is.listed)

pub marks_end : (tree : ReachedCells) (shapes : List Shape) (stands : List Stand) (i : ℕ) (marks : List (Option Mark)) → length stands ≤ i → MarksSoFar tree shapes stands i marks
    → (entries : List ShapeEntry) × AreAllEntries tree stands entries × AreMarks shapes entries marks
marks_end tree shapes stands i marks over far = (
  far.entries,
  record {
    each = far.each;
    all = λ stand summary inner h drawn listed. let lt = h.1 in far.done h.0 stand summary inner (omega (arith, over, lt)) (slice_get_read stands _ h.0 stand refl lt (sym h.2)) drawn listed;
  },
  far.marks_are,
)
