-- The counts of the cells, one after another.
use Rattle.std.proofs.Common.{◌≡◌, inl, inr, ℕ, zero, suc, ◌+◌, ◌-◌, ◌<◌, ◌≤◌, List, [], ◌∷◌, ◌++◌, length, get_or, Some, refl, sym, subst, ap, ◌∙◌, arith}
use Rattle.std.specs.List.{slice_get}
use Rattle.std.proofs.lemmas.Bool.{cases_lt}
use Rattle.std.proofs.lemmas.List.{length_push}
use Rattle.std.proofs.lemmas.Option.{same_Some, slice_get_within, slice_get_read, get_or_from_slice_get}
use Rattle.gds_library.specs.declared.library.Element.{Element}
use Rattle.gds_library.specs.declared.library.Structure.{Structure}
use Rattle.tech_rules.specs.declared.tech.Layer.{Layer}
use Rattle.cell_chains.specs.declared.cell.Cell.{Cell}
use Rattle.cell_chains.specs.Chains.{elements_of}
use Rattle.cell_chains.specs.Hierarchy.{referred_name, IsTarget, AreCells}
use Rattle.cell_hierarchy.specs.declared.counts.SaturatedCounts.{SaturatedCounts}
use Rattle.cell_hierarchy.specs.Counts.{Total, IsOwnTotal, IsTotalWithin, IsBelow, IsSaturated, AreCountsWithin, AreOwnCounts, AreAllOwnCounts, none, sum}
use Rattle.cell_hierarchy.specs.CountsBelow.{AreBelowFrom, HaveCounts}
use Rattle.cell_hierarchy.proofs.ReferenceLaws.{IsFound, both_below, none_below, more_none}

pub own_sized : (layers : List Layer) (structs : List Structure) (cells : List Cell) (own : List SaturatedCounts) → AreAllOwnCounts layers structs cells own → length own ≡ length cells
own_sized layers structs [] [] a = refl
own_sized layers structs [] (c ∷ cs) a = absurd a
own_sized layers structs (cell ∷ cells) [] a = absurd a
own_sized layers structs (cell ∷ cells) (c ∷ cs) a = ap suc (own_sized layers structs cells cs a.1)

pub own_at : (layers : List Layer) (structs : List Structure) (cells : List Cell) (own : List SaturatedCounts) (k : ℕ) (cell : Cell) (d : SaturatedCounts) → AreAllOwnCounts layers structs cells own → slice_get cells k ≡ Some cell
    → AreOwnCounts layers structs cell (get_or own k d)
own_at layers structs [] [] k cell d a is = absurd cc
own_at layers structs [] (c ∷ cs) k cell d a is = absurd a
own_at layers structs (x ∷ cells) [] k cell d a is = absurd a
own_at layers structs (x ∷ cells) (c ∷ cs) zero cell d a is = subst (λ (y : Cell). AreOwnCounts layers structs y c) (same_Some x cell is) a.0
own_at layers structs (x ∷ cells) (c ∷ cs) (suc k) cell d a is = own_at layers structs cells cs k cell d a.1 is

-- what is known of a cell whose structure is known
pub record IsCellWith (structs : List Structure) (cells : List Cell) (k : ℕ) (cell : Cell) (structure : Structure) : Type 0 where
  pub is : slice_get cells k ≡ Some cell
  pub stands : slice_get structs cell.structure ≡ Some structure
  pub first : elements_of structs structure.name ≡ structure.elements
  pub sized : length cell.targets ≡ length structure.elements
  pub each : (n : ℕ) (e : Element) (name : List ℕ) → slice_get structure.elements n ≡ Some e → referred_name e ≡ Some name → IsTarget structs cells k cell.height (get_or cell.targets n 0) name

-- the structure of a cell is there
pub stands_within : (structs : List Structure) (top : List ℕ) (cells : List Cell) (k : ℕ) (cell : Cell) → AreCells structs top cells → k < length cells → cell ≡ get_or cells k cell → cell.structure < length structs
stands_within structs top cells k cell a lt is = let here = a.all k cell (slice_get_read cells (length cells) k cell refl lt is) in slice_get_within structs cell.structure here.structure here.stands

pub cell_with : (structs : List Structure) (top : List ℕ) (cells : List Cell) (k : ℕ) (cell : Cell) (structure : Structure) → AreCells structs top cells → k < length cells → cell ≡ get_or cells k cell
    → structure ≡ get_or structs cell.structure structure → IsCellWith structs cells k cell structure
cell_with structs top cells k cell structure a lt is at =
    let got = slice_get_read cells (length cells) k cell refl lt is in
    let here = a.all k cell got in
    let stands = slice_get_read structs (length structs) cell.structure structure refl (slice_get_within structs cell.structure here.structure here.stands) at in
    let same : here.structure ≡ structure = same_Some here.structure structure (sym here.stands ∙ stands) in
    record {
      is = got;
      stands = stands;
      first = subst (λ (s : Structure). elements_of structs s.name ≡ s.elements) same here.first;
      sized = here.sized ∙ ap (λ (s : Structure). length s.elements) same;
      each = λ n e name inside refers. here.each n e name (ap (λ (s : Structure). slice_get s.elements n) same ∙ inside) refers;
    }

-- the counts at a place are those of the structure of the name by ways of at most `depth` references
pub record StandAt (depth : ℕ) (layers : List Layer) (structs : List Structure) (counts : List SaturatedCounts) (place : ℕ) (name : List ℕ) : Type 0 where
  pub each : SaturatedCounts
  pub is : slice_get counts place ≡ Some each
  pub counted : AreCountsWithin depth layers structs name each

-- the cells before the place are counted, by ways of any number of references from their height on
pub record AreCounted (layers : List Layer) (structs : List Structure) (cells : List Cell) (counts : List SaturatedCounts) (place : ℕ) : Type 0 where
  pub sized : length counts ≡ place
  pub each : (k depth : ℕ) (cell : Cell) (structure : Structure) → k < place → slice_get cells k ≡ Some cell → slice_get structs cell.structure ≡ Some structure → cell.height ≤ depth
      → StandAt depth layers structs counts k structure.name

-- the total of a target
found_at : (depth : ℕ) (layers : List Layer) (structs : List Structure) (cells : List Cell) (counts : List SaturatedCounts) (k height target : ℕ) (name : List ℕ) → AreCounted layers structs cells counts k
    → IsTarget structs cells k height target name → height ≤ suc depth → IsFound (IsTotalWithin depth layers structs) counts target name
found_at depth layers structs cells counts k height target name a t low =
    let s = subst (λ (n : List ℕ). StandAt depth layers structs counts target n) t.named (a.each target depth t.cell t.structure t.before t.is t.stands (omega (arith, t.lower))) in
    record { total = s.counted.total; is = s.counted.is; stands = record { each = s.each; is = s.is; standing = s.counted.standing } }

-- each reference of the next cell leads to counts
pub known_below : (layers : List Layer) (structs : List Structure) (cells : List Cell) (counts : List SaturatedCounts) (k : ℕ) (cell : Cell) (structure : Structure) → AreCounted layers structs cells counts k
    → IsCellWith structs cells k cell structure → HaveCounts structure.elements cell.targets counts
known_below layers structs cells counts k cell structure a w = λ n e name inside refers. let t = w.each n e name inside refers in omega (arith, t.before, a.sized)

-- the next counts are those of the cell's own elements and of what stands below them
pub record IsNext (layers : List Layer) (structs : List Structure) (counts : List SaturatedCounts) (cell : Cell) (elements : List Element) (next : SaturatedCounts) : Type 0 where
  pub own : SaturatedCounts
  pub below : SaturatedCounts
  pub own_is : AreOwnCounts layers structs cell own
  pub below_is : (total : Total) → AreBelowFrom counts cell.targets 0 elements total → IsSaturated total below
  pub next_is : (x y : Total) → IsSaturated x own → IsSaturated y below → IsSaturated (sum x y) next

pub same_below : (counts counts' : List SaturatedCounts) (targets targets' : List ℕ) (es es' : List Element) (total : Total) → counts' ≡ counts → targets' ≡ targets → es' ≡ es → AreBelowFrom counts targets 0 es total
    → AreBelowFrom counts' targets' 0 es' total
same_below counts counts' targets targets' es es' total a b d h = rw (a, b, d) h

own_total : (layers : List Layer) (structs : List Structure) (cells : List Cell) (k : ℕ) (cell : Cell) (structure : Structure) (own : SaturatedCounts) → IsCellWith structs cells k cell structure
    → (o : AreOwnCounts layers structs cell own) → IsOwnTotal layers (elements_of structs structure.name) o.total
own_total layers structs cells k cell structure own w o =
    let same : o.structure ≡ structure = same_Some o.structure structure (sym o.stands ∙ w.stands) in
    subst (λ (es : List Element). IsOwnTotal layers es o.total) (ap (λ (s : Structure). s.elements) same ∙ sym w.first) o.is

-- the next cell is counted by ways of any number of references from its height on
next_counted : (depth : ℕ) (layers : List Layer) (structs : List Structure) (cells : List Cell) (counts : List SaturatedCounts) (k : ℕ) (cell : Cell) (structure : Structure) (next : SaturatedCounts) → AreCounted layers structs cells counts k
    → IsCellWith structs cells k cell structure → IsNext layers structs counts cell structure.elements next → cell.height ≤ depth → AreCountsWithin depth layers structs structure.name next
next_counted zero layers structs cells counts k cell structure next a w s low =
    let free : (m : ℕ) (e : Element) (name : List ℕ) → slice_get structure.elements m ≡ Some e → referred_name e ≡ Some name → ⊥ = λ m e name inside refers. let t = w.each m e name inside refers in let lt = t.lower in omega arith in
    let standing = s.next_is s.own_is.total none s.own_is.standing (s.below_is none (none_below counts cell.targets 0 structure.elements free)) in
    record {
      total = s.own_is.total;
      is = own_total layers structs cells k cell structure s.own w s.own_is;
      standing = subst (λ (t : Total). IsSaturated t next) (more_none s.own_is.total) standing;
    }
next_counted (suc depth) layers structs cells counts k cell structure next a w s low =
    let found : (m : ℕ) (e : Element) (name : List ℕ) (place : ℕ) → slice_get structure.elements m ≡ Some e → referred_name e ≡ Some name → place ≡ 0 + m
    → IsFound (IsTotalWithin depth layers structs) counts (get_or cell.targets place 0) name =
    λ m e name place inside refers spot.
    let same : m ≡ place = omega arith in
    found_at depth layers structs cells counts k cell.height (get_or cell.targets place 0) name a (subst (λ (n : ℕ). IsTarget structs cells k cell.height (get_or cell.targets n 0) name) same (w.each m e name inside refers)) low in
    let b = both_below (IsTotalWithin depth layers structs) counts cell.targets 0 structure.elements found in
    record {
      total = sum s.own_is.total b.total;
      is = (s.own_is.total, b.total, own_total layers structs cells k cell structure s.own w s.own_is, subst (λ (es : List Element). IsBelow (IsTotalWithin depth layers structs) es b.total) (sym w.first) b.by_name, refl);
      standing = s.next_is s.own_is.total b.total s.own_is.standing (s.below_is b.total b.by_place);
    }

got_before : (xs : List SaturatedCounts) (y : SaturatedCounts) (k : ℕ) (x : SaturatedCounts) → slice_get xs k ≡ Some x → slice_get (xs ++ y ∷ []) k ≡ Some x
got_before [] y k x is = absurd cc
got_before (z ∷ zs) y zero x is = is
got_before (z ∷ zs) y (suc k) x is = got_before zs y k x is

got_last : (xs : List SaturatedCounts) (y : SaturatedCounts) → slice_get (xs ++ y ∷ []) (length xs) ≡ Some y
got_last [] y = refl
got_last (z ∷ zs) y = got_last zs y

-- one cell further
pub more_counted : (layers : List Layer) (structs : List Structure) (cells : List Cell) (counts : List SaturatedCounts) (place : ℕ) (cell : Cell) (structure : Structure) (next : SaturatedCounts) → AreCounted layers structs cells counts place
    → IsCellWith structs cells place cell structure → IsNext layers structs counts cell structure.elements next → AreCounted layers structs cells (counts ++ next ∷ []) (place + 1)
more_counted layers structs cells counts place cell structure next a w s = record {
  sized = length_push counts next ∙ ap (λ (n : ℕ). n + 1) a.sized;
  each = λ k depth other its lt is stands low. elim (cases_lt k place) [
    | inl before ↦
        let old = a.each k depth other its before is stands low in
        record { each = old.each; is = got_before counts next k old.each old.is; counted = old.counted }
    | inr last ↦
        let here : k ≡ place = omega arith in
        let cell_is : other ≡ cell = same_Some other cell (sym is ∙ (ap (slice_get cells) here ∙ w.is)) in
        let structure_is : its ≡ structure = same_Some its structure (sym stands ∙ (ap (λ (x : Cell). slice_get structs x.structure) cell_is ∙ w.stands)) in
        let enough : cell.height ≤ depth = subst (λ (x : Cell). x.height ≤ depth) cell_is low in
        record {
          each = next;
          is = ap (slice_get (counts ++ next ∷ [])) (here ∙ sym a.sized) ∙ got_last counts next;
          counted = subst (λ (x : Structure). AreCountsWithin depth layers structs x.name next) (sym structure_is) (next_counted depth layers structs cells counts place cell structure next a w s enough);
        }
  ];
}

-- the last cell is the top's
pub top_counted : (layers : List Layer) (structs : List Structure) (top : List ℕ) (cells : List Cell) (counts : List SaturatedCounts) (place : ℕ) (result : SaturatedCounts) → AreCells structs top cells → length cells ≤ place
    → AreCounted layers structs cells counts place → result ≡ get_or counts (length cells - 1) result → AreCountsWithin 32 layers structs top result
top_counted layers structs top cells counts place result h le a is =
    let t = h.last in
    let within = slice_get_within cells h.before t.cell t.is in
    let low = (h.all h.before t.cell t.is).low in
    let s = a.each h.before 32 t.cell t.structure (omega arith) t.is t.stands low in
    let spot : length cells - 1 ≡ h.before = omega (arith, h.count) in
    let same : result ≡ s.each = is ∙ (ap (λ (n : ℕ). get_or counts n result) spot ∙ get_or_from_slice_get counts h.before s.each result s.is) in
    subst (λ (c : SaturatedCounts). AreCountsWithin 32 layers structs top c) (sym same) (subst (λ (n : List ℕ). AreCountsWithin 32 layers structs n s.each) t.named s.counted)
