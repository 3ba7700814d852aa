-- The summaries of cells, one after another.
use Rattle.std.proofs.Common.{◌≡◌, inl, inr, ℕ, zero, suc, ◌+◌, ◌<◌, ◌≤◌, List, [], ◌∷◌, ◌++◌, length, get_or, nat_lt, true, false, Some, refl, sym, subst, length-append, arith}
use Rattle.std.specs.Prelude.{slice_get, slice_index}
use Rattle.std.proofs.lemmas.Bool.{cases_lt, ltb-false, ltb-true}
use Rattle.std.proofs.lemmas.Option.{slice_get_read, slice_get_within}
use Rattle.or_geom.proofs.ListLaws.{one_at}
use Rattle.gds_library.specs.declared.library.Element.{Element}
use Rattle.gds_library.specs.declared.library.Element.TheVariants.{Boundary, Path, Sref, Aref, Text}
use Rattle.gds_library.specs.declared.library.Structure.{Structure}
use Rattle.tech_rules.specs.declared.tech.Layer.{Layer}
use Rattle.cell_chains.specs.declared.cell.Cell.{Cell}
use Rattle.cell_chains.specs.Hierarchy.{IsCell, referred_name}
use Rattle.cell_hierarchy.specs.Drawings.{AreAllCells}
use Rattle.cell_hierarchy.proofs.CellLaws.{after_push}
use Rattle.leaf_contacts.specs.declared.cells.CellSummary.{CellSummary}
use Rattle.leaf_contacts.specs.Stands.{AreCellSummaries, CountsAt, IsCellSummary, LeadsToCounted, RefersToCounted}

got_before : {X : Type 0} (xs : List X) (y : X) (k : ℕ) (x : X) → slice_get xs k ≡ Some x → slice_get (xs ++ y ∷ []) k ≡ Some x
got_before [] y k x is = absurd (cc)
got_before (z ∷ zs) y zero x is = is
got_before (z ∷ zs) y (suc k) x is = got_before zs y k x is

counts_on : (xs : List CellSummary) (p : CellSummary) (k : ℕ) → CountsAt xs k → CountsAt (xs ++ p ∷ []) k
counts_on xs p k c = record { summary = c.summary; there = got_before xs p k c.summary c.there; counts = c.counts }

counts_back : (xs : List CellSummary) (p : CellSummary) (k : ℕ) → k < length xs → CountsAt (xs ++ p ∷ []) k → CountsAt xs k
counts_back xs p k lt c = elim (after_push xs p k c.summary c.there) [
  | inl old ↦ record { summary = c.summary; there = old; counts = c.counts }
  | inr last ↦ let place = last.place in absurd (omega (arith, lt, place))
]

leads_on : (e : Element) (target : ℕ) (xs : List CellSummary) (p : CellSummary) → LeadsToCounted e target xs → LeadsToCounted e target (xs ++ p ∷ [])
leads_on (Boundary layer datatype points props) target xs p h = h
leads_on (Path layer datatype kind width points props) target xs p h = h
leads_on (Sref name place props) target xs p h = counts_on xs p target h
leads_on (Aref name place columns rows across down props) target xs p h = counts_on xs p target h
leads_on (Text layer texttype at string props) target xs p h = h

leads_back : (e : Element) (target : ℕ) (xs : List CellSummary) (p : CellSummary) → ((name : List ℕ) → referred_name e ≡ Some name → target < length xs) → LeadsToCounted e target (xs ++ p ∷ []) → LeadsToCounted e target xs
leads_back (Boundary layer datatype points props) target xs p lt h = h
leads_back (Path layer datatype kind width points props) target xs p lt h = h
leads_back (Sref name place props) target xs p lt h = counts_back xs p target (lt name refl) h
leads_back (Aref name place columns rows across down props) target xs p lt h = counts_back xs p target (lt name refl) h
leads_back (Text layer texttype at string props) target xs p lt h = h

-- the targets of a structure's elements are those of earlier cells
abbrev pub AreEarlier : Structure → List ℕ → ℕ → Type 0
AreEarlier structure targets count = (n : ℕ) (e : Element) (name : List ℕ) → slice_get structure.elements n ≡ Some e → referred_name e ≡ Some name → slice_index targets n < count

-- a summary over the cells before is one over one cell more
summary_on : (layers : List Layer) (leaves : List (List ℕ)) (structure : Structure) (targets : List ℕ) (xs : List CellSummary) (p summary : CellSummary) → AreEarlier structure targets (length xs) → IsCellSummary layers leaves structure targets xs summary
    → IsCellSummary layers leaves structure targets (xs ++ p ∷ []) summary
summary_on layers leaves structure targets xs p summary earlier is = record {
  shapes = is.shapes;
  near = is.near;
  leaf = is.leaf;
  counts = (
    (λ t. elim (is.counts.0 t) [
      | inl leaf ↦ inl leaf
      | inr more ↦ elim more [ inl some ↦ inr (inl some) | inr r ↦ inr (inr (record { index = r.index; element = r.element; there = r.there; leads = leads_on r.element (slice_index targets r.index) xs p r.leads })) ]
    ]),
    (λ h. elim h [
      | inl leaf ↦ is.counts.1 (inl leaf)
      | inr more ↦ elim more [
        | inl some ↦ is.counts.1 (inr (inl some))
        | inr r ↦ is.counts.1 (inr (inr (record { index = r.index; element = r.element; there = r.there; leads = leads_back r.element (slice_index targets r.index) xs p (λ name refers. earlier r.index r.element name r.there refers) r.leads })))
      ]
    ]),
  );
}

earlier_at : (structs : List Structure) (cells : List Cell) (k count : ℕ) (cell : Cell) (structure : Structure) → k ≤ count → IsCell structs cells k cell → slice_get structs cell.structure ≡ Some structure → AreEarlier structure cell.targets count
earlier_at structs cells k count cell structure le is stands n e name there refers =
    let same = one_at structs cell.structure structure is.structure stands is.stands in
    let t = is.each n e name (subst (λ (s : Structure). slice_get s.elements n ≡ Some e) same there) refers in
    let before = t.before in
    omega (arith, before, le)

pub summaries_begin : (layers : List Layer) (leaves : List (List ℕ)) (structs : List Structure) (cells : List Cell) → AreCellSummaries layers leaves structs cells 0 []
summaries_begin layers leaves structs cells = record { sized = refl; each = λ k cell structure summary is stands there. let within = slice_get_within [] k summary there in absurd (omega (arith, within)) }

pub summaries_more : (layers : List Layer) (leaves : List (List ℕ)) (structs : List Structure) (cells : List Cell) (i : ℕ) (cell : Cell) (structure : Structure) (summary : CellSummary) (old new : List CellSummary) → AreAllCells structs cells → slice_get cells i ≡ Some cell
    → slice_get structs cell.structure ≡ Some structure → new ≡ old ++ summary ∷ [] → IsCellSummary layers leaves structure cell.targets old summary → AreCellSummaries layers leaves structs cells i old → AreCellSummaries layers leaves structs cells (i + 1) new
summaries_more layers leaves structs cells i cell structure summary old new all here stands is made far =
    let sized = far.sized in
    subst (AreCellSummaries layers leaves structs cells (i + 1)) (sym is) (record {
      sized = let long = length-append old (summary ∷ []) in omega (arith, long, sized);
      each = λ k other s p at stand there. elim (after_push old summary k p there) [
        | inl before ↦
            let within = slice_get_within old k p before in
            summary_on layers leaves s other.targets old summary p (earlier_at structs cells k (length old) other s (omega (arith, within)) (all.each k other at) stand) (far.each k other s p at stand before)
        | inr last ↦
            let place = last.place in
            let e : i ≡ k = omega (arith, place, sized) in
            let same : cell ≡ other = one_at cells k cell other (subst (λ (j : ℕ). slice_get cells j ≡ Some cell) e here) at in
            let own : structure ≡ s = one_at structs other.structure structure s (subst (λ (c : Cell). slice_get structs c.structure ≡ Some structure) same stands) stand in
            let over = summary_on layers leaves structure cell.targets old summary summary (earlier_at structs cells i (length old) cell structure (omega (arith, sized)) (all.each i cell here) stands) made in
            subst (λ (q : CellSummary). IsCellSummary layers leaves s other.targets (old ++ summary ∷ []) q) (sym last.is) (subst (λ (t : Structure). IsCellSummary layers leaves t other.targets (old ++ summary ∷ []) summary) own (subst (λ (c : Cell). IsCellSummary layers leaves structure c.targets (old ++ summary ∷ []) summary) same over))
      ];
    })

pub summaries_end : (layers : List Layer) (leaves : List (List ℕ)) (structs : List Structure) (cells : List Cell) (i : ℕ) (summaries : List CellSummary) → i ≡ length cells → AreCellSummaries layers leaves structs cells i summaries → AreCellSummaries layers leaves structs cells (length cells) summaries
summaries_end layers leaves structs cells i summaries done far = subst (λ (k : ℕ). AreCellSummaries layers leaves structs cells k summaries) done far

-- none of the first elements refers to a cell that counts
abbrev pub NoneRefers : List Element → List ℕ → List CellSummary → ℕ → Type 0
NoneRefers elements targets summaries count = (k : ℕ) (e : Element) → k < count → slice_get elements k ≡ Some e → LeadsToCounted e (slice_index targets k) summaries → ⊥

pub none_more : (elements : List Element) (targets : List ℕ) (summaries : List CellSummary) (i : ℕ) (e : Element) → slice_get elements i ≡ Some e → (LeadsToCounted e (slice_index targets i) summaries → ⊥) → NoneRefers elements targets summaries i
    → NoneRefers elements targets summaries (i + 1)
none_more elements targets summaries i e here not before k other lt there leads = elim (cases_lt k i) [
  | inl less ↦ before k other less there leads
  | inr ge ↦
      let same : k ≡ i = omega (arith, lt, ge) in
      let one : other ≡ e = one_at elements i other e (subst (λ (j : ℕ). slice_get elements j ≡ Some other) same there) here in
      not (subst (λ (d : Element). LeadsToCounted d (slice_index targets i) summaries) one (subst (λ (j : ℕ). LeadsToCounted other (slice_index targets j) summaries) same leads))
]

pub none_refers : (elements : List Element) (targets : List ℕ) (summaries : List CellSummary) (i : ℕ) → length elements ≤ i → NoneRefers elements targets summaries i → RefersToCounted elements targets summaries → ⊥
none_refers elements targets summaries i over none r =
    let within = slice_get_within elements r.index r.element r.there in
    none r.index r.element (omega (arith, over, within)) r.there r.leads

-- what `get` gives
pub got : {Y : Type 0} (ys : List Y) (i : ℕ) (y : Y) → true ≡ nat_lt i (length ys) → y ≡ get_or ys i y → slice_get ys i ≡ Some y
got ys i y lt is = slice_get_read ys (length ys) i y refl (ltb-true i (length ys) (sym lt)) is

pub not_got : {Y : Type 0} (ys : List Y) (i : ℕ) (y : Y) → false ≡ nat_lt i (length ys) → slice_get ys i ≡ Some y → ⊥
not_got ys i y none is =
    let lt = slice_get_within ys i y is in
    let le = ltb-false i (length ys) (sym none) in
    omega arith
