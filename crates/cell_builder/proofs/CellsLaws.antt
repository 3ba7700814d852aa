-- One cell of several is changed; structures are made, one after another.
use Rattle.std.proofs.Common.{◌≡◌, ℕ, zero, suc, ◌<◌, List, [], ◌∷◌, ◌++◌, length, get_or, refl, sym, ap, subst, ◌∙◌, append_assoc, arith}
use Rattle.std.specs.Prelude.{slice_set}
use Rattle.std.proofs.lemmas.List.{append-nil}
use Rattle.gds_library.specs.declared.library.Structure.{Structure}
use Rattle.tech_rules.specs.declared.tech.Layer.{Layer}
use Rattle.cell_builder.specs.declared.cell.DrawnCell.{DrawnCell}
use Rattle.cell_builder.specs.CellList.{CellList, changed_at, with_change}
use Rattle.cell_builder.specs.Finish.{IsFinishedCell, AreFinished, IsMade}

set_changes : {X : Type 0} (f : X → X) (xs : List X) (k : ℕ) (o n : X) → k < length xs → o ≡ get_or xs k o → n ≡ f o → slice_set xs k n ≡ changed_at k f xs
set_changes f [] k o n lt is e = absurd (omega arith)
set_changes f (x ∷ xs) zero o n lt is e = λ i. (e ∙ ap f is) i ∷ xs
set_changes f (x ∷ xs) (suc k) o n lt is e = λ i. x ∷ set_changes f xs k o n (omega (arith, lt)) is e i

set_same : {X : Type 0} (xs : List X) (k : ℕ) (o n : X) → k < length xs → o ≡ get_or xs k o → n ≡ o → slice_set xs k n ≡ xs
set_same [] k o n lt is e = absurd (omega arith)
set_same (x ∷ xs) zero o n lt is e = λ i. (e ∙ is) i ∷ xs
set_same (x ∷ xs) (suc k) o n lt is e = λ i. x ∷ set_same xs k o n (omega (arith, lt)) is e i

abbrev list_of : List Structure → List DrawnCell → CellList
list_of adopted cells = record { adopted = adopted; cells = cells }

there : (adopted : List Structure) (cells : List DrawnCell) (now : CellList) (k : ℕ) → list_of adopted cells ≡ now → k < length now.cells → k < length cells
there adopted cells now k e lt = subst (λ (list : CellList). k < length list.cells) (sym e) lt

-- the cell at index k becomes f of it
pub cell_changes : (f : DrawnCell → DrawnCell) (adopted : List Structure) (cells : List DrawnCell) (now : CellList) (k : ℕ) (o n : DrawnCell) → list_of adopted cells ≡ now → k < length now.cells → o ≡ get_or cells k o → n ≡ f o
    → list_of adopted (slice_set cells k n) ≡ with_change k f now
cell_changes f adopted cells now k o n e lt is changed = ap (list_of adopted) (set_changes f cells k o n (there adopted cells now k e lt) is changed) ∙ ap (with_change k f) e

-- the cell at index k stays what it was
pub cell_same : (adopted : List Structure) (cells : List DrawnCell) (now : CellList) (k : ℕ) (o n : DrawnCell) → list_of adopted cells ≡ now → k < length now.cells → o ≡ get_or cells k o → n ≡ o → list_of adopted (slice_set cells k n) ≡ now
cell_same adopted cells now k o n e lt is same = ap (list_of adopted) (set_same cells k o n (there adopted cells now k e lt) is same) ∙ e

-- the structures so far, which those of the other cells complete
pub record IsMadeBut (layers : List Layer) (adopted : List Structure) (cells rest : List DrawnCell) (now : List Structure) : Type 0 where
  pub completes : (more : List Structure) → AreFinished layers rest more → IsMade layers adopted cells (now ++ more)

pub made_none : (layers : List Layer) (adopted : List Structure) (cells : List DrawnCell) → IsMadeBut layers adopted cells cells adopted
made_none layers adopted cells = record { completes = λ more each. record { made = more; each = each; parts = refl } }

pub made_one : (layers : List Layer) (adopted : List Structure) (cells rest others : List DrawnCell) (cell : DrawnCell) (s : Structure) (now next : List Structure) → IsMadeBut layers adopted cells rest now → rest ≡ cell ∷ others
    → IsFinishedCell layers cell s → next ≡ now ++ s ∷ [] → IsMadeBut layers adopted cells others next
made_one layers adopted cells rest others cell s now next but is fin e = record {
  completes = λ more each.
      let all = but.completes (s ∷ more) (subst (λ (cs : List DrawnCell). AreFinished layers cs (s ∷ more)) (sym is) (fin, each)) in
      subst (IsMade layers adopted cells) (sym (append_assoc now (s ∷ []) more) ∙ (λ i. sym e i ++ more)) all;
}

pub made_all : (layers : List Layer) (adopted : List Structure) (cells rest : List DrawnCell) (now : List Structure) → IsMadeBut layers adopted cells rest now → rest ≡ [] → IsMade layers adopted cells now
made_all layers adopted cells rest now but is =
    subst (IsMade layers adopted cells) (append-nil now) (but.completes [] (subst (λ (cs : List DrawnCell). AreFinished layers cs []) (sym is) refl))
