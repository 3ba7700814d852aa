-- Runs that grow or end: what the shapes fill stays filled.
use Rattle.std.proofs.Common.{◌≡◌, List, [], ◌∷◌, ◌++◌, Option, Some, sym, subst, ◌∙◌}
use Rattle.std.specs.Prelude.{All, Contains, IfSome}
use Rattle.std.proofs.lemmas.List.Elements.{All-head, All-tail, All-push, All-same}
use Rattle.or_geom.specs.declared.shape.Shape.{Shape}
use Rattle.shape_bins.specs.declared.filled.Filled.{Filled}
use Rattle.shape_bins.specs.declared.runs.Run.{Run}
use Rattle.shape_bins.specs.Filled.{IsFilledBox, IsFilledBy, AreJoinedTo}
use Rattle.shape_bins.specs.Runs.{FillRun, FillRuns, KeepsRun}
use Rattle.shape_bins.proofs.FilledLaws.{joint_filled, own_filled}

-- a shape alone is a run that it fills
pub single_filled : (shapes : List Shape) (s : Shape) (run : Run) → run.filled.shape ≡ s → Contains shapes s → FillRun shapes run
single_filled shapes s run is there = subst (λ (z : Shape). IsFilledBox shapes z) (sym is) (own_filled shapes s there)

-- with a box of the shape alone a run is longer
pub longer_filled : (shapes : List Shape) (s : Shape) (run alone : Run) (longer : Filled) → alone.filled.shape ≡ s → AreJoinedTo run.filled alone.filled longer → Contains shapes s → FillRun shapes run → IsFilledBy shapes longer
longer_filled shapes s run alone longer is joint there fills =
    joint_filled shapes run.filled alone.filled longer joint fills (single_filled shapes s alone is there)

-- the run that was taken
pub taken_filled : (shapes : List Shape) (taken : Option Run) (run : Run) → taken ≡ Some run → IfSome taken (FillRun shapes) → FillRun shapes run
taken_filled shapes taken run is fills = subst (λ (o : Option Run). IfSome o (FillRun shapes)) is fills

-- the first of the growing runs, and the others
pub first_filled : (shapes : List Shape) (growing rest : List Run) (ended : List Filled) (first : Run) → growing ≡ first ∷ rest → FillRuns shapes growing ended → FillRun shapes first
first_filled shapes growing rest ended first was fills = All-head (FillRun shapes) first rest (All-same (FillRun shapes) (first ∷ rest) growing (sym was) fills.0)

pub rest_filled : (shapes : List Shape) (growing rest : List Run) (ended : List Filled) (first : Run) → growing ≡ first ∷ rest → FillRuns shapes growing ended → All (FillRun shapes) rest
rest_filled shapes growing rest ended first was fills = All-tail (FillRun shapes) first rest (All-same (FillRun shapes) (first ∷ rest) growing (sym was) fills.0)

-- it is put back
pub again_filled : (shapes : List Shape) (growing rest put : List Run) (ended : List Filled) (first : Run) → growing ≡ first ∷ rest → put ≡ first ∷ rest → FillRuns shapes growing ended → FillRuns shapes put ended
again_filled shapes growing rest put ended first was is fills = (All-same (FillRun shapes) put growing (is ∙ sym was) fills.0, fills.1)

-- one was added behind
pub added_filled : (shapes : List Shape) (growing put : List Run) (ended : List Filled) (run : Run) → put ≡ growing ++ run ∷ [] → FillRuns shapes growing ended → FillRun shapes run → FillRuns shapes put ended
added_filled shapes growing put ended run is fills one = (All-same (FillRun shapes) put (growing ++ run ∷ []) is (All-push (FillRun shapes) growing run fills.0 one), fills.1)

-- a run was kept behind the others
pub kept_filled : (run : Run) (old new : List Filled) → new ≡ old ++ run.filled ∷ [] → KeepsRun run old new
kept_filled run old new is shapes one all = All-same (IsFilledBy shapes) new (old ++ run.filled ∷ []) is (All-push (IsFilledBy shapes) old run.filled all one)
