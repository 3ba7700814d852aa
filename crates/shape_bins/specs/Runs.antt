-- Runs of shapes that abut: what the shapes fill stays filled.
use Rattle.std.specs.Prelude.{List, Option, Contains, All}
use Rattle.std.specs.Option.{IfSome}
use Rattle.or_geom.specs.declared.shape.Shape.{Shape}
use Rattle.shape_bins.specs.declared.filled.Filled.{Filled}
use Rattle.shape_bins.specs.declared.runs.Run.{Run}
use Rattle.shape_bins.specs.Filled.{IsFilledBy}

-- the shapes fill the run
abbrev pub FillRun : List Shape → Run → Type 0
FillRun shapes run = IsFilledBy shapes run.filled

-- they fill each run, whether it grows or has ended
abbrev pub FillRuns : List Shape → List Run → List Filled → Type 0
FillRuns shapes growing ended = All (FillRun shapes) growing × All (IsFilledBy shapes) ended

-- what fills a run, and has the shape, fills the longer run
abbrev pub IsLonger : Run → Shape → Run → Type 0
IsLonger run shape longer = (shapes : List Shape) → Contains shapes shape → FillRun shapes run → FillRun shapes longer

-- what fills the run and those that are kept fills those that are kept then
abbrev pub KeepsRun : Run → List Filled → List Filled → Type 0
KeepsRun run old new = (shapes : List Shape) → FillRun shapes run → All (IsFilledBy shapes) old → All (IsFilledBy shapes) new

-- what fills all runs fills all runs then
abbrev pub KeepsRuns : List Run → List Filled → List Run → List Filled → Type 0
KeepsRuns growing ended growing_now ended_now = (shapes : List Shape) → FillRuns shapes growing ended → FillRuns shapes growing_now ended_now

-- the same, and the run that was taken, where the shape is one of the shapes
abbrev pub TakesLeft : Shape → List Run → List Filled → List Run → List Filled → Option Run → Type 0
TakesLeft shape growing ended growing_now ended_now taken =
    (shapes : List Shape) → Contains shapes shape → FillRuns shapes growing ended → FillRuns shapes growing_now ended_now × IfSome taken (FillRun shapes)

abbrev pub GivesRun : Shape → List Run → List Filled → List Run → List Filled → Run → Type 0
GivesRun shape growing ended growing_now ended_now run =
    (shapes : List Shape) → Contains shapes shape → FillRuns shapes growing ended → FillRuns shapes growing_now ended_now × FillRun shapes run

abbrev pub AddsShape : Shape → List Run → List Filled → List Run → List Filled → Type 0
AddsShape shape growing ended growing_now ended_now = (shapes : List Shape) → Contains shapes shape → FillRuns shapes growing ended → FillRuns shapes growing_now ended_now
