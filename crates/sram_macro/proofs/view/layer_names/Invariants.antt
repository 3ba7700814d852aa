use Rattle.std.proofs.Common.{◌≡◌, ◌++◌, ◌<◌, ℕ, length}
use Rattle.std.specs.List.{AllByRecursion}
use Rattle.sram_macro.specs.View.{layer_names}
use Rattle.sram_macro.proofs.view.layer_names.Given as goal

-- the names so far, and that the other layers are there
abbrev pub invariant-loop-index : goal.invariant-loop-index
invariant-loop-index l = (l.names ++ layer_names l.layers l.rest ≡ layer_names l.layers l.indices) × AllByRecursion (λ (index : ℕ). index < length l.layers) l.rest

abbrev pub decreases-loop-index : goal.decreases-loop-index
decreases-loop-index l = length l.rest
