-- The numbers as they are read.
use Rattle.std.proofs.Common.{◌∙◌, arith}
use Rattle.sram_macro.proofs.ExtentLaws.{kept, size_kept, sum_kept}
use Rattle.sram_macro.proofs.view.macro_view.Goals as goal

pub returns : goal.returns
returns c =
    let near = c.requires.near in
    let w = c.requires.sizes.width in
    let s = c.requires.sizes.space in
    let width = kept _ near.width (omega arith) in
    let height = kept _ near.height (omega arith) in
    let supply = kept _ near.power_x (omega arith) in
    let pitch = sum_kept _ _ w.from w.to s.from s.to in
    let space = size_kept _ s.from s.to in
    let wide = size_kept _ w.from w.to in
    let named = c.in_ok-from_bytes.ensures ∙ c.as_bytes.ensures in
    λ i. record { name = named i; width = width i; height = height i; pitch = pitch i; supply_x = supply i; space = space i; wire = wide i; metals = c.in_ok-layer_names.ensures i; signals = c.from_vec.ensures i }
