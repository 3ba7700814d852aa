-- The abstract view of a macro.
use Rattle.std.specs.Prelude.{ℕ, List, [], map, slice_index_or}
use Rattle.tech_rules.specs.declared.tech.Layer.{Layer}
use Rattle.tech_rules.specs.declared.tech.Wire.{Wire}
use Rattle.wire_drawing.specs.Drawing.{pitch}
use Rattle.sram_plan.specs.declared.view.Abstract.{Abstract}
use Rattle.sram_plan.specs.declared.view.SignalPin.{SignalPin}
use Rattle.sram_macro.specs.declared.extents.Extents.{Extents}

abbrev pub layer_names : List Layer → List ℕ → List (List ℕ)
layer_names layers indices = map (λ (index : ℕ). slice_index_or (map (λ (l : Layer). l.name) layers) index []) indices

abbrev pub macro_view : List Layer → List ℕ → Wire → Extents → List SignalPin → Abstract
macro_view layers name wire ends signals = record {
  name = name;
  width = ends.width;
  height = ends.height;
  pitch = pitch wire;
  supply_x = ends.power_x;
  space = wire.space;
  wire = wire.width;
  metals = layer_names layers wire.metals;
  signals = signals;
}
