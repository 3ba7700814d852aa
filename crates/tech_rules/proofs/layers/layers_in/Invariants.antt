use Rattle.std.proofs.Common.{◌≡◌, [], drop, map, length}
use Rattle.toml.specs.View.{view}
use Rattle.toml_keys.specs.Fault.{in_turn}
use Rattle.toml_keys.specs.Section.{section_of}
use Rattle.tech_rules.specs.Layers.{layer_of}
use Rattle.tech_rules.specs.Fault.{tech_faults}
use Rattle.tech_rules.proofs.layers.layers_in.Given as goal

abbrev pub invariant-loop-table : goal.invariant-loop-table
invariant-loop-table l = record {
  so_far : in_turn (layer_of (section_of tech_faults l.document)) l.layers (map view (drop l.table-index l.tables)) ≡ in_turn (layer_of (section_of tech_faults l.document)) [] (map view l.tables);
  counted : length l.layers ≡ l.table-index;
}
