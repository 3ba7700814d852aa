use Rattle.std.proofs.Common.{◌≡◌, drop, map, length}
use Rattle.toml_keys.specs.Fault.{in_turn}
use Rattle.toml_keys.specs.Section.{section_of}
use Rattle.tech_rules.specs.Layers.{layer_index_of, layer_indices_of}
use Rattle.tech_rules.specs.Fault.{tech_faults}
use Rattle.tech_rules.proofs.layers.indices_at.Given as goal

abbrev pub invariant-loop-name : goal.invariant-loop-name
invariant-loop-name l = record {
  so_far : in_turn (λ _ name. layer_index_of l.layers (section_of tech_faults l.keys) l.key name) l.indices (map (λ n. n) (drop l.name-index l.names))
      ≡ layer_indices_of l.layers (section_of tech_faults l.keys) l.key l.names;
  counted : length l.indices ≡ l.name-index;
}
