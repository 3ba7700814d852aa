use Rattle.std.proofs.Common.{◌≡◌, [], drop, map}
use Rattle.toml.specs.View.{view}
use Rattle.toml_keys.specs.Fault.{in_turn}
use Rattle.toml_keys.specs.Keys.{text_in}
use Rattle.toml_keys.specs.Section.{section_of}
use Rattle.toml_keys.proofs.table.KeyTable.texts_in.Given as goal

abbrev pub invariant-loop-item : goal.invariant-loop-item
invariant-loop-item g l =
    in_turn (λ _ d. text_in (section_of g.F.KeyFault.faults l.self) l.key d) l.texts (map view (drop l.item-index l.items))
    ≡ in_turn (λ _ d. text_in (section_of g.F.KeyFault.faults l.self) l.key d) [] (map view l.items)
