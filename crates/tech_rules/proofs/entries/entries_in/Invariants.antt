use Rattle.std.proofs.Common.{◌≡◌, [], drop, map}
use Rattle.toml.specs.View.{view}
use Rattle.toml_keys.specs.Fault.{in_turn}
use Rattle.toml_keys.specs.Section.{section_of}
use Rattle.tech_rules.specs.Entries.{entry_after}
use Rattle.tech_rules.specs.Fault.{tech_faults}
use Rattle.tech_rules.proofs.entries.entries_in.Given as goal

abbrev pub invariant-loop-table : goal.invariant-loop-table
invariant-loop-table g l =
    in_turn (entry_after (g.E.Entry.entry_in l.layers) (section_of tech_faults l.document) l.key) l.entries (map view (drop l.table-index l.tables))
    ≡ in_turn (entry_after (g.E.Entry.entry_in l.layers) (section_of tech_faults l.document) l.key) [] (map view l.tables)
