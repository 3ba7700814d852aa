-- The files of a demonstration.
use Rattle.std.specs.Prelude.{ℕ, List, [], ◌∷◌, codes}
use Rattle.gds_stream.specs.Canonical.{canonical}
use Rattle.or_host.specs.declared.file.MemFile.{MemFile}
use Rattle.spice_text.specs.WrittenText.{deck_text}
use Rattle.demo_kit.specs.Numbers.{demo_scale}
use Rattle.demo_kit.specs.Configuration.{demo_configuration}
use Rattle.demo_kit.specs.Technology.{demo_technology}
use Rattle.demo_kit.specs.Layout.{demo_library}
use Rattle.demo_kit.specs.Subcircuits.{demo_subckts}

-- the configuration, and the kit that it names: the technology, the leaf cells' layouts and their subcircuits
abbrev pub demo_files : ℕ → List MemFile
demo_files n =
    record { name = codes "demo.toml"; bytes = demo_configuration n }
    ∷ record { name = codes "demo_tech.toml"; bytes = demo_technology (demo_scale n) }
    ∷ record { name = codes "demo_tech.gds"; bytes = canonical (demo_library (demo_scale n)) }
    ∷ record { name = codes "demo_tech.sp"; bytes = deck_text demo_subckts }
    ∷ []
