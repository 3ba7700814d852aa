-- The configuration that a file is, or its first fault.
use Rattle.std.specs.Prelude.{ℕ, List, [], ◌∷◌, Option, Some, None, Result, Ok, Err, codes}
use Rattle.std.specs.Option.{ok_or}
use Rattle.toml.specs.Data.{table}
use Rattle.toml_keys.specs.Document.{document}
use Rattle.toml_keys.specs.Fault.{◌>>=◌}
use Rattle.toml_keys.specs.Keys.{Section, whole, optional}
use Rattle.toml_keys.specs.Unknown.{unknown_key}
use Rattle.sram_plan.specs.declared.config.Config.{Config}
use Rattle.sram_plan.specs.declared.fault.ConfigFault.{ConfigFault}
use Rattle.sram_plan.specs.declared.fault.ConfigFault.TheVariants.{NotToml, UnknownKey}
use Rattle.sram_plan.specs.declared.read.ConfigCounts.{ConfigCounts}
use Rattle.sram_plan.specs.declared.read.ConfigNames.{ConfigNames}
use Rattle.sram_plan.specs.Config.{word_counts, row_counts, bank_counts}
use Rattle.sram_plan.specs.Fault.{config_faults}
use Rattle.sram_plan.specs.Keys.{natural_under, listed_under, listed_or, divisor_or_whole, file_text_under, output_name_under}

-- the keys that a configuration may have: those that are looked at, and those whose value has no meaning here
abbrev pub known_keys : List (List ℕ)
known_keys =
    codes "word_size" ∷ codes "num_words" ∷ codes "words_per_row" ∷ codes "num_banks" ∷ codes "num_rw_ports" ∷ codes "num_r_ports"
    ∷ codes "num_w_ports" ∷ codes "write_size" ∷ codes "tech_name" ∷ codes "output_path" ∷ codes "output_name"
    ∷ codes "nominal_corner_only" ∷ codes "process_corners" ∷ codes "supply_voltages" ∷ codes "temperatures" ∷ codes "route_supplies"
    ∷ codes "perimeter_pins" ∷ codes "check_lvsdrc" ∷ []

-- the counts of bits, words and banks
unfoldable pub counts_in : Section ConfigFault → Result ConfigCounts ConfigFault
counts_in s =
    natural_under 1 64 s (codes "word_size") >>= λ word_size.
    listed_under word_counts s (codes "num_words") >>= λ num_words.
    optional (listed_under row_counts) s (codes "words_per_row") >>= λ words_per_row.
    listed_or 1 bank_counts s (codes "num_banks") >>= λ num_banks.
    Ok (record { word_size = word_size; num_words = num_words; words_per_row = words_per_row; num_banks = num_banks })

-- one port that reads and writes, and no other
unfoldable pub ports_in : Section ConfigFault → Result ℕ ConfigFault
ports_in s =
    listed_or 1 (1 ∷ []) s (codes "num_rw_ports") >>= λ both.
    listed_or 0 (0 ∷ []) s (codes "num_r_ports") >>= λ reading.
    listed_or 0 (0 ∷ []) s (codes "num_w_ports")

-- the names of files and of the memory
unfoldable pub names_in : Section ConfigFault → Result ConfigNames ConfigFault
names_in s =
    file_text_under s (codes "tech_name") >>= λ tech_name.
    optional file_text_under s (codes "output_path") >>= λ output_path.
    output_name_under s (codes "output_name") >>= λ output_name.
    Ok (record { tech_name = tech_name; output_path = output_path; output_name = output_name })

-- the configuration that a document's keys describe, key by key in this order
unfoldable pub config_in : Section ConfigFault → Result Config ConfigFault
config_in s =
    counts_in s >>= λ counts.
    ports_in s >>= λ ports.
    divisor_or_whole counts.word_size s (codes "write_size") >>= λ write_size.
    names_in s >>= λ names.
    Ok (record {
      word_size = counts.word_size;
      num_words = counts.num_words;
      words_per_row = counts.words_per_row;
      num_banks = counts.num_banks;
      write_size = write_size;
      tech_name = names.tech_name;
      output_path = names.output_path;
      output_name = names.output_name;
    })

-- the configuration of a document: a key that no configuration has comes first, the least by its bytes
abbrev pub config_or_unknown : Option (List ℕ) → Section ConfigFault → Result Config ConfigFault
config_or_unknown (Some key) s = Err (UnknownKey key)
config_or_unknown None s = config_in s

abbrev pub config_of : Section ConfigFault → Result Config ConfigFault
config_of s = config_or_unknown (unknown_key known_keys s) s

-- the configuration of a file
abbrev pub configuration : List ℕ → Result Config ConfigFault
configuration bytes = ok_or (document bytes) NotToml >>= λ ms. config_of (whole config_faults (table ms))
