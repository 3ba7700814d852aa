-- No configuration is refused for want of memory.
use Rattle.std.proofs.Common.{ℕ, pos, List, [], ◌∷◌, Bool, Option, Some, None, Ok, Err, ap, ◌∙◌}
use Rattle.std.specs.Prelude.{codes}
use Rattle.std.specs.Option.{ok_or}
use Rattle.toml.specs.Data.{Data, table}
use Rattle.toml_keys.specs.Document.{document}
use Rattle.toml_keys.specs.Keys.{Section, has_key, number_under, text_under, whole}
use Rattle.toml_keys.specs.Unknown.{unknown_key}
use Rattle.sram_plan.specs.declared.fault.ConfigFault.{ConfigFault}
use Rattle.sram_plan.specs.declared.fault.ConfigFault.TheVariants.{Memory, NotToml, UnknownKey}
use Rattle.sram_plan.specs.declared.config.Config.{Config}
use Rattle.sram_plan.specs.Config.{bank_counts, row_counts, word_counts}
use Rattle.sram_plan.specs.Configuration.{config_in, config_of, config_or_unknown, counts_in, known_keys, names_in, ports_in}
use Rattle.sram_plan.specs.Fault.{config_faults}
use Rattle.sram_plan.specs.Keys.{allowed, divisor_or_whole, divisor_under, file_text_under, listed_or, listed_under, natural, natural_under}
use Rattle.sram_plan.specs.Keys.{output_name_under}
use Rattle.read_answers.specs.ReadAnswers.{ConfigurationsLast}
use Rattle.read_answers.proofs.KeyLaws.{HasOthers, Lasts, err_lasts, if_lasts, number_lasts, ok_lasts, optional_lasts, or_lasts, range_lasts}
use Rattle.read_answers.proofs.KeyLaws.{text_lasts, then_lasts}

module _ (s : Section ConfigFault) (o : HasOthers Memory s) where
  natural_lasts : (low high : ℕ) (key : List ℕ) → Lasts Memory (natural_under low high s key)
  natural_lasts low high key =
      then_lasts Memory (number_under (pos low) (pos high) s key) (λ z. Ok (natural z)) (number_lasts Memory s o (pos low) (pos high) key)
      (λ z made. ok_lasts Memory (natural z))

  allowed_lasts : {X : Type 0} (test : Bool) (x : X) (key : List ℕ) → Lasts Memory (allowed test x s key)
  allowed_lasts {X} test x key = if_lasts Memory test _ _ (ok_lasts Memory x) (range_lasts Memory s o X key)

  listed_lasts : (values : List ℕ) (key : List ℕ) → Lasts Memory (listed_under values s key)
  unfolding listed_under
  listed_lasts values key = then_lasts Memory (natural_under 0 4294967295 s key) _ (natural_lasts 0 4294967295 key) (λ n made. allowed_lasts _ n key)

  listed_or_lasts : (absent : ℕ) (values : List ℕ) (key : List ℕ) → Lasts Memory (listed_or absent values s key)
  listed_or_lasts absent values key = if_lasts Memory (has_key s key) _ _ (listed_lasts values key) (ok_lasts Memory absent)

  divisor_lasts : (whole : ℕ) (key : List ℕ) → Lasts Memory (divisor_under whole s key)
  unfolding divisor_under
  divisor_lasts whole key = then_lasts Memory (natural_under 1 whole s key) _ (natural_lasts 1 whole key) (λ n made. allowed_lasts _ n key)

  divisor_or_lasts : (whole : ℕ) (key : List ℕ) → Lasts Memory (divisor_or_whole whole s key)
  divisor_or_lasts whole key = if_lasts Memory (has_key s key) _ _ (divisor_lasts whole key) (ok_lasts Memory whole)

  file_text_lasts : (key : List ℕ) → Lasts Memory (file_text_under s key)
  unfolding file_text_under
  file_text_lasts key = then_lasts Memory (text_under s key) _ (text_lasts Memory s o key) (λ text made. allowed_lasts _ text key)

  output_name_lasts : (key : List ℕ) → Lasts Memory (output_name_under s key)
  unfolding output_name_under
  output_name_lasts key = then_lasts Memory (text_under s key) _ (text_lasts Memory s o key) (λ text made. allowed_lasts _ text key)

  counts_last : Lasts Memory (counts_in s)
  unfolding counts_in
  counts_last =
      then_lasts Memory _ _ (natural_lasts 1 64 (codes "word_size"))
      (λ word_size made. then_lasts Memory _ _ (listed_lasts word_counts (codes "num_words"))
      (λ num_words made. then_lasts Memory _ _
      (optional_lasts Memory s o (listed_under row_counts) (codes "words_per_row") (listed_lasts row_counts (codes "words_per_row")))
      (λ words_per_row made. then_lasts Memory _ _ (listed_or_lasts 1 bank_counts (codes "num_banks")) (λ num_banks made. ok_lasts Memory _))))

  ports_last : Lasts Memory (ports_in s)
  unfolding ports_in
  ports_last =
      then_lasts Memory _ _ (listed_or_lasts 1 (1 ∷ []) (codes "num_rw_ports"))
      (λ both made. then_lasts Memory _ _ (listed_or_lasts 0 (0 ∷ []) (codes "num_r_ports"))
      (λ reading made. listed_or_lasts 0 (0 ∷ []) (codes "num_w_ports")))

  names_last : Lasts Memory (names_in s)
  unfolding names_in
  names_last =
      then_lasts Memory _ _ (file_text_lasts (codes "tech_name"))
      (λ tech_name made. then_lasts Memory _ _
      (optional_lasts Memory s o file_text_under (codes "output_path") (file_text_lasts (codes "output_path")))
      (λ output_path made. then_lasts Memory _ _ (output_name_lasts (codes "output_name")) (λ output_name made. ok_lasts Memory _)))

  config_lasts : Lasts Memory (config_in s)
  unfolding config_in
  config_lasts =
      then_lasts Memory (counts_in s) _ counts_last
      (λ counts made. then_lasts Memory (ports_in s) _ ports_last
      (λ ports made. then_lasts Memory (divisor_or_whole counts.word_size s (codes "write_size")) _
      (divisor_or_lasts counts.word_size (codes "write_size"))
      (λ write_size made. then_lasts Memory (names_in s) _ names_last (λ names made. ok_lasts Memory _))))

  known_last : (unknown : Option (List ℕ)) → Lasts Memory (config_or_unknown unknown s)
  known_last None = config_lasts
  known_last (Some key) = err_lasts Config Memory (UnknownKey key) (λ e. absurd (cc))

config_others : (d : Data) → HasOthers Memory (whole config_faults d)
config_others d = record { missing = λ key e. absurd (cc); wrong_kind = λ key e. absurd (cc); out_of_range = λ key e. absurd (cc) }

pub configurations_last : ConfigurationsLast
configurations_last bytes fault is same =
    then_lasts Memory (ok_or (document bytes) NotToml) (λ ms. config_of (whole config_faults (table ms)))
    (or_lasts Memory (document bytes) NotToml (λ e. absurd (cc)))
    (λ ms made. let s =
    whole config_faults (table ms) in known_last s (config_others (table ms)) (unknown_key known_keys s))
    (is ∙ ap (λ (f : ConfigFault). Err f) same)
