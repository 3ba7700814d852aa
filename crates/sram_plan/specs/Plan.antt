-- The plan of a configuration.
use Rattle.std.specs.Prelude.{◌≡◌, ℕ, ◌*◌, ◌/◌, ◌%◌, ◌<◌, ◌≤◌, ◌^◌, ◌⊎◌, ◌==◌, List, [], ◌∷◌, Option, MatchOption, if◌then◌else◌}
use Rattle.std.specs.Int.{abs_diff}
use Rattle.sram_netlist.specs.Membership.{IsOneOf}
use Rattle.sram_plan.specs.declared.config.Config.{Config}
use Rattle.sram_plan.specs.declared.numbers.Plan.{Plan}
use Rattle.sram_plan.specs.Config.{row_counts}

-- rows and columns of a bank with so many words in a row
abbrev pub rows_with : Config → ℕ → ℕ
rows_with config wpr = config.num_words / (config.num_banks * wpr)

abbrev pub columns_with : Config → ℕ → ℕ
columns_with config wpr = config.word_size * wpr

-- a bank can have so many words in a row
pub record FitsBank (config : Config) (wpr : ℕ) : Type 0 where
  pub whole : config.num_words % (config.num_banks * wpr) ≡ 0
  pub some_rows : 16 ≤ rows_with config wpr
  pub few_rows : rows_with config wpr ≤ 256
  pub few_columns : columns_with config wpr ≤ 256

-- how far the counts of rows and columns are from each other
abbrev pub distance : Config → ℕ → ℕ
distance config wpr = abs_diff (rows_with config wpr) (columns_with config wpr)

-- the counts of words that a row may have
abbrev pub candidates : List ℕ
candidates = row_counts

-- nearer, or as near and no larger
abbrev pub IsNoFarther : Config → ℕ → ℕ → Type 0
IsNoFarther config wpr other = (distance config wpr < distance config other) ⊎ ((distance config wpr ≡ distance config other) × (wpr ≤ other))

-- of the counts that fit it makes rows and columns as near each other as can be, and is the smaller of two that do
pub record IsNearest (config : Config) (ws : List ℕ) (wpr : ℕ) : Type 0 where
  pub among : IsOneOf wpr ws
  pub fits : FitsBank config wpr
  pub nearest : (other : ℕ) → IsOneOf other ws → FitsBank config other → IsNoFarther config wpr other

-- the nearest of the counts, or none where none fits
abbrev pub NearestAmong : Config → List ℕ → Option ℕ → Type 0
NearestAmong config ws found = MatchOption found ((wpr : ℕ) → IsOneOf wpr ws → ¬ FitsBank config wpr) (λ wpr. IsNearest config ws wpr)

-- counts below another
abbrev pub AreSmaller : List ℕ → ℕ → Type 0
AreSmaller ws wpr = (w : ℕ) → IsOneOf w ws → w < wpr

-- the count of words in a row: the given one, which fits, or else the nearest
abbrev pub IsWordsPerRow : Config → ℕ → Type 0
IsWordsPerRow config wpr = MatchOption config.words_per_row (IsNearest config candidates wpr) (λ given. (wpr ≡ given) × FitsBank config wpr)

-- no masks where words are written whole
abbrev pub masks_of : Config → ℕ
masks_of config = if config.write_size == config.word_size then 0 else config.word_size / config.write_size

-- the groups of row bits, low bits first: 4 as 2 and 2, 5 as 2 and 3, 6 as 3 and 3, 7 as 2, 2 and 3, 8 as 2, 3 and 3
abbrev pub row_groups : ℕ → List ℕ
row_groups rows =
    if rows == 16 then 2 ∷ 2 ∷ 0 ∷ []
    else (if rows == 32 then 2 ∷ 3 ∷ 0 ∷ []
    else (if rows == 64 then 3 ∷ 3 ∷ 0 ∷ []
    else (if rows == 128 then 2 ∷ 2 ∷ 3 ∷ []
    else 2 ∷ 3 ∷ 3 ∷ [])))

-- the numbers of the plan with so many words in a row
pub record IsPlanWith (config : Config) (w : ℕ) (plan : Plan) : Type 0 where
  pub wpr : plan.wpr ≡ w
  pub word_size : plan.word_size ≡ config.word_size
  pub write_size : plan.write_size ≡ config.write_size
  pub masks : plan.masks ≡ masks_of config
  pub banks : plan.banks ≡ config.num_banks
  pub num_words : plan.num_words ≡ config.num_words
  pub rows : plan.rows ≡ rows_with config w
  pub columns : plan.columns ≡ columns_with config w
  pub addr_bits : 2 ^ plan.addr_bits ≡ config.num_words
  pub col_bits : 2 ^ plan.col_bits ≡ w
  pub bank_bits : 2 ^ plan.bank_bits ≡ config.num_banks
  pub groups : plan.groups ≡ row_groups (rows_with config w)

-- the plan of the configuration
pub record IsPlanOf (config : Config) (plan : Plan) : Type 0 where
  pub chosen : IsWordsPerRow config plan.wpr
  pub with : IsPlanWith config plan.wpr plan

-- a configuration has one plan at most
abbrev pub PlansAreOne : Type 0
PlansAreOne = (config : Config) (p q : Plan) → IsPlanOf config p → IsPlanOf config q → p ≡ q
