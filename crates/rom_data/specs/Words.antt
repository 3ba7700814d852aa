-- The words of a data file.
use Rattle.std.specs.Prelude.{◌≡◌, ◌≢◌, ℕ, ◌+◌, ◌*◌, ◌/◌, ◌^◌, ◌<◌, List, [], ◌∷◌, length, take, drop, slice_index}
use Rattle.sram_plan.specs.declared.numbers.Plan.{Plan}
use Rattle.rom_data.specs.declared.fault.RomFault.{RomFault}
use Rattle.rom_data.specs.declared.fault.RomFault.TheVariants.{DataLength, DataBits, Memory}

-- so many bytes hold a word of so many bits
abbrev pub bytes_per_word : ℕ → ℕ
bytes_per_word word_size = (word_size + 7) / 8

-- the words of all addresses have so many bytes
abbrev pub data_length : Plan → ℕ
data_length plan = plan.num_words * bytes_per_word plan.word_size

-- the number whose bytes these are, the lowest first
abbrev pub little_endian : List ℕ → ℕ
little_endian [] = 0
little_endian (byte ∷ bytes) = byte + 256 * little_endian bytes

-- the word at an address: its bytes stand behind those of the words before it
abbrev pub data_word : Plan → List ℕ → ℕ → ℕ
data_word plan bytes address = let size = bytes_per_word plan.word_size in little_endian (take size (drop (address * size) bytes))

-- the word has no bit at or above word_size
abbrev pub FitsWord : ℕ → ℕ → Type 0
FitsWord word_size word = word < 2 ^ word_size

-- a word for each address, each of word_size bits
pub record AreRomWords (plan : Plan) (words : List ℕ) : Type 0 where
  pub count : length words ≡ plan.num_words
  pub fit : (address : ℕ) → address < plan.num_words → FitsWord plan.word_size (slice_index words address)

-- the bytes are those of these words in order
pub record AreWordsOf (plan : Plan) (bytes words : List ℕ) : Type 0 where
  pub whole : length bytes ≡ data_length plan
  pub stored : AreRomWords plan words
  pub each : (address : ℕ) → address < plan.num_words → slice_index words address ≡ data_word plan bytes address

-- the word at this address doesn't fit, and those before it do
pub record IsFirstWide (plan : Plan) (bytes : List ℕ) (address : ℕ) : Type 0 where
  pub whole : length bytes ≡ data_length plan
  pub there : address < plan.num_words
  pub wide : ¬ FitsWord plan.word_size (data_word plan bytes address)
  pub earlier : (before : ℕ) → before < address → FitsWord plan.word_size (data_word plan bytes before)

-- why bytes aren't the words of a plan
abbrev pub IsRomFault : Plan → List ℕ → RomFault → Type 0
IsRomFault plan bytes (DataLength count) = (count ≡ length bytes) × (length bytes ≢ data_length plan)
IsRomFault plan bytes (DataBits word) = IsFirstWide plan bytes word
IsRomFault plan bytes Memory = Unit {0}
