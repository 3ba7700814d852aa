-- What stands under the keys of a TOML document, and the fault where it isn't what it has to be.
use Rattle.std.specs.Prelude.{ℕ, ℤ, ◌≤ℤ◌, Bool, ◌&&◌, ◌||◌, nat_le, List, [], ◌∷◌, ◌++◌, length, Option, Some, None, Result, Ok, Err, if◌then◌else◌, is_some, codes}
use Rattle.std.specs.Option.{ok_or, option_map}
use Rattle.std.specs.List.{list_all}
use Rattle.std.specs.Fmt.{decimal}
use Rattle.std.specs.Ordering.{int_cmp, is_lt}
use Rattle.toml.specs.Data.{Data, Items, no_items, item, get, as_str, as_array, as_table, as_integer}
use Rattle.toml_keys.specs.Fault.{KeyFaults, ◌>>=◌, in_turn}

-- an array's items as a list
abbrev pub list_of : Items → List Data
list_of no_items = []
list_of (item d ds) = d ∷ list_of ds

abbrev pub as_list : Data → Option (List Data)
as_list d = option_map list_of (as_array d)

abbrev pub is_table : Data → Bool
is_table d = is_some (as_table d)

abbrev pub is_integer : Data → Bool
is_integer d = is_some (as_integer d)

-- the number, if it lies from low to high
abbrev pub in_range : ℤ → ℤ → ℤ → Option ℤ
in_range low high z = if is_lt (int_cmp z low) || is_lt (int_cmp high z) then None else Some z

-- the number lies from low to high
pub record IsInRange (low high z : ℤ) : Type 0 where
  pub from : low ≤ℤ z
  pub to : z ≤ℤ high

-- a table of the document, the text that stands before its keys in a fault, and the faults
pub record Section (F : Type 0) : Type 0 where
  pub path : List ℕ
  pub table : Data
  pub faults : KeyFaults F

-- the document itself
abbrev pub whole : {F : Type 0} → KeyFaults F → Data → Section F
whole faults d = record { path = []; table = d; faults = faults }

-- a key as a fault names it
abbrev pub key_in : {F : Type 0} → Section F → List ℕ → List ℕ
key_in s key = s.path ++ key

-- the faults of a key
abbrev pub missing : {F : Type 0} → Section F → List ℕ → F
missing s key = s.faults.missing (key_in s key)

abbrev pub wrong_kind : {F : Type 0} → Section F → List ℕ → F
wrong_kind s key = s.faults.wrong_kind (key_in s key)

abbrev pub out_of_range : {F : Type 0} → Section F → List ℕ → F
out_of_range s key = s.faults.out_of_range (key_in s key)

-- something stands under the key
abbrev pub has_key : {F : Type 0} → Section F → List ℕ → Bool
has_key s key = is_some (get key s.table)

-- the value of a key that has to be there
abbrev pub value_under : {F : Type 0} → Section F → List ℕ → Result Data F
value_under s key = ok_or (get key s.table) (missing s key)

-- the value of a key, of this kind
abbrev pub kind_under : {F X : Type 0} → (Data → Option X) → Section F → List ℕ → Result X F
kind_under kind s key = value_under s key >>= λ d. ok_or (kind d) (wrong_kind s key)

abbrev pub text_under : {F : Type 0} → Section F → List ℕ → Result (List ℕ) F
text_under s key = kind_under as_str s key

-- a whole number from low to high
abbrev pub number_under : {F : Type 0} → ℤ → ℤ → Section F → List ℕ → Result ℤ F
number_under low high s key = kind_under as_integer s key >>= λ z. ok_or (in_range low high z) (out_of_range s key)

abbrev pub array_under : {F : Type 0} → Section F → List ℕ → Result (List Data) F
array_under s key = kind_under as_list s key

-- an array of which each item is of this kind
abbrev pub array_of : {F : Type 0} → (Data → Bool) → Section F → List ℕ → Result (List Data) F
array_of is_kind s key = array_under s key >>= λ ds. if list_all is_kind ds then Ok ds else Err (wrong_kind s key)

-- an item of an array of texts
abbrev pub text_in : {F : Type 0} → Section F → List ℕ → Data → Result (List ℕ) F
text_in s key d = ok_or (as_str d) (wrong_kind s key)

-- an array of texts
abbrev pub texts_under : {F : Type 0} → Section F → List ℕ → Result (List (List ℕ)) F
texts_under s key = array_under s key >>= in_turn (λ _ d. text_in s key d) []

-- the list, if it has as many items as it may have
abbrev pub counted : {F X : Type 0} → ℕ → ℕ → Section F → List ℕ → List X → Result (List X) F
counted low high s key xs = if nat_le low (length xs) && nat_le (length xs) high then Ok xs else Err (out_of_range s key)

-- an array of so many tables
abbrev pub tables_under : {F : Type 0} → ℕ → ℕ → Section F → List ℕ → Result (List Data) F
tables_under low high s key = array_of is_table s key >>= counted low high s key

-- the same, or no tables where the key isn't there
abbrev pub optional_tables : {F : Type 0} → ℕ → Section F → List ℕ → Result (List Data) F
optional_tables high s key = if has_key s key then tables_under 0 high s key else Ok []

-- what a key gives, or nothing where the key isn't there
abbrev pub optional : {F X : Type 0} → (Section F → List ℕ → Result X F) → Section F → List ℕ → Result (Option X) F
optional under s key = if has_key s key then (under s key >>= λ x. Ok (Some x)) else Ok None

-- the table at this index of an array of tables
abbrev pub item_section : {F : Type 0} → Section F → List ℕ → ℕ → Data → Section F
item_section s array index d = record { path = s.path ++ (array ++ (codes "." ++ (decimal index ++ codes "."))); table = d; faults = s.faults }

-- a table that stands under this key
abbrev pub section_at : {F : Type 0} → Section F → List ℕ → Data → Section F
section_at s key d = record { path = s.path ++ (key ++ codes "."); table = d; faults = s.faults }

abbrev pub section_under : {F : Type 0} → Section F → List ℕ → Result (Section F) F
section_under s key =
    value_under s key >>= λ d.
    if is_table d then Ok (section_at s key d) else Err (wrong_kind s key)
