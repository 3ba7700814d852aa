-- Arrays as lists.
use Rattle.std.proofs.Common.{◌≡◌, ℕ, true, eqb, List, [], ◌∷◌, length, Some, refl, sym, ap}
use Rattle.std.specs.Str.{IsUtf8}
use Rattle.std.specs.Str.Lossy.{utf8_valid_len}
use Rattle.std.proofs.lemmas.Bool.{eq-eqb}
use Rattle.std.proofs.lemmas.Str.{utf8_valid_len-IsUtf8}
use Rattle.std.proofs.lemmas.List.{length-map}
use Rattle.std.proofs.lemmas.List.Folds.{list_all-map}
use Rattle.toml.specs.Data.{Data, as_array}
use Rattle.toml.specs.View.{items_of}
use Rattle.toml.specs.Parse.{parse_document}
use Rattle.toml_keys.specs.Keys.{list_of, as_list}
use Rattle.toml_keys.specs.Document.{document}

pub list_of-items_of : (xs : List Data) → list_of (items_of xs) ≡ xs
list_of-items_of [] = refl
list_of-items_of (x ∷ xs) = ap (λ (ys : List Data). x ∷ ys) (list_of-items_of xs)

-- the list of an array's values
pub found_list : (value : Data) (xs : List Data) → Some (items_of xs) ≡ as_array value → Some xs ≡ as_list value
found_list value xs found = let back = sym found in rw back (ap (λ (ys : List Data). Some ys) (sym (list_of-items_of xs)))

-- tests and lengths of values seen as data
pub ruleset of_views = (list_all-map, length-map)

-- bytes that are UTF-8 are the document that they are as a text
pub in_utf8 : (bytes : List ℕ) → IsUtf8 bytes → document bytes ≡ parse_document bytes
in_utf8 bytes utf8 = let same : eqb (utf8_valid_len bytes) (length bytes) ≡ true = eq-eqb _ _ (utf8_valid_len-IsUtf8 bytes utf8) in rw same refl
