-- Names in a set.
use Rattle.std.proofs.Common.{◌≡◌, ℕ, List, [], ◌∷◌, ◌++◌, map, Bool, true, false, cond, ◌||◌, refl, sym, ap, ◌∙◌}
use Rattle.std.specs.List.{list_any}
use Rattle.std.specs.Str.{bytes_eq}
use Rattle.std.proofs.Math.Bool.{or-true}
use Rattle.std.proofs.lemmas.List.{map-append}
use Rattle.std.proofs.lemmas.Slice.Eq.{bytes_eq-Decides}
use Rattle.std.specs.declared.vec.Vec.{Vec}
use Rattle.std.specs.declared.alloc.Global.{Global}
use Rattle.indexmap.specs.IndexSet.{insert_key}
use Rattle.spice_text.specs.Words.{is_among, with_name}
use Rattle.spice_text.specs.NameLists.{bytes_of}

abbrev pub same_bytes : Vec ℕ Global → Vec ℕ Global → Bool
same_bytes v w = bytes_eq v.items w.items

-- the set's test is the names' own
pub among_keys : (v : Vec ℕ Global) (keys : List (Vec ℕ Global)) → list_any (same_bytes v) keys ≡ is_among v.items (map bytes_of keys)
among_keys v [] = refl
among_keys v (k ∷ keys) = ap (λ b. bytes_eq v.items k.items || b) (among_keys v keys)

pub among_slice : (name : List ℕ) (keys : List (Vec ℕ Global)) → list_any (λ (k : Vec ℕ Global). bytes_eq name k.items) keys ≡ is_among name (map bytes_of keys)
among_slice name [] = refl
among_slice name (k ∷ keys) = ap (λ b. bytes_eq name k.items || b) (among_slice name keys)

put : (b : Bool) (v : Vec ℕ Global) (keys : List (Vec ℕ Global)) → map bytes_of (cond b keys (keys ++ v ∷ [])) ≡ cond b (map bytes_of keys) (map bytes_of keys ++ v.items ∷ [])
put true v keys = refl
put false v keys = map-append bytes_of keys (v ∷ [])

-- a name more
pub key_more : (v : Vec ℕ Global) (keys : List (Vec ℕ Global)) → map bytes_of (insert_key same_bytes keys v) ≡ with_name (map bytes_of keys) v.items
key_more v keys = put (list_any (same_bytes v) keys) v keys ∙ ap (λ b. cond b (map bytes_of keys) (map bytes_of keys ++ v.items ∷ [])) (among_keys v keys)

-- one name more is among the names, or is the last
among_last : (x n : List ℕ) (names : List (List ℕ)) → is_among x (names ++ n ∷ []) ≡ (is_among x names || bytes_eq x n)
among_last x n [] = at (bytes_eq x n) where
  at : (b : Bool) → (b || false) ≡ b
  at true = refl
  at false = refl
among_last x n (m ∷ names) = at (bytes_eq x m) (among_last x n names) where
  at : (b : Bool) → is_among x (names ++ n ∷ []) ≡ (is_among x names || bytes_eq x n) → (b || is_among x (names ++ n ∷ [])) ≡ ((b || is_among x names) || bytes_eq x n)
  at true more = refl
  at false more = more

-- a set of the names of a list, with one name more in both
pub among_more : (names others : List (List ℕ)) (n : List ℕ) → ((x : List ℕ) → is_among x names ≡ is_among x others) → (x : List ℕ) → is_among x (with_name names n) ≡ is_among x (others ++ n ∷ [])
among_more names others n same x = at (is_among n names) refl ∙ sym (among_last x n others) where
  both : (b : Bool) → bytes_eq x n ≡ b → is_among n names ≡ true → is_among x names ≡ (is_among x others || bytes_eq x n)
  both true e there =
      let one : x ≡ n = (bytes_eq-Decides x n).0 e in
      ap (λ (y : List ℕ). is_among y names) one ∙ there ∙ sym (ap (λ b. is_among x others || b) e ∙ or-true (is_among x others))
  both false e there = same x ∙ sym (ap (λ b. is_among x others || b) e ∙ last (is_among x others)) where
    last : (b : Bool) → (b || false) ≡ b
    last true = refl
    last false = refl

  at : (b : Bool) → is_among n names ≡ b → is_among x (cond b names (names ++ n ∷ [])) ≡ (is_among x others || bytes_eq x n)
  at true there = both (bytes_eq x n) refl there
  at false there = among_last x n names ∙ ap (λ b. b || bytes_eq x n) (same x)
