-- What holds of the indices of named layers.
use Rattle.std.proofs.Common.{◌≡◌, ◌≢◌, ◌&&◌, ℕ, Bool, true, false, not, List, [], ◌∷◌, ◌++◌, length, get_or, Some, Ok, All, AllPairs, position, refl, sym, ap, subst, suc, append-nil, append_assoc, pos, arith, ◌∙◌}
use Rattle.std.specs.List.{AllZip}
use Rattle.std.specs.Str.{bytes_eq}
use Rattle.std.proofs.lemmas.List.Elements.{All-nil, All-cons}
use Rattle.std.proofs.lemmas.List.Kept.{AllPairs-cons}
use Rattle.std.proofs.lemmas.List.Quantifiers.{position-Some}
use Rattle.std.proofs.lemmas.Slice.Eq.{bytes_eq-Decides}
use Rattle.std.proofs.lemmas.Bool.{or_parts}
use Rattle.toml_keys.specs.Fault.{in_turn}
use Rattle.toml_keys.specs.Keys.{Section, text_under}
use Rattle.toml_keys.proofs.StepLaws.{steps_of, some_of}
use Rattle.tech_rules.specs.declared.fault.TechFault.{TechFault}
use Rattle.tech_rules.specs.declared.tech.Layer.{Layer}
use Rattle.tech_rules.specs.Facts.{IsLayerIndex}
use Rattle.tech_rules.specs.Layers.{is_named, layer_index_of, layer_under, layer_indices_of}
use Rattle.tech_rules.specs.Names.{holds, are_different, share_a_name}

-- the index is that of the first layer of this name
abbrev pub IsIndexOf : List Layer → List ℕ → ℕ → Type 0
IsIndexOf layers name index = position (is_named name) layers ≡ Some index

-- a layer that no technology has, to look up at
pub some_layer : Layer
some_layer = record { name = []; number = pos 0; datatype = pos 0; text_number = pos 0; texttype = pos 0 }

pub index_found : (layers : List Layer) (s : Section TechFault) (key name : List ℕ) (index : ℕ)
    → layer_index_of layers s key name ≡ Ok index → IsIndexOf layers name index
index_found layers s key name index made = some_of (position (is_named name) layers) _ index made

pub IsLayerIndex-of : (layers : List Layer) (name : List ℕ) (index : ℕ) → IsIndexOf layers name index
    → IsLayerIndex layers index
IsLayerIndex-of layers name index found = (position-Some (is_named name) layers index some_layer found).0

pub layer_under-IsLayerIndex : (layers : List Layer) (s : Section TechFault) (key : List ℕ) (index : ℕ)
    → layer_under layers s key ≡ Ok index → IsLayerIndex layers index
layer_under-IsLayerIndex layers s key index made =
    let t = steps_of (text_under s key) _ index made in
    IsLayerIndex-of layers t.x index (index_found layers s key t.x index t.next)

-- one name has one index, and one index one name
same_name : (layers : List Layer) (a b : List ℕ) (index : ℕ) → IsIndexOf layers a index → IsIndexOf layers b index
    → a ≡ b
same_name layers a b index of_a of_b =
    let at_a = (position-Some (is_named a) layers index some_layer of_a).1 in
    let at_b = (position-Some (is_named b) layers index some_layer of_b).1 in
    let is_a : (get_or layers index some_layer).name ≡ a = (bytes_eq-Decides (get_or layers index some_layer).name a).0 at_a in
    let is_b : (get_or layers index some_layer).name ≡ b = (bytes_eq-Decides (get_or layers index some_layer).name b).0 at_b in
    sym is_a ∙ is_b

-- each of the indices is that of its name
pub record ZipsAfter (layers : List Layer) (before : List ℕ) (names : List (List ℕ)) (indices : List ℕ) : Type 0 where
  pub rest : List ℕ
  pub is : indices ≡ before ++ rest
  pub named : AllZip (IsIndexOf layers) names rest

zips : (layers : List Layer) (s : Section TechFault) (key : List ℕ) (before : List ℕ) (names : List (List ℕ)) (indices : List ℕ)
    → in_turn (λ _ name. layer_index_of layers s key name) before names ≡ Ok indices
    → ZipsAfter layers before names indices
unfolding in_turn
zips layers s key before [] indices made = let same : indices ≡ before = cc in record { rest = []; is = same ∙ sym (append-nil before); named = tt }
zips layers s key before (name ∷ names) indices made =
    let t = steps_of (layer_index_of layers s key name) (λ p. in_turn (λ _ n. layer_index_of layers s key n) (before ++ p ∷ []) names) indices made in
    let more = zips layers s key (before ++ t.x ∷ []) names indices t.next in
    record { rest = t.x ∷ more.rest; is = more.is ∙ append_assoc before (t.x ∷ []) more.rest; named = (index_found layers s key name t.x t.first, more.named) }

pub indices_named : (layers : List Layer) (s : Section TechFault) (key : List ℕ) (names : List (List ℕ)) (indices : List ℕ)
    → layer_indices_of layers s key names ≡ Ok indices → AllZip (IsIndexOf layers) names indices
indices_named layers s key names indices made =
    let z = zips layers s key [] names indices made in
    subst (AllZip (IsIndexOf layers) names) (sym z.is) z.named

pub indices_are : (layers : List Layer) (names : List (List ℕ)) (indices : List ℕ)
    → AllZip (IsIndexOf layers) names indices → All (IsLayerIndex layers) indices
indices_are layers [] [] named = All-nil (IsLayerIndex layers)
indices_are layers [] (p ∷ ps) named = absurd named
indices_are layers (n ∷ ns) [] named = absurd named
indices_are layers (n ∷ ns) (p ∷ ps) named = All-cons (IsLayerIndex layers) p ps (IsLayerIndex-of layers n p named.0) (indices_are layers ns ps named.1)

pub indices_as_many : (layers : List Layer) (names : List (List ℕ)) (indices : List ℕ)
    → AllZip (IsIndexOf layers) names indices → length indices ≡ length names
indices_as_many layers [] [] named = refl
indices_as_many layers [] (p ∷ ps) named = absurd named
indices_as_many layers (n ∷ ns) [] named = absurd named
indices_as_many layers (n ∷ ns) (p ∷ ps) named = ap (λ (k : ℕ). suc k) (indices_as_many layers ns ps named.1)

-- a layer whose name isn't among the names has none of their indices
pub others : (layers : List Layer) (name : List ℕ) (index : ℕ) (names : List (List ℕ)) (indices : List ℕ)
    → IsIndexOf layers name index → AllZip (IsIndexOf layers) names indices → holds name names ≡ false
    → All (λ q. q ≢ index) indices
others layers name index [] [] here named none = All-nil (λ q. q ≢ index)
others layers name index [] (p ∷ ps) here named none = absurd named
others layers name index (n ∷ ns) [] here named none = absurd named
others layers name index (n ∷ ns) (p ∷ ps) here named none =
    let parts = or_parts (bytes_eq n name) (holds name ns) none in
    All-cons (λ q. q ≢ index) p ps
    (λ same. let twice = same_name layers n name index (subst (IsIndexOf layers n) same named.0) here in
    let equal : bytes_eq n name ≡ true = (bytes_eq-Decides n name).1 twice in
    let unequal = parts.0 in cc)
    (others layers name index ns ps here named.1 parts.1)

not_true : (a b : Bool) → (not a && b) ≡ true → (a ≡ false) × (b ≡ true)
not_true true b met = cc
not_true false b met = (refl, met)

pub differ : (layers : List Layer) (names : List (List ℕ)) (indices : List ℕ) → AllZip (IsIndexOf layers) names indices
    → are_different names ≡ true → AllPairs (λ a b. a ≢ b) indices
differ layers [] [] named all = λ i j d below inside. absurd (omega arith)
differ layers [] (p ∷ ps) named all = absurd named
differ layers (n ∷ ns) [] named all = absurd named
differ layers (n ∷ ns) (p ∷ ps) named all =
    let parts = not_true (holds n ns) (are_different ns) all in
    AllPairs-cons (λ (a b : ℕ). a ≢ b) p ps
    (λ k d lt same. others layers n p ns ps named.0 named.1 parts.0 k d lt (sym same))
    (differ layers ns ps named.1 parts.1)

-- names that share none have indices that share none
pub apart : (layers : List Layer) (names taken : List (List ℕ)) (indices other_indices : List ℕ)
    → AllZip (IsIndexOf layers) names indices → AllZip (IsIndexOf layers) taken other_indices
    → share_a_name names taken ≡ false → All (λ a. All (λ b. a ≢ b) other_indices) indices
apart layers [] taken [] qs named other none = All-nil (λ a. All (λ b. a ≢ b) qs)
apart layers [] taken (p ∷ ps) qs named other none = absurd named
apart layers (n ∷ ns) taken [] qs named other none = absurd named
apart layers (n ∷ ns) taken (p ∷ ps) qs named other none =
    let parts = or_parts (holds n taken) (share_a_name ns taken) none in
    All-cons (λ a. All (λ b. a ≢ b) qs) p ps
    (λ k d lt same. others layers n p taken qs named.0 other parts.0 k d lt (sym same))
    (apart layers ns taken ps qs named.1 other parts.1)
