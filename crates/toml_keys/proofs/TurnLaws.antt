-- Going over a slice of values from one to the next.
use Rattle.std.proofs.Common.{◌≡◌, ◌≢◌, ℕ, ◌+◌, ◌<◌, ◌≤◌, Bool, true, false, filter, List, [], ◌∷◌, ◌++◌, length, get_or, drop, map, Result, Ok, Err, refl, sym, ap, ◌∙◌}
use Rattle.std.proofs.lemmas.List.{at_drop_more, at_drop_all}
use Rattle.toml_keys.specs.Fault.{in_turn}

module _ {F V A B : Type 0} (see : V → A) (step : List B → A → Result B F) where
  -- what the values give after some items that are made already
  abbrev pub rest_of : List B → List V → Result (List B) F
  rest_of before vs = in_turn step before (map see vs)

  at_value : (before : List B) (vs : List V) (i : ℕ) (v : V) (d : V) → i < length vs → v ≡ get_or vs i d
      → rest_of before (drop i vs) ≡ rest_of before (v ∷ drop (i + 1) vs)
  at_value before vs i v d lt is = at_drop_more (rest_of before) vs i d lt ∙ ap (λ (x : V). rest_of before (x ∷ drop (i + 1) vs)) (sym is)

  pub goes_on : (before : List B) (vs : List V) (i : ℕ) (v : V) (d : V) (y : B) (total : Result (List B) F)
      → i < length vs → v ≡ get_or vs i d → step before (see v) ≡ Ok y
      → rest_of before (drop i vs) ≡ total → rest_of (before ++ y ∷ []) (drop (i + 1) vs) ≡ total
  unfolding in_turn
  goes_on before vs i v d y total lt is made so_far =
      let one : rest_of before (v ∷ drop (i + 1) vs) ≡ rest_of (before ++ y ∷ []) (drop (i + 1) vs) = rw made refl in
      sym one ∙ sym (at_value before vs i v d lt is) ∙ so_far

  pub stops : {memory : F} (before : List B) (vs : List V) (i : ℕ) (v : V) (d : V) (e : F) (total : Result (List B) F)
      → i < length vs → v ≡ get_or vs i d → (e ≢ memory → step before (see v) ≡ Err e)
      → rest_of before (drop i vs) ≡ total → e ≢ memory → total ≡ Err e
  unfolding in_turn
  stops before vs i v d e total lt is fails so_far other =
      let failed = fails other in
      let one : rest_of before (v ∷ drop (i + 1) vs) ≡ Err e = rw failed refl in
      sym so_far ∙ at_value before vs i v d lt is ∙ one

  pub is_over : (before : List B) (vs : List V) (i : ℕ) (total : Result (List B) F) → length vs ≤ i
      → rest_of before (drop i vs) ≡ total → total ≡ Ok before
  unfolding in_turn
  is_over before vs i total le so_far = sym so_far ∙ at_drop_all (rest_of before) vs i le

-- the same, over those values alone that pass a test
module _ {F V A B : Type 0} (see : V → A) (passes : A → Bool) (step : List B → A → Result B F) where
  abbrev pub picked_of : List B → List V → Result (List B) F
  picked_of before vs = in_turn step before (filter passes (map see vs))

  at_picked : (before : List B) (vs : List V) (i : ℕ) (v : V) (d : V) → i < length vs → v ≡ get_or vs i d
      → picked_of before (drop i vs) ≡ picked_of before (v ∷ drop (i + 1) vs)
  at_picked before vs i v d lt is = at_drop_more (picked_of before) vs i d lt ∙ ap (λ (x : V). picked_of before (x ∷ drop (i + 1) vs)) (sym is)

  pub skips : (before : List B) (vs : List V) (i : ℕ) (v : V) (d : V) (total : Result (List B) F) → i < length vs
      → v ≡ get_or vs i d → passes (see v) ≡ false
      → picked_of before (drop i vs) ≡ total → picked_of before (drop (i + 1) vs) ≡ total
  skips before vs i v d total lt is not_picked so_far =
      let one : picked_of before (v ∷ drop (i + 1) vs) ≡ picked_of before (drop (i + 1) vs) = rw not_picked refl in
      sym one ∙ sym (at_picked before vs i v d lt is) ∙ so_far

  pub picks : (before : List B) (vs : List V) (i : ℕ) (v : V) (d : V) (y : B) (total : Result (List B) F)
      → i < length vs → v ≡ get_or vs i d → passes (see v) ≡ true → step before (see v) ≡ Ok y
      → picked_of before (drop i vs) ≡ total → picked_of (before ++ y ∷ []) (drop (i + 1) vs) ≡ total
  unfolding in_turn
  picks before vs i v d y total lt is picked made so_far =
      let one : picked_of before (v ∷ drop (i + 1) vs) ≡ picked_of (before ++ y ∷ []) (drop (i + 1) vs) = rw (picked, made) refl in
      sym one ∙ sym (at_picked before vs i v d lt is) ∙ so_far

  pub picked_fails : {memory : F} (before : List B) (vs : List V) (i : ℕ) (v : V) (d : V) (e : F) (total : Result (List B) F)
      → i < length vs → v ≡ get_or vs i d → passes (see v) ≡ true → (e ≢ memory → step before (see v) ≡ Err e)
      → picked_of before (drop i vs) ≡ total → e ≢ memory → total ≡ Err e
  unfolding in_turn
  picked_fails before vs i v d e total lt is picked fails so_far other =
      let failed = fails other in
      let one : picked_of before (v ∷ drop (i + 1) vs) ≡ Err e = rw (picked, failed) refl in
      sym so_far ∙ at_picked before vs i v d lt is ∙ one

  pub all_picked : (before : List B) (vs : List V) (i : ℕ) (total : Result (List B) F) → length vs ≤ i
      → picked_of before (drop i vs) ≡ total → total ≡ Ok before
  unfolding in_turn
  all_picked before vs i total le so_far = sym so_far ∙ at_drop_all (picked_of before) vs i le
