-- The nets of the column channel, by their numbers.
use Rattle.std.proofs.Common.{◌≡◌, ◌⊎◌, inl, inr, ℕ, zero, suc, ◌+◌, ◌-◌, ◌*◌, ◌<◌, ◌≤◌, Bool, true, false, List, [], ◌∷◌, ◌++◌, map, length, Some, refl, ap, sym, ◌∙◌, zero-add, arith}
use Rattle.std.specs.Prelude.{slice_get}
use Rattle.std.specs.List.{flat_map}
use Rattle.std.proofs.lemmas.Bool.{cases_lt}
use Rattle.std.proofs.lemmas.Option.{same_Some, slice_get_within}
use Rattle.sram_netlist.specs.Organization.{Organization, power_of_two}
use Rattle.sram_netlist.specs.Nets.{Net, Line, Bl, Br, Lo, Ro}
use Rattle.sram_netlist.specs.Netlist.{lo_net, ro_net}
use Rattle.sram_netlist.specs.InstanceList.{numbers_from, tabulate_lists}
use Rattle.macro_layout.specs.Floorplan.{choice_count}
use Rattle.macro_layout.specs.Pins.{choice_nets, slice_nets, column_nets}
use Rattle.port_data.proofs.ChannelLaws.{halves}

-- what stands in lists that are made number by number

pub table_long : {X : Type 0} (f : ℕ → X) (k n : ℕ) → length (map f (numbers_from k n)) ≡ n
table_long f k zero = refl
table_long f k (suc n) = ap suc (table_long f (suc k) n)

table_at : {X : Type 0} (f : ℕ → X) (k n i : ℕ) → i < n → slice_get (map f (numbers_from k n)) i ≡ Some (f (k + i))
table_at f k zero i lt = absurd (omega (arith, lt))
table_at f k (suc n) zero lt = ap (λ (m : ℕ). Some (f m)) (omega arith)
table_at f k (suc n) (suc i) lt = table_at f (suc k) n i (omega (arith, lt)) ∙ ap (λ (m : ℕ). Some (f m)) (omega arith)

abbrev pair_of : {X : Type 0} → (ℕ → X) → (ℕ → X) → ℕ → List X
pair_of a b i = a i ∷ b i ∷ []

pairs_long : {X : Type 0} (a b : ℕ → X) (k n : ℕ) → length (flat_map (pair_of a b) (numbers_from k n)) ≡ 2 * n
pairs_long a b k zero = refl
pairs_long a b k (suc n) = let more = pairs_long a b (suc k) n in omega (arith, more)

first_at : {X : Type 0} (a b : ℕ → X) (k n i : ℕ) → i < n → slice_get (flat_map (pair_of a b) (numbers_from k n)) (2 * i) ≡ Some (a (k + i))
first_at a b k zero i lt = absurd (omega (arith, lt))
first_at a b k (suc n) zero lt = ap (λ (m : ℕ). Some (a m)) (omega arith)
first_at a b k (suc n) (suc i) lt =
    let e : 2 * suc i ≡ suc (suc (2 * i)) = omega arith in
    ap (λ (m : ℕ). slice_get (flat_map (pair_of a b) (numbers_from k (suc n))) m) e ∙ (first_at a b (suc k) n i (omega (arith, lt)) ∙ ap (λ (m : ℕ). Some (a m)) (omega arith))

second_at : {X : Type 0} (a b : ℕ → X) (k n i : ℕ) → i < n → slice_get (flat_map (pair_of a b) (numbers_from k n)) (2 * i + 1) ≡ Some (b (k + i))
second_at a b k zero i lt = absurd (omega (arith, lt))
second_at a b k (suc n) zero lt = ap (λ (m : ℕ). Some (b m)) (omega arith)
second_at a b k (suc n) (suc i) lt =
    let e : 2 * suc i + 1 ≡ suc (suc (2 * i + 1)) = omega arith in
    ap (λ (m : ℕ). slice_get (flat_map (pair_of a b) (numbers_from k (suc n))) m) e ∙ (second_at a b (suc k) n i (omega (arith, lt)) ∙ ap (λ (m : ℕ). Some (b m)) (omega arith))

in_front : {X : Type 0} (xs ys : List X) (i : ℕ) → i < length xs → slice_get (xs ++ ys) i ≡ slice_get xs i
in_front [] ys i lt = absurd (omega (arith, lt))
in_front (x ∷ xs) ys zero lt = refl
in_front (x ∷ xs) ys (suc i) lt = in_front xs ys i (omega (arith, lt))

pub behind : {X : Type 0} (xs ys : List X) (n i : ℕ) → n ≡ length xs + i → slice_get (xs ++ ys) n ≡ slice_get ys i
behind [] ys n i e = ap (slice_get ys) (let same : n ≡ i = omega (arith, e) in same)
behind (x ∷ xs) ys zero i e = absurd (omega (arith, e))
behind (x ∷ xs) ys (suc n) i e = behind xs ys n i (omega (arith, e))

-- the nets

pub choices_long : (bits : ℕ) → length (choice_nets bits) ≡ choice_count bits
choices_long zero = refl
choices_long (suc n) = table_long (Line 0 (suc n)) 0 (power_of_two (suc n))

pub choice_at : (bits k : ℕ) → k < choice_count bits → slice_get (choice_nets bits) k ≡ Some (Line 0 bits k)
choice_at zero k lt = absurd (omega (arith, lt))
choice_at (suc n) k lt = table_at (Line 0 (suc n)) 0 (power_of_two (suc n)) k lt ∙ ap (λ (m : ℕ). Some (Line 0 (suc n) m)) (zero-add k)

pub nets_long : (plan : Organization) → length (column_nets plan) ≡ choice_count plan.col_bits + 2 * plan.word_size
nets_long plan =
    let choices = choices_long plan.col_bits in
    let pairs = pairs_long (lo_net plan.col_bits 0) (ro_net plan.col_bits 0) 0 plan.word_size in
    length_both (choice_nets plan.col_bits) (tabulate_lists plan.word_size (slice_nets plan)) ∙ (λ i. choices i + pairs i)
  where
    length_both : {X : Type 0} (xs ys : List X) → length (xs ++ ys) ≡ length xs + length ys
    length_both [] ys = omega arith
    length_both (x ∷ xs) ys = let more = length_both xs ys in omega (arith, more)

pub choice_numbered : (plan : Organization) (k : ℕ) → k < choice_count plan.col_bits → slice_get (column_nets plan) k ≡ Some (Line 0 plan.col_bits k)
choice_numbered plan k lt =
    let long = choices_long plan.col_bits in
    in_front (choice_nets plan.col_bits) (tabulate_lists plan.word_size (slice_nets plan)) k (omega (arith, long, lt)) ∙ choice_at plan.col_bits k lt

pub lo_numbered : (plan : Organization) (i : ℕ) → i < plan.word_size → slice_get (column_nets plan) (choice_count plan.col_bits + 2 * i) ≡ Some (lo_net plan.col_bits 0 i)
lo_numbered plan i lt =
    let long = choices_long plan.col_bits in
    behind (choice_nets plan.col_bits) (tabulate_lists plan.word_size (slice_nets plan)) (choice_count plan.col_bits + 2 * i) (2 * i) (omega (arith, long)) ∙ (first_at (lo_net plan.col_bits 0) (ro_net plan.col_bits 0) 0 plan.word_size i lt ∙ ap (λ (m : ℕ). Some (lo_net plan.col_bits 0 m)) (zero-add i))

pub ro_numbered : (plan : Organization) (i : ℕ) → i < plan.word_size → slice_get (column_nets plan) (choice_count plan.col_bits + 2 * i + 1) ≡ Some (ro_net plan.col_bits 0 i)
ro_numbered plan i lt =
    let long = choices_long plan.col_bits in
    behind (choice_nets plan.col_bits) (tabulate_lists plan.word_size (slice_nets plan)) (choice_count plan.col_bits + 2 * i + 1) (2 * i + 1) (omega (arith, long)) ∙ (second_at (lo_net plan.col_bits 0) (ro_net plan.col_bits 0) 0 plan.word_size i lt ∙ ap (λ (m : ℕ). Some (ro_net plan.col_bits 0 m)) (zero-add i))

-- a choice of this number, or one of the lines of a bit
pub record IsChoiceNet (plan : Organization) (number : ℕ) (net : Net) : Type 0 where
  pub below : number < choice_count plan.col_bits
  pub is : net ≡ Line 0 plan.col_bits number

pub record IsLineNet (plan : Organization) (line : ℕ → ℕ → ℕ → Net) (odd number : ℕ) (net : Net) : Type 0 where
  pub bit : ℕ
  pub below : bit < plan.word_size
  pub at : number ≡ choice_count plan.col_bits + 2 * bit + odd
  pub is : net ≡ line plan.col_bits 0 bit

abbrev pub IsColumnNet : Organization → ℕ → Net → Type 0
IsColumnNet plan number net = IsChoiceNet plan number net ⊎ (IsLineNet plan lo_net 0 number net ⊎ IsLineNet plan ro_net 1 number net)

pub column_net : (plan : Organization) (number : ℕ) (net : Net) → slice_get (column_nets plan) number ≡ Some net → IsColumnNet plan number net
column_net plan number net at =
    let within = slice_get_within (column_nets plan) number net at in
    let long = nets_long plan in
    elim (cases_lt number (choice_count plan.col_bits)) [
      | inl choice ↦ inl (record { below = choice; is = same_Some net (Line 0 plan.col_bits number) (sym at ∙ choice_numbered plan number choice) })
      | inr from ↦ inr (line from (halves (number - choice_count plan.col_bits)) (omega (arith, within, long)))
    ]
  where
    line : choice_count plan.col_bits ≤ number → (i : ℕ) × ((number - choice_count plan.col_bits ≡ 2 * i) ⊎ (number - choice_count plan.col_bits ≡ 2 * i + 1)) → number < choice_count plan.col_bits + 2 * plan.word_size → IsLineNet plan lo_net 0 number net ⊎ IsLineNet plan ro_net 1 number net
    line from h below = elim h.1 [
      | inl even ↦
          let e : number ≡ choice_count plan.col_bits + 2 * h.0 = omega (arith, from, even) in
          let less : h.0 < plan.word_size = omega (arith, below, e) in
          inl (record { bit = h.0; below = less; at = omega (arith, e); is = same_Some net (lo_net plan.col_bits 0 h.0) (sym at ∙ (ap (slice_get (column_nets plan)) e ∙ lo_numbered plan h.0 less)) })
      | inr odd ↦
          let e : number ≡ choice_count plan.col_bits + 2 * h.0 + 1 = omega (arith, from, odd) in
          let less : h.0 < plan.word_size = omega (arith, below, e) in
          inr (record { bit = h.0; below = less; at = omega (arith, e); is = same_Some net (ro_net plan.col_bits 0 h.0) (sym at ∙ (ap (slice_get (column_nets plan)) e ∙ ro_numbered plan h.0 less)) })
    ]

-- which nets may be among them

abbrev pub is_among : Net → Bool
is_among (Line o b k) = true
is_among (Bl bank c) = true
is_among (Br bank c) = true
is_among (Lo bank i) = true
is_among (Ro bank i) = true
is_among net = false

abbrev pub is_behind : Net → Bool
is_behind (Line o b k) = true
is_behind (Lo bank i) = true
is_behind (Ro bank i) = true
is_behind net = false

lo_among : (bits i : ℕ) → is_among (lo_net bits 0 i) ≡ true
lo_among zero i = refl
lo_among (suc n) i = refl

ro_among : (bits i : ℕ) → is_among (ro_net bits 0 i) ≡ true
ro_among zero i = refl
ro_among (suc n) i = refl

pub among : (plan : Organization) (number : ℕ) (net : Net) → IsColumnNet plan number net → is_among net ≡ true
among plan number net (inl choice) = ap is_among choice.is
among plan number net (inr (inl lo)) = ap is_among lo.is ∙ lo_among plan.col_bits lo.bit
among plan number net (inr (inr ro)) = ap is_among ro.is ∙ ro_among plan.col_bits ro.bit

lo_behind : (bits i : ℕ) → 0 < bits → is_behind (lo_net bits 0 i) ≡ true
lo_behind zero i some = absurd (omega (arith, some))
lo_behind (suc n) i some = refl

ro_behind : (bits i : ℕ) → 0 < bits → is_behind (ro_net bits 0 i) ≡ true
ro_behind zero i some = absurd (omega (arith, some))
ro_behind (suc n) i some = refl

pub among_muxed : (plan : Organization) (number : ℕ) (net : Net) → 0 < plan.col_bits → IsColumnNet plan number net → is_behind net ≡ true
among_muxed plan number net some (inl choice) = ap is_behind choice.is
among_muxed plan number net some (inr (inl lo)) = ap is_behind lo.is ∙ lo_behind plan.col_bits lo.bit some
among_muxed plan number net some (inr (inr ro)) = ap is_behind ro.is ∙ ro_behind plan.col_bits ro.bit some

-- a net's number

lo_only : (bits i j : ℕ) → lo_net bits 0 i ≡ lo_net bits 0 j → i ≡ j
lo_only zero i j e = cc
lo_only (suc n) i j e = cc

ro_only : (bits i j : ℕ) → ro_net bits 0 i ≡ ro_net bits 0 j → i ≡ j
ro_only zero i j e = cc
ro_only (suc n) i j e = cc

lo_not_ro : (bits i j : ℕ) → lo_net bits 0 i ≡ ro_net bits 0 j → ⊥
lo_not_ro zero i j e = cc
lo_not_ro (suc n) i j e = cc

lo_not_choice : (bits i b k : ℕ) → lo_net bits 0 i ≡ Line 0 b k → ⊥
lo_not_choice zero i b k e = cc
lo_not_choice (suc n) i b k e = cc

ro_not_choice : (bits i b k : ℕ) → ro_net bits 0 i ≡ Line 0 b k → ⊥
ro_not_choice zero i b k e = cc
ro_not_choice (suc n) i b k e = cc

choice_only : (b i j : ℕ) → Line 0 b i ≡ Line 0 b j → i ≡ j
choice_only b i j e = cc

pub number_of_lo : (plan : Organization) (number : ℕ) (net : Net) (i : ℕ) → net ≡ lo_net plan.col_bits 0 i → IsColumnNet plan number net → number ≡ choice_count plan.col_bits + 2 * i
number_of_lo plan number net i is (inl choice) = absurd (lo_not_choice plan.col_bits i plan.col_bits number (sym is ∙ choice.is))
number_of_lo plan number net i is (inr (inl lo)) = let same = lo_only plan.col_bits i lo.bit (sym is ∙ lo.is) in let at = lo.at in omega (arith, same, at)
number_of_lo plan number net i is (inr (inr ro)) = absurd (lo_not_ro plan.col_bits i ro.bit (sym is ∙ ro.is))

pub number_of_ro : (plan : Organization) (number : ℕ) (net : Net) (i : ℕ) → net ≡ ro_net plan.col_bits 0 i → IsColumnNet plan number net → number ≡ choice_count plan.col_bits + 2 * i + 1
number_of_ro plan number net i is (inl choice) = absurd (ro_not_choice plan.col_bits i plan.col_bits number (sym is ∙ choice.is))
number_of_ro plan number net i is (inr (inl lo)) = absurd (lo_not_ro plan.col_bits lo.bit i (sym lo.is ∙ is))
number_of_ro plan number net i is (inr (inr ro)) = let same = ro_only plan.col_bits i ro.bit (sym is ∙ ro.is) in let at = ro.at in omega (arith, same, at)

pub number_of_choice : (plan : Organization) (number : ℕ) (net : Net) (k : ℕ) → net ≡ Line 0 plan.col_bits k → IsColumnNet plan number net → (number ≡ k) × (number < choice_count plan.col_bits)
number_of_choice plan number net k is (inl choice) = (choice_only plan.col_bits number k (sym choice.is ∙ is), choice.below)
number_of_choice plan number net k is (inr (inl lo)) = absurd (lo_not_choice plan.col_bits lo.bit plan.col_bits k (sym lo.is ∙ is))
number_of_choice plan number net k is (inr (inr ro)) = absurd (ro_not_choice plan.col_bits ro.bit plan.col_bits k (sym ro.is ∙ is))
