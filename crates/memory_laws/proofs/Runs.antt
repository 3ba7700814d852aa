-- Runs: the words that a state holds, and what each read answers.
use Rattle.std.proofs.Common.{◌≤◌, ◌≡◌, ℕ, zero, suc, ◌+◌, ◌*◌, ◌/◌, ◌%◌, ◌<◌, Bool, true, false, cond, ◌&&◌, not, List, [], ◌∷◌, refl, sym, ap, subst, ◌∙◌, arith, eqb, eqb-true, eq-eqb, inl, inr, ◌⊎◌}
use Rattle.std.proofs.Math.Nat.{mul-le-mul_right}
use Rattle.std.proofs.lemmas.Nat.{div_below, div-mul-add, mod-mul-add}
use Rattle.sram_netlist.specs.Organization.{IsBuildable, total_bits, power_of_two, Organization, bank_rows, bank_bit}
use Rattle.sram_netlist.specs.Nets.{Net}
use Rattle.sram_netlist.specs.Instances.{BitAt}
use Rattle.sram_netlist.specs.Netlist.{enable_count, low_bits, high_bits, mask_of}
use Rattle.memory_laws.specs.Phase.{State}
use Rattle.memory_laws.specs.Run.{MemoryCommand, port_values, IsStartState, Words, contents, words_after, SameWords, words_after_all, IsCommandRun, AnswersEachRead, AreInRange, bank_words, bank_of, row_of, choice_of, is_masked_in}
use Rattle.memory_laws.proofs.Values.{value}
use Rattle.memory_laws.proofs.Direct.{direct}
use Rattle.memory_laws.proofs.Decode.{addresses_split, high_high, high_low, low_low, number_is, low_below, twice_some, twice_add}
use Rattle.memory_laws.proofs.Groups.{column_fits}
use Rattle.memory_laws.proofs.PhaseLaws.{phase_exists, next_state}
use Rattle.memory_laws.proofs.Unique.{MasksFit, MasksReached}
use Rattle.memory_laws.proofs.Commands.{at_row, at_bank, on, masked, Done, done}

-- each bit's mask is one of the masks
pub masks_fit : (p : Organization) → IsBuildable p → MasksFit p
masks_fit p ok j fits = by_masks p.masks ok.masks
  where
    by_masks : (k : ℕ) → (k ≡ 0) ⊎ ((0 < p.write_size) × (k * p.write_size ≡ p.word_size)) → mask_of k p.write_size j < enable_count k
    by_masks zero h = omega arith
    by_masks (suc k) (inl e) = absurd (omega arith)
    by_masks (suc k) (inr h) = div_below j p.write_size (suc k) h.0 (subst (λ (n : ℕ). j < n) (sym h.1) fits)

mask_starts : (z j k : ℕ) → 0 < z → j < k → j * z + 0 < k * z
mask_starts z j k some h = let g : suc j * z ≤ k * z = mul-le-mul_right z h in let e : suc j * z ≡ j * z + z = omega arith in omega arith

pub masks_reached : (p : Organization) → IsBuildable p → MasksReached p
masks_reached p ok j fits = by_masks p.masks ok.masks fits
  where
    by_masks : (k : ℕ) → (k ≡ 0) ⊎ ((0 < p.write_size) × (k * p.write_size ≡ p.word_size)) → j < enable_count k → (i : ℕ) × (i < p.word_size) × (mask_of k p.write_size i ≡ j)
    by_masks zero h small = (0, ok.words, omega arith)
    by_masks (suc k) (inl e) small = absurd (omega arith)
    by_masks (suc k) (inr h) small =
        let e : j * p.write_size + 0 ≡ j * p.write_size = omega arith in
        let f : j * p.write_size + 0 < suc k * p.write_size = mask_starts p.write_size j (suc k) h.0 small in
        (j * p.write_size, subst (λ (n : ℕ). n < p.word_size) e (subst (λ (n : ℕ). j * p.write_size + 0 < n) h.1 f), ap (λ (n : ℕ). n / p.write_size) (sym e) ∙ div-mul-add j p.write_size 0 h.0)

-- a number below a power of two has only so many bits
pub high_fits : (m n x : ℕ) → x < power_of_two (m + n) → high_bits m x < power_of_two n
high_fits zero n x h = subst (λ (k : ℕ). x < power_of_two k) (omega arith) h
high_fits (suc m) n x h =
    let e : suc m + n ≡ suc (m + n) = omega arith in
    let f : x < power_of_two (suc (m + n)) = subst (λ (k : ℕ). x < power_of_two k) e h in
    high_fits m n (x / 2) (omega arith)

some_words : (p : Organization) → bank_rows p * power_of_two p.col_bits ≡ power_of_two (bank_bit p)
some_words p = let e = twice_add p.col_bits (total_bits p.groups) in omega arith

all_words : (p : Organization) → power_of_two p.bank_bits * (bank_rows p * power_of_two p.col_bits) ≡ power_of_two (bank_bit p + p.bank_bits)
all_words p = let e = twice_add (bank_bit p) p.bank_bits in let f = some_words p in ap (λ (n : ℕ). power_of_two p.bank_bits * n) f ∙ swapped (power_of_two p.bank_bits) (power_of_two (bank_bit p)) ∙ sym e
  where
    swapped : (a b : ℕ) → a * b ≡ b * a
    swapped a b = omega arith

words_is : (p : Organization) → bank_words p ≡ power_of_two (bank_bit p)
words_is p =
    let x : ℕ = bank_rows p * power_of_two p.col_bits in
    let e : power_of_two p.bank_bits * x ≡ x * power_of_two p.bank_bits + 0 = by_parts (power_of_two p.bank_bits) x in
    ap (λ (n : ℕ). n / power_of_two p.bank_bits) e ∙ div-mul-add x (power_of_two p.bank_bits) 0 (twice_some p.bank_bits) ∙ some_words p
  where
    by_parts : (a b : ℕ) → a * b ≡ b * a + 0
    by_parts a b = omega arith

-- the place of an address by its bits
pub bank_is : (p : Organization) (a : ℕ) → bank_of p a ≡ high_bits (bank_bit p) a
bank_is p a = ap (λ (n : ℕ). a / n) (words_is p) ∙ sym (addresses_split (bank_bit p) a).0

rest_is : (p : Organization) (a : ℕ) → a % bank_words p ≡ low_bits (bank_bit p) a
rest_is p a = ap (λ (n : ℕ). a % n) (words_is p) ∙ sym (addresses_split (bank_bit p) a).1

pub row_is : (p : Organization) (a : ℕ) → row_of p a ≡ low_bits (total_bits p.groups) (high_bits p.col_bits a)
row_is p a = ap (λ (n : ℕ). n / power_of_two p.col_bits) (rest_is p a) ∙ sym (addresses_split p.col_bits (low_bits (bank_bit p) a)).0 ∙ high_low p.col_bits (total_bits p.groups) a

pub choice_is : (p : Organization) (a : ℕ) → choice_of p a ≡ low_bits p.col_bits a
choice_is p a = ap (λ (n : ℕ). n % power_of_two p.col_bits) (rest_is p a) ∙ sym (addresses_split p.col_bits (low_bits (bank_bit p) a)).1 ∙ low_low p.col_bits (total_bits p.groups) a

pub bank_fits : (p : Organization) (a : ℕ) → a < power_of_two p.bank_bits * (bank_rows p * power_of_two p.col_bits) → high_bits (bank_bit p) a < power_of_two p.bank_bits
bank_fits p a h = high_fits (bank_bit p) p.bank_bits a (subst (λ (n : ℕ). a < n) (all_words p) h)

-- where a word's bits stand
stands : (p : Organization) (s : State) (a i : ℕ) → contents p s a i ≡ s.q (BitAt (high_bits (bank_bit p) a) (low_bits (total_bits p.groups) (high_bits p.col_bits a)) (i * power_of_two p.col_bits + low_bits p.col_bits a))
stands p s a i = let x = bank_is p a in let y = row_is p a in let z = choice_is p a in λ j. s.q (BitAt (x j) (y j) (i * power_of_two p.col_bits + z j))

same_address : (p : Organization) (a b : ℕ) → high_bits (bank_bit p) a ≡ high_bits (bank_bit p) b → low_bits (total_bits p.groups) (high_bits p.col_bits a) ≡ low_bits (total_bits p.groups) (high_bits p.col_bits b) → low_bits p.col_bits a ≡ low_bits p.col_bits b → a ≡ b
same_address p a b x y z =
    let e : high_bits (total_bits p.groups) (high_bits p.col_bits a) ≡ high_bits (total_bits p.groups) (high_bits p.col_bits b) = high_high p.col_bits (total_bits p.groups) a ∙ x ∙ sym (high_high p.col_bits (total_bits p.groups) b) in
    number_is p.col_bits a b (number_is (total_bits p.groups) (high_bits p.col_bits a) (high_bits p.col_bits b) e y) z

-- two addresses are one where bank, row and choice are
address_eq : (p : Organization) (a b : ℕ) → eqb a b ≡ (eqb (high_bits (bank_bit p) a) (high_bits (bank_bit p) b) && (eqb (low_bits (total_bits p.groups) (high_bits p.col_bits a)) (low_bits (total_bits p.groups) (high_bits p.col_bits b)) && eqb (low_bits p.col_bits a) (low_bits p.col_bits b)))
address_eq p a b = by_bank _ refl
  where
    apart : (t : Bool) → eqb a b ≡ t → (a ≡ b → t ≡ false) → t ≡ false
    apart true e f = f (eqb-true a b e)
    apart false e f = refl

    by_low : (t : Bool) → eqb (low_bits p.col_bits a) (low_bits p.col_bits b) ≡ t → high_bits (bank_bit p) a ≡ high_bits (bank_bit p) b → low_bits (total_bits p.groups) (high_bits p.col_bits a) ≡ low_bits (total_bits p.groups) (high_bits p.col_bits b) → eqb a b ≡ t
    by_low true e x y = eq-eqb a b (same_address p a b x y (eqb-true _ _ e))
    by_low false e x y = apart _ refl (λ h. let f = eq-eqb _ _ (ap (low_bits p.col_bits) h) in absurd (let g : true ≡ false = sym f ∙ e in cc))

    by_row : (t : Bool) → eqb (low_bits (total_bits p.groups) (high_bits p.col_bits a)) (low_bits (total_bits p.groups) (high_bits p.col_bits b)) ≡ t → high_bits (bank_bit p) a ≡ high_bits (bank_bit p) b → eqb a b ≡ (t && eqb (low_bits p.col_bits a) (low_bits p.col_bits b))
    by_row true e x = by_low _ refl x (eqb-true _ _ e)
    by_row false e x = apart _ refl (λ h. let f = eq-eqb _ _ (ap (λ (n : ℕ). low_bits (total_bits p.groups) (high_bits p.col_bits n)) h) in absurd (let g : true ≡ false = sym f ∙ e in cc))

    by_bank : (t : Bool) → eqb (high_bits (bank_bit p) a) (high_bits (bank_bit p) b) ≡ t → eqb a b ≡ (eqb (high_bits (bank_bit p) a) (high_bits (bank_bit p) b) && (eqb (low_bits (total_bits p.groups) (high_bits p.col_bits a)) (low_bits (total_bits p.groups) (high_bits p.col_bits b)) && eqb (low_bits p.col_bits a) (low_bits p.col_bits b)))
    by_bank true e = by_row _ refl (eqb-true _ _ e) ∙ ap (λ (t : Bool). t && (eqb (low_bits (total_bits p.groups) (high_bits p.col_bits a)) (low_bits (total_bits p.groups) (high_bits p.col_bits b)) && eqb (low_bits p.col_bits a) (low_bits p.col_bits b))) (sym e)
    by_bank false e = apart _ refl (λ h. let f = eq-eqb _ _ (ap (high_bits (bank_bit p)) h) in absurd (let g : true ≡ false = sym f ∙ e in cc))
        ∙ ap (λ (t : Bool). t && (eqb (low_bits (total_bits p.groups) (high_bits p.col_bits a)) (low_bits (total_bits p.groups) (high_bits p.col_bits b)) && eqb (low_bits p.col_bits a) (low_bits p.col_bits b))) (sym e)

-- what a column's write says in the words of the array
in_row : (x b y m l d q : Bool) → cond (((x && b) && (y && m)) && l) d q ≡ cond (x && (y && ((b && (true && l)) && m))) d q
in_row true true true true l d q = by_last l
  where
    by_last : (l : Bool) → cond l d q ≡ cond (l && true) d q
    by_last true = refl
    by_last false = refl
in_row true true true false true d q = refl
in_row true true true false false d q = refl
in_row true true false m l d q = refl
in_row true false true m l d q = refl
in_row true false false m l d q = refl
in_row false b y m l d q = refl

off_row : (x b y m l d q : Bool) → cond (x && (y && ((b && (false && l)) && m))) d q ≡ q
off_row true true true m l d q = refl
off_row true false true m l d q = refl
off_row true b false m l d q = refl
off_row false b y m l d q = refl

next_same : (p : Organization) (s : State) (c : MemoryCommand) (v : Net → Bool) (end : State) (words : Words) → Done p s c v end → SameWords p (contents p s) words
    → SameWords p (contents p end) (words_after p c words)
next_same p s c v end words d same a i a_fits i_fits =
    stands p end a i ∙ by_row _ refl
    ∙ ap (λ (t : Bool). cond (not c.csb && (not c.web && (t && is_masked_in p.masks p.write_size c i))) (c.din i) (words a i)) (sym (address_eq p a c.addr))
  where
    k_fits : i * power_of_two p.col_bits + low_bits p.col_bits a < p.word_size * power_of_two p.col_bits
    k_fits = column_fits p.col_bits p.word_size i (low_bits p.col_bits a) i_fits (low_below p.col_bits a)

    b_fits : high_bits (bank_bit p) a < power_of_two p.bank_bits
    b_fits = bank_fits p a a_fits

    before : s.q (BitAt (high_bits (bank_bit p) a) (low_bits (total_bits p.groups) (high_bits p.col_bits a)) (i * power_of_two p.col_bits + low_bits p.col_bits a)) ≡ words a i
    before = sym (stands p s a i) ∙ same a i a_fits i_fits

    by_row : (t : Bool) → eqb (low_bits (total_bits p.groups) (high_bits p.col_bits a)) (at_row p c) ≡ t → end.q (BitAt (high_bits (bank_bit p) a) (low_bits (total_bits p.groups) (high_bits p.col_bits a)) (i * power_of_two p.col_bits + low_bits p.col_bits a))
        ≡ cond (not c.csb && (not c.web && ((eqb (high_bits (bank_bit p) a) (at_bank p c) && (eqb (low_bits (total_bits p.groups) (high_bits p.col_bits a)) (at_row p c) && eqb (low_bits p.col_bits a) (low_bits p.col_bits c.addr))) && is_masked_in p.masks p.write_size c i))) (c.din i) (words a i)
    by_row true e =
        let at : low_bits (total_bits p.groups) (high_bits p.col_bits a) ≡ at_row p c = eqb-true _ _ e in
        let f : (i * power_of_two p.col_bits + low_bits p.col_bits a) % power_of_two p.col_bits ≡ low_bits p.col_bits a = mod-mul-add i (power_of_two p.col_bits) (low_bits p.col_bits a) (low_below p.col_bits a) in
        let g : (i * power_of_two p.col_bits + low_bits p.col_bits a) / power_of_two p.col_bits ≡ i = div-mul-add i (power_of_two p.col_bits) (low_bits p.col_bits a) (low_below p.col_bits a) in
        let h : s.q (BitAt (high_bits (bank_bit p) a) (at_row p c) (i * power_of_two p.col_bits + low_bits p.col_bits a)) ≡ words a i = ap (λ (n : ℕ). s.q (BitAt (high_bits (bank_bit p) a) n (i * power_of_two p.col_bits + low_bits p.col_bits a))) (sym at) ∙ before in
        ap (λ (n : ℕ). end.q (BitAt (high_bits (bank_bit p) a) n (i * power_of_two p.col_bits + low_bits p.col_bits a))) at ∙ d.row (high_bits (bank_bit p) a) (i * power_of_two p.col_bits + low_bits p.col_bits a) b_fits k_fits
        ∙ (λ j. cond ((on p c (high_bits (bank_bit p) a) && masked p c (g j)) && eqb (f j) (low_bits p.col_bits c.addr)) (c.din (g j)) (h j))
        ∙ in_row (not c.csb) (eqb (high_bits (bank_bit p) a) (at_bank p c)) (not c.web) (is_masked_in p.masks p.write_size c i) (eqb (low_bits p.col_bits a) (low_bits p.col_bits c.addr)) (c.din i) (words a i)
        ∙ ap (λ (t : Bool). cond (not c.csb && (not c.web && ((eqb (high_bits (bank_bit p) a) (at_bank p c) && (t && eqb (low_bits p.col_bits a) (low_bits p.col_bits c.addr))) && is_masked_in p.masks p.write_size c i))) (c.din i) (words a i)) (sym e)
    by_row false e =
        d.others (high_bits (bank_bit p) a) (low_bits (total_bits p.groups) (high_bits p.col_bits a)) (i * power_of_two p.col_bits + low_bits p.col_bits a) b_fits (low_below (total_bits p.groups) (high_bits p.col_bits a)) (λ h. let g = eq-eqb _ _ h in let f : true ≡ false = sym g ∙ e in cc) k_fits
        ∙ before ∙ sym (off_row (not c.csb) (eqb (high_bits (bank_bit p) a) (at_bank p c)) (not c.web) (is_masked_in p.masks p.write_size c i) (eqb (low_bits p.col_bits a) (low_bits p.col_bits c.addr)) (c.din i) (words a i))
        ∙ ap (λ (t : Bool). cond (not c.csb && (not c.web && ((eqb (high_bits (bank_bit p) a) (at_bank p c) && (t && eqb (low_bits p.col_bits a) (low_bits p.col_bits c.addr))) && is_masked_in p.masks p.write_size c i))) (c.din i) (words a i)) (sym e)

pub answers : (p : Organization) (masks : MasksFit p) (cs : List MemoryCommand) (s : State) (words : Words) (vs : List (Net → Bool)) (end : State) → IsStartState (direct p) s
    → AreInRange p cs → SameWords p (contents p s) words → IsCommandRun (direct p) s cs vs end
    → AnswersEachRead p cs words vs × SameWords p (contents p end) (words_after_all p cs words)
answers p masks [] s words [] end start range same run = (tt, subst (λ (t : State). SameWords p (contents p t) words) (sym run.1) same)
answers p masks [] s words (v ∷ vs) end start range same run = absurd (let e = run.0 in cc)
answers p masks (c ∷ cs) s words [] end start range same run = absurd run
answers p masks (c ∷ cs) s words (v ∷ vs) end start range same run =
    let d = done p masks s c v run.0 start (bank_fits p c.addr range.0) run.1 in
    let rest = answers p masks cs run.0 (words_after p c words) vs end d.start range.1 (next_same p s c v run.0 words d same) run.2 in
    ((λ csb web i i_fits. d.answer csb web i i_fits ∙ sym (stands p s c.addr i) ∙ same c.addr i range.0 i_fits, rest.0), rest.1)

pub runs_exist : (p : Organization) (s : State) (cs : List MemoryCommand) → (vs : List (Net → Bool)) × (end : State) × IsCommandRun (direct p) s cs vs end
runs_exist p s [] = ([], s, (refl, refl))
runs_exist p s (c ∷ cs) =
    let s1 = next_state p s (port_values true c) in
    let s2 = next_state p s1 (port_values false c) in
    let s3 = next_state p s2 (port_values false c) in
    let rest = runs_exist p s3 cs in (
      value p s2 (port_values false c) ∷ rest.0,
      rest.1,
      (
        s3,
        record {
          first = value p s (port_values true c);
          second = value p s1 (port_values false c);
          s1 = s1;
          s2 = s2;
          fetch = phase_exists p s (port_values true c) (λ e. absurd (let f : false ≡ true = e in cc));
          select = phase_exists p s1 (port_values false c) (λ e. record { left = λ bank j b h. refl; right = λ bank j b h. refl });
          finish = phase_exists p s2 (port_values false c) (λ e. record { left = λ bank j b h. refl; right = λ bank j b h. refl });
        },
        rest.2,
      ),
    )
