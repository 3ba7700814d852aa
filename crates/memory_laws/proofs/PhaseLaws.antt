-- A phase exists from every state.
use Rattle.std.proofs.Common.{◌≡◌, ℕ, zero, suc, ◌+◌, ◌*◌, ◌/◌, ◌%◌, ◌<◌, Bool, true, false, cond, ◌&&◌, not, List, [], ◌∷◌, refl, sym, ap, subst, ◌∙◌, arith, eqb, inl, inr, ◌⊎◌}
use Rattle.std.proofs.lemmas.Nat.{div-mul-add, mod-mul-add}
use Rattle.sram_netlist.specs.Nets.{Net, Clkb, Dout, Bl, Br, Lo, Ro}
use Rattle.sram_netlist.specs.Instances.{LeafInstance, Clki, BitAt, SenseAt, LogicAt}
use Rattle.sram_netlist.specs.Organization.{power_of_two, Organization, bank_rows, bank_bit}
use Rattle.cell_roles.specs.Acts.{Strong, Weak, differ, low_if, strong_if}
use Rattle.sram_netlist.specs.Membership.{HasLeafNet}
use Rattle.sram_netlist.specs.Netlist.{lo_net, ro_net, sen_at}
use Rattle.memory_laws.specs.Phase.{State, PortInputs, IsPhase, Gives, InGroup, HasNone, act_at, bits}
use Rattle.memory_laws.proofs.Values.{choice, here, column, gate1, signal, address, any_below, bit_line, word_line, opened, left, right, sensed, value}
use Rattle.memory_laws.proofs.Decode.{index_fits}
use Rattle.cell_roles.specs.declared.leaf_role.LeafRole.TheVariants.{Common}
use Rattle.memory_laws.proofs.Direct.{role, direct, writable}
use Rattle.memory_laws.proofs.Groups.{IsChosen, carried, follow, to_lo, to_ro, net_step, column_fits, lo_some, ro_some}
use Rattle.memory_laws.proofs.Exists.{group_value, chosen_value, lo_value, ro_value, sen_value, wen_value, place_strong, given_strong}
use Rattle.memory_laws.proofs.Drivers.{Pulled, PulledRight, WeakEnds, weak_from, has_driver, off_left, off_right}

pub any_true : (n r : ℕ) (f : ℕ → Bool) → r < n → f r ≡ true → any_below n f ≡ true
any_true zero r f h e = absurd (omega arith)
any_true (suc n) r f h e = by_last (f n) refl (λ lt. any_true n r f lt e)
  where
    below : ((r ≡ n) → ⊥) → r < n
    below ne = omega arith

    by_last : (t : Bool) → f n ≡ t → (r < n → any_below n f ≡ true) → cond t true (any_below n f) ≡ true
    by_last true k more = refl
    by_last false k more = more (below (λ same. let x : f n ≡ true = ap f (sym same) ∙ e in let y : true ≡ false = sym x ∙ k in cc))

pub any_row : (n : ℕ) (f : ℕ → Bool) → any_below n f ≡ true → (r : ℕ) × (r < n) × (f r ≡ true)
any_row zero f e = absurd cc
any_row (suc n) f e = by_last (f n) refl e (any_row n f)
  where
    by_last : (t : Bool) → f n ≡ t → cond t true (any_below n f) ≡ true → (any_below n f ≡ true → (r : ℕ) × (r < n) × (f r ≡ true)) → (r : ℕ) × (r < suc n) × (f r ≡ true)
    by_last true k h more = (n, omega arith, k)
    by_last false k h more = let x = more h in (x.0, omega arith, x.2)

pub case_of : (t : Bool) → (t ≡ true) ⊎ (t ≡ false)
case_of true = inl refl
case_of false = inr refl

line_pulled : (c w d p h : Bool) → c ≡ true → w ≡ false → p ≡ true → bit_line c w d p h ≡ false
line_pulled c w d p h e f g = rw (e, f, g) refl

line_kept : (c w d p h : Bool) → c ≡ true → w ≡ false → p ≡ false → bit_line c w d p h ≡ h
line_kept c w d p h e f g = rw (e, f, g) refl

exists_strong : (p : Organization) (s : State) (i : PortInputs) (x y : Net) (b : Bool) → InGroup (direct p) s (value p s i) x y
    → Gives (direct p) s i (value p s i) y (Strong b) → value p s i x ≡ b
exists_strong p s i x y b g (inl e) = group_value p s i x y g ∙ given_strong p s i y b e
exists_strong p s i x y b g (inr d) = group_value p s i x y g ∙ place_strong p s i y b d.leaf d.there d.driven

-- what a group without strong contributions says of its column
shut_left : (p : Organization) (s : State) (i : PortInputs) (bank c : ℕ) (x : Net) → bank < power_of_two p.bank_bits → c < p.word_size * power_of_two p.col_bits → InGroup (direct p) s (value p s i) x (Bl bank c)
    → HasNone (direct p) s i (value p s i) Strong x → (signal s i Clkb ≡ true) × (opened p s i bank c ≡ false)
shut_left p s i bank c x bank_fits fits g none =
    let quiet = off_left p s i (value p s i) (choice p s i) bank c x (chosen_value p s i) bank_fits fits g none in
    (quiet.0, ap (λ (t : Bool). t && eqb (c % power_of_two p.col_bits) (choice p s i)) (sym (wen_value p s i bank (c / power_of_two p.col_bits))) ∙ quiet.1)

shut_right : (p : Organization) (s : State) (i : PortInputs) (bank c : ℕ) (x : Net) → bank < power_of_two p.bank_bits → c < p.word_size * power_of_two p.col_bits → InGroup (direct p) s (value p s i) x (Br bank c)
    → HasNone (direct p) s i (value p s i) Strong x → (signal s i Clkb ≡ true) × (opened p s i bank c ≡ false)
shut_right p s i bank c x bank_fits fits g none =
    let quiet = off_right p s i (value p s i) (choice p s i) bank c x (chosen_value p s i) bank_fits fits g none in
    (quiet.0, ap (λ (t : Bool). t && eqb (c % power_of_two p.col_bits) (choice p s i)) (sym (wen_value p s i bank (c / power_of_two p.col_bits))) ∙ quiet.1)

exists_weak : (p : Organization) (s : State) (i : PortInputs) (x y : Net) → InGroup (direct p) s (value p s i) x y → HasNone (direct p) s i (value p s i) Strong x
    → WeakEnds p s (value p s i) y → value p s i y ≡ false
exists_weak p s i x y g none (inl e) =
    let quiet = shut_left p s i e.0 e.1 x e.2 e.3 (subst (InGroup (direct p) s (value p s i) x) (sym e.4) g) none in
    ap (value p s i) (sym e.4) ∙ line_pulled (signal s i Clkb) _ _ _ _ quiet.0 quiet.1 (any_true (bank_rows p) e.5.0 _ e.5.1 e.5.2)
exists_weak p s i x y g none (inr e) =
    let quiet = shut_right p s i e.0 e.1 x e.2 e.3 (subst (InGroup (direct p) s (value p s i) x) (sym e.4) g) none in
    ap (value p s i) (sym e.4) ∙ line_pulled (signal s i Clkb) _ _ _ _ quiet.0 quiet.1 (any_true (bank_rows p) e.5.0 _ e.5.1 e.5.2)

-- a row that pulls the line gives it a weak drive
pub pulls_left : (p : Organization) (s : State) (i : PortInputs) (v : Net → Bool) (bank c : ℕ) → bank < power_of_two p.bank_bits → c < p.word_size * power_of_two p.col_bits → Pulled p s v bank c → Gives (direct p) s i v (Bl bank c) (Weak false)
pulls_left p s i v bank c bank_fits fits h = inr (record { leaf = BitAt bank h.0 c; there = (bank_fits, (h.1, fits)); driven = inl (refl, ap low_if h.2) })

pub pulls_right : (p : Organization) (s : State) (i : PortInputs) (v : Net → Bool) (bank c : ℕ) → bank < power_of_two p.bank_bits → c < p.word_size * power_of_two p.col_bits → PulledRight p s v bank c → Gives (direct p) s i v (Br bank c) (Weak false)
pulls_right p s i v bank c bank_fits fits h = inr (record { leaf = BitAt bank h.0 c; there = (bank_fits, (h.1, fits)); driven = inr (inl (refl, ap low_if h.2)) })

pub senses : (p : Organization) (s : State) (i : PortInputs) (v : Net → Bool) (bank c : ℕ) → bank < power_of_two p.bank_bits → c < p.word_size → (v (sen_at p.bank_bits bank) && differ (v (lo_net p.col_bits bank c)) (v (ro_net p.col_bits bank c))) ≡ true
    → Gives (direct p) s i v (Dout c) (Strong (v (lo_net p.col_bits bank c)))
senses p s i v bank c bank_fits fits e = inr (record { leaf = SenseAt bank c; there = (bank_fits, fits); driven = inl (refl, ap (λ (t : Bool). strong_if t (v (lo_net p.col_bits bank c))) e) })

-- the charges of the lines that a choice joins agree
pub record Agree (p : Organization) (s : State) (k : ℕ) : Type 0 where
  pub left : (bank j : ℕ) → bank < power_of_two p.bank_bits → j < p.word_size → s.charge (Lo bank j) ≡ s.charge (Bl bank (j * power_of_two p.col_bits + k))
  pub right : (bank j : ℕ) → bank < power_of_two p.bank_bits → j < p.word_size → s.charge (Ro bank j) ≡ s.charge (Br bank (j * power_of_two p.col_bits + k))

left_kept : (p : Organization) (s : State) (i : PortInputs) (bank c : ℕ) (x : Net) → bank < power_of_two p.bank_bits → c < p.word_size * power_of_two p.col_bits → InGroup (direct p) s (value p s i) x (Bl bank c)
    → HasNone (direct p) s i (value p s i) Strong x → HasNone (direct p) s i (value p s i) Weak x → (signal s i Clkb ≡ true) × (left p s i bank c ≡ s.charge (Bl bank c))
left_kept p s i bank c x bank_fits fits g none weak =
    let quiet = shut_left p s i bank c x bank_fits fits g none in
    (quiet.0, line_kept (signal s i Clkb) _ _ _ _ quiet.0 quiet.1 (by_pull _ refl))
  where
    by_pull : (t : Bool) → any_below (bank_rows p) (λ r. word_line p s i bank r && not (s.q (BitAt bank r c))) ≡ t → any_below (bank_rows p) (λ r. word_line p s i bank r && not (s.q (BitAt bank r c))) ≡ false
    by_pull false e = e
    by_pull true e = absurd (weak (Bl bank c) false g (pulls_left p s i (value p s i) bank c bank_fits fits (any_row _ _ e)))

right_kept : (p : Organization) (s : State) (i : PortInputs) (bank c : ℕ) (x : Net) → bank < power_of_two p.bank_bits → c < p.word_size * power_of_two p.col_bits → InGroup (direct p) s (value p s i) x (Br bank c)
    → HasNone (direct p) s i (value p s i) Strong x → HasNone (direct p) s i (value p s i) Weak x → (signal s i Clkb ≡ true) × (right p s i bank c ≡ s.charge (Br bank c))
right_kept p s i bank c x bank_fits fits g none weak =
    let quiet = shut_right p s i bank c x bank_fits fits g none in
    (quiet.0, line_kept (signal s i Clkb) _ _ _ _ quiet.0 quiet.1 (by_pull _ refl))
  where
    by_pull : (t : Bool) → any_below (bank_rows p) (λ r. word_line p s i bank r && s.q (BitAt bank r c)) ≡ t → any_below (bank_rows p) (λ r. word_line p s i bank r && s.q (BitAt bank r c)) ≡ false
    by_pull false e = e
    by_pull true e = absurd (weak (Br bank c) false g (pulls_right p s i (value p s i) bank c bank_fits fits (any_row _ _ e)))

-- a slice's line has the chosen column's line in its group
pub lo_column : (p : Organization) (s : State) (v : Net → Bool) (k bank j : ℕ) → IsChosen p.col_bits v k → k < power_of_two p.col_bits → bank < power_of_two p.bank_bits → j < p.word_size → 0 < p.col_bits → InGroup (direct p) s v (Lo bank j) (Bl bank (j * power_of_two p.col_bits + k))
lo_column p s v k bank j is k_fits bank_fits fits some =
    subst (λ (u : Net). InGroup (direct p) s v u (Bl bank (j * power_of_two p.col_bits + k))) (lo_some p.col_bits bank ((j * power_of_two p.col_bits + k) / power_of_two p.col_bits) some ∙ ap (Lo bank) (div-mul-add j (power_of_two p.col_bits) k k_fits))
    (to_lo p s v k bank (j * power_of_two p.col_bits + k) is bank_fits (column_fits p.col_bits p.word_size j k fits k_fits) (mod-mul-add j (power_of_two p.col_bits) k k_fits)).1

pub ro_column : (p : Organization) (s : State) (v : Net → Bool) (k bank j : ℕ) → IsChosen p.col_bits v k → k < power_of_two p.col_bits → bank < power_of_two p.bank_bits → j < p.word_size → 0 < p.col_bits → InGroup (direct p) s v (Ro bank j) (Br bank (j * power_of_two p.col_bits + k))
ro_column p s v k bank j is k_fits bank_fits fits some =
    subst (λ (u : Net). InGroup (direct p) s v u (Br bank (j * power_of_two p.col_bits + k))) (ro_some p.col_bits bank ((j * power_of_two p.col_bits + k) / power_of_two p.col_bits) some ∙ ap (Ro bank) (div-mul-add j (power_of_two p.col_bits) k k_fits))
    (to_ro p s v k bank (j * power_of_two p.col_bits + k) is bank_fits (column_fits p.col_bits p.word_size j k fits k_fits) (mod-mul-add j (power_of_two p.col_bits) k k_fits)).1

exists_charge : (p : Organization) (s : State) (i : PortInputs) → (gate1 i.clk ≡ true → Agree p s (choice p s i)) → (x y : Net) → HasLeafNet (writable p) y
    → InGroup (direct p) s (value p s i) x y → HasNone (direct p) s i (value p s i) Strong x
    → HasNone (direct p) s i (value p s i) Weak x → value p s i y ≡ s.charge y
exists_charge p s i agree x (Bl bank c) there g none weak = (left_kept p s i bank c x there.0 there.1 g none weak).1
exists_charge p s i agree x (Br bank c) there g none weak = (right_kept p s i bank c x there.0 there.1 g none weak).1
exists_charge p s i agree x (Lo bank j) there g none weak =
    let k_fits = index_fits (address s i) 0 p.col_bits in
    let e = left_kept p s i bank (column p s i j) x there.0 (column_fits p.col_bits p.word_size j _ there.1.0 k_fits)
    (follow p s _ x (Lo bank j) _ g (lo_column p s (value p s i) (choice p s i) bank j (chosen_value p s i) k_fits there.0 there.1.0 there.1.1)) none weak in
    e.1 ∙ sym ((agree e.0).left bank j there.0 there.1.0)
exists_charge p s i agree x (Ro bank j) there g none weak =
    let k_fits = index_fits (address s i) 0 p.col_bits in
    let e = right_kept p s i bank (column p s i j) x there.0 (column_fits p.col_bits p.word_size j _ there.1.0 k_fits)
    (follow p s _ x (Ro bank j) _ g (ro_column p s (value p s i) (choice p s i) bank j (chosen_value p s i) k_fits there.0 there.1.0 there.1.1)) none weak in
    e.1 ∙ sym ((agree e.0).right bank j there.0 there.1.0)
exists_charge p s i agree x (Dout c) there g none weak = by_sense _ refl
  where
    by_sense : (t : Bool) → sensed p s i (here p s i) c ≡ t → value p s i (Dout c) ≡ s.charge (Dout c)
    by_sense false e = ap (λ (t : Bool). cond t (left p s i (here p s i) (column p s i c)) (s.charge (Dout c))) e
    by_sense true e = absurd (none (Dout c) _ g (senses p s i (value p s i) (here p s i) c (index_fits (address s i) (bank_bit p) p.bank_bits) there
        ((λ j. sen_value p s i (here p s i) j && differ (lo_value p s i (here p s i) c j) (ro_value p s i (here p s i) c j)) ∙ e)))
exists_charge p s i agree x y there g none weak = absurd (none y _ g (has_driver p s i (value p s i) y there refl))

-- the state after the values
abbrev pub first_bit : Bool → List Bool → Bool
first_bit d [] = d
first_bit d (b ∷ bs) = b

abbrev pub second_bit : Bool → List Bool → Bool
second_bit d [] = d
second_bit d (b ∷ []) = d
second_bit d (b ∷ c ∷ bs) = c

abbrev pub next_state : Organization → State → PortInputs → State
next_state p s i = record {
  q = λ leaf. first_bit true (act_at (direct p) s (value p s i) leaf).next;
  p = λ leaf. second_bit true (act_at (direct p) s (value p s i) leaf).next;
  charge = value p s i;
}

stored_after : (p : Organization) (s : State) (i : PortInputs) (leaf : LeafInstance) → bits (Common (role leaf)) (next_state p s i) leaf ≡ (act_at (direct p) s (value p s i) leaf).next
stored_after p s i (LogicAt Clki) = refl
stored_after p s i leaf = refl

pub phase_exists : (p : Organization) (s : State) (i : PortInputs) → (gate1 i.clk ≡ true → Agree p s (choice p s i)) → IsPhase (direct p) s i (value p s i) (next_state p s i)
phase_exists p s i agree = record {
  strong = exists_strong p s i;
  weak = λ x y b g none h.
      let e = weak_from p s i (value p s i) y b h in
      group_value p s i x y g ∙ exists_weak p s i x y g none e.1 ∙ sym e.0;
  charge = λ x y there g none weak.
      let here = carried p s (value p s i) (choice p s i) (HasLeafNet (writable p)) (chosen_value p s i) (net_step p (choice p s i)) x y g there in
      group_value p s i x y g ∙ exists_charge p s i agree x y here g none weak;
  stored = λ leaf there. stored_after p s i leaf;
  charges = λ x there. refl;
}
