-- The list of instances has exactly the plan's.
use Rattle.std.proofs.Common.{◌≡◌, ℕ, zero, suc, ◌+◌, ◌<◌, ◌≤◌, List, [], ◌∷◌, ◌++◌, map, refl, sym, ap, subst, arith, inl, inr, ◌⊎◌}
use Rattle.std.specs.List.{flat_map, AllByRecursion}
use Rattle.std.specs.Prelude.{Some, slice_get}
use Rattle.sram_netlist.specs.Organization.{Organization, IsWritten, inputs_of, power_of_two, bank_rows, columns_of, banks_of, addr_bits, bank_bit}
use Rattle.sram_netlist.specs.Instances.{LogicCell, LeafInstance, Clki, Csd, Wed, Csi, Wei, Wln, Wli, Wrn, Wri, Rdn, Rdi, Dlay, Senn, Seni, Ad, Ai, Dd, Dm, Pn, Pi, Ln, Li, Kn, Ki, Gn, Gi, BitAt, NandAt, DriverAt, PrechargeAt, WriteAt, SenseAt, MuxAt, TieAt, LogicAt}
use Rattle.sram_netlist.specs.Membership.{IsChoice, IsGroup, IsOneOf, HasEnable, HasLogicCell, HasLeafInstance}
use Rattle.sram_netlist.specs.Netlist.{enables_of}
use Rattle.sram_netlist.specs.InstanceList.{numbers_from, tabulate, tabulate_lists, row_leaves, column_cells, data_leaves, bank_leaves, fixed_cells, address_cells, line_gates, gates, groups_gates, choice_gates, bank_cells, banks_cells, enable_gates, enable_cells, logic_cells, leaf_instances}
use Rattle.sram_netlist.specs.Laws.{ListsAgree}

pub in_front : {A : Type 0} (x : A) (xs ys : List A) → IsOneOf x xs → IsOneOf x (xs ++ ys)
in_front x [] ys h = absurd h
in_front x (y ∷ xs) ys (inl e) = inl e
in_front x (y ∷ xs) ys (inr h) = inr (in_front x xs ys h)

pub in_back : {A : Type 0} (x : A) (xs ys : List A) → IsOneOf x ys → IsOneOf x (xs ++ ys)
in_back x [] ys h = h
in_back x (y ∷ xs) ys h = inr (in_back x xs ys h)

-- where one of a list stands
pub place_in : {A : Type 0} (x : A) (xs : List A) → IsOneOf x xs → (k : ℕ) × (slice_get xs k ≡ Some x)
place_in x [] h = absurd h
place_in {A} x (y ∷ xs) (inl e) = (0, ap (λ (z : A). Some z) e)
place_in x (y ∷ xs) (inr h) = let at = place_in x xs h in (suc at.0, at.1)

in_some : {A : Type 0} (x : A) (xs ys : List A) → IsOneOf x (xs ++ ys) → IsOneOf x xs ⊎ IsOneOf x ys
in_some x [] ys h = inr h
in_some x (y ∷ xs) ys (inl e) = inl (inl e)
in_some x (y ∷ xs) ys (inr h) = widen (in_some x xs ys h)
  where
    widen : IsOneOf x xs ⊎ IsOneOf x ys → IsOneOf x (y ∷ xs) ⊎ IsOneOf x ys
    widen (inl g) = inl (inr g)
    widen (inr g) = inr g

to_span : (k n j : ℕ) → k ≤ j → j < k + n → IsOneOf j (numbers_from k n)
to_span k zero j a b = absurd (omega arith)
to_span k (suc n) j a b = by_first (to_span (suc k) n j)
  where
    split : (k ≡ j) ⊎ (suc k ≤ j)
    split = omega_split
      where
        omega_split : (k ≡ j) ⊎ (suc k ≤ j)
        omega_split = grind arith

    by_first : (suc k ≤ j → j < suc k + n → IsOneOf j (numbers_from (suc k) n)) → IsOneOf j (k ∷ numbers_from (suc k) n)
    by_first more = pick split
      where
        pick : (k ≡ j) ⊎ (suc k ≤ j) → IsOneOf j (k ∷ numbers_from (suc k) n)
        pick (inl e) = inl e
        pick (inr h) = inr (more h (omega arith))

of_span : (k n j : ℕ) → IsOneOf j (numbers_from k n) → j < k + n
of_span k zero j h = absurd h
of_span k (suc n) j (inl e) = omega arith
of_span k (suc n) j (inr h) = let g = of_span (suc k) n j h in omega arith

pub to_map : {A B : Type 0} (f : A → B) (x : A) (xs : List A) → IsOneOf x xs → IsOneOf (f x) (map f xs)
to_map f x [] h = absurd h
to_map f x (y ∷ xs) (inl e) = inl (ap f e)
to_map f x (y ∷ xs) (inr h) = inr (to_map f x xs h)

pub of_map : {A B : Type 0} (f : A → B) (y : B) (xs : List A) → IsOneOf y (map f xs) → (x : A) × IsOneOf x xs × (f x ≡ y)
of_map f y [] h = absurd h
of_map f y (x ∷ xs) (inl e) = (x, inl refl, e)
of_map f y (x ∷ xs) (inr h) = let g = of_map f y xs h in (g.0, inr g.1, g.2)

pub to_flat : {A B : Type 0} (f : A → List B) (x : A) (y : B) (xs : List A) → IsOneOf x xs → IsOneOf y (f x) → IsOneOf y (flat_map f xs)
to_flat f x y [] h g = absurd h
to_flat f x y (z ∷ xs) (inl e) g = in_front y (f z) (flat_map f xs) (subst (λ u. IsOneOf y (f u)) (sym e) g)
to_flat f x y (z ∷ xs) (inr h) g = in_back y (f z) (flat_map f xs) (to_flat f x y xs h g)

of_flat : {A B : Type 0} (f : A → List B) (y : B) (xs : List A) → IsOneOf y (flat_map f xs) → (x : A) × IsOneOf x xs × IsOneOf y (f x)
of_flat f y [] h = absurd h
of_flat f y (x ∷ xs) h = by_part (in_some y (f x) (flat_map f xs) h) (of_flat f y xs)
  where
    by_part : IsOneOf y (f x) ⊎ IsOneOf y (flat_map f xs) → (IsOneOf y (flat_map f xs) → (z : _) × IsOneOf z xs × IsOneOf y (f z)) → (z : _) × IsOneOf z (x ∷ xs) × IsOneOf y (f z)
    by_part (inl g) more = (x, inl refl, g)
    by_part (inr g) more = let r = more g in (r.0, inr r.1, r.2)

pub to_each : {A : Type 0} (n : ℕ) (f : ℕ → A) (k : ℕ) → k < n → IsOneOf (f k) (tabulate n f)
to_each n f k h = to_map f k (numbers_from 0 n) (to_span 0 n k (omega arith) (omega arith))

pub to_gates : (o b k : ℕ) → k < power_of_two b → IsOneOf (Pn o b k) (gates o b) × IsOneOf (Pi o b k) (gates o b)
to_gates o b k h = (
  to_flat (line_gates o b) k (Pn o b k) (numbers_from 0 (power_of_two b)) (to_span 0 (power_of_two b) k (omega arith) (omega arith)) (inl refl),
  to_flat (line_gates o b) k (Pi o b k) (numbers_from 0 (power_of_two b)) (to_span 0 (power_of_two b) k (omega arith) (omega arith)) (inr (inl refl)),
)

pub to_groups : (bs : List ℕ) (from o b : ℕ) (x : LogicCell) → IsGroup bs from o b → IsOneOf x (gates o b) → IsOneOf x (groups_gates bs from)
to_groups [] from o b x g h = absurd g
to_groups (c ∷ bs) from o b x (inl g) h = in_front x (gates from c) (groups_gates bs (from + c)) (subst (λ (p : ℕ × ℕ). IsOneOf x (gates p.0 p.1)) (λ j. (g.0 j, g.1 j)) h)
to_groups (c ∷ bs) from o b x (inr g) h = in_back x (gates from c) (groups_gates bs (from + c)) (to_groups bs (from + c) o b x g h)

pub to_eachs : {A : Type 0} (n : ℕ) (f : ℕ → List A) (k : ℕ) (x : A) → k < n → IsOneOf x (f k) → IsOneOf x (tabulate_lists n f)
to_eachs n f k x h g = to_flat f k x (numbers_from 0 n) (to_span 0 n k (omega arith) (omega arith)) g

-- a cell of each part of the logic row
abbrev Within : Organization → List LogicCell → Type 0
Within plan xs = (x : LogicCell) → IsOneOf x xs → IsOneOf x (logic_cells plan)

abbrev end_cells : Organization → List LogicCell
end_cells plan = banks_cells plan plan.bank_bits ++ enable_cells plan.bank_bits plan.masks (enables_of plan)

abbrev data_cells : Organization → List LogicCell
data_cells plan = tabulate (inputs_of plan) Dd ++ (tabulate plan.masks Dm ++ end_cells plan)

abbrev decoder_cells : Organization → List LogicCell
decoder_cells plan = choice_gates plan.col_bits ++ (groups_gates plan.groups plan.col_bits ++ data_cells plan)

abbrev pub addresses : Organization → List LogicCell
addresses plan = tabulate_lists (addr_bits plan) address_cells

in_fixed : (plan : Organization) → Within plan (fixed_cells plan.write_size)
in_fixed plan x h = in_front x (fixed_cells plan.write_size) (addresses plan ++ decoder_cells plan) h

in_address : (plan : Organization) → Within plan (addresses plan)
in_address plan x h = in_back x (fixed_cells plan.write_size) (addresses plan ++ decoder_cells plan) (in_front x (addresses plan) (decoder_cells plan) h)

in_decoder : (plan : Organization) → Within plan (decoder_cells plan)
in_decoder plan x h = in_back x (fixed_cells plan.write_size) (addresses plan ++ decoder_cells plan) (in_back x (addresses plan) (decoder_cells plan) h)

in_choice : (plan : Organization) → Within plan (choice_gates plan.col_bits)
in_choice plan x h = in_decoder plan x (in_front x (choice_gates plan.col_bits) (groups_gates plan.groups plan.col_bits ++ data_cells plan) h)

in_groups : (plan : Organization) → Within plan (groups_gates plan.groups plan.col_bits)
in_groups plan x h = in_decoder plan x (in_back x (choice_gates plan.col_bits) (groups_gates plan.groups plan.col_bits ++ data_cells plan) (in_front x (groups_gates plan.groups plan.col_bits) (data_cells plan) h))

in_data : (plan : Organization) → Within plan (data_cells plan)
in_data plan x h = in_decoder plan x (in_back x (choice_gates plan.col_bits) (groups_gates plan.groups plan.col_bits ++ data_cells plan) (in_back x (groups_gates plan.groups plan.col_bits) (data_cells plan) h))

in_bits : (plan : Organization) → Within plan (tabulate (inputs_of plan) Dd)
in_bits plan x h = in_data plan x (in_front x (tabulate (inputs_of plan) Dd) (tabulate plan.masks Dm ++ end_cells plan) h)

in_masks : (plan : Organization) → Within plan (tabulate plan.masks Dm)
in_masks plan x h = in_data plan x (in_back x (tabulate (inputs_of plan) Dd) (tabulate plan.masks Dm ++ end_cells plan) (in_front x (tabulate plan.masks Dm) (end_cells plan) h))

in_end : (plan : Organization) → Within plan (end_cells plan)
in_end plan x h = in_data plan x (in_back x (tabulate (inputs_of plan) Dd) (tabulate plan.masks Dm ++ end_cells plan) (in_back x (tabulate plan.masks Dm) (end_cells plan) h))

in_banks : (plan : Organization) → Within plan (banks_cells plan plan.bank_bits)
in_banks plan x h = in_end plan x (in_front x (banks_cells plan plan.bank_bits) (enable_cells plan.bank_bits plan.masks (enables_of plan)) h)

in_enables : (plan : Organization) → Within plan (enable_cells plan.bank_bits plan.masks (enables_of plan))
in_enables plan x h = in_end plan x (in_back x (banks_cells plan plan.bank_bits) (enable_cells plan.bank_bits plan.masks (enables_of plan)) h)

pub to_choice : (m b : ℕ) (x : LogicCell) → b ≡ m → 0 < b → IsOneOf x (gates 0 b) → IsOneOf x (choice_gates m)
to_choice zero b x e some h = absurd (omega arith)
to_choice (suc m) b x e some h = subst (λ (n : ℕ). IsOneOf x (gates 0 n)) e h

to_selects : (plan : Organization) (n b : ℕ) (x : LogicCell) → b ≡ n → 0 < b → IsOneOf x (gates (bank_bit plan) b) → IsOneOf x (banks_cells plan n)
to_selects plan zero b x e some h = absurd (omega arith)
to_selects plan (suc n) b x e some h = in_front x (gates (bank_bit plan) (suc n)) (tabulate_lists (power_of_two (suc n)) bank_cells) (subst (λ (k : ℕ). IsOneOf x (gates (bank_bit plan) k)) e h)

to_line : (plan : Organization) (o b : ℕ) (x : LogicCell) → IsChoice plan o b → IsOneOf x (gates o b) → IsOneOf x (logic_cells plan)
to_line plan o b x (inl g) h = in_choice plan x (to_choice plan.col_bits b x g.0.1 g.1 (subst (λ (n : ℕ). IsOneOf x (gates n b)) g.0.0 h))
to_line plan o b x (inr (inl g)) h = in_groups plan x (to_groups plan.groups plan.col_bits o b x g h)
to_line plan o b x (inr (inr g)) h = in_banks plan x (to_selects plan plan.bank_bits b x g.0.1 g.1 (subst (λ (n : ℕ). IsOneOf x (gates n b)) g.0.0 h))

to_banks : (plan : Organization) (n bank : ℕ) (x : LogicCell) → bank < power_of_two n → 0 < n → IsOneOf x (bank_cells bank) → IsOneOf x (banks_cells plan n)
to_banks plan zero bank x fits some h = absurd (omega arith)
to_banks plan (suc n) bank x fits some h = in_back x (gates (bank_bit plan) (suc n)) (tabulate_lists (power_of_two (suc n)) bank_cells) (to_eachs (power_of_two (suc n)) bank_cells bank x fits h)

to_gate : (plan : Organization) (bank : ℕ) (x : LogicCell) → (bank < banks_of plan) × (0 < plan.bank_bits) → IsOneOf x (bank_cells bank) → IsOneOf x (logic_cells plan)
to_gate plan bank x h g = in_banks plan x (to_banks plan plan.bank_bits bank x h.0 h.1 g)

to_enables : (n k count bank j : ℕ) (x : LogicCell) → bank < power_of_two n → j < count → (0 < n) ⊎ (0 < k) → IsOneOf x (enable_gates bank j) → IsOneOf x (enable_cells n k count)
to_enables zero zero count bank j x fits j_fits (inl some) h = absurd (omega arith)
to_enables zero zero count bank j x fits j_fits (inr some) h = absurd (omega arith)
to_enables zero (suc k) count bank j x fits j_fits some h = to_eachs 1 (λ b. tabulate_lists count (enable_gates b)) bank x fits (to_eachs count (enable_gates bank) j x j_fits h)
to_enables (suc n) k count bank j x fits j_fits some h = to_eachs (power_of_two (suc n)) (λ b. tabulate_lists count (enable_gates b)) bank x fits (to_eachs count (enable_gates bank) j x j_fits h)

to_enable : (plan : Organization) (bank j : ℕ) (x : LogicCell) → HasEnable plan bank j → IsOneOf x (enable_gates bank j) → IsOneOf x (logic_cells plan)
to_enable plan bank j x h g = in_enables plan x (to_enables plan.bank_bits plan.masks (enables_of plan) bank j x h.0.0 h.0.1 h.1 g)

to_address : (plan : Organization) (i : ℕ) (x : LogicCell) → i < addr_bits plan → IsOneOf x (address_cells i) → IsOneOf x (logic_cells plan)
to_address plan i x h g = in_address plan x (to_eachs (addr_bits plan) address_cells i x h g)

-- a cell of both kinds of memory, by its places in the two lists, and one of a written memory alone
in_both : (plan : Organization) (x : LogicCell) → IsOneOf x (fixed_cells 0) → IsOneOf x (fixed_cells 1) → IsOneOf x (logic_cells plan)
in_both plan x f g = in_fixed plan x (by_kind plan.write_size)
  where
    by_kind : (n : ℕ) → IsOneOf x (fixed_cells n)
    by_kind zero = f
    by_kind (suc n) = g

in_written : (plan : Organization) (x : LogicCell) → IsWritten plan → IsOneOf x (fixed_cells 1) → IsOneOf x (logic_cells plan)
in_written plan x some g = in_fixed plan x (by_kind plan.write_size some)
  where
    by_kind : (n : ℕ) → 0 < n → IsOneOf x (fixed_cells n)
    by_kind zero none = absurd (omega arith)
    by_kind (suc n) some = g

pub to_cells : (plan : Organization) (x : LogicCell) → HasLogicCell plan x → IsOneOf x (logic_cells plan)
to_cells plan Clki h = in_both plan Clki (inl refl) (inl refl)
to_cells plan Csd h = in_both plan Csd (inr (inl refl)) (inr (inl refl))
to_cells plan Wed h = in_written plan Wed h (inr (inr (inl refl)))
to_cells plan Csi h = in_both plan Csi (inr (inr (inl refl))) (inr (inr (inr (inl refl))))
to_cells plan Wei h = in_written plan Wei h (inr (inr (inr (inr (inl refl)))))
to_cells plan Wln h = in_both plan Wln (inr (inr (inr (inl refl)))) (inr (inr (inr (inr (inr (inl refl))))))
to_cells plan Wli h = in_both plan Wli (inr (inr (inr (inr (inl refl))))) (inr (inr (inr (inr (inr (inr (inl refl)))))))
to_cells plan Wrn h = in_written plan Wrn h (inr (inr (inr (inr (inr (inr (inr (inl refl))))))))
to_cells plan Wri h = in_written plan Wri h (inr (inr (inr (inr (inr (inr (inr (inr (inl refl)))))))))
to_cells plan Rdn h = in_written plan Rdn h (inr (inr (inr (inr (inr (inr (inr (inr (inr (inl refl))))))))))
to_cells plan Rdi h = in_written plan Rdi h (inr (inr (inr (inr (inr (inr (inr (inr (inr (inr (inl refl)))))))))))
to_cells plan Dlay h = in_both plan Dlay (inr (inr (inr (inr (inr (inl refl)))))) (inr (inr (inr (inr (inr (inr (inr (inr (inr (inr (inr (inl refl))))))))))))
to_cells plan Senn h = in_both plan Senn (inr (inr (inr (inr (inr (inr (inl refl))))))) (inr (inr (inr (inr (inr (inr (inr (inr (inr (inr (inr (inr (inl refl)))))))))))))
to_cells plan Seni h = in_both plan Seni (inr (inr (inr (inr (inr (inr (inr (inl refl)))))))) (inr (inr (inr (inr (inr (inr (inr (inr (inr (inr (inr (inr (inr (inl refl))))))))))))))
to_cells plan (Ad i) h = to_address plan i (Ad i) h (inl refl)
to_cells plan (Ai i) h = to_address plan i (Ai i) h (inr (inl refl))
to_cells plan (Dd i) h = in_bits plan (Dd i) (to_each (inputs_of plan) Dd i h)
to_cells plan (Dm j) h = in_masks plan (Dm j) (to_each plan.masks Dm j h)
to_cells plan (Pn o b k) h = to_line plan o b (Pn o b k) h.0 (to_gates o b k h.1).0
to_cells plan (Pi o b k) h = to_line plan o b (Pi o b k) h.0 (to_gates o b k h.1).1
to_cells plan (Ln bank) h = to_gate plan bank (Ln bank) h (inl refl)
to_cells plan (Li bank) h = to_gate plan bank (Li bank) h (inr (inl refl))
to_cells plan (Kn bank) h = to_gate plan bank (Kn bank) h (inr (inr (inl refl)))
to_cells plan (Ki bank) h = to_gate plan bank (Ki bank) h (inr (inr (inr (inl refl))))
to_cells plan (Gn bank j) h = to_enable plan bank j (Gn bank j) h (inl refl)
to_cells plan (Gi bank j) h = to_enable plan bank j (Gi bank j) h (inr (inl refl))

to_bank : (plan : Organization) (bank : ℕ) (x : LeafInstance) → bank < banks_of plan → IsOneOf x (bank_leaves plan bank) → IsOneOf x (leaf_instances plan)
to_bank plan bank x h g = in_back x (map LogicAt (logic_cells plan)) (tabulate_lists (banks_of plan) (bank_leaves plan)) (to_eachs (banks_of plan) (bank_leaves plan) bank x h g)

to_row : (plan : Organization) (bank r : ℕ) (x : LeafInstance) → bank < banks_of plan → r < bank_rows plan → IsOneOf x (row_leaves plan bank r) → IsOneOf x (leaf_instances plan)
to_row plan bank r x h f g = to_bank plan bank x h (in_front x (tabulate_lists (bank_rows plan) (row_leaves plan bank)) (tabulate (columns_of plan) (PrechargeAt bank) ++ data_leaves plan bank) (to_eachs (bank_rows plan) (row_leaves plan bank) r x f g))

to_data : (plan : Organization) (bank : ℕ) (x : LeafInstance) → bank < banks_of plan → IsOneOf x (data_leaves plan bank) → IsOneOf x (leaf_instances plan)
to_data plan bank x h g = to_bank plan bank x h (in_back x (tabulate_lists (bank_rows plan) (row_leaves plan bank)) (tabulate (columns_of plan) (PrechargeAt bank) ++ data_leaves plan bank) (in_back x (tabulate (columns_of plan) (PrechargeAt bank)) (data_leaves plan bank) g))

pub to_links : (m bank n c : ℕ) → c < n → (0 < m → IsOneOf (MuxAt bank c) (column_cells m bank n)) × (m ≡ 0 → IsOneOf (TieAt bank c) (column_cells m bank n))
to_links zero bank n c h = (λ some. absurd (omega arith), λ e. to_each n (TieAt bank) c h)
to_links (suc m) bank n c h = (λ some. to_each n (MuxAt bank) c h, λ e. absurd (omega arith))

to_column : (plan : Organization) (bank : ℕ) (x : LeafInstance) → bank < banks_of plan → IsOneOf x (column_cells plan.col_bits bank (columns_of plan)) → IsOneOf x (leaf_instances plan)
to_column plan bank x h g = to_data plan bank x h (in_back x (tabulate (inputs_of plan) (WriteAt bank)) (tabulate plan.word_size (SenseAt bank) ++ column_cells plan.col_bits bank (columns_of plan))
    (in_back x (tabulate plan.word_size (SenseAt bank)) (column_cells plan.col_bits bank (columns_of plan)) g))

to_places : (plan : Organization) (x : LeafInstance) → HasLeafInstance plan x → IsOneOf x (leaf_instances plan)
to_places plan (LogicAt cell) h = in_front (LogicAt cell) (map LogicAt (logic_cells plan)) (tabulate_lists (banks_of plan) (bank_leaves plan)) (to_map LogicAt cell (logic_cells plan) (to_cells plan cell h))
to_places plan (NandAt bank r) h = to_row plan bank r (NandAt bank r) h.0 h.1 (inl refl)
to_places plan (DriverAt bank r) h = to_row plan bank r (DriverAt bank r) h.0 h.1 (inr (inl refl))
to_places plan (BitAt bank r c) h = to_row plan bank r (BitAt bank r c) h.0 h.1.0 (inr (inr (to_each (columns_of plan) (BitAt bank r) c h.1.1)))
to_places plan (PrechargeAt bank c) h = to_bank plan bank (PrechargeAt bank c) h.0 (in_back (PrechargeAt bank c) (tabulate_lists (bank_rows plan) (row_leaves plan bank)) (tabulate (columns_of plan) (PrechargeAt bank) ++ data_leaves plan bank)
    (in_front (PrechargeAt bank c) (tabulate (columns_of plan) (PrechargeAt bank)) (data_leaves plan bank) (to_each (columns_of plan) (PrechargeAt bank) c h.1)))
to_places plan (WriteAt bank c) h = to_data plan bank (WriteAt bank c) h.0 (in_front (WriteAt bank c) (tabulate (inputs_of plan) (WriteAt bank)) (tabulate plan.word_size (SenseAt bank) ++ column_cells plan.col_bits bank (columns_of plan)) (to_each (inputs_of plan) (WriteAt bank) c h.1))
to_places plan (SenseAt bank c) h = to_data plan bank (SenseAt bank c) h.0 (in_back (SenseAt bank c) (tabulate (inputs_of plan) (WriteAt bank)) (tabulate plan.word_size (SenseAt bank) ++ column_cells plan.col_bits bank (columns_of plan))
    (in_front (SenseAt bank c) (tabulate plan.word_size (SenseAt bank)) (column_cells plan.col_bits bank (columns_of plan)) (to_each plan.word_size (SenseAt bank) c h.1)))
to_places plan (MuxAt bank c) h = to_column plan bank (MuxAt bank c) h.0 ((to_links plan.col_bits bank (columns_of plan) c h.1.0).0 h.1.1)
to_places plan (TieAt bank c) h = to_column plan bank (TieAt bank c) h.0 ((to_links plan.col_bits bank (columns_of plan) c h.1.0).1 h.1.1)

-- and each of the list is the plan's
pub of_each : {A : Type 0} (n : ℕ) (f : ℕ → A) (P : A → Type 0) → ((k : ℕ) → k < n → P (f k)) → (x : A) → IsOneOf x (tabulate n f) → P x
of_each n f P p x h = let g = of_map f x (numbers_from 0 n) h in subst P g.2 (p g.0 (let e = of_span 0 n g.0 g.1 in omega arith))

pub of_either : {A : Type 0} (P : A → Type 0) (x : A) (xs ys : List A) → (IsOneOf x xs → P x) → (IsOneOf x ys → P x) → IsOneOf x (xs ++ ys) → P x
of_either P x xs ys p q h = by_part (in_some x xs ys h)
  where
    by_part : IsOneOf x xs ⊎ IsOneOf x ys → P x
    by_part (inl g) = p g
    by_part (inr g) = q g

pub of_all : {A : Type 0} (P : A → Type 0) (x y : A) (ys : List A) → P y → (IsOneOf x ys → P x) → IsOneOf x (y ∷ ys) → P x
of_all P x y ys p q (inl e) = subst P e p
of_all P x y ys p q (inr h) = q h

pub of_eachs : {A : Type 0} (n : ℕ) (f : ℕ → List A) (x : A) → IsOneOf x (tabulate_lists n f) → (k : ℕ) × (k < n) × IsOneOf x (f k)
of_eachs n f x h = let g = of_flat f x (numbers_from 0 n) h in (g.0, (let e = of_span 0 n g.0 g.1 in omega arith), g.2)

of_gates : (plan : Organization) (o b : ℕ) (x : LogicCell) → IsChoice plan o b → IsOneOf x (gates o b) → HasLogicCell plan x
of_gates plan o b x c h =
    let g = of_eachs (power_of_two b) (line_gates o b) x h in
    of_all (HasLogicCell plan) x (Pn o b g.0) (Pi o b g.0 ∷ []) (c, g.1) (of_all (HasLogicCell plan) x (Pi o b g.0) [] (c, g.1) (λ e. absurd e)) g.2

pub of_choice : (plan : Organization) (m : ℕ) (x : LogicCell) → plan.col_bits ≡ m → IsOneOf x (choice_gates m) → HasLogicCell plan x
of_choice plan zero x e h = absurd h
of_choice plan (suc m) x e h = of_gates plan 0 (suc m) x (inl ((refl, sym e), omega arith)) h

pub of_groups : (plan : Organization) (bs : List ℕ) (from : ℕ) (x : LogicCell) → ((o b : ℕ) → IsGroup bs from o b → IsGroup plan.groups plan.col_bits o b) → IsOneOf x (groups_gates bs from) → HasLogicCell plan x
of_groups plan [] from x are h = absurd h
of_groups plan (b ∷ bs) from x are h = of_either (HasLogicCell plan) x (gates from b) (groups_gates bs (from + b))
    (λ g. of_gates plan from b x (inr (inl (are from b (inl (refl, refl))))) g) (of_groups plan bs (from + b) x (λ o c g. are o c (inr g))) h

pub of_address : (plan : Organization) (x : LogicCell) → IsOneOf x (addresses plan) → HasLogicCell plan x
of_address plan x h =
    let g = of_eachs (addr_bits plan) address_cells x h in
    of_all (HasLogicCell plan) x (Ad g.0) (Ai g.0 ∷ []) g.1 (of_all (HasLogicCell plan) x (Ai g.0) [] g.1 (λ e. absurd e)) g.2

of_bank_cells : (plan : Organization) (n : ℕ) (x : LogicCell) → plan.bank_bits ≡ suc n → IsOneOf x (tabulate_lists (power_of_two (suc n)) bank_cells) → HasLogicCell plan x
of_bank_cells plan n x e h =
    let g = of_eachs (power_of_two (suc n)) bank_cells x h in
    let fits : g.0 < banks_of plan = subst (λ (k : ℕ). g.0 < power_of_two k) (sym e) g.1 in
    let some : 0 < plan.bank_bits = omega arith in
    of_all (HasLogicCell plan) x (Ln g.0) (Li g.0 ∷ Kn g.0 ∷ Ki g.0 ∷ []) (fits, some) (of_all (HasLogicCell plan) x (Li g.0) (Kn g.0 ∷ Ki g.0 ∷ []) (fits, some)
    (of_all (HasLogicCell plan) x (Kn g.0) (Ki g.0 ∷ []) (fits, some) (of_all (HasLogicCell plan) x (Ki g.0) [] (fits, some) (λ e. absurd e)))) g.2

of_banks : (plan : Organization) (n : ℕ) (x : LogicCell) → plan.bank_bits ≡ n → IsOneOf x (banks_cells plan n) → HasLogicCell plan x
of_banks plan zero x e h = absurd h
of_banks plan (suc n) x e h = of_either (HasLogicCell plan) x (gates (bank_bit plan) (suc n)) (tabulate_lists (power_of_two (suc n)) bank_cells)
    (of_gates plan (bank_bit plan) (suc n) x (inr (inr ((refl, sym e), omega arith)))) (of_bank_cells plan n x e) h

of_enable_list : (plan : Organization) (banks count : ℕ) (x : LogicCell) → ((bank j : ℕ) → bank < banks → j < count → HasEnable plan bank j) → IsOneOf x (tabulate_lists banks (λ b. tabulate_lists count (enable_gates b))) → HasLogicCell plan x
of_enable_list plan banks count x f h =
    let g = of_eachs banks (λ b. tabulate_lists count (enable_gates b)) x h in
    let i = of_eachs count (enable_gates g.0) x g.2 in
    of_all (HasLogicCell plan) x (Gn g.0 i.0) (Gi g.0 i.0 ∷ []) (f g.0 i.0 g.1 i.1) (of_all (HasLogicCell plan) x (Gi g.0 i.0) [] (f g.0 i.0 g.1 i.1) (λ e. absurd e)) i.2

of_enables : (plan : Organization) (n k : ℕ) (x : LogicCell) → plan.bank_bits ≡ n → plan.masks ≡ k → IsOneOf x (enable_cells n k (enables_of plan)) → HasLogicCell plan x
of_enables plan zero zero x e f h = absurd h
of_enables plan zero (suc k) x e f h = of_enable_list plan 1 (enables_of plan) x (λ bank j b_fits j_fits. ((subst (λ (n : ℕ). bank < power_of_two n) (sym e) b_fits, j_fits), inr (omega arith))) h
of_enables plan (suc n) k x e f h = of_enable_list plan (power_of_two (suc n)) (enables_of plan) x (λ bank j b_fits j_fits. ((subst (λ (n : ℕ). bank < power_of_two n) (sym e) b_fits, j_fits), inl (omega arith))) h

of_list : {A : Type 0} (P : A → Type 0) (xs : List A) → AllByRecursion P xs → (x : A) → IsOneOf x xs → P x
of_list P [] all x h = absurd h
of_list P (y ∷ xs) all x (inl e) = subst P e all.0
of_list P (y ∷ xs) all x (inr h) = of_list P xs all.1 x h

of_fixed : (plan : Organization) (n : ℕ) → plan.write_size ≡ n → (x : LogicCell) → IsOneOf x (fixed_cells n) → HasLogicCell plan x
of_fixed plan zero e = of_list (HasLogicCell plan) (fixed_cells 0) (tt, (tt, (tt, (tt, (tt, (tt, (tt, (tt, tt))))))))
of_fixed plan (suc n) e =
    let some : IsWritten plan = omega arith in
    of_list (HasLogicCell plan) (fixed_cells 1) (tt, (tt, (some, (tt, (some, (tt, (tt, (some, (some, (some, (some, (tt, (tt, (tt, tt))))))))))))))

of_cells : (plan : Organization) (x : LogicCell) → IsOneOf x (logic_cells plan) → HasLogicCell plan x
of_cells plan x h = of_either (HasLogicCell plan) x (fixed_cells plan.write_size) (addresses plan ++ decoder_cells plan) (of_fixed plan plan.write_size refl x)
    (of_either (HasLogicCell plan) x (addresses plan) (decoder_cells plan) (of_address plan x)
    (of_either (HasLogicCell plan) x (choice_gates plan.col_bits) (groups_gates plan.groups plan.col_bits ++ data_cells plan) (of_choice plan plan.col_bits x refl)
    (of_either (HasLogicCell plan) x (groups_gates plan.groups plan.col_bits) (data_cells plan) (of_groups plan plan.groups plan.col_bits x (λ o b g. g))
    (of_either (HasLogicCell plan) x (tabulate (inputs_of plan) Dd) (tabulate plan.masks Dm ++ end_cells plan) (of_each (inputs_of plan) Dd (HasLogicCell plan) (λ k f. f) x)
    (of_either (HasLogicCell plan) x (tabulate plan.masks Dm) (end_cells plan) (of_each plan.masks Dm (HasLogicCell plan) (λ k f. f) x)
    (of_either (HasLogicCell plan) x (banks_cells plan plan.bank_bits) (enable_cells plan.bank_bits plan.masks (enables_of plan)) (of_banks plan plan.bank_bits x refl) (of_enables plan plan.bank_bits plan.masks x refl refl))))))) h

of_links : (plan : Organization) (bank m : ℕ) (x : LeafInstance) → bank < banks_of plan → plan.col_bits ≡ m → IsOneOf x (column_cells m bank (columns_of plan)) → HasLeafInstance plan x
of_links plan bank zero x b e h = of_each (columns_of plan) (TieAt bank) (HasLeafInstance plan) (λ k f. (b, (f, e))) x h
of_links plan bank (suc m) x b e h = of_each (columns_of plan) (MuxAt bank) (HasLeafInstance plan) (λ k f. (b, (f, omega arith))) x h

of_rows : (plan : Organization) (bank : ℕ) (x : LeafInstance) → bank < banks_of plan → IsOneOf x (tabulate_lists (bank_rows plan) (row_leaves plan bank)) → HasLeafInstance plan x
of_rows plan bank x b h =
    let g = of_eachs (bank_rows plan) (row_leaves plan bank) x h in
    of_all (HasLeafInstance plan) x (NandAt bank g.0) (DriverAt bank g.0 ∷ tabulate (columns_of plan) (BitAt bank g.0)) (b, g.1)
    (of_all (HasLeafInstance plan) x (DriverAt bank g.0) (tabulate (columns_of plan) (BitAt bank g.0)) (b, g.1) (of_each (columns_of plan) (BitAt bank g.0) (HasLeafInstance plan) (λ k f. (b, (g.1, f))) x)) g.2

of_bank : (plan : Organization) (bank : ℕ) (x : LeafInstance) → bank < banks_of plan → IsOneOf x (bank_leaves plan bank) → HasLeafInstance plan x
of_bank plan bank x b h = of_either (HasLeafInstance plan) x (tabulate_lists (bank_rows plan) (row_leaves plan bank)) (tabulate (columns_of plan) (PrechargeAt bank) ++ data_leaves plan bank) (of_rows plan bank x b)
    (of_either (HasLeafInstance plan) x (tabulate (columns_of plan) (PrechargeAt bank)) (data_leaves plan bank) (of_each (columns_of plan) (PrechargeAt bank) (HasLeafInstance plan) (λ k f. (b, f)) x)
    (of_either (HasLeafInstance plan) x (tabulate (inputs_of plan) (WriteAt bank)) (tabulate plan.word_size (SenseAt bank) ++ column_cells plan.col_bits bank (columns_of plan)) (of_each (inputs_of plan) (WriteAt bank) (HasLeafInstance plan) (λ k f. (b, f)) x)
    (of_either (HasLeafInstance plan) x (tabulate plan.word_size (SenseAt bank)) (column_cells plan.col_bits bank (columns_of plan)) (of_each plan.word_size (SenseAt bank) (HasLeafInstance plan) (λ k f. (b, f)) x)
    (of_links plan bank plan.col_bits x b refl)))) h

of_places : (plan : Organization) (x : LeafInstance) → IsOneOf x (leaf_instances plan) → HasLeafInstance plan x
of_places plan x h = of_either (HasLeafInstance plan) x (map LogicAt (logic_cells plan)) (tabulate_lists (banks_of plan) (bank_leaves plan)) of_logic of_banked h
  where
    of_logic : IsOneOf x (map LogicAt (logic_cells plan)) → HasLeafInstance plan x
    of_logic h = let g = of_map LogicAt x (logic_cells plan) h in subst (HasLeafInstance plan) g.2 (of_cells plan g.0 g.1)

    of_banked : IsOneOf x (tabulate_lists (banks_of plan) (bank_leaves plan)) → HasLeafInstance plan x
    of_banked h = let g = of_eachs (banks_of plan) (bank_leaves plan) x h in of_bank plan g.0 x g.1 g.2

pub lists_agree : ListsAgree
lists_agree plan leaf = (of_places plan leaf, to_places plan leaf)
