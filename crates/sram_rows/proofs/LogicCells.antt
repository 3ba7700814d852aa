-- The cells of the logic row: each is the plan's.
use Rattle.std.proofs.Common.{◌≡◌, inl, inr, ℕ, zero, suc, ◌+◌, ◌/◌, ◌<◌, ◌≤◌, ◌^◌, Bool, true, false, List, [], ◌∷◌, ◌++◌, length, refl, sym, ap, ◌∙◌, arith, map}
use Rattle.std.specs.List.{AllByRecursion}
use Rattle.std.specs.Fmt.{decimal}
use Rattle.std.proofs.lemmas.List.{length-append}
use Rattle.row_laws.proofs.LookLaws.{all_append}
use Rattle.sram_netlist.specs.Organization.{Organization, IsWritten, inputs_of, total_bits, banks_of, bank_bit, addr_bits, IsBuildable}
use Rattle.sram_netlist.specs.Nets.{Net, Web0, Wen, Control, Din, Dout, D, LineB, Line, WlenAt, SenAt, WenB, WenAt, Zb, Wl, Bl, Br, Lo, Ro}
use Rattle.sram_netlist.specs.Instances.{LogicCell, Clki, Csd, Wed, Csi, Wei, Wln, Wli, Wrn, Wri, Rdn, Rdi, Dlay, Senn, Seni, Ad, Ai, Dd, Dm, Pn, Pi, Ln, Li, Kn, Ki, Gn, Gi, LogicAt}
use Rattle.cell_roles.specs.Roles.{role_ports}
use Rattle.sram_netlist.specs.Netlist.{gate_of, pick, picks, lowest_bit, enable_count, enables_of, sense_start, enable_inputs, bank_input, mask_input, supply_nets, logic_role, logic_cell_ports}
use Rattle.sram_netlist.specs.Membership.{IsGated, IsNameable, IsChoice, IsGroup, HasLogicCell, IsOneOf}
use Rattle.sram_netlist.specs.Names.{line_kind, cell_name}
use Rattle.sram_netlist.specs.InstanceList.{tabulate_lists, logic_cells, bank_leaves}
use Rattle.sram_netlist.proofs.Bounds.{bounds, choice_size, line_few, some_written}
use Rattle.sram_rows.proofs.DigitLaws.{IsPlain, plain_tail}
use Rattle.sram_rows.proofs.PlainNames.{inputs_within, enables_within}
use Rattle.sram_rows.proofs.PlainNetNames.{few_banks, kind_small, gate_name_plain, inv_name_plain}
use Rattle.sram_netlist.proofs.InstanceLists.{lists_agree}

-- of the nets that names tell apart, those that the logic row has
abbrev pub IsInLogic : Organization → Net → Type 0
IsInLogic plan (Dout i) = ⊥
IsInLogic plan (Zb b r) = ⊥
IsInLogic plan (Wl b r) = ⊥
IsInLogic plan (Bl b c) = ⊥
IsInLogic plan (Br b c) = ⊥
IsInLogic plan (Lo b i) = ⊥
IsInLogic plan (Ro b i) = ⊥
IsInLogic plan (WlenAt b) = 0 < plan.bank_bits
IsInLogic plan (SenAt b) = 0 < plan.bank_bits
IsInLogic plan (WenAt b m) = IsGated plan × (m < enables_of plan)
IsInLogic plan (Control Web0) = IsWritten plan
IsInLogic plan (Control Wen) = IsWritten plan
IsInLogic plan (Din i) = i < inputs_of plan
IsInLogic plan (D i) = i < inputs_of plan
IsInLogic plan x = Unit {0}

pub record IsGood (plan : Organization) (x : Net) : Type 0 where
  pub has : IsNameable plan x
  pub logic : IsInLogic plan x

-- each of the list is one of the plan's
all_of : {X : Type 0} (P : X → Type 0) (xs : List X) → ((x : X) → IsOneOf x xs → P x) → AllByRecursion P xs
all_of P [] h = tt
all_of P (x ∷ xs) h = (h x (inl refl), all_of P xs (λ y is. h y (inr is)))

one_before : {X : Type 0} (x : X) (xs ys : List X) → IsOneOf x xs → IsOneOf x (xs ++ ys)
one_before x [] ys is = absurd is
one_before x (y ∷ xs) ys (inl e) = inl e
one_before x (y ∷ xs) ys (inr is) = inr (one_before x xs ys is)

one_cell : (c : LogicCell) (cs : List LogicCell) → IsOneOf c cs → IsOneOf (LogicAt c) (map LogicAt cs)
one_cell c [] is = absurd is
one_cell c (d ∷ cs) (inl e) = inl (ap LogicAt e)
one_cell c (d ∷ cs) (inr is) = inr (one_cell c cs is)

pub cells_in : (plan : Organization) → AllByRecursion (HasLogicCell plan) (logic_cells plan)
cells_in plan = all_of (HasLogicCell plan) (logic_cells plan)
    (λ c is. (lists_agree plan (LogicAt c)).0 (one_before (LogicAt c) (map LogicAt (logic_cells plan)) (tabulate_lists (banks_of plan) (bank_leaves plan)) (one_cell c (logic_cells plan) is)))

-- the nets of their ports
group_within : (bs : List ℕ) (from o b : ℕ) → IsGroup bs from o b → o + b ≤ from + total_bits bs
group_within [] from o b g = absurd g
group_within (c ∷ cs) from o b (inl e) = let x = e.0 in let y = e.1 in omega (arith, x, y)
group_within (c ∷ cs) from o b (inr g) = let h = group_within cs (from + c) o b g in omega (arith, h)

pub choice_within : (plan : Organization) (o b : ℕ) → IsChoice plan o b → o + b ≤ addr_bits plan
choice_within plan o b (inl e) = let x = e.0.0 in let y = e.0.1 in omega (arith, x, y)
choice_within plan o b (inr (inl g)) = let h = group_within plan.groups plan.col_bits o b g in omega (arith, h)
choice_within plan o b (inr (inr e)) = let x = e.0.0 in let y = e.0.1 in omega (arith, x, y)

pick_good : (plan : Organization) (i : ℕ) (odd : Bool) → i < addr_bits plan → IsGood plan (pick i odd)
pick_good plan i true lt = record { has = lt; logic = tt }
pick_good plan i false lt = record { has = lt; logic = tt }

picks_good : (plan : Organization) (o b k : ℕ) → o + b ≤ addr_bits plan → AllByRecursion (IsGood plan) (picks o b k)
picks_good plan o zero k lt = tt
picks_good plan o (suc b) k lt = (pick_good plan o (lowest_bit k) (omega arith), picks_good plan (suc o) b (k / 2) (omega arith))

supply_good : (plan : Organization) → AllByRecursion (IsGood plan) supply_nets
supply_good plan = (record { has = tt; logic = tt }, (record { has = tt; logic = tt }, tt))

bank_good : (plan : Organization) (n b : ℕ) → plan.bank_bits ≡ n → b < banks_of plan → AllByRecursion (IsGood plan) (bank_input plan n b)
bank_good plan zero b e lt = tt
bank_good plan (suc n) b e lt = (record { has = (inr (inr ((refl, refl), omega (arith, e))), lt); logic = tt }, tt)

mask_good : (plan : Organization) (k m : ℕ) → plan.masks ≡ k → m < enable_count k → AllByRecursion (IsGood plan) (mask_input k m)
mask_good plan zero m e lt = tt
mask_good plan (suc k) m e lt = (record { has = omega (arith, e, lt); logic = tt }, tt)

own_line : (plan : Organization) (b : ℕ) → b < banks_of plan → 0 < plan.bank_bits → IsGood plan (Line (bank_bit plan) plan.bank_bits b)
own_line plan b lt some = record { has = (inr (inr ((refl, refl), some)), lt); logic = tt }

start_good : (plan : Organization) (w : ℕ) → IsGood plan (sense_start w)
start_good plan zero = record { has = tt; logic = tt }
start_good plan (suc w) = record { has = tt; logic = tt }

pub ports_good : (plan : Organization) (c : LogicCell) → HasLogicCell plan c → AllByRecursion (IsGood plan) (logic_cell_ports plan c)
ports_good plan Clki h = (record { has = tt; logic = tt }, (record { has = tt; logic = tt }, supply_good plan))
ports_good plan Csd h = (record { has = tt; logic = tt }, (record { has = tt; logic = tt }, (record { has = tt; logic = tt }, supply_good plan)))
ports_good plan Wed h = (record { has = tt; logic = h }, (record { has = tt; logic = tt }, (record { has = tt; logic = tt }, supply_good plan)))
ports_good plan Csi h = (record { has = tt; logic = tt }, (record { has = tt; logic = tt }, supply_good plan))
ports_good plan Wei h = (record { has = tt; logic = tt }, (record { has = tt; logic = tt }, supply_good plan))
ports_good plan Wln h = (record { has = tt; logic = tt }, (record { has = tt; logic = tt }, (record { has = tt; logic = tt }, supply_good plan)))
ports_good plan Wli h = (record { has = tt; logic = tt }, (record { has = tt; logic = tt }, supply_good plan))
ports_good plan Wrn h = (record { has = tt; logic = tt }, (record { has = tt; logic = tt }, (record { has = tt; logic = tt }, (record { has = tt; logic = tt }, supply_good plan))))
ports_good plan Wri h = (record { has = tt; logic = tt }, (record { has = tt; logic = h }, supply_good plan))
ports_good plan Rdn h = (record { has = tt; logic = tt }, (record { has = tt; logic = tt }, (record { has = tt; logic = tt }, (record { has = tt; logic = tt }, supply_good plan))))
ports_good plan Rdi h = (record { has = tt; logic = tt }, (record { has = tt; logic = tt }, supply_good plan))
ports_good plan Dlay h = (record { has = tt; logic = tt }, (record { has = tt; logic = tt }, supply_good plan))
ports_good plan Senn h = (start_good plan plan.write_size, (record { has = tt; logic = tt }, (record { has = tt; logic = tt }, supply_good plan)))
ports_good plan Seni h = (record { has = tt; logic = tt }, (record { has = tt; logic = tt }, supply_good plan))
ports_good plan (Ad i) h = (record { has = h; logic = tt }, (record { has = tt; logic = tt }, (record { has = h; logic = tt }, supply_good plan)))
ports_good plan (Ai i) h = (record { has = h; logic = tt }, (record { has = h; logic = tt }, supply_good plan))
ports_good plan (Dd i) h = let few = inputs_within plan i h in (record { has = few; logic = h }, (record { has = tt; logic = tt }, (record { has = few; logic = h }, supply_good plan)))
ports_good plan (Dm m) h = (record { has = h; logic = tt }, (record { has = tt; logic = tt }, (record { has = h; logic = tt }, supply_good plan)))
ports_good plan (Pn o b k) h = all_append (IsGood plan) (picks o b k) (LineB o b k ∷ supply_nets) (picks_good plan o b k (choice_within plan o b h.0)) (record { has = h; logic = tt }, supply_good plan)
ports_good plan (Pi o b k) h = (record { has = h; logic = tt }, (record { has = h; logic = tt }, supply_good plan))
ports_good plan (Ln b) h = (record { has = tt; logic = tt }, (own_line plan b h.0 h.1, (record { has = h.0; logic = tt }, supply_good plan)))
ports_good plan (Li b) h = (record { has = h.0; logic = tt }, (record { has = h.0; logic = h.1 }, supply_good plan))
ports_good plan (Kn b) h = (record { has = tt; logic = tt }, (own_line plan b h.0 h.1, (record { has = h.0; logic = tt }, supply_good plan)))
ports_good plan (Ki b) h = (record { has = h.0; logic = tt }, (record { has = h.0; logic = h.1 }, supply_good plan))
ports_good plan (Gn b m) h =
    all_append (IsGood plan) (enable_inputs plan b m) (WenB b m ∷ supply_nets)
    (record { has = tt; logic = some_written plan.write_size (enable_count plan.masks) m h.0.1 }, all_append (IsGood plan) (bank_input plan plan.bank_bits b) (mask_input plan.masks m) (bank_good plan plan.bank_bits b refl h.0.0) (mask_good plan plan.masks m refl (enables_within plan m h.0.1)))
    (record { has = (h.0.0, enables_within plan m h.0.1); logic = tt }, supply_good plan)
ports_good plan (Gi b m) h = let fits = enables_within plan m h.0.1 in (record { has = (h.0.0, fits); logic = tt }, (record { has = (h.0.0, fits); logic = (h.1, h.0.1) }, supply_good plan))

-- each has as many ports as its role
gate_sized : (xs : List Net) (z : Net) → 0 < length xs → length xs ≤ 3 → length (role_ports (gate_of (length xs))) ≡ length (xs ++ (z ∷ supply_nets))
gate_sized [] z some few = absurd (omega arith)
gate_sized (x ∷ []) z some few = refl
gate_sized (x ∷ y ∷ []) z some few = refl
gate_sized (x ∷ y ∷ w ∷ []) z some few = refl
gate_sized (x ∷ y ∷ w ∷ v ∷ vs) z some few = absurd (omega arith)

picks_long : (o b k : ℕ) → length (picks o b k) ≡ b
picks_long o zero k = refl
picks_long o (suc b) k = ap suc (picks_long (suc o) b (k / 2))

bank_few : (plan : Organization) (n b : ℕ) → length (bank_input plan n b) ≤ 1
bank_few plan zero b = omega arith
bank_few plan (suc n) b = omega arith

mask_few : (k m : ℕ) → length (mask_input k m) ≤ 1
mask_few zero m = omega arith
mask_few (suc k) m = omega arith

pub ports_sized : (plan : Organization) (c : LogicCell) → IsBuildable plan → HasLogicCell plan c → length (role_ports (logic_role plan c)) ≡ length (logic_cell_ports plan c)
ports_sized plan (Pn o b k) p h =
    let s = choice_size plan o b p h.0 in
    let long = picks_long o b k in
    let some = s.0 in
    let few = s.1 in
    ap (λ (n : ℕ). length (role_ports (gate_of n))) (sym long) ∙ gate_sized (picks o b k) (LineB o b k) (omega (arith, long, some)) (omega (arith, long, few))
ports_sized plan (Gn b m) p h =
    let long = length-append (bank_input plan plan.bank_bits b) (mask_input plan.masks m) in
    let one = bank_few plan plan.bank_bits b in
    let other = mask_few plan.masks m in
    gate_sized (enable_inputs plan b m) (WenB b m) (omega arith) (omega (arith, long, one, other))
ports_sized plan Clki p h = refl
ports_sized plan Csd p h = refl
ports_sized plan Wed p h = refl
ports_sized plan Csi p h = refl
ports_sized plan Wei p h = refl
ports_sized plan Wln p h = refl
ports_sized plan Wli p h = refl
ports_sized plan Wrn p h = refl
ports_sized plan Wri p h = refl
ports_sized plan Rdn p h = refl
ports_sized plan Rdi p h = refl
ports_sized plan Dlay p h = refl
ports_sized plan Senn p h = refl
ports_sized plan Seni p h = refl
ports_sized plan (Ad i) p h = refl
ports_sized plan (Ai i) p h = refl
ports_sized plan (Dd i) p h = refl
ports_sized plan (Dm m) p h = refl
ports_sized plan (Pi o b k) p h = refl
ports_sized plan (Ln b) p h = refl
ports_sized plan (Li b) p h = refl
ports_sized plan (Kn b) p h = refl
ports_sized plan (Ki b) p h = refl
ports_sized plan (Gi b m) p h = refl

-- their names have plain bytes
module _ (plan : Organization) (p : IsBuildable plan) where
  pub cell_name_plain : (c : LogicCell) → HasLogicCell plan c → IsPlain (cell_name plan c)
  cell_name_plain Clki h = refl
  cell_name_plain Csd h = refl
  cell_name_plain Wed h = refl
  cell_name_plain Csi h = refl
  cell_name_plain Wei h = refl
  cell_name_plain Wln h = refl
  cell_name_plain Wli h = refl
  cell_name_plain Wrn h = refl
  cell_name_plain Wri h = refl
  cell_name_plain Rdn h = refl
  cell_name_plain Rdi h = refl
  cell_name_plain Dlay h = refl
  cell_name_plain Senn h = refl
  cell_name_plain Seni h = refl
  cell_name_plain (Ad i) h =
      let few : i < 2 ^ 64 = let e = (bounds plan p).address in omega (arith, e, h) in
      plain_tail i few [] refl
  cell_name_plain (Ai i) h =
      let few : i < 2 ^ 64 = let e = (bounds plan p).address in omega (arith, e, h) in
      plain_tail i few [] refl
  cell_name_plain (Dd i) h =
      let few : i < 2 ^ 64 = let e = (bounds plan p).words in let lt = inputs_within plan i h in omega (arith, e, lt) in
      plain_tail i few [] refl
  cell_name_plain (Dm i) h =
      let few : i < 2 ^ 64 = let e = (bounds plan p).masks in omega (arith, e, h) in
      plain_tail i few [] refl
  cell_name_plain (Pn o b k) h = gate_name_plain (line_kind plan o) k (kind_small plan o b p h.0) (line_few plan o b k p h.0 h.1)
  cell_name_plain (Pi o b k) h = inv_name_plain (line_kind plan o) k (kind_small plan o b p h.0) (line_few plan o b k p h.0 h.1)
  cell_name_plain (Ln b) h = plain_tail b (few_banks plan p b h.0) [] refl
  cell_name_plain (Li b) h = plain_tail b (few_banks plan p b h.0) [] refl
  cell_name_plain (Kn b) h = plain_tail b (few_banks plan p b h.0) [] refl
  cell_name_plain (Ki b) h = plain_tail b (few_banks plan p b h.0) [] refl
  cell_name_plain (Gn b m) h =
      let few : m < 2 ^ 64 = let e = (bounds plan p).enables in let lt = enables_within plan m h.0.1 in omega (arith, e, lt) in
      let l = plain_tail m few [] refl in
      plain_tail b (few_banks plan p b h.0.0) (95 ∷ (decimal m ++ [])) l
  cell_name_plain (Gi b m) h =
      let few : m < 2 ^ 64 = let e = (bounds plan p).enables in let lt = enables_within plan m h.0.1 in omega (arith, e, lt) in
      let l = plain_tail m few [] refl in
      plain_tail b (few_banks plan p b h.0.0) (95 ∷ (decimal m ++ [])) l
