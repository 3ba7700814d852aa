-- A read-only memory beside a read-write memory that holds its words and whose write enables are off: what their instances join and
-- drive is the same.
use Rattle.std.proofs.Common.{◌≡◌, ℕ, zero, suc, ◌+◌, ◌/◌, Bool, true, false, ◌&&◌, not, List, [], ◌∷◌, map, refl, sym, ap, subst, ◌∙◌, arith, inl, inr, ◌⊎◌}
use Rattle.std.specs.List.{AllByRecursion}
use Rattle.sram_netlist.specs.Organization.{Organization}
use Rattle.sram_netlist.specs.Nets.{Net, Wlen, Wen, Rd, Dly, Control, D, Wl, Bl, Br, Lo, Ro}
use Rattle.sram_netlist.specs.Instances.{LogicCell, LeafInstance, Clki, Csd, Wed, Csi, Wei, Wln, Wli, Wrn, Wri, Rdn, Rdi, Dlay, Senn, Seni, Ad, Ai, Dd, Dm, Pn, Pi, Ln, Li, Kn, Ki, Gn, Gi, BitAt, NandAt, DriverAt, PrechargeAt, WriteAt, SenseAt, MuxAt, TieAt, LogicAt}
use Rattle.sram_netlist.specs.Membership.{HasLeafInstance}
use Rattle.sram_netlist.specs.BitCells.{fixed_bit}
use Rattle.sram_netlist.specs.Netlist.{lowest_bit, pick, picks, row_lines, lo_net, ro_net, wlen_at, sen_at, enable_at, mask_of}
use Rattle.cell_roles.specs.declared.role.Role.TheVariants.{Nand3}
use Rattle.cell_roles.specs.declared.leaf_role.LeafRole.TheVariants.{Common}
use Rattle.cell_roles.specs.LeafRoles.{leaf_act}
use Rattle.cell_roles.specs.Acts.{Drive, Off, Act, low_if, strong_if}
use Rattle.memory_laws.specs.Phase.{State, PortInputs, Gives, DrivesNet, JoinsNets, InGroup, AreJoinedThrough, IsDriven, IsPair, AreJoinEnds, act_at, bits}
use Rattle.memory_laws.proofs.Direct.{role, looks, drives, joins, enable, direct, writable}
use Rattle.memory_laws.proofs.Groups.{is_line}
use Rattle.rom_laws.specs.RomRun.{IsRomPlan}
use Rattle.rom_laws.proofs.RomCircuit.{HasRomLeaf, rom_direct, is_write_cell, is_write_net, in_memory, leaf_back}

-- a net that no write needs
abbrev pub Kept : Net → Type 0
Kept x = is_write_net x ≡ false

-- the second state holds the words and reads, and elsewhere it is the first
pub record Follows (p : Organization) (words : List ℕ) (s t : State) : Type 0 where
  pub bits : (cell : LogicCell) → is_write_cell cell ≡ false → t.q (LogicAt cell) ≡ s.q (LogicAt cell)
  pub clocks : (cell : LogicCell) → is_write_cell cell ≡ false → t.p (LogicAt cell) ≡ s.p (LogicAt cell)
  pub charge : (x : Net) → Kept x → t.charge x ≡ s.charge x
  pub word : (bank r c : ℕ) → HasLeafInstance p (BitAt bank r c) → t.q (BitAt bank r c) ≡ fixed_bit p words r c
  pub reads : t.q (LogicAt Wed) ≡ true

-- the second values are those of a read
pub record Shows (v w : Net → Bool) : Type 0 where
  pub nets : (x : Net) → Kept x → w x ≡ v x
  pub wen : w (Control Wen) ≡ false
  pub read : w (Control Rd) ≡ v (Control Wlen)

-- Nets that are kept

wlen_kept : (n bank : ℕ) → Kept (wlen_at n bank)
wlen_kept zero bank = refl
wlen_kept (suc n) bank = refl

pub sen_kept : (n bank : ℕ) → Kept (sen_at n bank)
sen_kept zero bank = refl
sen_kept (suc n) bank = refl

lo_line : (m bank i : ℕ) → is_line (lo_net m bank i) ≡ true
lo_line zero bank i = refl
lo_line (suc m) bank i = refl

ro_line : (m bank i : ℕ) → is_line (ro_net m bank i) ≡ true
ro_line zero bank i = refl
ro_line (suc m) bank i = refl

pub line_kept : (x : Net) → is_line x ≡ true → Kept x
line_kept (Bl bank c) e = refl
line_kept (Br bank c) e = refl
line_kept (Lo bank c) e = refl
line_kept (Ro bank c) e = refl
line_kept x e = absurd cc

pick_kept : (i : ℕ) (t : Bool) → Kept (pick i t)
pick_kept i true = refl
pick_kept i false = refl

picks_kept : (o b k : ℕ) → AllByRecursion Kept (picks o b k)
picks_kept o zero k = tt
picks_kept o (suc b) k = (pick_kept o (lowest_bit k), picks_kept (suc o) b (k / 2))

rows_kept : (groups : List ℕ) (o r : ℕ) → AllByRecursion Kept (row_lines groups o r)
rows_kept [] o r = tt
rows_kept (b ∷ bs) o r = (refl, rows_kept bs (o + b) _)

abbrev is_sense_gate : LeafInstance → Bool
is_sense_gate (LogicAt Senn) = true
is_sense_gate leaf = false

abbrev pub is_bit : LeafInstance → Bool
is_bit (BitAt bank r c) = true
is_bit leaf = false

kept_looks : (p : Organization) → IsRomPlan p → (leaf : LeafInstance) → HasRomLeaf p leaf → is_sense_gate leaf ≡ false → AllByRecursion Kept (looks p leaf)
kept_looks p ok (BitAt bank r c) there e = (refl, (refl, (refl, tt)))
kept_looks p ok (NandAt bank r) there e = rows_kept p.groups p.col_bits r
kept_looks p ok (DriverAt bank r) there e = (refl, (wlen_kept p.bank_bits bank, tt))
kept_looks p ok (PrechargeAt bank c) there e = (refl, tt)
kept_looks p ok (WriteAt bank i) there e = absurd (let f = there.1 in omega arith)
kept_looks p ok (SenseAt bank i) there e = (sen_kept p.bank_bits bank, (line_kept _ (lo_line p.col_bits bank i), (line_kept _ (ro_line p.col_bits bank i), tt)))
kept_looks p ok (MuxAt bank c) there e = (refl, tt)
kept_looks p ok (TieAt bank c) there e = tt
kept_looks p ok (LogicAt Clki) there e = (refl, tt)
kept_looks p ok (LogicAt Csd) there e = (refl, (refl, tt))
kept_looks p ok (LogicAt Wed) there e = absurd (omega arith)
kept_looks p ok (LogicAt Csi) there e = (refl, tt)
kept_looks p ok (LogicAt Wei) there e = absurd (omega arith)
kept_looks p ok (LogicAt Wln) there e = (refl, (refl, tt))
kept_looks p ok (LogicAt Wli) there e = (refl, tt)
kept_looks p ok (LogicAt Wrn) there e = absurd (omega arith)
kept_looks p ok (LogicAt Wri) there e = absurd (omega arith)
kept_looks p ok (LogicAt Rdn) there e = absurd (omega arith)
kept_looks p ok (LogicAt Rdi) there e = absurd (omega arith)
kept_looks p ok (LogicAt Dlay) there e = (refl, tt)
kept_looks p ok (LogicAt Senn) there e = absurd cc
kept_looks p ok (LogicAt Seni) there e = (refl, tt)
kept_looks p ok (LogicAt (Ad i)) there e = (refl, (refl, tt))
kept_looks p ok (LogicAt (Ai i)) there e = (refl, tt)
kept_looks p ok (LogicAt (Dd i)) there e = absurd (omega arith)
kept_looks p ok (LogicAt (Dm m)) there e = absurd (let g = ok.whole in omega arith)
kept_looks p ok (LogicAt (Pn o b k)) there e = picks_kept o b k
kept_looks p ok (LogicAt (Pi o b k)) there e = (refl, tt)
kept_looks p ok (LogicAt (Ln bank)) there e = (refl, (refl, tt))
kept_looks p ok (LogicAt (Li bank)) there e = (refl, tt)
kept_looks p ok (LogicAt (Kn bank)) there e = (refl, (refl, tt))
kept_looks p ok (LogicAt (Ki bank)) there e = (refl, tt)
kept_looks p ok (LogicAt (Gn bank m)) there e = absurd (let f = there.0.1 in omega arith)
kept_looks p ok (LogicAt (Gi bank m)) there e = (refl, tt)

map_same : (v w : Net → Bool) → ((x : Net) → Kept x → w x ≡ v x) → (xs : List Net) → AllByRecursion Kept xs → map w xs ≡ map v xs
map_same v w h [] all = refl
map_same v w h (x ∷ xs) all = λ j. h x all.0 j ∷ map_same v w h xs all.1 j

-- Joins

ends_lines : (a b x y : Net) → is_line a ≡ true → is_line b ≡ true → AreJoinEnds x y (a, b) → (is_line x ≡ true) × (is_line y ≡ true)
ends_lines a b x y l m (inl e) = (ap is_line (sym e.0) ∙ l, ap is_line (sym e.1) ∙ m)
ends_lines a b x y l m (inr e) = (ap is_line (sym e.1) ∙ m, ap is_line (sym e.0) ∙ l)

-- only lines are joined
pair_lines : (p : Organization) (leaf : LeafInstance) (x y : Net) (bs : List Bool) → IsPair x y (joins p leaf) bs → (is_line x ≡ true) × (is_line y ≡ true)
pair_lines p (MuxAt bank c) x y [] h = absurd h
pair_lines p (MuxAt bank c) x y (b ∷ bs) (inl h) = ends_lines _ _ x y refl (lo_line p.col_bits bank _) h.0
pair_lines p (MuxAt bank c) x y (b ∷ []) (inr h) = absurd h
pair_lines p (MuxAt bank c) x y (b ∷ d ∷ bs) (inr (inl h)) = ends_lines _ _ x y refl (ro_line p.col_bits bank _) h.0
pair_lines p (MuxAt bank c) x y (b ∷ d ∷ bs) (inr (inr h)) = absurd h
pair_lines p leaf x y bs h = absurd h

linked_ends : (p : Organization) (t : State) (w : Net → Bool) (x : Net) (zs : List Net) (y : Net) → AreJoinedThrough (direct p) t w x zs y → (x ≡ y) ⊎ ((is_line x ≡ true) × (is_line y ≡ true))
linked_ends p t w x [] y e = inl e
linked_ends p t w x (z ∷ zs) y e = by_rest (linked_ends p t w z zs y e.1)
  where
    here : (is_line x ≡ true) × (is_line z ≡ true)
    here = pair_lines p e.0.leaf x z _ e.0.pair

    by_rest : (z ≡ y) ⊎ ((is_line z ≡ true) × (is_line y ≡ true)) → (x ≡ y) ⊎ ((is_line x ≡ true) × (is_line y ≡ true))
    by_rest (inl same) = inr (here.0, ap is_line (sym same) ∙ here.1)
    by_rest (inr both) = inr (here.0, both.1)

-- a group is one net, or it is of lines
pub group_ends : (p : Organization) (t : State) (w : Net → Bool) (x y : Net) → InGroup (direct p) t w x y → (x ≡ y) ⊎ ((is_line x ≡ true) × (is_line y ≡ true))
group_ends p t w x y g = linked_ends p t w x g.through y g.linked

pub group_kept : (p : Organization) (t : State) (w : Net → Bool) (x y : Net) → InGroup (direct p) t w x y → Kept x → Kept y
group_kept p t w x y g k = by_ends (group_ends p t w x y g)
  where
    by_ends : (x ≡ y) ⊎ ((is_line x ≡ true) × (is_line y ≡ true)) → Kept y
    by_ends (inl e) = ap is_write_net (sym e) ∙ k
    by_ends (inr l) = line_kept y l.1

pub group_kept_back : (p : Organization) (t : State) (w : Net → Bool) (x y : Net) → InGroup (direct p) t w x y → Kept y → Kept x
group_kept_back p t w x y g k = by_ends (group_ends p t w x y g)
  where
    by_ends : (x ≡ y) ⊎ ((is_line x ≡ true) × (is_line y ≡ true)) → Kept x
    by_ends (inl e) = ap is_write_net e ∙ k
    by_ends (inr l) = line_kept x l.0

-- stored bits of other cells than bitcells are the same
pub bits_same : (p : Organization) (words : List ℕ) (s t : State) → Follows p words s t → (leaf : LeafInstance) → HasRomLeaf p leaf → is_bit leaf ≡ false → bits (Common (role leaf)) t leaf ≡ bits (Common (role leaf)) s leaf
bits_same p words s t f (BitAt bank r c) there e = absurd cc
bits_same p words s t f (LogicAt Csd) there e = λ j. f.bits Csd refl j ∷ f.clocks Csd refl j ∷ []
bits_same p words s t f (LogicAt Wed) there e = absurd (omega arith)
bits_same p words s t f (LogicAt (Ad i)) there e = λ j. f.bits (Ad i) refl j ∷ f.clocks (Ad i) refl j ∷ []
bits_same p words s t f (LogicAt (Dd i)) there e = absurd (omega arith)
bits_same p words s t f (LogicAt (Dm i)) there e = λ j. f.bits (Dm i) refl j ∷ f.clocks (Dm i) refl j ∷ []
bits_same p words s t f (LogicAt Dlay) there e = λ j. f.bits Dlay refl j ∷ []
bits_same p words s t f leaf there e = refl

-- Acts

module _ (p : Organization) (ok : IsRomPlan p) (words : List ℕ) (s : State) (v : Net → Bool) (t : State) (w : Net → Bool) (f : Follows p words s t) (h : Shows v w) where
  pub enables_off : (bank j : ℕ) → w (enable p bank j) ≡ false
  enables_off bank j = (λ k. w (enable_at (ok.one_bank k) (ok.whole k) bank (mask_of p.masks p.write_size j))) ∙ h.wen

  acts_same : (leaf : LeafInstance) → HasRomLeaf p leaf → is_bit leaf ≡ false → bits (Common (role leaf)) t leaf ≡ bits (Common (role leaf)) s leaf
      → act_at (direct p) t w leaf ≡ act_at (rom_direct p words) s v leaf
  acts_same (BitAt bank r c) there e b = absurd cc
  acts_same (LogicAt Senn) there e b = λ j. leaf_act (Common Nand3) (h.read j ∷ h.nets (Control Dly) refl j ∷ []) []
  acts_same leaf there e b = λ j. leaf_act (Common (role leaf)) (map_same v w h.nets (looks p leaf) (kept_looks p ok leaf there refl) j) (b j)

  pub others_same : (leaf : LeafInstance) → HasRomLeaf p leaf → is_bit leaf ≡ false → act_at (direct p) t w leaf ≡ act_at (rom_direct p words) s v leaf
  others_same leaf there e = acts_same leaf there e (bits_same p words s t f leaf there e)

  pub drives_same : (leaf : LeafInstance) → HasRomLeaf p leaf → (act_at (direct p) t w leaf).drives ≡ (act_at (rom_direct p words) s v leaf).drives
  drives_same (BitAt bank r c) there = λ j. low_if (h.nets (Wl bank r) refl j && not (f.word bank r c there j)) ∷ low_if (h.nets (Wl bank r) refl j && f.word bank r c there j) ∷ []
  drives_same leaf there = ap (λ (a : Act). a.drives) (others_same leaf there refl)

  joined_to : (x y : Net) (leaf : LeafInstance) → HasLeafInstance (writable p) leaf → IsPair x y (joins p leaf) (act_at (direct p) t w leaf).joins → JoinsNets (rom_direct p words) s v x y
  joined_to x y (MuxAt bank c) there pair = record {
    leaf = MuxAt bank c;
    there = there;
    pair = subst (λ (a : Act). IsPair x y (joins p (MuxAt bank c)) a.joins) (others_same (MuxAt bank c) there refl) pair;
  }
  joined_to x y leaf there pair = absurd pair

  joined_back : (x y : Net) (leaf : LeafInstance) → HasRomLeaf p leaf → IsPair x y (joins p leaf) (act_at (rom_direct p words) s v leaf).joins → JoinsNets (direct p) t w x y
  joined_back x y (MuxAt bank c) there pair = record {
    leaf = MuxAt bank c;
    there = there;
    pair = subst (λ (a : Act). IsPair x y (joins p (MuxAt bank c)) a.joins) (sym (others_same (MuxAt bank c) there refl)) pair;
  }
  joined_back x y leaf there pair = absurd pair

  linked_to : (x : Net) (zs : List Net) (y : Net) → AreJoinedThrough (direct p) t w x zs y → AreJoinedThrough (rom_direct p words) s v x zs y
  linked_to x [] y e = e
  linked_to x (z ∷ zs) y e = (joined_to x z e.0.leaf e.0.there e.0.pair, linked_to z zs y e.1)

  linked_back : (x : Net) (zs : List Net) (y : Net) → AreJoinedThrough (rom_direct p words) s v x zs y → AreJoinedThrough (direct p) t w x zs y
  linked_back x [] y e = e
  linked_back x (z ∷ zs) y e = (joined_back x z e.0.leaf e.0.there e.0.pair, linked_back z zs y e.1)

  pub group_to : (x y : Net) → InGroup (direct p) t w x y → InGroup (rom_direct p words) s v x y
  group_to x y g = record { through = g.through; linked = linked_to x g.through y g.linked }

  pub group_back : (x y : Net) → InGroup (rom_direct p words) s v x y → InGroup (direct p) t w x y
  group_back x y g = record { through = g.through; linked = linked_back x g.through y g.linked }

  -- what the read-only memory gives a net, the read-write memory gives it
  pub gives_back : (i : PortInputs) (x : Net) (d : Drive) → Gives (rom_direct p words) s i v x d → Gives (direct p) t i w x d
  gives_back i x d (inl e) = inl e
  gives_back i x d (inr g) = inr (record { leaf = g.leaf; there = in_memory p g.leaf g.there; driven = subst (IsDriven x d (drives p g.leaf)) (sym (drives_same g.leaf g.there)) g.driven })

  -- and conversely, where the net is kept
  pub gives_to : (i : PortInputs) (x : Net) (d : Drive) → Kept x → (d ≡ Off → ⊥) → Gives (direct p) t i w x d → Gives (rom_direct p words) s i v x d
  gives_to i x d kept some (inl e) = inl e
  gives_to i x d kept some (inr g) = inr (by_leaf g.leaf g.there g.driven)
    where
      apart : (y : Net) → is_write_net y ≡ true → y ≡ x → ⊥
      apart y e same = let k : is_write_net y ≡ is_write_net x = ap is_write_net same in let l : true ≡ false = sym e ∙ k ∙ kept in cc

      by_leaf : (leaf : LeafInstance) → HasLeafInstance (writable p) leaf → IsDriven x d (drives p leaf) (act_at (direct p) t w leaf).drives → DrivesNet (rom_direct p words) s v x d
      by_leaf (WriteAt bank j) there (inl e) = absurd (some (sym e.1 ∙ ap (λ (b : Bool). strong_if b (w (D j))) (enables_off bank j)))
      by_leaf (WriteAt bank j) there (inr (inl e)) = absurd (some (sym e.1 ∙ ap (λ (b : Bool). strong_if b (not (w (D j)))) (enables_off bank j)))
      by_leaf (WriteAt bank j) there (inr (inr e)) = absurd e
      by_leaf (LogicAt Wed) there (inl e) = absurd (apart _ refl e.0)
      by_leaf (LogicAt Wed) there (inr e) = absurd e
      by_leaf (LogicAt Wei) there (inl e) = absurd (apart _ refl e.0)
      by_leaf (LogicAt Wei) there (inr e) = absurd e
      by_leaf (LogicAt Wrn) there (inl e) = absurd (apart _ refl e.0)
      by_leaf (LogicAt Wrn) there (inr e) = absurd e
      by_leaf (LogicAt Wri) there (inl e) = absurd (apart _ refl e.0)
      by_leaf (LogicAt Wri) there (inr e) = absurd e
      by_leaf (LogicAt Rdn) there (inl e) = absurd (apart _ refl e.0)
      by_leaf (LogicAt Rdn) there (inr e) = absurd e
      by_leaf (LogicAt Rdi) there (inl e) = absurd (apart _ refl e.0)
      by_leaf (LogicAt Rdi) there (inr e) = absurd e
      by_leaf (LogicAt (Dd j)) there (inl e) = absurd (apart _ refl e.0)
      by_leaf (LogicAt (Dd j)) there (inr e) = absurd e
      by_leaf (LogicAt cell) there driven = record { leaf = LogicAt cell; there = leaf_back p ok (LogicAt cell) refl there; driven = subst (IsDriven x d (drives p (LogicAt cell))) (drives_same (LogicAt cell) (leaf_back p ok (LogicAt cell) refl there)) driven }
      by_leaf leaf there driven = record { leaf = leaf; there = there; driven = subst (IsDriven x d (drives p leaf)) (drives_same leaf there) driven }
