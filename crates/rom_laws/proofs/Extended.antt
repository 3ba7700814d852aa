-- A phase of the read-only memory is one of a read-write memory that holds its words, once states and values are extended to what only
-- the read-write memory has.
use Rattle.std.proofs.Common.{◌≡◌, ℕ, Bool, true, false, ◌&&◌, not, List, [], ◌∷◌, refl, sym, ap, ◌∙◌, arith, inl, inr, ◌⊎◌}
use Rattle.std.specs.List.{AllByRecursion}
use Rattle.sram_netlist.specs.Organization.{Organization}
use Rattle.sram_netlist.specs.Nets.{Net, Clk0, Web0, Clkb, Cs, Weq, We, Wlb, Wlen, Wrb, Wen, Rdb, Rd, Control, Din, Dout, D, Bl, Br, Lo, Ro}
use Rattle.sram_netlist.specs.Instances.{LogicCell, LeafInstance, Csd, Wed, Wei, Wrn, Wri, Rdn, Rdi, Dd, BitAt, NandAt, DriverAt, PrechargeAt, WriteAt, SenseAt, MuxAt, TieAt, LogicAt}
use Rattle.sram_netlist.specs.Membership.{HasLeafInstance, HasLeafNet}
use Rattle.sram_netlist.specs.BitCells.{fixed_bit}
use Rattle.cell_roles.specs.declared.leaf_role.LeafRole.TheVariants.{Common}
use Rattle.cell_roles.specs.Acts.{Drive, Strong, Weak, Act, flop_bit}
use Rattle.memory_laws.specs.Phase.{State, PortInputs, IsPhase, Gives, InGroup, HasNone, IsDriven, given, act_at, bits}
use Rattle.memory_laws.specs.Run.{IsStartState}
use Rattle.memory_laws.proofs.Direct.{role, drives, direct, writable}
use Rattle.memory_laws.proofs.Exists.{alone_driven, strong_is}
use Rattle.memory_laws.proofs.Groups.{is_line, self}
use Rattle.memory_laws.proofs.Drivers.{has_driver, is_loose}
use Rattle.rom_laws.specs.RomRun.{IsRomPlan}
use Rattle.rom_laws.proofs.RomCircuit.{HasRomLeaf, rom_direct, is_write_cell, is_write_net, leaf_back, net_back}
use Rattle.rom_laws.proofs.Mirror.{Kept, Follows, Shows, line_kept, is_bit, bits_same, group_ends, group_kept, group_kept_back, enables_off, others_same, group_to, gives_to}
use Rattle.rom_laws.proofs.Resting.{strong_some, weak_some, none_back, weak_kept, wlb_is, wlen_is, cell_keeps, held_high}

-- bitcells hold the words, and the latches of the write half hold that no write is wanted
abbrev pub extended_bits : Organization → List ℕ → State → LeafInstance → Bool
extended_bits p words s (BitAt bank r c) = fixed_bit p words r c
extended_bits p words s (LogicAt Wed) = true
extended_bits p words s (LogicAt (Dd i)) = false
extended_bits p words s leaf = s.q leaf

-- they have seen the clock that the others have seen
abbrev pub extended_clocks : State → LeafInstance → Bool
extended_clocks s (LogicAt Wed) = s.p (LogicAt Csd)
extended_clocks s (LogicAt (Dd i)) = s.p (LogicAt Csd)
extended_clocks s leaf = s.p leaf

-- no write is wanted
abbrev pub extended_value : (Net → Bool) → Net → Bool
extended_value v (Control Web0) = true
extended_value v (Control Weq) = true
extended_value v (Control We) = false
extended_value v (Control Wrb) = true
extended_value v (Control Wen) = false
extended_value v (Control Rdb) = v (Control Wlb)
extended_value v (Control Rd) = v (Control Wlen)
extended_value v (Din i) = false
extended_value v (D i) = false
extended_value v x = v x

abbrev pub extended : Organization → List ℕ → State → State
extended p words s = record { q = extended_bits p words s; p = extended_clocks s; charge = extended_value s.charge }

pub value_kept : (v : Net → Bool) (x : Net) → Kept x → extended_value v x ≡ v x
value_kept v (Control Web0) k = absurd cc
value_kept v (Control Weq) k = absurd cc
value_kept v (Control We) k = absurd cc
value_kept v (Control Wrb) k = absurd cc
value_kept v (Control Wen) k = absurd cc
value_kept v (Control Rdb) k = absurd cc
value_kept v (Control Rd) k = absurd cc
value_kept v (Din i) k = absurd cc
value_kept v (D i) k = absurd cc
value_kept v x k = refl

bits_kept : (p : Organization) (words : List ℕ) (s : State) (cell : LogicCell) → is_write_cell cell ≡ false → extended_bits p words s (LogicAt cell) ≡ s.q (LogicAt cell)
bits_kept p words s Wed k = absurd cc
bits_kept p words s (Dd i) k = absurd cc
bits_kept p words s cell k = refl

clocks_kept : (s : State) (cell : LogicCell) → is_write_cell cell ≡ false → extended_clocks s (LogicAt cell) ≡ s.p (LogicAt cell)
clocks_kept s Wed k = absurd cc
clocks_kept s (Dd i) k = absurd cc
clocks_kept s cell k = refl

pub extended_follows : (p : Organization) (words : List ℕ) (s : State) → Follows p words s (extended p words s)
extended_follows p words s = record { bits = bits_kept p words s; clocks = clocks_kept s; charge = value_kept s.charge; word = λ bank r c there. refl; reads = refl }

extended_shows : (v : Net → Bool) → Shows v (extended_value v)
extended_shows v = record { nets = value_kept v; wen = refl; read = refl }

-- flip-flops that have seen the clock low
pub extended_start : (p : Organization) → IsRomPlan p → (words : List ℕ) (s : State) → IsStartState (rom_direct p words) s → IsStartState (direct p) (extended p words s)
extended_start p ok words s start (BitAt bank r c) there e = absurd cc
extended_start p ok words s start (WriteAt bank i) there e = absurd cc
extended_start p ok words s start (LogicAt Wed) there e = start (LogicAt Csd) tt refl
extended_start p ok words s start (LogicAt (Dd i)) there e = start (LogicAt Csd) tt refl
extended_start p ok words s start (LogicAt Wei) there e = absurd cc
extended_start p ok words s start (LogicAt Wrn) there e = absurd cc
extended_start p ok words s start (LogicAt Wri) there e = absurd cc
extended_start p ok words s start (LogicAt Rdn) there e = absurd cc
extended_start p ok words s start (LogicAt Rdi) there e = absurd cc
extended_start p ok words s start (LogicAt cell) there e = start (LogicAt cell) (leaf_back p ok (LogicAt cell) refl there) e
extended_start p ok words s start leaf there e = start leaf there e

-- Nets of the write half have drivers of their own
write_tight : (x : Net) → is_write_net x ≡ true → is_loose x ≡ false
write_tight (Bl bank c) k = absurd cc
write_tight (Br bank c) k = absurd cc
write_tight (Lo bank c) k = absurd cc
write_tight (Ro bank c) k = absurd cc
write_tight (Dout c) k = absurd cc
write_tight x k = refl

drives_kept : (p : Organization) (leaf : LeafInstance) → HasRomLeaf p leaf → AllByRecursion Kept (drives p leaf)
drives_kept p (BitAt bank r c) there = (refl, (refl, tt))
drives_kept p (NandAt bank r) there = (refl, tt)
drives_kept p (DriverAt bank r) there = (refl, tt)
drives_kept p (PrechargeAt bank c) there = (refl, (refl, tt))
drives_kept p (WriteAt bank i) there = absurd (let f = there.1 in omega arith)
drives_kept p (SenseAt bank i) there = (refl, tt)
drives_kept p (MuxAt bank c) there = tt
drives_kept p (TieAt bank c) there = tt
drives_kept p (LogicAt Wed) there = absurd (omega arith)
drives_kept p (LogicAt Wei) there = absurd (omega arith)
drives_kept p (LogicAt Wrn) there = absurd (omega arith)
drives_kept p (LogicAt Wri) there = absurd (omega arith)
drives_kept p (LogicAt Rdn) there = absurd (omega arith)
drives_kept p (LogicAt Rdi) there = absurd (omega arith)
drives_kept p (LogicAt (Dd i)) there = absurd (omega arith)
drives_kept p (LogicAt cell) there = (refl, tt)

driven_kept : (y : Net) (d : Drive) (xs : List Net) (ds : List Drive) → AllByRecursion Kept xs → IsDriven y d xs ds → Kept y
driven_kept y d [] ds all h = absurd h
driven_kept y d (x ∷ xs) [] all h = absurd h
driven_kept y d (x ∷ xs) (e ∷ ds) all (inl h) = ap is_write_net (sym h.0) ∙ all.0
driven_kept y d (x ∷ xs) (e ∷ ds) all (inr h) = driven_kept y d xs ds all.1 h

held_low : (d clk q c : Bool) → d ≡ false → q ≡ false → flop_bit d clk q c ≡ false
held_low d true q true e k = k
held_low d true q false e k = e
held_low d false q c e k = k

no_write : (x : Bool) → not (x && false) ≡ true
no_write true = refl
no_write false = refl

split_kept : (y : Net) (X : Type 0) → (is_write_net y ≡ true → X) → (Kept y → X) → X
split_kept y X f g = by_test (is_write_net y) refl
  where
    by_test : (u : Bool) → is_write_net y ≡ u → X
    by_test true = f
    by_test false = g

both_ways : (y : Net) → is_write_net y ≡ true → Kept y → ⊥
both_ways y e k = let f : true ≡ false = sym e ∙ k in cc

module _ (p : Organization) (ok : IsRomPlan p) (words : List ℕ) (s : State) (i : PortInputs) (v : Net → Bool) (next : State) (web : i.web ≡ true) (din : (j : ℕ) → i.din j ≡ false)
    (ph : IsPhase (rom_direct p words) s i v next) where
  abbrev t : State
  t = extended p words s

  abbrev w : Net → Bool
  w = extended_value v

  f : Follows p words s t
  f = extended_follows p words s

  h : Shows v w
  h = extended_shows v

  wlb : v (Control Wlb) ≡ not (v (Control Cs) && (v (Control Clkb) && true))
  wlb = wlb_is p ok words s v t w f h i next ph

  wlen : v (Control Wlen) ≡ not (v (Control Wlb) && true)
  wlen = wlen_is p ok words s v t w f h i next ph

  given_write : (y : Net) (b : Bool) → is_write_net y ≡ true → given i y ≡ Strong b → w y ≡ b
  given_write (Control Web0) b k e = let g = web in cc
  given_write (Din j) b k e = let g = din j in cc
  given_write y b k e = absurd cc

  write_strong : (y : Net) (b : Bool) → is_write_net y ≡ true → (leaf : LeafInstance) → HasLeafInstance (writable p) leaf → IsDriven y (Strong b) (drives p leaf) (act_at (direct p) t w leaf).drives → w y ≡ b
  write_strong y b k (LogicAt Wed) there d = alone_driven w (Control Weq) y b _ (ap (λ (u : Bool). Strong u ∷ []) (held_high true (v (Control Clk0)) true (s.p (LogicAt Csd)) refl refl)) d
  write_strong y b k (LogicAt Wei) there d = alone_driven w (Control We) y b _ refl d
  write_strong y b k (LogicAt Wrn) there d = alone_driven w (Control Wrb) y b _ (ap (λ (u : Bool). Strong u ∷ []) (no_write (v (Control Cs)))) d
  write_strong y b k (LogicAt Wri) there d = alone_driven w (Control Wen) y b _ refl d
  write_strong y b k (LogicAt Rdn) there d = alone_driven w (Control Rdb) y b _ (ap (λ (u : Bool). Strong u ∷ []) (sym wlb)) d
  write_strong y b k (LogicAt Rdi) there d = alone_driven w (Control Rd) y b _ (ap (λ (u : Bool). Strong u ∷ []) (sym wlen)) d
  write_strong y b k (LogicAt (Dd j)) there d = alone_driven w (D j) y b _ (ap (λ (u : Bool). Strong u ∷ []) (held_low false (v (Control Clk0)) false (s.p (LogicAt Csd)) refl refl)) d
  write_strong y b k (WriteAt bank j) there (inl d) = absurd (let e = strong_is _ _ b d.1 in let g : true ≡ false = sym e.0 ∙ enables_off p ok words s v t w f h bank j in cc)
  write_strong y b k (WriteAt bank j) there (inr (inl d)) = absurd (let e = strong_is _ _ b d.1 in let g : true ≡ false = sym e.0 ∙ enables_off p ok words s v t w f h bank j in cc)
  write_strong y b k (WriteAt bank j) there (inr (inr d)) = absurd d
  write_strong y b k (LogicAt cell) there d = absurd (both_ways y k (driven_kept y (Strong b) (drives p (LogicAt cell)) (act_at (direct p) t w (LogicAt cell)).drives (drives_kept p (LogicAt cell) (leaf_back p ok (LogicAt cell) refl there)) d))
  write_strong y b k leaf there d = absurd (both_ways y k (driven_kept y (Strong b) (drives p leaf) (act_at (direct p) t w leaf).drives (drives_kept p leaf there) d))

  strong_of : (x y : Net) (b : Bool) → InGroup (direct p) t w x y → Gives (direct p) t i w y (Strong b) → w x ≡ b
  strong_of x y b g e = split_kept y (w x ≡ b) write kept
    where
      kept : Kept y → w x ≡ b
      kept k = value_kept v x (group_kept_back p t w x y g k) ∙ ph.strong x y b (group_to p ok words s v t w f h x y g) (gives_to p ok words s v t w f h i y (Strong b) k (strong_some b) e)

      own : is_write_net y ≡ true → Gives (direct p) t i w y (Strong b) → w y ≡ b
      own k (inl given_) = given_write y b k given_
      own k (inr d) = write_strong y b k d.leaf d.there d.driven

      write : is_write_net y ≡ true → w x ≡ b
      write k = by_ends (group_ends p t w x y g)
        where
          by_ends : (x ≡ y) ⊎ ((is_line x ≡ true) × (is_line y ≡ true)) → w x ≡ b
          by_ends (inl same) = ap w same ∙ own k e
          by_ends (inr lines) = absurd (both_ways y k (line_kept y lines.1))

  charge_of : (x y : Net) → HasLeafNet (writable p) x → InGroup (direct p) t w x y → HasNone (direct p) t i w Strong x → HasNone (direct p) t i w Weak x → w x ≡ t.charge y
  charge_of x y there g none weak = split_kept x (w x ≡ t.charge y) write kept
    where
      write : is_write_net x ≡ true → w x ≡ t.charge y
      write k = absurd (none x _ (self p t w x) (has_driver p t i w x there (write_tight x k)))

      kept : Kept x → w x ≡ t.charge y
      kept k =
          value_kept v x k
          ∙ ph.charge x y (net_back p ok x k there) (group_to p ok words s v t w f h x y g) (none_back p ok words s v t w f h i Strong x none) (none_back p ok words s v t w f h i Weak x weak)
          ∙ sym (value_kept s.charge y (group_kept p t w x y g k))

  clock_seen : next.p (LogicAt Csd) ≡ v (Control Clk0)
  clock_seen = let a = ph.stored (LogicAt Csd) tt in cc

  stored_kept : (leaf : LeafInstance) → HasRomLeaf p leaf → is_bit leaf ≡ false → bits (Common (role leaf)) (extended p words next) leaf ≡ (act_at (direct p) t w leaf).next
  stored_kept (BitAt bank r c) there e = absurd cc
  stored_kept leaf there e =
      bits_same p words next (extended p words next) (extended_follows p words next) leaf there refl ∙ ph.stored leaf there
      ∙ sym (ap (λ (a : Act). a.next) (others_same p ok words s v t w f h leaf there refl))

  stored_of : (leaf : LeafInstance) → HasLeafInstance (writable p) leaf → bits (Common (role leaf)) (extended p words next) leaf ≡ (act_at (direct p) t w leaf).next
  stored_of (BitAt bank r c) there = λ j. sym (cell_keeps p ok words s v t w f h i next ph bank r c there) j ∷ []
  stored_of (WriteAt bank i) there = refl
  stored_of (LogicAt Wed) there = λ j. sym (held_high true (v (Control Clk0)) true (s.p (LogicAt Csd)) refl refl) j ∷ clock_seen j ∷ []
  stored_of (LogicAt (Dd k)) there = λ j. sym (held_low false (v (Control Clk0)) false (s.p (LogicAt Csd)) refl refl) j ∷ clock_seen j ∷ []
  stored_of (LogicAt Wei) there = refl
  stored_of (LogicAt Wrn) there = refl
  stored_of (LogicAt Wri) there = refl
  stored_of (LogicAt Rdn) there = refl
  stored_of (LogicAt Rdi) there = refl
  stored_of (LogicAt cell) there = stored_kept (LogicAt cell) (leaf_back p ok (LogicAt cell) refl there) refl
  stored_of leaf there = stored_kept leaf there refl

  charges_of : (x : Net) → HasLeafNet (writable p) x → extended_value next.charge x ≡ w x
  charges_of (Control Web0) there = refl
  charges_of (Control Weq) there = refl
  charges_of (Control We) there = refl
  charges_of (Control Wrb) there = refl
  charges_of (Control Wen) there = refl
  charges_of (Control Rdb) there = ph.charges (Control Wlb) tt
  charges_of (Control Rd) there = ph.charges (Control Wlen) tt
  charges_of (Din j) there = refl
  charges_of (D j) there = refl
  charges_of x there = ph.charges x (net_back p ok x refl there)

  pub extended_phase : IsPhase (direct p) t i w (extended p words next)
  extended_phase = record {
    strong = strong_of;
    weak = λ x y b g none e.
        let kept = weak_kept p ok words s v t w f h i y b e in
        value_kept v x (group_kept_back p t w x y g kept)
        ∙ ph.weak x y b (group_to p ok words s v t w f h x y g) (none_back p ok words s v t w f h i Strong x none) (gives_to p ok words s v t w f h i y (Weak b) kept (weak_some b) e);
    charge = charge_of;
    stored = stored_of;
    charges = charges_of;
  }
