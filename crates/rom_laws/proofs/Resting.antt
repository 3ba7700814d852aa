-- A phase of a read-write memory that holds the words and reads is one of the read-only memory; and fixed cells pull the lines that
-- bitcells with the same bits keep.
use Rattle.std.proofs.Common.{◌≡◌, ℕ, Bool, true, false, ◌&&◌, not, List, [], refl, sym, ap, ◌∙◌, arith, inl, inr, ◌⊎◌}
use Rattle.sram_netlist.specs.Organization.{Organization}
use Rattle.sram_netlist.specs.Nets.{Net, Clk0, Web0, Clkb, Cs, Weq, We, Wlb, Wlen, Wrb, Wen, Rdb, Rd, Control, Zb, Wl, Bl, Br, Lo, Ro}
use Rattle.sram_netlist.specs.Instances.{LeafInstance, Wed, Wln, Wli, BitAt, DriverAt, LogicAt}
use Rattle.sram_netlist.specs.Membership.{HasLeafInstance, HasLeafNet}
use Rattle.sram_netlist.specs.Netlist.{wlen_at}
use Rattle.sram_netlist.specs.BitCells.{fixed_bit}
use Rattle.cell_roles.specs.Acts.{Drive, Off, Strong, Weak, Act, low_if, flop_bit, cell_bit}
use Rattle.memory_laws.specs.Phase.{State, PortInputs, IsPhase, Gives, InGroup, HasNone, act_at, bits}
use Rattle.memory_laws.proofs.Values.{gate1, gate2, gate3}
use Rattle.memory_laws.proofs.Direct.{direct, writable}
use Rattle.memory_laws.proofs.Groups.{is_line, self}
use Rattle.memory_laws.proofs.Drivers.{WeakEnds, StrongEnds, strong_from, weak_from, local, has_driver, is_loose}
use Rattle.rom_laws.specs.RomRun.{IsRomPlan}
use Rattle.rom_laws.proofs.RomCircuit.{HasRomLeaf, rom_role, rom_direct, in_memory, net_in_memory}
use Rattle.rom_laws.proofs.Mirror.{Kept, Follows, Shows, line_kept, group_ends, group_kept, group_kept_back, enables_off, others_same, group_to, group_back, gives_to, gives_back}

pub strong_some : (b : Bool) → Strong b ≡ Off → ⊥
strong_some b e = cc

pub weak_some : (b : Bool) → Weak b ≡ Off → ⊥
weak_some b e = cc

-- a phase of the read-only memory, of which the read-write memory shows the values
module _ (p : Organization) (ok : IsRomPlan p) (words : List ℕ) (s : State) (v : Net → Bool) (t : State) (w : Net → Bool) (f : Follows p words s t) (h : Shows v w) (i : PortInputs) where
  -- where there is no contribution to a group in one of them there is none in the other
  pub none_to : (level : Bool → Drive) (x : Net) → ((b : Bool) → level b ≡ Off → ⊥) → Kept x → HasNone (rom_direct p words) s i v level x → HasNone (direct p) t i w level x
  none_to level x some kept none y b g e = none y b (group_to p ok words s v t w f h x y g) (gives_to p ok words s v t w f h i y (level b) (group_kept p t w x y g kept) (some b) e)

  pub none_back : (level : Bool → Drive) (x : Net) → HasNone (direct p) t i w level x → HasNone (rom_direct p words) s i v level x
  none_back level x none y b g e = none y b (group_back p ok words s v t w f h x y g) (gives_back p ok words s v t w f h i y (level b) e)

  -- only bit lines are driven weakly
  pub weak_kept : (y : Net) (b : Bool) → Gives (direct p) t i w y (Weak b) → Kept y
  weak_kept y b e = by_ends (weak_from p t i w y b e).1
    where
      by_ends : WeakEnds p t w y → Kept y
      by_ends (inl l) = line_kept y (ap is_line (sym l.4))
      by_ends (inr l) = line_kept y (ap is_line (sym l.4))

-- What a row that is on says of the clock

on_low : (wl en z : Bool) → wl ≡ (en && not z) → wl ≡ true → en ≡ true
on_low wl true z e k = refl
on_low wl false z e k = absurd (let l : false ≡ true = sym e ∙ k in cc)

clock_low : (cs clkb : Bool) → gate1 (gate2 cs clkb) ≡ true → clkb ≡ true
clock_low true true e = refl
clock_low true false e = absurd cc
clock_low false clkb e = absurd cc

-- a cell whose own line is low keeps its bit
low_stays : (wl bl br : Bool) → bl ≡ false → cell_bit wl bl br false ≡ false
low_stays true true br e = absurd cc
low_stays true false true e = refl
low_stays true false false e = refl
low_stays false bl br e = refl

high_stays : (wl bl br : Bool) → br ≡ false → cell_bit wl bl br true ≡ true
high_stays true true true e = absurd cc
high_stays true true false e = refl
high_stays true false true e = absurd cc
high_stays true false false e = refl
high_stays false bl br e = refl

module _ (p : Organization) (ok : IsRomPlan p) (words : List ℕ) (s : State) (v : Net → Bool) (t : State) (w : Net → Bool) (f : Follows p words s t) (h : Shows v w) (i : PortInputs) (next : State)
    (ph : IsPhase (rom_direct p words) s i v next) where
  alone : (x : Net) → InGroup (rom_direct p words) s v x x
  alone x = record { through = []; linked = refl }

  pub wlb_is : v (Control Wlb) ≡ gate2 (v (Control Cs)) (v (Control Clkb))
  wlb_is = ph.strong (Control Wlb) (Control Wlb) _ (alone (Control Wlb)) (inr (record { leaf = LogicAt Wln; there = tt; driven = inl (refl, refl) }))

  pub wlen_is : v (Control Wlen) ≡ gate1 (v (Control Wlb))
  wlen_is = ph.strong (Control Wlen) (Control Wlen) _ (alone (Control Wlen)) (inr (record { leaf = LogicAt Wli; there = tt; driven = inl (refl, refl) }))

  module _ (bank r c : ℕ) (there : HasLeafInstance p (BitAt bank r c)) where
    row_is : v (Wl bank r) ≡ (v (wlen_at p.bank_bits bank) && not (v (Zb bank r)))
    row_is = ph.strong (Wl bank r) (Wl bank r) _ (alone (Wl bank r)) (inr (record { leaf = DriverAt bank r; there = (there.0, there.1.0); driven = inl (refl, refl) }))

    -- while a word line is on no column is precharged
    unclocked : v (Wl bank r) ≡ true → w (Control Clkb) ≡ true
    unclocked on =
        let enabled : v (wlen_at p.bank_bits bank) ≡ true = on_low (v (Wl bank r)) (v (wlen_at p.bank_bits bank)) (v (Zb bank r)) row_is on in
        let one : v (wlen_at p.bank_bits bank) ≡ v (Control Wlen) = λ j. v (wlen_at (ok.one_bank j) bank) in
        h.nets (Control Clkb) refl ∙ clock_low (v (Control Cs)) (v (Control Clkb)) (ap gate1 (sym wlb_is) ∙ sym wlen_is ∙ sym one ∙ enabled)

    quiet : w (Control Clkb) ≡ true → (y : Net) → is_line y ≡ true → StrongEnds p w y → ⊥
    quiet on (Bl b k) l (inl e) = let g : true ≡ false = sym on ∙ e in cc
    quiet on (Bl b k) l (inr e) = let g : true ≡ false = sym e.0 ∙ enables_off p ok words s v t w f h b k in cc
    quiet on (Br b k) l (inl e) = let g : true ≡ false = sym on ∙ e in cc
    quiet on (Br b k) l (inr e) = let g : true ≡ false = sym e.0 ∙ enables_off p ok words s v t w f h b k in cc
    quiet on (Lo b k) l e = let g : true ≡ false = sym e ∙ enables_off p ok words s v t w f h b k in cc
    quiet on (Ro b k) l e = let g : true ≡ false = sym e ∙ enables_off p ok words s v t w f h b k in cc
    quiet on y l e = cc

    none_strong : v (Wl bank r) ≡ true → (x : Net) → is_line x ≡ true → HasNone (rom_direct p words) s i v Strong x
    none_strong on x l y b g e =
        quiet (unclocked on) y (by_ends (group_ends p t w x y (group_back p ok words s v t w f h x y g))) (strong_from p t i w y b (gives_back p ok words s v t w f h i y (Strong b) e))
      where
        by_ends : (x ≡ y) ⊎ ((is_line x ≡ true) × (is_line y ≡ true)) → is_line y ≡ true
        by_ends (inl same) = ap is_line (sym same) ∙ l
        by_ends (inr both) = both.1

    left_low : v (Wl bank r) ≡ true → fixed_bit p words r c ≡ false → v (Bl bank c) ≡ false
    left_low on bit =
        ph.weak (Bl bank c) (Bl bank c) false (alone (Bl bank c)) (none_strong on (Bl bank c) refl)
        (inr (record { leaf = BitAt bank r c; there = there; driven = inl (refl, λ j. low_if (on j && not (bit j))) }))

    right_low : v (Wl bank r) ≡ true → fixed_bit p words r c ≡ true → v (Br bank c) ≡ false
    right_low on bit =
        ph.weak (Br bank c) (Br bank c) false (alone (Br bank c)) (none_strong on (Br bank c) refl)
        (inr (record { leaf = BitAt bank r c; there = there; driven = inr (inl (refl, λ j. low_if (on j && bit j))) }))

    -- a bitcell with the same bit would keep it
    pub cell_keeps : cell_bit (v (Wl bank r)) (v (Bl bank c)) (v (Br bank c)) (fixed_bit p words r c) ≡ fixed_bit p words r c
    cell_keeps = by_row (v (Wl bank r)) refl
      where
        by_bit : (q : Bool) → v (Wl bank r) ≡ true → fixed_bit p words r c ≡ q → cell_bit (v (Wl bank r)) (v (Bl bank c)) (v (Br bank c)) (fixed_bit p words r c) ≡ fixed_bit p words r c
        by_bit false on bit = ap (cell_bit (v (Wl bank r)) (v (Bl bank c)) (v (Br bank c))) bit ∙ low_stays (v (Wl bank r)) (v (Bl bank c)) (v (Br bank c)) (left_low on bit) ∙ sym bit
        by_bit true on bit = ap (cell_bit (v (Wl bank r)) (v (Bl bank c)) (v (Br bank c))) bit ∙ high_stays (v (Wl bank r)) (v (Bl bank c)) (v (Br bank c)) (right_low on bit) ∙ sym bit

        by_row : (u : Bool) → v (Wl bank r) ≡ u → cell_bit (v (Wl bank r)) (v (Bl bank c)) (v (Br bank c)) (fixed_bit p words r c) ≡ fixed_bit p words r c
        by_row true on = by_bit (fixed_bit p words r c) on refl
        by_row false on = ap (λ (u : Bool). cell_bit u (v (Bl bank c)) (v (Br bank c)) (fixed_bit p words r c)) on

-- A read of the read-write memory

pub held_high : (d clk q c : Bool) → d ≡ true → q ≡ true → flop_bit d clk q c ≡ true
held_high d true q true e k = k
held_high d true q false e k = e
held_high d false q c e k = k

rests : (cs weq we wrb wen clkb : Bool) → weq ≡ true → we ≡ gate1 weq → wrb ≡ gate3 cs we clkb → wen ≡ gate1 wrb → wen ≡ false
rests true weq we wrb wen clkb a b c d = d ∙ ap gate1 (c ∙ ap (λ (u : Bool). gate3 true u clkb) (b ∙ ap gate1 a))
rests false weq we wrb wen clkb a b c d = d ∙ ap gate1 c

module _ (p : Organization) (ok : IsRomPlan p) (words : List ℕ) (t : State) (i : PortInputs) (w : Net → Bool) (next : State) (reads : t.q (LogicAt Wed) ≡ true) (web : i.web ≡ true)
    (ph : IsPhase (direct p) t i w next) where
  tight : (x : Net) → HasLeafNet (writable p) x → is_loose x ≡ false → w x ≡ local p t i w x
  tight x there loose = ph.strong x x _ (self p t w x) (has_driver p t i w x there loose)

  weq_high : flop_bit (w (Control Web0)) (w (Control Clk0)) (t.q (LogicAt Wed)) (t.p (LogicAt Wed)) ≡ true
  weq_high = held_high _ _ _ _ (tight (Control Web0) (omega arith) refl ∙ web) reads

  weq_is : w (Control Weq) ≡ true
  weq_is = tight (Control Weq) (omega arith) refl ∙ weq_high

  -- its write enable is off, and its read enable is the word line enable
  pub shows : Shows w w
  shows = record {
    nets = λ x k. refl;
    wen = rests (w (Control Cs)) (w (Control Weq)) (w (Control We)) (w (Control Wrb)) (w (Control Wen)) (w (Control Clkb)) weq_is (tight (Control We) (omega arith) refl) (tight (Control Wrb) (omega arith) refl) (tight (Control Wen) (omega arith) refl);
    read =
        tight (Control Rd) (omega arith) refl
        ∙ ap gate1 (tight (Control Rdb) (omega arith) refl ∙ ap (λ (u : Bool). gate3 (w (Control Cs)) u (w (Control Clkb))) weq_is ∙ sym (tight (Control Wlb) tt refl))
        ∙ sym (tight (Control Wlen) tt refl);
  }

  pub still_reads : next.q (LogicAt Wed) ≡ true
  still_reads = let a = ph.stored (LogicAt Wed) (omega arith) in let e : next.q (LogicAt Wed) ≡ flop_bit (w (Control Web0)) (w (Control Clk0)) (t.q (LogicAt Wed)) (t.p (LogicAt Wed)) = cc in e ∙ weq_high

  module _ (s : State) (f : Follows p words s t) where
    stored_same : (leaf : LeafInstance) → HasRomLeaf p leaf → bits (rom_role p words leaf) next leaf ≡ (act_at (rom_direct p words) s w leaf).next
    stored_same (BitAt bank r c) there = refl
    stored_same leaf there = ph.stored leaf (in_memory p leaf there) ∙ ap (λ (a : Act). a.next) (others_same p ok words s w t w f shows leaf there refl)

    -- so the phase is one of the read-only memory
    pub phase_of_read : IsPhase (rom_direct p words) s i w next
    phase_of_read = record {
      strong = λ x y b g e. ph.strong x y b (group_back p ok words s w t w f shows x y g) (gives_back p ok words s w t w f shows i y (Strong b) e);
      weak = λ x y b g none e.
          let back = gives_back p ok words s w t w f shows i y (Weak b) e in
          let there = group_back p ok words s w t w f shows x y g in
          let kept = group_kept_back p t w x y there (weak_kept p ok words s w t w f shows i y b back) in
          ph.weak x y b there (none_to p ok words s w t w f shows i Strong x strong_some kept none) back;
      charge = λ x y there g none weak.
          let group = group_back p ok words s w t w f shows x y g in
          let own = net_in_memory p x there in
          ph.charge x y own.0 group (none_to p ok words s w t w f shows i Strong x strong_some own.1 none) (none_to p ok words s w t w f shows i Weak x weak_some own.1 weak)
          ∙ f.charge y (group_kept p t w x y group own.1);
      stored = stored_same;
      charges = λ x there. ph.charges x (net_in_memory p x there).0;
    }

    -- and the state after it holds the words too
    pub follows_next : Follows p words next next
    follows_next = record {
      bits = λ cell k. refl;
      clocks = λ cell k. refl;
      charge = λ x k. refl;
      word = λ bank r c there.
          let a = ph.stored (BitAt bank r c) there in
          let e : next.q (BitAt bank r c) ≡ cell_bit (w (Wl bank r)) (w (Bl bank c)) (w (Br bank c)) (t.q (BitAt bank r c)) = cc in
          e ∙ ap (cell_bit (w (Wl bank r)) (w (Bl bank c)) (w (Br bank c))) (f.word bank r c there) ∙ cell_keeps p ok words s w t w f shows i next phase_of_read bank r c there;
      reads = still_reads;
    }
