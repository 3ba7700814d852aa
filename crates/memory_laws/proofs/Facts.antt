-- What the nets say in the three phases of a command.
use Rattle.std.proofs.Common.{subst, ◌≡◌, ℕ, zero, suc, ◌<◌, Bool, true, false, ◌&&◌, not, refl, sym, ap, ◌∙◌, arith, eqb, eqb-true, eq-eqb, inl}
use Rattle.sram_netlist.specs.Nets.{Net, Weq, Cs, We, Wen, Sen, Control, Line, Wl}
use Rattle.sram_netlist.specs.Organization.{power_of_two, Organization, bank_rows}
use Rattle.sram_netlist.specs.Instances.{Dlay, Ad, LogicAt}
use Rattle.sram_netlist.specs.Netlist.{enable_at, low_bits, sen_at}
use Rattle.memory_laws.specs.Phase.{State, PortInputs, IsPhase}
use Rattle.memory_laws.specs.Run.{MemoryCommand, port_values, IsCycle, IsStartState, bank_of, row_of, choice_of, is_masked_in}
use Rattle.memory_laws.specs.Laws.{InPhases, CycleFacts}
use Rattle.memory_laws.proofs.Values.{choice, gate1, gate2, gate3, signal, address, enabled, word_line}
use Rattle.memory_laws.proofs.Direct.{direct, enable}
use Rattle.memory_laws.proofs.Decode.{line_is, index_low}
use Rattle.memory_laws.proofs.Exists.{wen_quiet}
use Rattle.memory_laws.proofs.Unique.{MasksFit, MasksReached, wen_is, sen_is, line_at, wl_is, wen_there, sen_there, left_is, right_is, dly_next}
use Rattle.memory_laws.proofs.Commands.{at_row, at_bank, on, Latched, caught_open, wen_open, sen_open, choice_is, wen_low, sen_low, row_on, row_off, dark, start_after, once, again, late}
use Rattle.memory_laws.proofs.Runs.{bank_is, row_is}
use Rattle.memory_laws.proofs.Runs as runs

shut3 : (x y : Bool) → gate1 (gate3 x y false) ≡ false
shut3 true true = refl
shut3 true false = refl
shut3 false y = refl

shut_sen : (x y z : Bool) → gate1 (gate2 (gate1 (gate3 x y false)) z) ≡ false
shut_sen true true z = refl
shut_sen true false z = refl
shut_sen false y z = refl

no_sen : (n : ℕ) (t u : Bool) → t ≡ false → enabled n t (gate1 (gate2 t u)) ≡ false
no_sen zero t u e = e
no_sen (suc n) t u e = rw e refl

early : (x z : Bool) → z ≡ false → (x && z) ≡ false
early true z h = h
early false z h = refl

early_bank : (x z b : Bool) → z ≡ false → ((x && z) && b) ≡ false
early_bank true z b h = rw h refl
early_bank false z b h = refl

late_on : (x z : Bool) → z ≡ true → (x && z) ≡ x
late_on true z h = h
late_on false z h = refl

late_bank : (x y z b : Bool) → z ≡ true → (((x && y) && z) && b) ≡ ((x && b) && y)
late_bank true true z true h = rw h refl
late_bank true true z false h = rw h refl
late_bank true false z true h = refl
late_bank true false z false h = refl
late_bank false y z b h = refl

not_addressed : (x b y : Bool) → b ≡ false → ((x && b) && y) ≡ false
not_addressed true b y h = rw h refl
not_addressed false b y h = refl

abbrev of_bank : Organization → MemoryCommand → ℕ → Bool
of_bank p c bank = not c.csb && eqb bank (bank_of p c.addr)

on_is : (p : Organization) (c : MemoryCommand) (bank : ℕ) → on p c bank ≡ of_bank p c bank
on_is p c bank = ap (λ (n : ℕ). not c.csb && eqb bank n) (sym (bank_is p c.addr))

module _ (p : Organization) (masks : MasksFit p) (s : State) (c : MemoryCommand) (v : Net → Bool) (next : State) where
  -- the lines of the column choice
  choice_line : (i : PortInputs) (k : ℕ) → IsPhase (direct p) s i v next → k < power_of_two p.col_bits → 0 < p.col_bits → choice p s i ≡ low_bits p.col_bits c.addr → v (Line 0 p.col_bits k) ≡ eqb k (choice_of p c.addr)
  choice_line i k ph k_fits some e =
      line_at p masks s i v next ph 0 p.col_bits k (inl ((refl, refl), some), k_fits) ∙ line_is (address s i) 0 p.col_bits k k_fits ∙ ap (eqb k) (e ∙ sym (runs.choice_is p c.addr))

  module _ (l : Latched p s c) (range : at_bank p c < power_of_two p.bank_bits) (ph : IsPhase (direct p) s (port_values false c) v next) where
    low_line : (k : ℕ) → k < power_of_two p.col_bits → 0 < p.col_bits → v (Line 0 p.col_bits k) ≡ eqb k (choice_of p c.addr)
    low_line k k_fits some = choice_line (port_values false c) k ph k_fits some (choice_is p masks s c l range)

    word_low : (bank r : ℕ) → bank < power_of_two p.bank_bits → r < bank_rows p → (t : Bool) → eqb r (at_row p c) ≡ t → word_line p s (port_values false c) bank r ≡ (on p c bank && t)
    word_low bank r fits r_fits true e = ap (word_line p s (port_values false c) bank) (eqb-true _ _ e) ∙ row_on p masks s c l range bank fits ∙ both (on p c bank)
      where
        both : (x : Bool) → x ≡ (x && true)
        both true = refl
        both false = refl
    word_low bank r fits r_fits false e = row_off p masks s c l range bank r r_fits (λ at. let f = eq-eqb r (at_row p c) at in let g : true ≡ false = sym f ∙ e in cc) ∙ none (on p c bank)
      where
        none : (x : Bool) → false ≡ (x && false)
        none true = refl
        none false = refl

    low_row : (bank r : ℕ) → bank < power_of_two p.bank_bits → r < bank_rows p → v (Wl bank r) ≡ (of_bank p c bank && eqb r (row_of p c.addr))
    low_row bank r fits r_fits =
        wl_is p masks s (port_values false c) v next ph bank r fits r_fits ∙ word_low bank r fits r_fits _ refl
        ∙ (λ j. on_is p c bank j && eqb r (sym (row_is p c.addr) j))

    low_wen : v (Control Wen) ≡ (not c.csb && not c.web)
    low_wen = wen_is p masks s (port_values false c) v next ph ∙ wen_open _ _ ∙ (λ j. not (l.csd j) && not (l.wed j))

    low_wens : (bank i : ℕ) → bank < power_of_two p.bank_bits → i < p.word_size → v (enable p bank i) ≡ (of_bank p c bank && (not c.web && is_masked_in p.masks p.write_size c i))
    low_wens bank i fits i_fits =
        wen_there p masks s (port_values false c) v next ph bank i fits i_fits ∙ wen_low p masks s c l range bank i fits i_fits
        ∙ ap (λ (t : Bool). t && (not c.web && is_masked_in p.masks p.write_size c i)) (on_is p c bank)

    low_sen : v (Control Sen) ≡ ((not c.csb && c.web) && s.q (LogicAt Dlay))
    low_sen = sen_is p masks s (port_values false c) v next ph ∙ sen_open _ _ _ ∙ (λ j. (not (l.csd j) && l.wed j) && s.q (LogicAt Dlay))

    low_sens : (bank : ℕ) → bank < power_of_two p.bank_bits → v (sen_at p.bank_bits bank) ≡ (((not c.csb && c.web) && s.q (LogicAt Dlay)) && eqb bank (at_bank p c))
    low_sens bank fits = sen_there p masks s (port_values false c) v next ph bank fits ∙ sen_low p masks s c l range bank fits

pub facts : (p : Organization) (masks : MasksFit p) (onto : MasksReached p) (s : State) (c : MemoryCommand) (v : Net → Bool) (end : State) (start : IsStartState (direct p) s) (range : at_bank p c < power_of_two p.bank_bits) (run : IsCycle (direct p) s c v end)
    → IsStartState (direct p) end × CycleFacts p c run.first run.second v
facts p masks onto s c v end start range run = (
  start_after p masks run.s2 c v end run.finish,
  record {
    select = record {
      choice = λ k k_fits some. (
        choice_line p masks s c run.first run.s1 (port_values true c) k run.fetch k_fits some (index_low (address s (port_values true c)) c.addr p.col_bits 0 (λ j h. caught_open _ _ _ (start (LogicAt (Ad j)) (omega arith) refl))),
        (
          low_line p masks run.s1 c run.second run.s2 l1 range run.select k k_fits some,
          low_line p masks run.s2 c v end l2 range run.finish k k_fits some,
        ),
      );
      charged = λ bank k fits k_fits. (left_is p masks s (port_values true c) run.first run.s1 run.fetch bank k fits k_fits, right_is p masks s (port_values true c) run.first run.s1 run.fetch bank k fits k_fits);
      rows = λ bank r fits r_fits. (row_dark bank r fits r_fits, (row1 bank r fits r_fits, row2 bank r fits r_fits));
      sen = (
        sen_is p masks s (port_values true c) run.first run.s1 run.fetch ∙ shut_sen (signal s (port_values true c) Cs) (signal s (port_values true c) Weq) (s.q (LogicAt Dlay)),
        (
          low_sen p masks run.s1 c run.second run.s2 l1 range run.select ∙ early _ _ dly1,
          low_sen p masks run.s2 c v end l2 range run.finish ∙ late_on (not c.csb && c.web) _ dly2,
        ),
      );
      sens = λ bank fits. (sen_dark bank fits, (sen1 bank fits, sen2 bank fits));
    };
    wen = (
      wen_is p masks s (port_values true c) run.first run.s1 run.fetch ∙ shut3 (signal s (port_values true c) Cs) (signal s (port_values true c) We),
      (low_wen p masks run.s1 c run.second run.s2 l1 range run.select, low_wen p masks run.s2 c v end l2 range run.finish),
    );
    wens = λ bank i fits i_fits. (wen_dark bank i fits i_fits, (wen1 bank i fits i_fits, wen2 bank i fits i_fits));
    idle = λ bank fits other. (
      λ r r_fits. (row_dark bank r fits r_fits, (row1 bank r fits r_fits ∙ not_addressed (not c.csb) _ _ (apart bank other), row2 bank r fits r_fits ∙ not_addressed (not c.csb) _ _ (apart bank other))),
      (
        λ j j_fits.
            let i = onto j j_fits in
            subst (λ (n : ℕ). InPhases run.first run.second v (enable_at p.bank_bits p.masks bank n) false false false) i.2
            (wen_dark bank i.0 fits i.1, (wen1 bank i.0 fits i.1 ∙ not_addressed (not c.csb) _ _ (apart bank other), wen2 bank i.0 fits i.1 ∙ not_addressed (not c.csb) _ _ (apart bank other))),
        (sen_dark bank fits, (sen1 bank fits, sen2 bank fits ∙ not_addressed (not c.csb) _ _ (apart bank other))),
      ),
    );
  },
)
  where
    l1 : Latched p run.s1 c
    l1 = once p masks s c v end start range run

    l2 : Latched p run.s2 c
    l2 = again p masks s c v end start range run

    dly1 : run.s1.q (LogicAt Dlay) ≡ false
    dly1 = dly_next p masks s (port_values true c) run.first run.s1 run.fetch

    dly2 : run.s2.q (LogicAt Dlay) ≡ true
    dly2 = late p masks s c v end start range run

    apart : (bank : ℕ) → (bank ≡ bank_of p c.addr → ⊥) → eqb bank (bank_of p c.addr) ≡ false
    apart bank other = by_test _ refl
      where
        by_test : (t : Bool) → eqb bank (bank_of p c.addr) ≡ t → eqb bank (bank_of p c.addr) ≡ false
        by_test true e = absurd (other (eqb-true _ _ e))
        by_test false e = e

    row_dark : (bank r : ℕ) → bank < power_of_two p.bank_bits → r < bank_rows p → run.first (Wl bank r) ≡ false
    row_dark bank r fits r_fits = wl_is p masks s (port_values true c) run.first run.s1 run.fetch bank r fits r_fits ∙ dark p s c bank r

    row1 : (bank r : ℕ) → bank < power_of_two p.bank_bits → r < bank_rows p → run.second (Wl bank r) ≡ (of_bank p c bank && eqb r (row_of p c.addr))
    row1 bank r fits r_fits = low_row p masks run.s1 c run.second run.s2 l1 range run.select bank r fits r_fits

    row2 : (bank r : ℕ) → bank < power_of_two p.bank_bits → r < bank_rows p → v (Wl bank r) ≡ (of_bank p c bank && eqb r (row_of p c.addr))
    row2 bank r fits r_fits = low_row p masks run.s2 c v end l2 range run.finish bank r fits r_fits

    wen_dark : (bank i : ℕ) → bank < power_of_two p.bank_bits → i < p.word_size → run.first (enable p bank i) ≡ false
    wen_dark bank i fits i_fits = wen_there p masks s (port_values true c) run.first run.s1 run.fetch bank i fits i_fits ∙ wen_quiet p s (port_values true c) bank i refl

    wen1 : (bank i : ℕ) → bank < power_of_two p.bank_bits → i < p.word_size → run.second (enable p bank i) ≡ (of_bank p c bank && (not c.web && is_masked_in p.masks p.write_size c i))
    wen1 bank i fits i_fits = low_wens p masks run.s1 c run.second run.s2 l1 range run.select bank i fits i_fits

    wen2 : (bank i : ℕ) → bank < power_of_two p.bank_bits → i < p.word_size → v (enable p bank i) ≡ (of_bank p c bank && (not c.web && is_masked_in p.masks p.write_size c i))
    wen2 bank i fits i_fits = low_wens p masks run.s2 c v end l2 range run.finish bank i fits i_fits

    sen_dark : (bank : ℕ) → bank < power_of_two p.bank_bits → run.first (sen_at p.bank_bits bank) ≡ false
    sen_dark bank fits = sen_there p masks s (port_values true c) run.first run.s1 run.fetch bank fits ∙ no_sen p.bank_bits (signal s (port_values true c) Sen) _ (shut_sen (signal s (port_values true c) Cs) (signal s (port_values true c) Weq) (s.q (LogicAt Dlay)))

    sen1 : (bank : ℕ) → bank < power_of_two p.bank_bits → run.second (sen_at p.bank_bits bank) ≡ false
    sen1 bank fits = low_sens p masks run.s1 c run.second run.s2 l1 range run.select bank fits ∙ early_bank (not c.csb && c.web) _ _ dly1

    sen2 : (bank : ℕ) → bank < power_of_two p.bank_bits → v (sen_at p.bank_bits bank) ≡ (of_bank p c bank && c.web)
    sen2 bank fits = low_sens p masks run.s2 c v end l2 range run.finish bank fits ∙ late_bank (not c.csb) c.web _ _ dly2 ∙ ap (λ (t : Bool). t && c.web) (on_is p c bank)
