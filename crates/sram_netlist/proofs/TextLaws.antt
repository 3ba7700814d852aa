-- Nets have different texts: each tells its net.
use Rattle.std.proofs.Common.{◌≡◌, ◌⊎◌, inl, inr, ℕ, zero, suc, ◌<◌, ◌^◌, List, [], ◌∷◌, ◌++◌, None, refl, sym, ap, ◌∙◌, append_assoc, arith}
use Rattle.std.specs.Prelude.{codes}
use Rattle.std.specs.Fmt.{decimal}
use Rattle.sram_netlist.specs.Organization.{Organization, bank_bit, banks_of, power_of_two, IsBuildable}
use Rattle.sram_netlist.specs.Nets.{Net, Clk0, Wlen, Wen, Sen, Vdd, Gnd, Control, Addr, Din, Dout, Wmask, A, Na, D, M, LineB, Line, WlenB, WlenAt, SenB, SenAt, WenB, WenAt, Zb, Wl, Bl, Br, Lo, Ro}
use Rattle.sram_netlist.specs.Membership.{IsNameable}
use Rattle.sram_netlist.specs.Names.{LineKind, Column, Group, Bank, bank_name, in_kind, in_logic, in_one, in_two, line_name, lineb_name, full_name}
use Rattle.sram_netlist.proofs.NamesTell.{letters, runs, first, group_at, own_bank, after_bank, net_of}
use Rattle.sram_netlist.specs.Laws.{TextsTell}
use Rattle.sram_netlist.proofs.Bounds.{bounds, line_few}
use Rattle.sram_netlist.proofs.Readings.{letters_skip, runs_read}
use Rattle.sram_netlist.proofs.ChoiceLaws.{IsColumnChoice, IsGroupChoice, IsBankChoice, which}

-- the net of a text
abbrev read : Organization → List ℕ → Net
read plan t = net_of plan (letters t) (runs None t)

abbrev numbers : ℕ → ℕ → List ℕ
numbers zero b = []
numbers (suc n) b = b ∷ []

label_letters : (n b : ℕ) (tail : List ℕ) → b < 2 ^ 64 → letters (bank_name n b ++ (65 ∷ tail)) ≡ codes "xbankA" ++ letters tail
label_letters zero b tail few = refl
label_letters (suc n) b tail few = let e = letters_skip b few (65 ∷ tail) in let a = append_assoc (decimal b) [] (65 ∷ tail) in rw (a, e) refl

label_runs : (n b : ℕ) (tail : List ℕ) → b < 2 ^ 64 → runs None (bank_name n b ++ (65 ∷ tail)) ≡ numbers n b ++ runs None tail
label_runs zero b tail few = refl
label_runs (suc n) b tail few = let e = runs_read b few (65 ∷ tail) in let a = append_assoc (decimal b) [] (65 ∷ tail) in rw (a, e) refl

own : (n b : ℕ) (ns : List ℕ) → b < power_of_two n → own_bank n (numbers n b ++ ns) ≡ b
own zero b ns lt = omega arith
own (suc n) b ns lt = refl

words_after : (n b : ℕ) (ns : List ℕ) → after_bank n (numbers n b ++ ns) ≡ ns
words_after zero b ns = refl
words_after (suc n) b ns = refl

-- nets inside a bank
in_bank_as : (plan : Organization) (b : ℕ) (more : List ℕ) (ls : List ℕ) (k : ℕ) (net : ℕ → ℕ → Net) → b < banks_of plan → b < 2 ^ 64 → letters more ≡ ls → runs None more ≡ k ∷ []
    → ((ns : List ℕ) → net_of plan (codes "xbankA" ++ ls) ns ≡ net (own_bank plan.bank_bits ns) (first (after_bank plan.bank_bits ns)))
    → (t : List ℕ) → t ≡ bank_name plan.bank_bits b ++ (65 ∷ more) → read plan t ≡ net b k
in_bank_as plan b more ls k net lt few spelled counted computes t is =
    ap (read plan) is
    ∙ (λ i. net_of plan ((label_letters plan.bank_bits b more few ∙ ap (λ (l : List ℕ). codes "xbankA" ++ l) spelled) i) ((label_runs plan.bank_bits b more few ∙ ap (λ (l : List ℕ). numbers plan.bank_bits b ++ l) counted) i))
    ∙ computes (numbers plan.bank_bits b ++ (k ∷ []))
    ∙ (λ i. net (own plan.bank_bits b (k ∷ []) lt i) (first (words_after plan.bank_bits b (k ∷ []) i)))

line_tells : (plan : Organization) (o b k : ℕ) → k < 2 ^ 64 → IsColumnChoice plan o b ⊎ (IsGroupChoice plan o b ⊎ IsBankChoice plan o b) → read plan (full_name plan (Line o b k)) ≡ Line o b k
line_tells plan o b k few (inl c) =
    let l = letters_skip k few [] in
    let r = runs_read k few [] in
    let there : read plan (line_name Column k) ≡ Line 0 plan.col_bits k = rw (l, r) refl in
    ap (λ (κ : LineKind). read plan (in_kind κ ++ line_name κ k)) c.line_kind ∙ there ∙ (λ i. Line (sym c.lowest i) (sym c.bits i) k)
line_tells plan o b k few (inr (inl c)) =
    let g = c.index in
    let small = c.few in
    let g_few : g < 2 ^ 64 = omega (arith, small) in
    let l = letters_skip g g_few (95 ∷ (decimal k ++ [])) in
    let l' = letters_skip k few [] in
    let r = runs_read g g_few (95 ∷ (decimal k ++ [])) in
    let r' = runs_read k few [] in
    let there : read plan (line_name (Group g) k) ≡ Line (group_at plan.groups plan.col_bits g).0 (group_at plan.groups plan.col_bits g).1 k = rw (l, l', r, r') refl in
    ap (λ (κ : LineKind). read plan (in_kind κ ++ line_name κ k)) c.line_kind ∙ there ∙ ap (λ (p : ℕ × ℕ). Line p.0 p.1 k) c.at
line_tells plan o b k few (inr (inr c)) =
    let l = letters_skip k few [] in
    let r = runs_read k few [] in
    let there : read plan (in_logic ++ line_name Bank k) ≡ Line (bank_bit plan) plan.bank_bits k = rw (l, r) refl in
    ap (λ (κ : LineKind). read plan (in_kind κ ++ line_name κ k)) c.line_kind ∙ there ∙ (λ i. Line (sym c.lowest i) (sym c.bits i) k)

lineb_tells : (plan : Organization) (o b k : ℕ) → k < 2 ^ 64 → IsColumnChoice plan o b ⊎ (IsGroupChoice plan o b ⊎ IsBankChoice plan o b) → read plan (full_name plan (LineB o b k)) ≡ LineB o b k
lineb_tells plan o b k few (inl c) =
    let l = letters_skip k few [] in
    let r = runs_read k few [] in
    let there : read plan (in_logic ++ lineb_name Column k) ≡ LineB 0 plan.col_bits k = rw (l, r) refl in
    ap (λ (κ : LineKind). read plan (in_logic ++ lineb_name κ k)) c.line_kind ∙ there ∙ (λ i. LineB (sym c.lowest i) (sym c.bits i) k)
lineb_tells plan o b k few (inr (inl c)) =
    let g = c.index in
    let small = c.few in
    let g_few : g < 2 ^ 64 = omega (arith, small) in
    let l = letters_skip g g_few (95 ∷ (decimal k ++ [])) in
    let l' = letters_skip k few [] in
    let r = runs_read g g_few (95 ∷ (decimal k ++ [])) in
    let r' = runs_read k few [] in
    let there : read plan (in_logic ++ lineb_name (Group g) k) ≡ LineB (group_at plan.groups plan.col_bits g).0 (group_at plan.groups plan.col_bits g).1 k = rw (l, l', r, r') refl in
    ap (λ (κ : LineKind). read plan (in_logic ++ lineb_name κ k)) c.line_kind ∙ there ∙ ap (λ (p : ℕ × ℕ). LineB p.0 p.1 k) c.at
lineb_tells plan o b k few (inr (inr c)) =
    let l = letters_skip k few [] in
    let r = runs_read k few [] in
    let there : read plan (in_logic ++ lineb_name Bank k) ≡ LineB (bank_bit plan) plan.bank_bits k = rw (l, r) refl in
    ap (λ (κ : LineKind). read plan (in_logic ++ lineb_name κ k)) c.line_kind ∙ there ∙ (λ i. LineB (sym c.lowest i) (sym c.bits i) k)

wlen_tells : (plan : Organization) (n : ℕ) → read plan (in_one n ++ codes "wlen") ≡ Control Wlen
wlen_tells plan zero = refl
wlen_tells plan (suc n) = refl

sen_tells : (plan : Organization) (n : ℕ) → read plan (in_one n ++ codes "sen") ≡ Control Sen
sen_tells plan zero = refl
sen_tells plan (suc n) = refl

wen_tells : (plan : Organization) (n m : ℕ) → read plan (in_two n m ++ codes "wen") ≡ Control Wen
wen_tells plan zero zero = refl
wen_tells plan zero (suc m) = refl
wen_tells plan (suc n) m = refl

module _ (plan : Organization) (p : IsBuildable plan) where
  few_banks : (b : ℕ) → b < banks_of plan → b < 2 ^ 64
  few_banks b lt = let h = (bounds plan p).banks in omega (arith, h, lt)

  tells : (x : Net) → IsNameable plan x → read plan (full_name plan x) ≡ x
  tells (Addr i) h =
      let few : i < 2 ^ 64 = let e = (bounds plan p).address in omega (arith, e, h) in
      let l = letters_skip i few (93 ∷ []) in
      let r = runs_read i few (93 ∷ []) in
      rw (l, r) refl
  tells (A i) h =
      let few : i < 2 ^ 64 = let e = (bounds plan p).address in omega (arith, e, h) in
      let l = letters_skip i few [] in
      let r = runs_read i few [] in
      rw (l, r) refl
  tells (Na i) h =
      let few : i < 2 ^ 64 = let e = (bounds plan p).address in omega (arith, e, h) in
      let l = letters_skip i few [] in
      let r = runs_read i few [] in
      rw (l, r) refl
  tells (Din i) h =
      let few : i < 2 ^ 64 = let e = (bounds plan p).words in omega (arith, e, h) in
      let l = letters_skip i few (93 ∷ []) in
      let r = runs_read i few (93 ∷ []) in
      rw (l, r) refl
  tells (Dout i) h =
      let few : i < 2 ^ 64 = let e = (bounds plan p).words in omega (arith, e, h) in
      let l = letters_skip i few (93 ∷ []) in
      let r = runs_read i few (93 ∷ []) in
      rw (l, r) refl
  tells (D i) h =
      let few : i < 2 ^ 64 = let e = (bounds plan p).words in omega (arith, e, h) in
      let l = letters_skip i few [] in
      let r = runs_read i few [] in
      rw (l, r) refl
  tells (Wmask i) h =
      let few : i < 2 ^ 64 = let e = (bounds plan p).masks in omega (arith, e, h) in
      let l = letters_skip i few (93 ∷ []) in
      let r = runs_read i few (93 ∷ []) in
      rw (l, r) refl
  tells (M i) h =
      let few : i < 2 ^ 64 = let e = (bounds plan p).masks in omega (arith, e, h) in
      let l = letters_skip i few [] in
      let r = runs_read i few [] in
      rw (l, r) refl
  tells (WlenB i) h =
      let few : i < 2 ^ 64 = let e = (bounds plan p).banks in omega (arith, e, h) in
      let l = letters_skip i few [] in
      let r = runs_read i few [] in
      rw (l, r) refl
  tells (WlenAt i) h =
      let few : i < 2 ^ 64 = let e = (bounds plan p).banks in omega (arith, e, h) in
      let l = letters_skip i few [] in
      let r = runs_read i few [] in
      rw (l, r) refl
  tells (SenB i) h =
      let few : i < 2 ^ 64 = let e = (bounds plan p).banks in omega (arith, e, h) in
      let l = letters_skip i few [] in
      let r = runs_read i few [] in
      rw (l, r) refl
  tells (SenAt i) h =
      let few : i < 2 ^ 64 = let e = (bounds plan p).banks in omega (arith, e, h) in
      let l = letters_skip i few [] in
      let r = runs_read i few [] in
      rw (l, r) refl
  tells (WenB b m) h =
      let f : b < 2 ^ 64 = few_banks b h.0 in
      let g : m < 2 ^ 64 = let e = (bounds plan p).enables in let lt = h.1 in omega (arith, e, lt) in
      let l = letters_skip b f (95 ∷ (decimal m ++ [])) in
      let l' = letters_skip m g [] in
      let r = runs_read b f (95 ∷ (decimal m ++ [])) in
      let r' = runs_read m g [] in
      rw (l, l', r, r') refl
  tells (WenAt b m) h =
      let f : b < 2 ^ 64 = few_banks b h.0 in
      let g : m < 2 ^ 64 = let e = (bounds plan p).enables in let lt = h.1 in omega (arith, e, lt) in
      let l = letters_skip b f (95 ∷ (decimal m ++ [])) in
      let l' = letters_skip m g [] in
      let r = runs_read b f (95 ∷ (decimal m ++ [])) in
      let r' = runs_read m g [] in
      rw (l, l', r, r') refl
  tells (Line o b k) h = line_tells plan o b k (line_few plan o b k p h.0 h.1) (which plan o b p h.0)
  tells (LineB o b k) h = lineb_tells plan o b k (line_few plan o b k p h.0 h.1) (which plan o b p h.0)
  tells (Zb b k) h =
      let f : k < 2 ^ 64 = let e = (bounds plan p).rows in let lt = h.1 in omega (arith, e, lt) in
      let l = letters_skip k f (codes "Azb") in
      let r = runs_read k f (codes "Azb") in
      in_bank_as plan b (codes "xarrayAxr" ++ (decimal k ++ codes "Azb")) (codes "xarrayAxrAzb") k Zb h.0 (few_banks b h.0) (rw l refl) (rw r refl) (λ ns. refl) (full_name plan (Zb b k)) (simp append_assoc)
  tells (Wl b k) h =
      let f : k < 2 ^ 64 = let e = (bounds plan p).rows in let lt = h.1 in omega (arith, e, lt) in
      let l = letters_skip k f (codes "Awl") in
      let r = runs_read k f (codes "Awl") in
      in_bank_as plan b (codes "xarrayAxr" ++ (decimal k ++ codes "Awl")) (codes "xarrayAxrAwl") k Wl h.0 (few_banks b h.0) (rw l refl) (rw r refl) (λ ns. refl) (full_name plan (Wl b k)) (simp append_assoc)
  tells (Bl b k) h =
      let f : k < 2 ^ 64 = let e = (bounds plan p).columns in let lt = h.1 in omega (arith, e, lt) in
      let l = letters_skip k f [] in
      let r = runs_read k f [] in
      in_bank_as plan b (codes "bl" ++ (decimal k ++ [])) (codes "bl") k Bl h.0 (few_banks b h.0) (rw l refl) (rw r refl) (λ ns. refl) (full_name plan (Bl b k)) (simp append_assoc)
  tells (Br b k) h =
      let f : k < 2 ^ 64 = let e = (bounds plan p).columns in let lt = h.1 in omega (arith, e, lt) in
      let l = letters_skip k f [] in
      let r = runs_read k f [] in
      in_bank_as plan b (codes "br" ++ (decimal k ++ [])) (codes "br") k Br h.0 (few_banks b h.0) (rw l refl) (rw r refl) (λ ns. refl) (full_name plan (Br b k)) (simp append_assoc)
  tells (Lo b k) h =
      let f : k < 2 ^ 64 = let e = (bounds plan p).words in let lt = h.1 in omega (arith, e, lt) in
      let l = letters_skip k f [] in
      let r = runs_read k f [] in
      in_bank_as plan b (codes "xdataAlo" ++ (decimal k ++ [])) (codes "xdataAlo") k Lo h.0 (few_banks b h.0) (rw l refl) (rw r refl) (λ ns. refl) (full_name plan (Lo b k)) (simp append_assoc)
  tells (Ro b k) h =
      let f : k < 2 ^ 64 = let e = (bounds plan p).words in let lt = h.1 in omega (arith, e, lt) in
      let l = letters_skip k f [] in
      let r = runs_read k f [] in
      in_bank_as plan b (codes "xdataAro" ++ (decimal k ++ [])) (codes "xdataAro") k Ro h.0 (few_banks b h.0) (rw l refl) (rw r refl) (λ ns. refl) (full_name plan (Ro b k)) (simp append_assoc)
  tells (Control Wlen) h = wlen_tells plan plan.bank_bits
  tells (Control Sen) h = sen_tells plan plan.bank_bits
  tells (Control Wen) h = wen_tells plan plan.bank_bits plan.masks
  tells (Control Clk0) h = refl
  tells (Control s) h = refl
  tells Vdd h = refl
  tells Gnd h = refl

pub texts_tell : TextsTell
texts_tell plan x y p hx hy e = sym (tells plan p x hx) ∙ ap (read plan) e ∙ tells plan p y hy
