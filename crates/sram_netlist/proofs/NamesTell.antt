-- A net by its text: its letters, and the numbers in it.
use Rattle.std.specs.Prelude.{ℕ, zero, suc, ◌+◌, ◌*◌, ◌-◌, List, [], ◌∷◌, Bool, ◌&&◌, nat_le, nat_eq, Option, Some, None, if◌then◌else◌, codes}
use Rattle.std.specs.Cmp.Lexicographic.{pointwise}
use Rattle.sram_netlist.specs.Organization.{Organization, bank_bit}
use Rattle.sram_netlist.specs.Nets.{Net, Clk0, Csb0, Web0, Clkb, Csq, Weq, Cs, We, Wlb, Wlen, Wrb, Wen, Rdb, Rd, Dly, Seb, Sen, Vdd, Gnd, Control, Addr, Din, Dout, Wmask, A, Na, D, M, LineB, Line, WlenB, WlenAt, SenB, SenAt, WenB, WenAt, Zb, Wl, Bl, Br, Lo, Ro}

abbrev pub is_digit : ℕ → Bool
is_digit c = nat_le 48 c && nat_le c 57

-- the bytes that are no digits
abbrev pub letters : List ℕ → List ℕ
letters [] = []
letters (c ∷ cs) = if is_digit c then letters cs else c ∷ letters cs

abbrev pub sum_of : Option ℕ → ℕ
sum_of None = 0
sum_of (Some n) = n

abbrev pub ended : Option ℕ → List ℕ → List ℕ
ended None ns = ns
ended (Some n) ns = n ∷ ns

-- the values of the runs of digits
abbrev pub runs : Option ℕ → List ℕ → List ℕ
runs o [] = ended o []
runs o (c ∷ cs) = if is_digit c then runs (Some (10 * sum_of o + (c - 48))) cs else ended o (runs None cs)

abbrev pub first : List ℕ → ℕ
first [] = 0
first (n ∷ ns) = n

abbrev pub rest : List ℕ → List ℕ
rest [] = []
rest (n ∷ ns) = ns

abbrev pub is_text : List ℕ → List ℕ → Bool
is_text a b = pointwise nat_eq a b

abbrev pub numbered_or : Net → (ℕ → Net) → List ℕ → Net
numbered_or one at [] = one
numbered_or one at (n ∷ ns) = at n

-- the lowest address bit of group g, and the count of its bits
abbrev pub group_at : List ℕ → ℕ → ℕ → ℕ × ℕ
group_at [] from g = (from, 0)
group_at (b ∷ bs) from zero = (from, b)
group_at (b ∷ bs) from (suc g) = group_at bs (from + b) g

-- a bank has a number where there are several
abbrev pub own_bank : ℕ → List ℕ → ℕ
own_bank zero ns = 0
own_bank (suc n) ns = first ns

abbrev pub after_bank : ℕ → List ℕ → List ℕ
after_bank zero ns = ns
after_bank (suc n) ns = rest ns

abbrev pub net_of : Organization → List ℕ → List ℕ → Net
net_of plan t ns =
    if is_text t (codes "gnd") then Gnd else (
    if is_text t (codes "clk") then Control Clk0 else (
    if is_text t (codes "csb") then Control Csb0 else (
    if is_text t (codes "web") then Control Web0 else (
    if is_text t (codes "clkb") then Control Clkb else (
    if is_text t (codes "xlogicAcsq") then Control Csq else (
    if is_text t (codes "xlogicAweq") then Control Weq else (
    if is_text t (codes "xlogicAcs") then Control Cs else (
    if is_text t (codes "xlogicAwe") then Control We else (
    if is_text t (codes "xlogicAwlb") then Control Wlb else (
    if is_text t (codes "xlogicAwrb") then Control Wrb else (
    if is_text t (codes "xlogicArdb") then Control Rdb else (
    if is_text t (codes "xlogicArd") then Control Rd else (
    if is_text t (codes "xlogicAdly") then Control Dly else (
    if is_text t (codes "xlogicAseb") then Control Seb else (
    if is_text t (codes "xlogicAwlen") then Control Wlen else (
    if is_text t (codes "xlogicAsen") then Control Sen else (
    if is_text t (codes "xlogicAwen") then Control Wen else (
    if is_text t (codes "wen") then Control Wen else (
    if is_text t (codes "wlen") then numbered_or (Control Wlen) WlenAt ns else (
    if is_text t (codes "sen") then numbered_or (Control Sen) SenAt ns else (
    if is_text t (codes "addr[]") then Addr (first (rest ns)) else (
    if is_text t (codes "din[]") then Din (first (rest ns)) else (
    if is_text t (codes "dout[]") then Dout (first (rest ns)) else (
    if is_text t (codes "wmask[]") then Wmask (first (rest ns)) else (
    if is_text t (codes "xlogicAa") then A (first ns) else (
    if is_text t (codes "xlogicAn") then Na (first ns) else (
    if is_text t (codes "d") then D (first ns) else (
    if is_text t (codes "xlogicAm") then M (first ns) else (
    if is_text t (codes "xlogicAlb") then WlenB (first ns) else (
    if is_text t (codes "xlogicAkb") then SenB (first ns) else (
    if is_text t (codes "xlogicAwx_") then WenB (first ns) (first (rest ns)) else (
    if is_text t (codes "we_") then WenAt (first ns) (first (rest ns)) else (
    if is_text t (codes "sel") then Line 0 plan.col_bits (first ns) else (
    if is_text t (codes "p_") then Line (group_at plan.groups plan.col_bits (first ns)).0 (group_at plan.groups plan.col_bits (first ns)).1 (first (rest ns)) else (
    if is_text t (codes "xlogicAe") then Line (bank_bit plan) plan.bank_bits (first ns) else (
    if is_text t (codes "xlogicAsb") then LineB 0 plan.col_bits (first ns) else (
    if is_text t (codes "xlogicApb_") then LineB (group_at plan.groups plan.col_bits (first ns)).0 (group_at plan.groups plan.col_bits (first ns)).1 (first (rest ns)) else (
    if is_text t (codes "xlogicAeb") then LineB (bank_bit plan) plan.bank_bits (first ns) else (
    if is_text t (codes "xbankAxarrayAxrAzb") then Zb (own_bank plan.bank_bits ns) (first (after_bank plan.bank_bits ns)) else (
    if is_text t (codes "xbankAxarrayAxrAwl") then Wl (own_bank plan.bank_bits ns) (first (after_bank plan.bank_bits ns)) else (
    if is_text t (codes "xbankAbl") then Bl (own_bank plan.bank_bits ns) (first (after_bank plan.bank_bits ns)) else (
    if is_text t (codes "xbankAbr") then Br (own_bank plan.bank_bits ns) (first (after_bank plan.bank_bits ns)) else (
    if is_text t (codes "xbankAxdataAlo") then Lo (own_bank plan.bank_bits ns) (first (after_bank plan.bank_bits ns)) else (
    if is_text t (codes "xbankAxdataAro") then Ro (own_bank plan.bank_bits ns) (first (after_bank plan.bank_bits ns)) else (
    Vdd)))))))))))))))))))))))))))))))))))))))))))))
