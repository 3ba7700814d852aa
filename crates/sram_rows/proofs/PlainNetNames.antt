-- Each net's name has plain bytes.
use Rattle.std.proofs.Common.{◌⊎◌, inl, inr, ℕ, ◌<◌, ◌^◌, [], ◌∷◌, ◌++◌, refl, sym, subst, arith}
use Rattle.std.specs.Fmt.{decimal}
use Rattle.sram_netlist.specs.Organization.{Organization, banks_of, IsBuildable}
use Rattle.sram_netlist.specs.Nets.{Net, Clk0, Control, Addr, Din, Dout, Wmask, A, Na, D, M, LineB, Line, WlenB, WlenAt, SenB, SenAt, WenB, WenAt, Bl, Br, Lo, Ro}
use Rattle.sram_netlist.specs.Membership.{IsNameable, IsChoice}
use Rattle.sram_netlist.specs.Names.{LineKind, Column, Group, Bank, line_kind, line_name, lineb_name, gate_name, inv_name, net_name}
use Rattle.sram_netlist.proofs.Bounds.{bounds, line_few}
use Rattle.sram_netlist.proofs.ChoiceLaws.{IsColumnChoice, IsGroupChoice, IsBankChoice, which}
use Rattle.sram_rows.proofs.DigitLaws.{IsPlain, plain_tail}

-- a kind of choice whose group is one of three
abbrev pub IsSmallKind : LineKind → Type 0
IsSmallKind Column = Unit {0}
IsSmallKind (Group g) = g < 3
IsSmallKind Bank = Unit {0}

pub kind_small : (plan : Organization) (o b : ℕ) → IsBuildable plan → IsChoice plan o b → IsSmallKind (line_kind plan o)
kind_small plan o b p c = by (which plan o b p c)
  where
    by : IsColumnChoice plan o b ⊎ (IsGroupChoice plan o b ⊎ IsBankChoice plan o b) → IsSmallKind (line_kind plan o)
    by (inl h) = subst IsSmallKind (sym h.line_kind) tt
    by (inr (inl h)) = subst IsSmallKind (sym h.line_kind) h.few
    by (inr (inr h)) = subst IsSmallKind (sym h.line_kind) tt

pub line_name_plain : (κ : LineKind) (k : ℕ) → IsSmallKind κ → k < 2 ^ 64 → IsPlain (line_name κ k)
line_name_plain Column k small few = plain_tail k few [] refl
line_name_plain (Group g) k small few =
    let l = plain_tail k few [] refl in
    plain_tail g (omega arith) (95 ∷ (decimal k ++ [])) l
line_name_plain Bank k small few = plain_tail k few [] refl

pub lineb_name_plain : (κ : LineKind) (k : ℕ) → IsSmallKind κ → k < 2 ^ 64 → IsPlain (lineb_name κ k)
lineb_name_plain Column k small few = plain_tail k few [] refl
lineb_name_plain (Group g) k small few =
    let l = plain_tail k few [] refl in
    plain_tail g (omega arith) (95 ∷ (decimal k ++ [])) l
lineb_name_plain Bank k small few = plain_tail k few [] refl

pub gate_name_plain : (κ : LineKind) (k : ℕ) → IsSmallKind κ → k < 2 ^ 64 → IsPlain (gate_name κ k)
gate_name_plain Column k small few = plain_tail k few [] refl
gate_name_plain (Group g) k small few =
    let l = plain_tail k few [] refl in
    plain_tail g (omega arith) (95 ∷ (decimal k ++ [])) l
gate_name_plain Bank k small few = plain_tail k few [] refl

pub inv_name_plain : (κ : LineKind) (k : ℕ) → IsSmallKind κ → k < 2 ^ 64 → IsPlain (inv_name κ k)
inv_name_plain Column k small few = plain_tail k few [] refl
inv_name_plain (Group g) k small few =
    let l = plain_tail k few [] refl in
    plain_tail g (omega arith) (95 ∷ (decimal k ++ [])) l
inv_name_plain Bank k small few = plain_tail k few [] refl

module _ (plan : Organization) (p : IsBuildable plan) where
  pub few_banks : (b : ℕ) → b < banks_of plan → b < 2 ^ 64
  few_banks b lt = let h = (bounds plan p).banks in omega (arith, h, lt)

  pub name_plain : (x : Net) → IsNameable plan x → IsPlain (net_name plan x)
  name_plain (Addr i) h =
      let few : i < 2 ^ 64 = let e = (bounds plan p).address in omega (arith, e, h) in
      plain_tail i few (93 ∷ []) refl
  name_plain (A i) h =
      let few : i < 2 ^ 64 = let e = (bounds plan p).address in omega (arith, e, h) in
      plain_tail i few [] refl
  name_plain (Na i) h =
      let few : i < 2 ^ 64 = let e = (bounds plan p).address in omega (arith, e, h) in
      plain_tail i few [] refl
  name_plain (Din i) h =
      let few : i < 2 ^ 64 = let e = (bounds plan p).words in omega (arith, e, h) in
      plain_tail i few (93 ∷ []) refl
  name_plain (Dout i) h =
      let few : i < 2 ^ 64 = let e = (bounds plan p).words in omega (arith, e, h) in
      plain_tail i few (93 ∷ []) refl
  name_plain (D i) h =
      let few : i < 2 ^ 64 = let e = (bounds plan p).words in omega (arith, e, h) in
      plain_tail i few [] refl
  name_plain (Wmask i) h =
      let few : i < 2 ^ 64 = let e = (bounds plan p).masks in omega (arith, e, h) in
      plain_tail i few (93 ∷ []) refl
  name_plain (M i) h =
      let few : i < 2 ^ 64 = let e = (bounds plan p).masks in omega (arith, e, h) in
      plain_tail i few [] refl
  name_plain (WlenB i) h =
      let few : i < 2 ^ 64 = let e = (bounds plan p).banks in omega (arith, e, h) in
      plain_tail i few [] refl
  name_plain (WlenAt i) h =
      let few : i < 2 ^ 64 = let e = (bounds plan p).banks in omega (arith, e, h) in
      plain_tail i few [] refl
  name_plain (SenB i) h =
      let few : i < 2 ^ 64 = let e = (bounds plan p).banks in omega (arith, e, h) in
      plain_tail i few [] refl
  name_plain (SenAt i) h =
      let few : i < 2 ^ 64 = let e = (bounds plan p).banks in omega (arith, e, h) in
      plain_tail i few [] refl
  name_plain (WenB b m) h =
      let f : b < 2 ^ 64 = few_banks b h.0 in
      let g : m < 2 ^ 64 = let e = (bounds plan p).enables in let lt = h.1 in omega (arith, e, lt) in
      let l = plain_tail m g [] refl in
      plain_tail b f (95 ∷ (decimal m ++ [])) l
  name_plain (WenAt b m) h =
      let f : b < 2 ^ 64 = few_banks b h.0 in
      let g : m < 2 ^ 64 = let e = (bounds plan p).enables in let lt = h.1 in omega (arith, e, lt) in
      let l = plain_tail m g [] refl in
      plain_tail b f (95 ∷ (decimal m ++ [])) l
  name_plain (Bl b i) h =
      let few : i < 2 ^ 64 = let e = (bounds plan p).columns in let lt = h.1 in omega (arith, e, lt) in
      plain_tail i few [] refl
  name_plain (Br b i) h =
      let few : i < 2 ^ 64 = let e = (bounds plan p).columns in let lt = h.1 in omega (arith, e, lt) in
      plain_tail i few [] refl
  name_plain (Lo b i) h =
      let few : i < 2 ^ 64 = let e = (bounds plan p).words in let lt = h.1 in omega (arith, e, lt) in
      plain_tail i few [] refl
  name_plain (Ro b i) h =
      let few : i < 2 ^ 64 = let e = (bounds plan p).words in let lt = h.1 in omega (arith, e, lt) in
      plain_tail i few [] refl
  name_plain (Line o b k) h = line_name_plain (line_kind plan o) k (kind_small plan o b p h.0) (line_few plan o b k p h.0 h.1)
  name_plain (LineB o b k) h = lineb_name_plain (line_kind plan o) k (kind_small plan o b p h.0) (line_few plan o b k p h.0 h.1)
  name_plain (Control Clk0) h = refl
  name_plain (Control s) h = refl
  name_plain x h = refl
