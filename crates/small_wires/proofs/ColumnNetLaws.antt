-- The nets of a column channel, and nets that are moved by slices.
use Rattle.std.proofs.Common.{◌≡◌, inl, inr, ◌∙◌, ℕ, zero, suc, ◌+◌, ◌*◌, ◌/◌, ◌%◌, ◌<◌, ◌≤◌, List, [], ◌∷◌, ◌++◌, Option, Some, refl, sym, ap, subst, arith}
use Rattle.std.specs.Prelude.{slice_get, map}
use Rattle.std.specs.List.{flat_map, AllByRecursion}
use Rattle.std.proofs.lemmas.Nat.{div_below}
use Rattle.std.proofs.lemmas.Option.{same_Some}
use Rattle.sram_netlist.specs.Organization.{Organization, words_per_row, columns_of, power_of_two}
use Rattle.sram_netlist.specs.Nets.{Net, Vdd, Gnd, Control, Addr, Din, Dout, Wmask, A, Na, D, M, LineB, Line, WlenB, WlenAt, SenB, SenAt, WenB, WenAt, Zb, Wl, Bl, Br, Lo, Ro, Clkb}
use Rattle.sram_netlist.specs.Instances.{SenseAt, MuxAt, TieAt}
use Rattle.sram_netlist.specs.InstanceList.{numbers_from, tabulate, tabulate_lists}
use Rattle.sram_netlist.specs.Netlist.{ports, lo_net, ro_net, sen_at, wlen_at, supply_nets}
use Rattle.sram_netlist.specs.Membership.{IsOneOf}
use Rattle.sram_netlist.proofs.InstanceLists.{in_front, in_back, to_each, to_eachs}
use Rattle.macro_layout.specs.Cells.{column_leaf}
use Rattle.macro_layout.specs.Pins.{line_nets, choice_nets, slice_nets, column_nets, rail_nets}
use Rattle.joined_nets.specs.WireNets.{in_bank}
use Rattle.sram_netlist.proofs.InstanceLists.{place_in}
use Rattle.moved_nets.specs.Moved.{slice_net}

-- Banks and slices

pub in_bank_moved : (plan : Organization) (m b : ℕ) (n : Net) → slice_net plan m (in_bank b n) ≡ in_bank b (slice_net plan m n)
in_bank_moved plan m b Vdd = refl
in_bank_moved plan m b Gnd = refl
in_bank_moved plan m b (Control c) = refl
in_bank_moved plan m b (Addr i) = refl
in_bank_moved plan m b (Din i) = refl
in_bank_moved plan m b (Dout i) = refl
in_bank_moved plan m b (Wmask i) = refl
in_bank_moved plan m b (A i) = refl
in_bank_moved plan m b (Na i) = refl
in_bank_moved plan m b (D i) = refl
in_bank_moved plan m b (M i) = refl
in_bank_moved plan m b (LineB o c k) = refl
in_bank_moved plan m b (Line o c k) = refl
in_bank_moved plan m b (WlenB k) = refl
in_bank_moved plan m b (WlenAt k) = refl
in_bank_moved plan m b (SenB k) = refl
in_bank_moved plan m b (SenAt k) = refl
in_bank_moved plan m b (WenB k i) = refl
in_bank_moved plan m b (WenAt k i) = refl
in_bank_moved plan m b (Zb k r) = refl
in_bank_moved plan m b (Wl k r) = refl
in_bank_moved plan m b (Bl k c) = refl
in_bank_moved plan m b (Br k c) = refl
in_bank_moved plan m b (Lo k i) = refl
in_bank_moved plan m b (Ro k i) = refl

-- Rails

map_joined : {X : Type 0} {Y : Type 0} (h : X → Y) (xs ys : List X) → map h (xs ++ ys) ≡ map h xs ++ map h ys
map_joined h [] ys = refl
map_joined h (x ∷ xs) ys = ap (λ (zs : List _). h x ∷ zs) (map_joined h xs ys)

still_lines : (plan : Organization) (m o b : ℕ) (ns : List ℕ) → map (slice_net plan m) (map (Line o b) ns) ≡ map (Line o b) ns
still_lines plan m o b [] = refl
still_lines plan m o b (n ∷ ns) = ap (λ (zs : List Net). Line o b n ∷ zs) (still_lines plan m o b ns)

still_groups : (plan : Organization) (m : ℕ) (bs : List ℕ) (o : ℕ) → map (slice_net plan m) (line_nets bs o) ≡ line_nets bs o
still_groups plan m [] o = refl
still_groups plan m (b ∷ bs) o =
    map_joined (slice_net plan m) (tabulate (power_of_two b) (Line o b)) (line_nets bs (o + b)) ∙ ap (λ (zs : List Net). zs ++ map (slice_net plan m) (line_nets bs (o + b))) (still_lines plan m o b (numbers_from 0 (power_of_two b)))
    ∙ ap (λ (zs : List Net). tabulate (power_of_two b) (Line o b) ++ zs) (still_groups plan m bs (o + b))

still_choices : (plan : Organization) (m n : ℕ) → map (slice_net plan m) (choice_nets n) ≡ choice_nets n
still_choices plan m zero = refl
still_choices plan m (suc n) = still_lines plan m 0 (suc n) (numbers_from 0 (power_of_two (suc n)))

still_wlen : (plan : Organization) (m n b : ℕ) → slice_net plan m (wlen_at n b) ≡ wlen_at n b
still_wlen plan m zero b = refl
still_wlen plan m (suc n) b = refl

still_sen : (plan : Organization) (m n b : ℕ) → slice_net plan m (sen_at n b) ≡ sen_at n b
still_sen plan m zero b = refl
still_sen plan m (suc n) b = refl

mapped_at : {X : Type 0} {Y : Type 0} (h : X → Y) (xs : List X) (k : ℕ) (x : X) → slice_get xs k ≡ Some x → slice_get (map h xs) k ≡ Some (h x)
mapped_at h [] k x e = absurd cc
mapped_at h (y ∷ ys) zero x e = ap (λ (z : _). Some (h z)) (same_Some y x e)
mapped_at h (y ∷ ys) (suc k) x e = mapped_at h ys k x e

-- a rail's net is none that slices move
pub rail_still : (plan : Organization) (m b j : ℕ) (n : Net) → slice_get (rail_nets plan b) j ≡ Some n → slice_net plan m n ≡ n
rail_still plan m b j n e = same_Some (slice_net plan m n) n (sym (mapped_at (slice_net plan m) (rail_nets plan b) j n e) ∙ (ap (λ (xs : List Net). slice_get xs j) rails ∙ e)) where
  rails : map (slice_net plan m) (rail_nets plan b) ≡ rail_nets plan b
  rails =
      map_joined (slice_net plan m) (line_nets plan.groups plan.col_bits) (wlen_at plan.bank_bits b ∷ sen_at plan.bank_bits b ∷ Control Clkb ∷ choice_nets plan.col_bits)
      ∙ ap (λ (zs : List Net). zs ++ (slice_net plan m (wlen_at plan.bank_bits b) ∷ slice_net plan m (sen_at plan.bank_bits b) ∷ Control Clkb ∷ map (slice_net plan m) (choice_nets plan.col_bits))) (still_groups plan m plan.groups plan.col_bits)
      ∙ ap (λ (z : Net). line_nets plan.groups plan.col_bits ++ (z ∷ slice_net plan m (sen_at plan.bank_bits b) ∷ Control Clkb ∷ map (slice_net plan m) (choice_nets plan.col_bits))) (still_wlen plan m plan.bank_bits b)
      ∙ ap (λ (z : Net). line_nets plan.groups plan.col_bits ++ (wlen_at plan.bank_bits b ∷ z ∷ Control Clkb ∷ map (slice_net plan m) (choice_nets plan.col_bits))) (still_sen plan m plan.bank_bits b)
      ∙ ap (λ (zs : List Net). line_nets plan.groups plan.col_bits ++ (wlen_at plan.bank_bits b ∷ sen_at plan.bank_bits b ∷ Control Clkb ∷ zs)) (still_choices plan m plan.col_bits)

-- The nets of a column channel are lines

abbrev pub IsLineNet : ℕ → Net → Type 0
IsLineNet zero (Bl b c) = Unit {0}
IsLineNet zero (Br b c) = Unit {0}
IsLineNet (suc n) (Lo b i) = Unit {0}
IsLineNet (suc n) (Ro b i) = Unit {0}
IsLineNet (suc n) (Line o b k) = Unit {0}
IsLineNet n net = ⊥

-- a list with nets of this kind
both : (P : Net → Type 0) (xs ys : List Net) → AllByRecursion P xs → AllByRecursion P ys → AllByRecursion P (xs ++ ys)
both P [] ys a b = b
both P (x ∷ xs) ys a b = (a.0, both P xs ys a.1 b)

each_list : (P : Net → Type 0) (F : ℕ → List Net) → ((j : ℕ) → AllByRecursion P (F j)) → (ns : List ℕ) → AllByRecursion P (flat_map F ns)
each_list P F all [] = tt
each_list P F all (n ∷ ns) = both P (F n) (flat_map F ns) (all n) (each_list P F all ns)

each_line : (n o b : ℕ) (ns : List ℕ) → AllByRecursion (IsLineNet (suc n)) (map (Line o b) ns)
each_line n o b [] = tt
each_line n o b (k ∷ ks) = (tt, each_line n o b ks)

at_all : (P : Net → Type 0) (xs : List Net) (k : ℕ) (x : Net) → AllByRecursion P xs → slice_get xs k ≡ Some x → P x
at_all P [] k x all e = absurd cc
at_all P (y ∷ ys) zero x all e = subst P (same_Some y x e) all.0
at_all P (y ∷ ys) (suc k) x all e = at_all P ys k x all.1 e

slice_lines : (n i : ℕ) → AllByRecursion (IsLineNet n) (lo_net n 0 i ∷ ro_net n 0 i ∷ [])
slice_lines zero i = (tt, (tt, tt))
slice_lines (suc n) i = (tt, (tt, tt))

choice_lines : (n : ℕ) → AllByRecursion (IsLineNet n) (choice_nets n)
choice_lines zero = tt
choice_lines (suc n) = each_line n 0 (suc n) (numbers_from 0 (power_of_two (suc n)))

pub column_lines : (plan : Organization) (k : ℕ) (x : Net) → slice_get (column_nets plan) k ≡ Some x → IsLineNet plan.col_bits x
column_lines plan k x e = at_all (IsLineNet plan.col_bits) (column_nets plan) k x (both (IsLineNet plan.col_bits) (choice_nets plan.col_bits) (tabulate_lists plan.word_size (slice_nets plan)) (choice_lines plan.col_bits) (each_list (IsLineNet plan.col_bits) (slice_nets plan) (slice_lines plan.col_bits) (numbers_from 0 plan.word_size))) e

-- what moves to a line is one
pub line_back : (plan : Organization) (m n : ℕ) (net : Net) → IsLineNet n (slice_net plan m net) → IsLineNet n net
line_back plan m zero (Bl b c) h = tt
line_back plan m zero (Br b c) h = tt
line_back plan m (suc n) (Lo b i) h = tt
line_back plan m (suc n) (Ro b i) h = tt
line_back plan m (suc n) (Line o b k) h = tt
line_back plan m zero (Lo b i) h = h
line_back plan m zero (Ro b i) h = h
line_back plan m zero (Line o b k) h = h
line_back plan m (suc n) (Bl b c) h = h
line_back plan m (suc n) (Br b c) h = h
line_back plan m zero Vdd h = h
line_back plan m zero Gnd h = h
line_back plan m zero (Control c) h = h
line_back plan m zero (Addr i) h = h
line_back plan m zero (Din i) h = h
line_back plan m zero (Dout i) h = h
line_back plan m zero (Wmask i) h = h
line_back plan m zero (A i) h = h
line_back plan m zero (Na i) h = h
line_back plan m zero (D i) h = h
line_back plan m zero (M i) h = h
line_back plan m zero (LineB o c k) h = h
line_back plan m zero (WlenB k) h = h
line_back plan m zero (WlenAt k) h = h
line_back plan m zero (SenB k) h = h
line_back plan m zero (SenAt k) h = h
line_back plan m zero (WenB k i) h = h
line_back plan m zero (WenAt k i) h = h
line_back plan m zero (Zb k r) h = h
line_back plan m zero (Wl k r) h = h
line_back plan m (suc n) Vdd h = h
line_back plan m (suc n) Gnd h = h
line_back plan m (suc n) (Control c) h = h
line_back plan m (suc n) (Addr i) h = h
line_back plan m (suc n) (Din i) h = h
line_back plan m (suc n) (Dout i) h = h
line_back plan m (suc n) (Wmask i) h = h
line_back plan m (suc n) (A i) h = h
line_back plan m (suc n) (Na i) h = h
line_back plan m (suc n) (D i) h = h
line_back plan m (suc n) (M i) h = h
line_back plan m (suc n) (LineB o c k) h = h
line_back plan m (suc n) (WlenB k) h = h
line_back plan m (suc n) (WlenAt k) h = h
line_back plan m (suc n) (SenB k) h = h
line_back plan m (suc n) (SenAt k) h = h
line_back plan m (suc n) (WenB k i) h = h
line_back plan m (suc n) (WenAt k i) h = h
line_back plan m (suc n) (Zb k r) h = h
line_back plan m (suc n) (Wl k r) h = h

-- Numbers of lines

abbrev pub HasNumber : List Net → Net → Type 0
HasNumber xs n = (k : ℕ) × (slice_get xs k ≡ Some n)

lo_number : (plan : Organization) (i : ℕ) → i < plan.word_size → HasNumber (column_nets plan) (lo_net plan.col_bits 0 i)
lo_number plan i lt = place_in (lo_net plan.col_bits 0 i) (column_nets plan) (in_back (lo_net plan.col_bits 0 i) (choice_nets plan.col_bits) (tabulate_lists plan.word_size (slice_nets plan)) (to_eachs plan.word_size (slice_nets plan) i (lo_net plan.col_bits 0 i) lt (inl refl)))

ro_number : (plan : Organization) (i : ℕ) → i < plan.word_size → HasNumber (column_nets plan) (ro_net plan.col_bits 0 i)
ro_number plan i lt = place_in (ro_net plan.col_bits 0 i) (column_nets plan) (in_back (ro_net plan.col_bits 0 i) (choice_nets plan.col_bits) (tabulate_lists plan.word_size (slice_nets plan)) (to_eachs plan.word_size (slice_nets plan) i (ro_net plan.col_bits 0 i) lt (inr (inl refl))))

choice_one : (n k : ℕ) → 0 < n → k < power_of_two n → IsOneOf (Line 0 n k) (choice_nets n)
choice_one zero k some lt = absurd (omega (arith, some))
choice_one (suc n) k some lt = to_each (power_of_two (suc n)) (Line 0 (suc n)) k lt

choice_number : (plan : Organization) (k : ℕ) → 0 < plan.col_bits → k < words_per_row plan → HasNumber (column_nets plan) (Line 0 plan.col_bits k)
choice_number plan k some lt = place_in (Line 0 plan.col_bits k) (column_nets plan) (in_front (Line 0 plan.col_bits k) (choice_nets plan.col_bits) (tabulate_lists plan.word_size (slice_nets plan)) (choice_one plan.col_bits k some lt))

no_vdd : (n : ℕ) → IsLineNet n Vdd → ⊥
no_vdd zero h = h
no_vdd (suc n) h = h

no_gnd : (n : ℕ) → IsLineNet n Gnd → ⊥
no_gnd zero h = h
no_gnd (suc n) h = h

no_dout : (n i : ℕ) → IsLineNet n (Dout i) → ⊥
no_dout zero i h = h
no_dout (suc n) i h = h

no_sen : (n k b : ℕ) → IsLineNet n (sen_at k b) → ⊥
no_sen zero zero b h = h
no_sen zero (suc k) b h = h
no_sen (suc n) zero b h = h
no_sen (suc n) (suc k) b h = h

no_bl : (n b c : ℕ) → 0 < n → IsLineNet n (Bl b c) → ⊥
no_bl zero b c some h = omega (arith, some)
no_bl (suc n) b c some h = h

no_br : (n b c : ℕ) → 0 < n → IsLineNet n (Br b c) → ⊥
no_br zero b c some h = omega (arith, some)
no_br (suc n) b c some h = h

-- a net that is no line
differs : (n : ℕ) (x y : Net) → ◌≡◌ {A = Option Net} (Some x) (Some y) → (IsLineNet n x → ⊥) → IsLineNet n y → ⊥
differs n x y e none h = none (subst (IsLineNet n) (sym (same_Some x y e)) h)

is_same : (xs : List Net) (x y : Net) → ◌≡◌ {A = Option Net} (Some x) (Some y) → HasNumber xs x → HasNumber xs y
is_same xs x y e h = subst (HasNumber xs) (same_Some x y e) h

no_supply : (n k : ℕ) (x : Net) → slice_get supply_nets k ≡ Some x → IsLineNet n x → ⊥
no_supply n zero x e h = differs n Vdd x e (no_vdd n) h
no_supply n (suc zero) x e h = differs n Gnd x e (no_gnd n) h
no_supply n (suc (suc k)) x e h = cc

-- a line on a port of a sense cell is one of the channel's
pub sense_number : (plan : Organization) (i port : ℕ) (net : Net) → i < plan.word_size → slice_get (ports plan (SenseAt 0 i)) port ≡ Some net → IsLineNet plan.col_bits net → HasNumber (column_nets plan) net
sense_number plan i zero net lt e h = is_same (column_nets plan) (lo_net plan.col_bits 0 i) net e (lo_number plan i lt)
sense_number plan i (suc zero) net lt e h = is_same (column_nets plan) (ro_net plan.col_bits 0 i) net e (ro_number plan i lt)
sense_number plan i (suc (suc zero)) net lt e h = absurd (differs plan.col_bits (Dout i) net e (no_dout plan.col_bits i) h)
sense_number plan i (suc (suc (suc zero))) net lt e h = absurd (differs plan.col_bits (sen_at plan.bank_bits 0) net e (no_sen plan.col_bits plan.bank_bits 0) h)
sense_number plan i (suc (suc (suc (suc port)))) net lt e h = absurd (no_supply plan.col_bits port net e h)

power_low : (k : ℕ) → 1 ≤ power_of_two k
power_low zero = omega arith
power_low (suc k) = let p = power_low k in omega (arith, p)

within : (c w n : ℕ) → 0 < w → c < n * w → c / w < n
within c w n some lt = div_below c w n some lt

mux_number : (plan : Organization) (d port : ℕ) (net : Net) → d < columns_of plan → 0 < plan.col_bits → slice_get (ports plan (MuxAt 0 d)) port ≡ Some net → IsLineNet plan.col_bits net → HasNumber (column_nets plan) net
mux_number plan d zero net lt some e h = absurd (differs plan.col_bits (Bl 0 d) net e (no_bl plan.col_bits 0 d some) h)
mux_number plan d (suc zero) net lt some e h = absurd (differs plan.col_bits (Br 0 d) net e (no_br plan.col_bits 0 d some) h)
mux_number plan d (suc (suc zero)) net lt some e h = let p = power_low plan.col_bits in is_same (column_nets plan) (lo_net plan.col_bits 0 (d / words_per_row plan)) net e (lo_number plan (d / words_per_row plan) (within d (words_per_row plan) plan.word_size (omega (arith, p)) lt))
mux_number plan d (suc (suc (suc zero))) net lt some e h = let p = power_low plan.col_bits in is_same (column_nets plan) (ro_net plan.col_bits 0 (d / words_per_row plan)) net e (ro_number plan (d / words_per_row plan) (within d (words_per_row plan) plan.word_size (omega (arith, p)) lt))
mux_number plan d (suc (suc (suc (suc zero)))) net lt some e h = let p = power_low plan.col_bits in is_same (column_nets plan) (Line 0 plan.col_bits (d % words_per_row plan)) net e (choice_number plan (d % words_per_row plan) some (omega (arith, p)))
mux_number plan d (suc (suc (suc (suc (suc port))))) net lt some e h = absurd (no_supply plan.col_bits port net e h)

tie_number : (plan : Organization) (d port : ℕ) (net : Net) → d < columns_of plan → plan.col_bits ≡ 0 → slice_get (ports plan (TieAt 0 d)) port ≡ Some net → IsLineNet plan.col_bits net → HasNumber (column_nets plan) net
tie_number plan d port net lt none e h = by port e where
  d_in : d < plan.word_size
  d_in = let w : plan.word_size * words_per_row plan ≡ plan.word_size * 1 = ap (λ (k : ℕ). plan.word_size * power_of_two k) none in omega (arith, w, lt)

  by : (port : ℕ) → slice_get (ports plan (TieAt 0 d)) port ≡ Some net → HasNumber (column_nets plan) net
  by zero e = is_same (column_nets plan) (Bl 0 d) net e (subst (HasNumber (column_nets plan)) (ap (λ (k : ℕ). lo_net k 0 d) none) (lo_number plan d d_in))
  by (suc zero) e = is_same (column_nets plan) (Br 0 d) net e (subst (HasNumber (column_nets plan)) (ap (λ (k : ℕ). ro_net k 0 d) none) (ro_number plan d d_in))
  by (suc (suc port)) e = absurd (no_supply plan.col_bits port net e h)

-- a line on a port of a column's end is one of the channel's
pub end_number : (plan : Organization) (n d port : ℕ) (net : Net) → plan.col_bits ≡ n → d < columns_of plan → slice_get (ports plan (column_leaf n 0 d)) port ≡ Some net → IsLineNet plan.col_bits net → HasNumber (column_nets plan) net
end_number plan zero d port net is lt e h = tie_number plan d port net lt is e h
end_number plan (suc n) d port net is lt e h = mux_number plan d port net lt (omega (arith, is)) e h
