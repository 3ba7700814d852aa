-- Which instances stand near a column, the front of a bank's rows, or a slice.
use Rattle.std.proofs.Common.{◌≡◌, inl, inr, ℕ, zero, suc, ◌+◌, ◌*◌, ◌<◌, ◌≤◌, ℤ, pos, ◌+ℤ◌, ◌*ℤ◌, ◌≤ℤ◌, ◌<ℤ◌, refl, sym, ap, subst, arith}
use Rattle.std.proofs.Math.Nat.{mul-le-mul_right, mul_assoc, suc-mul}
use Rattle.std.proofs.lemmas.Bool.{cases_lt}
use Rattle.std.proofs.lemmas.Int.{ints}
use Rattle.or_geom.specs.declared.place.Place.{Place}
use Rattle.cell_roles.specs.declared.role.Role.TheVariants.{Inv, Sense}
use Rattle.sram_netlist.specs.Organization.{Organization, power_of_two, words_per_row, columns_of}
use Rattle.sram_netlist.specs.Instances.{LeafInstance, BitAt, NandAt, DriverAt, PrechargeAt, WriteAt, SenseAt, MuxAt, TieAt, LogicAt}
use Rattle.sram_netlist.specs.Membership.{HasLeafInstance}
use Rattle.macro_layout.specs.LayoutKit.{LayoutKit}
use Rattle.macro_layout.specs.Places.{Floorplan, bank_x, column_x, columns_x, bit_width, drive_width}
use Rattle.macro_layout.specs.Floorplan.{column_channel_y, write_height}
use Rattle.good_places.specs.Beside.{IsNext, IsBeside, IsBesideSlice}
use Rattle.good_places.specs.Leaves.{Zone, zone_of, column_zone, front_zone, slice_zone, AreNearZones}
use Rattle.good_places.proofs.NumberLaws.{all_of, banks_before}
use Rattle.good_places.proofs.LaidLaws.{Numbers, written_all}

-- Numbers next to each other

two_more : (c w : ℕ) → (c + 2) * w ≡ c * w + (w + w)
two_more c w = grind arith

not_after : (c e w : ℕ) (reach x : ℤ) → reach ≤ℤ pos w → (x +ℤ pos (e * w)) <ℤ (((x +ℤ pos (c * w)) +ℤ pos w) +ℤ reach) → e ≤ c + 1
not_after c e w reach x short lt = elim (cases_lt (c + 1) e) [
  | inl after ↦
      let far : c + 2 ≤ e = omega (arith, after) in
      let le = mul-le-mul_right w far in
      let more = two_more c w in
      absurd (omega (arith, ints, le, more, short, lt))
  | inr le ↦ le
]

pub next_from : (c e w : ℕ) (reach x : ℤ) → reach ≤ℤ pos w → (x +ℤ pos (e * w)) <ℤ (((x +ℤ pos (c * w)) +ℤ pos w) +ℤ reach) → (x +ℤ pos (c * w)) <ℤ (((x +ℤ pos (e * w)) +ℤ pos w) +ℤ reach) → IsNext c e
next_from c e w reach x short a b = record { not_after = not_after c e w reach x short a; not_before = not_after e c w reach x short b }

pub is_first : (c w : ℕ) (reach x : ℤ) → reach ≤ℤ pos w → (x +ℤ pos (c * w)) <ℤ (x +ℤ reach) → c ≡ 0
is_first zero w reach x short lt = refl
is_first (suc c) w reach x short lt = let more = suc-mul c w in absurd (omega (arith, ints, more, short, lt))

-- In one bank

-- the zone lies behind the bank's rails
record IsInBank (f : Floorplan) (b : ℕ) (z : Zone) : Type 0 where
  pub left : bank_x f b f.row_x ≤ℤ z.left
  pub right : z.right ≤ℤ bank_x f b f.bank_width

not_further : (f : Floorplan) (reach : ℤ) (b bank : ℕ) (z w : Zone) → reach ≤ℤ f.row_x → pos 0 ≤ℤ f.bank_width → IsInBank f b z → IsInBank f bank w → bank < b → z.left <ℤ (w.right +ℤ reach) → ⊥
not_further f reach b bank z w short low in_z in_w lt near = go f.row_x f.bank_width (pos b *ℤ f.bank_width) (pos bank *ℤ f.bank_width) z.left w.right reach short (banks_before bank b f.bank_width lt low) in_z.left in_w.right near where
  go : (row q bq kq left right reach : ℤ) → reach ≤ℤ row → (kq +ℤ q) ≤ℤ bq → (row +ℤ bq) ≤ℤ left → right ≤ℤ (q +ℤ kq) → left <ℤ (right +ℤ reach) → ⊥
  go row q bq kq left right reach a c d e n = omega (arith, ints, a, c, d, e, n)

one_bank : (plan : Organization) (kit : LayoutKit) (f : Floorplan) (reach : ℤ) (b bank : ℕ) (z w : Zone) → Numbers plan kit f reach → IsInBank f b z → IsInBank f bank w → AreNearZones reach w z → bank ≡ b
one_bank plan kit f reach b bank z w n in_z in_w near = elim (cases_lt bank b) [
  | inl lt ↦ absurd (not_further f reach b bank z w n.front n.right in_z in_w lt near.right)
  | inr ge ↦ elim (cases_lt b bank) [
    | inl lt ↦ absurd (not_further f reach bank b w z n.front n.right in_w in_z lt near.left)
    | inr le ↦ omega (arith, ge, le)
  ]
]

module _ (plan : Organization) (kit : LayoutKit) (f : Floorplan) (reach : ℤ) (n : Numbers plan kit f reach) where
  column_in : (b c : ℕ) → c < columns_of plan → IsInBank f b (column_zone plan kit f b c)
  column_in b c lt = record {
    left = go f.row_x (pos b *ℤ f.bank_width) (drive_width plan kit) (c * bit_width kit);
    right = up f.row_x f.bank_width (pos b *ℤ f.bank_width) (drive_width plan kit) (c * bit_width kit) (bit_width kit) (columns_of plan * bit_width kit) (all_of c (columns_of plan) (bit_width kit) lt) n.bank;
  } where
    go : (row q : ℤ) (d c : ℕ) → (row +ℤ q) ≤ℤ (((row +ℤ pos d) +ℤ pos c) +ℤ q)
    go row q d c = omega (arith, ints)

    up : (row bank q : ℤ) (d c w all : ℕ) → c + w ≤ all → bank ≡ (row +ℤ pos d) +ℤ pos all → ((((row +ℤ pos d) +ℤ pos c) +ℤ q) +ℤ pos w) ≤ℤ (bank +ℤ q)
    up row bank q d c w all le e = omega (arith, ints, le, e)

  front_in : (b : ℕ) → IsInBank f b (front_zone plan kit f b)
  front_in b = record { left = omega (arith, ints); right = up f.row_x f.bank_width (pos b *ℤ f.bank_width) (drive_width plan kit) (columns_of plan * bit_width kit) n.bank } where
    up : (row bank q : ℤ) (d all : ℕ) → bank ≡ (row +ℤ pos d) +ℤ pos all → ((row +ℤ pos d) +ℤ q) ≤ℤ (bank +ℤ q)
    up row bank q d all e = omega (arith, ints, e)

  slice_end : (i w v : ℕ) → i < plan.word_size → (i * w) * v + w * v ≤ (plan.word_size * w) * v
  slice_end i w v lt =
      let le = all_of i plan.word_size (w * v) lt in
      let a = mul_assoc i w v in
      let c = mul_assoc plan.word_size w v in
      omega (arith, le, a, c)

  slice_in : (b i : ℕ) → i < plan.word_size → IsInBank f b (slice_zone plan kit f b i)
  slice_in b i lt = record {
    left = go f.row_x (pos b *ℤ f.bank_width) (drive_width plan kit) ((i * words_per_row plan) * bit_width kit);
    right = up f.row_x f.bank_width (pos b *ℤ f.bank_width) (drive_width plan kit) ((i * words_per_row plan) * bit_width kit) (words_per_row plan * bit_width kit) (columns_of plan * bit_width kit) (slice_end i (words_per_row plan) (bit_width kit) lt) n.bank;
  } where
    go : (row q : ℤ) (d c : ℕ) → (row +ℤ q) ≤ℤ (((row +ℤ pos d) +ℤ pos c) +ℤ q)
    go row q d c = omega (arith, ints)

    up : (row bank q : ℤ) (d c w all : ℕ) → c + w ≤ all → bank ≡ (row +ℤ pos d) +ℤ pos all → ((((row +ℤ pos d) +ℤ pos c) +ℤ q) +ℤ pos w) ≤ℤ (bank +ℤ q)
    up row bank q d c w all le e = omega (arith, ints, le, e)

  -- slices and the logic row are not near to columns
  slice_far : f.column_y <ℤ (column_channel_y kit f +ℤ reach) → ⊥
  slice_far lt = let a = n.columns in omega (arith, ints, a, lt)

  column_above : f.write_y ≤ℤ f.column_y
  column_above = go f.write_y f.sense_y f.column_y reach (write_height plan kit) (kit.height Sense) n.sense n.columns n.some where
    go : (w s c r : ℤ) (h k : ℕ) → s ≡ w +ℤ pos h → ((s +ℤ pos k) +ℤ r) ≤ℤ c → pos 0 ≤ℤ r → w ≤ℤ c
    go w s c r h k a b d = omega (arith, ints, a, b, d)

  pub logic_far : f.column_y <ℤ (pos (kit.height Inv) +ℤ reach) → ⊥
  logic_far lt = let a = n.logic in let b = column_above in omega (arith, ints, a, b, lt)

  pub logic_far_slice : f.write_y <ℤ (pos (kit.height Inv) +ℤ reach) → ⊥
  logic_far_slice lt = let a = n.logic in omega (arith, ints, a, lt)

  abbrev Near : Zone → Zone → Type 0
  Near = AreNearZones reach

  same_base : (b bank : ℕ) → bank ≡ b → pos bank *ℤ f.bank_width ≡ pos b *ℤ f.bank_width
  same_base b bank is = ap (λ (k : ℕ). pos k *ℤ f.bank_width) is

  columns_next : (b bank c e : ℕ) → reach ≤ℤ pos (bit_width kit) → bank ≡ b → Near (column_zone plan kit f bank e) (column_zone plan kit f b c) → IsNext c e
  columns_next b bank c e short is near =
      let l = near.left in
      let r = near.right in
      next_from c e (bit_width kit) reach (columns_x plan kit f +ℤ (pos b *ℤ f.bank_width)) short
      (go (columns_x plan kit f) (pos bank *ℤ f.bank_width) (pos b *ℤ f.bank_width) reach (e * bit_width kit) (c * bit_width kit) (bit_width kit) (same_base b bank is) l)
      (og (columns_x plan kit f) (pos bank *ℤ f.bank_width) (pos b *ℤ f.bank_width) reach (e * bit_width kit) (c * bit_width kit) (bit_width kit) (same_base b bank is) r)
    where
      go : (x p q r : ℤ) (e c w : ℕ) → p ≡ q → ((x +ℤ pos e) +ℤ p) <ℤ ((((x +ℤ pos c) +ℤ q) +ℤ pos w) +ℤ r) → ((x +ℤ q) +ℤ pos e) <ℤ ((((x +ℤ q) +ℤ pos c) +ℤ pos w) +ℤ r)
      go x p q r e c w is lt = omega (arith, ints, is, lt)

      og : (x p q r : ℤ) (e c w : ℕ) → p ≡ q → ((x +ℤ pos c) +ℤ q) <ℤ ((((x +ℤ pos e) +ℤ p) +ℤ pos w) +ℤ r) → ((x +ℤ q) +ℤ pos c) <ℤ ((((x +ℤ q) +ℤ pos e) +ℤ pos w) +ℤ r)
      og x p q r e c w is lt = omega (arith, ints, is, lt)

  -- the front is near to the first column alone
  front_first : (b bank c : ℕ) → reach ≤ℤ pos (bit_width kit) → bank ≡ b → (bank_x f b (column_x plan kit f c)) <ℤ (bank_x f bank (columns_x plan kit f) +ℤ reach) → c ≡ 0
  front_first b bank c short is lt = is_first c (bit_width kit) reach (columns_x plan kit f +ℤ (pos b *ℤ f.bank_width)) short (go (columns_x plan kit f) (pos bank *ℤ f.bank_width) (pos b *ℤ f.bank_width) reach (c * bit_width kit) (same_base b bank is) lt) where
    go : (x p q r : ℤ) (c : ℕ) → p ≡ q → ((x +ℤ pos c) +ℤ q) <ℤ ((x +ℤ p) +ℤ r) → ((x +ℤ q) +ℤ pos c) <ℤ ((x +ℤ q) +ℤ r)
    go x p q r c is lt = omega (arith, ints, is, lt)

  near_column : (b c bank e : ℕ) → reach ≤ℤ pos (bit_width kit) → c < columns_of plan → e < columns_of plan → Near (column_zone plan kit f bank e) (column_zone plan kit f b c) → (bank ≡ b) × IsNext c e
  near_column b c bank e short lt le near = let is = one_bank plan kit f reach b bank (column_zone plan kit f b c) (column_zone plan kit f bank e) n (column_in b c lt) (column_in bank e le) near in (is, columns_next b bank c e short is near)

  near_front : (b c bank : ℕ) → reach ≤ℤ pos (bit_width kit) → c < columns_of plan → Near (front_zone plan kit f bank) (column_zone plan kit f b c) → (bank ≡ b) × (c ≡ 0)
  near_front b c bank short lt near =
      let is = one_bank plan kit f reach b bank (column_zone plan kit f b c) (front_zone plan kit f bank) n (column_in b c lt) (front_in bank) near in
      let r = near.right in
      (is, front_first b bank c short is r)

  -- what stands near a column
  pub beside_column : (b c : ℕ) → reach ≤ℤ pos (bit_width kit) → c < columns_of plan → (leaf : LeafInstance) (place : Place) → HasLeafInstance plan leaf → Near (zone_of plan kit f leaf place) (column_zone plan kit f b c) → IsBeside b c leaf
  beside_column b c short lt (BitAt bank r e) place has near = near_column b c bank e short lt has.1.1 near
  beside_column b c short lt (PrechargeAt bank e) place has near = near_column b c bank e short lt has.1 near
  beside_column b c short lt (MuxAt bank e) place has near = near_column b c bank e short lt has.1.0 near
  beside_column b c short lt (TieAt bank e) place has near = near_column b c bank e short lt has.1.0 near
  beside_column b c short lt (NandAt bank r) place has near = near_front b c bank short lt near
  beside_column b c short lt (DriverAt bank r) place has near = near_front b c bank short lt near
  beside_column b c short lt (WriteAt bank i) place has near = slice_far near.high
  beside_column b c short lt (SenseAt bank i) place has near = slice_far near.high
  beside_column b c short lt (LogicAt cell) place has near = logic_far near.high

  nothing_before : IsNext 0 0
  nothing_before = record { not_after = omega arith; not_before = omega arith }

  column_of_front : (b bank e : ℕ) → reach ≤ℤ pos (bit_width kit) → e < columns_of plan → Near (column_zone plan kit f bank e) (front_zone plan kit f b) → (bank ≡ b) × IsNext 0 e
  column_of_front b bank e short lt near =
      let is = one_bank plan kit f reach b bank (front_zone plan kit f b) (column_zone plan kit f bank e) n (front_in b) (column_in bank e lt) near in
      let l = near.left in
      (is, subst (IsNext 0) (sym (front_first bank b e short (sym is) l)) nothing_before)

  -- what stands near the front of a bank's rows
  pub beside_front : (b : ℕ) → reach ≤ℤ pos (bit_width kit) → (leaf : LeafInstance) (place : Place) → HasLeafInstance plan leaf → Near (zone_of plan kit f leaf place) (front_zone plan kit f b) → IsBeside b 0 leaf
  beside_front b short (BitAt bank r e) place has near = column_of_front b bank e short has.1.1 near
  beside_front b short (PrechargeAt bank e) place has near = column_of_front b bank e short has.1 near
  beside_front b short (MuxAt bank e) place has near = column_of_front b bank e short has.1.0 near
  beside_front b short (TieAt bank e) place has near = column_of_front b bank e short has.1.0 near
  beside_front b short (NandAt bank r) place has near = (one_bank plan kit f reach b bank (front_zone plan kit f b) (front_zone plan kit f bank) n (front_in b) (front_in bank) near, refl)
  beside_front b short (DriverAt bank r) place has near = (one_bank plan kit f reach b bank (front_zone plan kit f b) (front_zone plan kit f bank) n (front_in b) (front_in bank) near, refl)
  beside_front b short (WriteAt bank i) place has near = slice_far near.high
  beside_front b short (SenseAt bank i) place has near = slice_far near.high
  beside_front b short (LogicAt cell) place has near = logic_far near.high

  -- slices are at least as wide as a bitcell
  slice_wide : reach ≤ℤ pos (bit_width kit) → reach ≤ℤ pos (words_per_row plan * bit_width kit)
  slice_wide short = let le = at_least (words_per_row plan) (bit_width kit) (power_low plan.col_bits) in go reach (bit_width kit) (words_per_row plan * bit_width kit) short le where
    at_least : (m w : ℕ) → 1 ≤ m → w ≤ m * w
    at_least m w some = let le = mul-le-mul_right w some in let one : 1 * w ≡ w = omega arith in omega (arith, le, one)

    power_low : (k : ℕ) → 1 ≤ power_of_two k
    power_low zero = omega arith
    power_low (suc k) = let p = power_low k in omega (arith, p)

    go : (r : ℤ) (w v : ℕ) → r ≤ℤ pos w → w ≤ v → r ≤ℤ pos v
    go r w v a le = omega (arith, ints, a, le)

  slices_next : (b bank i j : ℕ) → reach ≤ℤ pos (bit_width kit) → bank ≡ b → Near (slice_zone plan kit f bank j) (slice_zone plan kit f b i) → IsNext i j
  slices_next b bank i j short is near =
      let l = near.left in
      let r = near.right in
      let w = words_per_row plan in
      let v = bit_width kit in
      next_from i j (w * v) reach (columns_x plan kit f +ℤ (pos b *ℤ f.bank_width)) (slice_wide short)
      (go (columns_x plan kit f) (pos bank *ℤ f.bank_width) (pos b *ℤ f.bank_width) reach ((j * w) * v) ((i * w) * v) (j * (w * v)) (i * (w * v)) (w * v) (same_base b bank is) (mul_assoc j w v) (mul_assoc i w v) l)
      (og (columns_x plan kit f) (pos bank *ℤ f.bank_width) (pos b *ℤ f.bank_width) reach ((j * w) * v) ((i * w) * v) (j * (w * v)) (i * (w * v)) (w * v) (same_base b bank is) (mul_assoc j w v) (mul_assoc i w v) r)
    where
      go : (x p q r : ℤ) (e c e2 c2 w : ℕ) → p ≡ q → e ≡ e2 → c ≡ c2 → ((x +ℤ pos e) +ℤ p) <ℤ ((((x +ℤ pos c) +ℤ q) +ℤ pos w) +ℤ r) → ((x +ℤ q) +ℤ pos e2) <ℤ ((((x +ℤ q) +ℤ pos c2) +ℤ pos w) +ℤ r)
      go x p q r e c e2 c2 w is a d lt = omega (arith, ints, is, a, d, lt)

      og : (x p q r : ℤ) (e c e2 c2 w : ℕ) → p ≡ q → e ≡ e2 → c ≡ c2 → ((x +ℤ pos c) +ℤ q) <ℤ ((((x +ℤ pos e) +ℤ p) +ℤ pos w) +ℤ r) → ((x +ℤ q) +ℤ pos c2) <ℤ ((((x +ℤ q) +ℤ pos e2) +ℤ pos w) +ℤ r)
      og x p q r e c e2 c2 w is a d lt = omega (arith, ints, is, a, d, lt)

  near_slice : (b i bank j : ℕ) → reach ≤ℤ pos (bit_width kit) → i < plan.word_size → j < plan.word_size → Near (slice_zone plan kit f bank j) (slice_zone plan kit f b i) → (bank ≡ b) × IsNext i j
  near_slice b i bank j short lt le near = let is = one_bank plan kit f reach b bank (slice_zone plan kit f b i) (slice_zone plan kit f bank j) n (slice_in b i lt) (slice_in bank j le) near in (is, slices_next b bank i j short is near)

  -- what stands near a slice, where something is written
  pub beside_slice : (b i : ℕ) → reach ≤ℤ pos (bit_width kit) → 0 < plan.write_size → i < plan.word_size → (leaf : LeafInstance) (place : Place) → HasLeafInstance plan leaf → Near (zone_of plan kit f leaf place) (slice_zone plan kit f b i) → IsBesideSlice b i leaf
  beside_slice b i short some lt (WriteAt bank j) place has near = near_slice b i bank j short lt (subst (λ (m : ℕ). j < m) (written_all plan.write_size plan.word_size some) has.1) near
  beside_slice b i short some lt (SenseAt bank j) place has near = near_slice b i bank j short lt has.1 near
  beside_slice b i short some lt (BitAt bank r e) place has near = slice_far near.low
  beside_slice b i short some lt (PrechargeAt bank e) place has near = slice_far near.low
  beside_slice b i short some lt (MuxAt bank e) place has near = slice_far near.low
  beside_slice b i short some lt (TieAt bank e) place has near = slice_far near.low
  beside_slice b i short some lt (NandAt bank r) place has near = slice_far near.low
  beside_slice b i short some lt (DriverAt bank r) place has near = slice_far near.low
  beside_slice b i short some lt (LogicAt cell) place has near = logic_far_slice near.high
