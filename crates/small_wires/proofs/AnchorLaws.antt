-- Where the zones of a bank's instances lie in a small memory.
use Rattle.std.proofs.Common.{◌≡◌, ◌⊎◌, inl, inr, ◌∙◌, ℕ, zero, suc, ◌+◌, ◌*◌, ◌<◌, ◌≤◌, ℤ, pos, ◌+ℤ◌, ◌-ℤ◌, ◌*ℤ◌, ◌≤ℤ◌, List, refl, ap, arith}
use Rattle.cell_roles.specs.declared.role.Role.TheVariants.{Bitcell}
use Rattle.std.proofs.Math.Nat.{add-mul, mul-le-mul_right, mul_assoc}
use Rattle.std.proofs.lemmas.Bool.{cases_lt}
use Rattle.std.proofs.lemmas.Int.{ints}
use Rattle.tech_rules.specs.declared.tech.Connect.{Connect}
use Rattle.sram_netlist.specs.Organization.{columns_of, words_per_row, power_of_two}
use Rattle.sram_netlist.specs.Organization.{banks_of}
use Rattle.macro_layout.specs.Wires.{trunk_x}
use Rattle.std.specs.Int.{int_max}
use Rattle.std.proofs.lemmas.Int.{clamps}
use Rattle.macro_layout.specs.Places.{total_width}
use Rattle.sram_netlist.specs.InstanceList.{logic_cells}
use Rattle.macro_layout.specs.Places.{Floorplan, bank_x, columns_x, column_x, bit_width, drive_width}
use Rattle.good_places.specs.Leaves.{Zone, column_zone, front_zone, slice_zone}
use Rattle.good_places.specs.Windows.{with_bits}
use Rattle.good_places.proofs.LaidLaws.{Numbers, numbers}
use Rattle.good_places.proofs.NumberLaws.{all_of, times_low, banks_before}
use Rattle.kit_nets.specs.StatedParts.{Source}
use Rattle.kit_nets.proofs.ColumnHubLaws.{zero_times}
use Rattle.small_wires.specs.Anchor.{IsZoneAnchored}
use Rattle.seen_pairs.specs.Counterpart.{right_by}
use Rattle.small_rows.specs.Few.{IsAmongFew}
use Rattle.seen_pairs.specs.Window.{IsSeenSource, HasSeenWindow}
use Rattle.seen_pairs.proofs.CounterLaws.{same_row, column_right, front_right, row_right}

module _ (connections : List Connect) (s : Source) (by reach : ℤ) (is : IsSeenSource connections s by reach) (window : HasSeenWindow connections s) where
  abbrev f : Floorplan
  f = s.floorplan

  abbrev g : Floorplan
  g = window.floorplan

  abbrev bw : ℕ
  bw = bit_width s.kit

  abbrev wpr : ℕ
  wpr = words_per_row s.plan

  abbrev pub Anchored : ℕ → ℕ → ℕ → Zone → ℤ → Type 0
  Anchored b m unit z dx = IsZoneAnchored s g window.word b m unit z dx

  pub rows_same : g.row_x ≡ f.row_x
  rows_same = same_row s.plan s.kit s.wire s.tracks window.tracks f g window.word window.write window.masks is.source.drawn.stands window.source.drawn.stands is.written window.size.written

  columns_moved : (b c d m : ℕ) → c ≡ d + m * wpr → bank_x f b (column_x s.plan s.kit f c) +ℤ right_by s.plan s.kit f g b m ≡ bank_x g b (column_x s.plan s.kit g d)
  columns_moved = column_right s.plan s.kit s.wire s.tracks window.tracks f g window.word window.write window.masks is.source.drawn.stands window.source.drawn.stands is.written window.size.written

  fronts_moved : (b w : ℕ) → bank_x f b (f.row_x +ℤ pos w) +ℤ right_by s.plan s.kit f g b 0 ≡ bank_x g b (g.row_x +ℤ pos w)
  fronts_moved = front_right s.plan s.kit s.wire s.tracks window.tracks f g window.word window.write window.masks is.source.drawn.stands window.source.drawn.stands is.written window.size.written

  rows_moved : (b : ℕ) → bank_x f b f.row_x +ℤ right_by s.plan s.kit f g b 0 ≡ bank_x g b g.row_x
  rows_moved = row_right s.plan s.kit s.wire s.tracks window.tracks f g window.word window.write window.masks is.source.drawn.stands window.source.drawn.stands is.written window.size.written

  pub width_here : f.bank_width ≡ columns_x s.plan s.kit f +ℤ pos (columns_of s.plan * bw)
  width_here = is.source.drawn.stands.bank_width

  pub width_there : g.bank_width ≡ columns_x s.plan s.kit g +ℤ pos ((window.word * wpr) * bw)
  width_there = window.source.drawn.stands.bank_width

  more : (x q : ℤ) (c : ℕ) → (x +ℤ q) ≤ℤ ((x +ℤ pos c) +ℤ q)
  more x q c = omega (arith, ints)

  -- numbers in the other memory's bank
  inside_to : (x q w : ℤ) (c k all : ℕ) → c + k ≤ all → w ≡ x +ℤ pos all → (((x +ℤ pos c) +ℤ q) +ℤ pos k) ≤ℤ (w +ℤ q)
  inside_to x q w c k all le e = omega (arith, ints, le, e)

  -- a zone that begins at a number of columns and has so many
  span : (b m c d k : ℕ) (unit : ℕ) → c ≡ d + m * wpr → c * bw + unit ≤ columns_of s.plan * bw → d * bw + unit ≤ (window.word * wpr) * bw → (m ≡ 0) ⊎ (unit ≤ d * bw) → (columns_of s.plan ≡ window.word * wpr + m * wpr) ⊎ (d * bw + unit + (unit + unit) ≤ (window.word * wpr) * bw) → (low high : ℤ)
      → Anchored b m unit (record { left = bank_x f b (column_x s.plan s.kit f c); right = bank_x f b (column_x s.plan s.kit f c) +ℤ pos unit; low = low; high = high }) (right_by s.plan s.kit f g b m)
  span b m c d k unit sum here there left right low high =
      let e = columns_moved b c d m sum in
      record {
        dx_is = refl;
        from = front_of f.row_x (drive_width s.plan s.kit) (c * bw) (pos b *ℤ f.bank_width);
        to = inside_to (columns_x s.plan s.kit f) (pos b *ℤ f.bank_width) f.bank_width (c * bw) unit (columns_of s.plan * bw) here width_here;
        from_there = let a = front_of g.row_x (drive_width s.plan s.kit) (d * bw) (pos b *ℤ g.bank_width) in omega (arith, ints, e, a);
        to_there = let a = inside_to (columns_x s.plan s.kit g) (pos b *ℤ g.bank_width) g.bank_width (d * bw) unit ((window.word * wpr) * bw) there width_there in moved_end (bank_x f b (column_x s.plan s.kit f c)) (bank_x g b (column_x s.plan s.kit g d)) (right_by s.plan s.kit f g b m) (bank_x g b g.bank_width) (pos unit) e a;
        left = by_left left e;
        right = by_right right e;
      }
    where
      front_of : (r : ℤ) (w c : ℕ) (q : ℤ) → (r +ℤ q) ≤ℤ (((r +ℤ pos w) +ℤ pos c) +ℤ q)
      front_of r w c q = omega (arith, ints)

      moved_end : (x y d w u : ℤ) → x +ℤ d ≡ y → (y +ℤ u) ≤ℤ w → ((x +ℤ u) +ℤ d) ≤ℤ w
      moved_end x y d w u e le = omega (arith, ints, e, le)

      by_left : (m ≡ 0) ⊎ (unit ≤ d * bw) → bank_x f b (column_x s.plan s.kit f c) +ℤ right_by s.plan s.kit f g b m ≡ bank_x g b (column_x s.plan s.kit g d) → (m ≡ 0) ⊎ ((bank_x g b (columns_x s.plan s.kit g) +ℤ pos unit) ≤ℤ (bank_x f b (column_x s.plan s.kit f c) +ℤ right_by s.plan s.kit f g b m))
      by_left (inl none) e = inl none
      by_left (inr some) e = inr (go (columns_x s.plan s.kit g) (pos b *ℤ g.bank_width) (bank_x f b (column_x s.plan s.kit f c) +ℤ right_by s.plan s.kit f g b m) unit (d * bw) some e) where
        go : (x q y : ℤ) (u c : ℕ) → u ≤ c → y ≡ (x +ℤ pos c) +ℤ q → ((x +ℤ q) +ℤ pos u) ≤ℤ y
        go x q y u c le e = omega (arith, ints, le, e)

      by_right : (columns_of s.plan ≡ window.word * wpr + m * wpr) ⊎ (d * bw + unit + (unit + unit) ≤ (window.word * wpr) * bw) → bank_x f b (column_x s.plan s.kit f c) +ℤ right_by s.plan s.kit f g b m ≡ bank_x g b (column_x s.plan s.kit g d)
          → (columns_of s.plan ≡ window.word * wpr + m * wpr) ⊎ ((((bank_x f b (column_x s.plan s.kit f c) +ℤ pos unit) +ℤ right_by s.plan s.kit f g b m) +ℤ (pos unit +ℤ pos unit)) ≤ℤ bank_x g b g.bank_width)
      by_right (inl all) e = inl all
      by_right (inr some) e = inr (go (columns_x s.plan s.kit g) (pos b *ℤ g.bank_width) (bank_x f b (column_x s.plan s.kit f c)) (right_by s.plan s.kit f g b m) g.bank_width unit (d * bw) ((window.word * wpr) * bw) some e width_there) where
        go : (x q y d w : ℤ) (u c all : ℕ) → c + u + (u + u) ≤ all → y +ℤ d ≡ (x +ℤ pos c) +ℤ q → w ≡ x +ℤ pos all → (((y +ℤ pos u) +ℤ d) +ℤ (pos u +ℤ pos u)) ≤ℤ (w +ℤ q)
        go x q y d w u c all le e wide = omega (arith, ints, le, e, wide)

  -- columns
  pub column_anchor : (b c m : ℕ) → c < columns_of s.plan → (k : IsAmongFew (columns_of s.plan) (window.word * wpr) c (m * wpr)) → Anchored b m bw (column_zone s.plan s.kit f b c) (right_by s.plan s.kit f g b m)
  column_anchor b c m lt k = span b m c k.d 0 bw k.sum (all_of c (columns_of s.plan) bw lt) (all_of k.d (window.word * wpr) bw k.inside) (left k.left) (right k.right) f.column_y _ where
    none : (m w : ℕ) → 1 ≤ w → m * w ≡ 0 → m ≡ 0
    none zero w some e = refl
    none (suc m) w some e = let le : 1 * w ≤ suc m * w = mul-le-mul_right w (let h : 1 ≤ suc m = omega arith in h) in absurd (omega (arith, le, e, some))

    left : (m * wpr ≡ 0) ⊎ (1 ≤ k.d) → (m ≡ 0) ⊎ (bw ≤ k.d * bw)
    left (inl zero_m) = inl (none m wpr (power_low s.plan.col_bits) zero_m) where
      power_low : (k : ℕ) → 1 ≤ power_of_two k
      power_low zero = omega arith
      power_low (suc k) = let p = power_low k in omega (arith, p)
    left (inr some) = let le = mul-le-mul_right bw some in let one : 1 * bw ≡ bw = omega arith in inr (omega (arith, le, one))

    right : (columns_of s.plan ≡ window.word * wpr + m * wpr) ⊎ (k.d + 3 ≤ window.word * wpr) → (columns_of s.plan ≡ window.word * wpr + m * wpr) ⊎ (k.d * bw + bw + (bw + bw) ≤ (window.word * wpr) * bw)
    right (inl all) = inl all
    right (inr some) = let le = mul-le-mul_right bw some in let three = add-mul k.d 3 bw in inr (omega (arith, le, three))

  -- slices
  pub slice_anchor : (b i m : ℕ) → i < s.plan.word_size → (k : IsAmongFew s.plan.word_size window.word i m) → Anchored b m (wpr * bw) (slice_zone s.plan s.kit f b i) (right_by s.plan s.kit f g b m)
  slice_anchor b i m lt k = span b m (i * wpr) (k.d * wpr) 0 (wpr * bw) (ap (λ (n : ℕ). n * wpr) k.sum ∙ add-mul k.d m wpr) (ends i s.plan.word_size lt) (ends k.d window.word k.inside) (left k.left) (right k.right) f.write_y _ where
    ends : (i n : ℕ) → i < n → (i * wpr) * bw + wpr * bw ≤ (n * wpr) * bw
    ends i n lt = let le = all_of i n (wpr * bw) lt in let a = mul_assoc i wpr bw in let c = mul_assoc n wpr bw in omega (arith, le, a, c)

    left : (m ≡ 0) ⊎ (1 ≤ k.d) → (m ≡ 0) ⊎ (wpr * bw ≤ (k.d * wpr) * bw)
    left (inl zero_m) = inl zero_m
    left (inr some) = let le = mul-le-mul_right (wpr * bw) some in let one : 1 * (wpr * bw) ≡ wpr * bw = omega arith in let a = mul_assoc k.d wpr bw in inr (omega (arith, le, one, a))

    right : (s.plan.word_size ≡ window.word + m) ⊎ (k.d + 3 ≤ window.word) → (columns_of s.plan ≡ window.word * wpr + m * wpr) ⊎ ((k.d * wpr) * bw + wpr * bw + (wpr * bw + wpr * bw) ≤ (window.word * wpr) * bw)
    right (inl all) = inl (ap (λ (n : ℕ). n * wpr) all ∙ add-mul window.word m wpr)
    right (inr some) = let le = mul-le-mul_right (wpr * bw) some in let three = add-mul k.d 3 (wpr * bw) in let a = mul_assoc k.d wpr bw in let c = mul_assoc window.word wpr bw in inr (omega (arith, le, three, a, c))

  -- what stands in front of the first column
  pub front_anchor : (b : ℕ) → (k : IsAmongFew (columns_of s.plan) (window.word * wpr) 0 0) → Anchored b 0 bw (front_zone s.plan s.kit f b) (right_by s.plan s.kit f g b 0)
  front_anchor b k =
      let e = rows_moved b in
      let h = fronts_moved b (drive_width s.plan s.kit) in
      record {
        dx_is = refl;
        from = omega (arith, ints);
        to = to f.row_x f.bank_width (pos b *ℤ f.bank_width) (drive_width s.plan s.kit) (columns_of s.plan * bw) width_here;
        from_there = omega (arith, ints, e);
        to_there = let a = to g.row_x g.bank_width (pos b *ℤ g.bank_width) (drive_width s.plan s.kit) ((window.word * wpr) * bw) width_there in omega (arith, ints, h, a);
        left = inl refl;
        right = right k.right h;
      }
    where
      to : (r w q : ℤ) (d n : ℕ) → w ≡ (r +ℤ pos d) +ℤ pos n → ((r +ℤ pos d) +ℤ q) ≤ℤ (w +ℤ q)
      to r w q d n e = omega (arith, ints, e)

      right : (columns_of s.plan ≡ window.word * wpr + 0) ⊎ (k.d + 3 ≤ window.word * wpr) → bank_x f b (columns_x s.plan s.kit f) +ℤ right_by s.plan s.kit f g b 0 ≡ bank_x g b (columns_x s.plan s.kit g)
          → (columns_of s.plan ≡ window.word * wpr + 0 * wpr) ⊎ (((bank_x f b (columns_x s.plan s.kit f) +ℤ right_by s.plan s.kit f g b 0) +ℤ (pos bw +ℤ pos bw)) ≤ℤ bank_x g b g.bank_width)
      right (inl all) h = inl (omega (arith, all))
      right (inr some) h =
          let le : 2 * bw ≤ (window.word * wpr) * bw = mul-le-mul_right bw (let j : 2 ≤ window.word * wpr = omega (arith, some) in j) in
          inr (go (columns_x s.plan s.kit g) (pos b *ℤ g.bank_width) (bank_x f b (columns_x s.plan s.kit f) +ℤ right_by s.plan s.kit f g b 0) g.bank_width bw ((window.word * wpr) * bw) (omega (arith, le)) h width_there)
        where
          go : (x q y w : ℤ) (u all : ℕ) → u + u ≤ all → y ≡ x +ℤ q → w ≡ x +ℤ pos all → (y +ℤ (pos u +ℤ pos u)) ≤ℤ (w +ℤ q)
          go x q y w u all le e wide = omega (arith, ints, le, e, wide)

  -- How far the other memory's bars, joiners and taps go, beside such a zone

  abbrev q : ℕ → ℤ
  q b = pos b *ℤ f.bank_width

  abbrev qg : ℕ → ℤ
  qg b = pos b *ℤ g.bank_width

  pub columns_same : columns_x s.plan s.kit g ≡ columns_x s.plan s.kit f
  columns_same = ap (λ (x : ℤ). x +ℤ pos (drive_width s.plan s.kit)) rows_same

  pub there : Numbers (with_bits s.plan window.word window.write window.masks) s.kit g reach
  there = numbers (with_bits s.plan window.word window.write window.masks) s.kit s.wire g reach window.source.drawn.laid is.short

  pub here : Numbers s.plan s.kit f reach
  here = numbers s.plan s.kit s.wire f reach is.source.drawn.laid is.short

  pub little : (by +ℤ pos 1) ≤ℤ reach
  little = let a = is.felt in let b = is.from in omega (arith, ints, a, b)

  none_times : (b : ℕ) (w : ℤ) → b ≡ 0 → pos b *ℤ w ≡ pos 0
  none_times b w e = ap (λ (k : ℕ). pos k *ℤ w) e ∙ zero_times w

  -- so many units further, less none
  pub still : (b m : ℕ) → m ≡ 0 → right_by s.plan s.kit f g b m ≡ qg b -ℤ q b
  still b m e = go (qg b) (q b) ((m * wpr) * bw) (ap (λ (k : ℕ). (k * wpr) * bw) e ∙ nothing wpr bw) where
    nothing : (w v : ℕ) → (0 * w) * v ≡ 0
    nothing w v = omega arith

    go : (x y : ℤ) (k : ℕ) → k ≡ 0 → (x -ℤ y) -ℤ pos k ≡ x -ℤ y
    go x y k e = omega (arith, ints, e)

  module _ (b m unit : ℕ) (z : Zone) (dx : ℤ) (a : Anchored b m unit z dx) (wide : reach ≤ℤ pos unit) where
    from_columns : (x0 : ℤ) → x0 ≤ℤ columns_x s.plan s.kit g → (bank_x g b (columns_x s.plan s.kit g) +ℤ pos unit) ≤ℤ (z.left +ℤ dx) → ((x0 +ℤ qg b) +ℤ by) ≤ℤ (z.left +ℤ dx)
    from_columns x0 le some = go x0 (columns_x s.plan s.kit g) (qg b) (z.left +ℤ dx) unit le some wide little where
      go : (x c q l : ℤ) (u : ℕ) → x ≤ℤ c → ((c +ℤ q) +ℤ pos u) ≤ℤ l → reach ≤ℤ pos u → (by +ℤ pos 1) ≤ℤ reach → ((x +ℤ q) +ℤ by) ≤ℤ l
      go x c q l u le some w l1 = omega (arith, ints, le, some, w, l1)

    -- a bar that begins in bank 0
    pub bar_left : (x0 : ℤ) → x0 ≤ℤ columns_x s.plan s.kit g → (x0 ≤ℤ (x0 +ℤ dx)) ⊎ ((x0 +ℤ by) ≤ℤ (z.left +ℤ dx))
    bar_left x0 le = elim a.left [
      | inl none ↦ first none
      | inr some ↦ inr (go x0 (qg b) (z.left +ℤ dx) (from_columns x0 le some) (times_low b g.bank_width there.right))
    ] where
      go : (x q l : ℤ) → ((x +ℤ q) +ℤ by) ≤ℤ l → pos 0 ≤ℤ q → (x +ℤ by) ≤ℤ l
      go x q l le low = omega (arith, ints, le, low)

      first : m ≡ 0 → (x0 ≤ℤ (x0 +ℤ dx)) ⊎ ((x0 +ℤ by) ≤ℤ (z.left +ℤ dx))
      first none = elim (cases_lt 0 b) [
        | inl later ↦
            let w = banks_before 0 b g.bank_width later there.right in
            inr (far x0 (columns_x s.plan s.kit g) g.row_x g.bank_width (pos 0 *ℤ g.bank_width) (qg b) (z.left +ℤ dx) ((window.word * wpr) * bw) le width_there w (zero_times g.bank_width) a.from_there there.front little)
        | inr first_bank ↦
            let z0 : b ≡ 0 = omega (arith, first_bank) in
            inl (at x0 dx (qg b) (q b) (a.dx_is ∙ still b m none) (none_times b g.bank_width z0) (none_times b f.bank_width z0))
      ] where
        far : (x c r w o q l : ℤ) (n : ℕ) → x ≤ℤ c → w ≡ c +ℤ pos n → (o +ℤ w) ≤ℤ q → o ≡ pos 0 → (r +ℤ q) ≤ℤ l → reach ≤ℤ r → (by +ℤ pos 1) ≤ℤ reach → (x +ℤ by) ≤ℤ l
        far x c r w o q l n le e lw z fr rl l1 = omega (arith, ints, le, e, lw, z, fr, rl, l1)

        at : (x d qg q : ℤ) → d ≡ qg -ℤ q → qg ≡ pos 0 → q ≡ pos 0 → x ≤ℤ (x +ℤ d)
        at x d qg q e z0 z1 = omega (arith, ints, e, z0, z1)

    -- a joiner of the bank
    pub joiner_left : (x0 : ℤ) → x0 ≤ℤ columns_x s.plan s.kit g → ((x0 +ℤ qg b) ≤ℤ ((x0 +ℤ q b) +ℤ dx)) ⊎ (((x0 +ℤ qg b) +ℤ by) ≤ℤ (z.left +ℤ dx))
    joiner_left x0 le = elim a.left [
      | inl none ↦ inl (at x0 dx (qg b) (q b) (a.dx_is ∙ still b m none))
      | inr some ↦ inr (from_columns x0 le some)
    ] where
      at : (x d qg q : ℤ) → d ≡ qg -ℤ q → (x +ℤ qg) ≤ℤ ((x +ℤ q) +ℤ d)
      at x d qg q e = omega (arith, ints, e)

    -- what ends in the last unit of the bank, so much before the bank's end
    pub end_right : (x y e : ℤ) → x +ℤ e ≡ f.bank_width → y +ℤ e ≡ g.bank_width → e ≤ℤ pos unit → (((x +ℤ q b) +ℤ dx) ≤ℤ (y +ℤ qg b)) ⊎ (((z.right +ℤ dx) +ℤ by) ≤ℤ (y +ℤ qg b))
    end_right x y e ex ey le = elim a.right [
      | inl all ↦ inl (at (columns_x s.plan s.kit f) (columns_x s.plan s.kit g) f.bank_width g.bank_width x y e (q b) (qg b) dx (columns_of s.plan * bw) ((window.word * wpr) * bw) ((m * wpr) * bw) columns_same width_here width_there (ap (λ (n : ℕ). n * bw) all ∙ add-mul (window.word * wpr) (m * wpr) bw) a.dx_is ex ey)
      | inr some ↦ inr (go (z.right +ℤ dx) y e (qg b) g.bank_width unit some ey le wide little)
    ] where
      at : (cf cg wf wg x y e q qg d : ℤ) (n k m : ℕ) → cg ≡ cf → wf ≡ cf +ℤ pos n → wg ≡ cg +ℤ pos k → n ≡ k + m → d ≡ (qg -ℤ q) -ℤ pos m → x +ℤ e ≡ wf → y +ℤ e ≡ wg → ((x +ℤ q) +ℤ d) ≤ℤ (y +ℤ qg)
      at cf cg wf wg x y e q qg d n k m c1 c2 c3 c4 c5 c6 c7 = omega (arith, ints, c1, c2, c3, c4, c5, c6, c7)

      go : (r y e q w : ℤ) (u : ℕ) → (r +ℤ (pos u +ℤ pos u)) ≤ℤ (w +ℤ q) → y +ℤ e ≡ w → e ≤ℤ pos u → reach ≤ℤ pos u → (by +ℤ pos 1) ≤ℤ reach → (r +ℤ by) ≤ℤ (y +ℤ q)
      go r y e q w u some ey le w1 l1 = omega (arith, ints, some, ey, le, w1, l1)

    -- a rail stands before the bank's rows
    pub rail_left : (x : ℤ) → ((x +ℤ s.wire.width) +ℤ s.wire.space) ≤ℤ f.row_x → ((x +ℤ qg b) +ℤ by) ≤ℤ (z.left +ℤ dx)
    rail_left x le = go x f.row_x g.row_x (qg b) (z.left +ℤ dx) s.wire.width s.wire.space le rows_same a.from_there is.space is.source.drawn.laid.sizes.width.from where
      go : (x rf rg q l w sp : ℤ) → ((x +ℤ w) +ℤ sp) ≤ℤ rf → rg ≡ rf → (rg +ℤ q) ≤ℤ l → by ≤ℤ sp → pos 1 ≤ℤ w → ((x +ℤ q) +ℤ by) ≤ℤ l
      go x rf rg q l w sp le e fr s1 w1 = omega (arith, ints, le, e, fr, s1, w1)

    -- the trunks of supplies stand behind it
    pub trunk_right : b < banks_of s.plan → ((z.right +ℤ dx) +ℤ by) ≤ℤ trunk_x (with_bits s.plan window.word window.write window.masks) s.kit s.wire g
    trunk_right lt = go (z.right +ℤ dx) g.bank_width (qg b) (pos (banks_of s.plan) *ℤ g.bank_width) (g.logic_x +ℤ pos (total_width (with_bits s.plan window.word window.write window.masks) s.kit (logic_cells (with_bits s.plan window.word window.write window.masks)))) s.wire.space a.to_there (banks_before b (banks_of s.plan) g.bank_width lt there.right) is.space where
      go : (r w q all logic sp : ℤ) → r ≤ℤ (w +ℤ q) → (q +ℤ w) ≤ℤ all → by ≤ℤ sp → (r +ℤ by) ≤ℤ (int_max all logic +ℤ sp)
      go r w q all logic sp le lw s1 = omega (arith, ints, clamps, le, lw, s1)

  some_words : 1 ≤ window.word
  some_words = least window.size.few where
    least : ((window.word ≡ s.plan.word_size) × (window.word ≤ 4)) ⊎ ((window.word ≡ 4) × (4 ≤ s.plan.word_size)) → 1 ≤ window.word
    least (inl all) = let a = all.0 in let w0 = is.words in omega (arith, a, w0)
    least (inr four) = let a = four.0 in omega (arith, a)

  -- there are columns
  pub columns_some : 1 ≤ (window.word * wpr) * bw
  columns_some = product (window.word * wpr) bw (product window.word wpr some_words (power_low s.plan.col_bits)) (bit_some (s.kit.width Bitcell) is.short.bitcell is.short.some) where
    product : (a c : ℕ) → 1 ≤ a → 1 ≤ c → 1 ≤ a * c
    product a c p r = let le = mul-le-mul_right c p in let one : 1 * c ≡ c = omega arith in omega (arith, le, one, r)

    power_low : (k : ℕ) → 1 ≤ power_of_two k
    power_low zero = omega arith
    power_low (suc k) = let p = power_low k in omega (arith, p)

    bit_some : (w : ℕ) → reach ≤ℤ pos w → pos 1 ≤ℤ reach → 1 ≤ w
    bit_some w a c = omega (arith, ints, a, c)
