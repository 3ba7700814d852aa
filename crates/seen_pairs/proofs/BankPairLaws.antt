-- Two instances of a bank that stand near each other are seen in a small memory.
use Rattle.std.proofs.Common.{◌≡◌, ◌⊎◌, inl, inr, ◌∙◌, ℕ, zero, suc, ◌+◌, ◌*◌, ◌<◌, ◌≤◌, ℤ, ◌+ℤ◌, List, refl, sym, ap, subst, arith}
use Rattle.std.proofs.Math.Nat.{mul-le-mul_right}
use Rattle.std.proofs.lemmas.Bool.{cases_lt}
use Rattle.std.proofs.lemmas.Int.{ints}
use Rattle.or_geom.specs.declared.place.Place.{Place}
use Rattle.or_geom.specs.declared.shape.Point.{Point}
use Rattle.or_geom.specs.Place.{placed, turned}
use Rattle.tech_rules.specs.declared.tech.Connect.{Connect}
use Rattle.sram_netlist.specs.Organization.{columns_of, words_per_row, power_of_two}
use Rattle.good_places.specs.Beside.{IsNext, moved_place}
use Rattle.good_places.specs.Leaves.{AreNearZones}
use Rattle.good_places.proofs.LaidLaws.{Numbers, numbers}
use Rattle.good_places.proofs.NearLaws.{beside_column, beside_front, beside_slice}
use Rattle.good_nets.specs.Ports.{upright_place}
use Rattle.moved_nets.specs.Moved.{IsLike, slice_leaf, slice_net}
use Rattle.kit_nets.specs.StatedParts.{Source, Standing}
use Rattle.kit_nets.specs.StandIns.{AreAkin, StandsMoved}
use Rattle.kit_nets.proofs.StandInLaws.{slice_stands_in}
use Rattle.seen_pairs.specs.Counterpart.{window_source, IsOfColumns, IsOfFronts, IsOfSlices, leaf_bank, number_of, right_by, columns_up, slices_up, IsCounterpart}
use Rattle.small_rows.specs.Few.{IsAmongFew}
use Rattle.seen_pairs.specs.There.{HasCounterpart, ArePairThere}
use Rattle.seen_pairs.specs.Window.{IsSeenSource, HasSeenWindow}
use Rattle.seen_pairs.proofs.CounterLaws.{column_counter, front_counter, slice_counter}
use Rattle.small_rows.proofs.FewLaws.{among_few, IsFewOf, split_by, among_columns}
use Rattle.seen_pairs.proofs.SeatLaws.{column_seat, front_seat, slice_seat, column_below, slice_below, beside_is, beside_slice_is, zone_at}

-- What stands at a moved place stands so much further right and up.
pub at_moved : (dx dy : ℤ) (place : Place) (p : Point) → placed (moved_place dx dy place) p ≡ placed (upright_place dx dy) (placed place p)
at_moved dx dy place p = together (further (turned place.orient p).x place.at.x dx) (further (turned place.orient p).y place.at.y dy) where
  further : (t a d : ℤ) → t +ℤ (a +ℤ d) ≡ (t +ℤ a) +ℤ d
  further t a d = omega (arith, ints)

  together : {x y u v : ℤ} → x ≡ u → y ≡ v → ◌≡◌ {A = Point} (record { x = x; y = y }) (record { x = u; y = v })
  together p q = λ i. record { x = p i; y = q i }

pub power_low : (k : ℕ) → 1 ≤ power_of_two k
power_low zero = omega arith
power_low (suc k) = let p = power_low k in omega (arith, p)

module _ (connections : List Connect) (s : Source) (by reach : ℤ) (is : IsSeenSource connections s by reach) (window : HasSeenWindow connections s) where
  abbrev pub w : Source
  w = window_source s window.word window.write window.masks window.tracks window.floorplan

  like : IsLike s.plan w.plan
  like = record { bank_bits = refl; col_bits = refl; groups = refl; written = is.written; small_written = window.size.written; masks = masks window.size.masks_are } where
    masks : ((s.plan.masks ≡ 0) × (window.masks ≡ 0)) ⊎ ((2 ≤ s.plan.masks) × (2 ≤ window.masks) × (window.write ≡ 1) × (window.masks ≡ window.word)) → ((s.plan.masks ≡ 0) × (window.masks ≡ 0)) ⊎ ((0 < s.plan.masks) × (0 < window.masks) × (window.write ≡ 1))
    masks (inl none) = inl none
    masks (inr some) = let a = some.0 in let b = some.1 in inr (omega (arith, a), omega (arith, b), some.2)

  pub akin : AreAkin s w
  akin = record { plans = like; cells = λ r. refl }

  pub few : IsFewOf s.plan.word_size window.word
  few = window.size.few

  abbrev pub Counter : ℕ → ℤ → ℤ → Standing s → Type 0
  Counter m dx dy i = IsCounterpart s.plan s.kit window.floorplan window.word window.write window.masks m dx dy i.leaf i.place

  abbrev pub standing : (m : ℕ) (dx dy : ℤ) (i : Standing s) → Counter m dx dy i → Standing w
  standing m dx dy i c = record { leaf = c.there; has = c.has; place = moved_place dx dy i.place; stands = c.stands }

  pub stands_moved : (m : ℕ) (dx dy : ℤ) (i : Standing s) (c : Counter m dx dy i) → StandsMoved s w dx dy i (standing m dx dy i c)
  stands_moved m dx dy i c p = at_moved dx dy i.place p

  -- two instances with counterparts so many slices before them
  pair_of : (m : ℕ) (dx dy : ℤ) (i j : Standing s) → Counter m dx dy i → Counter m dx dy j → (i.leaf ≡ j.leaf → ⊥) → ArePairThere s w i j
  pair_of m dx dy i j a b differ = record {
    f = slice_net s.plan m;
    dx = dx;
    dy = dy;
    one = standing m dx dy i a;
    other = standing m dx dy j b;
    differ = λ e. differ (a.is ∙ (ap (slice_leaf s.plan m) e ∙ sym b.is));
    one_is = slice_stands_in s w akin m dx dy i (standing m dx dy i a) a.inside a.is (stands_moved m dx dy i a);
    other_is = slice_stands_in s w akin m dx dy j (standing m dx dy j b) b.inside b.is (stands_moved m dx dy j b);
    one_at = refl;
    one_role = a.same_role;
    other_at = refl;
  }

  abbrev right : ℕ → ℕ → ℤ
  right b m = right_by s.plan s.kit s.floorplan window.floorplan b m

  abbrev up_columns : ℤ
  up_columns = columns_up s.floorplan window.floorplan

  abbrev up_slices : ℤ
  up_slices = slices_up s.floorplan window.floorplan

  pub column_found : (i : Standing s) → IsOfColumns i.leaf → (d m : ℕ) → number_of i.leaf ≡ d + m * words_per_row s.plan → d < window.word * words_per_row s.plan → Counter m (right (leaf_bank i.leaf) m) up_columns i
  column_found i of d m sum lt =
      column_counter s.plan s.kit s.wire s.tracks window.tracks s.floorplan window.floorplan window.word window.write window.masks is.source.drawn.stands window.source.drawn.stands is.written window.size.written i.leaf i.place of i.has i.stands d m sum lt

  pub front_found : (i : Standing s) → IsOfFronts i.leaf → Counter 0 (right (leaf_bank i.leaf) 0) up_columns i
  front_found i of = front_counter s.plan s.kit s.wire s.tracks window.tracks s.floorplan window.floorplan window.word window.write window.masks is.source.drawn.stands window.source.drawn.stands is.written window.size.written i.leaf i.place of i.has i.stands

  pub slice_found : (i : Standing s) → IsOfSlices i.leaf → (j m : ℕ) → number_of i.leaf ≡ j + m → j < window.word → Counter m (right (leaf_bank i.leaf) m) up_slices i
  slice_found i of j m sum lt = slice_counter s.plan s.kit s.wire s.tracks window.tracks s.floorplan window.floorplan window.word window.write window.masks is.source.drawn.stands window.source.drawn.stands is.written window.size.written i.leaf i.place of i.has i.stands j m sum lt

  n : Numbers s.plan s.kit s.floorplan reach
  n = numbers s.plan s.kit s.wire s.floorplan reach is.source.drawn.laid is.short

  -- columns have counterparts
  pub columns_few : (c : ℕ) → c < columns_of s.plan → (m : ℕ) × IsAmongFew (columns_of s.plan) (window.word * words_per_row s.plan) c (m * words_per_row s.plan)
  columns_few c lt =
      let p = split_by (words_per_row s.plan) c (power_low s.plan.col_bits) in
      let q = among_few s.plan.word_size window.word p.q (below p.q p.r p.sum lt) few in
      (q.0, among_columns s.plan.word_size window.word (words_per_row s.plan) c p.q p.r q.0 p.sum p.less q.1)
    where
      below : (q r : ℕ) → c ≡ q * words_per_row s.plan + r → c < columns_of s.plan → q < s.plan.word_size
      below q r e l = elim (cases_lt q s.plan.word_size) [
        | inl le ↦ le
        | inr ge ↦ let g = times s.plan.word_size q (words_per_row s.plan) ge in absurd (omega (arith, g, e, l))
      ] where
        times : (a b v : ℕ) → a ≤ b → a * v ≤ b * v
        times a b v le = mul-le-mul_right v le

  pub in_bank : (i j : Standing s) (m : ℕ) (dy : ℤ) → leaf_bank j.leaf ≡ leaf_bank i.leaf → Counter m (right (leaf_bank j.leaf) m) dy j → Counter m (right (leaf_bank i.leaf) m) dy j
  in_bank i j m dy e c = subst (λ (b : ℕ). Counter m (right b m) dy j) e c

  -- the lower of two columns, and the other
  lower : (i j : Standing s) → IsOfColumns i.leaf → IsOfColumns j.leaf → leaf_bank j.leaf ≡ leaf_bank i.leaf → (number_of i.leaf ≡ number_of j.leaf) ⊎ (number_of i.leaf + 1 ≡ number_of j.leaf) → (m : ℕ) × Counter m (right (leaf_bank i.leaf) m) up_columns i × Counter m (right (leaf_bank i.leaf) m) up_columns j
  lower i j of_i of_j bank next =
      let q = columns_few (number_of i.leaf) (column_below s.plan i.leaf of_i i.has) in
      let k = q.1 in
      (q.0, column_found i of_i k.d q.0 k.sum k.inside, in_bank i j q.0 up_columns bank (other q.0 k next))
    where
      other : (m : ℕ) (k : IsAmongFew (columns_of s.plan) (window.word * words_per_row s.plan) (number_of i.leaf) (m * words_per_row s.plan)) → (number_of i.leaf ≡ number_of j.leaf) ⊎ (number_of i.leaf + 1 ≡ number_of j.leaf) → Counter m (right (leaf_bank j.leaf) m) up_columns j
      other m k (inl same) = column_found j of_j k.d m (sym same ∙ k.sum) k.inside
      other m k (inr more) =
          let e = k.sum in
          let l = column_below s.plan j.leaf of_j j.has in
          column_found j of_j (k.d + 1) m (omega (arith, e, more)) (k.next (omega (arith, l, more)))

  pub columns_together : (i j : Standing s) → IsOfColumns i.leaf → IsOfColumns j.leaf → leaf_bank j.leaf ≡ leaf_bank i.leaf → IsNext (number_of i.leaf) (number_of j.leaf) → (m : ℕ) × Counter m (right (leaf_bank i.leaf) m) up_columns i × Counter m (right (leaf_bank i.leaf) m) up_columns j
  columns_together i j of_i of_j bank next = elim (cases_lt (number_of j.leaf) (number_of i.leaf)) [
    | inl before ↦
        let a = next.not_before in
        let l = lower j i of_j of_i (sym bank) (inr (omega (arith, before, a))) in
        (l.0, subst (λ (b : ℕ). Counter l.0 (right b l.0) up_columns i) bank l.2, subst (λ (b : ℕ). Counter l.0 (right b l.0) up_columns j) bank l.1)
    | inr from ↦ lower i j of_i of_j bank (which (number_of i.leaf) (number_of j.leaf) from next.not_after)
  ] where
    which : (c d : ℕ) → c ≤ d → d ≤ c + 1 → (c ≡ d) ⊎ (c + 1 ≡ d)
    which c d le more = elim (cases_lt c d) [ inl lt ↦ inr (omega (arith, lt, more)) | inr ge ↦ inl (omega (arith, le, ge)) ]

  -- the first column and what stands in front of it
  pub front_together : (i : Standing s) → IsOfColumns i.leaf → number_of i.leaf ≡ 0 → Counter 0 (right (leaf_bank i.leaf) 0) up_columns i
  front_together i of first =
      let q = columns_few (number_of i.leaf) (column_below s.plan i.leaf of i.has) in
      let a = q.1.inside in
      column_found i of 0 0 (none (number_of i.leaf) (words_per_row s.plan) first) (omega (arith, a))
    where
      none : (c w : ℕ) → c ≡ 0 → c ≡ 0 + 0 * w
      none c w e = omega (arith, e)

  lower_slice : (i j : Standing s) → IsOfSlices i.leaf → IsOfSlices j.leaf → leaf_bank j.leaf ≡ leaf_bank i.leaf → (number_of i.leaf ≡ number_of j.leaf) ⊎ (number_of i.leaf + 1 ≡ number_of j.leaf) → (m : ℕ) × Counter m (right (leaf_bank i.leaf) m) up_slices i × Counter m (right (leaf_bank i.leaf) m) up_slices j
  lower_slice i j of_i of_j bank next =
      let q = among_few s.plan.word_size window.word (number_of i.leaf) (slice_below s.plan i.leaf is.written of_i i.has) few in
      let k = q.1 in
      (q.0, slice_found i of_i k.d q.0 k.sum k.inside, in_bank i j q.0 up_slices bank (other q.0 k next))
    where
      other : (m : ℕ) (k : IsAmongFew s.plan.word_size window.word (number_of i.leaf) m) → (number_of i.leaf ≡ number_of j.leaf) ⊎ (number_of i.leaf + 1 ≡ number_of j.leaf) → Counter m (right (leaf_bank j.leaf) m) up_slices j
      other m k (inl same) = slice_found j of_j k.d m (sym same ∙ k.sum) k.inside
      other m k (inr more) =
          let e = k.sum in
          let l = slice_below s.plan j.leaf is.written of_j j.has in
          slice_found j of_j (k.d + 1) m (omega (arith, e, more)) (k.next (omega (arith, l, more)))

  pub slices_together : (i j : Standing s) → IsOfSlices i.leaf → IsOfSlices j.leaf → leaf_bank j.leaf ≡ leaf_bank i.leaf → IsNext (number_of i.leaf) (number_of j.leaf) → (m : ℕ) × Counter m (right (leaf_bank i.leaf) m) up_slices i × Counter m (right (leaf_bank i.leaf) m) up_slices j
  slices_together i j of_i of_j bank next = elim (cases_lt (number_of j.leaf) (number_of i.leaf)) [
    | inl before ↦
        let a = next.not_before in
        let l = lower_slice j i of_j of_i (sym bank) (inr (omega (arith, before, a))) in
        (l.0, subst (λ (b : ℕ). Counter l.0 (right b l.0) up_slices i) bank l.2, subst (λ (b : ℕ). Counter l.0 (right b l.0) up_slices j) bank l.1)
    | inr from ↦ lower_slice i j of_i of_j bank (which (number_of i.leaf) (number_of j.leaf) from next.not_after)
  ] where
    which : (c d : ℕ) → c ≤ d → d ≤ c + 1 → (c ≡ d) ⊎ (c + 1 ≡ d)
    which c d le more = elim (cases_lt c d) [ inl lt ↦ inr (omega (arith, lt, more)) | inr ge ↦ inl (omega (arith, le, ge)) ]

  -- What stands near an instance of a column, of a front or of a slice is seen with it.
  pub column_pair : (i j : Standing s) → IsOfColumns i.leaf → AreNearZones reach (zone_at connections s by reach is j) (zone_at connections s by reach is i) → (i.leaf ≡ j.leaf → ⊥) → ArePairThere s w i j
  column_pair i j of near differ =
      let z = subst (AreNearZones reach (zone_at connections s by reach is j)) (column_seat s.plan s.kit s.floorplan i.leaf i.place of) near in
      let b = beside_is (leaf_bank i.leaf) (number_of i.leaf) j.leaf (beside_column s.plan s.kit s.floorplan reach n (leaf_bank i.leaf) (number_of i.leaf) is.short.bitcell (column_below s.plan i.leaf of i.has) j.leaf j.place j.has z) in
      elim b.1 [
        | inl c ↦ let t = columns_together i j of c.0 b.0 c.1 in pair_of t.0 (right (leaf_bank i.leaf) t.0) up_columns i j t.1 t.2 differ
        | inr fr ↦ pair_of 0 (right (leaf_bank i.leaf) 0) up_columns i j (front_together i of fr.1) (in_bank i j 0 up_columns b.0 (front_found j fr.0)) differ
      ]

  pub front_pair : (i j : Standing s) → IsOfFronts i.leaf → AreNearZones reach (zone_at connections s by reach is j) (zone_at connections s by reach is i) → (i.leaf ≡ j.leaf → ⊥) → ArePairThere s w i j
  front_pair i j of near differ =
      let z = subst (AreNearZones reach (zone_at connections s by reach is j)) (front_seat s.plan s.kit s.floorplan i.leaf i.place of) near in
      let b = beside_is (leaf_bank i.leaf) 0 j.leaf (beside_front s.plan s.kit s.floorplan reach n (leaf_bank i.leaf) is.short.bitcell j.leaf j.place j.has z) in
      elim b.1 [
        | inl c ↦ pair_of 0 (right (leaf_bank i.leaf) 0) up_columns i j (front_found i of) (in_bank i j 0 up_columns b.0 (front_column j c.0 c.1)) differ
        | inr fr ↦ pair_of 0 (right (leaf_bank i.leaf) 0) up_columns i j (front_found i of) (in_bank i j 0 up_columns b.0 (front_found j fr.0)) differ
      ]
    where
      -- the first two columns
      front_column : (j : Standing s) → IsOfColumns j.leaf → IsNext 0 (number_of j.leaf) → Counter 0 (right (leaf_bank j.leaf) 0) up_columns j
      front_column j of next =
          let a = next.not_after in
          let lt = column_below s.plan j.leaf of j.has in
          let q = columns_few 0 (omega (arith, lt)) in
          let k = q.1 in
          let e = k.sum in
          let i0 = k.inside in
          elim (cases_lt 0 (number_of j.leaf)) [
            | inl some ↦ column_found j of (number_of j.leaf) 0 (self (number_of j.leaf) (words_per_row s.plan)) (let g = k.next (omega (arith, lt, some)) in omega (arith, e, g, a))
            | inr none ↦ column_found j of (number_of j.leaf) 0 (self (number_of j.leaf) (words_per_row s.plan)) (omega (arith, i0, none))
          ]
        where
          self : (c w : ℕ) → c ≡ c + 0 * w
          self c w = omega arith

  pub slice_pair : (i j : Standing s) → IsOfSlices i.leaf → AreNearZones reach (zone_at connections s by reach is j) (zone_at connections s by reach is i) → (i.leaf ≡ j.leaf → ⊥) → ArePairThere s w i j
  slice_pair i j of near differ =
      let z = subst (AreNearZones reach (zone_at connections s by reach is j)) (slice_seat s.plan s.kit s.floorplan i.leaf i.place of) near in
      let b = beside_slice_is (leaf_bank i.leaf) (number_of i.leaf) j.leaf (beside_slice s.plan s.kit s.floorplan reach n (leaf_bank i.leaf) (number_of i.leaf) is.short.bitcell is.written (slice_below s.plan i.leaf is.written of i.has) j.leaf j.place j.has z) in
      let t = slices_together i j of b.1.0 b.0 b.1.1 in
      pair_of t.0 (right (leaf_bank i.leaf) t.0) up_slices i j t.1 t.2 differ

  -- Each by itself is there.

  pub there_of : (m : ℕ) (dx dy : ℤ) (i : Standing s) → Counter m dx dy i → HasCounterpart s w i
  there_of m dx dy i a = record { f = slice_net s.plan m; dx = dx; dy = dy; one = standing m dx dy i a; one_is = slice_stands_in s w akin m dx dy i (standing m dx dy i a) a.inside a.is (stands_moved m dx dy i a); one_at = refl; one_role = a.same_role }

  pub column_there : (i : Standing s) → IsOfColumns i.leaf → HasCounterpart s w i
  column_there i of =
      let q = columns_few (number_of i.leaf) (column_below s.plan i.leaf of i.has) in
      there_of q.0 (right (leaf_bank i.leaf) q.0) up_columns i (column_found i of q.1.d q.0 q.1.sum q.1.inside)

  pub front_there : (i : Standing s) → IsOfFronts i.leaf → HasCounterpart s w i
  front_there i of = there_of 0 (right (leaf_bank i.leaf) 0) up_columns i (front_found i of)

  pub slice_there : (i : Standing s) → IsOfSlices i.leaf → HasCounterpart s w i
  slice_there i of =
      let q = among_few s.plan.word_size window.word (number_of i.leaf) (slice_below s.plan i.leaf is.written of i.has) few in
      there_of q.0 (right (leaf_bank i.leaf) q.0) up_slices i (slice_found i of q.1.d q.0 q.1.sum q.1.inside)
