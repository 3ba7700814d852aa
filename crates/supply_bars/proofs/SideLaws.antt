-- Where bars and joiners begin and end beside zones of one kind in two memories: as far away, or further than leaf cells are felt.
use Rattle.std.proofs.Common.{◌≡◌, ◌⊎◌, inl, inr, ◌∙◌, ℕ, ◌+◌, ◌*◌, ◌<◌, ◌≤◌, ℤ, pos, ◌+ℤ◌, ◌-ℤ◌, ◌*ℤ◌, ◌≤ℤ◌, sym, ap, arith}
use Rattle.std.proofs.lemmas.Bool.{cases_lt, cases_eq}
use Rattle.std.proofs.lemmas.Int.{ints}
use Rattle.tech_rules.specs.declared.tech.Wire.{Wire}
use Rattle.sram_netlist.specs.Organization.{Organization, columns_of}
use Rattle.macro_layout.specs.LayoutKit.{LayoutKit}
use Rattle.macro_layout.specs.Places.{Floorplan, bank_x, columns_x, bit_width, drive_width}
use Rattle.macro_layout.specs.Floorplan.{Tracks}
use Rattle.macro_layout.specs.Wires.{columns_end}
use Rattle.good_places.specs.Beside.{AreAtOneEdge}
use Rattle.good_places.proofs.NumberLaws.{all_of, once}
use Rattle.good_places.specs.Leaves.{Zone}
use Rattle.good_wires.specs.Drawn.{IsDrawnMemory}
use Rattle.good_wires.proofs.LevelLaws.{Sides, sides, pitch_low}

-- numbers left of a zone's left end in either memory, of which the second stands so much further right; and right of the right end
abbrev pub IsAlikeLeft : ℤ → ℤ → ℤ → ℤ → ℤ → ℤ → Type 0
IsAlikeLeft reach ex here there x y = (y ≡ x +ℤ ex) ⊎ (((x +ℤ reach) ≤ℤ here) × ((y +ℤ reach) ≤ℤ there))

abbrev pub IsAlikeRight : ℤ → ℤ → ℤ → ℤ → ℤ → ℤ → Type 0
IsAlikeRight reach ex here there x y = (y ≡ x +ℤ ex) ⊎ (((here +ℤ reach) ≤ℤ x) × ((there +ℤ reach) ≤ℤ y))

-- the distance to a zone is the same in both memories, or more than leaf cells are felt
abbrev pub AreGaps : ℤ → ℤ → ℤ → Type 0
AreGaps reach a b = (a ≡ b) ⊎ ((reach ≤ℤ a) × (reach ≤ℤ b))

pub gap_left : (reach ex here there x y a b : ℤ) → here ≡ x +ℤ a → there ≡ y +ℤ b → there ≡ here +ℤ ex → AreGaps reach a b → IsAlikeLeft reach ex here there x y
gap_left reach ex here there x y a b p q r (inl e) = inl (omega (arith, ints, p, q, r, e))
gap_left reach ex here there x y a b p q r (inr (s, t)) = inr (omega (arith, ints, p, s), omega (arith, ints, q, t))

gap_right : (reach ex here there x y a b : ℤ) → x ≡ here +ℤ a → y ≡ there +ℤ b → there ≡ here +ℤ ex → AreGaps reach a b → IsAlikeRight reach ex here there x y
gap_right reach ex here there x y a b p q r (inl e) = inl (omega (arith, ints, p, q, r, e))
gap_right reach ex here there x y a b p q r (inr (s, t)) = inr (omega (arith, ints, p, s), omega (arith, ints, q, t))

-- A zone of a bank, and how far left of it the bank's rows and columns begin, and how far right of it the columns end.
pub record IsBankSide (plan : Organization) (kit : LayoutKit) (f : Floorplan) (reach : ℤ) (b : ℕ) (z : Zone) (rows columns end : ℤ) : Type 0 where
  pub from_rows : z.left ≡ bank_x f b f.row_x +ℤ rows
  pub from_columns : z.left ≡ bank_x f b (columns_x plan kit f) +ℤ columns
  pub to_end : bank_x f b (columns_end plan kit f) ≡ z.right +ℤ end
  pub some_rows : pos 0 ≤ℤ rows
  pub some_end : pos 0 ≤ℤ end
  pub wide : reach ≤ℤ pos (columns_of plan * bit_width kit)

pub record AreBankSides (plan other : Organization) (kit : LayoutKit) (f g : Floorplan) (reach ex : ℤ) (b : ℕ) (here there : Zone) : Type 0 where
  pub bar_rows : IsAlikeLeft reach ex here.left there.left f.row_x g.row_x
  pub bar_columns : IsAlikeLeft reach ex here.left there.left (columns_x plan kit f) (columns_x other kit g)
  pub joiner_rows : IsAlikeLeft reach ex here.left there.left (bank_x f b f.row_x) (bank_x g b g.row_x)
  pub joiner_columns : IsAlikeLeft reach ex here.left there.left (bank_x f b (columns_x plan kit f)) (bank_x g b (columns_x other kit g))
  pub joiner_end : IsAlikeRight reach ex here.right there.right (bank_x f b (columns_end plan kit f)) (bank_x g b (columns_end other kit g))

module _ (plan : Organization) (kit : LayoutKit) (wire : Wire) (tracks : Tracks) (f : Floorplan) (m : IsDrawnMemory plan kit wire tracks f) where
  s_of : Sides plan kit wire f
  s_of = sides plan kit wire tracks f m.laid.sizes m.stands

  no_bank : (b : ℕ) → b ≡ 0 → pos b *ℤ f.bank_width ≡ pos 0
  no_bank b e = ap (λ (n : ℕ). pos n *ℤ f.bank_width) e ∙ none f.bank_width where
    none : (w : ℤ) → pos 0 *ℤ w ≡ pos 0
    none w = omega (arith, ints)

  -- a later bank stands further away than leaf cells are felt
  later : (reach : ℤ) (b : ℕ) (z : Zone) (rows columns end : ℤ) → 0 < b → IsBankSide plan kit f reach b z rows columns end → ((f.row_x +ℤ reach) ≤ℤ z.left) × ((columns_x plan kit f +ℤ reach) ≤ℤ z.left)
  later reach b z rows columns end some side =
      let one = once b f.bank_width some s_of.wide in
      let row : pos 0 ≤ℤ f.row_x = let a = pitch_low wire m.laid.sizes in let c = s_of.row in omega (arith, ints, a, c) in
      go f.row_x f.bank_width (pos b *ℤ f.bank_width) (columns_of plan * bit_width kit) (drive_width plan kit) z.left reach rows one row s_of.bank side.from_rows side.some_rows side.wide
    where
      go : (row w q : ℤ) (n d : ℕ) (left reach rows : ℤ) → w ≤ℤ q → pos 0 ≤ℤ row → w ≡ (row +ℤ pos d) +ℤ pos n → left ≡ (row +ℤ q) +ℤ rows → pos 0 ≤ℤ rows → reach ≤ℤ pos n → ((row +ℤ reach) ≤ℤ left) × (((row +ℤ pos d) +ℤ reach) ≤ℤ left)
      go row w q n d left reach rows one low bank at some wide = (omega (arith, ints, one, low, bank, at, some, wide), omega (arith, ints, one, low, bank, at, some, wide))

module _ (plan other : Organization) (kit : LayoutKit) (wire : Wire) (tracks many : Tracks) (f g : Floorplan) (m : IsDrawnMemory plan kit wire tracks f) (n : IsDrawnMemory other kit wire many g) (reach ex : ℤ) (b : ℕ) (here there : Zone) (rows columns end rows2 columns2 end2 : ℤ)
    (side : IsBankSide plan kit f reach b here rows columns end) (side2 : IsBankSide other kit g reach b there rows2 columns2 end2)
    (left : there.left ≡ here.left +ℤ ex) (right : there.right ≡ here.right +ℤ ex) where
  -- of the first bank, bars begin where joiners do; of a later one they begin far away
  bar_of : (x y : ℤ) → ((0 < b) → ((x +ℤ reach) ≤ℤ here.left) × ((y +ℤ reach) ≤ℤ there.left)) → IsAlikeLeft reach ex here.left there.left (bank_x f b x) (bank_x g b y) → IsAlikeLeft reach ex here.left there.left x y
  bar_of x y far joiner = elim (cases_lt 0 b) [
    | inl some ↦ inr (far some)
    | inr none ↦
        let zero_bank : b ≡ 0 = omega (arith, none) in
        let p : pos b *ℤ f.bank_width ≡ pos 0 = no_bank plan kit wire tracks f m b zero_bank in
        let q : pos b *ℤ g.bank_width ≡ pos 0 = no_bank other kit wire many g n b zero_bank in
        go (pos b *ℤ f.bank_width) (pos b *ℤ g.bank_width) p q joiner
  ] where
    go : (u v : ℤ) → u ≡ pos 0 → v ≡ pos 0 → IsAlikeLeft reach ex here.left there.left (x +ℤ u) (y +ℤ v) → IsAlikeLeft reach ex here.left there.left x y
    go u v p q (inl e) = inl (omega (arith, ints, p, q, e))
    go u v p q (inr (s, t)) = inr (omega (arith, ints, p, s), omega (arith, ints, q, t))

  pub bank_sides : AreGaps reach rows rows2 → AreGaps reach columns columns2 → AreGaps reach end end2 → AreBankSides plan other kit f g reach ex b here there
  bank_sides gap_rows gap_columns gap_end =
      let joiner_rows = gap_left reach ex here.left there.left (bank_x f b f.row_x) (bank_x g b g.row_x) rows rows2 side.from_rows side2.from_rows left gap_rows in
      let joiner_columns = gap_left reach ex here.left there.left (bank_x f b (columns_x plan kit f)) (bank_x g b (columns_x other kit g)) columns columns2 side.from_columns side2.from_columns left gap_columns in
      let far : (0 < b) → (((f.row_x +ℤ reach) ≤ℤ here.left) × ((columns_x plan kit f +ℤ reach) ≤ℤ here.left)) × (((g.row_x +ℤ reach) ≤ℤ there.left) × ((columns_x other kit g +ℤ reach) ≤ℤ there.left)) =
      λ some. (later plan kit wire tracks f m reach b here rows columns end some side, later other kit wire many g n reach b there rows2 columns2 end2 some side2) in
      record {
        bar_rows = bar_of f.row_x g.row_x (λ some. ((far some).0.0, (far some).1.0)) joiner_rows;
        bar_columns = bar_of (columns_x plan kit f) (columns_x other kit g) (λ some. ((far some).0.1, (far some).1.1)) joiner_columns;
        joiner_rows = joiner_rows;
        joiner_columns = joiner_columns;
        joiner_end = gap_right reach ex here.right there.right (bank_x f b (columns_end plan kit f)) (bank_x g b (columns_end other kit g)) end end2 side.to_end side2.to_end right gap_end;
      }

-- Gaps of columns and of slices: of so many that are so wide

pub first_gaps : (reach : ℤ) (c d u e e2 : ℕ) → reach ≤ℤ pos u → e ≡ e2 → ((c ≡ 0 → d ≡ 0) × (d ≡ 0 → c ≡ 0)) → AreGaps reach (pos e +ℤ pos (c * u)) (pos e2 +ℤ pos (d * u))
first_gaps reach c d u e e2 wide same edge = elim (cases_lt 0 c) [
  | inl some ↦
      let more : 0 < d = elim (cases_lt 0 d) [ inl lt ↦ lt | inr ge ↦ let z = edge.1 (omega (arith, ge)) in absurd (omega (arith, z, some)) ] in
      let a = all_of 0 c u some in
      let k = all_of 0 d u more in
      inr (far e (c * u) a, far e2 (d * u) k)
  | inr none ↦
      let z : c ≡ 0 = omega (arith, none) in
      inl (ap (λ (n : ℕ). pos e +ℤ pos (n * u)) z ∙ ap (λ (k : ℕ). pos k +ℤ pos (0 * u)) same ∙ ap (λ (n : ℕ). pos e2 +ℤ pos (n * u)) (sym (edge.0 z)))
] where
  far : (e k : ℕ) → 0 * u + u ≤ k → reach ≤ℤ (pos e +ℤ pos k)
  far e k le = omega (arith, ints, le, wide)

-- how far the last ends behind one
unfoldable pub last_gap : ℕ → ℕ → ℕ → ℤ
last_gap c n u = pos (n * u) -ℤ pos (c * u + u)

pub last_gaps : (reach : ℤ) (c n d k u : ℕ) → reach ≤ℤ pos u → AreAtOneEdge n c k d → AreGaps reach (last_gap c n u) (last_gap d k u)
unfolding last_gap
last_gaps reach c n d k u wide edge = elim (cases_eq (c + 1) n) [
  | inl last ↦ inl (at_end c n last ∙ sym (at_end d k (edge.last.0 last)))
  | inr differ ↦ inr (far c n (let h = edge.here in omega (arith, h, differ)), far d k (elim (cases_eq (d + 1) k) [ inl e ↦ absurd (differ (edge.last.1 e)) | inr other ↦ let h = edge.there in omega (arith, h, other) ]))
] where
  next : (c u : ℕ) → (c + 1) * u ≡ c * u + u
  next c u = grind arith

  at_end : (c n : ℕ) → c + 1 ≡ n → pos (n * u) -ℤ pos (c * u + u) ≡ pos 0
  at_end c n e = let h = ap (λ (k : ℕ). k * u) (sym e) ∙ next c u in omega (arith, ints, h)

  far : (c n : ℕ) → c + 1 < n → reach ≤ℤ (pos (n * u) -ℤ pos (c * u + u))
  far c n lt = let a = all_of (c + 1) n u lt in let h = next c u in omega (arith, ints, a, h, wide)
