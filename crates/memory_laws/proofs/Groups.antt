-- The groups that the column choice makes.
use Rattle.std.proofs.Common.{◌≡◌, ℕ, zero, suc, ◌+◌, ◌*◌, ◌/◌, ◌%◌, ◌<◌, ◌≤◌, Bool, true, false, List, [], ◌∷◌, refl, sym, ap, subst, ◌∙◌, arith, inl, inr, ◌⊎◌, eqb, eqb-true, eq-eqb}
use Rattle.std.proofs.lemmas.Nat.{div-add-mod', div_below}
use Rattle.std.proofs.Math.Nat.{mul-le-mul_right}
use Rattle.sram_netlist.specs.Nets.{Net, Line, Bl, Br, Lo, Ro}
use Rattle.sram_netlist.specs.Instances.{LeafInstance, MuxAt}
use Rattle.sram_netlist.specs.Organization.{power_of_two, Organization}
use Rattle.sram_netlist.specs.Netlist.{lo_net, ro_net}
use Rattle.sram_netlist.specs.Membership.{HasLeafInstance, HasLeafNet}
use Rattle.memory_laws.specs.Phase.{State, JoinsNets, InGroup, AreJoinedThrough, IsPair, act_at}
use Rattle.memory_laws.proofs.Decode.{twice_some}
use Rattle.memory_laws.proofs.Direct.{joins, direct, writable}

-- the column's number is made of its slice and its choice
pub column_is : (m c k : ℕ) → c % power_of_two m ≡ k → c / power_of_two m * power_of_two m + k ≡ c
column_is m c k e = ap (λ (n : ℕ). c / power_of_two m * power_of_two m + n) (sym e) ∙ div-add-mod' c (power_of_two m)

pub column_fits : (m w j k : ℕ) → j < w → k < power_of_two m → j * power_of_two m + k < w * power_of_two m
column_fits m w j k a b = let h : suc j * power_of_two m ≤ w * power_of_two m = mul-le-mul_right (power_of_two m) a in let e : suc j * power_of_two m ≡ j * power_of_two m + power_of_two m = omega arith in omega arith

-- exactly the line k is on
abbrev pub IsChosen : ℕ → (Net → Bool) → ℕ → Type 0
IsChosen m v k = (j : ℕ) → j < power_of_two m → 0 < m → v (Line 0 m j) ≡ eqb j k

-- one column in a slice, or more
pub some_choice : (m : ℕ) → (m ≡ 0) ⊎ (0 < m)
some_choice zero = inl refl
some_choice (suc m) = inr (omega arith)

pub lo_some : (m bank i : ℕ) → 0 < m → lo_net m bank i ≡ Lo bank i
lo_some zero bank i h = absurd (omega arith)
lo_some (suc m) bank i h = refl

pub ro_some : (m bank i : ℕ) → 0 < m → ro_net m bank i ≡ Ro bank i
ro_some zero bank i h = absurd (omega arith)
ro_some (suc m) bank i h = refl

pub lo_none : (m bank i : ℕ) → m ≡ 0 → lo_net m bank i ≡ Bl bank i
lo_none m bank i e = λ j. lo_net (e j) bank i

pub ro_none : (m bank i : ℕ) → m ≡ 0 → ro_net m bank i ≡ Br bank i
ro_none m bank i e = λ j. ro_net (e j) bank i

pub slice_none : (m c : ℕ) → m ≡ 0 → c / power_of_two m ≡ c
slice_none m c e = let f : c / 1 ≡ c = omega arith in (λ j. c / power_of_two (e j)) ∙ f

abbrev pub AreEnds2 : Net → Net → Net → Net → Type 0
AreEnds2 a b x y = ((a ≡ x) × (b ≡ y)) ⊎ ((a ≡ y) × (b ≡ x))

-- the ends of a closed join
pub record Ends (p : Organization) (k : ℕ) (x y : Net) : Type 0 where
  pub bank : ℕ
  pub bank_fits : bank < power_of_two p.bank_bits
  pub c : ℕ
  pub fits : c < p.word_size * power_of_two p.col_bits
  pub some : 0 < p.col_bits
  pub chosen : c % power_of_two p.col_bits ≡ k
  pub ends : (((Bl bank c ≡ x) × (Lo bank (c / power_of_two p.col_bits) ≡ y)) ⊎ ((Bl bank c ≡ y) × (Lo bank (c / power_of_two p.col_bits) ≡ x))) ⊎ (((Br bank c ≡ x) × (Ro bank (c / power_of_two p.col_bits) ≡ y)) ⊎ ((Br bank c ≡ y) × (Ro bank (c / power_of_two p.col_bits) ≡ x)))

mod_below : (m c : ℕ) → c % power_of_two m < power_of_two m
mod_below m c = let h = twice_some m in omega arith

joins_ends : (p : Organization) (s : State) (v : Net → Bool) (k : ℕ) (x y : Net) → IsChosen p.col_bits v k → (leaf : LeafInstance) → HasLeafInstance (writable p) leaf
    → IsPair x y (joins p leaf) (act_at (direct p) s v leaf).joins → Ends p k x y
joins_ends p s v k x y is (MuxAt bank c) there (inl h) = record {
  bank = bank;
  bank_fits = there.0;
  c = c;
  fits = there.1.0;
  some = there.1.1;
  chosen = eqb-true _ _ (sym (is (c % power_of_two p.col_bits) (mod_below p.col_bits c) there.1.1) ∙ h.1);
  ends = inl (subst (λ (u : Net). AreEnds2 (Bl bank c) u x y) (lo_some p.col_bits bank (c / power_of_two p.col_bits) there.1.1) h.0);
}
joins_ends p s v k x y is (MuxAt bank c) there (inr (inl h)) = record {
  bank = bank;
  bank_fits = there.0;
  c = c;
  fits = there.1.0;
  some = there.1.1;
  chosen = eqb-true _ _ (sym (is (c % power_of_two p.col_bits) (mod_below p.col_bits c) there.1.1) ∙ h.1);
  ends = inr (subst (λ (u : Net). AreEnds2 (Br bank c) u x y) (ro_some p.col_bits bank (c / power_of_two p.col_bits) there.1.1) h.0);
}
joins_ends p s v k x y is (MuxAt bank c) there (inr (inr h)) = absurd h
joins_ends p s v k x y is leaf there h = absurd h

pub ends_of : (p : Organization) (s : State) (v : Net → Bool) (k : ℕ) (x y : Net) → IsChosen p.col_bits v k → JoinsNets (direct p) s v x y → Ends p k x y
ends_of p s v k x y is j = joins_ends p s v k x y is j.leaf j.there j.pair

-- what closed joins keep is the same in a group
pub carried : (p : Organization) (s : State) (v : Net → Bool) (k : ℕ) (P : Net → Type 0) → IsChosen p.col_bits v k → ((x y : Net) → Ends p k x y → P x → P y)
    → (x y : Net) → InGroup (direct p) s v x y → P x → P y
carried p s v k P is step x y g h = by_nets g.through x g.linked h
  where
    by_nets : (zs : List Net) (x : Net) → AreJoinedThrough (direct p) s v x zs y → P x → P y
    by_nets [] x e h = subst P e h
    by_nets (z ∷ zs) x e h = by_nets zs z e.1 (step x z (ends_of p s v k x z is e.0) h)

pub self : (p : Organization) (s : State) (v : Net → Bool) (x : Net) → InGroup (direct p) s v x x
self p s v x = record { through = []; linked = refl }

-- groups are followed
pub follow : (p : Organization) (s : State) (v : Net → Bool) (x y z : Net) → InGroup (direct p) s v x y → InGroup (direct p) s v y z → InGroup (direct p) s v x z
follow p s v x y z g h = by_nets g.through x g.linked
  where
    by_nets : (zs : List Net) (x : Net) → AreJoinedThrough (direct p) s v x zs y → InGroup (direct p) s v x z
    by_nets [] x e = subst (λ (u : Net). InGroup (direct p) s v u z) (sym e) h
    by_nets (u ∷ us) x e = let r = by_nets us u e.1 in record { through = u ∷ r.through; linked = (e.0, r.linked) }

-- a chosen column has its slice's lines in its group
pub to_lo : (p : Organization) (s : State) (v : Net → Bool) (k bank c : ℕ) → IsChosen p.col_bits v k → bank < power_of_two p.bank_bits → c < p.word_size * power_of_two p.col_bits → c % power_of_two p.col_bits ≡ k
    → InGroup (direct p) s v (Bl bank c) (lo_net p.col_bits bank (c / power_of_two p.col_bits)) × InGroup (direct p) s v (lo_net p.col_bits bank (c / power_of_two p.col_bits)) (Bl bank c)
to_lo p s v k bank c is bank_fits fits e = by_choice (some_choice p.col_bits)
  where
    by_choice : (p.col_bits ≡ 0) ⊎ (0 < p.col_bits) → InGroup (direct p) s v (Bl bank c) (lo_net p.col_bits bank (c / power_of_two p.col_bits)) × InGroup (direct p) s v (lo_net p.col_bits bank (c / power_of_two p.col_bits)) (Bl bank c)
    by_choice (inl none) =
        let f = lo_none p.col_bits bank (c / power_of_two p.col_bits) none ∙ ap (Bl bank) (slice_none p.col_bits c none) in
        (record { through = []; linked = sym f }, record { through = []; linked = f })
    by_choice (inr some) =
        let f = lo_some p.col_bits bank (c / power_of_two p.col_bits) some in
        let on = is (c % power_of_two p.col_bits) (mod_below p.col_bits c) some ∙ eq-eqb _ _ e in (
          record { through = Lo bank (c / power_of_two p.col_bits) ∷ []; linked = (record { leaf = MuxAt bank c; there = (bank_fits, (fits, some)); pair = inl (inl (refl, f), on) }, sym f) },
          record { through = Bl bank c ∷ []; linked = (record { leaf = MuxAt bank c; there = (bank_fits, (fits, some)); pair = inl (inr (refl, refl), on) }, refl) },
        )

pub to_ro : (p : Organization) (s : State) (v : Net → Bool) (k bank c : ℕ) → IsChosen p.col_bits v k → bank < power_of_two p.bank_bits → c < p.word_size * power_of_two p.col_bits → c % power_of_two p.col_bits ≡ k
    → InGroup (direct p) s v (Br bank c) (ro_net p.col_bits bank (c / power_of_two p.col_bits)) × InGroup (direct p) s v (ro_net p.col_bits bank (c / power_of_two p.col_bits)) (Br bank c)
to_ro p s v k bank c is bank_fits fits e = by_choice (some_choice p.col_bits)
  where
    by_choice : (p.col_bits ≡ 0) ⊎ (0 < p.col_bits) → InGroup (direct p) s v (Br bank c) (ro_net p.col_bits bank (c / power_of_two p.col_bits)) × InGroup (direct p) s v (ro_net p.col_bits bank (c / power_of_two p.col_bits)) (Br bank c)
    by_choice (inl none) =
        let f = ro_none p.col_bits bank (c / power_of_two p.col_bits) none ∙ ap (Br bank) (slice_none p.col_bits c none) in
        (record { through = []; linked = sym f }, record { through = []; linked = f })
    by_choice (inr some) =
        let f = ro_some p.col_bits bank (c / power_of_two p.col_bits) some in
        let on = is (c % power_of_two p.col_bits) (mod_below p.col_bits c) some ∙ eq-eqb _ _ e in (
          record { through = Ro bank (c / power_of_two p.col_bits) ∷ []; linked = (record { leaf = MuxAt bank c; there = (bank_fits, (fits, some)); pair = inr (inl (inl (refl, f), on)) }, sym f) },
          record { through = Br bank c ∷ []; linked = (record { leaf = MuxAt bank c; there = (bank_fits, (fits, some)); pair = inr (inl (inr (refl, refl), on)) }, refl) },
        )

-- the group of a bit line
abbrev pub InLeft : ℕ → ℕ → ℕ → ℕ → Net → Type 0
InLeft m k bank c z = (Bl bank c ≡ z) ⊎ ((0 < m) × (c % power_of_two m ≡ k) × (Lo bank (c / power_of_two m) ≡ z))

abbrev pub InRight : ℕ → ℕ → ℕ → ℕ → Net → Type 0
InRight m k bank c z = (Br bank c ≡ z) ⊎ ((0 < m) × (c % power_of_two m ≡ k) × (Ro bank (c / power_of_two m) ≡ z))

one_column : (m k c d : ℕ) → c % power_of_two m ≡ k → d % power_of_two m ≡ k → c / power_of_two m ≡ d / power_of_two m → c ≡ d
one_column m k c d e f g = sym (column_is m c k e) ∙ ap (λ (n : ℕ). n * power_of_two m + k) g ∙ column_is m d k f

pub left_step : (p : Organization) (k bank c : ℕ) (x y : Net) → Ends p k x y → InLeft p.col_bits k bank c x → InLeft p.col_bits k bank c y
left_step p k bank c x y h g = by_ends h.ends g
  where
    by_ends : (((Bl h.bank h.c ≡ x) × (Lo h.bank (h.c / power_of_two p.col_bits) ≡ y)) ⊎ ((Bl h.bank h.c ≡ y) × (Lo h.bank (h.c / power_of_two p.col_bits) ≡ x))) ⊎ (((Br h.bank h.c ≡ x) × (Ro h.bank (h.c / power_of_two p.col_bits) ≡ y)) ⊎ ((Br h.bank h.c ≡ y) × (Ro h.bank (h.c / power_of_two p.col_bits) ≡ x)))
        → InLeft p.col_bits k bank c x → InLeft p.col_bits k bank c y
    by_ends (inl (inl e)) (inl g) = let f = e.0 in let one : h.bank ≡ bank = cc in let same : h.c ≡ c = cc in inr (h.some, ap (λ (n : ℕ). n % power_of_two p.col_bits) (sym same) ∙ h.chosen, (λ j. Lo (sym one j) (sym same j / power_of_two p.col_bits)) ∙ e.1)
    by_ends (inl (inl e)) (inr g) = absurd (let f = e.0 in let u = g.2 in cc)
    by_ends (inl (inr e)) (inl g) = absurd (let f = e.1 in cc)
    by_ends (inl (inr e)) (inr g) =
        let f = e.1 in let u = g.2 in let one : bank ≡ h.bank = cc in let same_slice : c / power_of_two p.col_bits ≡ h.c / power_of_two p.col_bits = cc in inl ((λ j. Bl (one j) (one_column p.col_bits k c h.c g.1 h.chosen same_slice j)) ∙ e.0)
    by_ends (inr (inl e)) (inl g) = absurd (let f = e.0 in cc)
    by_ends (inr (inl e)) (inr g) = absurd (let f = e.0 in let u = g.2 in cc)
    by_ends (inr (inr e)) (inl g) = absurd (let f = e.1 in cc)
    by_ends (inr (inr e)) (inr g) = absurd (let f = e.1 in let u = g.2 in cc)

pub right_step : (p : Organization) (k bank c : ℕ) (x y : Net) → Ends p k x y → InRight p.col_bits k bank c x → InRight p.col_bits k bank c y
right_step p k bank c x y h g = by_ends h.ends g
  where
    by_ends : (((Bl h.bank h.c ≡ x) × (Lo h.bank (h.c / power_of_two p.col_bits) ≡ y)) ⊎ ((Bl h.bank h.c ≡ y) × (Lo h.bank (h.c / power_of_two p.col_bits) ≡ x))) ⊎ (((Br h.bank h.c ≡ x) × (Ro h.bank (h.c / power_of_two p.col_bits) ≡ y)) ⊎ ((Br h.bank h.c ≡ y) × (Ro h.bank (h.c / power_of_two p.col_bits) ≡ x)))
        → InRight p.col_bits k bank c x → InRight p.col_bits k bank c y
    by_ends (inr (inl e)) (inl g) = let f = e.0 in let one : h.bank ≡ bank = cc in let same : h.c ≡ c = cc in inr (h.some, ap (λ (n : ℕ). n % power_of_two p.col_bits) (sym same) ∙ h.chosen, (λ j. Ro (sym one j) (sym same j / power_of_two p.col_bits)) ∙ e.1)
    by_ends (inr (inl e)) (inr g) = absurd (let f = e.0 in let u = g.2 in cc)
    by_ends (inr (inr e)) (inl g) = absurd (let f = e.1 in cc)
    by_ends (inr (inr e)) (inr g) =
        let f = e.1 in let u = g.2 in let one : bank ≡ h.bank = cc in let same_slice : c / power_of_two p.col_bits ≡ h.c / power_of_two p.col_bits = cc in inl ((λ j. Br (one j) (one_column p.col_bits k c h.c g.1 h.chosen same_slice j)) ∙ e.0)
    by_ends (inl (inl e)) (inl g) = absurd (let f = e.0 in cc)
    by_ends (inl (inl e)) (inr g) = absurd (let f = e.0 in let u = g.2 in cc)
    by_ends (inl (inr e)) (inl g) = absurd (let f = e.1 in cc)
    by_ends (inl (inr e)) (inr g) = absurd (let f = e.1 in let u = g.2 in cc)

-- a net that no multiplexer is on is alone
abbrev pub is_line : Net → Bool
is_line (Bl bank c) = true
is_line (Br bank c) = true
is_line (Lo bank c) = true
is_line (Ro bank c) = true
is_line x = false

pub alone_step : (p : Organization) (k : ℕ) (x y z : Net) → is_line z ≡ false → Ends p k x y → z ≡ x → z ≡ y
alone_step p k x y z t h g = absurd (by_ends h.ends)
  where
    off_line : (u : Net) → is_line u ≡ true → u ≡ x → ⊥
    off_line u e f = let q : is_line u ≡ is_line z = ap is_line (f ∙ sym g) in cc

    by_ends : (((Bl h.bank h.c ≡ x) × (Lo h.bank (h.c / power_of_two p.col_bits) ≡ y)) ⊎ ((Bl h.bank h.c ≡ y) × (Lo h.bank (h.c / power_of_two p.col_bits) ≡ x))) ⊎ (((Br h.bank h.c ≡ x) × (Ro h.bank (h.c / power_of_two p.col_bits) ≡ y)) ⊎ ((Br h.bank h.c ≡ y) × (Ro h.bank (h.c / power_of_two p.col_bits) ≡ x))) → ⊥
    by_ends (inl (inl e)) = off_line (Bl h.bank h.c) refl e.0
    by_ends (inl (inr e)) = off_line (Lo h.bank (h.c / power_of_two p.col_bits)) refl e.1
    by_ends (inr (inl e)) = off_line (Br h.bank h.c) refl e.0
    by_ends (inr (inr e)) = off_line (Ro h.bank (h.c / power_of_two p.col_bits)) refl e.1

-- the nets of a group are the plan's
pub net_step : (p : Organization) (k : ℕ) (x y : Net) → Ends p k x y → HasLeafNet (writable p) x → HasLeafNet (writable p) y
net_step p k x y h g = by_ends h.ends
  where
    slice : h.c / power_of_two p.col_bits < p.word_size
    slice = div_below h.c (power_of_two p.col_bits) p.word_size (twice_some p.col_bits) h.fits

    by_ends : (((Bl h.bank h.c ≡ x) × (Lo h.bank (h.c / power_of_two p.col_bits) ≡ y)) ⊎ ((Bl h.bank h.c ≡ y) × (Lo h.bank (h.c / power_of_two p.col_bits) ≡ x))) ⊎ (((Br h.bank h.c ≡ x) × (Ro h.bank (h.c / power_of_two p.col_bits) ≡ y)) ⊎ ((Br h.bank h.c ≡ y) × (Ro h.bank (h.c / power_of_two p.col_bits) ≡ x))) → HasLeafNet (writable p) y
    by_ends (inl (inl e)) = subst (HasLeafNet (writable p)) e.1 (h.bank_fits, (slice, h.some))
    by_ends (inl (inr e)) = subst (HasLeafNet (writable p)) e.0 (h.bank_fits, h.fits)
    by_ends (inr (inl e)) = subst (HasLeafNet (writable p)) e.1 (h.bank_fits, (slice, h.some))
    by_ends (inr (inr e)) = subst (HasLeafNet (writable p)) e.0 (h.bank_fits, h.fits)
