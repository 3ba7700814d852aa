-- The nearest of some counts of words in a row, and of one count more.
use Rattle.std.proofs.Common.{◌≡◌, ◌⊎◌, inl, inr, ℕ, zero, suc, ◌<◌, ◌≤◌, List, [], ◌∷◌, ◌++◌, Option, Some, None, refl, sym, subst, arith}
use Rattle.sram_netlist.specs.Membership.{IsOneOf}
use Rattle.sram_plan.specs.declared.config.Config.{Config}
use Rattle.sram_plan.specs.Plan.{FitsBank, distance, IsNoFarther, IsNearest, NearestAmong, AreSmaller}

in_longer : {A : Type 0} (x : A) (xs : List A) (y : A) → IsOneOf x (xs ++ y ∷ []) → IsOneOf x xs ⊎ (y ≡ x)
in_longer x [] y (inl e) = inr e
in_longer x [] y (inr h) = absurd h
in_longer x (z ∷ zs) y (inl e) = inl (inl e)
in_longer x (z ∷ zs) y (inr h) = elim (in_longer x zs y h) [ inl k ↦ inl (inr k) | inr e ↦ inr e ]

in_front : {A : Type 0} (x : A) (xs : List A) (y : A) → IsOneOf x xs → IsOneOf x (xs ++ y ∷ [])
in_front x [] y h = absurd h
in_front x (z ∷ zs) y (inl e) = inl e
in_front x (z ∷ zs) y (inr h) = inr (in_front x zs y h)

at_end : {A : Type 0} (xs : List A) (y : A) → IsOneOf y (xs ++ y ∷ [])
at_end [] y = inl refl
at_end (z ∷ zs) y = inr (at_end zs y)

split : (a b : ℕ) → a ≤ b → (a < b) ⊎ (a ≡ b)
split zero zero h = inr refl
split zero (suc b) h = inl (omega arith)
split (suc a) zero h = absurd (omega arith)
split (suc a) (suc b) h = elim (split a b (omega arith)) [ inl k ↦ inl (omega arith) | inr e ↦ inr (omega arith) ]

closer : (a b d x y z : ℕ) → a < b → (b < d) ⊎ ((b ≡ d) × (y ≤ z)) → (a < d) ⊎ ((a ≡ d) × (x ≤ z))
closer a b d x y z h (inl k) = inl (omega arith)
closer a b d x y z h (inr k) = let e = k.0 in inl (omega arith)

as_close : (a b x y : ℕ) → a ≤ b → x ≤ y → (a < b) ⊎ ((a ≡ b) × (x ≤ y))
as_close a b x y h k = elim (split a b h) [ inl l ↦ inl l | inr e ↦ inr (e, k) ]

itself : (config : Config) (wpr other : ℕ) → wpr ≡ other → IsNoFarther config wpr other
itself config wpr other e = subst (λ (o : ℕ). IsNoFarther config wpr o) e (inr (refl, omega arith))

-- a count that doesn't fit changes nothing
pub passed_over : (config : Config) (ws : List ℕ) (wpr : ℕ) (found : Option ℕ) → (FitsBank config wpr → ⊥) → NearestAmong config ws found → NearestAmong config (ws ++ wpr ∷ []) found
passed_over config ws wpr None misfit none = λ w among fits. elim (in_longer w ws wpr among) [ inl k ↦ none w k fits | inr e ↦ misfit (subst (FitsBank config) (sym e) fits) ]
passed_over config ws wpr (Some b) misfit n = record {
  among = in_front b ws wpr n.among;
  fits = n.fits;
  nearest = λ other among fits. elim (in_longer other ws wpr among) [ inl k ↦ n.nearest other k fits | inr e ↦ absurd (misfit (subst (FitsBank config) (sym e) fits)) ];
}

-- the first count that fits
pub taken_first : (config : Config) (ws : List ℕ) (wpr : ℕ) (found : Option ℕ) → found ≡ None → FitsBank config wpr → NearestAmong config ws found → IsNearest config (ws ++ wpr ∷ []) wpr
taken_first config ws wpr None is fits none = record {
  among = at_end ws wpr;
  fits = fits;
  nearest = λ other among there. elim (in_longer other ws wpr among) [ inl k ↦ absurd (none other k there) | inr e ↦ itself config wpr other e ];
}
taken_first config ws wpr (Some b) is fits none = absurd cc

-- a count that is nearer
pub taken : (config : Config) (ws : List ℕ) (wpr old : ℕ) (found : Option ℕ) → found ≡ Some old → FitsBank config wpr → distance config wpr < distance config old → NearestAmong config ws found → IsNearest config (ws ++ wpr ∷ []) wpr
taken config ws wpr old None is fits near n = absurd cc
taken config ws wpr old (Some b) is fits near n =
    let same : b ≡ old = cc in
    let nearer : distance config wpr < distance config b = subst (λ (o : ℕ). distance config wpr < distance config o) (sym same) near in
    record {
      among = at_end ws wpr;
      fits = fits;
      nearest = λ other among there. elim (in_longer other ws wpr among) [
        | inl k ↦ closer (distance config wpr) (distance config b) (distance config other) wpr b other nearer (n.nearest other k there)
        | inr e ↦ itself config wpr other e
      ];
    }

-- a count that isn't nearer, and is larger
pub kept_nearest : (config : Config) (ws : List ℕ) (wpr old : ℕ) (found : Option ℕ) → found ≡ Some old → AreSmaller ws wpr → distance config old ≤ distance config wpr → NearestAmong config ws found → IsNearest config (ws ++ wpr ∷ []) old
kept_nearest config ws wpr old None is below near n = absurd cc
kept_nearest config ws wpr old (Some b) is below near n =
    let same : b ≡ old = cc in
    let as_near : distance config b ≤ distance config wpr = subst (λ (o : ℕ). distance config o ≤ distance config wpr) (sym same) near in
    let under = below b n.among in
    subst (IsNearest config (ws ++ wpr ∷ [])) same (record {
      among = in_front b ws wpr n.among;
      fits = n.fits;
      nearest = λ other among there. elim (in_longer other ws wpr among) [
        | inl k ↦ n.nearest other k there
        | inr e ↦ subst (λ (o : ℕ). IsNoFarther config b o) e (as_close (distance config b) (distance config wpr) b wpr as_near (omega arith))
      ];
    })

pub below_first : (b : ℕ) → AreSmaller [] b
below_first b w h = absurd h

pub below_more : (xs : List ℕ) (x b : ℕ) → x < b → AreSmaller xs b → AreSmaller (x ∷ xs) b
below_more xs x b h more w (inl e) = omega (arith, e)
below_more xs x b h more w (inr k) = more w k
