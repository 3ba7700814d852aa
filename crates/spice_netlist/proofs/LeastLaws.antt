-- The least of names, one more.
use Rattle.std.proofs.Common.{◌≡◌, ◌⊎◌, inl, inr, ℕ, ◌+◌, ◌<◌, List, Bool, true, false, cond, Option, None, Some, refl, sym, ap, subst, ◌∙◌, arith}
use Rattle.std.proofs.lemmas.Bool.{cases_lt}
use Rattle.std.specs.Ordering.{is_gt, ordering_reverse}
use Rattle.std.proofs.lemmas.Cmp.{nat_list_cmp_total}
use Rattle.std.specs.declared.cmp.Ordering.{Ordering}
use Rattle.std.specs.declared.cmp.Ordering.TheVariants.{Less, Equal, Greater}
use Rattle.or_geom.specs.Least.{IsLeast, name_order}
use Rattle.spice_netlist.specs.Least.{IsLeastOf, lesser_of}

-- a is at most b, and b at most c
after : (a b c : List ℕ) (o p : Ordering) → name_order a b ≡ o → name_order b c ≡ p → (o ≡ Greater → ⊥) → (p ≡ Greater → ⊥) → name_order a c ≡ Greater → ⊥
after a b c Greater p ab bc no_first no_second h = no_first refl
after a b c Equal p ab bc no_first no_second h = no_second (sym bc ∙ sym (nat_list_cmp_total.congr a b c ab) ∙ h)
after a b c Less Greater ab bc no_first no_second h = no_second refl
after a b c Less Less ab bc no_first no_second h = let less : name_order a c ≡ Less = nat_list_cmp_total.trans a b c ab bc in absurd cc
after a b c Less Equal ab bc no_first no_second h =
    let ba : name_order b a ≡ Greater = nat_list_cmp_total.antisymm b a ∙ ap ordering_reverse ab in
    let cb : name_order b a ≡ name_order c a = nat_list_cmp_total.congr b c a bc in
    let ca : name_order c a ≡ Less = nat_list_cmp_total.antisymm c a ∙ ap ordering_reverse h in
    absurd cc

not_after : (o : Ordering) → is_gt o ≡ false → o ≡ Greater → ⊥
not_after Less h e = absurd cc
not_after Equal h e = absurd cc
not_after Greater h e = absurd cc

is_before : (a b : List ℕ) (o : Ordering) → name_order a b ≡ o → is_gt o ≡ true → name_order b a ≡ Greater → ⊥
is_before a b Less e h back = absurd cc
is_before a b Equal e h back = absurd cc
is_before a b Greater e h back =
    let less : name_order b a ≡ Less = nat_list_cmp_total.antisymm b a ∙ ap ordering_reverse e in
    absurd cc

pub self_least : (a b : List ℕ) → a ≡ b → name_order a b ≡ Greater → ⊥
self_least a b e h =
    let same : name_order a a ≡ Greater = subst (λ (x : List ℕ). name_order a x ≡ Greater) (sym e) h in
    let back : name_order a a ≡ Less = nat_list_cmp_total.antisymm a a ∙ ap ordering_reverse same in
    absurd cc

module _ (P Q : List ℕ → Type 0) (name : List ℕ) (q : Q name) (low : (other : List ℕ) → Q other → name_order name other ≡ Greater → ⊥) where
  better : (best : List ℕ) (b : Bool) → is_gt (name_order best name) ≡ b → IsLeast P best → IsLeast (λ n. P n ⊎ Q n) (cond b name best)
  better best true is l = record {
    has = inr q;
    least = λ other h. elim h [
      | inl p ↦ after name best other (name_order name best) (name_order best other) refl refl (is_before best name (name_order best name) refl is) (l.least other p)
      | inr k ↦ low other k
    ];
  }
  better best false is l = record {
    has = inl l.has;
    least = λ other h. elim h [
      | inl p ↦ l.least other p
      | inr k ↦ after best name other (name_order best name) (name_order name other) refl refl (not_after (name_order best name) is) (low other k)
    ];
  }

  -- with the least of Q beside the best of P
  pub least_more : (found : Option (List ℕ)) → IsLeastOf P found → IsLeast (λ n. P n ⊎ Q n) (lesser_of found name)
  least_more None none = record { has = inr q; least = λ other h. elim h [ inl p ↦ absurd (none other p) | inr k ↦ low other k ] }
  least_more (Some best) l = better best (is_gt (name_order best name)) refl l

-- the same of what says as much
least_as : (P R : List ℕ → Type 0) → ((n : List ℕ) → P n → R n) → ((n : List ℕ) → R n → P n) → (name : List ℕ) → IsLeast P name → IsLeast R name
least_as P R to from name l = record { has = to name l.has; least = λ other r. l.least other (from other r) }

pub least_of_as : (P R : List ℕ → Type 0) → ((n : List ℕ) → P n → R n) → ((n : List ℕ) → R n → P n) → (found : Option (List ℕ)) → IsLeastOf P found → IsLeastOf R found
least_of_as P R to from None none = λ name r. none name (from name r)
least_of_as P R to from (Some name) l = least_as P R to from name l

-- one name beside the best of P
pub least_with : (P R : List ℕ → Type 0) (found : Option (List ℕ)) (name : List ℕ) → IsLeastOf P found → ((n : List ℕ) → P n → R n) → R name → ((n : List ℕ) → R n → P n ⊎ (n ≡ name)) → IsLeast R (lesser_of found name)
least_with P R found name best to own from =
    least_as (λ n. P n ⊎ (n ≡ name)) R (λ n h. elim h [ inl p ↦ to n p | inr e ↦ subst R (sym e) own ]) from (lesser_of found name)
    (least_more P (λ n. n ≡ name) name refl (λ other e. self_least name other (sym e)) found best)

-- the least of Q beside the best of P
pub least_both : (P Q R : List ℕ → Type 0) (found : Option (List ℕ)) (name : List ℕ) → IsLeastOf P found → IsLeast Q name → ((n : List ℕ) → P n → R n) → ((n : List ℕ) → Q n → R n) → ((n : List ℕ) → R n → P n ⊎ Q n)
    → IsLeast R (lesser_of found name)
least_both P Q R found name best l to also from =
    least_as (λ n. P n ⊎ Q n) R (λ n h. elim h [ inl p ↦ to n p | inr q ↦ also n q ]) from (lesser_of found name)
    (least_more P Q name l.has l.least found best)

-- an index before this one has it
pub record IsBelow (Q : ℕ → List ℕ → Type 0) (end : ℕ) (name : List ℕ) : Type 0 where
  pub index : ℕ
  pub before : index < end
  pub has : Q index name

below_cases : (Q : ℕ → List ℕ → Type 0) (i : ℕ) (name : List ℕ) → IsBelow Q (i + 1) name → IsBelow Q i name ⊎ Q i name
below_cases Q i name b = elim (cases_lt b.index i) [
  | inl lt ↦ inl (record { index = b.index; before = lt; has = b.has })
  | inr ge ↦ let e : b.index ≡ i = omega (arith, b.before) in inr (subst (λ (k : ℕ). Q k name) e b.has)
]

below_old : (Q : ℕ → List ℕ → Type 0) (i : ℕ) (name : List ℕ) → IsBelow Q i name → IsBelow Q (i + 1) name
below_old Q i name b = record { index = b.index; before = omega (arith, b.before); has = b.has }

pub below_none : (Q : ℕ → List ℕ → Type 0) → IsLeastOf (IsBelow Q 0) None
below_none Q = λ name b. let lt = b.before in absurd (omega arith)

pub below_skip : (Q : ℕ → List ℕ → Type 0) (i : ℕ) (found : Option (List ℕ)) → ((name : List ℕ) → Q i name → ⊥) → IsLeastOf (IsBelow Q i) found → IsLeastOf (IsBelow Q (i + 1)) found
below_skip Q i found none = least_of_as (IsBelow Q i) (IsBelow Q (i + 1)) (below_old Q i) (λ name b. elim (below_cases Q i name b) [ inl old ↦ old | inr q ↦ absurd (none name q) ]) found

pub below_least : (Q : ℕ → List ℕ → Type 0) (i : ℕ) (found : Option (List ℕ)) (name : List ℕ) → IsLeast (Q i) name → IsLeastOf (IsBelow Q i) found → IsLeast (IsBelow Q (i + 1)) (lesser_of found name)
below_least Q i found name l best =
    least_both (IsBelow Q i) (Q i) (IsBelow Q (i + 1)) found name best l (below_old Q i) (λ n q. record { index = i; before = omega arith; has = q }) (below_cases Q i)
