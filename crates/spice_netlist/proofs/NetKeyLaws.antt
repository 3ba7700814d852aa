-- A key is cut at its first A in one way only.
use Rattle.std.proofs.Common.{◌≡◌, ℕ, List, [], ◌∷◌, ◌++◌, map, refl, sym, ap, ◌∙◌, arith}
use Rattle.std.specs.Char.{to_ascii_lowercase}
use Rattle.std.proofs.lemmas.Bool.Decides.{nat_tests}
use Rattle.spice_text.specs.Words.{lower}
use Rattle.spice_netlist.specs.Walk.{FlatNet, local}
use Rattle.spice_netlist.specs.NetKeys.{path_key, net_key, lowered_net, NetKeysAreFaithful}

lower_65 : (c : ℕ) → to_ascii_lowercase c ≡ 65 → ⊥
lower_65 c e = grind (arith, nat_tests)

-- two front parts without an A, each with an A and more behind it
record AreCutAlike (a b x y : List ℕ) : Type 0 where
  pub front : a ≡ b
  pub rest : x ≡ y

cut : (a b x y : List ℕ) → lower a ++ 65 ∷ x ≡ lower b ++ 65 ∷ y → AreCutAlike (lower a) (lower b) x y
cut [] [] x y e = record { front = refl; rest = cc }
cut [] (d ∷ b) x y e = let bad : to_ascii_lowercase d ≡ 65 = cc in absurd (lower_65 d bad)
cut (c ∷ a) [] x y e = let bad : to_ascii_lowercase c ≡ 65 = cc in absurd (lower_65 c bad)
cut (c ∷ a) (d ∷ b) x y e =
    let first : to_ascii_lowercase c ≡ to_ascii_lowercase d = cc in
    let rest : lower a ++ 65 ∷ x ≡ lower b ++ 65 ∷ y = cc in
    let more = cut a b x y rest in
    record { front = ap (λ (n : ℕ). n ∷ lower a) first ∙ ap (λ (l : List ℕ). to_ascii_lowercase d ∷ l) more.front; rest = more.rest }

uncut : (a b x : List ℕ) → lower a ≡ lower b ++ 65 ∷ x → ⊥
uncut [] [] x e = absurd cc
uncut [] (d ∷ b) x e = absurd cc
uncut (c ∷ a) [] x e = let bad : to_ascii_lowercase c ≡ 65 = cc in lower_65 c bad
uncut (c ∷ a) (d ∷ b) x e = let rest : lower a ≡ lower b ++ 65 ∷ x = cc in uncut a b x rest

one_net : (path path' : List (List ℕ)) (name name' : List ℕ) → path_key (map lower path) (lower name) ≡ path_key (map lower path') (lower name')
    → lowered_net (record { path = path; name = name }) ≡ lowered_net (record { path = path'; name = name' })
one_net [] [] name name' e = ap local e
one_net [] (j ∷ path') name name' e = absurd (uncut name j (path_key (map lower path') (lower name')) e)
one_net (i ∷ path) [] name name' e = absurd (uncut name' i (path_key (map lower path) (lower name)) (sym e))
one_net (i ∷ path) (j ∷ path') name name' e =
    let c = cut i j (path_key (map lower path) (lower name)) (path_key (map lower path') (lower name')) e in
    let rest = one_net path path' name name' c.rest in
    λ k. record { path = c.front k ∷ (rest k).path; name = (rest k).name }

pub keys_are_faithful : NetKeysAreFaithful
keys_are_faithful a b e = one_net a.path b.path a.name b.name e

-- nets whose names are in lower case
pub record IsLowNet (n : FlatNet) : Type 0 where
  pub path : map lower n.path ≡ n.path
  pub name : lower n.name ≡ n.name

low_net : (n : FlatNet) → IsLowNet n → lowered_net n ≡ n
low_net n low = λ i. record { path = low.path i; name = low.name i }

pub one_low_net : (a b : FlatNet) → IsLowNet a → IsLowNet b → net_key a ≡ net_key b → a ≡ b
one_low_net a b low_a low_b e =
    let is_a = low_net a low_a in
    let is_b = low_net b low_b in
    sym is_a ∙ keys_are_faithful a b (ap net_key is_a ∙ e ∙ sym (ap net_key is_b)) ∙ is_b
