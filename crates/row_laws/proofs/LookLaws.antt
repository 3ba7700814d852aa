-- What a port of an instance is joined with, by its name.
use Rattle.std.proofs.Common.{◌≡◌, ◌⊎◌, inl, inr, ℕ, ◌+◌, List, [], ◌∷◌, ◌++◌, length, map, Bool, true, false, cond, Some, refl, sym, ap, subst, ◌∙◌, append_assoc, arith}
use Rattle.std.specs.List.{flat_map, position_from, AllByRecursion}
use Rattle.std.specs.Cmp.Lexicographic.{same_text}
use Rattle.std.proofs.lemmas.List.{get_or_at, length-append}
use Rattle.spice_netlist.specs.declared.resolved.ResolvedInstance.{ResolvedInstance}
use Rattle.spice_netlist.specs.Names.{same_name}
use Rattle.spice_netlist.specs.Walk.{FlatNet, local, node_or, net_above}
use Rattle.or_geom.proofs.NamePlaceLaws.{same_self}

-- the node beside the first port of this name; `d` where there is none
abbrev pub look : FlatNet → List (List ℕ) → List (List ℕ) → List ℕ → FlatNet
look d [] us n = d
look d (p ∷ ps) [] n = d
look d (p ∷ ps) (u ∷ us) n = cond (same_name n p) (local u) (look d ps us n)

node_from : (d : FlatNet) (n : List ℕ) (before ports nodes : List (List ℕ)) → length ports ≡ length nodes → node_or d (before ++ nodes) (position_from (same_name n) (length before) ports) ≡ look d ports nodes n
node_from d n before [] nodes sized = refl
node_from d n before (p ∷ ps) [] sized = absurd (omega (arith, sized))
node_from d n before (p ∷ ps) (u ∷ us) sized = by (same_name n p)
    ((λ i. node_or d (sym (append_assoc before (u ∷ []) us) i) (position_from (same_name n) (further i) ps)) ∙ node_from d n (before ++ (u ∷ [])) ps us (omega (arith, sized)))
  where
    further : length before + 1 ≡ length (before ++ (u ∷ []))
    further = sym (length-append before (u ∷ []))

    by : (b : Bool) → node_or d (before ++ (u ∷ us)) (position_from (same_name n) (length before + 1) ps) ≡ look d ps us n
        → node_or d (before ++ (u ∷ us)) (cond b (Some (length before)) (position_from (same_name n) (length before + 1) ps)) ≡ cond b (local u) (look d ps us n)
    by true later = ap local (get_or_at before u us [] (length before) refl)
    by false later = later

pub node_is : (p : ResolvedInstance) (ports : List (List ℕ)) (n : List ℕ) → length ports ≡ length p.nodes → net_above p ports (local n) ≡ look (record { path = p.name ∷ []; name = n }) ports p.nodes n
node_is p ports n sized = node_from (record { path = p.name ∷ []; name = n }) n [] ports p.nodes sized

-- the name stands in the list
abbrev pub IsOneOf : {X : Type 0} → X → List X → Type 0
IsOneOf x [] = ⊥
IsOneOf x (y ∷ ys) = (x ≡ y) ⊎ IsOneOf x ys

-- the name is none of the list
abbrev pub AreOther : List ℕ → List (List ℕ) → Type 0
AreOther n ps = AllByRecursion (λ p. same_name n p ≡ false) ps

pub look_none : (d : FlatNet) (n : List ℕ) (ps us : List (List ℕ)) → AreOther n ps → look d ps us n ≡ d
look_none d n [] us other = refl
look_none d n (p ∷ ps) [] other = refl
look_none d n (p ∷ ps) (u ∷ us) other = ap (λ (b : Bool). cond b (local u) (look d ps us n)) other.0 ∙ look_none d n ps us other.1

-- ports passed by name
pub look_name : (d : FlatNet) (n : List ℕ) (ps : List (List ℕ)) → IsOneOf n ps → look d ps ps n ≡ local n
look_name d n [] is = absurd is
look_name d n (p ∷ ps) (inl e) = ap (λ (b : Bool). cond b (local p) (look d ps ps n)) (ap (same_name n) (sym e) ∙ same_self n) ∙ ap local (sym e)
look_name d n (p ∷ ps) (inr is) = by (same_name n p) refl (look_name d n ps is)
  where
    by : (b : Bool) → same_name n p ≡ b → look d ps ps n ≡ local n → cond b (local p) (look d ps ps n) ≡ local n
    by true e later = ap local (sym (same_text n p (sym e)))
    by false e later = later

-- lists of ports one after another
pub look_append : (d : FlatNet) (n : List ℕ) (ps qs us vs : List (List ℕ)) → length ps ≡ length us → look d (ps ++ qs) (us ++ vs) n ≡ look (look d qs vs n) ps us n
look_append d n [] qs [] vs sized = refl
look_append d n [] qs (u ∷ us) vs sized = absurd (omega (arith, sized))
look_append d n (p ∷ ps) qs [] vs sized = absurd (omega (arith, sized))
look_append d n (p ∷ ps) qs (u ∷ us) vs sized = ap (λ (o : FlatNet). cond (same_name n p) (local u) o) (look_append d n ps qs us vs (omega (arith, sized)))

pub look_past : (d : FlatNet) (n : List ℕ) (ps qs us vs : List (List ℕ)) → length ps ≡ length us → AreOther n ps → look d (ps ++ qs) (us ++ vs) n ≡ look d qs vs n
look_past d n ps qs us vs sized other = look_append d n ps qs us vs sized ∙ look_none (look d qs vs n) n ps us other

-- where a port's node is a function of its name
pub look_map : {K : Type 0} (d : FlatNet) (n : List ℕ) (f g : K → List ℕ) (ks : List K) (k : K) → IsOneOf k ks → n ≡ f k → AllByRecursion (λ j. f j ≡ n → g j ≡ g k) ks → look d (map f ks) (map g ks) n ≡ local (g k)
look_map d n f g [] k is e one = absurd is
look_map {K} d n f g (j ∷ js) k (inl at) e one = ap (λ (b : Bool). cond b (local (g j)) (look d (map f js) (map g js) n)) (ap (same_name n) (ap f (sym at) ∙ sym e) ∙ same_self n) ∙ ap (λ (i : K). local (g i)) (sym at)
look_map d n f g (j ∷ js) k (inr is) e one = by (same_name n (f j)) refl (look_map d n f g js k is e one.1)
  where
    by : (b : Bool) → same_name n (f j) ≡ b → look d (map f js) (map g js) n ≡ local (g k) → cond b (local (g j)) (look d (map f js) (map g js) n) ≡ local (g k)
    by true is_it later = ap local (one.0 (sym (same_text n (f j) (sym is_it))))
    by false is_it later = later

pub one_left : {X : Type 0} (x : X) (xs ys : List X) → IsOneOf x xs → IsOneOf x (xs ++ ys)
one_left x [] ys h = absurd h
one_left x (y ∷ xs) ys (inl e) = inl e
one_left x (y ∷ xs) ys (inr h) = inr (one_left x xs ys h)

pub one_right : {X : Type 0} (x : X) (xs ys : List X) → IsOneOf x ys → IsOneOf x (xs ++ ys)
one_right x [] ys h = h
one_right x (y ∷ xs) ys h = inr (one_right x xs ys h)

pub one_map : {X Y : Type 0} (f : X → Y) (x : X) (xs : List X) → IsOneOf x xs → IsOneOf (f x) (map f xs)
one_map f x [] h = absurd h
one_map f x (y ∷ xs) (inl e) = inl (ap f e)
one_map f x (y ∷ xs) (inr h) = inr (one_map f x xs h)

pub one_flat : {X Y : Type 0} (f : X → List Y) (x : X) (y : Y) (xs : List X) → IsOneOf x xs → IsOneOf y (f x) → IsOneOf y (flat_map f xs)
one_flat f x y [] h g = absurd h
one_flat f x y (z ∷ xs) (inl e) g = one_left y (f z) (flat_map f xs) (subst (λ u. IsOneOf y (f u)) e g)
one_flat f x y (z ∷ xs) (inr h) g = one_right y (f z) (flat_map f xs) (one_flat f x y xs h g)

pub all_append : {X : Type 0} (P : X → Type 0) (xs ys : List X) → AllByRecursion P xs → AllByRecursion P ys → AllByRecursion P (xs ++ ys)
all_append P [] ys a b = b
all_append P (x ∷ xs) ys a b = (a.0, all_append P xs ys a.1 b)

pub all_map : {X Y : Type 0} (P : Y → Type 0) (f : X → Y) (xs : List X) → AllByRecursion (λ x. P (f x)) xs → AllByRecursion P (map f xs)
all_map P f [] a = tt
all_map P f (x ∷ xs) a = (a.0, all_map P f xs a.1)

pub all_flat : {X Y : Type 0} (P : Y → Type 0) (f : X → List Y) (xs : List X) → AllByRecursion (λ x. AllByRecursion P (f x)) xs → AllByRecursion P (flat_map f xs)
all_flat P f [] a = tt
all_flat P f (x ∷ xs) a = all_append P (f x) (flat_map f xs) a.0 (all_flat P f xs a.1)

pub all_any : {X : Type 0} (P : X → Type 0) (xs : List X) → ((x : X) → P x) → AllByRecursion P xs
all_any P [] h = tt
all_any P (x ∷ xs) h = (h x, all_any P xs h)

pub look_skip : (d : FlatNet) (n p u : List ℕ) (ps us : List (List ℕ)) → same_name n p ≡ false → look d (p ∷ ps) (u ∷ us) n ≡ look d ps us n
look_skip d n p u ps us other = ap (λ (b : Bool). cond b (local u) (look d ps us n)) other

-- ports passed by name, in front of others
pub look_front : (d : FlatNet) (n : List ℕ) (ps qs vs : List (List ℕ)) → IsOneOf n ps → look d (ps ++ qs) (ps ++ vs) n ≡ local n
look_front d n ps qs vs is = look_append d n ps qs ps vs refl ∙ look_name (look d qs vs n) n ps is

pub append_long : {X Y : Type 0} (xs xs' : List X) (ys ys' : List Y) → length xs ≡ length ys → length xs' ≡ length ys' → length (xs ++ xs') ≡ length (ys ++ ys')
append_long xs xs' ys ys' e f = length-append xs xs' ∙ (λ i. e i + f i) ∙ sym (length-append ys ys')
