-- Rows that match no point twice are no more than the points.
use Rattle.std.proofs.Common.{◌≡◌, inl, inr, ℕ, zero, suc, ◌<◌, ◌≤◌, List, [], ◌∷◌, ◌++◌, map, length, get_or, Bool, true, false, not, ◌&&◌, cond, refl, ap, arith, lit≤}
use Rattle.std.specs.Prelude.{IsTrue, All, AllPairs}
use Rattle.std.specs.List.{filter, flat_map}
use Rattle.std.proofs.lemmas.Bool.{and_from}
use Rattle.std.proofs.lemmas.List.Elements.{All-head, All-tail, All-weaker}
use Rattle.or_geom.specs.Gathering.{SomeHas}
use Rattle.cell_roles.specs.declared.leaf_role.LeafRole.{LeafRole}
use Rattle.cell_roles.specs.declared.leaf_role.LeafRole.TheVariants.{Common, Fixed}
use Rattle.cell_roles.specs.declared.role.Role.TheVariants.{Bitcell, Precharge, Mux, Tie, Sense, Write, RowNand2, RowNand3, Driver, Nand2, Nand3, Inv, Dff, Delay}
use Rattle.cell_roles.specs.LeafRoles.{leaf_inputs, leaf_stored, leaf_points}
use Rattle.cell_roles.specs.Tables.{Wanted, Either, Only, TableRow, TablePoint, fits, all_values}
use Rattle.role_tables.specs.Point.{matches, MatchOnePoint}
use Rattle.role_tables.specs.Table.{HasWidths, AreApartRows}

-- one of the first or one of the others
some_left : {X : Type 0} (P : X → Type 0) (xs ys : List X) → SomeHas P xs → SomeHas P (xs ++ ys)
some_left P [] ys h = absurd h
some_left P (x ∷ xs) ys (inl h) = inl h
some_left P (x ∷ xs) ys (inr h) = inr (some_left P xs ys h)

some_right : {X : Type 0} (P : X → Type 0) (xs ys : List X) → SomeHas P ys → SomeHas P (xs ++ ys)
some_right P [] ys h = h
some_right P (x ∷ xs) ys h = inr (some_right P xs ys h)

some_map : {X Y : Type 0} (P : Y → Type 0) (f : X → Y) (xs : List X) → SomeHas (λ x. P (f x)) xs → SomeHas P (map f xs)
some_map P f [] h = absurd h
some_map P f (x ∷ xs) (inl h) = inl h
some_map P f (x ∷ xs) (inr h) = inr (some_map P f xs h)

some_flat : {X Y : Type 0} (P : Y → Type 0) (f : X → List Y) (xs : List X) → SomeHas (λ x. SomeHas P (f x)) xs → SomeHas P (flat_map f xs)
some_flat P f [] h = absurd h
some_flat P f (x ∷ xs) (inl h) = some_left P (f x) (flat_map f xs) h
some_flat P f (x ∷ xs) (inr h) = some_right P (f x) (flat_map f xs) (some_flat P f xs h)

some_weaker : {X : Type 0} (P Q : X → Type 0) → ((x : X) → P x → Q x) → (xs : List X) → SomeHas P xs → SomeHas Q xs
some_weaker P Q less [] h = absurd h
some_weaker P Q less (x ∷ xs) (inl h) = inl (less x h)
some_weaker P Q less (x ∷ xs) (inr h) = inr (some_weaker P Q less xs h)

-- of all values of so many bits some fit
some_fit : (ws : List Wanted) (n : ℕ) → length ws ≡ n → SomeHas (λ vs. IsTrue (fits ws vs)) (all_values n)
some_fit [] zero long = inl refl
some_fit [] (suc n) long = absurd (omega arith)
some_fit (w ∷ ws) zero long = absurd (omega arith)
some_fit (Either ∷ ws) (suc n) long =
    some_left (λ vs. IsTrue (fits (Either ∷ ws) vs)) (map (λ vs. false ∷ vs) (all_values n)) (map (λ vs. true ∷ vs) (all_values n))
    (some_map (λ vs. IsTrue (fits (Either ∷ ws) vs)) (λ vs. false ∷ vs) (all_values n) (some_fit ws n (omega arith)))
some_fit (Only false ∷ ws) (suc n) long =
    some_left (λ vs. IsTrue (fits (Only false ∷ ws) vs)) (map (λ vs. false ∷ vs) (all_values n)) (map (λ vs. true ∷ vs) (all_values n))
    (some_map (λ vs. IsTrue (fits (Only false ∷ ws) vs)) (λ vs. false ∷ vs) (all_values n) (some_fit ws n (omega arith)))
some_fit (Only true ∷ ws) (suc n) long =
    some_right (λ vs. IsTrue (fits (Only true ∷ ws) vs)) (map (λ vs. false ∷ vs) (all_values n)) (map (λ vs. true ∷ vs) (all_values n))
    (some_map (λ vs. IsTrue (fits (Only true ∷ ws) vs)) (λ vs. true ∷ vs) (all_values n) (some_fit ws n (omega arith)))

-- a row of a role matches one of its points
some_match : (role : LeafRole) (row : TableRow) → HasWidths role row → SomeHas (λ p. IsTrue (matches row p)) (leaf_points role)
some_match role row w =
    some_flat (λ p. IsTrue (matches row p)) (λ inputs. map (λ stored. record { inputs = inputs; stored = stored }) (all_values (length (leaf_stored role)))) (all_values (length (leaf_inputs role)))
    (some_weaker (λ inputs. IsTrue (fits row.looks inputs)) (λ inputs. SomeHas (λ p. IsTrue (matches row p)) (map (λ stored. record { inputs = inputs; stored = stored }) (all_values (length (leaf_stored role)))))
    (λ inputs fit. some_map (λ p. IsTrue (matches row p)) (λ stored. record { inputs = inputs; stored = stored }) (all_values (length (leaf_stored role)))
    (some_weaker (λ stored. IsTrue (fits row.stored stored)) (λ stored. IsTrue (fits row.looks inputs && fits row.stored stored))
    (λ stored also. and_from (fits row.looks inputs) (fits row.stored stored) fit also) (all_values (length (leaf_stored role)))
    (some_fit row.stored (length (leaf_stored role)) w.stored)))
    (all_values (length (leaf_inputs role))) (some_fit row.looks (length (leaf_inputs role)) w.looks))

few_kept : {X : Type 0} (test : X → Bool) (xs : List X) → length (filter test xs) ≤ length xs
few_kept test [] = omega arith
few_kept {X} test (x ∷ xs) =
    let more = few_kept test xs in
    elim (test x) as (λ b. length (cond b (x ∷ filter test xs) (filter test xs)) ≤ length (x ∷ xs)) [ true ↦ omega arith | false ↦ omega arith ]

-- fewer are kept where one isn't
one_dropped : {X : Type 0} (test : X → Bool) (xs : List X) → SomeHas (λ x. test x ≡ false) xs → length (filter test xs) < length xs
one_dropped test [] h = absurd h
one_dropped {X} test (x ∷ xs) (inl h) =
    let more = few_kept test xs in
    rw h (omega arith)
one_dropped {X} test (x ∷ xs) (inr h) =
    let more = one_dropped test xs h in
    elim (test x) as (λ b. length (cond b (x ∷ filter test xs) (filter test xs)) < length (x ∷ xs)) [ true ↦ omega arith | false ↦ omega arith ]

some_kept : {X : Type 0} (P : X → Type 0) (test : X → Bool) → ((x : X) → P x → test x ≡ true) → (xs : List X) → SomeHas P xs → SomeHas P (filter test xs)
some_kept P test passes [] h = absurd h
some_kept {X} P test passes (x ∷ xs) (inl h) =
    rw (passes x h) (inl h)
some_kept {X} P test passes (x ∷ xs) (inr h) =
    let more = some_kept P test passes xs h in
    elim (test x) as (λ b. SomeHas P (cond b (x ∷ filter test xs) (filter test xs))) [ true ↦ inr more | false ↦ more ]

pub pairs_head : {X : Type 0} (R : X → X → Type 0) (x : X) (xs : List X) → AllPairs R (x ∷ xs) → All (R x) xs
pairs_head R x xs all k d lt = all 0 (suc k) d (omega arith) (omega arith)

pub pairs_tail : {X : Type 0} (R : X → X → Type 0) (x : X) (xs : List X) → AllPairs R (x ∷ xs) → AllPairs R xs
pairs_tail R x xs all i j d before lt = all (suc i) (suc j) d (omega arith) (omega arith)

abbrev Apart : TableRow → TableRow → Type 0
Apart a b = MatchOnePoint a b → ⊥

-- a point of a row that is apart from another isn't the other's
not_both : (a b : TableRow) → Apart a b → (p : TablePoint) → IsTrue (matches b p) → not (matches a p) ≡ true
not_both a b apart p by_b = elim (matches a p) as (λ t. (matches a p ≡ t) → not t ≡ true) [
  | true ↦ λ by_a. absurd (apart (record { point = p; first = by_a; second = by_b }))
  | false ↦ λ by_a. refl
] refl

few : (rows : List TableRow) (points : List TablePoint) → All (λ row. SomeHas (λ p. IsTrue (matches row p)) points) rows → AllPairs Apart rows → length rows ≤ length points
few [] points some apart = omega arith
few (row ∷ rows) points some apart =
    let others = All-tail (λ r. SomeHas (λ p. IsTrue (matches r p)) points) row rows some in
    let from_row = pairs_head Apart row rows apart in
    let left : All (λ r. SomeHas (λ p. IsTrue (matches r p)) (filter (λ p. not (matches row p)) points)) rows =
    λ k d lt. some_kept (λ p. IsTrue (matches (get_or rows k d) p)) (λ p. not (matches row p)) (not_both row (get_or rows k d) (from_row k d lt)) points (others k d lt) in
    let rest = few rows (filter (λ p. not (matches row p)) points) left (pairs_tail Apart row rows apart) in
    let fewer = one_dropped (λ p. not (matches row p)) points
    (some_weaker (λ p. IsTrue (matches row p)) (λ p. not (matches row p) ≡ false) (λ p is. ap not is) points (All-head (λ r. SomeHas (λ p. IsTrue (matches r p)) points) row rows some)) in
    omega arith

few_points : (role : LeafRole) → length (leaf_points role) ≤ 16
few_points (Common Bitcell) = lit≤ tt
few_points (Common Precharge) = lit≤ tt
few_points (Common Mux) = lit≤ tt
few_points (Common Tie) = lit≤ tt
few_points (Common Sense) = lit≤ tt
few_points (Common Write) = lit≤ tt
few_points (Common RowNand2) = lit≤ tt
few_points (Common RowNand3) = lit≤ tt
few_points (Common Driver) = lit≤ tt
few_points (Common Nand2) = lit≤ tt
few_points (Common Nand3) = lit≤ tt
few_points (Common Inv) = lit≤ tt
few_points (Common Dff) = lit≤ tt
few_points (Common Delay) = lit≤ tt
few_points (Fixed false) = lit≤ tt
few_points (Fixed true) = lit≤ tt

-- rows of a role that match no point twice are at most 16
pub few_rows : (role : LeafRole) (rows : List TableRow) → AreApartRows role rows → length rows ≤ 16
few_rows role rows are =
    let bound = few_points role in
    let within = few rows (leaf_points role) (All-weaker (HasWidths role) (λ row. SomeHas (λ p. IsTrue (matches row p)) (leaf_points role)) (some_match role) rows are.widths) are.apart in
    omega arith
