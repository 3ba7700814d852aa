-- Items whose names differ: by the letters in them, or by a number.
use Rattle.std.proofs.Common.{◌≡◌, ◌≢◌, ℕ, zero, suc, ◌+◌, ◌<◌, Bool, true, false, ◌&&◌, ◌||◌, not, List, [], ◌∷◌, ◌++◌, map, refl, sym, ap, ◌∙◌, arith}
use Rattle.std.specs.List.{flat_map, AllByRecursion}
use Rattle.std.specs.Cmp.Lexicographic.{same_text}
use Rattle.spice_text.specs.Writable.{Differ}
use Rattle.or_geom.proofs.NamePlaceLaws.{same_self}
use Rattle.row_laws.proofs.LookLaws.{all_append, all_map, all_flat, AreOther}
use Rattle.sram_netlist.specs.InstanceList.{numbers_from, tabulate, tabulate_lists}
use Rattle.sram_netlist.proofs.NamesTell.{letters, is_text}
use Rattle.sram_rows.proofs.DigitLaws.{both_true}
use Rattle.sram_rows.proofs.Segments.{all_numbers}
use Rattle.spice_netlist.specs.Names.{same_name}

-- the text is one of these
abbrev pub among : List (List ℕ) → List ℕ → Bool
among [] l = false
among (k ∷ ks) l = is_text l k || among ks l

-- none is one of those
abbrev pub apart : List (List ℕ) → List (List ℕ) → Bool
apart [] ls = true
apart (k ∷ ks) ls = not (among ls k) && apart ks ls

not_true : (b : Bool) → not b ≡ true → b ≡ false
not_true true e = absurd cc
not_true false e = refl

among_apart : (ks ls : List (List ℕ)) (l : List ℕ) → among ks l ≡ true → apart ks ls ≡ true → among ls l ≡ false
among_apart [] ls l e a = absurd cc
among_apart (k ∷ ks) ls l e a =
    let both = both_true (not (among ls k)) (apart ks ls) a in
    by (is_text l k) refl e (not_true (among ls k) both.0) (λ e. among_apart ks ls l e both.1)
  where
    by : (b : Bool) → is_text l k ≡ b → (b || among ks l) ≡ true → among ls k ≡ false → (among ks l ≡ true → among ls l ≡ false) → among ls l ≡ false
    by true is e off more = ap (among ls) (same_text l k (sym is)) ∙ off
    by false is e off more = more e

or_left : (a b : Bool) → a ≡ true → (a || b) ≡ true
or_left true b e = refl
or_left false b e = absurd cc

or_right : (a b : Bool) → b ≡ true → (a || b) ≡ true
or_right true b e = refl
or_right false b e = e

among_left : (ks ls : List (List ℕ)) (l : List ℕ) → among ks l ≡ true → among (ks ++ ls) l ≡ true
among_left [] ls l e = absurd cc
among_left (k ∷ ks) ls l e = by (is_text l k) e (among_left ks ls l)
  where
    by : (b : Bool) → (b || among ks l) ≡ true → (among ks l ≡ true → among (ks ++ ls) l ≡ true) → (b || among (ks ++ ls) l) ≡ true
    by true e more = refl
    by false e more = more e

among_right : (ks ls : List (List ℕ)) (l : List ℕ) → among ls l ≡ true → among (ks ++ ls) l ≡ true
among_right [] ls l e = e
among_right (k ∷ ks) ls l e = or_right (is_text l k) (among (ks ++ ls) l) (among_right ks ls l e)

pub all_follow : {X : Type 0} (P Q : X → Type 0) (xs : List X) → ((x : X) → P x → Q x) → AllByRecursion P xs → AllByRecursion Q xs
all_follow P Q [] h all = tt
all_follow P Q (x ∷ xs) h all = (h x all.0, all_follow P Q xs h all.1)

-- no two items have one name
abbrev pub DifferBy : {X : Type 0} → (X → List ℕ) → List X → Type 0
DifferBy name [] = Unit {0}
DifferBy name (x ∷ xs) = AllByRecursion (λ y. name x ≢ name y) xs × DifferBy name xs

pub differ_names : {X : Type 0} (name : X → List ℕ) (xs : List X) → DifferBy name xs → Differ (map name xs)
differ_names name [] d = tt
differ_names name (x ∷ xs) d = (all_map (λ other. name x ≢ other) name xs d.0, differ_names name xs d.1)

differ_append : {X : Type 0} (name : X → List ℕ) (xs ys : List X) → DifferBy name xs → DifferBy name ys → AllByRecursion (λ x. AllByRecursion (λ y. name x ≢ name y) ys) xs → DifferBy name (xs ++ ys)
differ_append name [] ys dx dy cross = dy
differ_append name (x ∷ xs) ys dx dy cross = (all_append (λ y. name x ≢ name y) xs ys dx.0 cross.0, differ_append name xs ys dx.1 dy cross.1)

-- no two items have one name, and the letters of each name are one of these
pub record AreTold {X : Type 0} (name : X → List ℕ) (xs : List X) (kinds : List (List ℕ)) : Type 0 where
  pub differ : DifferBy name xs
  pub kind : AllByRecursion (λ x. among kinds (letters (name x)) ≡ true) xs

module _ {X : Type 0} (name : X → List ℕ) where
  pub told_none : (ks : List (List ℕ)) → AreTold name [] ks
  told_none ks = record { differ = tt; kind = tt }

  pub told_one : (x : X) (ks : List (List ℕ)) → among ks (letters (name x)) ≡ true → AreTold name (x ∷ []) ks
  told_one x ks e = record { differ = (tt, tt); kind = (e, tt) }

  -- of other letters
  pub told_both : (xs ys : List X) (ks ls : List (List ℕ)) → AreTold name xs ks → AreTold name ys ls → apart ks ls ≡ true → AreTold name (xs ++ ys) (ks ++ ls)
  told_both xs ys ks ls a b off = record {
    differ = differ_append name xs ys a.differ b.differ (all_follow (λ x. among ks (letters (name x)) ≡ true) (λ x. AllByRecursion (λ y. name x ≢ name y) ys) xs
        (λ x is. all_follow (λ y. among ls (letters (name y)) ≡ true) (λ y. name x ≢ name y) ys (λ y here e.
        let none = among_apart ks ls (letters (name x)) is off in
        let some : among ls (letters (name x)) ≡ true = ap (λ (n : List ℕ). among ls (letters n)) e ∙ here in
        cc) b.kind) a.kind);
    kind = all_append (λ x. among (ks ++ ls) (letters (name x)) ≡ true) xs ys
        (all_follow (λ x. among ks (letters (name x)) ≡ true) (λ x. among (ks ++ ls) (letters (name x)) ≡ true) xs (λ x e. among_left ks ls (letters (name x)) e) a.kind)
        (all_follow (λ x. among ls (letters (name x)) ≡ true) (λ x. among (ks ++ ls) (letters (name x)) ≡ true) ys (λ x e. among_right ks ls (letters (name x)) e) b.kind);
  }

  -- items with one number, and then items with greater ones
  pub told_more : (key : List ℕ → ℕ) (g : ℕ) (xs ys : List X) (ks : List (List ℕ)) → AreTold name xs ks → AreTold name ys ks → AllByRecursion (λ x. key (name x) ≡ g) xs → AllByRecursion (λ y. g < key (name y)) ys
      → AreTold name (xs ++ ys) ks
  told_more key g xs ys ks a b here further = record {
    differ = differ_append name xs ys a.differ b.differ (all_follow (λ x. key (name x) ≡ g) (λ x. AllByRecursion (λ y. name x ≢ name y) ys) xs
        (λ x is. all_follow (λ y. g < key (name y)) (λ y. name x ≢ name y) ys (λ y lt e.
        let same : key (name x) ≡ key (name y) = ap key e in
        absurd (omega (arith, same, is, lt))) further) here);
    kind = all_append (λ x. among ks (letters (name x)) ≡ true) xs ys a.kind b.kind;
  }

  -- lists of items with the number of the list
  told_numbers : (key : List ℕ → ℕ) (f : ℕ → List X) (ks : List (List ℕ)) (from n : ℕ) → ((k : ℕ) → k < from + n → AreTold name (f k) ks) → ((k : ℕ) → k < from + n → AllByRecursion (λ x. key (name x) ≡ k) (f k))
      → AreTold name (flat_map f (numbers_from from n)) ks
  told_numbers key f ks from zero told is = told_none ks
  told_numbers key f ks from (suc n) told is =
      told_more key from (f from) (flat_map f (numbers_from (suc from) n)) ks (told from (omega arith)) (told_numbers key f ks (suc from) n (λ k lt. told k (omega arith)) (λ k lt. is k (omega arith))) (is from (omega arith))
      (all_flat (λ y. from < key (name y)) f (numbers_from (suc from) n) (all_numbers (λ j. AllByRecursion (λ y. from < key (name y)) (f j)) (suc from) n
      (λ j after lt. all_follow (λ y. key (name y) ≡ j) (λ y. from < key (name y)) (f j) (λ y e. omega (arith, e, after)) (is j (omega arith)))))

  pub told_lists : (key : List ℕ → ℕ) (n : ℕ) (f : ℕ → List X) (ks : List (List ℕ)) → ((k : ℕ) → k < n → AreTold name (f k) ks) → ((k : ℕ) → k < n → AllByRecursion (λ x. key (name x) ≡ k) (f k)) → AreTold name (tabulate_lists n f) ks
  told_lists key n f ks told is = told_numbers key f ks 0 n (λ k lt. told k (omega arith)) (λ k lt. is k (omega arith))

  told_map : (key : List ℕ → ℕ) (f : ℕ → X) (ks : List (List ℕ)) (from n : ℕ) → ((k : ℕ) → k < from + n → among ks (letters (name (f k))) ≡ true) → ((k : ℕ) → k < from + n → key (name (f k)) ≡ k) → AreTold name (map f (numbers_from from n)) ks
  told_map key f ks from zero kind is = told_none ks
  told_map key f ks from (suc n) kind is =
      told_more key from (f from ∷ []) (map f (numbers_from (suc from) n)) ks (told_one (f from) ks (kind from (omega arith))) (told_map key f ks (suc from) n (λ k lt. kind k (omega arith)) (λ k lt. is k (omega arith))) (is from (omega arith), tt)
      (all_map (λ y. from < key (name y)) f (numbers_from (suc from) n) (all_numbers (λ j. from < key (name (f j))) (suc from) n (λ j after lt. let e = is j (omega arith) in omega (arith, e, after))))

  pub told_tabulate : (key : List ℕ → ℕ) (n : ℕ) (f : ℕ → X) (ks : List (List ℕ)) → ((k : ℕ) → k < n → among ks (letters (name (f k))) ≡ true) → ((k : ℕ) → k < n → key (name (f k)) ≡ k) → AreTold name (tabulate n f) ks
  told_tabulate key n f ks kind is = told_map key f ks 0 n (λ k lt. kind k (omega arith)) (λ k lt. is k (omega arith))

  -- two items
  pub told_pair : (x y : X) (l m : List ℕ) → letters (name x) ≡ l → letters (name y) ≡ m → apart (l ∷ []) (m ∷ []) ≡ true → AreTold name (x ∷ y ∷ []) (l ∷ m ∷ [])
  told_pair x y l m ex ey off = told_both (x ∷ []) (y ∷ []) (l ∷ []) (m ∷ [])
      (told_one x (l ∷ []) (ap (among (l ∷ [])) ex ∙ or_left (is_text l l) false (same_self l))) (told_one y (m ∷ []) (ap (among (m ∷ [])) ey ∙ or_left (is_text m m) false (same_self m))) off

-- no two are one
abbrev pub distinct : List (List ℕ) → Bool
distinct [] = true
distinct (k ∷ ks) = not (among ks k) && distinct ks

abbrev pub kinds_of : {X : Type 0} → (X → List ℕ) → List X → List (List ℕ)
kinds_of name [] = []
kinds_of name (x ∷ xs) = letters (name x) ∷ kinds_of name xs

-- items that letters tell apart
pub told_list : {X : Type 0} (name : X → List ℕ) (xs : List X) → distinct (kinds_of name xs) ≡ true → AreTold name xs (kinds_of name xs)
told_list name [] e = told_none name []
told_list name (x ∷ xs) e =
    let both = both_true (not (among (kinds_of name xs) (letters (name x)))) (distinct (kinds_of name xs)) e in
    told_both name (x ∷ []) xs (letters (name x) ∷ []) (kinds_of name xs) (told_one name x (letters (name x) ∷ []) (or_left (is_text (letters (name x)) (letters (name x))) false (same_self (letters (name x))))) (told_list name xs both.1)
    (ap (λ (b : Bool). b && true) both.0)

-- a name of other letters
pub told_other : (ns : List (List ℕ)) (ks : List (List ℕ)) → AreTold (λ (n : List ℕ). n) ns ks → (n : List ℕ) → among ks (letters n) ≡ false → AreOther n ns
told_other ns ks told n e = all_follow (λ q. among ks (letters q) ≡ true) (λ q. same_name n q ≡ false) ns (λ q is. by q is (same_name n q) refl) told.kind
  where
    by : (q : List ℕ) → among ks (letters q) ≡ true → (b : Bool) → same_name n q ≡ b → same_name n q ≡ false
    by q is true same = let here : among ks (letters n) ≡ true = ap (λ (l : List ℕ). among ks (letters l)) (same_text n q (sym same)) ∙ is in absurd cc
    by q is false same = same
