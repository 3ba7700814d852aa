-- Lists that are made number by number.
use Rattle.std.proofs.Common.{◌<◌, ◌≡◌, ℕ, zero, suc, ◌+◌, List, [], ◌∷◌, ◌++◌, map, refl, ap, sym, ◌∙◌, append_assoc, arith, ◌≤◌, ◌*◌}
use Rattle.std.specs.List.{flat_map}
use Rattle.std.proofs.lemmas.List.{append-nil}
use Rattle.sram_netlist.specs.InstanceList.{numbers_from, tabulate, tabulate_lists}
use Rattle.sram_netlist.specs.Organization.{power_of_two}

numbers_more : (k n : ℕ) → numbers_from k (suc n) ≡ numbers_from k n ++ (n + k) ∷ []
numbers_more k zero = ap (λ (m : ℕ). m ∷ []) (omega arith)
numbers_more k (suc n) = ap (λ (ns : List ℕ). k ∷ ns) (numbers_more (suc k) n ∙ ap (λ (m : ℕ). numbers_from (suc k) n ++ m ∷ []) (omega arith))

numbers_to : (n : ℕ) → numbers_from 0 (suc n) ≡ numbers_from 0 n ++ n ∷ []
numbers_to n = numbers_more 0 n ∙ ap (λ (m : ℕ). numbers_from 0 n ++ m ∷ []) (omega arith)

pub map_append : {A B : Type 0} (f : A → B) (xs ys : List A) → map f (xs ++ ys) ≡ map f xs ++ map f ys
map_append f [] ys = refl
map_append {B = B} f (x ∷ xs) ys = ap (λ (l : List B). f x ∷ l) (map_append f xs ys)

flat_append : {A B : Type 0} (f : A → List B) (xs ys : List A) → flat_map f (xs ++ ys) ≡ flat_map f xs ++ flat_map f ys
flat_append f [] ys = refl
flat_append {B = B} f (x ∷ xs) ys = ap (λ (l : List B). f x ++ l) (flat_append f xs ys) ∙ sym (append_assoc (f x) (flat_map f xs) (flat_map f ys))

pub tabulate_more : {A : Type 0} (n : ℕ) (f : ℕ → A) → tabulate (n + 1) f ≡ tabulate n f ++ f n ∷ []
tabulate_more {A = A} n f =
    let e : n + 1 ≡ suc n = omega arith in
    ap (λ (m : ℕ). tabulate m f) e ∙ (ap (λ (ns : List ℕ). map f ns) (numbers_to n) ∙ map_append f (numbers_from 0 n) (n ∷ []))

pub tabulate_lists_more : {A : Type 0} (n : ℕ) (f : ℕ → List A) → tabulate_lists (n + 1) f ≡ tabulate_lists n f ++ f n
tabulate_lists_more {A = A} n f =
    let e : n + 1 ≡ suc n = omega arith in
    ap (λ (m : ℕ). tabulate_lists m f) e ∙ (ap (λ (ns : List ℕ). flat_map f ns) (numbers_to n)
    ∙ (flat_append f (numbers_from 0 n) (n ∷ []) ∙ ap (λ (l : List A). tabulate_lists n f ++ l) (append-nil (f n))))

-- one item more, and one list more
pub grown : {A : Type 0} (old now new : List A) (n : ℕ) (f : ℕ → A) → now ≡ old ++ tabulate n f → new ≡ now ++ f n ∷ [] → new ≡ old ++ tabulate (n + 1) f
grown {A = A} old now new n f before more =
    more ∙ (ap (λ (l : List A). l ++ f n ∷ []) before ∙ (append_assoc old (tabulate n f) (f n ∷ []) ∙ ap (λ (l : List A). old ++ l) (sym (tabulate_more n f))))

pub grown_by_list : {A : Type 0} (old now new : List A) (n : ℕ) (f : ℕ → List A) → now ≡ old ++ tabulate_lists n f → new ≡ now ++ f n → new ≡ old ++ tabulate_lists (n + 1) f
grown_by_list {A = A} old now new n f before more =
    more ∙ (ap (λ (l : List A). l ++ f n) before ∙ (append_assoc old (tabulate_lists n f) (f n) ∙ ap (λ (l : List A). old ++ l) (sym (tabulate_lists_more n f))))

-- powers of two
pub twice_lines : (n : ℕ) → power_of_two (n + 1) ≡ 2 * power_of_two n
twice_lines n = let e : n + 1 ≡ suc n = omega arith in ap power_of_two e

pub few_lines : (n : ℕ) → n ≤ 7 → power_of_two n ≤ 128
few_lines zero le = omega arith
few_lines (suc n) le = few_lines_below n 6 (omega (arith, le)) where
  few_lines_below : (n m : ℕ) → n ≤ m → power_of_two (suc n) ≤ power_of_two (suc m)
  few_lines_below zero zero le = omega arith
  few_lines_below zero (suc m) le = let less = few_lines_below zero m (omega arith) in omega (arith, less)
  few_lines_below (suc n) zero le = omega (arith, le)
  few_lines_below (suc n) (suc m) le = let less = few_lines_below n m (omega (arith, le)) in omega (arith, less)

pub some_lines : (n : ℕ) → 0 < power_of_two n
some_lines zero = omega arith
some_lines (suc n) = let some = some_lines n in omega (arith, some)

-- one item more, which is what the list has there
pub grown_as : {A : Type 0} (old now new : List A) (x : A) (n : ℕ) (f : ℕ → A) → now ≡ old ++ tabulate n f → new ≡ now ++ x ∷ [] → x ≡ f n → new ≡ old ++ tabulate (n + 1) f
grown_as {A = A} old now new x n f before more is = grown old now new n f before (more ∙ ap (λ (y : A). now ++ y ∷ []) is)

-- the list that is made up to the number
pub all_of : {A : Type 0} (old now : List A) (n m : ℕ) (f : ℕ → A) → now ≡ old ++ tabulate n f → n ≡ m → now ≡ old ++ tabulate m f
all_of {A = A} old now n m f is end = is ∙ ap (λ (k : ℕ). old ++ tabulate k f) end

-- the same of lists that are mapped
pub grown_mapped : {A B : Type 0} (g : A → B) (old now new : List B) (n : ℕ) (f : ℕ → List A) → now ≡ old ++ map g (tabulate_lists n f) → new ≡ now ++ map g (f n) → new ≡ old ++ map g (tabulate_lists (n + 1) f)
grown_mapped {A = A} {B = B} g old now new n f before more =
    more ∙ (ap (λ (l : List B). l ++ map g (f n)) before ∙ (append_assoc old (map g (tabulate_lists n f)) (map g (f n))
    ∙ ap (λ (l : List B). old ++ l) (sym (ap (λ (l : List A). map g l) (tabulate_lists_more n f) ∙ map_append g (tabulate_lists n f) (f n)))))

pub grown_mapped_one : {A B : Type 0} (g : A → B) (old now new : List B) (n : ℕ) (f : ℕ → A) → now ≡ old ++ map g (tabulate n f) → new ≡ now ++ g (f n) ∷ [] → new ≡ old ++ map g (tabulate (n + 1) f)
grown_mapped_one {A = A} {B = B} g old now new n f before more =
    more ∙ (ap (λ (l : List B). l ++ g (f n) ∷ []) before ∙ (append_assoc old (map g (tabulate n f)) (g (f n) ∷ [])
    ∙ ap (λ (l : List B). old ++ l) (sym (ap (λ (l : List A). map g l) (tabulate_more n f) ∙ map_append g (tabulate n f) (f n ∷ [])))))

-- one list behind another
pub then_more : {A B : Type 0} (g : A → B) (old now new : List B) (xs ys : List A) → now ≡ old ++ map g xs → new ≡ now ++ map g ys → new ≡ old ++ map g (xs ++ ys)
then_more {B = B} g old now new xs ys first second =
    second ∙ (ap (λ (l : List B). l ++ map g ys) first ∙ (append_assoc old (map g xs) (map g ys) ∙ ap (λ (l : List B). old ++ l) (sym (map_append g xs ys))))

pub the_same : {A B : Type 0} (g : A → B) (old new : List B) (xs ys : List A) → new ≡ old ++ map g xs → xs ≡ ys → new ≡ old ++ map g ys
the_same {A = A} g old new xs ys is same = is ∙ ap (λ (l : List A). old ++ map g l) same
