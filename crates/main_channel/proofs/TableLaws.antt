-- Lists that are made number by number.
use Rattle.std.proofs.Common.{◌≡◌, ℕ, zero, suc, List, [], ◌∷◌, map, length, refl, ap, ◌∙◌}
use Rattle.std.proofs.lemmas.List.{length-map}
use Rattle.sram_netlist.specs.InstanceList.{numbers_from, tabulate}

pub count_numbers : (k n : ℕ) → length (numbers_from k n) ≡ n
count_numbers k zero = refl
count_numbers k (suc n) = ap suc (count_numbers (suc k) n)

pub count_tabulated : {A : Type 0} (n : ℕ) (f : ℕ → A) → length (tabulate n f) ≡ n
count_tabulated n f = length-map (numbers_from 0 n) f ∙ count_numbers 0 n

map_map : {A B : Type 0} (g : A → B) (f : ℕ → A) (ns : List ℕ) → map g (map f ns) ≡ map (λ k. g (f k)) ns
map_map g f [] = refl
map_map {B = B} g f (n ∷ ns) = ap (λ (l : List B). g (f n) ∷ l) (map_map g f ns)

pub map_tabulated : {A B : Type 0} (g : A → B) (n : ℕ) (f : ℕ → A) → map g (tabulate n f) ≡ tabulate n (λ k. g (f k))
map_tabulated g n f = map_map g f (numbers_from 0 n)

map_same : {A : Type 0} (f g : ℕ → A) (ns : List ℕ) → ((k : ℕ) → f k ≡ g k) → map f ns ≡ map g ns
map_same f g [] same = refl
map_same f g (n ∷ ns) same = λ i. same n i ∷ map_same f g ns same i

pub tabulated_same : {A : Type 0} (n : ℕ) (f g : ℕ → A) → ((k : ℕ) → f k ≡ g k) → tabulate n f ≡ tabulate n g
tabulated_same n f g same = map_same f g (numbers_from 0 n) same
