-- What instances take over, one after another, and through the cells of instances.
use Rattle.std.proofs.Common.{◌≡◌, ◌⊎◌, inl, inr, ℕ, zero, suc, ◌+◌, ◌<◌, ◌≤◌, List, [], ◌∷◌, ◌++◌, map, sym, subst, arith}
use Rattle.std.proofs.lemmas.List.Elements.{Contains-append_left, Contains-append_right, Contains-append_cases}
use Rattle.or_geom.proofs.ListLaws.{contains_none, contains_cases, contains_first, contains_later}
use Rattle.cell_chains.specs.Instances.{Item}
use Rattle.cell_builder.specs.declared.cell.PlacedInstance.{PlacedInstance}
use Rattle.cell_builder.specs.Flat.{IsShapeTaken, IsLabelTaken, item_of, IsTakenOver, IsNested}
use Rattle.sram_netlist.specs.InstanceList.{numbers_from, tabulate}

-- something taken over is the image of one thing, and what else holds of that thing is taken over alike
pub record IsOpened {X : Type 0} (Takes : Item → (X → Type 0) → X → Type 0) (item : Item) (P : X → Type 0) (x : X) : Type 1 where
  pub inner : X
  pub has : P inner
  pub again : (Q : X → Type 0) → Q inner → Takes item Q x

abbrev pub Opens : {X : Type 0} → (Item → (X → Type 0) → X → Type 0) → Type 1
Opens {X} Takes = (item : Item) (P : X → Type 0) (x : X) → Takes item P x → IsOpened Takes item P x

abbrev pub Joins : {X : Type 0} → (Item → (X → Type 0) → X → Type 0) → Type 1
Joins {X} Takes = (P : X → Type 0) (outer inner both : Item) (x : X) → IsNested outer inner both → Takes outer (Takes inner P) x → Takes both P x

abbrev pub Splits : {X : Type 0} → (Item → (X → Type 0) → X → Type 0) → Type 1
Splits {X} Takes = (P : X → Type 0) (outer inner both : Item) (x : X) → IsNested outer inner both → Takes both P x → Takes outer (Takes inner P) x

pub shape_opens : Opens IsShapeTaken
shape_opens item P s a = record { inner = a.inner; has = a.has; again = λ Q q. record { inner = a.inner; has = q; moved = a.moved } }

pub label_opens : Opens IsLabelTaken
label_opens item P label a = record { inner = a.inner; has = a.has; again = λ Q q. record { inner = a.inner; has = q; moved = a.moved } }

-- an instance takes x over from its cell
abbrev pub TakesIn : {X : Type 0} → (Item → (X → Type 0) → X → Type 0) → (List ℕ → X → Type 0) → X → PlacedInstance → Type 0
TakesIn Takes Flat x i = Takes (item_of i) (Flat i.of) x

-- lists of instances

pub taken_none : {X : Type 0} (Takes : Item → (X → Type 0) → X → Type 0) (Flat : List ℕ → X → Type 0) (x : X) → IsTakenOver Takes Flat [] x → ⊥
taken_none Takes Flat x t = contains_none t.instance t.among

pub taken_first : {X : Type 0} (Takes : Item → (X → Type 0) → X → Type 0) (Flat : List ℕ → X → Type 0) (i : PlacedInstance) (is : List PlacedInstance) (x : X) → TakesIn Takes Flat x i → IsTakenOver Takes Flat (i ∷ is) x
taken_first Takes Flat i is x t = record { instance = i; among = contains_first i is; taken = t }

pub taken_later : {X : Type 0} (Takes : Item → (X → Type 0) → X → Type 0) (Flat : List ℕ → X → Type 0) (i : PlacedInstance) (is : List PlacedInstance) (x : X) → IsTakenOver Takes Flat is x → IsTakenOver Takes Flat (i ∷ is) x
taken_later Takes Flat i is x t = record { instance = t.instance; among = contains_later i is t.instance t.among; taken = t.taken }

pub taken_cases : {X : Type 0} (Takes : Item → (X → Type 0) → X → Type 0) (Flat : List ℕ → X → Type 0) (i : PlacedInstance) (is : List PlacedInstance) (x : X) → IsTakenOver Takes Flat (i ∷ is) x → TakesIn Takes Flat x i ⊎ IsTakenOver Takes Flat is x
taken_cases Takes Flat i is x t = elim (contains_cases i is t.instance t.among) [
  | inl e ↦ inl (subst (TakesIn Takes Flat x) e t.taken)
  | inr later ↦ inr (record { instance = t.instance; among = later; taken = t.taken })
]

pub taken_left : {X : Type 0} (Takes : Item → (X → Type 0) → X → Type 0) (Flat : List ℕ → X → Type 0) (is js : List PlacedInstance) (x : X) → IsTakenOver Takes Flat is x → IsTakenOver Takes Flat (is ++ js) x
taken_left Takes Flat is js x t = record { instance = t.instance; among = Contains-append_left is js t.instance t.among; taken = t.taken }

pub taken_right : {X : Type 0} (Takes : Item → (X → Type 0) → X → Type 0) (Flat : List ℕ → X → Type 0) (is js : List PlacedInstance) (x : X) → IsTakenOver Takes Flat js x → IsTakenOver Takes Flat (is ++ js) x
taken_right Takes Flat is js x t = record { instance = t.instance; among = Contains-append_right is js t.instance t.among; taken = t.taken }

pub taken_parts : {X : Type 0} (Takes : Item → (X → Type 0) → X → Type 0) (Flat : List ℕ → X → Type 0) (is js : List PlacedInstance) (x : X) → IsTakenOver Takes Flat (is ++ js) x → IsTakenOver Takes Flat is x ⊎ IsTakenOver Takes Flat js x
taken_parts Takes Flat is js x t = elim (Contains-append_cases is js t.instance t.among) [
  | inl a ↦ inl (record { instance = t.instance; among = a; taken = t.taken })
  | inr b ↦ inr (record { instance = t.instance; among = b; taken = t.taken })
]

-- one of n numbered instances takes x over
pub record IsNumbered {X : Type 0} (Takes : Item → (X → Type 0) → X → Type 0) (Flat : List ℕ → X → Type 0) (f : ℕ → PlacedInstance) (n : ℕ) (x : X) : Type 0 where
  pub number : ℕ
  pub below : number < n
  pub taken : TakesIn Takes Flat x (f number)

numbered_from : {X : Type 0} (Takes : Item → (X → Type 0) → X → Type 0) (Flat : List ℕ → X → Type 0) (f : ℕ → PlacedInstance) (k n : ℕ) (x : X) → IsTakenOver Takes Flat (map f (numbers_from k n)) x → IsNumbered Takes Flat f (k + n) x
numbered_from Takes Flat f k zero x t = absurd (taken_none Takes Flat x t)
numbered_from Takes Flat f k (suc n) x t = elim (taken_cases Takes Flat (f k) (map f (numbers_from (suc k) n)) x t) [
  | inl now ↦ record { number = k; below = omega arith; taken = now }
  | inr later ↦ let r = numbered_from Takes Flat f (suc k) n x later in let lt = r.below in record { number = r.number; below = omega (arith, lt); taken = r.taken }
]

pub numbered_taken : {X : Type 0} (Takes : Item → (X → Type 0) → X → Type 0) (Flat : List ℕ → X → Type 0) (f : ℕ → PlacedInstance) (n : ℕ) (x : X) → IsTakenOver Takes Flat (tabulate n f) x → IsNumbered Takes Flat f n x
numbered_taken Takes Flat f n x t = subst (λ (m : ℕ). IsNumbered Takes Flat f m x) (zero_more n) (numbered_from Takes Flat f 0 n x t)
  where
    zero_more : (m : ℕ) → 0 + m ≡ m
    zero_more m = omega arith

first_or_later : (k m : ℕ) → k ≤ m → (m ≡ k) ⊎ (suc k ≤ m)
first_or_later k m le = grind (arith, le)

from_numbered : {X : Type 0} (Takes : Item → (X → Type 0) → X → Type 0) (Flat : List ℕ → X → Type 0) (f : ℕ → PlacedInstance) (k n m : ℕ) (x : X) → k ≤ m → m < k + n → TakesIn Takes Flat x (f m) → IsTakenOver Takes Flat (map f (numbers_from k n)) x
from_numbered Takes Flat f k zero m x low high t = absurd (omega (arith, low, high))
from_numbered Takes Flat f k (suc n) m x low high t = elim (first_or_later k m low) [
  | inl e ↦ taken_first Takes Flat (f k) (map f (numbers_from (suc k) n)) x (subst (λ (j : ℕ). TakesIn Takes Flat x (f j)) e t)
  | inr le ↦ taken_later Takes Flat (f k) (map f (numbers_from (suc k) n)) x (from_numbered Takes Flat f (suc k) n m x le (omega (arith, high)) t)
]

pub taken_numbered : {X : Type 0} (Takes : Item → (X → Type 0) → X → Type 0) (Flat : List ℕ → X → Type 0) (f : ℕ → PlacedInstance) (n m : ℕ) (x : X) → m < n → TakesIn Takes Flat x (f m) → IsTakenOver Takes Flat (tabulate n f) x
taken_numbered Takes Flat f n m x lt t = from_numbered Takes Flat f 0 n m x (omega arith) (omega (arith, lt)) t

-- instances of a cell and of the cells below it, by an index

-- one of them takes x over from what is flat in its cell
pub record IsOf {X I : Type 0} (Takes : Item → (X → Type 0) → X → Type 0) (Flat : List ℕ → X → Type 0) (Is : I → Type 0) (item : I → Item) (x : X) : Type 0 where
  pub index : I
  pub is : Is index
  pub taken : Takes (item index) (Flat (item index).cell) x

-- `both` is `inner`, an instance of the cell of `outer`, as it stands beside `outer`, and of the same cell
pub record StandsBeside (outer inner both : Item) : Type 0 where
  pub nested : IsNested outer inner both
  pub cell : both.cell ≡ inner.cell

-- what a part's instance takes over is taken over by the part's indices, where they stand beside the instance
pub out_of_part : {X I : Type 0} (Takes : Item → (X → Type 0) → X → Type 0) (Flat : List ℕ → X → Type 0) (Is : I → Type 0) (inner both : I → Item) (outer : Item) → Opens Takes → Joins Takes → ((i : I) → Is i → StandsBeside outer (inner i) (both i))
    → (x : X) → Takes outer (IsOf Takes Flat Is inner) x → IsOf Takes Flat Is both x
out_of_part Takes Flat Is inner both outer opens joins beside x t =
    let o = opens outer (IsOf Takes Flat Is inner) x t in
    let l = o.has in
    let s = beside l.index l.is in
    let cell = (inner l.index).cell in
    record {
      index = l.index;
      is = l.is;
      taken = subst (λ (c : List ℕ). Takes (both l.index) (Flat c) x) (sym s.cell) (joins (Flat cell) outer (inner l.index) (both l.index) x s.nested (o.again (Takes (inner l.index) (Flat cell)) l.taken));
    }

pub into_part : {X I : Type 0} (Takes : Item → (X → Type 0) → X → Type 0) (Flat : List ℕ → X → Type 0) (Is : I → Type 0) (inner both : I → Item) (outer : Item) → Opens Takes → Splits Takes → ((i : I) → Is i → StandsBeside outer (inner i) (both i))
    → (x : X) → IsOf Takes Flat Is both x → Takes outer (IsOf Takes Flat Is inner) x
into_part Takes Flat Is inner both outer opens splits beside x l =
    let s = beside l.index l.is in
    let cell = (inner l.index).cell in
    let o = opens outer (Takes (inner l.index) (Flat cell)) x (splits (Flat cell) outer (inner l.index) (both l.index) x s.nested (subst (λ (c : List ℕ). Takes (both l.index) (Flat c) x) s.cell l.taken)) in
    o.again (IsOf Takes Flat Is inner) (record { index = l.index; is = l.is; taken = o.has })

-- what is taken over from one thing is taken over from another that follows from it
pub taken_as : {X : Type 0} (Takes : Item → (X → Type 0) → X → Type 0) (P Q : X → Type 0) (item : Item) → Opens Takes → ((y : X) → P y → Q y) → (x : X) → Takes item P x → Takes item Q x
taken_as Takes P Q item opens f x t = let o = opens item P x t in o.again Q (f o.inner o.has)
