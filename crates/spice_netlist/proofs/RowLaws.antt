-- The rows of a list, one row more.
use Rattle.std.proofs.Common.{◌≡◌, ℕ, zero, suc, ◌+◌, ◌<◌, ◌≤◌, inl, inr, List, [], ◌∷◌, ◌++◌, length, map, get_or, refl, sym, ap, subst, ◌∙◌, append_assoc, arith}
use Rattle.std.proofs.lemmas.List.{map-append, length-map, length-append, append-nil}
use Rattle.netlist.specs.declared.rows.RowPin.{RowPin}
use Rattle.spice_netlist.specs.declared.rows.RowList.{RowList}
use Rattle.spice_netlist.specs.NetTable.{table_nets}
use Rattle.spice_netlist.specs.Pins.{NamedPin}
use Rattle.spice_netlist.specs.NetKeys.{net_key}
use Rattle.spice_netlist.specs.Rows.{AreRowsOf, net_count, AddsRows}
use Rattle.spice_netlist.specs.Numbers.{PinLabel, label_of_row, label_of_named, net_at, AreNumberedRows, IsNumberOf, IsTableNumbering}
use Rattle.spice_netlist.proofs.NumberLaws.{numbers_none, numbers_more}

pub rows_none : (list : RowList) → list.rows.items ≡ [] → table_nets list.nets ≡ [] → AreRowsOf [] list
rows_none list rows nets = record {
  labels = ap (map label_of_row) rows;
  numbers =
      subst (λ (rs : List RowPin). IsTableNumbering [] (map (λ (r : RowPin). r.net) rs) (table_nets list.nets)) (sym rows)
      (subst (λ (table : List (List ℕ)). IsTableNumbering [] [] table) (sym nets) numbers_none);
}

-- one row more, where the table has the number of its net
module _ (old new : RowList) (pin : NamedPin) (row : RowPin) (number : IsNumberOf (table_nets old.nets) (net_key pin.net) row.net (table_nets new.nets)) (grown : new.rows.items ≡ old.rows.items ++ row ∷ []) (same : label_of_row row ≡ label_of_named pin) where
  push : (named : List NamedPin) → AreRowsOf named old → AreRowsOf (named ++ pin ∷ []) new
  push named a =
      let nets : map (λ (n : NamedPin). net_key n.net) (named ++ pin ∷ []) ≡ map (λ (n : NamedPin). net_key n.net) named ++ net_key pin.net ∷ [] =
      map-append (λ (n : NamedPin). net_key n.net) named (pin ∷ []) in
      let numbers : map (λ (r : RowPin). r.net) new.rows.items ≡ map (λ (r : RowPin). r.net) old.rows.items ++ row.net ∷ [] =
      ap (map (λ (r : RowPin). r.net)) grown ∙ map-append (λ (r : RowPin). r.net) old.rows.items (row ∷ []) in
      record {
        labels =
            ap (map label_of_row) grown
            ∙ map-append label_of_row old.rows.items (row ∷ [])
            ∙ ap (λ (ls : List PinLabel). ls ++ label_of_row row ∷ []) a.labels
            ∙ ap (λ (l : PinLabel). map label_of_named named ++ l ∷ []) same
            ∙ sym (map-append label_of_named named (pin ∷ []));
        numbers =
            subst (λ (xs : List (List ℕ)). IsTableNumbering xs (map (λ (r : RowPin). r.net) new.rows.items) (table_nets new.nets)) (sym nets)
            (subst (λ (ns : List ℕ). IsTableNumbering (map (λ (n : NamedPin). net_key n.net) named ++ net_key pin.net ∷ []) ns (table_nets new.nets)) (sym numbers)
            (numbers_more (map (λ (n : NamedPin). net_key n.net) named) (map (λ (r : RowPin). r.net) old.rows.items) (table_nets old.nets) (table_nets new.nets) (net_key pin.net) row.net a.numbers number));
      }

  few : net_count new ≤ net_count old + 1
  few = elim number.either [
    | inl kept ↦ let long = ap length kept in omega (arith, long)
    | inr add ↦ let long = ap length add.0 ∙ length-append (table_nets old.nets) (net_key pin.net ∷ []) in omega (arith, long)
  ]

  pub adds_row : AddsRows old new (pin ∷ [])
  adds_row = record { rows = push; few = few }

pub adds_none : (list : RowList) → AddsRows list list []
adds_none list = record { rows = λ named a. subst (λ (ns : List NamedPin). AreRowsOf ns list) (sym (append-nil named)) a; few = omega arith }

pub adds_then : (first middle last : RowList) (added more : List NamedPin) → AddsRows first middle added → AddsRows middle last more → AddsRows first last (added ++ more)
adds_then first middle last added more a b = record {
  rows = λ named r. subst (λ (ns : List NamedPin). AreRowsOf ns last) (append_assoc named added more) (b.rows (named ++ added) (a.rows named r));
  few = let long = length-append added more in omega (arith, long, a.few, b.few);
}

-- the key of a row
pub key_at : (named : List NamedPin) (k : ℕ) → get_or (map (λ (n : NamedPin). net_key n.net) named) k [] ≡ net_key (net_at named k)
key_at [] zero = refl
key_at [] (suc k) = refl
key_at (n ∷ named) zero = refl
key_at (n ∷ named) (suc k) = key_at named k

-- where keys tell nets, the numbers tell them
pub rows_all : (named : List NamedPin) (list : RowList) → ((j k : ℕ) → net_key (net_at named j) ≡ net_key (net_at named k) → net_at named j ≡ net_at named k)
    → AreRowsOf named list → AreNumberedRows named list.rows.items
rows_all named list tell a =
    let sized = length-map named (λ (n : NamedPin). net_key n.net) in
    let inside = λ (k : ℕ) (lt : k < length named). subst (λ (n : ℕ). k < n) (sym sized) lt in
    record {
      labels = a.labels;
      one = λ j k lj lk.
          let first = a.numbers.each j (inside j lj) in
          let second = a.numbers.each k (inside k lk) in
          let key_j = key_at named j in
          let key_k = key_at named k in (
            λ e. tell j k (sym key_j ∙ sym first.1 ∙ ap (λ (n : ℕ). get_or (table_nets list.nets) n []) e ∙ second.1 ∙ key_k),
            λ e. a.numbers.once _ _ first.0 second.0 (first.1 ∙ key_j ∙ ap net_key e ∙ sym key_k ∙ sym second.1),
          );
      first = λ k smaller lt less. a.numbers.first k smaller (inside k lt) less;
    }

pub same_label : (a b : PinLabel) → a.path ≡ b.path → a.leaf ≡ b.leaf → a.pin ≡ b.pin → a ≡ b
same_label a b p l n = λ i. record { path = p i; leaf = l i; pin = n i }

pub same_pin : (a b : NamedPin) → a.path ≡ b.path → a.leaf ≡ b.leaf → a.pin ≡ b.pin → a.net ≡ b.net → a ≡ b
same_pin a b p l n t = λ i. record { path = p i; leaf = l i; pin = n i; net = t i }

-- a number is at most the number of nets before
pub at_most : (table table' : List (List ℕ)) (net : List ℕ) (number : ℕ) → IsNumberOf table net number table' → number ≤ length table
at_most table table' net number new = elim new.either [
  | inl same ↦ let long = ap length same in omega (arith, long, new.within)
  | inr add ↦ omega (arith, add.1)
]

-- there are no more nets than rows
pub count_at_most : (named : List NamedPin) (list : RowList) → AreRowsOf named list → net_count list ≤ length named
count_at_most named list a = let sized = length-map named (λ (n : NamedPin). net_key n.net) in omega (arith, sized, a.numbers.few)
