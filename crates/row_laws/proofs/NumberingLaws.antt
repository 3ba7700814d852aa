-- Named rows can be numbered.
use Rattle.std.proofs.Common.{◌≡◌, ◌⊎◌, inl, inr, ℕ, suc, ◌<◌, List, [], ◌∷◌, ◌++◌, length, map, get_or, Bool, true, false, refl, sym, ap, subst, ◌∙◌, append_assoc, arith}
use Rattle.std.specs.Prelude.{Contains}
use Rattle.std.specs.Cmp.Lexicographic.{same_text}
use Rattle.std.proofs.lemmas.List.{length-map}
use Rattle.or_geom.proofs.ListLaws.{contains_none, contains_cases}
use Rattle.netlist.specs.declared.deck.Subckt.{Subckt}
use Rattle.netlist.specs.declared.rows.RowPin.{RowPin}
use Rattle.spice_netlist.specs.Names.{same_name}
use Rattle.spice_netlist.specs.NetKeys.{net_key}
use Rattle.spice_netlist.specs.Numbers.{label_of_row, label_of_named, net_at, HasBefore, AreNumberedRows, IsTableNumbering}
use Rattle.spice_netlist.specs.Pins.{NamedPin, named_rows}
use Rattle.spice_netlist.specs.Resolved.{resolved_subckts}
use Rattle.spice_netlist.proofs.LowLaws.{resolved_low, keys_tell}
use Rattle.spice_netlist.proofs.RowLaws.{key_at}
use Rattle.spice_netlist.proofs.NumberLaws.{get_or_push, numbers_none, numbers_more}
use Rattle.or_geom.proofs.NamePlaceLaws.{same_self}

-- numbers of these nets, and the table of the distinct ones
pub record Numbered (nets : List (List ℕ)) : Type 0 where
  pub numbers : List ℕ
  pub table : List (List ℕ)
  pub is : IsTableNumbering nets numbers table

record IsAt (net : List ℕ) (xs : List (List ℕ)) : Type 0 where
  pub at : ℕ
  pub within : at < length xs
  pub is : get_or xs at [] ≡ net

-- a net stands in a list, or doesn't
where_is : (net : List ℕ) (xs : List (List ℕ)) → IsAt net xs ⊎ (Contains xs net → ⊥)
where_is net [] = inr (λ h. contains_none net h)
where_is net (x ∷ xs) = by (same_name net x) refl (where_is net xs)
  where
    by : (b : Bool) → same_name net x ≡ b → IsAt net xs ⊎ (Contains xs net → ⊥) → IsAt net (x ∷ xs) ⊎ (Contains (x ∷ xs) net → ⊥)
    by true e more = inl (record { at = 0; within = omega arith; is = sym (same_text net x (sym e)) })
    by false e (inl h) = let lt = h.within in inl (record { at = suc h.at; within = omega (arith, lt); is = h.is })
    by false e (inr off) = inr (λ h. elim (contains_cases x xs net h) [
      | inl here ↦ let yes : same_name net x ≡ true = ap (same_name net) (sym here) ∙ same_self net in absurd cc
      | inr later ↦ off later
    ])

grow : (nets : List (List ℕ)) (net : List ℕ) → Numbered nets → Numbered (nets ++ net ∷ [])
grow nets net n = by (where_is net n.table)
  where
    by : IsAt net n.table ⊎ (Contains n.table net → ⊥) → Numbered (nets ++ net ∷ [])
    by (inl h) = record {
      numbers = n.numbers ++ h.at ∷ [];
      table = n.table;
      is = numbers_more nets n.numbers n.table n.table net h.at n.is (record { either = inl refl; within = h.within; is = h.is });
    }
    by (inr off) = record {
      numbers = n.numbers ++ length n.table ∷ [];
      table = n.table ++ net ∷ [];
      is = numbers_more nets n.numbers n.table (n.table ++ net ∷ []) net (length n.table) n.is (record { either = inr (refl, refl, off); within = long n.table; is = get_or_push n.table net [] });
    }
      where
        long : (xs : List (List ℕ)) → length xs < length (xs ++ net ∷ [])
        long [] = omega arith
        long (x ∷ xs) = let h = long xs in omega (arith, h)

number_on : (before after : List (List ℕ)) → Numbered before → Numbered (before ++ after)
number_on before [] n = subst Numbered (sym (nothing before)) n
  where
    nothing : (xs : List (List ℕ)) → xs ++ [] ≡ xs
    nothing [] = refl
    nothing (x ∷ xs) = ap (λ (l : List (List ℕ)). x ∷ l) (nothing xs)
number_on before (net ∷ after) n = subst Numbered (append_assoc before (net ∷ []) after) (number_on (before ++ net ∷ []) after (grow before net n))

number_all : (nets : List (List ℕ)) → Numbered nets
number_all nets = number_on [] nets (record { numbers = []; table = []; is = numbers_none })

-- the rows with these numbers
abbrev with_numbers : List NamedPin → List ℕ → List RowPin
with_numbers [] ks = []
with_numbers (n ∷ ns) [] = []
with_numbers (n ∷ ns) (k ∷ ks) = record { path = n.path; leaf = n.leaf; pin = n.pin; net = k } ∷ with_numbers ns ks

labels_are : (ns : List NamedPin) (ks : List ℕ) → length ks ≡ length ns → map label_of_row (with_numbers ns ks) ≡ map label_of_named ns
labels_are [] ks e = refl
labels_are (n ∷ ns) [] e = absurd (omega (arith, e))
labels_are (n ∷ ns) (k ∷ ks) e = ap (λ l. label_of_named n ∷ l) (labels_are ns ks (omega (arith, e)))

numbers_are : (ns : List NamedPin) (ks : List ℕ) → length ks ≡ length ns → map (λ (r : RowPin). r.net) (with_numbers ns ks) ≡ ks
numbers_are [] [] e = refl
numbers_are [] (k ∷ ks) e = absurd (omega (arith, e))
numbers_are (n ∷ ns) [] e = absurd (omega (arith, e))
numbers_are (n ∷ ns) (k ∷ ks) e = ap (λ (l : List ℕ). k ∷ l) (numbers_are ns ks (omega (arith, e)))

pub record SomeRows (named : List NamedPin) : Type 0 where
  pub rows : List RowPin
  pub numbered : AreNumberedRows named rows

some_rows : (named : List NamedPin) → ((j k : ℕ) → net_key (net_at named j) ≡ net_key (net_at named k) → net_at named j ≡ net_at named k) → SomeRows named
some_rows named tell =
    let n = number_all (map (λ (q : NamedPin). net_key q.net) named) in
    let sized = length-map named (λ (q : NamedPin). net_key q.net) in
    let long : length n.numbers ≡ length named = n.is.sized ∙ sized in
    let are = numbers_are named n.numbers long in
    let inside = λ (k : ℕ) (lt : k < length named). subst (λ (m : ℕ). k < m) (sym sized) lt in
    let number_at = λ (k : ℕ). ap (λ (l : List ℕ). get_or l k 0) are in
    record {
      rows = with_numbers named n.numbers;
      numbered = record {
        labels = labels_are named n.numbers long;
        one = λ j k lj lk.
            let first = n.is.each j (inside j lj) in
            let second = n.is.each k (inside k lk) in
            let key_j = key_at named j in
            let key_k = key_at named k in (
              λ e. tell j k (sym key_j ∙ sym first.1 ∙ ap (λ (m : ℕ). get_or n.table m []) (sym (number_at j) ∙ e ∙ number_at k) ∙ second.1 ∙ key_k),
              λ e. number_at j
                  ∙ n.is.once (get_or n.numbers j 0) (get_or n.numbers k 0) first.0 second.0 (first.1 ∙ key_j ∙ ap net_key e ∙ sym key_k ∙ sym second.1)
                  ∙ sym (number_at k),
            );
        first = λ k smaller lt less.
            subst (λ (l : List ℕ). HasBefore l k smaller) (sym are) (n.is.first k smaller (inside k lt) (subst (λ (l : List ℕ). smaller < get_or l k 0) are less));
      };
    }

-- those of a deck, whose keys tell nets
pub deck_rows : (subckts : List Subckt) (top : List ℕ) (leaves : List (List ℕ)) (index : ℕ) → SomeRows (named_rows (resolved_subckts subckts top leaves) index)
deck_rows subckts top leaves index =
    some_rows (named_rows (resolved_subckts subckts top leaves) index) (λ j k e. keys_tell (resolved_subckts subckts top leaves) index j k (resolved_low subckts top leaves) e)
