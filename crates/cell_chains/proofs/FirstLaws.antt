-- The first structure of each name.
use Rattle.std.proofs.Common.{◌≡◌, inl, inr, ℕ, zero, suc, ◌+◌, ◌<◌, Bool, true, false, cond, List, [], ◌∷◌, ◌++◌, length, get_or, set, take, Option, Some, None, refl, sym, ap, subst, ◌∙◌, arith}
use Rattle.std.specs.Prelude.{Contains, slice_get, is_some, IfSome}
use Rattle.std.specs.Str.{bytes_eq}
use Rattle.std.proofs.lemmas.Bool.{cases_eq}
use Rattle.std.proofs.lemmas.Option.{none-some, same_Some, get_or_from_slice_get}
use Rattle.std.proofs.lemmas.List.{get_or_default, take_more, length-take-le, get_or-set_same, get_or-set_other, length-set}
use Rattle.std.proofs.lemmas.List.Elements.{Contains-get_or}
use Rattle.std.proofs.lemmas.Slice.Eq.{bytes_eq-Decides}
use Rattle.or_geom.proofs.ListLaws.{none_is}
use Rattle.or_geom.proofs.NameLaws.{other_name}
use Rattle.gds_library.specs.declared.library.Structure.{Structure}
use Rattle.cell_chains.specs.Chains.{elements_of, IsThere}
use Rattle.cell_chains.specs.Numbering.{name_at, Rises, IsNodeNamed, first_from, AreFirsts}
use Rattle.cell_chains.proofs.NameLaws.{one_node}

-- the first structure of a name, where places are counted from n
pub record HasFirst (n : ℕ) (structs : List Structure) (name : List ℕ) (found : ℕ) : Type 0 where
  pub place : ℕ
  pub is : found ≡ n + place
  pub within : place < length structs
  pub structure : Structure
  pub stands : slice_get structs place ≡ Some structure
  pub named : structure.name ≡ name
  pub first : elements_of structs name ≡ structure.elements

first_by : (b : Bool) (n : ℕ) (s : Structure) (ss : List Structure) (name : List ℕ) (found : ℕ) → bytes_eq s.name name ≡ b → (first_from (suc n) ss name ≡ Some found → HasFirst (suc n) ss name found)
    → cond b (Some n) (first_from (suc n) ss name) ≡ Some found → HasFirst n (s ∷ ss) name found
first_by true n s ss name found test below is = record {
  place = 0;
  is = let e : n ≡ found = same_Some n found is in omega arith;
  within = omega arith;
  structure = s;
  stands = refl;
  named = (bytes_eq-Decides s.name name).0 test;
  first = ap (λ b. cond b s.elements (elements_of ss name)) test;
}
first_by false n s ss name found test below is =
    let h = below is in
    record {
      place = suc h.place;
      is = omega (arith, h.is);
      within = omega (arith, h.within);
      structure = h.structure;
      stands = h.stands;
      named = h.named;
      first = ap (λ b. cond b s.elements (elements_of ss name)) test ∙ h.first;
    }

pub has_first : (n : ℕ) (structs : List Structure) (name : List ℕ) (found : ℕ) → first_from n structs name ≡ Some found → HasFirst n structs name found
has_first n [] name found is = absurd (none-some found is)
has_first n (s ∷ ss) name found is = first_by (bytes_eq s.name name) n s ss name found refl (has_first (suc n) ss name found) is

-- a name without a structure
pub record HasNone (structs : List Structure) (name : List ℕ) : Type 0 where
  pub missing : IsThere structs name → ⊥
  pub none : elements_of structs name ≡ []

none_by : (b : Bool) (n : ℕ) (s : Structure) (ss : List Structure) (name : List ℕ) → bytes_eq s.name name ≡ b → (first_from (suc n) ss name ≡ None → HasNone ss name)
    → cond b (Some n) (first_from (suc n) ss name) ≡ None → HasNone (s ∷ ss) name
none_by true n s ss name test below is = absurd (none-some n (sym is))
none_by false n s ss name test below is =
    let h = below is in
    record {
      missing = λ there. elim there [
        | inl e ↦ let clash : true ≡ false = sym ((bytes_eq-Decides s.name name).1 e) ∙ test in absurd cc
        | inr later ↦ h.missing later
      ];
      none = ap (λ b. cond b s.elements (elements_of ss name)) test ∙ h.none;
    }

pub has_none : (n : ℕ) (structs : List Structure) (name : List ℕ) → first_from n structs name ≡ None → HasNone structs name
has_none n [] name is = record { missing = λ there. there; none = refl }
has_none n (s ∷ ss) name is = none_by (bytes_eq s.name name) n s ss name refl (has_none (suc n) ss name) is

-- a structure of another name at the end
push_other : (n : ℕ) (ss : List Structure) (s : Structure) (name : List ℕ) → bytes_eq s.name name ≡ false → first_from n (ss ++ s ∷ []) name ≡ first_from n ss name
push_other n [] s name test = ap (λ b. cond b (Some n) None) test
push_other n (t ∷ ss) s name test = ap (λ o. cond (bytes_eq t.name name) (Some n) o) (push_other (suc n) ss s name test)

known_by : (b : Bool) (n k : ℕ) (old new : Option ℕ) → (old ≡ Some k → new ≡ Some k) → cond b (Some n) old ≡ Some k → cond b (Some n) new ≡ Some k
known_by true n k old new below is = is
known_by false n k old new below is = below is

-- a structure at the end of a name that has one
push_known : (n : ℕ) (ss : List Structure) (s : Structure) (name : List ℕ) (k : ℕ) → first_from n ss name ≡ Some k → first_from n (ss ++ s ∷ []) name ≡ Some k
push_known n [] s name k is = absurd (none-some k is)
push_known n (t ∷ ss) s name k is =
    known_by (bytes_eq t.name name) n k (first_from (suc n) ss name) (first_from (suc n) (ss ++ s ∷ []) name) (push_known (suc n) ss s name k) is

new_by : (b : Bool) (n k : ℕ) (old new : Option ℕ) → (old ≡ None → new ≡ Some k) → cond b (Some n) old ≡ None → cond b (Some n) new ≡ Some k
new_by true n k old new below is = absurd (none-some n (sym is))
new_by false n k old new below is = below is

-- a structure at the end of a name that had none
push_new : (n : ℕ) (ss : List Structure) (s : Structure) (name : List ℕ) → s.name ≡ name → first_from n ss name ≡ None → first_from n (ss ++ s ∷ []) name ≡ Some (n + length ss)
push_new n [] s name named is = ap (λ b. cond b (Some n) None) ((bytes_eq-Decides s.name name).1 named) ∙ (let e : n ≡ n + 0 = omega arith in ap (λ (k : ℕ). Some k) e)
push_new n (t ∷ ss) s name named is =
    let e : suc n + length ss ≡ n + suc (length ss) = omega arith in
    new_by (bytes_eq t.name name) n (n + suc (length ss)) (first_from (suc n) ss name) (first_from (suc n) (ss ++ s ∷ []) name) (λ none. push_new (suc n) ss s name named none ∙ ap (λ (k : ℕ). Some k) e) is

-- one structure more, whose name isn't among the names
pub firsts_pass : (structs : List Structure) (names : List (List ℕ)) (firsts : List (Option ℕ)) (i : ℕ) (d : Structure) (name : List ℕ) → i < length structs → name ≡ (get_or structs i d).name → (Contains names name → ⊥)
    → AreFirsts (take i structs) names firsts → AreFirsts (take (i + 1) structs) names firsts
firsts_pass structs names firsts i d name lt is none f =
    let s = get_or structs i d in
    rw (take_more structs i d lt)
    (record {
      sized = f.sized;
      each = λ node below. f.each node below
          ∙ sym (push_other 0 (take i structs) s (name_at names node) (other_name s.name (name_at names node) (λ e. none (subst (Contains names) (sym (is ∙ e)) (Contains-get_or names node [] below)))));
    })

other_node : (names : List (List ℕ)) (s : Structure) (name : List ℕ) (node k : ℕ) → Rises names → name ≡ s.name → IsNodeNamed names name node → k < length names → (k ≡ node → ⊥) → bytes_eq s.name (name_at names k) ≡ false
other_node names s name node k rises is here lt other = other_name s.name (name_at names k) (λ e. other (sym (one_node names node k rises here.within lt (here.named ∙ (is ∙ e)))))

-- whether there is a first structure yet
pub is_seen : (firsts : List (Option ℕ)) (node : ℕ) (read : Option ℕ) (b : Bool) → node < length firsts → read ≡ get_or firsts node read → b ≡ is_some read → b ≡ is_some (get_or firsts node None)
is_seen firsts node read b lt is e = e ∙ ap is_some (is ∙ get_or_default firsts node read None lt)

-- the value in an option that has one
some_in : (o : Option ℕ) → true ≡ is_some o → (k : ℕ) × (o ≡ Some k)
some_in None e = absurd cc
some_in (Some k) e = (k, refl)

-- one structure more, of a name that has one
pub firsts_keep : (structs : List Structure) (names : List (List ℕ)) (firsts : List (Option ℕ)) (i : ℕ) (d : Structure) (name : List ℕ) (node : ℕ) → i < length structs → name ≡ (get_or structs i d).name → Rises names
    → IsNodeNamed names name node → true ≡ is_some (get_or firsts node None) → AreFirsts (take i structs) names firsts → AreFirsts (take (i + 1) structs) names firsts
firsts_keep structs names firsts i d name node lt is rises here seen f =
    let s = get_or structs i d in
    let known = some_in (get_or firsts node None) seen in
    rw (take_more structs i d lt)
    (record {
      sized = f.sized;
      each = λ other below. elim (cases_eq other node) [
        | inl e ↦
            let old : get_or firsts other None ≡ Some known.0 = ap (λ (m : ℕ). get_or firsts m None) e ∙ known.1 in
            old ∙ sym (push_known 0 (take i structs) s (name_at names other) known.0 (sym (f.each other below) ∙ old))
        | inr ne ↦ f.each other below ∙ sym (push_other 0 (take i structs) s (name_at names other) (other_node names s name node other rises is here below ne))
      ];
    })

-- one structure more, the first of its name
pub firsts_add : (structs : List Structure) (names : List (List ℕ)) (firsts : List (Option ℕ)) (i : ℕ) (d : Structure) (name : List ℕ) (node : ℕ) → i < length structs → name ≡ (get_or structs i d).name → Rises names
    → IsNodeNamed names name node → false ≡ is_some (get_or firsts node None) → AreFirsts (take i structs) names firsts → AreFirsts (take (i + 1) structs) names (set firsts node (Some i))
firsts_add structs names firsts i d name node lt is rises here unseen f =
    let s = get_or structs i d in
    rw (take_more structs i d lt)
    (record {
      sized = length-set firsts node (Some i) ∙ f.sized;
      each = λ other below. elim (cases_eq other node) [
        | inl e ↦
            let old : get_or firsts other None ≡ None = ap (λ (m : ℕ). get_or firsts m None) e ∙ none_is (get_or firsts node None) unseen in
            let named : s.name ≡ name_at names other = sym (here.named ∙ is) ∙ ap (name_at names) (sym e) in
            let size : 0 + length (take i structs) ≡ i = (let e : length (take i structs) ≡ i = length-take-le i structs (omega arith) in omega arith) in
            let inside : other < length firsts = omega (arith, f.sized) in
            (rw (sym e) (get_or-set_same firsts other (Some i) None inside))
            ∙ (ap (λ (k : ℕ). Some k) (sym size) ∙ sym (push_new 0 (take i structs) s (name_at names other) named (sym (f.each other below) ∙ old)))
        | inr ne ↦ get_or-set_other firsts node other (Some i) None ne
            ∙ (f.each other below ∙ sym (push_other 0 (take i structs) s (name_at names other) (other_node names s name node other rises is here below ne)))
      ];
    })

-- what stands at the place of the first structure of a name has its elements
pub read_first : (structs : List Structure) (name : List ℕ) (place : ℕ) (d : Structure) → first_from 0 structs name ≡ Some place → (get_or structs place d).elements ≡ elements_of structs name
read_first structs name place d is =
    let h = has_first 0 structs name place is in
    let e : h.place ≡ place = omega (arith, h.is) in
    let same : get_or structs place d ≡ h.structure = get_or_from_slice_get structs place h.structure d (subst (λ (k : ℕ). slice_get structs k ≡ Some h.structure) e h.stands) in
    ap (λ (t : Structure). t.elements) same ∙ sym h.first

pub first_within : (structs : List Structure) (name : List ℕ) (first : Option ℕ) → first ≡ first_from 0 structs name → IfSome first (λ place. place < length structs)
first_within structs name None is = tt
first_within structs name (Some place) is = let h = has_first 0 structs name place (sym is) in omega (arith, h.is, h.within)

-- what was read for a node is the place of the first structure of its name
pub first_read : (structs : List Structure) (names : List (List ℕ)) (firsts : List (Option ℕ)) (node : ℕ) (read : Option ℕ) → AreFirsts structs names firsts → node < length names → read ≡ get_or firsts node read → read ≡ first_from 0 structs (name_at names node)
first_read structs names firsts node read f lt is =
    let inside : node < length firsts = omega (arith, f.sized) in
    is ∙ (get_or_default firsts node read None inside ∙ f.each node lt)

there_at : (structs : List Structure) (name : List ℕ) (place : ℕ) (s : Structure) → slice_get structs place ≡ Some s → s.name ≡ name → IsThere structs name
there_at [] name place s stands named = absurd (none-some s stands)
there_at (t ∷ ss) name zero s stands named = inl (ap (λ (u : Structure). u.name) (same_Some t s stands) ∙ named)
there_at (t ∷ ss) name (suc place) s stands named = inr (there_at ss name place s stands named)

none_by_missing : (o : Option ℕ) (structs : List Structure) (name : List ℕ) → first_from 0 structs name ≡ o → (IsThere structs name → ⊥) → o ≡ None
none_by_missing None structs name is missing = refl
none_by_missing (Some k) structs name is missing = let h = has_first 0 structs name k is in absurd (missing (there_at structs name h.place h.structure h.stands h.named))

-- a name that no structure has
pub missing_none : (structs : List Structure) (name : List ℕ) → (IsThere structs name → ⊥) → first_from 0 structs name ≡ None
missing_none structs name missing = none_by_missing (first_from 0 structs name) structs name refl missing
