-- Paths among nodes are chains among the names, and the other way round.
use Rattle.std.proofs.Common.{◌≡◌, ◌⊎◌, inl, inr, ℕ, suc, ℤ, ◌<◌, Bool, true, false, cond, List, [], ◌∷◌, length, get_or, Option, Some, None, refl, sym, ap, subst, ◌∙◌, arith}
use Rattle.std.proofs.lemmas.Int.{ints}
use Rattle.std.specs.Prelude.{Contains}
use Rattle.std.specs.List.{AllByRecursion, cons_option}
use Rattle.std.specs.Str.{bytes_eq}
use Rattle.std.proofs.lemmas.Bool.{cases_lt}
use Rattle.std.proofs.lemmas.Option.{none-some, same_Some}
use Rattle.std.proofs.lemmas.List.{get_or_past}
use Rattle.or_geom.specs.declared.shape.Point.{Point}
use Rattle.or_geom.specs.declared.place.Place.{Place}
use Rattle.or_geom.proofs.ListLaws.{contains_none, contains_cases, contains_option, contains_map}
use Rattle.reference_graph.specs.Reaches.{AreWithin, IsPath}
use Rattle.gds_library.specs.declared.library.Element.{Element}
use Rattle.gds_library.specs.declared.library.Element.TheVariants.{Boundary, Path, Sref, Aref, Text}
use Rattle.gds_library.specs.declared.library.Structure.{Structure}
use Rattle.gds_library.specs.Writable.{IsWritableElement, IsWritableCell, IsWritableArray}
use Rattle.cell_chains.specs.Instances.{Item, HasItem, IsArrayItem, reference_name, array_name, item_place}
use Rattle.cell_chains.specs.Chains.{elements_of, IsItemFrom, IsItemOf, IsChain}
use Rattle.cell_chains.specs.Hierarchy.{referred_name}
use Rattle.cell_chains.specs.Numbering.{name_at, referred_names, IsGraph}
use Rattle.cell_chains.proofs.MemberLaws.{image_from}
use Rattle.cell_chains.proofs.TargetLaws.{one_referred}

-- an item that leads to a structure of this name
pub record HasItemTo (P : Item → Type 0) (name : List ℕ) : Type 0 where
  pub item : Item
  pub stands : P item
  pub to : item.cell ≡ name

-- an array has one column and one row at least
first_item : (n : ℕ) (name : List ℕ) (place : Place) (columns rows : ℤ) (across down : Point) → IsWritableArray place columns rows across down → HasItemTo (IsArrayItem n name place columns rows across down) name
first_item n name place columns rows across down w = record {
  item = record { name = array_name n 0 0; cell = name; place = item_place place 0 0 across down };
  stands = record { column = 0; row = 0; in_columns = omega (arith, ints, w.some_columns); in_rows = omega (arith, ints, w.some_rows); named = refl; cell = refl; placed = refl };
  to = refl;
}

-- an element that refers to a structure stands for an item of it
item_of_element : (n : ℕ) (e : Element) (name : List ℕ) → IsWritableElement e → referred_name e ≡ Some name → HasItemTo (HasItem n e) name
item_of_element n (Boundary layer datatype points props) name w is = absurd (none-some name is)
item_of_element n (Path layer datatype kind width points props) name w is = absurd (none-some name is)
item_of_element n (Sref of place props) name w is = record {
  item = record { name = reference_name n props; cell = of; place = place };
  stands = record { named = refl; cell = refl; placed = refl };
  to = same_Some of name is;
}
item_of_element n (Aref of place columns rows across down props) name w is =
    let f = first_item n of place columns rows across down w.body.1 in
    record { item = f.item; stands = f.stands; to = f.to ∙ same_Some of name is }
item_of_element n (Text layer texttype at string props) name w is = absurd (none-some name is)

named_by : (o : Option (List ℕ)) (name : List ℕ) (more : List (List ℕ)) → Contains (cons_option o more) name → (o ≡ Some name) ⊎ Contains more name
named_by None name more h = inr h
named_by (Some n) name more h = elim (contains_cases n more name h) [ inl e ↦ inl (ap (λ (m : List ℕ). Some m) (sym e)) | inr later ↦ inr later ]

item_among : (n : ℕ) (es : List Element) (name : List ℕ) → AllByRecursion IsWritableElement es → Contains (referred_names es) name → HasItemTo (IsItemFrom n es) name
item_among n [] name w h = absurd (contains_none name h)
item_among n (e ∷ es) name w h = elim (named_by (referred_name e) name (referred_names es) h) [
  | inl here ↦ let i = item_of_element n e name w.0 here in record { item = i.item; stands = inl i.stands; to = i.to }
  | inr later ↦ let i = item_among (suc n) es name w.1 later in record { item = i.item; stands = inr i.stands; to = i.to }
]

writable_by : (b : Bool) (s : Structure) (ss : List Structure) (name : List ℕ) → IsWritableCell s → AllByRecursion IsWritableElement (elements_of ss name) → AllByRecursion IsWritableElement (cond b s.elements (elements_of ss name))
writable_by true s ss name w below = w.elements
writable_by false s ss name w below = below

pub writable_elements : (structs : List Structure) (name : List ℕ) → AllByRecursion IsWritableCell structs → AllByRecursion IsWritableElement (elements_of structs name)
writable_elements [] name w = tt
writable_elements (s ∷ ss) name w = writable_by (bytes_eq s.name name) s ss name w.0 (writable_elements ss name w.1)

-- a name to which a structure refers is that of an item
pub item_from : (structs : List Structure) (from name : List ℕ) → AllByRecursion IsWritableCell structs → Contains (referred_names (elements_of structs from)) name → HasItemTo (IsItemOf structs from) name
item_from structs from name w h = item_among 0 (elements_of structs from) name (writable_elements structs from w) h

-- an element that stands for an item refers to its structure
pub refers_for : (n : ℕ) (e : Element) (item : Item) → HasItem n e item → referred_name e ≡ Some item.cell
refers_for n (Boundary layer datatype points props) item h = absurd h
refers_for n (Path layer datatype kind width points props) item h = absurd h
refers_for n (Sref name place props) item h = ap (λ (m : List ℕ). Some m) (sym h.cell)
refers_for n (Aref name place columns rows across down props) item h = ap (λ (m : List ℕ). Some m) (sym h.cell)
refers_for n (Text layer texttype at string props) item h = absurd h

-- an item leads to a name to which the elements refer
pub refers_from : (n : ℕ) (es : List Element) (item : Item) → IsItemFrom n es item → Contains (referred_names es) item.cell
refers_from n [] item h = absurd h
refers_from n (e ∷ es) item h = elim h [
  | inl here ↦ one_referred (referred_name e) item.cell (referred_names es) (refers_for n e item here)
  | inr later ↦ contains_option (referred_name e) (referred_names es) item.cell (refers_from (suc n) es item later)
]

pub graph_within : (structs : List Structure) (names : List (List ℕ)) (graph : List (List ℕ)) → IsGraph structs names graph → AreWithin graph
graph_within structs names graph g node to refers = elim (cases_lt node (length graph)) [
  | inl lt ↦ let h = (g.each node (omega (arith, g.sized))).within to refers in omega (arith, h, g.sized)
  | inr past ↦ absurd (contains_none to (subst (λ (xs : List ℕ). Contains xs to) (get_or_past graph node [] past) refers))
]

-- the chain along a path
pub record HasChain (structs : List Structure) (from to : List ℕ) (count : ℕ) : Type 0 where
  pub chain : List Item
  pub leads : IsChain structs from chain to
  pub long : length chain ≡ count

pub chain_along : (structs : List Structure) (names : List (List ℕ)) (graph : List (List ℕ)) → AllByRecursion IsWritableCell structs → IsGraph structs names graph → (from to : ℕ) (path : List ℕ) → from < length names → IsPath graph from path to
    → HasChain structs (name_at names from) (name_at names to) (length path)
chain_along structs names graph w g from to [] lt leads = record { chain = []; leads = ap (name_at names) leads; long = refl }
chain_along structs names graph w g from to (next ∷ rest) lt leads =
    let r = g.each from lt in
    let named : Contains (referred_names (elements_of structs (name_at names from))) (name_at names next) =
    subst (λ (ns : List (List ℕ)). Contains ns (name_at names next)) r.named (contains_map (name_at names) (get_or graph from []) next leads.0) in
    let i = item_from structs (name_at names from) (name_at names next) w named in
    let c = chain_along structs names graph w g next to rest (r.within next leads.0) leads.1 in
    record {
      chain = i.item ∷ c.chain;
      leads = (i.stands, subst (λ (n : List ℕ). IsChain structs n c.chain (name_at names to)) (sym i.to) c.leads);
      long = ap suc c.long;
    }

-- the path along a chain
pub record HasPath (names : List (List ℕ)) (graph : List (List ℕ)) (from : ℕ) (name : List ℕ) (count : ℕ) : Type 0 where
  pub to : ℕ
  pub path : List ℕ
  pub leads : IsPath graph from path to
  pub within : to < length names
  pub named : name_at names to ≡ name
  pub long : length path ≡ count

pub path_along : (structs : List Structure) (names : List (List ℕ)) (graph : List (List ℕ)) → IsGraph structs names graph → (from : ℕ) (name : List ℕ) (chain : List Item) → from < length names → IsChain structs (name_at names from) chain name
    → HasPath names graph from name (length chain)
path_along structs names graph g from name [] lt leads = record { to = from; path = []; leads = refl; within = lt; named = sym leads; long = refl }
path_along structs names graph g from name (item ∷ items) lt leads =
    let r = g.each from lt in
    let refers = refers_from 0 (elements_of structs (name_at names from)) item leads.0 in
    let i = image_from (name_at names) (get_or graph from []) item.cell (subst (λ (ns : List (List ℕ)). Contains ns item.cell) (sym r.named) refers) in
    let p = path_along structs names graph g i.item name items (r.within i.item i.stands) (subst (λ (n : List ℕ). IsChain structs n items name) (sym i.is) leads.1) in
    record { to = p.to; path = i.item ∷ p.path; leads = (i.stands, p.leads); within = p.within; named = p.named; long = ap suc p.long }
